-- Numbers and lists of them, as they are written, are read again.
use Rattle.std.proofs.Common.{◌≡◌, ℕ, ◌^◌, ◌<◌, ◌≤◌, Bool, true, false, List, [], ◌∷◌, map, Option, Some, None, Result, Ok, refl, sym, subst, ◌∙◌, inl, inr}
use Rattle.std.proofs.Common.{arith}
use Rattle.std.specs.Prelude.{codes}
use Rattle.std.specs.List.{AllByRecursion}
use Rattle.std.specs.Str.{bytes_eq}
use Rattle.std.specs.Fmt.{decimal, digits}
use Rattle.std.proofs.lemmas.Bool.{cases_lt, le-ltb}
use Rattle.std.proofs.lemmas.Fmt.{decimal_is_IsNumeral}
use Rattle.std.proofs.lemmas.Slice.Eq.{bytes_eq-Decides}
use Rattle.texts.specs.{word_of, each}
use Rattle.texts.proofs.{says_word, is_numeral-from_IsNumeral, decimal_says}
use Rattle.queue_certificates.specs.Certificates.{OpenedQueue}
use Rattle.certificate_reader.specs.Faults.{or_bad_line}
use Rattle.certificate_reader.specs.Numbers.{count_of, first_word_in, first_count_in, five_at, four_counts, only_word}
use Rattle.certificate_reader.specs.Lists.{counts_in, range_of, ranges_in}
use Rattle.certificate_reader.specs.Drafts.{queue_of}
use Rattle.certificate_reader.specs.Writing.{range_text, numbers_of}
use Rattle.certificate_reader.specs.Written.{FitsWord, FitsCount, FitsRange, FitsQueue}

pub word_again : (n : ℕ) → n < 2 ^ 32 → word_of (decimal n) ≡ Some n
word_again n small = let says = decimal_says n small in says_word (decimal n) n says.0 says.1

word_large : (n : ℕ) → 2 ^ 32 ≤ n → n < 2 ^ 64 → word_of (decimal n) ≡ None
unfolding word_of
word_large n large fits =
    let said = decimal_is_IsNumeral n fits in
    rw (is_numeral-from_IsNumeral 10 (decimal n) said.0, said.1, le-ltb n (2 ^ 32) large) refl

round_again : count_of (decimal 4294967296) ≡ Some 4294967296
unfolding count_of digits
round_again = rw (word_large 4294967296 (omega arith) (omega arith)) refl

pub count_again : (n : ℕ) → n ≤ 2 ^ 32 → count_of (decimal n) ≡ Some n
unfolding count_of
count_again n le = elim (cases_lt n (2 ^ 32)) [
  | inl lt ↦ rw (word_again n lt) refl
  | inr most ↦ (let e : 4294967296 ≡ n = omega arith in subst (λ (k : ℕ). count_of (decimal k) ≡ Some k) e round_again)
]

-- ---- in turn

pub first_word_again : (n : ℕ) (words : List (List ℕ)) → n < 2 ^ 32 → first_word_in (decimal n ∷ words) ≡ Ok (n, words)
unfolding first_word_in
first_word_again n words small = rw (word_again n small) refl

pub first_count_again : (n : ℕ) (words : List (List ℕ)) → n ≤ 2 ^ 32 → first_count_in (decimal n ∷ words) ≡ Ok (n, words)
unfolding first_count_in
first_count_again n words small = rw (count_again n small) refl

pub only_word_again : (n : ℕ) → n < 2 ^ 32 → only_word (decimal n ∷ []) ≡ Ok n
unfolding only_word
only_word_again n small = rw (first_word_again n [] small) refl

pub five_again : (a b c d e : ℕ) (words : List (List ℕ)) → AllByRecursion FitsWord (a ∷ b ∷ c ∷ d ∷ e ∷ [])
    → five_at (decimal a ∷ decimal b ∷ decimal c ∷ decimal d ∷ decimal e ∷ words) ≡ Ok ((a, b, c, d, e), words)
unfolding five_at
five_again a b c d e words all = rw (
  first_word_again a (decimal b ∷ decimal c ∷ decimal d ∷ decimal e ∷ words) all.0,
  first_word_again b (decimal c ∷ decimal d ∷ decimal e ∷ words) all.1.0,
  first_word_again c (decimal d ∷ decimal e ∷ words) all.1.1.0,
  first_word_again d (decimal e ∷ words) all.1.1.1.0,
  first_word_again e words all.1.1.1.1.0,
) refl

four_again : (a b c d : ℕ) → AllByRecursion FitsCount (a ∷ b ∷ c ∷ d ∷ []) → four_counts (decimal a ∷ decimal b ∷ decimal c ∷ decimal d ∷ []) ≡ Ok (a, b, c, d)
unfolding four_counts
four_again a b c d all = rw (
  first_count_again a (decimal b ∷ decimal c ∷ decimal d ∷ []) all.0,
  first_count_again b (decimal c ∷ decimal d ∷ []) all.1.0,
  first_count_again c (decimal d ∷ []) all.1.1.0,
  first_count_again d [] all.1.1.1.0,
) refl

-- a queue's line says nothing of its fields
pub queue_again : (o : OpenedQueue) → FitsQueue o → queue_of (map decimal (numbers_of o)) ≡ Ok (record o { fields = [] })
unfolding queue_of
queue_again o fits =
    let q = o.queue in
    let counts = decimal q.scale ∷ decimal q.offset ∷ decimal q.modulus ∷ decimal o.start ∷ [] in
    let slots = decimal q.slots ∷ decimal q.size ∷ decimal q.width ∷ decimal q.capacity ∷ decimal q.base ∷ counts in
    rw (
      five_again q.sender q.receiver q.head q.tail q.index_width slots fits.places,
      five_again q.slots q.size q.width q.capacity q.base counts fits.slots,
      four_again q.scale q.offset q.modulus o.start fits.counts,
    ) refl

-- ---- lists

-- where each word that is written is read again
pub each_again : {V F : Type 0} (read : List ℕ → Result V F) (write : V → List ℕ) (P : V → Type 0) → ((v : V) → P v → read (write v) ≡ Ok v)
    → (vs : List V) → AllByRecursion P vs → each read (map write vs) ≡ Ok vs
unfolding each
each_again read write P one [] all = refl
each_again read write P one (v ∷ vs) all = rw (one v all.0, each_again read write P one vs all.1) refl

pub counts_again : (ns : List ℕ) → AllByRecursion FitsCount ns → counts_in (map decimal ns) ≡ Ok ns
unfolding counts_in
counts_again ns all = each_again (λ word. or_bad_line (count_of word)) decimal FitsCount (λ n small. rw (count_again n small) refl) ns all

no_bound : count_of (codes "-") ≡ None
unfolding count_of word_of
no_bound = refl

range_again : (range : Option ℕ) → FitsRange range → range_of (range_text range) ≡ Some range
range_again None fits = refl
range_again (Some n) fits = by_test (bytes_eq (decimal n) (codes "-")) refl
  where
    by_test : (b : Bool) → bytes_eq (decimal n) (codes "-") ≡ b → range_of (decimal n) ≡ Some (Some n)
    by_test true is =
        let same : decimal n ≡ codes "-" = (bytes_eq-Decides (decimal n) (codes "-")).0 is in
        let none : None ≡ Some n = sym no_bound ∙ subst (λ (digits : List ℕ). count_of digits ≡ Some n) same (count_again n fits) in absurd cc
    by_test false other = rw (other, count_again n fits) refl

pub ranges_again : (ranges : List (Option ℕ)) → AllByRecursion FitsRange ranges → ranges_in (map range_text ranges) ≡ Ok ranges
unfolding ranges_in
ranges_again ranges all = each_again (λ word. or_bad_line (range_of word)) range_text FitsRange (λ r fits. rw (range_again r fits) refl) ranges all
