-- Forms, values and own words, as they are written, are read again.
use Rattle.std.proofs.Common.{◌≡◌, ℕ, ◌+◌, ◌-◌, ◌^◌, ◌<◌, ◌≤◌, Bool, true, false, List, [], ◌∷◌, ◌++◌, length, map, replicate, Some, None, Result, Ok, refl}
use Rattle.std.proofs.Common.{sym, ap, subst, ◌∙◌, append_assoc, length-append, arith}
use Rattle.std.specs.Prelude.{◌==◌, if◌then◌else◌, codes}
use Rattle.std.specs.List.{AllByRecursion, list_all, slice_split}
use Rattle.std.specs.Char.{is_digit}
use Rattle.std.specs.Str.{bytes_eq}
use Rattle.std.specs.Fmt.{decimal}
use Rattle.std.proofs.lemmas.Bool.{lt-ltb, le-ltb, le-leb, ne_eqb, eqb-true, or_parts}
use Rattle.std.proofs.lemmas.List.{append-nil, length-replicate, replicate_more}
use Rattle.std.proofs.Math.Bool.{and-false}
use Rattle.std.proofs.lemmas.Slice.Eq.{bytes_eq-Decides}
use Rattle.texts.specs.{word_of, is_numeral, ◌>>=◌, before, after, is_byte, NonePass, pieces}
use Rattle.texts.specs.declared.pieces.Separators.TheVariants.{Byte}
use Rattle.texts.proofs.{none-append, before-none, after-none, before-stop, after-stop, split_none, split_stop, decimal_none, not_byte, not_low_byte, is_low}
use Rattle.texts.proofs.{Solid, decimal_solid}
use Rattle.queue_certificates.specs.{Form, linear, index_for, signed_for, ends_as, has_bits}
use Rattle.queue_certificates.specs.declared.own.OwnWord.{OwnWord}
use Rattle.certificate_reader.specs.declared.forms.Mark.{Mark}
use Rattle.certificate_reader.specs.declared.forms.Mark.TheVariants as mark
use Rattle.certificate_reader.specs.declared.faults.CertificateFault.{CertificateFault}
use Rattle.certificate_reader.specs.Faults.{or_bad_line}
use Rattle.certificate_reader.specs.Numbers.{count_of, round_of}
use Rattle.certificate_reader.specs.FormTexts.{multiple_of, with_factor, factors_after, form_from, form_of, marked_of, linear_of, marked_value, marked_numbers}
use Rattle.certificate_reader.specs.FormTexts.{mask_and_bits, bits_value, known_value_in}
use Rattle.certificate_reader.specs.Lists.{is_own_width, own_word_of, own_words_in, forms_in}
use Rattle.certificate_reader.specs.Writing.{is_written, first_if, multiple_text, multiples, parts_of, parts_text, form_text, own_word_text}
use Rattle.certificate_reader.specs.Written.{FitsCount, FitsForm, FitsOwn}
use Rattle.certificate_reader.proofs.NumbersAgain.{word_again, count_again, each_again}

-- ---- bytes

-- a byte that passes is no digit
abbrev pub NoDigit : (ℕ → Bool) → Type 0
NoDigit p = (d : ℕ) → d < 10 → p (48 + d) ≡ false

pub decimal_bytes : (p : ℕ → Bool) → NoDigit p → (n : ℕ) → n ≤ 2 ^ 32 → NonePass p (decimal n)
decimal_bytes p digits n small = decimal_none p digits n (omega arith)

all_if : (P : List ℕ → Type 0) (b : Bool) (part : List ℕ) (parts : List (List ℕ)) → P part → AllByRecursion P parts → AllByRecursion P (first_if b part parts)
all_if P true part parts one all = (one, all)
all_if P false part parts one all = all

multiple_bytes : (p : ℕ → Bool) → NoDigit p → p 42 ≡ false → (m j : ℕ) → m ≤ 2 ^ 32 → j ≤ 2 ^ 32 → NonePass p (multiple_text m j)
multiple_bytes p digits star m j m_small j_small =
    none-append p (decimal m) (42 ∷ decimal j) (decimal_bytes p digits m m_small) (star, decimal_bytes p digits j j_small)

multiples_bytes : (p : ℕ → Bool) → NoDigit p → p 42 ≡ false → (j : ℕ) (ms : List ℕ) → AllByRecursion FitsCount ms → j + length ms ≤ 2 ^ 32
    → AllByRecursion (NonePass p) (multiples j ms)
multiples_bytes p digits star j [] all few = tt
multiples_bytes p digits star j (m ∷ ms) all few = all_if (NonePass p) (is_written m (length ms)) (multiple_text m j) (multiples (j + 1) ms)
    (multiple_bytes p digits star m j all.0 (omega arith)) (multiples_bytes p digits star (j + 1) ms all.1 (omega arith))

pub parts_bytes : (p : ℕ → Bool) → NoDigit p → p 42 ≡ false → (n : ℕ) (f : Form) → n ≤ 2 ^ 32 → FitsForm n f → AllByRecursion (NonePass p) (parts_of f)
parts_bytes p digits star n f small fits = all_if (NonePass p) (is_written f.constant (length f.factors)) (decimal f.constant) (multiples 0 f.factors)
    (decimal_bytes p digits f.constant fits.constant) (multiples_bytes p digits star 0 f.factors fits.factors (omega (arith, fits.few)))

joined_bytes : (p : ℕ → Bool) → p 43 ≡ false → (follows : Bool) (parts : List (List ℕ))
    → AllByRecursion (NonePass p) parts → NonePass p (parts_text follows parts)
joined_bytes p plus true [] all = tt
joined_bytes p plus true (part ∷ parts) all = none-append p (43 ∷ part) (parts_text true parts) (plus, all.0) (joined_bytes p plus true parts all.1)
joined_bytes p plus false [] all = tt
joined_bytes p plus false (part ∷ parts) all = none-append p part (parts_text true parts) all.0 (joined_bytes p plus true parts all.1)

pub form_bytes : (p : ℕ → Bool) → NoDigit p → p 42 ≡ false → p 43 ≡ false → (n : ℕ) (f : Form) → n ≤ 2 ^ 32 → FitsForm n f → NonePass p (form_text f)
form_bytes p digits star plus n f small fits = joined_bytes p plus false (parts_of f) (parts_bytes p digits star n f small fits)

-- ---- multiples

multiple_again : (m j : ℕ) → m ≤ 2 ^ 32 → j < 2 ^ 32 → multiple_of (multiple_text m j) ≡ Some (m, j)
unfolding multiple_of
multiple_again m j m_small j_small =
    let none = decimal_bytes (is_byte 42) (λ d lt. not_low_byte 42 d (omega arith)) m m_small in
    rw (
      after-stop (is_byte 42) (decimal m) 42 (decimal j) none refl,
      before-stop (is_byte 42) (decimal m) 42 (decimal j) none refl,
      count_again m m_small,
      word_again j j_small,
    ) refl

star_no_digit : (xs ys : List ℕ) → list_all (λ c. is_digit c 10) (xs ++ 42 ∷ ys) ≡ false
star_no_digit [] ys = refl
star_no_digit (x ∷ xs) ys = rw (star_no_digit xs ys) (and-false (is_digit x 10))

star_no_numeral : (xs ys : List ℕ) → is_numeral 10 (xs ++ 42 ∷ ys) ≡ false
star_no_numeral [] ys = refl
star_no_numeral (x ∷ xs) ys = star_no_digit (x ∷ xs) ys

star_no_round : (xs ys : List ℕ) → round_of (xs ++ 42 ∷ ys) ≡ None
star_no_round xs ys = by_test (bytes_eq (xs ++ 42 ∷ ys) (codes "4294967296")) refl
  where
    by_test : (b : Bool) → bytes_eq (xs ++ 42 ∷ ys) (codes "4294967296") ≡ b → round_of (xs ++ 42 ∷ ys) ≡ None
    by_test true is =
        let same : xs ++ 42 ∷ ys ≡ codes "4294967296" = (bytes_eq-Decides (xs ++ 42 ∷ ys) (codes "4294967296")).0 is in
        let never : true ≡ false = subst (λ (text : List ℕ). is_numeral 10 text ≡ false) same (star_no_numeral xs ys) in absurd cc
    by_test false other = rw other refl

-- what has a `*` is no number alone
star_no_count : (xs ys : List ℕ) → count_of (xs ++ 42 ∷ ys) ≡ None
unfolding count_of word_of
star_no_count xs ys = rw (star_no_numeral xs ys, star_no_round xs ys) refl

multiples_no_count : (j : ℕ) (ms : List ℕ) → AllByRecursion (λ part. count_of part ≡ None) (multiples j ms)
multiples_no_count j [] = tt
multiples_no_count j (m ∷ ms) = all_if (λ part. count_of part ≡ None) (is_written m (length ms)) (multiple_text m j) (multiples (j + 1) ms)
    (star_no_count (decimal m) (decimal j)) (multiples_no_count (j + 1) ms)

-- the last one is always written
multiples_some : (j : ℕ) (ms : List ℕ) → 0 < length ms → 0 < length (multiples j ms)
multiples_some j [] some = some
multiples_some j (m ∷ []) some = rw (last_written m) (omega arith)
  where
    last_written : (n : ℕ) → is_written n 0 ≡ true
    last_written n = grind arith
multiples_some j (m ∷ k ∷ ms) some = by_test (is_written m (length (k ∷ ms))) (multiples_some (j + 1) (k ∷ ms) (omega arith))
  where
    by_test : (b : Bool) → 0 < length (multiples (j + 1) (k ∷ ms)) → 0 < length (first_if b (multiple_text m j) (multiples (j + 1) (k ∷ ms)))
    by_test true rest = omega arith
    by_test false rest = rest

factor_again : (n j m : ℕ) (before : List ℕ) → n ≤ 2 ^ 32 → length before ≤ j → j < n → m ≤ 2 ^ 32
    → with_factor n before (multiple_text m j) ≡ Ok (before ++ replicate (j - length before) 0 ++ m ∷ [])
unfolding with_factor
factor_again n j m before small place below count =
    rw (multiple_again m j count (omega arith), le-leb (length before) j place, lt-ltb j n below) refl

unwritten : (n after : ℕ) → is_written n after ≡ false → (n ≡ 0) × (0 < after)
unwritten n after e = grind (arith, or_parts, eqb-true, ne_eqb)

-- what the factors so far, a gap and the factors from variable j on are
abbrev joined_at : (j : ℕ) (before ms : List ℕ) → List ℕ
joined_at j before ms = before ++ replicate (j - length before) 0 ++ ms

factors_step : (n j m : ℕ) (before ms : List ℕ) → n ≤ 2 ^ 32 → length before ≤ j → j < n → m ≤ 2 ^ 32
    → ((more : List ℕ) → length more ≤ j + 1 → (length ms ≡ 0 → length more ≡ j + 1)
    → factors_after n more (multiples (j + 1) ms) ≡ Ok (joined_at (j + 1) more ms))
    → factors_after n before (multiples j (m ∷ ms)) ≡ Ok (joined_at j before (m ∷ ms))
unfolding factors_after
factors_step n j m before ms small place below count rest = by_test (is_written m (length ms)) refl
  where
    gap : List ℕ
    gap = replicate (j - length before) 0

    more : List ℕ
    more = before ++ gap ++ m ∷ []

    long : length more ≡ j + 1
    long = omega (arith, length-append (before ++ gap) (m ∷ []), length-append before gap, length-replicate {A = ℕ} (j - length before) 0)

    none : j + 1 - length more ≡ 0
    none = omega (arith, long)

    joins : more ++ [] ++ ms ≡ before ++ gap ++ m ∷ ms
    joins = simp (append-nil, append_assoc)

    gap_more : j + 1 - length before ≡ j - length before + 1
    gap_more = omega arith

    by_test : (b : Bool) → is_written m (length ms) ≡ b
        → factors_after n before (first_if b (multiple_text m j) (multiples (j + 1) ms)) ≡ Ok (joined_at j before (m ∷ ms))
    by_test true is = rw (factor_again n j m before small place below count)
        (rest more (omega (arith, long)) (λ e. long) ∙ ap (λ (xs : List ℕ). Ok xs) (rw none joins))
    by_test false is =
        let nothing = unwritten m (length ms) is in
        let at : m ≡ 0 = nothing.0 in
        rest before (omega arith) (λ e. absurd (omega (arith, nothing.1)))
        ∙ ap (λ (xs : List ℕ). Ok xs) (rw (gap_more, ← replicate_more {X = ℕ} (j - length before) 0, at) (simp append_assoc))

factors_again : (n j : ℕ) (before ms : List ℕ) → n ≤ 2 ^ 32 → length before ≤ j → j + length ms ≤ n → (length ms ≡ 0 → length before ≡ j)
    → AllByRecursion FitsCount ms → factors_after n before (multiples j ms) ≡ Ok (joined_at j before ms)
unfolding factors_after
factors_again n j before [] small place few last all =
    let none : j - length before ≡ 0 = omega (arith, last refl) in rw none (sym (ap (λ (xs : List ℕ). Ok xs) (simp append-nil)))
factors_again n j before (m ∷ ms) small place few last all = factors_step n j m before ms small place (omega arith) all.0
    (λ more le end. factors_again n (j + 1) more ms small le (omega arith) end all.1)

-- ---- forms

pieces_again : (first : List ℕ) (parts : List (List ℕ)) → NonePass (is_byte 43) first → AllByRecursion (NonePass (is_byte 43)) parts
    → slice_split (is_byte 43) (first ++ parts_text true parts) ≡ first ∷ parts
pieces_again first [] none all = rw (append-nil first) (split_none (is_byte 43) first none)
pieces_again first (part ∷ parts) none all =
    split_stop (is_byte 43) first 43 (part ++ parts_text true parts) none refl ∙ ap (λ (ps : List (List ℕ)). first ∷ ps) (pieces_again part parts all.0 all.1)

parts_again : (parts : List (List ℕ)) → 0 < length parts → AllByRecursion (NonePass (is_byte 43)) parts → pieces (Byte 43) (parts_text false parts) ≡ parts
parts_again [] some all = absurd (omega arith)
parts_again (part ∷ parts) some all = pieces_again part parts all.0 all.1

abbrev alone : List ℕ → Result Form CertificateFault
alone factors = Ok (record { constant = 0; factors = factors })

no_constant : (n : ℕ) (parts : List (List ℕ)) → 0 < length parts → AllByRecursion (λ part. count_of part ≡ None) parts
    → form_from n parts ≡ (factors_after n [] parts >>= alone)
no_constant n [] some all = absurd (omega arith)
no_constant n (part ∷ parts) some all = rw all.0 refl

pub form_again : (n : ℕ) (f : Form) → n ≤ 2 ^ 32 → FitsForm n f → form_of n (form_text f) ≡ Ok f
unfolding form_of
form_again n f small fits = rw (parts_again (parts_of f) (some (is_written f.constant (length f.factors)) refl)
    (parts_bytes (is_byte 43) (λ d lt. not_low_byte 43 d (omega arith)) refl n f small fits)) (by_test (is_written f.constant (length f.factors)) refl)
  where
    read : factors_after n [] (multiples 0 f.factors) ≡ Ok f.factors
    read = factors_again n 0 [] f.factors small (omega arith) (omega (arith, fits.few)) (λ e. refl) fits.factors

    some : (b : Bool) → is_written f.constant (length f.factors) ≡ b → 0 < length (first_if b (decimal f.constant) (multiples 0 f.factors))
    some true is = omega arith
    some false is = multiples_some 0 f.factors (unwritten f.constant (length f.factors) is).1

    by_test : (b : Bool) → is_written f.constant (length f.factors) ≡ b → form_from n (first_if b (decimal f.constant) (multiples 0 f.factors)) ≡ Ok f
    by_test true is = rw (count_again f.constant fits.constant, read) refl
    by_test false is =
        let nothing = unwritten f.constant (length f.factors) is in
        no_constant n (multiples 0 f.factors) (multiples_some 0 f.factors nothing.1) (multiples_no_count 0 f.factors)
        ∙ rw (read, ← nothing.0) refl

pub forms_again : (n : ℕ) (forms : List Form) → n ≤ 2 ^ 32 → AllByRecursion (FitsForm n) forms → forms_in n (map form_text forms) ≡ Ok forms
unfolding forms_in
forms_again n forms small all = each_again (form_of n) form_text (FitsForm n) (λ f fits. form_again n f small fits) forms all

some_text : (n : ℕ) (f : Form) (text : List ℕ) → form_of n text ≡ Ok f → 0 < length text
unfolding form_of factors_after with_factor multiple_of count_of word_of
some_text n f [] e = absurd cc
some_text n f (byte ∷ text) e = omega arith

-- a form's text has a byte, and no blank, line end or other low one
pub form_solid : (n : ℕ) (f : Form) → n ≤ 2 ^ 32 → FitsForm n f → Solid (form_text f)
form_solid n f small fits = (
  some_text n f (form_text f) (form_again n f small fits),
  form_bytes is_low (λ d lt. le-ltb (48 + d) 33 (omega arith)) refl refl n f small fits,
)

-- ---- values

not_marked : (N n : ℕ) (text : List ℕ) → 0 < length text → NonePass (is_byte 64) text → NonePass (is_byte 126) text → NonePass (is_byte 94) text
    → NonePass (is_byte 38) text → known_value_in N n text ≡ linear_of n text
unfolding known_value_in
not_marked N n [] some none other ends last = absurd (omega arith)
not_marked N n (byte ∷ text) some none other ends last = rw (none.0, other.0, ends.0, last.0) refl

pub linear_again : (N n : ℕ) (f : Form) → n ≤ 2 ^ 32 → FitsForm n f → known_value_in N n (form_text f) ≡ Ok (linear f)
unfolding linear_of
linear_again N n f small fits =
    not_marked N n (form_text f) (form_solid n f small fits).0 (form_bytes (is_byte 64) (λ d lt. not_byte 64 d (omega arith) lt) refl refl n f small fits)
    (form_bytes (is_byte 126) (λ d lt. not_byte 126 d (omega arith) lt) refl refl n f small fits)
    (form_bytes (is_byte 94) (λ d lt. not_byte 94 d (omega arith) lt) refl refl n f small fits)
    (form_bytes (is_byte 38) (λ d lt. not_low_byte 38 d (omega arith)) refl refl n f small fits)
    ∙ rw (form_again n f small fits) refl

-- what follows the mark
marked_again : (m : Mark) (N n i : ℕ) (f : Form) → n ≤ 2 ^ 32 → marked_numbers m N ≤ 2 ^ 32 → i < marked_numbers m N → FitsForm n f
    → marked_of m N n (decimal i ++ 58 ∷ form_text f) ≡ Ok (marked_value m i f)
unfolding marked_of
marked_again m N n i f small few below fits =
    let none = decimal_bytes (is_byte 58) (λ d lt. not_byte 58 d (omega arith) lt) i (omega arith) in
    rw (
      before-stop (is_byte 58) (decimal i) 58 (form_text f) none refl,
      after-stop (is_byte 58) (decimal i) 58 (form_text f) none refl,
      word_again i (omega arith),
      lt-ltb i (marked_numbers m N) below,
      form_again n f small fits,
    ) refl

pub index_again : (N n i : ℕ) (f : Form) → n ≤ 2 ^ 32 → N ≤ 2 ^ 32 → i < N → FitsForm n f
    → known_value_in N n (64 ∷ decimal i ++ 58 ∷ form_text f) ≡ Ok (index_for i f)
unfolding known_value_in
index_again N n i f small few below fits = marked_again mark.Index N n i f small few below fits

pub signed_again : (N n i : ℕ) (f : Form) → n ≤ 2 ^ 32 → N ≤ 2 ^ 32 → i < N → FitsForm n f
    → known_value_in N n (126 ∷ decimal i ++ 58 ∷ form_text f) ≡ Ok (signed_for i f)
unfolding known_value_in
signed_again N n i f small few below fits = marked_again mark.Signed N n i f small few below fits

pub ends_again : (N n b : ℕ) (f : Form) → n ≤ 2 ^ 32 → N ≤ 2 ^ 32 → b ≤ 32 → FitsForm n f
    → known_value_in N n (94 ∷ decimal b ++ 58 ∷ form_text f) ≡ Ok (ends_as b f)
unfolding known_value_in
ends_again N n b f small few below fits = marked_again mark.Ends N n b f small (omega arith) (omega (arith, below)) fits

pub bits_again : (N n m b : ℕ) → m < 2 ^ 32 → b < 2 ^ 32 → known_value_in N n (38 ∷ decimal m ++ 58 ∷ decimal b) ≡ Ok (has_bits m b)
unfolding known_value_in bits_value mask_and_bits
bits_again N n m b small fits =
    let none = decimal_bytes (is_byte 58) (λ d lt. not_byte 58 d (omega arith) lt) m (omega arith) in
    rw (
      before-stop (is_byte 58) (decimal m) 58 (decimal b) none refl,
      after-stop (is_byte 58) (decimal m) 58 (decimal b) none refl,
      word_again m small,
      word_again b fits,
    ) refl

-- ---- own words

width_small : (w : ℕ) → is_own_width w ≡ true → w < 2 ^ 32
width_small w is = grind (arith, eqb-true)

-- the text of an own word that has four bytes, or hasn't
abbrev text_by : Bool → OwnWord → List ℕ
text_by b o = decimal o.at ++ (if b then [] else 58 ∷ decimal o.width)

own_word_again : (o : OwnWord) → FitsOwn o → own_word_of (own_word_text o) ≡ Some o
unfolding own_word_of
own_word_again o fits = by_test (o.width == 4) refl
  where
    none : NonePass (is_byte 58) (decimal o.at)
    none = decimal_bytes (is_byte 58) (λ d lt. not_byte 58 d (omega arith) lt) o.at (omega (arith, fits.at))

    by_test : (b : Bool) → (o.width == 4) ≡ b → own_word_of (text_by b o) ≡ Some o
    by_test true is =
        let four : 4 ≡ o.width = sym (eqb-true o.width 4 is) in
        rw (
          append-nil (decimal o.at),
          before-none (is_byte 58) (decimal o.at) none,
          after-none (is_byte 58) (decimal o.at) none,
          word_again o.at fits.at,
          four,
        ) refl
    by_test false is = rw (
      before-stop (is_byte 58) (decimal o.at) 58 (decimal o.width) none refl,
      after-stop (is_byte 58) (decimal o.at) 58 (decimal o.width) none refl,
      word_again o.at fits.at,
      word_again o.width (width_small o.width fits.width),
      fits.width,
    ) refl

pub own_words_again : (own : List OwnWord) → AllByRecursion FitsOwn own → own_words_in (map own_word_text own) ≡ Ok own
unfolding own_words_in
own_words_again own all = each_again (λ word. or_bad_line (own_word_of word)) own_word_text FitsOwn (λ o fits. rw (own_word_again o fits) refl) own all

pub own_word_solid : (o : OwnWord) → FitsOwn o → Solid (own_word_text o)
own_word_solid o fits = by_test (o.width == 4)
  where
    at : Solid (decimal o.at)
    at = decimal_solid o.at (omega (arith, fits.at))

    by_test : (b : Bool) → Solid (text_by b o)
    by_test true = subst Solid (sym (append-nil (decimal o.at))) at
    by_test false =
        let width : Solid (decimal o.width) = decimal_solid o.width (omega (arith, width_small o.width fits.width)) in
        (omega (arith, length-append (decimal o.at) (58 ∷ decimal o.width)), none-append is_low (decimal o.at) (58 ∷ decimal o.width) at.1 (refl, width.1))
