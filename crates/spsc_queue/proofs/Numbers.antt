-- Lists of numbers by their places.
use Rattle.spsc_queue.proofs.Common.{ℕ, zero, suc, ◌+◌, ◌-◌, ◌<◌, ◌≤◌, ◌≡◌, List, [], ◌∷◌, ◌++◌, refl, sym, ◌∙◌, ap, arith, slice_index, ◌&&◌, Bool, true}
use Rattle.spsc_queue.proofs.Common.{false, nat_tests, Write, RingBuffer, IsWordIn, overlaps, IsWordAt}
use Rattle.queue_parties.specs.Positions.{numbers_from}
use Rattle.queue_parties.proofs.Records.{numbers-split}
use Rattle.spsc_queue.proofs.States.{firsts}

numbers-last : (R : ℕ → ℕ) (n : ℕ) → numbers_from R 0 (suc n) ≡ numbers_from R 0 n ++ R n ∷ []
unfolding numbers_from
numbers-last R n = grind (arith, numbers-split)

pub firsts-numbers : (L : ℕ → ℕ) (n : ℕ) → firsts L n ≡ numbers_from L 0 n
unfolding numbers_from
firsts-numbers L zero = refl
firsts-numbers L (suc n) = ap (λ xs. xs ++ L n ∷ []) (firsts-numbers L n) ∙ sym (numbers-last L n)

-- the first m, and those from there on up to n
pub firsts-on : (L : ℕ → ℕ) (m n : ℕ) → m ≤ n → firsts L m ++ numbers_from L m (n - m) ≡ firsts L n
firsts-on L m n le =
    let at : m ≡ 0 + m = omega arith in
    let all : m + (n - m) ≡ n = omega (arith, le) in
    ap (λ xs. xs ++ numbers_from L m (n - m)) (firsts-numbers L m) ∙ ap (λ k. numbers_from L 0 m ++ numbers_from L k (n - m)) at
    ∙ sym (numbers-split L 0 m (n - m)) ∙ ap (numbers_from L 0) all ∙ sym (firsts-numbers L n)

-- the same numbers at other places
pub numbers-moved : (R S : ℕ → ℕ) (k l n : ℕ) → ((i : ℕ) → i < n → R (k + i) ≡ S (l + i)) → numbers_from R k n ≡ numbers_from S l n
unfolding numbers_from
numbers-moved R S k l zero is = refl
numbers-moved R S k l (suc n) is =
    let here : k ≡ k + 0 = omega arith in
    let there : l + 0 ≡ l = omega arith in
    ap (λ x. x ∷ numbers_from R (k + 1) n) (ap R here ∙ is 0 (omega arith) ∙ ap S there)
    ∙ ap (λ xs. S l ∷ xs) (numbers-moved R S (k + 1) (l + 1) n (λ i below.
    let on : (k + 1) + i ≡ k + suc i = omega arith in
    let to : l + suc i ≡ (l + 1) + i = omega arith in
    ap R on ∙ is (suc i) (omega (arith, below)) ∙ ap S to))

pub numbers-at : (R : ℕ → ℕ) (k n : ℕ) (more : List ℕ) (j : ℕ) → j < n → slice_index (numbers_from R k n ++ more) j ≡ R (k + j)
unfolding numbers_from
numbers-at R k zero more j below = absurd (omega (arith, below))
numbers-at R k (suc n) more zero below = let here : k ≡ k + 0 = omega arith in ap R here
numbers-at R k (suc n) more (suc j) below =
    let on : (k + 1) + j ≡ k + suc j = omega arith in numbers-at R (k + 1) n more j (omega (arith, below)) ∙ ap R on

-- ---- two tests as one, and stores to words of the block

pub both : (p q : Bool) → (p && q) ≡ true → (p ≡ true) × (q ≡ true)
both true true is = (refl, refl)
both true false is = absurd (cc)
both false q is = absurd (cc)

-- a store to a word of the block is on it
pub word_overlaps : (r : RingBuffer) (w : Write) (a : ℕ) → IsWordIn r a → IsWordAt w a → overlaps r w ≡ true
word_overlaps r w a word is = grind (arith, nat_tests, word.above, word.below, is.place, is.width)
