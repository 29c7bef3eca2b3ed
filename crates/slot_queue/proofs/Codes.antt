-- The words of an index and the counts that they stand for.
use Rattle.std.proofs.Common.{ℕ, ◌+◌, ◌-◌, ◌*◌, ◌/◌, ◌%◌, ◌^◌, ◌<◌, ◌≤◌, ◌≡◌, sym, ◌∙◌, ap, arith}
use Rattle.std.proofs.Math.Nat.{mod-lt, mod-mod, mod-le, mul-div_cancel_left}
use Rattle.std.proofs.lemmas.Nat.{mul-le}
use Rattle.queue_parties.proofs.Positions.{ahead, ahead-is, ahead-mod, ahead-stands}
use Rattle.slot_queue.specs.Queues.{Queue, IsQueue, index_word, least_count}

module _ (q : Queue) (is : IsQueue q) where
  some : 0 < q.modulus
  some = omega (arith, is.words)

  index_of : (j : ℕ) → (index_word q j - q.base) / q.scale ≡ (j + q.offset) % q.modulus
  index_of j = grind (arith, mul-div_cancel_left)

  least-ahead : (n j : ℕ) → least_count q n (index_word q j) ≡ n + ahead q.modulus (n + q.offset) ((j + q.offset) % q.modulus)
  least-ahead n j = ap (λ i. n + ahead q.modulus (n + q.offset) i) (index_of j)

  -- a count from n on, as so much more than n
  further : (n j : ℕ) → n ≤ j → ((n + q.offset) + (j - n)) % q.modulus ≡ (j + q.offset) % q.modulus
  further n j from = (let place : (n + q.offset) + (j - n) ≡ j + q.offset = omega (arith, from) in ap (λ x. x % q.modulus) place)

  pub least-near : (n j : ℕ) → n ≤ j → j < n + q.modulus → least_count q n (index_word q j) ≡ j
  least-near n j from below = least-ahead n j ∙ ap (λ x. n + ahead q.modulus (n + q.offset) x) (sym (further n j from))
      ∙ ap (λ x. n + x) (ahead-is q.modulus (n + q.offset) (j - n) (omega (arith, from, below))) ∙ (let place : n + (j - n) ≡ j = omega (arith, from) in place)

  -- one that the word stands for is no less than the least
  pub least-low : (n j : ℕ) → n ≤ j → least_count q n (index_word q j) ≤ j
  least-low n j from =
      let low : (j - n) % q.modulus ≤ j - n = mod-le (j - n) q.modulus in
      let at : least_count q n (index_word q j) ≡ n + (j - n) % q.modulus =
      least-ahead n j ∙ ap (λ x. n + ahead q.modulus (n + q.offset) x) (sym (further n j from))
      ∙ ap (λ x. n + x) (ahead-mod q.modulus (n + q.offset) (j - n) some) in
      omega (arith, at, low, from)

  -- whatever is found, the word stands for
  pub word-least : (n j : ℕ) → index_word q (least_count q n (index_word q j)) ≡ index_word q j
  word-least n j = ap (index_word q) (least-ahead n j)
      ∙ (let turned : (n + ahead q.modulus (n + q.offset) ((j + q.offset) % q.modulus)) + q.offset
      ≡ (n + q.offset) + ahead q.modulus (n + q.offset) ((j + q.offset) % q.modulus) = omega arith in
      ap (λ x. q.base + q.scale * (x % q.modulus)) turned)
      ∙ ap (λ x. q.base + q.scale * x) (ahead-stands q.modulus (n + q.offset) ((j + q.offset) % q.modulus) some ∙ mod-mod (j + q.offset) q.modulus)

  pub word-small : (n : ℕ) → index_word q n < 256 ^ q.index_width
  word-small n = grind (arith, mod-lt, mul-le)
