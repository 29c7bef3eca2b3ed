-- What is decided of each byte of a store.
use Rattle.std.proofs.Common.{ℕ, ◌+◌, ◌-◌, ◌<◌, ◌≤◌, ◌≡◌, true, false, Option, refl, subst, add-one, arith}
use Rattle.std.specs.Prelude.{nat_le, nat_lt}
use Rattle.std.specs.Bool.{Decides}
use Rattle.std.proofs.lemmas.Bool.{and_parts, and_from, false_from_ne_true, leb-true, le-leb}
use Rattle.std.proofs.lemmas.Bool.Decides.{Decides-and, Decides-like, Decides-ltb, Decides-below_and}
use Rattle.memory.specs.declared.writes.Write.{Write}
use Rattle.memory.specs.Writes.{covers}
use Rattle.queue_parties.specs.Positions.{IsInBytes}
use Rattle.queue_layouts.specs.declared.AnyQueue.{AnyQueue}
use Rattle.ownership_runs.specs.{Owned, is_in_bytes, may_fill, fills}

pub decides-le : (a b : ℕ) → Decides (nat_le a b) (a ≤ b)
decides-le a b = (λ ok. leb-true a b ok, λ le. le-leb a b le)

pub decides-bytes : (from count x : ℕ) → Decides (is_in_bytes from count x) (IsInBytes from count x)
decides-bytes from count x = Decides-and _ _ (decides-le from x) (Decides-ltb x (from + count))

module _ (q : AnyQueue) (o : Option Owned) where
  decides-each : (P : ℕ → Type 0) → ((x : ℕ) → Decides (may_fill q o x) (P x)) → (a n : ℕ) → Decides (fills q o a n) ((k : ℕ) → k < n → P (a + k))
  unfolding fills
  decides-each P each a n = Decides-below_and (λ k. may_fill q o (a + k)) (λ k. P (a + k)) (fills q o a) (λ k. each (a + k)) refl (λ _. refl) n

  -- one byte that may not be stored to is enough
  pub fills-not : (a k n : ℕ) → k < n → may_fill q o (a + k) ≡ false → fills q o a n ≡ false
  fills-not a k n less bad = false_from_ne_true (fills q o a n)
      (λ all. let yes = (decides-each (λ x. may_fill q o x ≡ true) (λ x. (λ ok. ok, λ ok. ok)) a n).0 all k less in cc)

  pub fills-more : (a n : ℕ) → fills q o a n ≡ true → may_fill q o (a + n) ≡ true → fills q o a (n + 1) ≡ true
  unfolding fills
  fills-more a n before here = rw add-one (and_from (may_fill q o (a + n)) (fills q o a n) here before)

  pub fills-none : (a : ℕ) → fills q o a 0 ≡ true
  unfolding fills
  fills-none a = refl

  pub decides-bytes_of : (P : ℕ → Type 0) → ((x : ℕ) → Decides (may_fill q o x) (P x)) → (w : Write)
      → Decides (fills q o w.addr w.width) ((x : ℕ) → covers w x ≡ true → P x)
  decides-bytes_of P each w = Decides-like _ there back (decides-each P each w.addr w.width)
    where
      there : ((k : ℕ) → k < w.width → P (w.addr + k)) → (x : ℕ) → covers w x ≡ true → P x
      there all x over =
          let within = and_parts (nat_le w.addr x) (nat_lt x (w.addr + w.width)) over in
          let low : w.addr ≤ x = leb-true w.addr x within.0 in
          let high : x < w.addr + w.width = (Decides-ltb x (w.addr + w.width)).0 within.1 in
          let place : w.addr + (x - w.addr) ≡ x = omega (arith, low) in
          subst P place (all (x - w.addr) (omega (arith, low, high)))

      back : ((x : ℕ) → covers w x ≡ true → P x) → (k : ℕ) → k < w.width → P (w.addr + k)
      back all k less = all (w.addr + k) ((decides-bytes w.addr w.width (w.addr + k)).1 (omega arith, omega (arith, less)))
