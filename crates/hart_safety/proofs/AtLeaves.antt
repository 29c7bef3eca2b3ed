-- What is made of all leaves of a hart: what each keeps is kept, and what is so of it in the end is so at the leaf where the hart is.
use Rattle.std.proofs.Common.{ℕ, zero, suc, ◌+◌, ◌<◌, inl, inr, if◌then◌else◌, Bool, true, false, Some, List, length, get_or, subst, arith, ◌≡◌, refl, sym, ◌∙◌}
use Rattle.std.proofs.lemmas.Bool.{cases_lt, cases_eq}
use Rattle.hart.specs.State.{HartState}
use Rattle.queue_certificates.specs.{View, AllCounts, KnownState, MeansAt, Means, QueueCertificate, queue_at, own_of, part_of, state_at}
use Rattle.queue_certificates.specs.Cases.{Cases, leaf, split, with_low, with_high, may_exceed}
use Rattle.queue_certificates.proofs.{less_at, means-low, means-high, exceeds}
use Rattle.hart_safety.specs.Leaves.{over_leaves, over_states, over_hart}

-- the leaves of a state by two cases, of which the higher one may be
pub leaves_high : {A : Type 0} (f : ℕ → KnownState → A → A) (n : ℕ) (k : KnownState) (cases : Cases) (j v : ℕ) (low high : Cases) (a w : KnownState)
    (x y : Cases) (d : Bool) (from one : A)
    → cases ≡ split j v low high → one ≡ over_leaves f n w y from → w ≡ with_low k j v → y ≡ low → d ≡ may_exceed v (get_or k.ranges j (Some 0))
    → d ≡ true → a ≡ with_high k j v → x ≡ high → over_leaves f n a x one ≡ over_leaves f n k cases from
leaves_high f n k cases j v low high a w x y d from one is_split is_one is_w is_y is_d d_true is_a is_x =
    let exceeds : may_exceed v (get_or k.ranges j (Some 0)) ≡ true = sym is_d ∙ d_true in
    rw (is_split, is_one, is_w, is_y, is_a, is_x, exceeds) refl

module _ {A : Type 0} (f : ℕ → KnownState → A → A) (Q : A → Type 0) where
  -- ---- what each leaf keeps

  module _ (keeps : (n : ℕ) (k : KnownState) (a : A) → Q a → Q (f n k a)) where
    keeps-cases : (n : ℕ) (k : KnownState) (t : Cases) (a : A) → Q a → Q (over_leaves f n k t a)
    keeps-cases n k (leaf d arrows) a q = keeps n k a q
    keeps-cases n k (split j v low high) a q = by (may_exceed v (get_or k.ranges j (Some 0))) (over_leaves f n (with_low k j v) low a)
        (keeps-cases n (with_low k j v) low a q) (keeps-cases n (with_high k j v) high)
      where
        by : (t : Bool) (b : A) → Q b → ((b : A) → Q b → Q (over_leaves f n (with_high k j v) high b))
            → Q (if t then over_leaves f n (with_high k j v) high b else b)
        by true b q above = above b q
        by false b q above = q

    keeps-states : (c : QueueCertificate) (h count : ℕ) (a : A) → Q a → Q (over_states f c h count a)
    keeps-states c h zero a q = q
    keeps-states c h (suc n) a q = keeps-cases n (state_at c h n).known (state_at c h n).cases (over_states f c h n a) (keeps-states c h n a q)

    pub keeps-over : (c : QueueCertificate) (h : ℕ) (a : A) → Q a → Q (over_hart f c h a)
    keeps-over c h a q = keeps-states c h (length (part_of c h).states) a q

  -- ---- what is so after a leaf only if it was before

  module _ (back : (n : ℕ) (k : KnownState) (a : A) → Q (f n k a) → Q a) where
    back-cases : (n : ℕ) (k : KnownState) (t : Cases) (a : A) → Q (over_leaves f n k t a) → Q a
    back-cases n k (leaf d arrows) a q = back n k a q
    back-cases n k (split j v low high) a q = back-cases n (with_low k j v) low a
        (by (may_exceed v (get_or k.ranges j (Some 0))) (over_leaves f n (with_low k j v) low a) q (back-cases n (with_high k j v) high))
      where
        by : (t : Bool) (b : A) → Q (if t then over_leaves f n (with_high k j v) high b else b)
            → ((b : A) → Q (over_leaves f n (with_high k j v) high b) → Q b) → Q b
        by true b q above = above b q
        by false b q above = q

    module _ (c : QueueCertificate) (h : ℕ) (s : HartState) (m : View) (cs : AllCounts) where
      -- a leaf that means it, and what is made of it is so
      pub record Reached : Type 0 where
        pub state : ℕ
        pub known : KnownState
        pub numbers : List ℕ
        pub means : MeansAt (queue_at c) (length c.queues) (own_of c h) h numbers known s m cs
        pub before : A
        pub so : Q (f state known before)

      at-cases : (n : ℕ) (k : KnownState) (t : Cases) (xs : List ℕ) → MeansAt (queue_at c) (length c.queues) (own_of c h) h xs k s m cs
          → (a : A) → Q (over_leaves f n k t a) → Reached
      at-cases n k (leaf d arrows) xs means a q = record { state = n; known = k; numbers = xs; means = means; before = a; so = q }
      at-cases n k (split j v low high) xs means a q = elim (cases_lt v (get_or xs j 0)) [
        | inr under ↦ at-cases n (with_low k j v) low xs (means-low (queue_at c) (length c.queues) (own_of c h) h xs k s m cs j v means under) a
            (lower (may_exceed v (get_or k.ranges j (Some 0))) (over_leaves f n (with_low k j v) low a) q)
        | inl over ↦ at-cases n (with_high k j v) high (less_at j (v + 1) xs)
            (means-high (queue_at c) (length c.queues) (own_of c h) h xs k s m cs j v means over) (over_leaves f n (with_low k j v) low a)
            (subst (λ t. Q (if t then over_leaves f n (with_high k j v) high (over_leaves f n (with_low k j v) low a)
            else over_leaves f n (with_low k j v) low a)) (exceeds (queue_at c) (length c.queues) (own_of c h) h k.ranges xs j v means.ranges over) q)
      ]
        where
          lower : (t : Bool) (b : A) → Q (if t then over_leaves f n (with_high k j v) high b else b) → Q b
          lower true b q = back-cases n (with_high k j v) high b q
          lower false b q = q

      at-states : (n : ℕ) → Means (queue_at c) (length c.queues) (own_of c h) h (state_at c h n).known s m cs → (count : ℕ) → n < count
          → (a : A) → Q (over_states f c h count a) → Reached
      at-states n means zero less a q = absurd (omega (arith, less))
      at-states n means (suc count) less a q = elim (cases_eq n count) [
        | inl same ↦ (let here = subst (λ i. Means (queue_at c) (length c.queues) (own_of c h) h (state_at c h i).known s m cs) same means in
            at-cases count (state_at c h count).known (state_at c h count).cases here.0 here.1 (over_states f c h count a) q)
        | inr other ↦ at-states n means count (omega (arith, less, other)) a
            (back-cases count (state_at c h count).known (state_at c h count).cases (over_states f c h count a) q)
      ]

      -- of a state that is listed
      pub reaches-leaf : (n : ℕ) → Means (queue_at c) (length c.queues) (own_of c h) h (state_at c h n).known s m cs → n < length (part_of c h).states
          → (a : A) → Q (over_hart f c h a) → Reached
      reaches-leaf n means less a q = at-states n means (length (part_of c h).states) less a q
