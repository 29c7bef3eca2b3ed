-- A state by cases of its variables, and what holds of each of its leaves.
use Rattle.std.specs.Prelude.{ℕ, zero, suc, ◌+◌, ◌-◌, ◌&&◌, ◌||◌, not, nat_le, nat_lt, if◌then◌else◌, Bool, true}
use Rattle.std.specs.Prelude.{Option, None, Some, List, [], ◌∷◌, get_or}
use Rattle.queue_certificates.specs.Forms.{Form, raised, settled}
use Rattle.queue_certificates.specs.States.{KnownState, state_by}

-- where a state goes on: to the state of this number, whose variables are these forms over those of the leaf, after one that comes
-- with the step
pub record Arrow : Type 0 where
  pub to : ℕ
  pub forms : List Form

-- a state by cases: variable j is at most v, or it is v + 1 more than a variable. A variable whose range is then 0 is dropped. A leaf takes
-- the instruction: how many positions it hands over, if it stores to an own index, and where each state that may follow is found
pub data Cases : Type 0 where
  leaf : (handed : Form) (arrows : List Arrow) → Cases
  split : (j v : ℕ) (low high : Cases) → Cases

-- ---- the state of each case

abbrev pub at_most : ℕ → Option ℕ → Option ℕ
at_most v None = Some v
at_most v (Some n) = if nat_le n v then Some n else Some v

abbrev pub beyond : ℕ → Option ℕ → Option ℕ
beyond v None = None
beyond v (Some n) = Some (n - (v + 1))

abbrev pub may_exceed : ℕ → Option ℕ → Bool
may_exceed v None = true
may_exceed v (Some n) = nat_lt v n

abbrev pub range_changed : List (Option ℕ) → (j : ℕ) → (Option ℕ → Option ℕ) → List (Option ℕ)
range_changed [] j t = []
range_changed (r ∷ rs) zero t = t r ∷ rs
range_changed (r ∷ rs) (suc j) t = r ∷ range_changed rs j t

abbrev pub with_low : KnownState → (j v : ℕ) → KnownState
with_low k j v = state_by (settled (range_changed k.ranges j (at_most v))) (range_changed k.ranges j (at_most v)) k

abbrev pub with_high : KnownState → (j v : ℕ) → KnownState
with_high k j v = state_by (λ f. settled (range_changed k.ranges j (beyond v)) (raised j (v + 1) f)) (range_changed k.ranges j (beyond v)) k

-- ---- leaves

-- what f says of each leaf that may be: what is known there, how many positions its instruction hands over, and where it goes on
abbrev pub each_leaf : (KnownState → Form → List Arrow → Bool) → KnownState → Cases → Bool
each_leaf f k (leaf d arrows) = f k d arrows
each_leaf f k (split j v low high) = each_leaf f (with_low k j v) low
    && (not (may_exceed v (get_or k.ranges j (Some 0))) || each_leaf f (with_high k j v) high)
