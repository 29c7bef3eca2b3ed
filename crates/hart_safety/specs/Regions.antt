-- Regions of bytes, in their order, with a byte between each and the next.
use Rattle.std.specs.Prelude.{ℕ, ◌⊎◌, ◌+◌, ◌-◌, ◌<◌, ◌≤◌, nat_le, nat_lt, if◌then◌else◌, Bool, List, [], ◌∷◌}
use Rattle.queue_checker.specs.declared.targets.Target.{Target}
use Rattle.hart_safety.specs.declared.regions.Region.{Region}

-- where the bytes may lie
abbrev pub region_of : Target → Region
region_of t = record { from = t.bounds.low; to = t.bounds.high + (t.width - 1) }

abbrev pub ends_before : Region → Region → Bool
ends_before r s = nat_lt (r.to + 1) s.from

-- from where the first begins to where the last ends
abbrev pub joined_region : Region → Region → Region
joined_region r s = record { from = if nat_le r.from s.from then r.from else s.from; to = if nat_le r.to s.to then s.to else r.to }

-- with one more, which those that it meets or touches become parts of
abbrev pub with_region : Region → List Region → List Region
with_region r [] = r ∷ []
with_region r (s ∷ ss) = if ends_before r s then r ∷ s ∷ ss else
    (if ends_before s r then s ∷ with_region r ss else with_region (joined_region r s) ss)

-- the byte at x is of none of them
abbrev pub IsInNone : (x : ℕ) → List Region → Type 0
IsInNone x [] = Unit {0}
IsInNone x (r ∷ rs) = ((x < r.from) ⊎ (r.to < x)) × IsInNone x rs

-- they begin at n at the earliest, in their order, with a byte between each and the next
abbrev pub AreInOrderFrom : (n : ℕ) → List Region → Type 0
AreInOrderFrom n [] = Unit {0}
AreInOrderFrom n (r ∷ rs) = (n ≤ r.from) × (r.from ≤ r.to) × AreInOrderFrom (r.to + 2) rs
