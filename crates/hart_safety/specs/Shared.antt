-- The bytes of memory that harts share: those to which one may store, and which another may store to or load.
use Rattle.std.specs.Prelude.{ℕ, zero, suc, ◌++◌, nat_le, nat_lt, if◌then◌else◌, true, false, Option, List, [], ◌∷◌, length, option_map}
use Rattle.step_machine.specs.History.{OpeningValue}
use Rattle.queue_certificates.specs.Certificates.{QueueCertificate}
use Rattle.queue_checker.specs.Flaws.{first_below, first_of}
use Rattle.hart_safety.specs.declared.regions.Region.{Region}
use Rattle.hart_safety.specs.declared.shared.Place.{Place}
use Rattle.hart_safety.specs.Regions.{ends_before, joined_region}
use Rattle.hart_safety.specs.Touched.{touched_of}

-- ---- regions of two lists, each in its order

abbrev pub common_region : Region → Region → Region
common_region r s = record { from = if nat_le r.from s.from then s.from else r.from; to = if nat_le r.to s.to then r.to else s.to }

abbrev pub common_of : Region → Region → List Region
common_of r s = if nat_le (common_region r s).from (common_region r s).to then common_region r s ∷ [] else []

-- what is of a region of the one and of one of the other: of two the one that ends first meets no more
abbrev pub common_with : Region → (rest : List Region → List Region) → List Region → List Region
common_with r rest [] = []
common_with r rest (s ∷ ss) = common_of r s ++ (if nat_lt s.to r.to then common_with r rest ss else rest (s ∷ ss))

abbrev pub common : List Region → List Region → List Region
common [] ss = []
common (r ∷ rs) ss = common_with r (common rs) ss

-- all of both, by where they begin
abbrev pub merged_with : Region → List Region → (rest : List Region → List Region) → List Region → List Region
merged_with r rs rest [] = r ∷ rs
merged_with r rs rest (s ∷ ss) = if nat_le r.from s.from then r ∷ rest (s ∷ ss) else s ∷ merged_with r rs rest ss

abbrev pub merged : List Region → List Region → List Region
merged [] ss = ss
merged (r ∷ rs) ss = merged_with r rs (merged rs) ss

-- a region before others, which those that it meets or touches become parts of
abbrev pub joined_from : Region → List Region → List Region
joined_from r [] = r ∷ []
joined_from r (s ∷ ss) = if ends_before r s then r ∷ joined_from s ss else joined_from (joined_region r s) ss

abbrev pub all_joined : List Region → List Region
all_joined [] = []
all_joined (r ∷ rs) = joined_from r rs

abbrev pub either_of : List Region → List Region → List Region
either_of rs ss = all_joined (merged rs ss)

-- ---- of harts

pub record Shared : Type 0 where
  pub regions : List Region
  pub unbounded : Option Place

-- what some harts store to, what they store to or load, and what they share
pub record Shares : Type 0 where
  pub stored : List Region
  pub touched : List Region
  pub shared : List Region

-- with a hart that stores to and loads these
abbrev pub with_hart : Shares → (stores loads : List Region) → Shares
with_hart before stores loads = record {
  stored = either_of before.stored stores;
  touched = either_of before.touched (either_of stores loads);
  shared = either_of before.shared (either_of (common stores before.touched) (common (either_of stores loads) before.stored));
}

-- the first state of hart h with a store, else with a load, that may go anywhere, of these
abbrev pub unbounded_by : (h : ℕ) → (stores loads : Option ℕ) → Option Place
unbounded_by h stores loads = option_map (λ n. record { hart = h; state = n }) (first_of stores loads)

module _ (o : OpeningValue) (c : QueueCertificate) where
  -- of the first n harts
  abbrev pub shares_below : (n : ℕ) → Shares
  shares_below zero = record { stored = []; touched = []; shared = [] }
  shares_below (suc h) = with_hart (shares_below h) (touched_of true o c h).regions (touched_of false o c h).regions

  abbrev pub unbounded_of : (h : ℕ) → Option Place
  unbounded_of h = unbounded_by h (touched_of true o c h).unbounded (touched_of false o c h).unbounded

  -- where no hart has one, the bytes that two harts may share; and the first of those that are there
  abbrev pub shared_of : Shared
  shared_of = record { regions = (shares_below (length o.harts)).shared; unbounded = first_below (length o.harts) unbounded_of }
