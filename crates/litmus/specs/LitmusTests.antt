-- A litmus test: where its machine begins, and what it asks at the end.
use Rattle.std.specs.Prelude.{ℕ, ◌≡◌, ◌*◌, ◌%◌, ◌<◌, ◌≤◌, ◌==◌, ◌&&◌, Bool, false, not, List, [], ◌∷◌, length, filter, All}
use Rattle.step_machine.specs.History.{HartOpeningValue, OpeningValue, FitsIn}
use Rattle.litmus.specs.declared.symbols.Place.{Place}
use Rattle.litmus.specs.declared.symbols.Place.TheVariants as place
use Rattle.litmus.specs.declared.verdict.Quantifier.{Quantifier}
use Rattle.litmus.specs.Formulas.{Formula, places}
use Rattle.litmus.specs.declared.litmus_test.TheConstants.{MAX_LOCATIONS}

-- the names are those of the locations, whose words stand at 0, 4, 8 and on
pub record LitmusTest : Type 0 where
  pub opening : OpeningValue
  pub names : List (List ℕ)
  pub quantifier : Quantifier
  pub condition : Formula

-- a register of a hart that is there, or the word of a location that is
abbrev pub IsThere : (harts locations : ℕ) → Place → Type 0
IsThere harts locations (place.Register h n) = (h < harts) × (n < 32)
IsThere harts locations (place.Word a) = (a % 4 ≡ 0) × (a < 4 * locations)

-- the limits of a test: those of its opening, at most 1,024 locations, and a condition that asks for
-- places which are there
pub record IsTest (q : LitmusTest) : Type 0 where
  pub opening : FitsIn MAX_LOCATIONS q.opening
  pub names : length q.names ≤ MAX_LOCATIONS
  pub places : All (IsThere (length q.opening.harts) (length q.names)) (places q.condition)

abbrev pub is_same : Place → Place → Bool
is_same (place.Register h n) (place.Register i m) = (h == i) && (n == m)
is_same (place.Register h n) (place.Word b) = false
is_same (place.Word a) (place.Register i m) = false
is_same (place.Word a) (place.Word b) = a == b

-- each place of the list once, in order of first appearance
abbrev pub firsts : List Place → List Place
firsts [] = []
firsts (p ∷ others) = p ∷ filter (λ q. not (is_same p q)) (firsts others)

-- a condition's observed locations, each once, in order of first appearance
abbrev pub left_sides : Formula → List Place
left_sides f = firsts (places f)

abbrev pub litmus_test_of : List HartOpeningValue → List ℕ → List (List ℕ) → Quantifier → Formula → LitmusTest
litmus_test_of harts words names quantifier condition = record {
  opening =
      record { harts = harts; words = words };
  names = names;
  quantifier = quantifier;
  condition = condition;
}
