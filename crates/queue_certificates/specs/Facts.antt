-- What is known of a state's variables beside their ranges: that one form of them is at most another. All of it in natural numbers.
use Rattle.std.specs.Prelude.{ℕ, ◌≤◌, ◌||◌, Bool, Option, Some, List, [], ◌∷◌, ◌++◌, map}
use Rattle.std.specs.List.{list_any}
use Rattle.queue_certificates.specs.Forms.{Form, form_value, number, first_variable, plus, times, lifted, differences, added, most_of_sum, fits_in}

-- the first is at most the second
pub record Fact : Type 0 where
  pub below : Form
  pub above : Form

abbrev pub Holds : List ℕ → Fact → Type 0
Holds xs h = form_value h.below xs ≤ form_value h.above xs

abbrev pub AllHold : List ℕ → List Fact → Type 0
AllHold xs [] = Unit {0}
AllHold xs (h ∷ hs) = Holds xs h × AllHold xs hs

-- f is at most g factor by factor, where what f has more of a variable is at most what the variable's range allows
abbrev pub is_under : List (Option ℕ) → Form → Form → Bool
is_under rs f g = fits_in (added (Some f.constant) (most_of_sum rs (differences f.factors g.factors))) (Some g.constant)

-- and by a fact: f and what the fact has above are at most g and what it has below
abbrev pub is_by : List (Option ℕ) → Fact → Form → Form → Bool
is_by rs h f g = is_under rs (plus f h.above) (plus g h.below)

-- by none of these facts, or by one
abbrev pub is_shown : List (Option ℕ) → List Fact → Form → Form → Bool
is_shown rs hs f g = is_under rs f g || list_any (λ h. is_by rs h f g) hs

-- the sum of these facts, each as often as a multiplier says; one that none stands for isn't taken
abbrev pub weighed : List ℕ → List Fact → Fact
weighed [] hs = record { below = number 0; above = number 0 }
weighed (m ∷ ms) [] = record { below = number 0; above = number 0 }
weighed (m ∷ ms) (h ∷ hs) = record {
  below = plus (times m h.below) (weighed ms hs).below;
  above = plus (times m h.above) (weighed ms hs).above;
}

-- a fact that follows from that sum
abbrev pub is_derived : List (Option ℕ) → List Fact → Fact → (multipliers : List ℕ) → Bool
is_derived rs hs h ms = is_by rs (weighed ms hs) h.below h.above

-- each form of it made another
abbrev pub fact_by : (Form → Form) → Fact → Fact
fact_by t h = record { below = t h.below; above = t h.above }

-- ---- two cases: f is at most g, or more. In each there is one variable more, which comes first

-- which is how much more g is than f
abbrev pub differing : (f g : Form) → List Fact
differing f g = record { below = plus (lifted f) first_variable; above = lifted g }
    ∷ record { below = lifted g; above = plus (lifted f) first_variable } ∷ []

abbrev pub low_facts : List Fact → (f g : Form) → List Fact
low_facts hs f g = differing f g ++ map (fact_by lifted) hs

-- which is how much more f is than g + 1
abbrev pub high_facts : List Fact → (f g : Form) → List Fact
high_facts hs f g = differing (plus g (number 1)) f ++ map (fact_by lifted) hs
