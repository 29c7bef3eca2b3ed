-- The grammar of conditions: which symbols stand for which formula. A negation binds most, then `And`,
-- then `Or`; both of these group to the left.
use Rattle.std.specs.Prelude.{ℕ, List, [], ◌∷◌, ◌++◌}
use Rattle.litmus.specs.declared.symbols.Place.{Place}
use Rattle.litmus.specs.declared.symbols.Symbol.{Symbol}
use Rattle.litmus.specs.declared.symbols.Symbol.TheVariants as symbol
use Rattle.litmus.specs.Formulas.{Formula, is, negation, both, either}

pub data Level : Type 0 where
  operand : Level
  conjunction : Level
  disjunction : Level

-- at this level the symbols stand for this formula
pub data Stands : Level → List Symbol → Formula → Type 0 where
  atom : (place : Place) (value : ℕ) → Stands operand (symbol.Is place value ∷ []) (is place value)
  negated : (symbols : List Symbol) (f : Formula) → Stands operand symbols f → Stands operand (symbol.Not ∷ symbols) (negation f)
  enclosed : (symbols : List Symbol) (f : Formula) → Stands disjunction symbols f → Stands operand (symbol.Open ∷ (symbols ++ symbol.Close ∷ [])) f
  one_operand : (symbols : List Symbol) (f : Formula) → Stands operand symbols f → Stands conjunction symbols f
  joined : (left right : List Symbol) (f g : Formula) → Stands conjunction left f → Stands operand right g
      → Stands conjunction (left ++ symbol.And ∷ right) (both f g)
  one_conjunction : (symbols : List Symbol) (f : Formula) → Stands conjunction symbols f → Stands disjunction symbols f
  parted : (left right : List Symbol) (f g : Formula) → Stands disjunction left f → Stands conjunction right g
      → Stands disjunction (left ++ symbol.Or ∷ right) (either f g)

-- these symbols are a condition, and this formula is what it says
abbrev pub IsConditionOf : List Symbol → Formula → Type 0
IsConditionOf symbols f = Stands disjunction symbols f

-- some condition begins with these symbols
abbrev pub Begins : List Symbol → Type 0
Begins symbols = (rest : List Symbol) × (f : Formula) × IsConditionOf (symbols ++ rest) f

-- the places of some symbols, from the left
abbrev pub places_in : List Symbol → List Place
places_in [] = []
places_in (symbol.Is place value ∷ symbols) = place ∷ places_in symbols
places_in (symbol.Not ∷ symbols) = places_in symbols
places_in (symbol.And ∷ symbols) = places_in symbols
places_in (symbol.Or ∷ symbols) = places_in symbols
places_in (symbol.Open ∷ symbols) = places_in symbols
places_in (symbol.Close ∷ symbols) = places_in symbols
