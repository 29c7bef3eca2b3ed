-- A condition read symbol by symbol from the left: what is open so far, and which symbols may come next.
use Rattle.std.specs.Prelude.{ℕ, suc, zero, ◌+◌, List, [], ◌∷◌, ◌++◌, Option, Some, None, Result, Ok, Err}
use Rattle.litmus.specs.declared.symbols.Symbol.{Symbol}
use Rattle.litmus.specs.declared.symbols.Symbol.TheVariants as symbol
use Rattle.litmus.specs.Formulas.{Formula, is, negation, both, either}
use Rattle.litmus.specs.declared.draft.ConditionError.{ConditionError}
use Rattle.litmus.specs.declared.draft.ConditionError.TheVariants.{NoMemory, Misplaced}

-- what stands open between two parentheses (or in the whole condition) in front of the operand that
-- comes next: the disjuncts that are complete, the conjuncts of the last one, and the negations
pub record Group : Type 0 where
  pub disjuncts : Option Formula
  pub conjuncts : Option Formula
  pub negations : ℕ

-- An operand is awaited here, or stands complete; the groups around are innermost first.
pub data Stage : Type 0 where
  awaits : (around : List Group) (here : Group) → Stage
  has : (around : List Group) (here : Group) (operand : Formula) → Stage

abbrev pub empty_group : Group
empty_group = record { disjuncts = None; conjuncts = None; negations = 0 }

abbrev pub negated_by : ℕ → Formula → Formula
negated_by zero f = f
negated_by (suc n) f = negation (negated_by n f)

abbrev pub conjoined : Option Formula → Formula → Formula
conjoined None f = f
conjoined (Some left) f = both left f

abbrev pub disjoined : Option Formula → Formula → Formula
disjoined None f = f
disjoined (Some left) f = either left f

-- the conjunction that ends with this operand, and the disjunction that does
abbrev pub conjunction_of : Group → Formula → Formula
conjunction_of here f = conjoined here.conjuncts f

abbrev pub disjunction_of : Group → Formula → Formula
disjunction_of here f = disjoined here.disjuncts (conjunction_of here f)

-- an operand is complete with the negations in front of it
abbrev pub completed : List Group → Group → Formula → Stage
completed around here f = has around (record here { negations = 0 }) (negated_by here.negations f)

-- a group is closed: its disjunction is an operand of the group around
abbrev pub enclosed : List Group → Formula → Option Stage
enclosed [] f = None
enclosed (here ∷ around) f = Some (completed around here f)

-- the stage after one more symbol; None where the symbol may not stand there
abbrev pub next_stage : Stage → Symbol → Option Stage
next_stage (awaits around here) (symbol.Is place value) = Some (completed around here (is place value))
next_stage (awaits around here) symbol.Not = Some (awaits around (record here { negations = here.negations + 1 }))
next_stage (awaits around here) symbol.Open = Some (awaits (here ∷ around) empty_group)
next_stage (has around here f) symbol.And = Some (awaits around (record here { conjuncts = Some (conjunction_of here f) }))
next_stage (has around here f) symbol.Or = Some (awaits around (record { disjuncts = Some (disjunction_of here f); conjuncts = None; negations = 0 }))
next_stage (has around here f) symbol.Close = enclosed around (disjunction_of here f)
next_stage other s = None

abbrev pub taken_from : Option Stage → Symbol → Option Stage
taken_from None next = None
taken_from (Some stage) next = next_stage stage next

abbrev pub all_taken : Option Stage → List Symbol → Option Stage
all_taken stage [] = stage
all_taken stage (next ∷ symbols) = all_taken (taken_from stage next) symbols

-- the stage after these symbols from the beginning
unfoldable pub stage_after : List Symbol → Option Stage
stage_after symbols = all_taken (Some (awaits [] empty_group)) symbols

-- the formula of a condition that ends at this stage
abbrev pub formula_at : Option Stage → Option Formula
formula_at None = None
formula_at (Some (awaits around here)) = None
formula_at (Some (has [] here f)) = Some (disjunction_of here f)
formula_at (Some (has (group ∷ around) here f)) = None

-- None is the one fault that there is
abbrev pub or_misplaced : {A : Type 0} → Option A → Result A (Unit {0})
or_misplaced None = Err tt
or_misplaced (Some a) = Ok a

abbrev pub with_symbol : List Symbol → Symbol → Option Stage → Option (List Symbol)
with_symbol symbols next None = None
with_symbol symbols next (Some stage) = Some (symbols ++ next ∷ [])

-- the symbols with one more, where it may stand there
unfoldable pub symbol_added : List Symbol → Symbol → Result (List Symbol) (Unit {0})
symbol_added symbols next = or_misplaced (with_symbol symbols next (stage_after (symbols ++ next ∷ [])))

-- what all the symbols are, where they are a condition
unfoldable pub formula_of_symbols : List Symbol → Result Formula (Unit {0})
formula_of_symbols symbols = or_misplaced (formula_at (stage_after symbols))

-- ---- what a condition's reader answers that is no condition

-- the one fault of the words; memory that ran out is none
abbrev pub fault_of : ConditionError → Option (Unit {0})
fault_of NoMemory = None
fault_of Misplaced = Some tt
