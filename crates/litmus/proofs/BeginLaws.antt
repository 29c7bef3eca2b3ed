-- The symbols that are taken are those with which a condition begins.
use Rattle.std.proofs.Common.{arith, ◌≡◌, ◌∙◌, ap, List, [], ◌∷◌, ◌++◌, Option, Some, None, Ok, Err, refl}
use Rattle.litmus.specs.declared.symbols.Place.TheVariants as place
use Rattle.litmus.specs.{Symbol, Formula, is, Begins, Group, Stage, awaits, has, empty_group, disjunction_of, negated_by, all_taken, stage_after, formula_at}
use Rattle.litmus.specs.{or_misplaced, with_symbol, symbol_added, formula_of_symbols, Build, build_at}
use Rattle.litmus.specs.declared.symbols.Symbol.TheVariants as symbol
use Rattle.litmus.proofs.StageLaws.{all_taken-append}
use Rattle.litmus.proofs.GrammarLaws.{finished_only}
use Rattle.litmus.proofs.FrontLaws.{finished-found}

-- what makes a condition of the symbols before a stage: an operand, and the parentheses that are missing
abbrev closes : List Group → List Symbol
closes [] = []
closes (g ∷ around) = symbol.Close ∷ closes around

abbrev rest_at : Stage → List Symbol
rest_at (awaits around here) = symbol.Is (place.Word 0) 0 ∷ closes around
rest_at (has around here f) = closes around

closes-finishes : (around : List Group) (here : Group) (f : Formula)
    → (g : Formula) × (or_misplaced (formula_at (all_taken (Some (has around here f)) (closes around))) ≡ Ok g)
closes-finishes [] here f = (disjunction_of here f, refl)
closes-finishes (g ∷ around) here f = closes-finishes around (record g { negations = 0 }) (negated_by g.negations (disjunction_of here f))

rest-finishes : (stage : Stage) → (g : Formula) × (or_misplaced (formula_at (all_taken (Some stage) (rest_at stage))) ≡ Ok g)
rest-finishes (awaits around here) = closes-finishes around (record here { negations = 0 }) (negated_by here.negations (is (place.Word 0) 0))
rest-finishes (has around here f) = closes-finishes around here f

pub begins_at : (symbols : List Symbol) (stage : Stage) → stage_after symbols ≡ Some stage → Begins symbols
unfolding formula_of_symbols stage_after
begins_at symbols stage same =
    let ends : (g : Formula) × (or_misplaced (formula_at (all_taken (Some stage) (rest_at stage))) ≡ Ok g) = rest-finishes stage in (
      rest_at stage,
      ends.0,
      finished-found (symbols ++ rest_at stage) ends.0
          (ap (λ (o : Option Stage). or_misplaced (formula_at o)) (all_taken-append (Some (awaits [] empty_group)) symbols (rest_at stage))
          ∙ ap (λ (o : Option Stage). or_misplaced (formula_at (all_taken o (rest_at stage)))) same
          ∙ ends.1),
    )

begins-some : (symbols : List Symbol) (o : Option Stage) (b : Build) → stage_after symbols ≡ o → build_at o ≡ Some b → Begins symbols
begins-some symbols o b same built = grind (arith, begins_at)

pub begins_built : (symbols : List Symbol) (b : Build) → build_at (stage_after symbols) ≡ Some b → Begins symbols
begins_built symbols b built = begins-some symbols (stage_after symbols) b refl built

all_taken-none : (symbols : List Symbol) → all_taken None symbols ≡ None
all_taken-none [] = refl
all_taken-none (w ∷ symbols) = all_taken-none symbols

pub begins_taken : (symbols : List Symbol) → stage_after symbols ≡ None → ¬ Begins symbols
unfolding formula_of_symbols stage_after
begins_taken symbols nowhere = grind (arith, finished_only, all_taken-append, all_taken-none)

refused-none : (symbols : List Symbol) (next : Symbol) (o : Option Stage) → or_misplaced (with_symbol symbols next o) ≡ Err tt → o ≡ None
refused-none symbols next o refused = grind arith

pub refused_begins : (symbols : List Symbol) (next : Symbol) → symbol_added symbols next ≡ Err tt → ¬ Begins (symbols ++ next ∷ [])
unfolding symbol_added
refused_begins symbols next refused = begins_taken (symbols ++ next ∷ []) (refused-none symbols next (stage_after (symbols ++ next ∷ [])) refused)
