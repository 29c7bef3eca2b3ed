-- The symbols of a condition are read as its formula, and as no other.
use Rattle.std.proofs.Common.{◌≡◌, ◌∙◌, ◌+◌, ap, ℕ, suc, zero, List, [], ◌∷◌, ◌++◌, Option, Some, None, Ok, refl, arith, append_assoc}
use Rattle.std.proofs.lemmas.List.{append-nil}
use Rattle.litmus.specs.{Symbol, Formula, negation, both, either, Level, operand, conjunction, disjunction, Stands, atom, negated, one_operand, joined}
use Rattle.litmus.specs.{one_conjunction, parted, IsConditionOf, Group, Stage, awaits, has, empty_group, negated_by, conjoined, disjoined, completed, all_taken}
use Rattle.litmus.specs.{stage_after, formula_of_symbols}
use Rattle.litmus.specs.Grammar.{enclosed}
use Rattle.litmus.specs.declared.symbols.Symbol.TheVariants as symbol

abbrev group : Option Formula → Option Formula → Group
group disjuncts conjuncts = record { disjuncts = disjuncts; conjuncts = conjuncts; negations = 0 }

abbrev goes_on : List Group → Group → List Symbol → Option Stage
goes_on around here symbols = all_taken (Some (awaits around here)) symbols

-- what is read of a conjunction, and of a disjunction: up to its last operand
record ReadsConjunction (around : List Group) (d : Option Formula) (symbols rest : List Symbol) (f : Formula) : Type 0 where
  front : Option Formula
  last : Formula
  same : conjoined front last ≡ f
  path : goes_on around (group d None) (symbols ++ rest) ≡ all_taken (Some (has around (group d front) last)) rest

record ReadsDisjunction (around : List Group) (symbols rest : List Symbol) (f : Formula) : Type 0 where
  disjuncts : Option Formula
  conjuncts : Option Formula
  last : Formula
  same : disjoined disjuncts (conjoined conjuncts last) ≡ f
  path : goes_on around empty_group (symbols ++ rest) ≡ all_taken (Some (has around (group disjuncts conjuncts) last)) rest

abbrev Reads : Level → List Symbol → Formula → Type 0
Reads operand symbols f = (around : List Group) (here : Group) (rest : List Symbol)
    → goes_on around here (symbols ++ rest) ≡ all_taken (Some (completed around here f)) rest
Reads conjunction symbols f = (around : List Group) (d : Option Formula) (rest : List Symbol) → ReadsConjunction around d symbols rest f
Reads disjunction symbols f = (around : List Group) (rest : List Symbol) → ReadsDisjunction around symbols rest f

negated_by-inside : (n : ℕ) (f : Formula) → negated_by (n + 1) f ≡ negated_by n (negation f)
negated_by-inside zero f = refl
negated_by-inside (suc n) f = let next : suc n + 1 ≡ suc (n + 1) = omega arith in rw next (ap (λ (g : Formula). negation g) (negated_by-inside n f))

abbrev stage_with : List Group → Group → List Symbol → Formula → Option Stage
stage_with around here rest f = all_taken (Some (has around (record here { negations = 0 }) f)) rest

reads-enclosed : (symbols rest : List Symbol) (f : Formula) (around : List Group) (here : Group)
    → ReadsDisjunction (here ∷ around) symbols (symbol.Close ∷ rest) f
    → goes_on around here ((symbol.Open ∷ (symbols ++ symbol.Close ∷ [])) ++ rest)
    ≡ all_taken (Some (completed around here f)) rest
reads-enclosed symbols rest f around here inner = grind (arith, append_assoc)

reads-joined : (left right rest : List Symbol) (f g : Formula) (around : List Group) (d : Option Formula)
    → ReadsConjunction around d left (symbol.And ∷ (right ++ rest)) f
    → ((here : Group) → goes_on around here (right ++ rest) ≡ all_taken (Some (completed around here g)) rest)
    → ReadsConjunction around d (left ++ symbol.And ∷ right) rest (both f g)
reads-joined left right rest f g around d before after = grind (arith, append_assoc)

reads-parted : (left right rest : List Symbol) (f g : Formula) (around : List Group)
    → ReadsDisjunction around left (symbol.Or ∷ (right ++ rest)) f
    → ((d : Option Formula) → ReadsConjunction around d right rest g)
    → ReadsDisjunction around (left ++ symbol.Or ∷ right) rest (either f g)
reads-parted left right rest f g around before after =
    let whole : Formula = disjoined before.disjuncts (conjoined before.conjuncts before.last) in
    let right_side : ReadsConjunction around (Some whole) right rest g = after (Some whole) in
    record {
      disjuncts = Some whole;
      conjuncts = right_side.front;
      last = right_side.last;
      same = ap (λ (h : Formula). either h (conjoined right_side.front right_side.last)) before.same ∙ ap (λ (h : Formula). either f h) right_side.same;
      path =
          ap (λ (ws : List Symbol). goes_on around empty_group ws) (append_assoc left (symbol.Or ∷ right) rest)
          ∙ before.path
          ∙ right_side.path;
    }

reads : (level : Level) (symbols : List Symbol) (f : Formula) → Stands level symbols f → Reads level symbols f
reads operand symbols f (atom place value) = λ around here rest. refl
reads operand symbols f (negated inner g stands) =
    λ around here rest. reads operand inner g stands around (record here { negations = here.negations + 1 }) rest
    ∙ ap (stage_with around here rest) (negated_by-inside here.negations g)
reads operand symbols f (enclosed inner g stands) = λ around here rest.
    reads-enclosed inner rest g around here (reads disjunction inner g stands (here ∷ around) (symbol.Close ∷ rest))
reads conjunction symbols f (one_operand inner g stands) = λ around d rest.
    record { front = None; last = g; same = refl; path = reads operand inner g stands around (group d None) rest }
reads conjunction symbols f (joined left right g h stands_left stands_right) = λ around d rest. reads-joined left
    right rest g h around d (reads conjunction left g stands_left around d (symbol.And ∷ (right ++ rest)))
    (λ here. reads operand right h stands_right around here rest)
reads disjunction symbols f (one_conjunction inner g stands) =
    λ around rest. let c : ReadsConjunction around None inner rest g =
    reads conjunction inner g stands around None rest in
    record { disjuncts = None; conjuncts = c.front; last = c.last; same = c.same; path = c.path }
reads disjunction symbols f (parted left right g h stands_left stands_right) = λ around rest.
    reads-parted left right rest g h around (reads disjunction left g stands_left around (symbol.Or ∷ (right ++ rest)))
    (λ d. reads conjunction right h stands_right around d rest)

-- a condition's symbols are read as its formula
pub finished_only : (symbols : List Symbol) (f : Formula) → IsConditionOf symbols f → formula_of_symbols symbols ≡ Ok f
unfolding formula_of_symbols stage_after
finished_only symbols f stands = grind (arith, reads disjunction symbols f stands [] [], append-nil symbols)
