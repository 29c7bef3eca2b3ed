-- Words that are read as a formula are a condition: what each stage says of the symbols before it.
use Rattle.std.proofs.Common.{◌≡◌, ◌∙◌, ◌+◌, sym, ap, subst, ℕ, suc, zero, List, [], ◌∷◌, ◌++◌, replicate, Option, Some, None, Ok, refl, arith, append_assoc}
use Rattle.std.proofs.lemmas.List.{append-nil}
use Rattle.litmus.specs.{Symbol, Formula, is, both, either, operand, conjunction, disjunction, Stands, atom, negated, one_operand, joined, one_conjunction}
use Rattle.litmus.specs.{parted, IsConditionOf, Group, Stage, awaits, has, empty_group, negated_by, conjoined, disjoined, conjunction_of, disjunction_of}
use Rattle.litmus.specs.{next_stage, taken_from, all_taken, stage_after, formula_at, or_misplaced, formula_of_symbols}
use Rattle.litmus.specs.Grammar.{enclosed}
use Rattle.litmus.specs.Drafting.{enclosed as closed_into}
use Rattle.litmus.specs.declared.symbols.Symbol.TheVariants as symbol

-- the symbols in front of the last conjunct's disjunct, and in front of the last operand's conjunct
abbrev OrFront : Option Formula → List Symbol → Type 0
OrFront None symbols = symbols ≡ []
OrFront (Some d) symbols = (ws : List Symbol) × Stands disjunction ws d × (symbols ≡ ws ++ symbol.Or ∷ [])

abbrev AndFront : Option Formula → List Symbol → Type 0
AndFront None symbols = symbols ≡ []
AndFront (Some c) symbols = (ws : List Symbol) × Stands conjunction ws c × (symbols ≡ ws ++ symbol.And ∷ [])

record Front (g : Group) (symbols : List Symbol) : Type 0 where
  ors : List Symbol
  ands : List Symbol
  or_front : OrFront g.disjuncts ors
  and_front : AndFront g.conjuncts ands
  is : symbols ≡ (ors ++ ands) ++ replicate g.negations symbol.Not

abbrev Around : List Group → List Symbol → Type 0
Around [] symbols = symbols ≡ []
Around (g ∷ around) symbols = (outer : List Symbol) × (inner : List Symbol) × Around around outer × Front g inner
    × (symbols ≡ (outer ++ inner) ++ symbol.Open ∷ [])

record Awaited (around : List Group) (here : Group) (symbols : List Symbol) : Type 0 where
  outer : List Symbol
  inner : List Symbol
  outside : Around around outer
  front : Front here inner
  is : symbols ≡ outer ++ inner

record Standing (around : List Group) (here : Group) (f : Formula) (symbols : List Symbol) : Type 0 where
  outer : List Symbol
  ors : List Symbol
  ands : List Symbol
  last : List Symbol
  outside : Around around outer
  or_front : OrFront here.disjuncts ors
  and_front : AndFront here.conjuncts ands
  stands : Stands operand last f
  none : here.negations ≡ 0
  is : symbols ≡ outer ++ (ors ++ (ands ++ last))

abbrev Reached : Option Stage → List Symbol → Type 0
Reached None symbols = Unit {0}
Reached (Some (awaits around here)) symbols = Awaited around here symbols
Reached (Some (has around here f)) symbols = Standing around here f symbols

conjoined-stands : (c : Option Formula) (ands last : List Symbol) (f : Formula) → AndFront c ands
    → Stands operand last f → Stands conjunction (ands ++ last) (conjoined c f)
conjoined-stands None ands last f front stands = subst (λ (ws : List Symbol). Stands conjunction (ws ++ last) f) (sym front) (one_operand last f stands)
conjoined-stands (Some c) ands last f front stands =
    subst (λ (ws : List Symbol). Stands conjunction ws (both c f))
    (sym (ap (λ (ws : List Symbol). ws ++ last) front.2 ∙ append_assoc front.0 (symbol.And ∷ []) last))
    (joined front.0 last c f front.1 stands)

disjoined-stands : (d : Option Formula) (ors last : List Symbol) (f : Formula) → OrFront d ors
    → Stands conjunction last f → Stands disjunction (ors ++ last) (disjoined d f)
disjoined-stands None ors last f front stands = subst (λ (ws : List Symbol). Stands disjunction (ws ++ last) f) (sym front) (one_conjunction last f stands)
disjoined-stands (Some d) ors last f front stands =
    subst (λ (ws : List Symbol). Stands disjunction ws (either d f))
    (sym (ap (λ (ws : List Symbol). ws ++ last) front.2 ∙ append_assoc front.0 (symbol.Or ∷ []) last))
    (parted front.0 last d f front.1 stands)

negated_by-stands : (n : ℕ) (symbols : List Symbol) (f : Formula) → Stands operand symbols f
    → Stands operand (replicate n symbol.Not ++ symbols) (negated_by n f)
negated_by-stands zero symbols f stands = stands
negated_by-stands (suc n) symbols f stands = negated (replicate n symbol.Not ++ symbols) (negated_by n f) (negated_by-stands n symbols f stands)

completed-reached : (around : List Group) (here : Group) (f : Formula) (outer inner last symbols : List Symbol)
    → Around around outer → Front here inner → Stands operand last f → symbols ≡ (outer ++ inner) ++ last
    → Standing around (record here { negations = 0 }) (negated_by here.negations f) symbols
completed-reached around here f outer inner last symbols outside front stands same = grind (arith, negated_by-stands, append_assoc)

replicate_last : (n : ℕ) (w : Symbol) → replicate n w ++ w ∷ [] ≡ replicate (n + 1) w
replicate_last zero w = refl
replicate_last (suc n) w = let next : suc n + 1 ≡ suc (n + 1) = omega arith in rw next (ap (λ (rest : List Symbol). w ∷ rest) (replicate_last n w))

negation-reached : (around : List Group) (here : Group) (symbols : List Symbol) → Awaited around here symbols
    → Awaited around (record here { negations = here.negations + 1 }) (symbols ++ symbol.Not ∷ [])
negation-reached around here symbols before = grind (arith, replicate_last, append_assoc)

group-reached : (around : List Group) (here : Group) (symbols : List Symbol) → Awaited around here symbols
    → Awaited (here ∷ around) empty_group (symbols ++ symbol.Open ∷ [])
group-reached around here symbols before = grind (arith, append-nil (symbols ++ symbol.Open ∷ []))

and-reached : (around : List Group) (here : Group) (f : Formula) (symbols : List Symbol)
    → Standing around here f symbols
    → Awaited around (record here { conjuncts = Some (conjunction_of here f) }) (symbols ++ symbol.And ∷ [])
and-reached around here f symbols before =
    record {
      outer = before.outer;
      inner = before.ors ++ ((before.ands ++ before.last) ++ symbol.And ∷ []);
      outside = before.outside;
      front = record {
        ors = before.ors;
        ands = (before.ands ++ before.last) ++ symbol.And ∷ [];
        or_front = before.or_front;
        and_front = (before.ands ++ before.last, conjoined-stands here.conjuncts before.ands before.last f before.and_front before.stands, refl);
        is = sym (append-nil (before.ors ++ ((before.ands ++ before.last) ++ symbol.And ∷ []))) ∙ ap
            (λ (n : ℕ). (before.ors ++ ((before.ands ++ before.last) ++ symbol.And ∷ [])) ++ replicate n symbol.Not)
            (sym before.none);
      };
      is = ap (λ (ws : List Symbol). ws ++ symbol.And ∷ []) before.is ∙ simp (append_assoc) refl;
    }

whole-stands : (around : List Group) (here : Group) (f : Formula) (symbols : List Symbol)
    (before : Standing around here f symbols)
    → Stands disjunction (before.ors ++ (before.ands ++ before.last)) (disjunction_of here f)
whole-stands around here f symbols before =
    disjoined-stands here.disjuncts before.ors (before.ands ++ before.last) (conjunction_of here f) before.or_front
    (conjoined-stands here.conjuncts before.ands before.last f before.and_front before.stands)

or-reached : (around : List Group) (here : Group) (f : Formula) (symbols : List Symbol)
    → Standing around here f symbols
    → Awaited around (record { disjuncts = Some (disjunction_of here f); conjuncts = None; negations = 0 })
    (symbols ++ symbol.Or ∷ [])
or-reached around here f symbols before = grind (
  arith,
  whole-stands around here f symbols before,
  append-nil (((before.ors ++ (before.ands ++ before.last)) ++ symbol.Or ∷ []) ++ []),
  append-nil ((before.ors ++ (before.ands ++ before.last)) ++ symbol.Or ∷ []),
  append_assoc,
)

close-reached : (around : List Group) (here : Group) (f : Formula) (symbols : List Symbol)
    → Standing around here f symbols
    → Reached (closed_into around (disjunction_of here f)) (symbols ++ symbol.Close ∷ [])
close-reached [] here f symbols before = tt
close-reached (g ∷ around) here f symbols before =
    let whole : List Symbol = before.ors ++ (before.ands ++ before.last) in
    completed-reached around g (disjunction_of here f) before.outside.0 before.outside.1
    (symbol.Open ∷ (whole ++ symbol.Close ∷ [])) (symbols ++ symbol.Close ∷ []) before.outside.2 before.outside.3
    (enclosed whole (disjunction_of here f) (whole-stands (g ∷ around) here f symbols before))
    (ap (λ (ws : List Symbol). ws ++ symbol.Close ∷ []) (before.is ∙ ap (λ (ws : List Symbol). ws ++ whole) before.outside.4) ∙ simp (append_assoc) refl)

reached-taken : (stage : Stage) (symbols : List Symbol) (next : Symbol) → Reached (Some stage) symbols → Reached (next_stage stage next) (symbols ++ next ∷ [])
reached-taken (awaits around here) symbols (symbol.Is place value) before =
    completed-reached around here (is place value) before.outer before.inner (symbol.Is place value ∷ [])
    (symbols ++ symbol.Is place value ∷ []) before.outside before.front (atom place value)
    (ap (λ (ws : List Symbol). ws ++ symbol.Is place value ∷ []) before.is)
reached-taken (awaits around here) symbols symbol.Not before = negation-reached around here symbols before
reached-taken (awaits around here) symbols symbol.Open before = group-reached around here symbols before
reached-taken (has around here f) symbols symbol.And before = and-reached around here f symbols before
reached-taken (has around here f) symbols symbol.Or before = or-reached around here f symbols before
reached-taken (has around here f) symbols symbol.Close before = close-reached around here f symbols before
reached-taken x symbols y before = tt

reached-taken_from : (stage : Option Stage) (symbols : List Symbol) (next : Symbol) → Reached stage symbols
    → Reached (taken_from stage next) (symbols ++ next ∷ [])
reached-taken_from stage symbols next before = grind (arith, reached-taken)

reached-all_taken : (stage : Option Stage) (before symbols : List Symbol) → Reached stage before → Reached (all_taken stage symbols) (before ++ symbols)
reached-all_taken stage before [] reached = subst (λ (ws : List Symbol). Reached stage ws) (sym (append-nil before)) reached
reached-all_taken stage before (w ∷ symbols) reached =
    subst (λ (ws : List Symbol). Reached (all_taken (taken_from stage w) symbols) ws)
    (append_assoc before (w ∷ []) symbols)
    (reached-all_taken (taken_from stage w) (before ++ w ∷ []) symbols (reached-taken_from stage before w reached))

found-at : (stage : Option Stage) (symbols : List Symbol) (f : Formula) → Reached stage symbols
    → or_misplaced (formula_at stage) ≡ Ok f → IsConditionOf symbols f
found-at (Some (has [] here g)) symbols f reached same =
    let formula : disjunction_of here g ≡ f = cc in
    let all : symbols ≡ reached.ors ++ (reached.ands ++ reached.last) =
    reached.is ∙ ap (λ (ws : List Symbol). ws ++ (reached.ors ++ (reached.ands ++ reached.last))) reached.outside in
    subst (λ (ws : List Symbol). Stands disjunction ws f) (sym all)
    (subst (λ (h : Formula). Stands disjunction (reached.ors ++ (reached.ands ++ reached.last)) h) formula
    (whole-stands [] here g symbols reached))
found-at x symbols f reached same = absurd (cc)

-- symbols that are read as a formula are a condition of it
pub finished-found : (symbols : List Symbol) (f : Formula) → formula_of_symbols symbols ≡ Ok f → IsConditionOf symbols f
unfolding formula_of_symbols stage_after
finished-found symbols f same =
    found-at (stage_after symbols) symbols f (reached-all_taken (Some (awaits [] empty_group)) [] symbols (record {
      outer = [];
      inner = [];
      outside = refl;
      front = record { ors = []; ands = []; or_front = refl; and_front = refl; is = refl };
      is = refl;
    })) same
