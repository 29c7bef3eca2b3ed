-- What is built symbol by symbol is what stands built at the stage of the symbols.
use Rattle.std.proofs.Common.{◌≡◌, ◌∙◌, ◌+◌, ◌-◌, sym, ap, ℕ, false, suc, zero, List, [], ◌∷◌, ◌++◌, length, replicate, slice_set, Option, Some, None, refl}
use Rattle.std.proofs.Common.{arith, append_assoc, length-append}
use Rattle.std.specs.List.{slice_get}
use Rattle.std.proofs.Math.Seq.{take-append_seam, set-append_seam}
use Rattle.std.proofs.lemmas.List.{append-nil}
use Rattle.litmus.specs.{Symbol, Step, Frame, Formula, is, steps_of, Group, Stage, awaits, has, negated_by, conjoined, disjoined, conjunction_of}
use Rattle.litmus.specs.{disjunction_of, completed, next_stage, Build, and_closed, or_closed, all_closed, with_operand, with_and, with_or, with_close, built}
use Rattle.litmus.specs.{empty_mark, or_steps, and_steps, steps_around, end_of, mark_of, marks_around, build_of, build_at}
use Rattle.litmus.specs.declared.symbols.Symbol.TheVariants as symbol
use Rattle.litmus.specs.declared.symbols.Step.TheVariants as step

pub replicate_last : (n : ℕ) (s : Step) → replicate n s ++ s ∷ [] ≡ s ∷ replicate n s
replicate_last zero s = refl
replicate_last (suc n) s = ap (λ (rest : List Step). s ∷ rest) (replicate_last n s)

pub steps_of-negated_by : (n : ℕ) (f : Formula) → steps_of (negated_by n f) ≡ steps_of f ++ replicate n step.Not
steps_of-negated_by zero f = sym (append-nil (steps_of f))
steps_of-negated_by (suc n) f = grind (arith, append_assoc, replicate_last, steps_of-negated_by n f)

pub with_operand-completed : (around : List Group) (g : Group) (f : Formula)
    → with_operand (steps_around (g ∷ around) ++ steps_of f) (marks_around around) (mark_of (steps_around around) g)
    ≡ build_of (completed around g f)
with_operand-completed around g f = grind (arith, append_assoc, steps_of-negated_by)

-- the step of an operator learns the length of what follows it
pub set-operator : (front left right : List Step) (old : Step) (placed : ℕ → Step)
    → slice_set ((front ++ (left ++ old ∷ [])) ++ right) (length front + length left)
    (placed (length ((front ++ (left ++ old ∷ [])) ++ right) - (length front + length left) - 1)) ≡ front
    ++ (left ++ placed (length right) ∷ right)
set-operator front left right old placed = grind (
  arith,
  append_assoc front left (old ∷ []),
  append_assoc (front ++ left) (old ∷ []) right,
  append_assoc front left (placed (length right) ∷ right),
  length-append front left,
  length-append (front ++ left) (old ∷ right),
  set-append_seam (front ++ left) old right (placed (length right)),
)

pub and_closed-law : (front : List Step) (c : Option Formula) (f : Formula)
    → and_closed (end_of (length front) c) ((front ++ and_steps c) ++ steps_of f) ≡ front ++ steps_of (conjoined c f)
and_closed-law front None f = ap (λ (s : List Step). s ++ steps_of f) (append-nil front)
and_closed-law front (Some left) f = set-operator front (steps_of left) (steps_of f) (step.And 0) (λ n. step.And n)

pub or_closed-law : (front : List Step) (d : Option Formula) (f : Formula)
    → or_closed (end_of (length front) d) ((front ++ or_steps d) ++ steps_of f) ≡ front ++ steps_of (disjoined d f)
or_closed-law front None f = ap (λ (s : List Step). s ++ steps_of f) (append-nil front)
or_closed-law front (Some left) f = set-operator front (steps_of left) (steps_of f) (step.Or 0) (λ n. step.Or n)

pub all_closed-law : (front : List Step) (g : Group) (f : Formula)
    → all_closed (mark_of front g) (((front ++ or_steps g.disjuncts) ++ and_steps g.conjuncts) ++ steps_of f) ≡ front
    ++ steps_of (disjunction_of g f)
all_closed-law front g f = grind (arith, and_closed-law, or_closed-law)

pub with_and-law : (around : List Group) (here : Group) (f : Formula) → with_and (build_of (has around here f))
    ≡ build_of (awaits around (record here { conjuncts = Some (conjunction_of here f) }))
with_and-law around here f = grind (arith, and_closed-law, append_assoc, length-append)

pub with_or-law : (around : List Group) (here : Group) (f : Formula) → with_or (build_of (has around here f))
    ≡ build_of (awaits around (record { disjuncts = Some (disjunction_of here f); conjuncts = None; negations = 0 }))
with_or-law around here f = grind (arith, all_closed-law, append_assoc, append-nil, length-append)

pub slice_get-last : (marks : List Frame) (mark : Frame) → slice_get (marks ++ mark ∷ []) (length marks) ≡ Some mark
slice_get-last [] mark = refl
slice_get-last (m ∷ marks) mark = slice_get-last marks mark

pub length-last : (marks : List Frame) (mark : Frame) → length (marks ++ mark ∷ []) - 1 ≡ length marks
length-last marks mark = omega (arith, length-append marks (mark ∷ []))

pub with_close-law : (outer : List Group) (g here : Group) (f : Formula)
    → with_close (build_of (has (g ∷ outer) here f))
    (slice_get (marks_around (g ∷ outer)) (length (marks_around (g ∷ outer)) - 1))
    ≡ Some (build_of (completed outer g (disjunction_of here f)))
with_close-law outer g here f = grind (arith, length-last, slice_get-last, take-append_seam, all_closed-law, with_operand-completed)

abbrev opened : List Frame → List Step → Option Build
opened around steps = Some (record { steps = steps; around = around; here = empty_mark; has_operand = false })

pub built-law : (stage : Stage) (next : Symbol) → built (build_of stage) next ≡ build_at (next_stage stage next)
unfolding built
built-law (awaits around here) (symbol.Is place value) = ap (λ (b : Build). Some b) (with_operand-completed around here (is place value))
built-law (awaits around here) symbol.Open =
    ap (opened (marks_around around ++ mark_of (steps_around around) here ∷ []))
    (sym (append-nil (steps_around (here ∷ around))) ∙ sym (append-nil (steps_around (here ∷ around) ++ [])))
built-law (has around here f) symbol.And = ap (λ (b : Build). Some b) (with_and-law around here f)
built-law (has around here f) symbol.Or = ap (λ (b : Build). Some b) (with_or-law around here f)
built-law (has (g ∷ outer) here f) symbol.Close = with_close-law outer g here f
built-law x y = refl
