-- One more symbol, and the end of the symbols: stages against what is built.
use Rattle.std.proofs.Common.{◌≡◌, ◌∙◌, ◌≤◌, ◌<◌, ◌+◌, sym, ap, subst, ℕ, true, false, List, [], ◌∷◌, ◌++◌, length, Option, Some, None, Ok, Err, IfSome, refl}
use Rattle.std.proofs.Common.{arith, length-append}
use Rattle.litmus.specs.{Symbol, Step, Frame, ConditionError, Formula, steps_of, formula_of, formula_of-steps_of, fault_of, Group, Stage, awaits, has}
use Rattle.litmus.specs.{empty_group, disjunction_of, next_stage, taken_from, all_taken, stage_after, formula_at, or_misplaced, with_symbol, symbol_added}
use Rattle.litmus.specs.{formula_of_symbols, Build, all_closed, built, is_empty, is_finished, IsWithin, or_steps, and_steps, steps_around, end_of, mark_of}
use Rattle.litmus.specs.{marks_around, build_of, build_at}
use Rattle.litmus.specs.Drafting.{enclosed}
use Rattle.litmus.proofs.BuildLaws.{built-law, all_closed-law}

pub all_taken-append : (stage : Option Stage) (left right : List Symbol) → all_taken stage (left ++ right) ≡ all_taken (all_taken stage left) right
all_taken-append stage [] right = refl
all_taken-append stage (w ∷ left) right = all_taken-append (taken_from stage w) left right

pub stage_after-push : (symbols : List Symbol) (next : Symbol) → stage_after (symbols ++ next ∷ []) ≡ taken_from (stage_after symbols) next
unfolding stage_after
stage_after-push symbols next = all_taken-append (Some (awaits [] empty_group)) symbols (next ∷ [])

some_same : {A : Type 0} (a b : A) → Some a ≡ Some b → a ≡ b
some_same a b same = cc

ok_some : (o : Option Build) (b : Build) → or_misplaced o ≡ Ok b → o ≡ Some b
ok_some o b same = grind arith

err_none : (o : Option Build) → or_misplaced o ≡ Err tt → o ≡ None
err_none o same = grind arith

built-at : (o : Option Stage) (next : Symbol) (b : Build) → build_at o ≡ Some b → build_at (taken_from o next) ≡ built b next
built-at o next b same = grind (arith, built-law, some_same)

pub built-push : (symbols : List Symbol) (next : Symbol) (b : Build) → build_at (stage_after symbols) ≡ Some b
    → build_at (stage_after (symbols ++ next ∷ [])) ≡ built b next
built-push symbols next b same = ap (λ (o : Option Stage). build_at o) (stage_after-push symbols next) ∙ built-at (stage_after symbols) next b same

added-at : (symbols : List Symbol) (next : Symbol) (o : Option Stage) (b : Build) → build_at o ≡ Some b
    → or_misplaced (with_symbol symbols next o) ≡ Ok (symbols ++ next ∷ [])
added-at symbols next o b same = grind arith

refused-at : (symbols : List Symbol) (next : Symbol) (o : Option Stage) → build_at o ≡ None → or_misplaced (with_symbol symbols next o) ≡ Err tt
refused-at symbols next o same = grind arith

-- a symbol that is built on is recorded
pub push_laid : (symbols : List Symbol) (next : Symbol) (b new : Build) → build_at (stage_after symbols) ≡ Some b
    → or_misplaced (built b next) ≡ Ok new → build_at (stage_after (symbols ++ next ∷ [])) ≡ Some new
push_laid symbols next b new same done = built-push symbols next b same ∙ ok_some (built b next) new done

pub push_added : (symbols : List Symbol) (next : Symbol) (b new : Build) → build_at (stage_after symbols) ≡ Some b
    → or_misplaced (built b next) ≡ Ok new → symbol_added symbols next ≡ Ok (symbols ++ next ∷ [])
unfolding symbol_added
push_added symbols next b new same done = added-at symbols next (stage_after (symbols ++ next ∷ [])) new (push_laid symbols next b new same done)

-- and one that isn't is refused
pub push_refused : (symbols : List Symbol) (next : Symbol) (b : Build) (e : ConditionError)
    → build_at (stage_after symbols) ≡ Some b → IfSome (fault_of e) (λ fault. or_misplaced (built b next) ≡ Err fault)
    → IfSome (fault_of e) (λ fault. symbol_added symbols next ≡ Err fault)
unfolding symbol_added
push_refused symbols next b e same refused = grind (arith, refused-at, built-push, err_none)

-- ---- limits

abbrev Few : ℕ → List Group → Type 0
Few n [] = Unit {0}
Few n (g ∷ around) = (g.negations ≤ n) × Few n around

abbrev FewAt : ℕ → Stage → Type 0
FewAt n (awaits around here) = (here.negations ≤ n) × Few n around
FewAt n (has around here f) = (here.negations ≤ n) × Few n around

abbrev FewAfter : ℕ → Option Stage → Type 0
FewAfter n None = Unit {0}
FewAfter n (Some stage) = FewAt n stage

few-more : (n : ℕ) (around : List Group) → Few n around → Few (n + 1) around
few-more n [] few = tt
few-more n (g ∷ around) few = (omega (arith, few.0), few-more n around few.1)

few-enclosed : (n : ℕ) (around : List Group) (f : Formula) → Few n around → FewAfter (n + 1) (enclosed around f)
few-enclosed n around f few = grind (arith, few-more)

few-taken : (n : ℕ) (stage : Stage) (next : Symbol) → FewAt n stage → FewAfter (n + 1) (next_stage stage next)
few-taken n stage next few = grind (arith, few-more, few-enclosed)

few-taken_from : (n : ℕ) (stage : Option Stage) (next : Symbol) → FewAfter n stage → FewAfter (n + 1) (taken_from stage next)
few-taken_from n stage next few = grind (arith, few-taken)

few-all_taken : (n : ℕ) (stage : Option Stage) (symbols : List Symbol) → FewAfter n stage → FewAfter (n + length symbols) (all_taken stage symbols)
few-all_taken n stage [] few = let same : n ≡ n + 0 = omega arith in subst (λ (m : ℕ). FewAfter m stage) same few
few-all_taken n stage (w ∷ symbols) few = grind (arith, few-taken_from, few-all_taken (n + 1) (taken_from stage w) symbols (few-taken_from n stage w few))

few-at : (n : ℕ) (o : Option Stage) (b : Build) → build_at o ≡ Some b → FewAfter n o → b.here.negations ≤ n
few-at n o b same few = grind (arith, some_same)

pub few_negations : (symbols : List Symbol) (b : Build) → build_at (stage_after symbols) ≡ Some b → b.here.negations ≤ length symbols
unfolding stage_after
few_negations symbols b same = grind (arith, few-all_taken 0 (Some (awaits [] empty_group)) symbols, few-at (0 + length symbols) (stage_after symbols) b same)

-- ---- places of the operators

or-within : (front : List Step) (o : Option Formula) (n : ℕ) → length (front ++ or_steps o) ≤ n → IfSome (end_of (length front) o) (λ at. at < n)
or-within front o n within = grind (arith, length-append)

and-within : (front : List Step) (o : Option Formula) (n : ℕ) → length (front ++ and_steps o) ≤ n → IfSome (end_of (length front) o) (λ at. at < n)
and-within front o n within = grind (arith, length-append)

within-group : (front : List Step) (g : Group) (n : ℕ) → length ((front ++ or_steps g.disjuncts) ++ and_steps g.conjuncts) ≤ n → IsWithin n (mark_of front g)
within-group front g n within = grind (arith, or-within, length-append, and-within)

within-stage : (stage : Stage) → IsWithin (length (build_of stage).steps) (build_of stage).here
within-stage stage = grind (arith, within-group, length-append)

within-at : (o : Option Stage) (b : Build) → build_at o ≡ Some b → IsWithin (length b.steps) b.here
within-at None b same = absurd (cc)
within-at (Some stage) b same = subst (λ (x : Build). IsWithin (length x.steps) x.here) (some_same (build_of stage) b same) (within-stage stage)

pub is_within : (symbols : List Symbol) (b : Build) → build_at (stage_after symbols) ≡ Some b → IsWithin (length b.steps) b.here
is_within symbols b same = within-at (stage_after symbols) b same

-- ---- the end

last_not_empty : (marks : List Frame) (mark : Frame) → is_empty (marks ++ mark ∷ []) ≡ false
last_not_empty [] mark = refl
last_not_empty (m ∷ marks) mark = refl

-- a condition stands complete: these are its formula and its steps
pub record Ends (o : Option Stage) (b : Build) : Type 0 where
  pub formula : Formula
  pub found : or_misplaced (formula_at o) ≡ Ok formula
  pub steps : all_closed b.here b.steps ≡ steps_of formula

ends-at : (stage : Stage) → is_finished (build_of stage) ≡ true → Ends (Some stage) (build_of stage)
ends-at (awaits around here) complete = absurd (cc)
ends-at (has [] here f) complete = record { formula = disjunction_of here f; found = refl; steps = all_closed-law [] here f }
ends-at (has (g ∷ around) here f) complete =
    let open_still : is_empty (marks_around (g ∷ around)) ≡ false =
    last_not_empty (marks_around around) (mark_of (steps_around around) g) in
    absurd (cc)

open-at : (stage : Stage) → is_finished (build_of stage) ≡ false → or_misplaced (formula_at (Some stage)) ≡ Err tt
open-at stage incomplete = grind arith

pub finished_complete : (symbols : List Symbol) (b : Build) → build_at (stage_after symbols) ≡ Some b → is_finished b ≡ true → Ends (stage_after symbols) b
finished_complete symbols b same complete = grind (arith, some_same, ends-at)

pub finished-open : (symbols : List Symbol) (b : Build) → build_at (stage_after symbols) ≡ Some b → is_finished b ≡ false → formula_of_symbols symbols ≡ Err tt
unfolding formula_of_symbols
finished-open symbols b same incomplete = grind (arith, open-at, some_same)

-- the steps of a formula are a condition's
pub steps_again : (steps : List Step) (f : Formula) → steps ≡ steps_of f → steps_of (formula_of steps) ≡ steps
steps_again steps f same = subst (λ (s : List Step). steps_of (formula_of s) ≡ s) (sym same) (ap steps_of (formula_of-steps_of f))

pub formula_again : (steps : List Step) (f : Formula) → steps ≡ steps_of f → formula_of steps ≡ f
formula_again steps f same = ap formula_of same ∙ formula_of-steps_of f

pub condition_steps : (symbols : List Symbol) (b : Build) (steps : List Step)
    → build_at (stage_after symbols) ≡ Some b → is_finished b ≡ true → steps ≡ all_closed b.here b.steps
    → steps_of (formula_of steps) ≡ steps
condition_steps symbols b steps same complete closed = grind (arith, finished_complete symbols b same complete, steps_again steps)

pub finished-steps : (symbols : List Symbol) (b : Build) (steps : List Step) (f : Formula)
    → build_at (stage_after symbols) ≡ Some b → is_finished b ≡ true → steps ≡ all_closed b.here b.steps
    → f ≡ formula_of steps → formula_of_symbols symbols ≡ Ok f
unfolding formula_of_symbols
finished-steps symbols b steps f same complete closed answer = grind (arith, finished_complete symbols b same complete, formula_again steps)
