-- The steps of a condition as its symbols come: what is built so far, one more
-- symbol's change to it, and what stands built at a stage.
use Rattle.std.specs.Prelude.{ℕ, ◌+◌, ◌-◌, ◌<◌, Bool, true, false, ◌&&◌, List, [], ◌∷◌, ◌++◌, length, take, replicate, slice_set, Option, Some, None}
use Rattle.std.specs.List.{slice_get}
use Rattle.std.specs.Option.{IfSome}
use Rattle.litmus.specs.declared.symbols.Symbol.{Symbol}
use Rattle.litmus.specs.declared.symbols.Symbol.TheVariants as symbol
use Rattle.litmus.specs.declared.symbols.Step.{Step}
use Rattle.litmus.specs.declared.symbols.Step.TheVariants as step
use Rattle.litmus.specs.declared.symbols.Frame.{Frame}
use Rattle.litmus.specs.Formulas.{Formula, steps_of}
use Rattle.litmus.specs.Drafting.{Group, Stage, awaits, has}

-- the marks of the groups around are outermost first
pub record Build : Type 0 where
  pub steps : List Step
  pub around : List Frame
  pub here : Frame
  pub has_operand : Bool

abbrev pub empty_mark : Frame
empty_mark = record { or_at = None; and_at = None; negations = 0 }

abbrev pub empty_build : Build
empty_build = record { steps = []; around = []; here = empty_mark; has_operand = false }

-- an operator's right side is complete: it knows how far to skip
abbrev pub and_closed : Option ℕ → List Step → List Step
and_closed None steps = steps
and_closed (Some at) steps = slice_set steps at (step.And (length steps - at - 1))

abbrev pub or_closed : Option ℕ → List Step → List Step
or_closed None steps = steps
or_closed (Some at) steps = slice_set steps at (step.Or (length steps - at - 1))

abbrev pub all_closed : Frame → List Step → List Step
all_closed mark steps = or_closed mark.or_at (and_closed mark.and_at steps)

-- the steps are those of an operand, except for its negations
abbrev pub with_operand : List Step → List Frame → Frame → Build
with_operand steps around here = record {
  steps = steps ++ replicate here.negations step.Not;
  around = around;
  here = record { or_at = here.or_at; and_at = here.and_at; negations = 0 };
  has_operand = true;
}

abbrev pub with_negation : Build → Build
with_negation b = record {
  steps = b.steps;
  around = b.around;
  here = record { or_at = b.here.or_at; and_at = b.here.and_at; negations = b.here.negations + 1 };
  has_operand = b.has_operand;
}

abbrev pub with_group : Build → Build
with_group b = record { steps = b.steps; around = b.around ++ b.here ∷ []; here = empty_mark; has_operand = b.has_operand }

abbrev pub with_and : Build → Build
with_and b = record {
  steps = and_closed b.here.and_at b.steps ++ step.And 0 ∷ [];
  around = b.around;
  here = record {
    or_at =
        b.here.or_at;
    and_at = Some (length (and_closed b.here.and_at b.steps));
    negations = b.here.negations;
  };
  has_operand = false;
}

abbrev pub with_or : Build → Build
with_or b = record {
  steps = all_closed b.here b.steps ++ step.Or 0 ∷ [];
  around = b.around;
  here = record { or_at = Some (length (all_closed b.here b.steps)); and_at = None; negations = 0 };
  has_operand = false;
}

abbrev pub with_close : Build → Option Frame → Option Build
with_close b None = None
with_close b (Some mark) = Some (with_operand (all_closed b.here b.steps) (take (length b.around - 1) b.around) mark)

abbrev pub built_at : Bool → Build → Symbol → Option Build
built_at false b (symbol.Is place value) = Some (with_operand (b.steps ++ step.Is place value ∷ []) b.around b.here)
built_at false b symbol.Not = Some (with_negation b)
built_at false b symbol.Open = Some (with_group b)
built_at true b symbol.And = Some (with_and b)
built_at true b symbol.Or = Some (with_or b)
built_at true b symbol.Close = with_close b (slice_get b.around (length b.around - 1))
built_at other b s = None

unfoldable pub built : Build → Symbol → Option Build
built b next = built_at b.has_operand b next

abbrev pub is_empty : List Frame → Bool
is_empty [] = true
is_empty (mark ∷ around) = false

abbrev pub is_finished : Build → Bool
is_finished b = b.has_operand && is_empty b.around

-- the operators whose right side is open are there
pub record IsWithin (steps : ℕ) (mark : Frame) : Type 0 where
  pub or_at : IfSome mark.or_at (λ at. at < steps)
  pub and_at : IfSome mark.and_at (λ at. at < steps)

-- ---- what stands built at a stage

abbrev pub or_steps : Option Formula → List Step
or_steps None = []
or_steps (Some f) = steps_of f ++ step.Or 0 ∷ []

abbrev pub and_steps : Option Formula → List Step
and_steps None = []
and_steps (Some f) = steps_of f ++ step.And 0 ∷ []

abbrev pub steps_around : List Group → List Step
steps_around [] = []
steps_around (g ∷ around) = (steps_around around ++ or_steps g.disjuncts) ++ and_steps g.conjuncts

abbrev pub end_of : ℕ → Option Formula → Option ℕ
end_of start None = None
end_of start (Some f) = Some (start + length (steps_of f))

-- the mark of a group in front of which these steps stand
abbrev pub mark_of : List Step → Group → Frame
mark_of front g = record {
  or_at = end_of (length front) g.disjuncts;
  and_at = end_of (length (front ++ or_steps g.disjuncts)) g.conjuncts;
  negations = g.negations;
}

abbrev pub marks_around : List Group → List Frame
marks_around [] = []
marks_around (g ∷ around) = marks_around around ++ mark_of (steps_around around) g ∷ []

abbrev pub build_of : Stage → Build
build_of (awaits around here) = record {
  steps = steps_around (here ∷ around);
  around = marks_around around;
  here = mark_of (steps_around around) here;
  has_operand = false;
}
build_of (has around here f) = record {
  steps = steps_around (here ∷ around) ++ steps_of f;
  around = marks_around around;
  here = mark_of (steps_around around) here;
  has_operand = true;
}

abbrev pub build_at : Option Stage → Option Build
build_at None = None
build_at (Some stage) = Some (build_of stage)
