use Rattle.std.proofs.Common.{◌≡◌, Result}
use Rattle.litmus.specs.LitmusTests.{LitmusTest}
use Rattle.recorder.specs.Versions.{ScheduleValue}
use Rattle.engine_support.specs.declared.fault.Refusal.{Refusal}
use Rattle.engine_support.specs.Engines.{Output}
use Rattle.view_engines.specs.Shrink.{AreOfOneKind, IsShrink}
use Rattle.engine_support.proofs.InputLaws.{alike_by_schedule}
use Rattle.view_engines.proofs.ShrinkLaws.{alike_run, of_one_kind}
use Rattle.view_engines.proofs.laws.shrinks_alike.Goals as goal

pub returns-clause-run : goal.returns-clause-run
returns-clause-run c = alike_run

pub returns-clause-inputs : goal.returns-clause-inputs
returns-clause-inputs c B M =
    alike_by_schedule AreOfOneKind (λ (r s : Refusal) (e : r.number ≡ s.number). e) (IsShrink B M)
    (λ (q : LitmusTest) (parsed : ScheduleValue) (a b : Result Output Refusal) is other. of_one_kind a b (alike_run B M q parsed a b is other))
