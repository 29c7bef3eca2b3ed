use Rattle.engine_support.proofs.Endings.{ended}
use Rattle.code_engines.specs.Steps.{IsStepsAnswer}
use Rattle.code_engines.proofs.steps.steps_engine.Goals as goal

pub returns : goal.returns
returns g c =
    ended (IsStepsAnswer g.row.B g.row.M (g.R.Read.remaining c.args.reader.now)) _ c.made.result
    c.end_with.result g.W.Write.contents _ _ c.made.ensures c.end_with.ensures
