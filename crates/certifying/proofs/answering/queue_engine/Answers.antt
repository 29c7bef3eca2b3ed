use Rattle.drawn_runs.specs.Samples.{runs_of}
use Rattle.engine_support.proofs.Endings.{ended}
use Rattle.certifying.specs.Answers.{IsQueueAnswer}
use Rattle.certifying.specs.Questions.{questions_by}
use Rattle.certifying.proofs.answering.queue_engine.Goals as goal

pub returns-clause-ends : goal.returns-clause-ends
returns-clause-ends g c =
    ended
    (IsQueueAnswer (runs_of g.row.B g.row.M g.G.Rng.stream c.args.sample.now) (questions_by c.args.asked)
    (g.F.Read.remaining c.args.file.now) (g.C.Read.remaining c.args.certificate.now))
    _ c.made.result c.end_with.result g.W.Write.contents _ _ c.made.ensures.made c.end_with.ensures
