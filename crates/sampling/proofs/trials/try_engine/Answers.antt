use Rattle.drawn_runs.specs.Samples.{runs_of}
use Rattle.engine_support.proofs.Endings.{ended}
use Rattle.sampling.specs.{IsTryAnswer, name_of_run, text_and_good}
use Rattle.sampling.proofs.trials.try_engine.Goals as goal

pub returns : goal.returns
returns g c =
    ended (IsTryAnswer (runs_of g.row.B g.row.M g.G.Rng.stream c.args.sample.now) c.args.left (g.R.Read.remaining c.args.file.now))
    (text_and_good (name_of_run g.G.Rng.stream) c.args.left) c.made.result c.end_with_tally.result
    g.W.Write.contents c.args.writer.now c.end_with_tally.new.writer
    (c.made.ensures c.args.left) c.end_with_tally.ensures
