use Rattle.std.proofs.Common.{◌≡◌, length}
use Rattle.drawn_runs.specs.Samples.{runs_of}
use Rattle.certifying.specs.Trials.{QueuesKeep}
use Rattle.certifying.proofs.trials.trial_of.Given as goal

-- the runs keep the protocol of the queues so far
abbrev pub invariant-loop-index : goal.invariant-loop-index
invariant-loop-index g l = record {
  count : length l.kept.items ≡ l.index;
  kept : QueuesKeep (runs_of g.row.B g.row.M g.G.Rng.stream l.sample) l.opening l.certificate 0 l.kept.items;
}
