use Rattle.std.proofs.Common.{◌≡◌, ◌*◌}
use Rattle.recorder.specs.Drawing.{left_after}
use Rattle.drawn_runs.specs.Draws.{schedule_by}
use Rattle.judged_runs.specs.Finding.{AreAllGood}
use Rattle.judged_runs.proofs.finding.JudgedRunsTrials.make.Given as goal

-- the runs before this one are good, and counted
abbrev pub invariant-loop-number : goal.invariant-loop-number
invariant-loop-number g l = record {
  stands : g.J.Judge.stands l.self.judge.now l.bench;
  good : AreAllGood (g.J.Judge.is_good l.self.judge.now) (g.J.Judge.counts l.self.judge.now)
      (schedule_by l.self.draw (g.J.Judge.harts l.self.judge.now) l.self.size (g.G.Rng.stream l.self.generator.now)) l.first l.number l.tally;
  left : g.G.Rng.stream l.there ≡ left_after (l.number * l.self.size) (g.G.Rng.stream l.self.generator.now);
}
