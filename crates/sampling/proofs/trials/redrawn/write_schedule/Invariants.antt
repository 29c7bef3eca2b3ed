use Rattle.std.proofs.Common.{◌≡◌, ◌-◌, ◌≤◌, ℕ, List, ◌++◌}
use Rattle.std.specs.Io.KnownBytes.{Appends}
use Rattle.recorder.specs.Drawing.{drawn_words}
use Rattle.recorder.proofs.Runs.{to_write}
use Rattle.drawn_runs.specs.Draws.{events_by}
use Rattle.sampling.specs.Outcomes.{schedule_text}
use Rattle.sampling.proofs.RedrawnLaws.{events_left}
use Rattle.sampling.proofs.trials.redrawn.write_schedule.Given as goal

-- what is written, and what is left to write, is all
abbrev pub invariant-loop : goal.invariant-loop
invariant-loop g l = record {
  few : l.times ≤ l.counter;
  so_far : (out : List ℕ) × Appends (g.W.Write.contents l.fn.writer) (g.W.Write.contents l.writer) out
      × (out ++ to_write l.event l.times (events_left l.draw l.harts l.burst (l.size - l.counter) (g.G.Rng.stream l.generator))
      ≡ schedule_text (events_by l.draw l.harts (drawn_words l.size (g.G.Rng.stream l.fn.generator))));
}
