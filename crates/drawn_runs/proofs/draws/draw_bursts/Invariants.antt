use Rattle.std.proofs.Common.{◌≡◌, ◌≤◌, vec_len, vec_capacity}
use Rattle.recorder.specs.Drawing.{left_after}
use Rattle.drawn_runs.proofs.Bursts.{AreInBursts}
use Rattle.drawn_runs.proofs.draws.draw_bursts.Given as goal

abbrev pub invariant-loop : goal.invariant-loop
invariant-loop g l = record {
  len : vec_len l.events ≡ l.counter;
  room : l.n ≤ vec_capacity l.events;
  so_far : AreInBursts l.harts l.counter (g.R.Rng.stream l.fn.generator) l.events.items l.burst;
  left : g.R.Rng.stream l.generator ≡ left_after l.counter (g.R.Rng.stream l.fn.generator);
}
