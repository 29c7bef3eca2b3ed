use Rattle.std.proofs.Common.{◌≡◌, ◌≤◌, map, vec_len, vec_capacity}
use Rattle.recorder.specs.Drawing.{drawn, drawn_words, left_after}
use Rattle.recorder.proofs.drawing.put.Given as goal

abbrev pub invariant-loop : goal.invariant-loop
invariant-loop g l = record {
  len : vec_len l.events ≡ l.counter;
  room : l.n ≤ vec_capacity l.events;
  so_far : l.events.items ≡ map (drawn l.harts) (drawn_words l.counter (g.R.Rng.stream l.fn.generator));
  left : g.R.Rng.stream l.generator ≡ left_after l.counter (g.R.Rng.stream l.fn.generator);
}
