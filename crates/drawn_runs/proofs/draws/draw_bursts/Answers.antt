use Rattle.std.proofs.Common.{arith, rules}
use Rattle.recorder.proofs.Drawn.{left_more}
use Rattle.drawn_runs.proofs.Bursts.{bursts-none, bursts-more, left-none}
use Rattle.drawn_runs.proofs.draws.draw_bursts.Goals as goal

pub loop-init : goal.loop-init
loop-init g c = record {
  len = search rules;
  room = search rules;
  so_far = bursts-none c.args.harts (g.R.Rng.stream c.args.generator.now) c.reserve.new.self.items (search rules);
  left = left-none (g.R.Rng.stream c.args.generator.now);
}

pub loop-preserved : goal.loop-preserved
loop-preserved g c = record {
  len = omega (arith, c.push_reserved.ensures.len, c.loop.invariant.len);
  room = omega (arith, c.push_reserved.ensures.capacity, c.loop.invariant.room);
  so_far = bursts-more c.args.harts c.loop.counter c.next_u32.result (g.R.Rng.stream c.args.generator.now)
      (g.R.Rng.stream c.loop.generator) (g.R.Rng.stream c.next_u32.new.self) c.loop.events.items c.push_reserved.new.self.items
      c.loop.burst c.next-event.result c.loop.invariant.so_far c.loop.invariant.left c.next_u32.ensures c.next-event.ensures
      c.push_reserved.ensures.items;
  left = left_more c.loop.counter c.next_u32.result (g.R.Rng.stream c.args.generator.now)
      (g.R.Rng.stream c.loop.generator) (g.R.Rng.stream c.next_u32.new.self) c.loop.invariant.left c.next_u32.ensures;
}
