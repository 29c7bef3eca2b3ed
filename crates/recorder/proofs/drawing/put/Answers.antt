use Rattle.std.proofs.Common.{◌++◌, [], ◌∷◌, ap, ◌∙◌, arith}
use Rattle.recorder.specs.Drawing.{drawn_words}
use Rattle.recorder.proofs.Drawn.{left_more, words-more, drawn-harts}
use Rattle.recorder.proofs.drawing.put.Goals as goal

pub loop-preserved : goal.loop-preserved
loop-preserved g c =
    let pushed = c.push_reserved.ensures.items ∙ ap (λ event. c.loop.events.items ++ event ∷ []) c.event_of.ensures in
    record {
      len = omega (arith, c.push_reserved.ensures.len, c.loop.invariant.len);
      room = omega (arith, c.push_reserved.ensures.capacity, c.loop.invariant.room);
      so_far = words-more c.args.harts c.loop.counter c.next_u32.result (g.R.Rng.stream c.args.generator.now)
          (g.R.Rng.stream c.loop.generator) (g.R.Rng.stream c.next_u32.new.self) c.loop.events.items
          c.push_reserved.new.self.items c.loop.invariant.so_far c.loop.invariant.left c.next_u32.ensures pushed;
      left = left_more c.loop.counter c.next_u32.result (g.R.Rng.stream c.args.generator.now)
          (g.R.Rng.stream c.loop.generator) (g.R.Rng.stream c.next_u32.new.self) c.loop.invariant.left
          c.next_u32.ensures;
    }

pub returns-clause-harts : goal.returns-clause-harts
returns-clause-harts g c = rw c.loop.invariant.so_far
    (drawn-harts c.args.harts (drawn_words c.loop.counter (g.R.Rng.stream c.args.generator.now)) c.requires.some_hart
    c.requires.most_harts)
