use Rattle.records_written.proofs.Again.{most-followed}
use Rattle.records_written.proofs.searching.Search.settle.Goals as goal

pub loop-preserved : goal.loop-preserved
loop-preserved c = λ first before. most-followed c.args.graph.now first c.in-Some.n _ c.follow.new.self.marks.items
    (λ m d b. c.in_ok-follow.ensures m d b) (c.loop.invariant first before)
