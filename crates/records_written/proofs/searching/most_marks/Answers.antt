use Rattle.std.proofs.Common.{ℕ, ◌<◌, sym, subst}
use Rattle.records_written.proofs.Again.{most-opened}
use Rattle.records_written.proofs.searching.most_marks.Goals as goal

pub returns : goal.returns
returns c = c.in_ok-settle.ensures c.args.first (most-opened c.args.graph.now c.args.first _
    (λ n d b short. c.in_ok-opened.ensures n d b (subst (λ (m : ℕ). n < m) (sym c.requires) short)))
