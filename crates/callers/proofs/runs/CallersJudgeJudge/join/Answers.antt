use Rattle.std.proofs.Common.{refl, arith}
use Rattle.callers.proofs.Counting.{both_counted, few_unfinished}
use Rattle.callers.proofs.runs.CallersJudgeJudge.join.Goals as goal

pub overflow_add-counts : goal.overflow_add-counts
overflow_add-counts g c =
    let it = c.args.self.now in
    let one = few_unfinished g.row.B g.row.M it.test.now.opening it.located c.requires.0 c.args.counts.now c.requires.3 in
    let other = few_unfinished g.row.B g.row.M it.test.now.opening it.located c.requires.1 c.args.later c.requires.4 in
    omega (arith, one, other, c.requires.2)

pub returns : goal.returns
returns g c all more counted others =
    both_counted g.row.B g.row.M c.args.self.now.test.now.opening c.args.self.now.located all more c.args.counts.now c.args.later _ counted others
    c.both-counts.ensures refl
