use Rattle.std.proofs.Common.{◌≡◌, ◌<◌, true, length, arith}
use Rattle.records_written.proofs.MarkLaws.{same-more}
use Rattle.records_written.proofs.marking.are_same.Goals as goal

pub loop-i-preserved : goal.loop-i-preserved
loop-i-preserved c =
    let less : c.loop-i.i < length c.args.marks.now = omega arith in
    let short : c.loop-i.i < length c.args.others.now = omega arith in
    let same : c.is_same.result ≡ true = grind (arith, c.if-not-is_same.false, c.if-not-is_same.ensures) in
    same-more c.args.marks.now c.args.others.now c.loop-i.i less short (λ d b. c.is_same.ensures same d b) c.loop-i.invariant
