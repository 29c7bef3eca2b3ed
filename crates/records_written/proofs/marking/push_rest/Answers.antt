use Rattle.std.proofs.Common.{◌==◌, ◌≡◌}
use Rattle.std.proofs.lemmas.Result.{on_ok_weaker}
use Rattle.records_written.specs.PartyLeaves.{has_mark}
use Rattle.records_written.proofs.MarkLaws.{rest-parts}
use Rattle.records_written.proofs.marking.push_rest.Goals as goal

pub returns-in_ok-push_part : goal.returns-in_ok-push_part
returns-in_ok-push_part c = on_ok_weaker c.push_part-then-mark-cut.result
    (λ was d b.
    (let same : c.args.mark.position ≡ c.args.cut.position = cc in
    let now = was d b in
    let before = c.in_ok-push_part.ensures d b in
    let low = c.part_before.ensures.has b in
    let high = c.part_after.ensures.has b in
    let parts = rest-parts (has_mark c.args.marks.now.items d b) (c.args.cut.position == d) c.args.mark.bytes c.args.cut.bytes b in
    cc))
    c.push_part-then-mark-cut.ensures
