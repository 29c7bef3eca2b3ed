use Rattle.std.proofs.Common.{◌+◌, List, Option, ℕ, take, get_or, subst, sym}
use Rattle.std.proofs.lemmas.List.{take_all}
use Rattle.std.proofs.lemmas.List.Folds.{list_any_more}
use Rattle.records_written.specs.{Mark, is_mark, IsLowest}
use Rattle.records_written.proofs.MarkLaws.{no_mark, lowest-more}
use Rattle.records_written.proofs.marking.lowest.Goals as goal

pub loop-mark-preserved : goal.loop-mark-preserved
loop-mark-preserved c =
    let i = c.loop-mark.mark-index in
    let more = lowest-more (take c.loop-mark.mark-index c.args.marks.now) (take (c.loop-mark.mark-index + 1) c.args.marks.now)
    (get_or c.args.marks.now c.loop-mark.mark-index no_mark)
    (λ d b. list_any_more (λ m. is_mark m d b) c.args.marks.now c.loop-mark.mark-index no_mark c.loop-mark-test.true)
    c.loop-mark.found c.loop-mark.invariant in
    subst (λ (o : Option ℕ). IsLowest (take (c.loop-mark.mark-index + 1) c.args.marks.now) o) (sym c.lower-found.ensures) more

pub returns : goal.returns
returns c = subst (λ (ms : List Mark). IsLowest ms c.loop-mark.found) (take_all c.loop-mark.mark-index c.args.marks.now c.loop-mark-test.false)
    c.loop-mark.invariant
