use Rattle.std.proofs.Common.{◌≡◌, ℕ, List, [], ◌∷◌, ◌++◌, rules, subst}
use Rattle.std.specs.Io.KnownBytes.{Appends}
use Rattle.std.specs.Global.{Vec}
use Rattle.engine_support.specs.{Row, row_line}
use Rattle.engine_support.proofs.OutcomeLines.{line_written, lines_written}
use Rattle.engine_support.proofs.Written.{appends_more, appends_nothing}
use Rattle.engine_support.proofs.outcomes.Outcomes.write_lines.Goals as goal

pub loop-outcome-init : goal.loop-outcome-init
loop-outcome-init g c = ([], appends_nothing _, search rules)

pub loop-outcome-preserved : goal.loop-outcome-preserved
loop-outcome-preserved g c =
    let (out, appends, is) = c.loop-outcome.invariant in
    let test = c.args.test.now in
    let entry : Vec ℕ × Row _ = (c.in-Some.outcome, c.in-Some.row) in
    let next : c.loop-outcome.outcome-iterator ≡ entry ∷ c.next.new.self = search rules in
    let line = row_line g.F.FirstRun.name test entry in
    let written : Appends (g.W.Write.contents c.loop-outcome.writer) (g.W.Write.contents c.write_row.new.writer)
    line =
    rw c.deref.ensures.value at c.in_ok-write_row.ensures in
    (out ++ line, appends_more _ _ _ out line appends written, line_written (row_line g.F.FirstRun.name test) out _ _ entry _ next is)

pub returns : goal.returns
returns g c =
    let (out, appends, is) = c.loop-outcome.invariant in
    let none : c.loop-outcome.outcome-iterator ≡ [] = search rules in
    subst (λ (xs : List ℕ). Appends (g.W.Write.contents c.args.writer.now) (g.W.Write.contents c.loop-outcome.writer) xs)
    (lines_written (row_line g.F.FirstRun.name c.args.test.now) out _ _ none is) appends
