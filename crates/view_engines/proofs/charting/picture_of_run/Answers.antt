use Rattle.std.proofs.Common.{◌∙◌, ap, length, sym, arith}
use Rattle.step_machine.specs.History.{OpeningValue, history_of}
use Rattle.litmus_reader.specs.Headings.{heading_of}
use Rattle.engine_support.specs.inner.{text_and_value}
use Rattle.view_engines.specs.Chart.{drawing}
use Rattle.view_engines.proofs.ChartLaws.{too_many}
use Rattle.view_engines.proofs.charting.picture_of_run.Goals as goal

pub returns-then-len-gt-MAX_ROWS : goal.returns-then-len-gt-MAX_ROWS
returns-then-len-gt-MAX_ROWS g c parsed ran =
    too_many g.row.B g.row.M (drawing c.args.style c.args.selection) (heading_of c.args.heading.now) c.args.test.now parsed text_and_value
    c.args.machine.now.history c.in_ok-entries.entries.items c.refused.result ran
    (c.in_ok-entries.ensures ∙ c.entries.ensures.value)
    (omega (arith, c.if-len-gt-MAX_ROWS.true, c.len.ensures)) c.refused.ensures

pub about_run-requires : goal.about_run-requires
about_run-requires g c =
    let t = c.args.machine.now.history in
    let entries = ap (history_of t.opening) (sym (c.deref.ensures.value ∙ c.in_ok-entries.ensures ∙ c.entries.ensures.value)) in
    let harts = ap (λ (o : OpeningValue). length o.harts) c.requires.opening in
    let locations = ap (λ (o : OpeningValue). length o.words) c.requires.opening ∙ c.requires.locations in
    (omega arith, (entries, (c.entries.ensures.kept, (harts, (locations, (c.requires.names, c.requires.size))))))
