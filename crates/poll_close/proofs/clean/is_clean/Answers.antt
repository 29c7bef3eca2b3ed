use Rattle.std.proofs.Common.{length, sym, subst, ap, ◌∙◌, arith, take}
use Rattle.poll_close.specs.Violations.{AreNotes}
use Rattle.poll_close.proofs.clean.is_clean.Goals as goal
use Rattle.poll_close.proofs.Notes.{unclean_found, noted_at, whole_new}

-- src/clean.rt:155:24
pub returns-in-Some : goal.returns-in-Some
returns-in-Some c = unclean_found _ _ c.loop-report.report-index _ _ c.loop-report-test.true
    (sym (c.note_report.ensures.violation (take c.loop-report.report-index c.args.reports.now)
    (subst (AreNotes (take c.loop-report.report-index c.args.reports.now)) (sym c.deref_mut.ensures.value) c.loop-report.invariant.notes)) ∙ c.in-Some.is)

-- src/clean.rt:152:5
pub loop-report-preserved : goal.loop-report-preserved
loop-report-preserved c =
    let notes = subst (AreNotes (take c.loop-report.report-index c.args.reports.now)) (sym c.deref_mut.ensures.value) c.loop-report.invariant.notes in
    let none = sym (c.note_report.ensures.violation (take c.loop-report.report-index c.args.reports.now) notes) ∙ c.in-None.is in
    let more = c.note_report.ensures.notes (take c.loop-report.report-index c.args.reports.now) notes c.in-None.is in
    noted_at _ c.args.reports.now c.loop-report.report-index _ c.loop-report.shares.items c.note_report.new.shares _ c.loop-report-test.true
    c.loop-report.invariant none more
    (c.note_report.ensures.count ∙ ap length c.deref_mut.ensures.value)
    (whole_new c.loop-report.shares.len c.note_report.new.shares c.loop-report.shares.items (omega arith) (omega arith))
