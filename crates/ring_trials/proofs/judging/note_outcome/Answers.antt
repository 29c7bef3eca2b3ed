use Rattle.std.proofs.Common.{[], ◌∷◌, ◌++◌, sym, subst, ap, ◌∙◌, map, Option, Some}
use Rattle.ring_trials.specs.UserChannel.{layout_from}
use Rattle.ring_trials.specs.Trials.{AreNoted, entries_with}
use Rattle.ring_trials.proofs.judging.note_outcome.Goals as goal
use Rattle.step_machine.specs.declared.events.Outcome.{Outcome}
use Rattle.poll_close.specs.Violations.{violation_of}
use Rattle.poll_close.specs.declared.clean.Violation.{Violation}
use Rattle.ring_trials.proofs.JudgingLaws.{noted_entry, noted_before}

-- src/judging.rt:29:1
pub returns-in-None-clause-noted : goal.returns-in-None-clause-noted
returns-in-None-clause-noted c es noted =
    subst (λ (o : Outcome). AreNoted c.args.channel.now (entries_with es o) c.note_entry.result c.note_entry.new.shares) (sym c.in-Did.is)
    (noted_entry c.args.channel.now es c.in-Did.entry c.args.found c.note_entry.result c.args.shares.now c.note_entry.new.shares noted c.in-None.is
    (λ notes. c.note_entry.ensures.violation es notes
    ∙ ap (λ xs. violation_of (layout_from c.args.channel.now) (map (λ v. v.items) xs) es c.in-Did.entry) c.deref.ensures.value)
    (λ notes none. c.note_entry.ensures.notes es notes none) c.note_entry.ensures.count)

-- src/judging.rt:29:1
pub returns-in-Some-clause-noted : goal.returns-in-Some-clause-noted
returns-in-Some-clause-noted c es noted =
    subst (λ (o : Outcome). AreNoted c.args.channel.now (entries_with es o) (Some c.in-Some.first) c.args.shares.now) (sym c.in-Did.is)
    (subst (λ (b : Option Violation). AreNoted c.args.channel.now (es ++ c.in-Did.entry ∷ []) b c.args.shares.now) c.in-Some.is
    (noted_before c.args.channel.now es c.in-Did.entry c.args.found c.in-Some.first c.args.shares.now noted c.in-Some.is))
