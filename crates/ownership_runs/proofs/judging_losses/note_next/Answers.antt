use Rattle.std.proofs.Common.{ℕ, ◌≡◌, ◌+◌, ◌-◌, ◌*◌, ◌^◌, List, length, refl, sym, ap, ◌∙◌, subst, arith}
use Rattle.step_machine.specs.declared.events.Entry.{Entry}
use Rattle.step_machine.specs.Names.{access_of, hart_of, read_byte}
use Rattle.ownership_runs.specs.{party_for, loss_since}
use Rattle.ownership_runs.specs.declared.judging_losses.LossNotes.{LossNotes}
use Rattle.ownership_runs.specs.inner.Bounds.{STEP, AreCountsWithin}
use Rattle.ownership_runs.specs.inner.Logging.{logged, answered, logged_by, reader_of}
use Rattle.ownership_runs.specs.inner.LossNoting.{AreLossNotes}
use Rattle.ownership_runs.proofs.LossSteps.{next-notes}
use Rattle.ownership_runs.proofs.judging_losses.note_next.Goals as goal

pub returns-clause-noted : goal.returns-clause-noted
returns-clause-noted g c start es is seen are =
    let M = g.row.M in
    let q = c.args.queue.now in
    let o = c.args.machine.now.history.opening in
    let e = c.args.entry in
    let notes = c.args.notes in
    let new : LossNotes = record { found = c.loss_since-found.result; counts = c.after_entry-counts.result; place = notes.place + 1 } in
    subst (λ (fs : List Entry). AreLossNotes c.args.since M q o start fs c.log_entry.new.log.items new) (sym is)
    (next-notes c.args.since M q c.requires.some_slot o start es e c.args.log.now.items c.log_entry.new.log.items c.args.landing notes new c.requires.none are
    c.requires.within c.requires.hart seen c.in_ok-log_entry.ensures.places
    (c.loss_since-found.ensures ∙ ap (λ ss. loss_since c.args.since q notes.place notes.counts (answered q notes.counts ss) e) c.deref.ensures.value)
    c.after_entry-counts.ensures.value refl
    (λ k x. c.in_ok-log_entry.ensures.logged k x
    ∙ ap (λ (fs : List Entry). logged_by M q (length c.args.log.now.items) (party_for q (hart_of e)) notes.counts.published
    (read_byte o fs (reader_of q (length o.harts) (hart_of e))) c.args.landing (access_of e) (logged q c.args.log.now.items) k x) is))

pub returns-clause-within : goal.returns-clause-within
returns-clause-within g c i within =
    let bound : ℕ = 2 ^ 64 - 1 + STEP * i in
    let further : bound + STEP ≡ 2 ^ 64 - 1 + STEP * (i + 1) = omega arith in
    record {
      counts = subst (λ (n : ℕ). AreCountsWithin n n c.after_entry-counts.result) further (c.after_entry-counts.ensures.within bound within.counts);
      place = omega (arith, within.place);
    }
