use Rattle.std.proofs.Common.{ℕ, ◌≡◌, true, None, Some, Ok, Err, List, sym, ap, ◌∙◌, subst}
use Rattle.std.specs.Prelude.{Option, Result, IfOk, OnOk, if◌then◌else◌}
use Rattle.step_machine.specs.declared.events.Event.{Event}
use Rattle.step_machine.specs.Names.{OpeningValue, History, Run, at_opening}
use Rattle.step_machine.proofs.Running.{run-one}
use Rattle.queue_parties.specs.Parties.{QueueCounts}
use Rattle.queue_layouts.specs.declared.AnyQueue.{AnyQueue}
use Rattle.ownership_runs.specs.{Loss, Violation, first_loss, first_ownership_violation, judged_loss, loss_after}
use Rattle.ownership_runs.proofs.loss_runs.judged_loss.Goals as goal

-- of two runs of the same events, which are one, the first has the violation, and of the second the loss is asked
module _ (B M : ℕ) (o : OpeningValue) (q : AnyQueue) (start : QueueCounts) (events : List Event) (t : History) (b : Violation) (described : b.described ≡ true)
    (some : Some b ≡ first_ownership_violation q start t.entries) (run : Run B M o events t) where
  lost-after : {E : Type 0} → (u : History) (r : Result (Option Loss) E) → OnOk r (Run B M o events u)
      → IfOk r (λ found. found ≡ first_loss (Some b.place) q o start u.entries) → IfOk r (λ found. found ≡ judged_loss true q o start u.entries)
  lost-after u (Err e) other found = tt
  lost-after u (Ok found) other is = is
      ∙ ap (λ r. if r then first_loss (Some b.place) q o start u.entries else None) (sym described)
      ∙ ap (loss_after q o start u.entries)
      (some ∙ ap (λ (h : History). first_ownership_violation q start h.entries) (run-one B M (at_opening o) events t u run other))

pub returns-then-violation-clause-found : goal.returns-then-violation-clause-found
returns-then-violation-clause-found g c =
    let o = c.args.machine.now.history.opening in
    let t = c.judge.new.machine.history in
    let u = c.first_loss-then-violation.new.machine.history in
    let r = c.first_loss-then-violation.result in
    let same = c.judge.ensures.opening in
    let q = c.args.queue.now in
    let start = c.args.start in
    let b = c.in-Some.violation in
    subst (λ broken. IfOk r (λ found. found ≡ judged_loss broken q o start u.entries)) (sym c.if-not-broken.false)
    (lost-after g.row.B g.row.M o q start c.args.events.now t b c.if-violation.true (sym c.in-Some.is ∙ c.in_ok-judge.ensures.found)
    c.in_ok-judge.ensures.run u r
    (subst (λ x. OnOk r (Run g.row.B g.row.M x c.args.events.now u)) same c.first_loss-then-violation.ensures.run)
    (subst (λ x. IfOk r (λ found. found ≡ first_loss (Some b.place) q x start u.entries)) same c.first_loss-then-violation.ensures.found))
