use Rattle.std.proofs.Common.{◌≡◌, ◌++◌, [], ◌+◌, sym, ◌∙◌, ap, append-nil, take}
use Rattle.std.specs.Prelude.{option_to_list}
use Rattle.ztso_axioms.specs.Performed.{performed_after}
use Rattle.ztso_axioms.proofs.Walks.{performed_step}
use Rattle.ztso_axioms.proofs.performing.performed.Goals as goal
use Rattle.ztso_axioms.proofs.performing.performed.Goals.{in-Some+in_ok-push, in_default}

pub loop-place-preserved : goal.loop-place-preserved
loop-place-preserved c =
    let step : c.loop-place.order.items ++ option_to_list c.performed_at.result
    ≡ performed_after c.args.entries.now [] (take (c.loop-place.place + 1) c.args.entries.now)
    = performed_step c.args.entries.now c.loop-place.place _ c.args.landed.now c.index-landed-place.result
    c.performed_at.result c.loop-place.order.items c.requires.landed c.requires.len c.loop-place-test.true
    c.index-landed-place.is c.performed_at.ensures c.loop-place.invariant in
    elim c.match-performed_at.branch [
      | in-Some+in_ok-push w ↦
          let same : c.match-performed_at.order.items ≡ w.push.new.self.items = rw w.order-is in
          same ∙ w.in_ok-push.ensures.items ∙ ap (λ o. c.loop-place.order.items ++ option_to_list o) (sym w.in-Some.is) ∙ step
      | in_default w ↦
          let same : c.match-performed_at.order.items ≡ c.loop-place.order.items = rw w.order-is in
          same ∙ sym (append-nil c.loop-place.order.items) ∙ ap (λ o. c.loop-place.order.items ++ option_to_list o) (sym w.in_default.is) ∙ step
    ]
