use Rattle.std.proofs.Common.{◌≡◌, ◌++◌, [], ◌∷◌, true, false, sym, ◌∙◌, ap, append-nil}
use Rattle.ztso_axioms.proofs.Walks.{stores_more}
use Rattle.ztso_axioms.proofs.performing.stores_of.Goals as goal
use Rattle.ztso_axioms.proofs.performing.stores_of.Goals.{then-is_store_of+in_ok-push, else-is_store_of}

pub loop-place-preserved : goal.loop-place-preserved
loop-place-preserved c =
    elim c.if-is_store_of.branch [
      | then-is_store_of+in_ok-push w ↦
          let more = stores_more c.args.hart c.args.entries.now c.loop-place.place _ true c.loop-place-test.true
          (sym c.is_store_of.ensures ∙ w.if-is_store_of.true) in
          let pushed : w.push.new.self.items ≡ c.loop-place.places.items ++ c.loop-place.place ∷ [] = w.in_ok-push.ensures.items in
          let same : c.if-is_store_of.places.items ≡ w.push.new.self.items = rw w.places-is in
          same ∙ pushed ∙ ap (λ zs. zs ++ c.loop-place.place ∷ []) c.loop-place.invariant ∙ sym more
      | else-is_store_of w ↦
          let more = stores_more c.args.hart c.args.entries.now c.loop-place.place _ false c.loop-place-test.true
          (sym c.is_store_of.ensures ∙ w.if-is_store_of.false) in
          let same : c.if-is_store_of.places.items ≡ c.loop-place.places.items = rw w.places-is in
          same ∙ c.loop-place.invariant ∙ sym (append-nil _) ∙ sym more
    ]
