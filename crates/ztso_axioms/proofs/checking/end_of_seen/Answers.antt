-- Nothing is seen past the end, and nothing from a place on where what is there is not seen.
use Rattle.std.proofs.Common.{◌≡◌, ℕ, Bool, ◌+◌, ◌-◌, drop, get_or, sym, ◌∙◌, ap, arith}
use Rattle.std.specs.Prelude.{filter}
use Rattle.std.proofs.lemmas.List.{drop_all}
use Rattle.ztso_axioms.specs.Axioms.{is_seen}
use Rattle.ztso_axioms.proofs.Checked.{none_seen_more}
use Rattle.ztso_axioms.proofs.checking.end_of_seen.Goals as goal

pub loop-place-init : goal.loop-place-init
loop-place-init c =
    ap (filter (is_seen c.args.entries.now c.args.order.now (get_or c.args.order.now c.args.index 0))) (drop_all _ c.args.order.now (omega arith))

pub loop-place-preserved : goal.loop-place-preserved
loop-place-preserved c =
    let seen : ℕ → Bool = is_seen c.args.entries.now c.args.order.now (get_or c.args.order.now c.args.index 0) in
    let more : c.loop-place.place - 1 + 1 ≡ c.loop-place.place = omega arith in
    none_seen_more seen c.args.order.now (c.loop-place.place - 1) (omega arith) (sym c.sees.ensures ∙ c.if-sees.false)
    (ap (λ k. filter seen (drop k c.args.order.now)) more ∙ c.loop-place.invariant)

pub returns-then-sees-clause-seen : goal.returns-then-sees-clause-seen
returns-then-sees-clause-seen c =
    let seen : ℕ → Bool = is_seen c.args.entries.now c.args.order.now (get_or c.args.order.now c.args.index 0) in
    let more : c.loop-place.place - 1 + 1 ≡ c.loop-place.place = omega arith in
    ap (λ k. filter seen (drop k c.args.order.now)) more ∙ c.loop-place.invariant
