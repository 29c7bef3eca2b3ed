use Rattle.std.proofs.Common.{◌≡◌, ℕ, false, take, arith, refl, sym, ◌∙◌, subst}
use Rattle.std.specs.Prelude.{All}
use Rattle.std.proofs.lemmas.List.{take_all}
use Rattle.std.proofs.lemmas.List.Elements.{All-more}
use Rattle.ztso_axioms.specs.Axioms.{is_preserved}
use Rattle.ztso_axioms.proofs.checking.may_precede.Goals as goal

pub loop-other-preserved : goal.loop-other-preserved
loop-other-preserved c =
    All-more (λ (p : ℕ). is_preserved c.args.entries.now p c.args.op ≡ false) c.args.others.now
    c.loop-other.other-index c.other-item.result c.loop-other-test.true c.loop-other.invariant
    (subst (λ (x : ℕ). is_preserved c.args.entries.now x c.args.op ≡ false) c.other-item.is
    (sym c.is_kept.ensures ∙ c.if-is_kept.false))

pub returns : goal.returns
returns c =
    let all : take c.loop-other.other-index c.args.others.now ≡ c.args.others.now = take_all _ _ (omega arith) in
    (λ so. subst (All (λ (p : ℕ). is_preserved c.args.entries.now p c.args.op ≡ false)) all c.loop-other.invariant, λ a. refl)
