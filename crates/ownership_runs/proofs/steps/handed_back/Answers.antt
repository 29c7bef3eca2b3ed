use Rattle.std.proofs.Common.{ℕ, ◌≡◌, ◌+◌, ◌-◌, ◌*◌, ◌^◌, sym, ◌∙◌, subst, arith}
use Rattle.ownership_runs.specs.inner.Bounds.{STEP, AreCountsWithin}
use Rattle.ownership_runs.proofs.Stepping.{handed-here, handed-later}
use Rattle.ownership_runs.proofs.steps.handed_back.Goals as goal

pub returns-then-hands_back : goal.returns-then-hands_back
returns-then-hands_back c = sym (handed-here c.args.queue.now c.args.position c.loop-step.counts c.args.steps.now c.loop-step.step-index _ c.loop-step-test.true
    c.after_entry-after.result c.after_entry-after.ensures.value (sym c.hands_back.ensures ∙ c.if-hands_back.true)) ∙ c.loop-step.invariant.rest

pub loop-step-preserved : goal.loop-step-preserved
loop-step-preserved c =
    let bound : ℕ = 2 ^ 64 - 1 + STEP * c.loop-step.step-index in
    let further : bound + STEP ≡ 2 ^ 64 - 1 + STEP * (c.loop-step.step-index + 1) = omega arith in
    record {
      counts = subst (λ (n : ℕ). AreCountsWithin n n c.after_entry-after.result) further
          (c.after_entry-after.ensures.within bound c.loop-step.invariant.counts);
      rest = sym (handed-later c.args.queue.now c.args.position c.loop-step.counts c.args.steps.now c.loop-step.step-index _ c.loop-step-test.true
          c.after_entry-after.result c.after_entry-after.ensures.value (sym c.hands_back.ensures ∙ c.if-hands_back.false)) ∙ c.loop-step.invariant.rest;
    }
