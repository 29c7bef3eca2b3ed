use Rattle.std.proofs.Common.{arith}
use Rattle.std.proofs.lemmas.Grind.{common_steps}
use Rattle.std.proofs.lemmas.List.{take_more}
use Rattle.std.proofs.lemmas.List.Folds.{list_any_more}
use Rattle.record_bytes.specs.Ranges.{range_has, one_offset}
use Rattle.record_bytes.proofs.ranges.ranges_without.Goals as goal

pub loop-range-preserved : goal.loop-range-preserved
loop-range-preserved c = (
  grind (
    arith,
    common_steps,
    c.in_ok-push_rest.ensures.exact,
    c.loop-range.invariant.0,
    take_more c.args.ranges.now c.loop-range.range-index (one_offset 0) c.loop-range-test.true,
  ),
  λ b. grind (
    arith,
    c.in_ok-push_rest.ensures.has b,
    c.loop-range.invariant.1 b,
    list_any_more (λ r. range_has r b) c.args.ranges.now c.loop-range.range-index (one_offset 0) c.loop-range-test.true,
  ),
)
