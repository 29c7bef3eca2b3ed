use Rattle.std.proofs.Common.{◌≡◌, false, []}
use Rattle.poll_close.specs.{base_of, layout_of, stays_within}
use Rattle.poll_close.proofs.clean.stays_within.Given as goal

abbrev pub invariant-loop-block : goal.invariant-loop-block
invariant-loop-block l = (l.begin ≡ base_of (layout_of l.fn.place []) l.block)
    × (stays_within (layout_of l.fn.place []) l.block l.hart l.addr l.width ≡ false)
