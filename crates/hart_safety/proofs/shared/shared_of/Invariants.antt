use Rattle.std.proofs.Common.{◌≡◌}
use Rattle.queue_checker.specs.Flaws.{first_below}
use Rattle.hart_safety.specs.Shared.{shares_below, unbounded_of}
use Rattle.hart_safety.proofs.shared.shared_of.Given as goal

abbrev pub invariant-loop-place : goal.invariant-loop-place
invariant-loop-place l = record {
  shares : l.shares ≡ shares_below l.opening l.certificate l.place;
  unbounded : l.unbounded ≡ first_below l.place (unbounded_of l.opening l.certificate);
}
