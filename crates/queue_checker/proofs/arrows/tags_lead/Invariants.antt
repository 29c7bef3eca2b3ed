use Rattle.std.proofs.Common.{◌≡◌, ◌+◌, get_or}
use Rattle.queue_certificates.specs.{no_share, all_below, covers_share}
use Rattle.queue_checker.proofs.arrows.tags_lead.Given as goal

abbrev pub invariant-loop-i : goal.invariant-loop-i
invariant-loop-i l = l.all ≡ all_below l.i (λ i. covers_share l.state.ranges (get_or l.state.shares (l.count + i) no_share)
    (get_or l.target.shares (l.count + i) no_share) l.forms)
