use Rattle.std.proofs.Common.{◌≡◌, [], get_or}
use Rattle.std.specs.List.{list_all}
use Rattle.queue_certificates.specs.{all_below, is_filled_after}
use Rattle.queue_checker.proofs.filled.are_so.Given as goal

abbrev pub invariant-loop-i : goal.invariant-loop-i
invariant-loop-i l = let s = l.sending in
    l.all ≡ all_below l.i (λ d. list_all (is_filled_after s.ranges.now s.queue s.fields.now s.stored.now s.slots.now s.effect d) (get_or l.target d []))
