use Rattle.std.proofs.Common.{◌≡◌, length}
use Rattle.std.specs.List.{list_all}
use Rattle.queue_certificates.specs.Filled.{is_filled_after}
use Rattle.queue_checker.proofs.filled.are_filled_after.Given as goal

abbrev pub invariant-numbers : goal.invariant-numbers
invariant-numbers l = let s = l.sending in let is = is_filled_after s.ranges.now s.queue s.fields.now s.stored.now s.slots.now s.effect l.position in
    list_all is l.numbers ≡ list_all is l.initial.numbers

abbrev pub decreases-numbers : goal.decreases-numbers
decreases-numbers l = length l.numbers
