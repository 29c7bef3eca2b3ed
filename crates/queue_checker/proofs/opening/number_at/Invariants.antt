use Rattle.std.proofs.Common.{◌≡◌, ◌+◌, ◌^◌}
use Rattle.memory.specs.Writes.{byte_of, joined}
use Rattle.queue_checker.proofs.opening.number_at.Given as goal

abbrev pub invariant-loop-i : goal.invariant-loop-i
invariant-loop-i l = record { number : l.number ≡ joined (λ i. byte_of l.words (l.address + i)) l.i; unit : l.unit ≡ 256 ^ l.i }
