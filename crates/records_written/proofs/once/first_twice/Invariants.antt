use Rattle.std.proofs.Common.{◌==◌, ◌&&◌, ◌||◌, take}
use Rattle.std.specs.List.{list_any}
use Rattle.record_bytes.specs.Ranges.{has_byte}
use Rattle.records_written.specs.{IsAnswer, ends_at}
use Rattle.records_written.proofs.once.first_twice.Given as goal

abbrev pub invariant-loop-range : goal.invariant-loop-range
invariant-loop-range l = IsAnswer l.graph (λ b. list_any (λ r. has_byte l.mask b && (b == r.first)) (take l.range-index l.mask)) l.found

abbrev pub invariant-loop-state : goal.invariant-loop-state
invariant-loop-state l = IsAnswer l.graph (λ b. list_any (λ r. has_byte l.mask b && (b == r.first)) l.mask
    || (has_byte l.mask b && list_any (λ leaves. list_any (λ s. ends_at s.effect b) leaves) (take l.state-index l.graph))) l.found
