use Rattle.std.proofs.Common.{◌≡◌, ◌++◌, take}
use Rattle.std.specs.List.{filter}
use Rattle.hart_threads.specs.inner.{counting_entries, keeps}
use Rattle.hart_threads.proofs.diary.is_part.Given as goal

abbrev pub invariant-loop-entry : goal.invariant-loop-entry
invariant-loop-entry g l = counting_entries l.seat.acts l.seat.diary
    ≡ filter (keeps l.seat) (take l.entry-index l.entries) ++ counting_entries l.seat.acts l.rest
