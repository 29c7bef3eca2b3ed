use Rattle.std.proofs.Common.{◌≡◌, take}
use Rattle.std.specs.Prelude.{All}
use Rattle.step_machine.specs.Names.{IsOwn, MakesEntries, after_entries}
use Rattle.hart_threads.proofs.diary.makes_diary.Given as goal

abbrev pub invariant-loop-entry : goal.invariant-loop-entry
invariant-loop-entry l = record {
  state : l.hart.state ≡ after_entries l.fn.hart.state (take l.entry-index l.diary);
  mine : All (IsOwn l.number) (take l.entry-index l.diary);
  makes : MakesEntries l.fn.hart.state (take l.entry-index l.diary);
}
