use Rattle.std.proofs.Common.{◌<◌, take, ℕ}
use Rattle.std.specs.Prelude.{All, MatchOption}
use Rattle.step_machine.specs.Entries.{hart_of}
use Rattle.step_machine.specs.declared.events.Entry.{Entry}
use Rattle.ztso_axioms.specs.inner.Landings.{IsNextHart}
use Rattle.ztso_axioms.proofs.performing.next_hart.Given as goal

abbrev pub invariant-loop-entry : goal.invariant-loop-entry
invariant-loop-entry l = MatchOption l.next (All (λ (e : Entry). hart_of e < l.from) (take l.entry-index l.entries))
    (λ (h : ℕ). IsNextHart (take l.entry-index l.entries) l.from h)
