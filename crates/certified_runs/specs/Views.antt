-- What a hart reads at each byte, and what an access of its own makes of that.
use Rattle.std.specs.Prelude.{ℕ, ◌≡◌, ◌+◌, List}
use Rattle.memory.specs.Writes.{write, byte_after, joined}
use Rattle.queue_parties.specs.Positions.{IsInBytes}
use Rattle.step_machine.specs.Access.{Access, load, store, exchange}
use Rattle.step_machine.specs.History.{OpeningValue}
use Rattle.step_machine.specs.Entries.{read_byte}
use Rattle.step_machine.specs.declared.events.Entry.{Entry}

-- what a hart reads at each byte: its own pending stores over memory
abbrev pub View : Type 0
View = ℕ → ℕ

abbrev pub view_of : OpeningValue → List Entry → (h : ℕ) → View
view_of o es h = λ x. read_byte o es h x

abbrev pub number_seen : View → (a width : ℕ) → ℕ
number_seen m a width = joined (λ i. m (a + i)) width

-- an access reads what its hart's view says, and leaves this view of its own
abbrev pub ReadsFrom : View → Access → Type 0
ReadsFrom m (load a width v) = v ≡ number_seen m a width
ReadsFrom m (exchange a old new) = old ≡ number_seen m a 4
ReadsFrom m other = Unit {0}

-- an access loads the byte at x
abbrev pub LoadsByte : Access → (x : ℕ) → Type 0
LoadsByte (load a width v) x = IsInBytes a width x
LoadsByte (exchange a old new) x = IsInBytes a 4 x
LoadsByte other x = ⊥

abbrev pub byte_then : Access → (x b : ℕ) → ℕ
byte_then (store w) x b = byte_after w x b
byte_then (exchange a old new) x b = byte_after (write a 4 new) x b
byte_then other x b = b

abbrev pub view_then : Access → View → View
view_then y m = λ x. byte_then y x (m x)
