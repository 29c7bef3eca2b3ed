-- What the machine holds is what its history says. Public clauses carry `IsMachineAt`, as `RepresentsHistory`
-- of `specs/Standing.antt`, and never open it.
use Rattle.std.specs.Prelude.{ℕ, ◌≡◌, ◌*◌, ◌<◌, Some, option_map, length, All}
use Rattle.std.specs.List.{slice_get}
use Rattle.memory.specs.Words.{opened_words}
use Rattle.memory.specs.Writes.{WritesInWord, byte_of}
use Rattle.hart.specs.State.{HartView}
use Rattle.step_machine.specs.History.{History, FitsIn}
use Rattle.step_machine.specs.Legal.{WellFormed, Legal}
use Rattle.step_machine.specs.Entries.{pending, landed, memory_byte, reported}
use Rattle.step_machine.specs.Paths.{opens_as, state_of}
use Rattle.step_machine.specs.inner.Stored.{Stored, buffer_of, FitStored}
use Rattle.step_machine.specs.inner.Config.{Config, Fit, AllHaveRoom, view_state, beginning}
use Rattle.step_machine.specs.Banks.{BankView, IsServed, banked}
use Rattle.step_machine.specs.Placing.{IsMemoryEntry}

-- buffers and words are those that the entries leave of the opening's words, with which the memory opened
pub record StoresRepresent (M : ℕ) (t : History) (s : Stored) : Type 0 where
  pub buffers : (h : ℕ) → buffer_of s h ≡ pending h t.entries
  pub in_words : All WritesInWord (landed t.entries)
  pub opens : s.first ≡ opened_words M t.opening.words
  pub bytes : (a : ℕ) → a < 4 * M → byte_of s.words a ≡ memory_byte t.opening t.entries a

-- harts, buffers and words are those of the history
pub record Represents (M : ℕ) (t : History) (c : Config) : Type 0 where
  pub states : (h : ℕ) → option_map view_state (slice_get c.harts h) ≡ state_of M t h
  pub firsts : (h : ℕ) → option_map beginning (slice_get c.harts h) ≡ option_map (opens_as M) (slice_get t.opening.harts h)
  pub reports : (h : ℕ) (v : HartView) → slice_get c.harts h ≡ Some v → v.reports ≡ reported h t.entries
  pub holds : StoresRepresent M t c.stored

-- a history that is kept, and a machine that holds what it says, with room for n more steps
pub record IsMachineAt (B M : ℕ) (t : History) (c : Config) (n : ℕ) : Type 0 where
  pub fits : FitsIn M t.opening
  pub kept : WellFormed B M t
  pub tied : Represents M t c
  pub fit : Fit M c
  pub count : length c.harts ≡ length t.opening.harts
  pub room : AllHaveRoom n c.harts

-- ---- what a bank holds is what its entries say
-- No public clause names it.

pub record IsBankAt (B M : ℕ) (v : BankView) (s : Stored) : Type 0 where
  pub legal : Legal B (banked v)
  pub memory : All IsMemoryEntry v.entries
  pub holds : StoresRepresent M (banked v) s
  pub fit : FitStored M s
  pub count : length s.buffers ≡ length v.over
  pub of_harts : All (IsServed v) v.entries
