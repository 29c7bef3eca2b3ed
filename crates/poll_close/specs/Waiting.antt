-- When a sender waits for the receiver: it is about to load a word that keeps it where it is.
use Rattle.std.specs.Prelude.{ℕ, ◌≡◌, ◌+◌, ◌^◌, ◌<◌, ◌==◌, Bool, false, ◌&&◌, not, Option, Some, None, slice_index}
use Rattle.memory.specs.Words.{IsAddress}
use Rattle.hart.specs.State.{HartState}
use Rattle.step_machine.specs.History.{History}
use Rattle.step_machine.specs.Entries.{memory_word}
use Rattle.step_machine.specs.Paths.{state_of}
use Rattle.step_machine.specs.WordReads.{word_in_memory}
use Rattle.poll_close.specs.Rankings.{is_running}

-- the word that it finds is what a register holds, or, if none is named, isn't 0
abbrev pub is_full : Option ℕ → HartState → ℕ → Bool
is_full (Some register) s w = w == slice_index s.registers register
is_full None s w = not (w == 0)

-- it is at the line that loads the word at a register's address and an offset
abbrev pub waits_at : ℕ → ℕ → ℕ → Option ℕ → HartState → (ℕ → ℕ) → Bool
waits_at line base offset full s word = (s.pc == line) && is_full full s (word (slice_index s.registers base + offset))

-- a hart that runs and doesn't wait
abbrev pub is_ready_by : (HartState → (ℕ → ℕ) → Bool) → (ℕ → ℕ) → Option HartState → Bool
is_ready_by waits word None = false
is_ready_by waits word (Some s) = is_running s.status && not (waits s word)

-- a is the address of a word in memory, and reads find the one that the stores that landed left there
pub record IsReadable (M : ℕ) (t : History) (a : ℕ) : Type 0 where
  pub small : a < 2 ^ 32
  pub address : IsAddress M a
  pub word : memory_word t.opening t.entries a ≡ word_in_memory t.opening t.entries a

-- so is what a hart loads at that line
abbrev pub MayLoad : ℕ → History → ℕ → ℕ → ℕ → ℕ → Type 0
MayLoad M t h line base offset = (s : HartState) → state_of M t h ≡ Some s → s.pc ≡ line → IsReadable M t (slice_index s.registers base + offset)
