-- What an entry does to memory and to its hart's store buffer. Whatever speaks of memory reads an entry by
-- this view alone.
use Rattle.std.specs.Prelude.{ℕ, Bool, true, false, if◌then◌else◌, List, [], ◌∷◌, ◌*◌, ◌<◌, IsTrue}
use Rattle.memory.specs.declared.writes.Write.{Write}
use Rattle.memory.specs.Writes.{write, is_width, IsInWord}
use Rattle.step_machine.specs.declared.events.Entry.{Entry}
use Rattle.step_machine.specs.declared.events.Entry.TheVariants as entry
use Rattle.hart.specs.declared.need.Need.{Need}
use Rattle.hart.specs.declared.need.Need.TheVariants as need

pub data Access : Type 0 where
  nothing : Access
  load : (a width v : ℕ) → Access
  store : (w : Write) → Access
  exchange : (a old new : ℕ) → Access
  fence : (full : Bool) → Access
  land : Access

abbrev pub access_of : Entry → Access
access_of (entry.Load h a width v) = load a width v
access_of (entry.Store h a width v) = store (write a width v)
access_of (entry.Amo h a old new) = exchange a old new
access_of (entry.Fence h full) = fence full
access_of (entry.Land h) = land
access_of e = nothing

-- ---- memory entries: those in which memory or a store buffer takes part, and fences
-- Every other entry is its hart's alone.

abbrev pub touches : Access → Bool
touches nothing = false
touches a = true

abbrev pub is_memory : Entry → Bool
is_memory e = touches (access_of e)

-- the memory entries of a list, in order
abbrev pub memory_of : List Entry → List Entry
memory_of [] = []
memory_of (e ∷ es) = if is_memory e then e ∷ memory_of es else memory_of es

-- ---- which accesses a memory has an address for

-- 1, 2 or 4 bytes of one word of a memory of M words
abbrev pub IsPlace : ℕ → ℕ → ℕ → Type 0
IsPlace M width a = IsTrue (is_width width) × IsInWord width a × (a < 4 * M)

-- the address that a need names is one of a memory of M words
abbrev pub IsInRange : ℕ → Need → Type 0
IsInRange M (need.Load a width) = IsPlace M width a
IsInRange M (need.Store a width w) = IsPlace M width a
IsInRange M (need.Amo a op rs2) = IsPlace M 4 a
IsInRange M other = Unit {0}
