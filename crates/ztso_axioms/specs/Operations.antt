-- The memory operations of a trace: its loads, stores and AMOs, each named by its place among the
-- entries (RISC-V Unprivileged ISA, chapter RVWMO). A landing is no operation.
use Rattle.std.specs.Prelude.{ℕ, ◌-◌, Bool, true, false, ◌||◌, if◌then◌else◌, List, Option, Some, None, option_and_then}
use Rattle.std.specs.List.{slice_get}
use Rattle.std.specs.Option.{option_map_or}
use Rattle.std.specs.Int.{byte_at}
use Rattle.memory.specs.declared.writes.Write.{Write}
use Rattle.memory.specs.Writes.{write, covers}
use Rattle.step_machine.specs.Entries.{hart_of}
use Rattle.step_machine.specs.declared.events.Entry.{Entry}
use Rattle.step_machine.specs.Access.{Access, load, store, exchange, fence, access_of}

-- a plain load; an AMO is none
abbrev pub loads : Access → Bool
loads (load a width v) = true
loads other = false

abbrev pub is_load : Entry → Bool
is_load e = loads (access_of e)

-- a plain store; an AMO is none
abbrev pub stores_plainly : Access → Bool
stores_plainly (store w) = true
stores_plainly other = false

abbrev pub is_store : Entry → Bool
is_store e = stores_plainly (access_of e)

abbrev pub exchanges : Access → Bool
exchanges (exchange a old new) = true
exchanges other = false

abbrev pub is_amo : Entry → Bool
is_amo e = exchanges (access_of e)

-- a fence that orders every earlier access before every later one; `fence.tso` is none
abbrev pub fences : Access → Bool
fences (fence full) = full
fences other = false

abbrev pub is_full_fence : Entry → Bool
is_full_fence e = fences (access_of e)

abbrev pub is_operation : Entry → Bool
is_operation e = is_load e || is_store e || is_amo e

-- the address, the width and the value that a load reads, or an AMO for its old word
abbrev pub read_by : Access → Option (ℕ × ℕ × ℕ)
read_by (load a width v) = Some (a, width, v)
read_by (exchange a old new) = Some (a, 4, old)
read_by other = None

abbrev pub read_of : Entry → Option (ℕ × ℕ × ℕ)
read_of e = read_by (access_of e)

-- the byte that a write puts at address a, where it covers it
abbrev pub byte_in : Write → ℕ → Option ℕ
byte_in w a = if covers w a then Some (byte_at (a - w.addr) w.value) else None

-- the byte that a store, or an AMO by its new word, writes to address a
abbrev pub byte_by : ℕ → Access → Option ℕ
byte_by a (store w) = byte_in w a
byte_by a (exchange b old new) = byte_in (write b 4 new) a
byte_by a other = None

abbrev pub written_to : ℕ → Entry → Option ℕ
written_to a e = byte_by a (access_of e)

-- the same of a place

-- an entry stands at the place, and passes the test
abbrev pub passes : (Entry → Bool) → Option Entry → Bool
passes test None = false
passes test (Some e) = test e

abbrev pub is_at : (Entry → Bool) → List Entry → ℕ → Bool
is_at test es p = passes test (slice_get es p)

-- the hart whose entry stands at the place
abbrev pub hart_at : List Entry → ℕ → ℕ
hart_at es p = option_map_or hart_of (slice_get es p) 0

abbrev pub read_at : List Entry → ℕ → Option (ℕ × ℕ × ℕ)
read_at es p = option_and_then read_of (slice_get es p)

abbrev pub written_at : List Entry → ℕ → ℕ → Option ℕ
written_at es a p = option_and_then (written_to a) (slice_get es p)
