-- What a list of entries says of a hart, of its pending stores and of memory. Each is read off the
-- whole list; there is no buffer and no memory here.
use Rattle.std.specs.Prelude.{ℕ, ◌+◌, ◌==◌, Bool, true, false, not, ◌&&◌, if◌then◌else◌, List, [], ◌∷◌, ◌++◌, take, drop, None, option_to_list, unwrap_or}
use Rattle.std.specs.List.{slice_get}
use Rattle.memory.specs.Writes.{write, newest_of, joined, byte_of}
use Rattle.hart.specs.declared.need.Report.{Report}
use Rattle.hart.specs.declared.need.Report.TheVariants as report
use Rattle.step_machine.specs.declared.events.Entry.{Entry}
use Rattle.step_machine.specs.declared.events.Entry.TheVariants as entry
use Rattle.step_machine.specs.History.{OpeningValue}
use Rattle.step_machine.specs.Access.{Access, store, exchange, land, access_of}
use Rattle.memory.specs.declared.writes.Write.{Write}

abbrev pub hart_of : Entry → ℕ
hart_of (entry.Inner h) = h
hart_of (entry.Load h a width v) = h
hart_of (entry.Store h a width v) = h
hart_of (entry.Amo h a old new) = h
hart_of (entry.Fence h full) = h
hart_of (entry.Next h w) = h
hart_of (entry.Took h i w) = h
hart_of (entry.Closed h i) = h
hart_of (entry.Ended h) = h
hart_of (entry.Stopped h why) = h
hart_of (entry.Land h) = h

abbrev pub is_landing : Access → Bool
is_landing land = true
is_landing other = false

abbrev pub is_land : Entry → Bool
is_land e = is_landing (access_of e)

-- an entry that the hart itself made by an instruction
abbrev pub is_own : ℕ → Entry → Bool
is_own h e = (hart_of e == h) && not (is_land e)

-- the hart's entries without its landings
abbrev pub own : ℕ → List Entry → List Entry
own h [] = []
own h (e ∷ es) = if is_own h e then e ∷ own h es else own h es

-- what is stored by an access, where it counts
abbrev pub stored_by : Bool → Access → List Write
stored_by counts (store w) = if counts then w ∷ [] else []
stored_by counts other = []

-- what the hart stores by this entry, if it is its store
abbrev pub own_store : ℕ → Entry → List Write
own_store h e = stored_by (hart_of e == h) (access_of e)

-- what the hart stored, in program order
abbrev pub own_stores : ℕ → List Entry → List Write
own_stores h [] = []
own_stores h (e ∷ es) = own_store h e ++ own_stores h es

abbrev pub landed_by : Bool → Access → ℕ
landed_by counts land = if counts then 1 else 0
landed_by counts other = 0

-- 1 for a landing of this hart
abbrev pub land_of : ℕ → Entry → ℕ
land_of h e = landed_by (hart_of e == h) (access_of e)

-- how many of the hart's stores landed
abbrev pub lands : ℕ → List Entry → ℕ
lands h [] = 0
lands h (e ∷ es) = land_of h e + lands h es

-- the hart's stores that have not landed, oldest first
abbrev pub pending : ℕ → List Entry → List Write
pending h es = drop (lands h es) (own_stores h es)

-- what an access writes to memory: a landing this, an AMO its new word, and nothing else writes
abbrev pub written_by : List Write → Access → List Write
written_by oldest (exchange a old new) = write a 4 new ∷ []
written_by oldest land = oldest
written_by oldest other = []

-- what an entry writes, after the entries before it: a landing writes its hart's oldest pending store
abbrev pub write_of : List Entry → Entry → List Write
write_of before e = written_by (take 1 (pending (hart_of e) before)) (access_of e)

abbrev pub landed_after : List Entry → List Entry → List Write
landed_after before [] = []
landed_after before (e ∷ es) = write_of before e ++ landed_after (before ++ e ∷ []) es

-- the writes in the order in which they reached memory
abbrev pub landed : List Entry → List Write
landed es = landed_after [] es

-- The same by counting over the whole list: the k-th landing of a hart writes its k-th store. A law
-- says that the two agree on every legal list.
abbrev pub write_by_count : List Entry → List Entry → Entry → List Write
write_by_count whole before e = written_by (option_to_list (slice_get (own_stores (hart_of e) whole) (lands (hart_of e) before))) (access_of e)

abbrev pub landed_by_count_after : List Entry → List Entry → List Entry → List Write
landed_by_count_after whole before [] = []
landed_by_count_after whole before (e ∷ es) = write_by_count whole before e ++ landed_by_count_after whole (before ++ e ∷ []) es

abbrev pub landed_by_count : List Entry → List Write
landed_by_count es = landed_by_count_after es [] es

-- what the hart reports by this entry
abbrev pub report_of : ℕ → Entry → List Report
report_of h (entry.Took g i w) = if g == h then report.Took i w ∷ [] else []
report_of h (entry.Closed g i) = if g == h then report.Closed i ∷ [] else []
report_of h other = []

-- the hart's reports, oldest first
abbrev pub reported : ℕ → List Entry → List Report
reported h [] = []
reported h (e ∷ es) = report_of h e ++ reported h es

-- the byte with which an address opens; the words of an opening are little-endian
abbrev pub opening_byte : OpeningValue → ℕ → ℕ
opening_byte o a = byte_of o.words a

-- the byte of memory at an address: that of the last write to cover it that reached memory, else the
-- opening's
abbrev pub memory_byte : OpeningValue → List Entry → ℕ → ℕ
memory_byte o es a = unwrap_or (newest_of a None (landed es)) (opening_byte o a)

-- the word of memory at an address: its four bytes from there on, the lowest first
abbrev pub memory_word : OpeningValue → List Entry → ℕ → ℕ
memory_word o es a = joined (λ i. memory_byte o es (a + i)) 4

-- the byte that a hart reads at an address: that of its newest pending store to cover it, else that of
-- memory. This is the Load Value Axiom (RVWMO, with the store buffer's early reads) stated by the order
-- of landings.
abbrev pub read_byte : OpeningValue → List Entry → ℕ → ℕ → ℕ
read_byte o es h a = unwrap_or (newest_of a None (pending h es)) (memory_byte o es a)

-- the number that a hart reads in width bytes from an address on
abbrev pub read : OpeningValue → List Entry → ℕ → ℕ → ℕ → ℕ
read o es h a width = joined (λ i. read_byte o es h (a + i)) width
