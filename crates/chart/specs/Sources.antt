-- Where the bytes come from that a hart reads after some entries. A row is an entry's place, from 0. For
-- each byte: the hart's own youngest pending store to cover it, else the row that wrote it to memory last,
-- else the opening.
use Rattle.std.specs.Prelude.{ℕ, ◌+◌, ◌-◌, if◌then◌else◌, List, [], ◌∷◌, ◌++◌, take, drop, Option, Some, None, option_map}
use Rattle.std.specs.Int.{byte_at}
use Rattle.std.specs.List.{slice_get}
use Rattle.memory.specs.declared.writes.Write.{Write}
use Rattle.memory.specs.Writes.{covers}
use Rattle.step_machine.specs.declared.events.Entry.{Entry}
use Rattle.step_machine.specs.History.{OpeningValue}
use Rattle.step_machine.specs.Entries.{hart_of, is_land, own_store, lands, write_of, opening_byte}
use Rattle.chart.specs.declared.sources.RowWrite.{RowWrite}
use Rattle.chart.specs.declared.sources.Source.{Source}
use Rattle.chart.specs.declared.sources.Source.TheVariants.{Own, Memory, Opening}

abbrev pub at_row : ℕ → List Write → List RowWrite
at_row n [] = []
at_row n (w ∷ ws) = record { row = n; write = w } ∷ at_row n ws

-- what the hart stored, each with its row, where the first entry's row is n
abbrev pub stores_by_row : (h n : ℕ) → List Entry → List RowWrite
stores_by_row h n [] = []
stores_by_row h n (e ∷ es) = at_row n (own_store h e) ++ stores_by_row h (n + 1) es

-- the hart's stores that have not landed, oldest first, each with its row
abbrev pub pending_by_row : ℕ → List Entry → List RowWrite
pending_by_row h es = drop (lands h es) (stores_by_row h 0 es)

abbrev pub landed_by_row_after : List Entry → ℕ → List Entry → List RowWrite
landed_by_row_after before n [] = []
landed_by_row_after before n (e ∷ es) = at_row n (write_of before e) ++ landed_by_row_after (before ++ e ∷ []) (n + 1) es

-- the writes in the order in which they reached memory, each with the row that did it: a landing or an AMO
abbrev pub landed_by_row : List Entry → List RowWrite
landed_by_row es = landed_by_row_after [] 0 es

-- the last of these writes to cover address a, or what was found before the list where none covers it
abbrev pub newest_from : ℕ → Option RowWrite → List RowWrite → Option RowWrite
newest_from a found [] = found
newest_from a found (w ∷ ws) = newest_from a (if covers w.write a then Some w else found) ws

abbrev pub newest : ℕ → List RowWrite → Option RowWrite
newest a ws = newest_from a None ws

abbrev pub source_named : (own memory : Option RowWrite) → Source
source_named (Some w) memory = Own w.row
source_named None (Some w) = Memory w.row
source_named None None = Opening

-- where the byte at address a comes from that hart h reads after these entries
abbrev pub source_of : List Entry → (h a : ℕ) → Source
source_of es h a = source_named (newest a (pending_by_row h es)) (newest a (landed_by_row es))

abbrev pub row_number : Option RowWrite → Option ℕ
row_number found = option_map (λ w. w.row) found

-- for a landing after these entries, the row of the store that lands: its hart's oldest pending one
abbrev pub landed_store : List Entry → Entry → Option ℕ
landed_store before e = if is_land e then row_number (slice_get (pending_by_row (hart_of e) before) 0) else None

-- ---- what a row named as a source gives

abbrev pub stored_in : ℕ → Option Entry → List Write
stored_in h None = []
stored_in h (Some e) = own_store h e

abbrev pub written_in : List Entry → Option Entry → List Write
written_in before None = []
written_in before (Some e) = write_of before e

-- what hart h stored in this row
abbrev pub stored_at : ℕ → List Entry → ℕ → List Write
stored_at h es row = stored_in h (slice_get es row)

-- what was written to memory in this row
abbrev pub written_in_row : List Entry → ℕ → List Write
written_in_row es row = written_in (take row es) (slice_get es row)

abbrev pub byte_of_first : ℕ → List Write → ℕ
byte_of_first a [] = 0
byte_of_first a (w ∷ ws) = byte_at (a - w.addr) w.value

-- the byte at address a that a source gives hart h
abbrev pub byte_from : OpeningValue → List Entry → (h a : ℕ) → Source → ℕ
byte_from o es h a (Own row) = byte_of_first a (stored_at h es row)
byte_from o es h a (Memory row) = byte_of_first a (written_in_row es row)
byte_from o es h a Opening = opening_byte o a
