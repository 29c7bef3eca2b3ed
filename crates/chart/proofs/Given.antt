-- What the named sources give is what is read, and a landing is joined to its own hart's oldest pending store.
use Rattle.std.proofs.Common.{◌≡◌, ℕ, ◌+◌, ◌<◌, length, arith, List, [], ◌∷◌, Option, Some, None, All, refl, sym, ◌∙◌, ap, subst, take}
use Rattle.std.specs.Prelude.{option_map, unwrap_or, IfSome}
use Rattle.std.specs.List.{slice_get}
use Rattle.std.proofs.lemmas.List.Elements.{All-head}
use Rattle.memory.specs.declared.writes.Write.{Write}
use Rattle.memory.specs.Writes.{newest_of, joined}
use Rattle.memory.proofs.Bytes.{joined-same}
use Rattle.step_machine.specs.declared.events.Entry.{Entry}
use Rattle.step_machine.specs.declared.events.Entry.TheVariants as entry
use Rattle.step_machine.specs.Names.{OpeningValue, Allowed, opening_byte, read_byte, read, write_of}
use Rattle.chart.specs.{RowWrite, pending_by_row, newest, source_named, source_of, row_number, landed_store, stored_at, byte_from}
use Rattle.chart.proofs.ByRow.{writes, byte_by, HasStored, HasWritten, writes-pending, writes-landed, newest-bytes, newest-is, pending_stored, landed_written}

-- the newest write to cover a byte, where the rows have it
newest-row : (a : ℕ) (ws : List RowWrite) (plain : List Write) → writes ws ≡ plain → newest_of a None plain ≡ option_map (byte_by a) (newest a ws)
newest-row a ws plain same = ap (λ (vs : List Write). newest_of a None vs) (sym same) ∙ newest-bytes a None ws

given_by : (o : OpeningValue) (es : List Entry) (h a : ℕ) (own memory : Option RowWrite) → IfSome own (HasStored h es)
    → IfSome memory (HasWritten es)
    → unwrap_or (option_map (byte_by a) own) (unwrap_or (option_map (byte_by a) memory) (opening_byte o a))
    ≡ byte_from o es h a (source_named own memory)
given_by o es h a own memory stored written = grind arith

-- the byte that a hart reads is the one that its source gives
pub byte_given : (o : OpeningValue) (es : List Entry) (h a : ℕ) → read_byte o es h a ≡ byte_from o es h a (source_of es h a)
byte_given o es h a = grind (arith, newest-row, writes-pending, writes-landed, given_by, newest-is, pending_stored, landed_written)

pub read-given : (o : OpeningValue) (es : List Entry) (h a width : ℕ)
    → read o es h a width ≡ joined (λ i. byte_from o es h (a + i) (source_of es h (a + i))) width
read-given o es h a width = grind (arith, joined-same, byte_given)

pub load_given : (B : ℕ) (o : OpeningValue) (before : List Entry) (h a width v : ℕ)
    → Allowed B o before (entry.Load h a width v)
    → v ≡ joined (λ i. byte_from o before h (a + i) (source_of before h (a + i))) width
load_given B o before h a width v may = may ∙ read-given o before h a width

pub amo_given : (B : ℕ) (o : OpeningValue) (before : List Entry) (h a old new : ℕ)
    → Allowed B o before (entry.Amo h a old new)
    → old ≡ joined (λ i. byte_from o before h (a + i) (source_of before h (a + i))) 4
amo_given B o before h a old new may = may.1 ∙ read-given o before h a 4

-- the oldest of some pending stores, where there is one
oldest_joined : (h : ℕ) (before : List Entry) (ws : List RowWrite) → All (HasStored h before) ws
    → 0 < length (writes ws)
    → (row : ℕ) × (row_number (slice_get ws 0) ≡ Some row) × (take 1 (writes ws) ≡ stored_at h before row)
oldest_joined h before [] all some = absurd (omega (arith, some))
oldest_joined h before (w ∷ ws) all some = (w.row, refl, sym (All-head (HasStored h before) w ws all))

-- a landing writes what its own hart stored in the row that it is joined to
pub landing_joined : (B : ℕ) (o : OpeningValue) (before : List Entry) (h : ℕ) → Allowed B o before (entry.Land h)
    → (row : ℕ) × (landed_store before (entry.Land h) ≡ Some row)
    × (write_of before (entry.Land h) ≡ stored_at h before row)
landing_joined B o before h may =
    let same = writes-pending h before in
    let joined_row = oldest_joined h before (pending_by_row h before) (pending_stored h before) (subst (λ (ws : List Write). 0 < length ws) (sym same) may) in
    (joined_row.0, joined_row.1, ap (λ (ws : List Write). take 1 ws) (sym same) ∙ joined_row.2)
