-- Which store each landing of a trace performs, as a list that the walk over the trace reads.
use Rattle.std.specs.Prelude.{ℕ, ◌≡◌, ◌<◌, ◌≤◌, ◌&&◌, if◌then◌else◌, nat_lt, nat_le, List, take, slice_index_or, Option, Some, None, All}
use Rattle.std.specs.List.{slice_get}
use Rattle.step_machine.specs.Entries.{hart_of, lands}
use Rattle.step_machine.specs.declared.events.Entry.{Entry}
use Rattle.step_machine.specs.declared.events.Entry.TheVariants as entry
use Rattle.ztso_axioms.specs.Performed.{store_places, hart_bound}

-- the store that a landing of hart h at place i performs
abbrev pub landed_at : List Entry → ℕ → ℕ → Option ℕ
landed_at es h i = slice_get (store_places h es) (lands h (take i es))

-- the list names what each landing of a hart below n performs
abbrev pub NamesLandings : List Entry → ℕ → List (Option ℕ) → Type 0
NamesLandings es n landed = (i h : ℕ) → h < n → slice_get es i ≡ Some (entry.Land h) → slice_index_or landed i None ≡ landed_at es h i

-- the new list differs from the old one in naming what each landing of hart h performs
pub record AddsLandings (es : List Entry) (h : ℕ) (old new : List (Option ℕ)) : Type 0 where
  pub added : (i : ℕ) → slice_get es i ≡ Some (entry.Land h) → slice_index_or new i None ≡ landed_at es h i
  pub others : (i : ℕ) → (slice_get es i ≡ Some (entry.Land h) → ⊥) → slice_index_or new i None ≡ slice_index_or old i None

-- h is the least hart from n on that has an entry, below the bound of all of them
pub record IsNextHart (es : List Entry) (n h : ℕ) : Type 0 where
  pub from : n ≤ h
  pub least : All (λ (e : Entry). n ≤ hart_of e → h ≤ hart_of e) es
  pub bound : h < hart_bound es

-- the lesser of the harts found from n on, and hart h
abbrev pub nearer_of : ℕ → Option ℕ → ℕ → Option ℕ
nearer_of n None h = if nat_le n h then Some h else None
nearer_of n (Some best) h = if nat_le n h && nat_lt h best then Some h else Some best

-- what an entry at place p performs, where it performs this store if it is a landing
abbrev pub performed_there : Entry → ℕ → Option ℕ → Option ℕ
performed_there (entry.Load h a width v) p store = Some p
performed_there (entry.Amo h a old new) p store = Some p
performed_there (entry.Land h) p store = store
performed_there other p store = None
