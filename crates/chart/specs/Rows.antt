-- The rows of a picture: one for each entry, with the sources of what it read and the store that landed.
use Rattle.std.specs.Prelude.{ℕ, zero, suc, ◌+◌, List, [], ◌∷◌, ◌++◌, Option}
use Rattle.step_machine.specs.declared.events.Entry.{Entry}
use Rattle.step_machine.specs.Access.{Access, load, exchange, access_of}
use Rattle.step_machine.specs.Entries.{hart_of}
use Rattle.chart.specs.declared.sources.Source.{Source}
use Rattle.chart.specs.Sources.{source_of, landed_store}

pub record RowOf : Type 0 where
  pub entry : Entry
  pub sources : List Source
  pub landed : Option ℕ

-- the sources of n bytes from address a on, lowest first
abbrev pub sources_at : List Entry → (h a n : ℕ) → List Source
sources_at before h a zero = []
sources_at before h a (suc n) = sources_at before h a n ++ source_of before h (a + n) ∷ []

-- the sources of the bytes that an access of hart h reads
abbrev pub sources_of : List Entry → ℕ → Access → List Source
sources_of before h (load a width v) = sources_at before h a width
sources_of before h (exchange a old new) = sources_at before h a 4
sources_of before h a = []

abbrev pub row_after : List Entry → Entry → RowOf
row_after before e = record { entry = e; sources = sources_of before (hart_of e) (access_of e); landed = landed_store before e }

abbrev pub rows_after : List Entry → List Entry → List RowOf
rows_after before [] = []
rows_after before (e ∷ es) = row_after before e ∷ rows_after (before ++ e ∷ []) es

-- the rows of a run's entries
abbrev pub rows_of : List Entry → List RowOf
rows_of es = rows_after [] es
