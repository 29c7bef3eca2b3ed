-- A load's or an AMO's sources as a tag, `[own 1 init]`: the hart's own stores by their rows, the rows
-- that wrote to memory, and the opening. Each row is named once, in the order of the bytes that first
-- name it, and rows count from 1.
use Rattle.std.specs.Prelude.{ℕ, ◌+◌, ◌==◌, if◌then◌else◌, Bool, true, false, List, [], ◌∷◌, ◌++◌, length, codes}
use Rattle.std.specs.List.{list_any}
use Rattle.std.specs.Fmt.{decimal}
use Rattle.chart.specs.declared.sources.Source.{Source}
use Rattle.chart.specs.declared.sources.Source.TheVariants.{Own, Memory, Opening}

-- what some sources name
pub record NamedOf : Type 0 where
  pub own : List ℕ
  pub memory : List ℕ
  pub opening : Bool

abbrev pub with_row : List ℕ → ℕ → List ℕ
with_row rows row = if list_any (λ other. other == row) rows then rows else rows ++ row ∷ []

abbrev pub with_source : NamedOf → Source → NamedOf
with_source named (Own row) = record { own = with_row named.own row; memory = named.memory; opening = named.opening }
with_source named (Memory row) = record { own = named.own; memory = with_row named.memory row; opening = named.opening }
with_source named Opening = record { own = named.own; memory = named.memory; opening = true }

abbrev pub named_after : NamedOf → List Source → NamedOf
named_after named [] = named
named_after named (s ∷ ss) = named_after (with_source named s) ss

abbrev pub none_named : NamedOf
none_named = record { own = []; memory = []; opening = false }

abbrev pub named_by : List Source → NamedOf
named_by sources = named_after none_named sources

-- a word more, with a blank between two
abbrev pub spaced : List ℕ → List ℕ → List ℕ
spaced line word = if length line == 0 then word else line ++ codes " " ++ word

abbrev pub with_rows : List ℕ → List ℕ → List ℕ
with_rows line [] = line
with_rows line (row ∷ rows) = with_rows (spaced line (decimal (row + 1))) rows

-- a part of a tag: its name, and rows
abbrev pub with_part : (line name rows : List ℕ) → List ℕ
with_part line name [] = line
with_part line name (row ∷ rows) = with_rows (spaced line name) (row ∷ rows)

abbrev pub with_opening : List ℕ → Bool → List ℕ
with_opening line opening = if opening then spaced line (codes "init") else line

abbrev pub tag_words : NamedOf → List ℕ
tag_words named = with_opening (with_part (with_part [] (codes "own") named.own) (codes "mem") named.memory) named.opening

abbrev pub tag_text : List Source → List ℕ
tag_text [] = []
tag_text (s ∷ ss) = codes "[" ++ tag_words (named_by (s ∷ ss)) ++ codes "]"
