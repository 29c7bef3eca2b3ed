-- What the parts of a draft stand for.
use Rattle.std.specs.Prelude.{◌≡◌, ℕ, List, Option, Some, None}
use Rattle.std.specs.Str.{bytes_eq}
use Rattle.std.specs.HashMap.{HashMap, get_by}
use Rattle.std.specs.declared.vec.Vec.{Vec}
use Rattle.std.specs.declared.alloc.Global.{Global}
use Rattle.assembler.specs.declared.kept.Kept.{Kept}
use Rattle.assembler.specs.declared.kept.Kept.TheVariants as kept
use Rattle.assembler.specs.declared.kept.KeptLine.{KeptLine}
use Rattle.assembler.specs.Statements.{Made, one, two, jump, branch}
use Rattle.assembler.specs.Drafts.{Line, word_count, label_place, AllFit}
use Rattle.assembler.specs.Program.{EachOnce}

abbrev pub kept_made : Kept → Made
kept_made (kept.One i) = one i
kept_made (kept.Two i j) = two i j
kept_made (kept.Jump rd name) = jump rd name.items
kept_made (kept.Branch op rs1 rs2 name) = branch op rs1 rs2 name.items

abbrev pub name_of : Option (Vec ℕ Global) → Option (List ℕ)
name_of None = None
name_of (Some name) = Some name.items

abbrev pub statement_of_kept : Option Kept → Option Made
statement_of_kept None = None
statement_of_kept (Some statement) = Some (kept_made statement)

abbrev pub kept_line : KeptLine → Line
kept_line line = record { label = name_of line.label; made = statement_of_kept line.statement }

-- the place that the map has for the name
abbrev pub place_in : {S : Type 0} → HashMap (Vec ℕ Global) ℕ S → List ℕ → Option ℕ
place_in places name = get_by (λ key. bytes_eq name key.items) places

-- the map and the number of words are those of the lines
pub record AreKeptLines (found : List ℕ → Option ℕ) (words : ℕ) (all : List Line) : Type 0 where
  pub places : (name : List ℕ) → found name ≡ label_place all name
  pub size : words ≡ word_count all
  pub fits : AllFit all
  pub once : EachOnce all
