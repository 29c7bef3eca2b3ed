-- What a command takes: its words and its options.
use Rattle.std.specs.Prelude.{ℕ, Bool, true, false, zero, suc, List, [], ◌∷◌, Option, Some, None, find, map}
use Rattle.std.specs.Str.{bytes_eq}
use Rattle.clap.specs.Words.{Rule, Text, new_rule}
use Rattle.clap.specs.declared.builder.ArgAction.TheVariants.{Set, SetTrue}
use Rattle.std.specs.Borrow.{Bor}
use Rattle.command_line.specs.declared.table.Parameter.{Parameter as TableParameter}
use Rattle.command_line.specs.declared.table.Parameter.TheVariants as table

-- A word that has to stand in its place; `--name VALUE`, which has to be given, or has a default, or may be left out; and
-- `--name`, without a value.
pub data Parameter : Type 0 where
  positional : (id : Text) → Parameter
  required : (name : Text) → Parameter
  defaulted : (name value : Text) → Parameter
  optional : (name : Text) → Parameter
  flag : (name : Text) → Parameter

abbrev pub name_of : Parameter → Text
name_of (positional id) = id
name_of (required name) = name
name_of (defaulted name value) = name
name_of (optional name) = name
name_of (flag name) = name

-- it has to be there
abbrev pub is_required : Parameter → Bool
is_required (positional id) = true
is_required (required name) = true
is_required _ = false

-- it is an option with a value
abbrev pub takes_value : Parameter → Bool
takes_value (positional id) = false
takes_value (flag name) = false
takes_value _ = true

-- the first parameter of this name
abbrev pub named : List Parameter → Text → Option Parameter
named parameters name = find (λ p. bytes_eq (name_of p) name) parameters

-- which word stands in this place, from 0 on
abbrev pub word_in_place : List Parameter → ℕ → Option Text
word_in_place [] place = None
word_in_place (positional id ∷ parameters) zero = Some id
word_in_place (positional id ∷ parameters) (suc place) = word_in_place parameters place
word_in_place (_ ∷ parameters) place = word_in_place parameters place

-- clap's description of a word or an option
abbrev pub rule_for : Parameter → Rule
rule_for (positional id) = record (new_rule id) { required = true }
rule_for (required name) = record (new_rule name) { long = Some name; action = Some Set; required = true }
rule_for (defaulted name value) = record (new_rule name) { long = Some name; action = Some Set; defaults = value ∷ [] }
rule_for (optional name) = record (new_rule name) { long = Some name; action = Some Set }
rule_for (flag name) = record (new_rule name) { long = Some name; action = Some SetTrue }

-- a command's name and its parameters
pub record CommandRow : Type 0 where
  pub name : Text
  pub parameters : List Parameter

abbrev pub row : (name : Text) → List Parameter → CommandRow
row name parameters = record { name = name; parameters = parameters }

-- ---- the code's rows, with their words as texts

abbrev pub parameter_by : TableParameter → Parameter
parameter_by (table.Positional id) = positional id.now
parameter_by (table.Required name) = required name.now
parameter_by (table.Defaulted name value) = defaulted name.now value.now
parameter_by (table.Optional name) = optional name.now
parameter_by (table.Flag name) = flag name.now

abbrev pub row_by : Bor Text × Bor (List TableParameter) → CommandRow
row_by r = record { name = r.0.now; parameters = map parameter_by r.1.now }
