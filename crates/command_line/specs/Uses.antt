-- How a command line is written.
use Rattle.std.specs.Prelude.{ℕ, ◌≡◌, ◌≢◌, ◌++◌, suc, true, List, [], ◌∷◌, Option, Some, None, find, is_some, option_map, codes}
use Rattle.std.specs.Str.{bytes_eq}
use Rattle.clap.specs.Words.{Text}
use Rattle.command_line.specs.CommandLines.{job_by}
use Rattle.command_line.specs.Commands.{commands}
use Rattle.command_line.specs.Jobs.{Wanted}
use Rattle.command_line.specs.Parameters.{Parameter, CommandRow, flag, is_required, name_of, named, takes_value, defaulted, word_in_place}

-- a word that can't be an option: it doesn't begin with a hyphen
abbrev pub IsArgument : Text → Type 0
IsArgument [] = Unit {0}
IsArgument (c ∷ word) = c ≢ 45

-- The next word; an option and its value, as `--name VALUE` or as `--name=VALUE`; a flag.
pub data Use : Type 0 where
  stands : (text : Text) → Use
  spaced : (name value : Text) → Use
  joined : (name value : Text) → Use
  given : (name : Text) → Use

abbrev pub texts_of_uses : List Use → List Text
texts_of_uses [] = []
texts_of_uses (stands text ∷ uses) = text ∷ texts_of_uses uses
texts_of_uses (spaced name value ∷ uses) = (45 ∷ 45 ∷ name) ∷ value ∷ texts_of_uses uses
texts_of_uses (joined name value ∷ uses) = (45 ∷ 45 ∷ (name ++ 61 ∷ value)) ∷ texts_of_uses uses
texts_of_uses (given name ∷ uses) = (45 ∷ 45 ∷ name) ∷ texts_of_uses uses

-- names, and the text that is said for each
abbrev pub Said : Type 0
Said = List (Text × Text)

abbrev pub said_for : Said → Text → Option Text
said_for said name = option_map (λ p. p.1) (find (λ p. bytes_eq p.0 name) said)

-- the option takes a value
abbrev pub TakesValue : List Parameter → Text → Type 0
TakesValue parameters name = (p : Parameter) × (named parameters name ≡ Some p) × (takes_value p ≡ true)

-- What uses say, in any order, after what was said before, where this many words stand already: nothing is said twice.
abbrev pub Says : List Parameter → (place : ℕ) → (before : Said) → List Use → (after : Said) → Type 0
Says parameters place before [] after = after ≡ before
Says parameters place before (stands text ∷ uses) after = (id : Text) × (word_in_place parameters place ≡ Some id) × (said_for before id ≡ None)
    × IsArgument text × Says parameters (suc place) (before ++ (id, text) ∷ []) uses after
Says parameters place before (spaced name value ∷ uses) after = TakesValue parameters name × (said_for before name ≡ None)
    × IsArgument value × Says parameters place (before ++ (name, value) ∷ []) uses after
Says parameters place before (joined name value ∷ uses) after = TakesValue parameters name × (said_for before name ≡ None)
    × Says parameters place (before ++ (name, value) ∷ []) uses after
Says parameters place before (given name ∷ uses) after = (named parameters name ≡ Some (flag name)) × (said_for before name ≡ None)
    × Says parameters place (before ++ (name, codes "true") ∷ []) uses after

-- what has to be said is said
abbrev pub IsWhole : List Parameter → Said → Type 0
IsWhole [] said = Unit {0}
IsWhole (p ∷ parameters) said = (is_required p ≡ true → is_some (said_for said (name_of p)) ≡ true) × IsWhole parameters said

-- what is said of what is left out
abbrev pub defaults_of : List Parameter → Said
defaults_of [] = []
defaults_of (defaulted name value ∷ parameters) = (name, value) ∷ defaults_of parameters
defaults_of (flag name ∷ parameters) = (name, codes "false") ∷ defaults_of parameters
defaults_of (_ ∷ parameters) = defaults_of parameters

-- the row of the command of this name
abbrev pub row_named : Text → Option CommandRow
row_named name = find (λ r. bytes_eq r.name name) commands

-- The words after the program's name say a command's name and then uses of its parameters, from which that job follows.
abbrev pub IsSpelling : Wanted → List Text → Type 0
IsSpelling asked words = (r : CommandRow) × (uses : List Use) × (said : Said) × (row_named r.name ≡ Some r) × (words ≡ r.name ∷ texts_of_uses uses)
    × Says r.parameters 0 [] uses said × IsWhole r.parameters said
    × (job_by r.name (said_for (said ++ defaults_of r.parameters)) ≡ Some asked)
