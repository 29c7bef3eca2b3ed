-- Which text stands for which test.
use Rattle.std.specs.Prelude.{◌≡◌, ℕ, ◌+◌, ◌≤◌, List, [], ◌∷◌, ◌++◌, length, All}
use Rattle.step_machine.specs.History.{HartOpeningValue}
use Rattle.litmus.specs.declared.symbols.Symbol as known
use Rattle.litmus.specs.Grammar.{IsConditionOf}
use Rattle.litmus.specs.LitmusTests.{LitmusTest}
use Rattle.litmus.specs.declared.litmus_test.TheConstants.{MAX_LOCATIONS}
use Rattle.litmus_tokens.specs.Cleaning.{IsCleaned}
use Rattle.litmus_tokens.specs.Assignments.{AssignmentValue}
use Rattle.litmus_tokens.specs.Tokens.{Token}
use Rattle.litmus_reader.specs.Locations.{Names}
use Rattle.litmus_reader.specs.Table.{IsPlainCode}
use Rattle.texts.specs.Pieces.{pieces}
use Rattle.texts.specs.declared.pieces.Separators.TheVariants.{Byte}
use Rattle.litmus_reader.specs.Layout.{IsLaidOut}
use Rattle.litmus_reader.specs.Openings.{AreItems, names_in, each_once, AreRegisters, AreFirstWords, IsHartThere}
use Rattle.litmus_reader.specs.Columns.{Cells, IsTable, column_of, IsColumnCode}
use Rattle.litmus_reader.specs.ConditionGrammar.{IsFinalCondition, atoms_in, AreKnown}
use Rattle.litmus_reader.specs.Reading.{HartContent, Content, content_of}

-- each hart has its column's code and the registers that the items put; the first one is this hart
abbrev pub AreHarts : Names → List AssignmentValue → List Cells → (hart : ℕ) → List HartContent → Type 0
AreHarts names assignments rows hart [] = Unit {0}
AreHarts names assignments rows hart (first ∷ others) =
    IsColumnCode (column_of hart rows) first.code × AreRegisters names assignments hart first.registers
    × (first.inbox ≡ []) × AreHarts names assignments rows (hart + 1) others

-- A test's locations are those of its init part and its condition, in order of first appearance.
pub record IsContent (text : List ℕ) (content : Content) : Type 0 where
  pub clean : List ℕ
  pub init : List ℕ
  pub table : List ℕ
  pub condition_text : List ℕ
  pub assignments : List AssignmentValue
  pub rows : List Cells
  pub tokens : List Token
  pub known : List known.Symbol
  pub cleaned : IsCleaned text clean
  pub laid_out : IsLaidOut clean init table condition_text
  pub items : AreItems (pieces (Byte 59) init) assignments
  pub tabled : IsTable table (length content.harts) rows
  pub harts : AreHarts content.names assignments rows 0 content.harts
  pub there : All (IsHartThere (length content.harts)) assignments
  pub quantified : IsFinalCondition condition_text content.quantifier tokens
  pub named : content.names ≡ each_once (names_in assignments ++ names_in (atoms_in tokens))
  pub few : length content.names ≤ MAX_LOCATIONS
  pub first_words : AreFirstWords content.names assignments content.words
  pub all_known : AreKnown (length content.harts) content.names tokens known
  pub condition : IsConditionOf known content.condition

-- each instruction has the one plain word that means it
abbrev pub HasPlainCode : HartOpeningValue → Type 0
HasPlainCode hart = IsPlainCode hart.code

-- the test has the content for which the text stands, and the plain word of each instruction
unfoldable pub IsTestOf : List ℕ → LitmusTest → Type 0
IsTestOf text test = IsContent text (content_of test) × All HasPlainCode test.opening.harts
