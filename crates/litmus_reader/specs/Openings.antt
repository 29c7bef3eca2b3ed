-- The init part: which values registers and words begin with.
use Rattle.std.specs.Prelude.{◌≡◌, ℕ, ◌*◌, ◌<◌, ◌≤◌, ◌==◌, ◌&&◌, Bool, false, not, List, [], ◌∷◌, ◌++◌, length, filter, Option, Some, None, if◌then◌else◌}
use Rattle.std.specs.List.{slice_index_or, AllByRecursion}
use Rattle.std.specs.Str.{bytes_eq}
use Rattle.litmus_tokens.specs.Assignments.{NamedLocation, NamedValue, AssignmentValue, item as an_item}
use Rattle.litmus_tokens.specs.Assignments.NamedLocation.{in_register, at_location}
use Rattle.litmus_tokens.specs.Assignments.NamedValue.{number, address_of}
use Rattle.texts.specs.Pieces.{is_gap}
use Rattle.texts.specs.Cutting.{AllPass}
use Rattle.litmus_reader.specs.Locations.{Names}
use Rattle.step_machine.specs.History.{HartOpeningValue, OpeningValue}
use Rattle.step_machine.specs.declared.opening.TheConstants.{MAX_HARTS}
use Rattle.rv_decode.specs.Word.{IsWord}
use Rattle.rv_decode.specs.declared.instruction.TheConstants.{MAX_CODE}
use Rattle.litmus.specs.declared.litmus_test.TheConstants.{MAX_LOCATIONS}

-- The items that stand between `;`; blanks and line ends alone are none.
pub data AreItems : List (List ℕ) → List AssignmentValue → Type 0 where
  none : AreItems [] []
  empty : (part : List ℕ) (parts : List (List ℕ)) (assignments : List AssignmentValue) → AllPass is_gap part
      → AreItems parts assignments → AreItems (part ∷ parts) assignments
  item : (part : List ℕ) (parts : List (List ℕ)) (assignment : AssignmentValue) (assignments : List AssignmentValue)
      → an_item.Says part assignment → AreItems parts assignments → AreItems (part ∷ parts) (assignment ∷ assignments)

-- ---- locations

abbrev pub name_of_place : NamedLocation → Names
name_of_place (in_register hart register) = []
name_of_place (at_location name) = name ∷ []

abbrev pub name_of_value : NamedValue → Names
name_of_value (number n) = []
name_of_value (address_of name) = name ∷ []

-- the names that stand in an assignment, and in several, from the left
abbrev pub names_of : AssignmentValue → Names
names_of assignment = name_of_place assignment.0 ++ name_of_value assignment.1

abbrev pub names_in : List AssignmentValue → Names
names_in [] = []
names_in (assignment ∷ assignments) = names_of assignment ++ names_in assignments

-- each name once, in order of first appearance
abbrev pub each_once : Names → Names
each_once [] = []
each_once (name ∷ others) = name ∷ filter (λ other. not (bytes_eq name other)) (each_once others)

-- the location has this index
abbrev pub IsAt : Names → List ℕ → ℕ → Type 0
IsAt names name index = (above below : Names) × (names ≡ above ++ name ∷ below) × (index ≡ length above)

-- the word that is put; a location's address is 4 times its index
abbrev pub IsNamedValue : Names → NamedValue → ℕ → Type 0
IsNamedValue names (number n) word = word ≡ n
IsNamedValue names (address_of name) word = (index : ℕ) × IsAt names name index × (word ≡ 4 * index)

-- ---- first values

abbrev pub or_else : Option NamedValue → Option NamedValue → Option NamedValue
or_else None other = other
or_else (Some value) other = Some value

-- what the last of the items that put something there puts there
abbrev pub last_put : (NamedLocation → Bool) → List AssignmentValue → Option NamedValue
last_put is_there [] = None
last_put is_there (assignment ∷ assignments) = or_else (last_put is_there assignments) (if is_there assignment.0 then Some assignment.1 else None)

abbrev pub is_register : (hart n : ℕ) → NamedLocation → Bool
is_register hart n (in_register other register) = (other == hart) && (register.number == n)
is_register hart n (at_location name) = false

abbrev pub is_location : List ℕ → NamedLocation → Bool
is_location name (in_register hart register) = false
is_location name (at_location other) = bytes_eq other name

-- 0 where no item puts anything
abbrev pub IsFirstValue : Names → Option NamedValue → ℕ → Type 0
IsFirstValue names None word = word ≡ 0
IsFirstValue names (Some value) word = IsNamedValue names value word

-- the hart's registers x0 to x31; x0 stays 0
pub record AreRegisters (names : Names) (assignments : List AssignmentValue) (hart : ℕ) (registers : List ℕ) : Type 0 where
  pub count : length registers ≡ 32
  pub zero : slice_index_or registers 0 0 ≡ 0
  pub others : (n : ℕ) → 1 ≤ n → n < 32 → IsFirstValue names (last_put (is_register hart n) assignments) (slice_index_or registers n 0)

-- a word for each location
pub record AreFirstWords (names : Names) (assignments : List AssignmentValue) (words : List ℕ) : Type 0 where
  pub count : length words ≡ length names
  pub values : (index : ℕ) (name : List ℕ) → IsAt names name index → IsFirstValue names (last_put (is_location name) assignments) (slice_index_or words index 0)

-- an item for a register names a hart of the table
abbrev pub IsHartThere : (harts : ℕ) → AssignmentValue → Type 0
IsHartThere harts (in_register hart register, value) = hart < harts
IsHartThere harts (at_location name, value) = Unit {0}

-- ---- what each test of a text opens with: harts of words of 32 bits, whose x0 is 0 and whose inbox is empty

pub record IsPlainHart (hart : HartOpeningValue) : Type 0 where
  pub short : length hart.code ≤ MAX_CODE
  pub code : AllByRecursion IsWord hart.code
  pub count : length hart.registers ≡ 32
  pub zero : slice_index_or hart.registers 0 0 ≡ 0
  pub registers : AllByRecursion IsWord hart.registers
  pub inbox : hart.inbox ≡ []

-- a hart at least, and the limits of a test
pub record IsPlainOpening (opening : OpeningValue) : Type 0 where
  pub some_hart : 1 ≤ length opening.harts
  pub few : length opening.harts ≤ MAX_HARTS
  pub harts : AllByRecursion IsPlainHart opening.harts
  pub locations : length opening.words ≤ MAX_LOCATIONS
  pub words : AllByRecursion IsWord opening.words
