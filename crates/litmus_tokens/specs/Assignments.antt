-- What the texts of init's items and of a condition's atoms say: which value is put where.
use Rattle.std.proofs.Common.{◌≡◌, ℕ, Bool, false, List, [], ◌∷◌, ◌++◌, Option, None, Some}
use Rattle.std.specs.Prelude.{IsTrue, ◌&&◌, ◌||◌, nat_eq, drop, codes, if◌then◌else◌}
use Rattle.std.specs.List.{starts_with}
use Rattle.std.specs.Option.{option_and_then}
use Rattle.rv_decode.specs.declared.instruction.Reg.{Reg}
use Rattle.rv_decode.specs.Registers.{register_named}
use Rattle.texts.specs.Pieces.{is_gap}
use Rattle.texts.specs.Grammars.{Grammar, mapped, parted, prefixed, suffixed, surrounded, choice, by_byte, numeral}
use Rattle.litmus_tokens.specs.Names.{core, is_name, goes_on_name, a_word}
use Rattle.litmus_tokens.specs.declared.assignments.Location.{Location}
use Rattle.litmus_tokens.specs.declared.assignments.Location.TheVariants.{Register, Memory}
use Rattle.litmus_tokens.specs.declared.assignments.Value.{Value}
use Rattle.litmus_tokens.specs.declared.assignments.Value.TheVariants.{Number, Address}
use Rattle.litmus_tokens.specs.declared.assignments.Assignment.{Assignment}

-- where a value is put
pub data NamedLocation : Type 0 where
  in_register : (hart : ℕ) → Reg → NamedLocation
  at_location : List ℕ → NamedLocation

-- a word, or the address of the location of a name
pub data NamedValue : Type 0 where
  number : ℕ → NamedValue
  address_of : List ℕ → NamedValue

-- which value is put where
abbrev pub AssignmentValue : Type 0
AssignmentValue = NamedLocation × NamedValue

-- ---- the parts that are no further parted

abbrev pub named_text : List ℕ → Option (List ℕ)
named_text text = if is_name text then Some text else None

abbrev pub a_name : Grammar (List ℕ)
a_name = record { Says = λ text name. IsTrue (is_name text) × (text ≡ name); reads = named_text; bytes = goes_on_name }

abbrev pub a_register : Grammar Reg
a_register = record { Says = λ text r. register_named text ≡ Some r; reads = register_named; bytes = goes_on_name }

-- `int` and a name, with a gap between them
abbrev pub begins_with_gap : List ℕ → Bool
begins_with_gap [] = false
begins_with_gap (c ∷ rest) = is_gap c

unfoldable pub after_int : List ℕ → Option (List ℕ)
after_int text = if starts_with nat_eq text (codes "int") && begins_with_gap (drop 3 text) then Some (drop 3 text) else None

abbrev pub IsDeclaration : List ℕ → List ℕ → Type 0
IsDeclaration text name = (gap : ℕ) × (rest : List ℕ) × (text ≡ codes "int" ++ gap ∷ rest) × IsTrue (is_gap gap)
    × IsTrue (is_name (core rest)) × (core rest ≡ name)

abbrev pub a_declaration : Grammar (List ℕ)
a_declaration = record {
  Says = IsDeclaration;
  reads = λ text. option_and_then (λ rest. named_text (core rest)) (after_int text);
  bytes = λ b. goes_on_name b || is_gap b;
}

-- ---- the grammar; blanks and LFs stand round each part

abbrev pub spaced : {A : Type 0} → Grammar A → Grammar A
spaced g = surrounded is_gap g

-- a name, which stands for its address, or a number
unfoldable pub value : Grammar NamedValue
value = spaced (choice (mapped a_name address_of) (mapped a_word number))

-- `[name]`; `[` is 91, `]` is 93
abbrev pub bracketed : Grammar (List ℕ)
bracketed = prefixed 91 (suffixed 93 (spaced a_name))

abbrev pub location : Grammar (List ℕ)
location = choice bracketed a_name

abbrev pub register_at : ℕ × Reg → NamedLocation
register_at both = in_register both.0 both.1

-- `H:reg`; `:` is 58, and the hart's number is capped
abbrev pub register_place : Grammar NamedLocation
register_place = mapped (parted 58 (spaced (numeral 10)) (spaced a_register)) register_at

unfoldable pub place : Grammar NamedLocation
place = by_byte 58 register_place (mapped (spaced location) at_location)

unfoldable pub declared : Grammar NamedLocation
declared = mapped (spaced a_declaration) at_location

-- a place, `=` (61), and the value
unfoldable pub an_assignment : Grammar AssignmentValue
an_assignment = parted 61 place value

-- a place, or a location that is declared there
unfoldable pub item_place : Grammar NamedLocation
item_place = choice declared place

-- an assignment, or one of a declared location, which gets 0 where no value is given
unfoldable pub item : Grammar AssignmentValue
item = by_byte 61 (parted 61 item_place value) (mapped declared (λ at. (at, number 0)))

-- ---- what the code's values stand for

abbrev pub place_of : Location → NamedLocation
place_of (Register hart register) = in_register hart register
place_of (Memory name) = at_location name.now

abbrev pub value_of : Value → NamedValue
value_of (Number n) = number n
value_of (Address name) = address_of name.now

abbrev pub assignment_of : Assignment → AssignmentValue
assignment_of assignment = (place_of assignment.location, value_of assignment.value)
