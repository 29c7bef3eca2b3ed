-- The locations of a test: their names, in order of first appearance.
use Rattle.std.specs.Prelude.{ℕ, IsTrue, ◌+◌, ◌*◌, nat_lt, List, [], ◌∷◌, ◌++◌, length, Option, None, Some, Result, Ok, Err, if◌then◌else◌}
use Rattle.std.specs.Str.{bytes_eq}
use Rattle.texts.specs.Results.{◌>>=◌}
use Rattle.litmus_tokens.specs.Names.{is_name}
use Rattle.litmus_tokens.specs.Assignments.{NamedLocation, NamedValue, AssignmentValue}
use Rattle.litmus_tokens.specs.Assignments.NamedLocation.{in_register, at_location}
use Rattle.litmus_tokens.specs.Assignments.NamedValue.{number, address_of}
use Rattle.litmus_reader.specs.declared.faults.LitmusFault.{LitmusFault}
use Rattle.litmus_reader.specs.declared.faults.LitmusFault.TheVariants.{TooMany}
use Rattle.litmus.specs.declared.litmus_test.TheConstants.{MAX_LOCATIONS}

abbrev pub Names : Type 0
Names = List (List ℕ)

-- the place of the name among the others, counted from at
abbrev pub index_from : ℕ → Names → List ℕ → Option ℕ
index_from at [] name = None
index_from at (other ∷ others) name = if bytes_eq other name then Some at else index_from (at + 1) others name

abbrev pub name_added : Names → List ℕ → Option ℕ → Result (ℕ × Names) LitmusFault
name_added names name (Some index) = Ok (index, names)
name_added names name None = if nat_lt (length names) MAX_LOCATIONS then Ok (length names, names ++ name ∷ []) else Err TooMany

-- the index of the location of this name, which joins the others where it is new
unfoldable pub resolved : Names → List ℕ → Result (ℕ × Names) LitmusFault
resolved names name = name_added names name (index_from 0 names name)

-- a location in it has the shape of a name
abbrev pub HasLocation : NamedLocation → Type 0
HasLocation (in_register hart register) = Unit {0}
HasLocation (at_location name) = IsTrue (is_name name)

abbrev pub HasName : NamedValue → Type 0
HasName (number n) = Unit {0}
HasName (address_of name) = IsTrue (is_name name)

abbrev pub HasNames : AssignmentValue → Type 0
HasNames assignment = HasLocation assignment.0 × HasName assignment.1

-- the value that is put; the word of a location has the address of 4 times its index
unfoldable pub value_resolved : Names → NamedValue → Result (ℕ × Names) LitmusFault
value_resolved names (number n) = Ok (n, names)
value_resolved names (address_of name) = do
  found ← resolved names name
  Ok (4 * found.0, found.1)
