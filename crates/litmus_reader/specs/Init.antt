-- The init part: items parted by `;`, up to a `}`.
use Rattle.std.specs.Prelude.{ℕ, List, [], ◌∷◌, ◌++◌, map, Option, None, Some, Result, Ok, Err, if◌then◌else◌}
use Rattle.std.specs.List.{list_all}
use Rattle.texts.specs.Results.{◌>>=◌}
use Rattle.texts.specs.Pieces.{is_gap, pieces}
use Rattle.litmus_tokens.specs.Assignments.{NamedLocation, AssignmentValue, item}
use Rattle.litmus_tokens.specs.Assignments.NamedLocation.{in_register, at_location}
use Rattle.litmus_reader.specs.declared.faults.LitmusFault.{LitmusFault}
use Rattle.litmus_reader.specs.declared.faults.LitmusFault.TheVariants.{BadInit}
use Rattle.litmus_reader.specs.declared.init.Item.{Item}
use Rattle.litmus_reader.specs.declared.init.Init.{Init}
use Rattle.litmus_reader.specs.declared.init.Target.{Target}
use Rattle.litmus_reader.specs.declared.init.Target.TheVariants.{Register, Word}
use Rattle.litmus_reader.specs.Locations.{Names, resolved, value_resolved}
use Rattle.texts.specs.declared.pieces.Separators.TheVariants.{Byte}

-- an item: where it puts which value
pub record InitItem : Type 0 where
  pub target : Target
  pub value : ℕ

-- the items so far, and the names in them
pub record InitItems : Type 0 where
  pub items : List InitItem
  pub names : Names

abbrev pub no_items : InitItems
no_items = record { items = []; names = [] }

-- what the code's items stand for, whose places are no part of them
abbrev pub item_of : Item → InitItem
item_of item = record { target = item.target; value = item.value }

abbrev pub items_of : Init → InitItems
items_of init = record { items = map item_of init.items.items; names = init.locations }

-- where an item puts its value, with a location given by its index
unfoldable pub target_resolved : Names → NamedLocation → Result (Target × Names) LitmusFault
target_resolved names (in_register hart register) = Ok (Register hart register, names)
target_resolved names (at_location name) = do
  found ← resolved names name
  Ok (Word found.0, found.1)

-- the item of an assignment, and the names with those in it
unfoldable pub item_resolved : Names → AssignmentValue → Result (InitItem × Names) LitmusFault
item_resolved names assignment = do
  target ← target_resolved names assignment.0
  value ← value_resolved target.1 assignment.1
  Ok (record { target = target.0; value = value.0 }, value.1)

-- the items with one more; a piece that is no item is `BadInit`
unfoldable pub item_added : InitItems → Option AssignmentValue → Result InitItems LitmusFault
item_added so_far None = Err BadInit
item_added so_far (Some assignment) = do
  one ← item_resolved so_far.names assignment
  Ok (record { items = so_far.items ++ one.0 ∷ []; names = one.1 })

-- an item, or nothing, between two `;`
unfoldable pub piece_added : InitItems → List ℕ → Result InitItems LitmusFault
piece_added so_far piece = if list_all is_gap piece then Ok so_far else item_added so_far (item.reads piece)

abbrev pub pieces_added : InitItems → List (List ℕ) → Result InitItems LitmusFault
pieces_added so_far [] = Ok so_far
pieces_added so_far (piece ∷ pieces) = do
  more ← piece_added so_far piece
  pieces_added more pieces

-- the items of a text, which `;` (59) parts
unfoldable pub items_at : List ℕ → Result InitItems LitmusFault
items_at text = pieces_added no_items (pieces (Byte 59) text)

-- what follows the init part; its `}` may be missing
abbrev pub after_init : Option (List ℕ) → Result (List ℕ) LitmusFault
after_init None = Err BadInit
after_init (Some rest) = Ok rest
