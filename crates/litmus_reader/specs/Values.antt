-- The first values of registers and words.
use Rattle.std.specs.Prelude.{ℕ, ◌-◌, ◌==◌, Bool, true, nat_lt, List, [], ◌∷◌, ◌++◌, length, replicate, slice_set, Result, Ok, Err, if◌then◌else◌}
use Rattle.std.specs.List.{slice_index_or}
use Rattle.std.specs.declared.vec.Vec.{Vec}
use Rattle.std.specs.declared.alloc.Global.{Global}
use Rattle.texts.specs.Results.{◌>>=◌}
use Rattle.step_machine.specs.History.{HartOpeningValue}
use Rattle.litmus_reader.specs.declared.faults.LitmusFault.{LitmusFault}
use Rattle.litmus_reader.specs.declared.faults.LitmusFault.TheVariants.{BadInit}
use Rattle.litmus_reader.specs.declared.opening.Values as code
use Rattle.litmus_reader.specs.declared.init.Target.{Target}
use Rattle.litmus_reader.specs.declared.init.Target.TheVariants.{Register, Word}
use Rattle.litmus_reader.specs.Init.{InitItem, InitItems}

-- each hart's registers, and the words of the locations
pub record Values : Type 0 where
  pub registers : List (List ℕ)
  pub words : List ℕ

-- zeros for these numbers of harts and locations
abbrev pub zeros : (harts locations : ℕ) → Values
zeros harts locations = record { registers = replicate harts (replicate 32 0); words = replicate locations 0 }

-- a hart's registers with a value in one of them, but never in x0
abbrev pub with_register : ℕ → ℕ → List ℕ → List ℕ
with_register number value registers = if number == 0 then registers else slice_set registers number value

-- the values with this one at a target
abbrev pub with_value : Target → ℕ → Values → Values
with_value (Register hart register) value values = record values {
  registers = slice_set values.registers hart (with_register register.number value (slice_index_or values.registers hart []));
}
with_value (Word index) value values = record values { words = slice_set values.words index value }

-- a target's hart, if it names one, is there
abbrev pub is_there : (harts : ℕ) → Target → Bool
is_there harts (Register hart register) = nat_lt hart harts
is_there harts (Word index) = true

-- the values with that of one item more; its hart has to be there
unfoldable pub item_put : Values → InitItem → Result Values LitmusFault
item_put values item =
    if is_there (length values.registers) item.target then Ok (with_value item.target item.value values) else Err BadInit

abbrev pub items_put : Values → List InitItem → Result Values LitmusFault
items_put values [] = Ok values
items_put values (item ∷ items) = do
  more ← item_put values item
  items_put more items

-- the values of all items, where a later one wins
unfoldable pub values_at : (harts : ℕ) → InitItems → Result Values LitmusFault
values_at harts resolved_items = items_put (zeros harts (length resolved_items.names)) resolved_items.items

-- the words with zeros for the locations that only the condition names
abbrev pub padded : ℕ → List ℕ → List ℕ
padded locations words = words ++ replicate (locations - length words) 0

-- ---- what the code's values stand for

abbrev pub values_in : code.Values → Values
values_in values = record { registers = values.registers.items; words = values.words.items }

-- the harts with this code and these registers, and with empty inboxes
abbrev pub starts_of : List (Vec ℕ Global) → List (List ℕ) → List HartOpeningValue
starts_of [] registers = []
starts_of (code ∷ codes) [] = []
starts_of (code ∷ codes) (first ∷ registers) = (record { code = code.items; registers = first; inbox = [] }) ∷ starts_of codes registers
