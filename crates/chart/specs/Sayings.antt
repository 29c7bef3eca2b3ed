-- How a picture names places of memory. The word of location i stands at address 4 i. What a picture says of
-- an entry: its effect beside its instruction, and what it leaves in memory.
use Rattle.std.specs.Prelude.{ℕ, ◌*◌, ◌/◌, ◌%◌, ◌==◌, nat_lt, if◌then◌else◌, List, ◌++◌, length, codes, Option, None, Some, Bool, []}
use Rattle.std.specs.List.{slice_get}
use Rattle.std.specs.Fmt.{decimal}
use Rattle.chart.specs.declared.naming.TheConstants.{LONGEST_NAME}
use Rattle.hart.specs.Steps.{stop_number}
use Rattle.hart.specs.declared.status.Stop.{Stop}
use Rattle.hart.specs.declared.status.Stop.TheVariants as stop
use Rattle.step_machine.specs.declared.events.Entry.{Entry}
use Rattle.step_machine.specs.declared.events.Entry.TheVariants as entry

abbrev pub address_name : ℕ → List ℕ
address_name a = codes "@" ++ decimal a

-- a word by its location's name, if it has one that isn't too long, else by its address
abbrev pub named_word : Option (List ℕ) → ℕ → List ℕ
named_word None a = address_name a
named_word (Some name) a = if nat_lt LONGEST_NAME (length name) then address_name a else name

-- the word in which address a is
abbrev pub word_name : List (List ℕ) → ℕ → List ℕ
word_name names a = named_word (slice_get names (a / 4)) (a / 4 * 4)

-- `width` bytes from address a on: a whole word by its name, else with the offset in its word
abbrev pub part_name : List (List ℕ) → (a width : ℕ) → List ℕ
part_name names a width = if width == 4 then word_name names a else word_name names a ++ codes "+" ++ decimal (a % 4)

-- why a hart stopped
abbrev pub stop_name : Stop → List ℕ
stop_name stop.Illegal = codes " Illegal"
stop_name stop.Misaligned = codes " Misaligned"
stop_name stop.SubWord = []
stop_name stop.OutOfRange = codes " OutOfRange"
stop_name stop.MisalignedJump = codes " MisalignedJump"
stop_name stop.NoCode = codes " NoCode"
stop_name stop.UnknownCall = codes " UnknownCall"
stop_name stop.Break = codes " Break"

abbrev pub fence_text : Bool → List ℕ
fence_text full = if full then codes "full" else codes "not full"

-- the inbox's next word, or that there is none
abbrev pub next_text : Option ℕ → List ℕ
next_text None = codes "next end"
next_text (Some w) = codes "next " ++ decimal w

-- `x = 1`: `width` bytes from address a on have this value
abbrev pub holds_text : List (List ℕ) → (a width v : ℕ) → List ℕ
holds_text names a width v = part_name names a width ++ codes " = " ++ decimal v

-- what an entry did, as its row says it; a landing says it in memory's column alone
abbrev pub effect_text : List (List ℕ) → Entry → List ℕ
effect_text names (entry.Inner h) = []
effect_text names (entry.Load h a width v) = holds_text names a width v
effect_text names (entry.Store h a width v) = part_name names a width ++ codes " := " ++ decimal v
effect_text names (entry.Amo h a old new) = word_name names a ++ codes ": " ++ decimal old ++ codes " -> " ++ decimal new
effect_text names (entry.Fence h full) = fence_text full
effect_text names (entry.Next h w) = next_text w
effect_text names (entry.Took h i w) = codes "took " ++ decimal i ++ codes " " ++ decimal w
effect_text names (entry.Closed h i) = codes "closed " ++ decimal i
effect_text names (entry.Ended h) = codes "ended"
effect_text names (entry.Stopped h why) = codes "stopped " ++ decimal (stop_number why) ++ stop_name why
effect_text names (entry.Land h) = []

-- what a stored entry leaves in memory where it lands
abbrev pub landing_text : List (List ℕ) → Option Entry → List ℕ
landing_text names None = []
landing_text names (Some (entry.Store h a width v)) = holds_text names a width v
landing_text names (Some other) = []

-- the entry in the row, if one is named
abbrev pub entry_at : List Entry → Option ℕ → Option Entry
entry_at es None = None
entry_at es (Some row) = slice_get es row

-- what an entry writes to memory, where a landing lands the store of this row
abbrev pub memory_text : List (List ℕ) → List Entry → Option ℕ → Entry → List ℕ
memory_text names es landed (entry.Amo h a old new) = holds_text names a 4 new
memory_text names es landed (entry.Land h) = landing_text names (entry_at es landed)
memory_text names es landed other = []
