-- What the debugger prints.
use Rattle.std.specs.Prelude.{ℕ, ◌==◌, if◌then◌else◌, List, [], ◌∷◌, ◌++◌, codes}
use Rattle.std.specs.List.{flat_map}
use Rattle.std.specs.Fmt.{decimal}
use Rattle.memory.specs.declared.writes.Write.{Write}

-- at the schedule's end
abbrev pub end_line : List ℕ
end_line = codes "end" ++ 10 ∷ []

-- at a breakpoint
abbrev pub break_line : (hart pc : ℕ) → List ℕ
break_line hart pc = codes "break " ++ decimal hart ++ codes " " ++ decimal pc ++ 10 ∷ []

-- a number by itself
abbrev pub number_line : ℕ → List ℕ
number_line number = decimal number ++ 10 ∷ []

-- nothing for a word, else how many bytes
abbrev pub bytes_text : ℕ → List ℕ
bytes_text width = if width == 4 then [] else (codes " " ++ decimal width)

-- a pending store: its address, its value, and how many bytes it has where that isn't a word
abbrev pub store_line : Write → List ℕ
store_line store = decimal store.addr ++ codes " " ++ decimal store.value ++ bytes_text store.width ++ 10 ∷ []

abbrev pub store_lines : List Write → List ℕ
store_lines stores = flat_map store_line stores

-- what is no command of this machine's
abbrev pub unknown_line : List ℕ
unknown_line = codes "?" ++ 10 ∷ []
