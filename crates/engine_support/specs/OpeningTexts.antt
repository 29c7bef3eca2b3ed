-- An opening as a steps text: for each hart its code and its registers, and the words of memory. `show` writes it, and
-- `steps` reads it.
use Rattle.std.specs.Prelude.{ℕ, ◌+◌, ◌*◌, ◌==◌, if◌then◌else◌, List, [], ◌∷◌, ◌++◌, codes}
use Rattle.std.specs.List.{flat_map}
use Rattle.std.specs.Fmt.{decimal}
use Rattle.texts.specs.Numbers.{hex_word}
use Rattle.step_machine.specs.History.{HartOpeningValue, OpeningValue}

-- the texts of a list's elements, each by its number; the first one has this number
abbrev pub numbered : {A : Type 0} → (ℕ → A → List ℕ) → (first : ℕ) → List A → List ℕ
numbered text first [] = []
numbered text first (x ∷ xs) = text first x ++ numbered text (first + 1) xs

-- the line of a hart's code
abbrev pub code_line : List ℕ → List ℕ
code_line code = codes "hart" ++ flat_map (λ word. 32 ∷ hex_word word) code ++ 10 ∷ []

-- a register's line; a register that opens as 0 has none
abbrev pub register_line : (hart number value : ℕ) → List ℕ
register_line hart number value = if value == 0 then []
    else (codes "reg " ++ decimal hart ++ codes " " ++ decimal number ++ codes " " ++ decimal value ++ 10 ∷ [])

-- the lines of a hart's registers
abbrev pub registers_text : (hart : ℕ) → (registers : List ℕ) → List ℕ
registers_text hart registers = numbered (register_line hart) 0 registers

-- the lines of a hart
abbrev pub hart_steps : (hart : ℕ) → HartOpeningValue → List ℕ
hart_steps hart start = code_line start.code ++ registers_text hart start.registers

-- the line of a word of memory; a word that opens as 0 has none
abbrev pub word_line : (place value : ℕ) → List ℕ
word_line place value = if value == 0 then [] else (codes "word " ++ decimal (4 * place) ++ codes " " ++ decimal value ++ 10 ∷ [])

unfoldable pub steps_text : OpeningValue → List ℕ
steps_text opening = numbered hart_steps 0 opening.harts ++ numbered word_line 0 opening.words
