-- Names and numbers.
use Rattle.std.specs.Prelude.{ℕ, ◌-◌, ◌^◌, ◌==◌, ℤ, pos, negsuc, Bool, false, not, ◌&&◌, ◌||◌, nat_lt}
use Rattle.std.specs.Prelude.{nat_eq, List, [], ◌∷◌, length, codes, Option, None, Some, if◌then◌else◌}
use Rattle.std.specs.List.{list_all, starts_with}
use Rattle.texts.specs.Cutting.{is_letter, is_digit, stripped}
use Rattle.texts.specs.Pieces.{is_gap}
use Rattle.texts.specs.Grammars.{Grammar, filter_mapped, integer}

-- What is left of a text without the blanks and LFs round it. A CR that ends a line is a space in a
-- cleaned text, and another one is no blank.
abbrev pub core : List ℕ → List ℕ
core text = stripped is_gap text

-- a letter or `_`
abbrev pub begins_name : ℕ → Bool
begins_name c = is_letter c || (c == 95)

abbrev pub goes_on_name : ℕ → Bool
goes_on_name c = begins_name c || is_digit c

-- a letter or `_`, and then letters, digits and `_`
abbrev pub is_spelled : List ℕ → Bool
is_spelled [] = false
is_spelled (c ∷ rest) = begins_name c && list_all goes_on_name (c ∷ rest)

abbrev pub is_not : List ℕ → Bool
is_not text = starts_with nat_eq text (codes "not") && (length text == 3)

-- `not` is a token of conditions, and never a name
abbrev pub is_name : List ℕ → Bool
is_name text = is_spelled text && not (is_not text)

-- ---- numbers

-- the word for which a number from -2^31 to 2^32 - 1 stands, which is the number modulo 2^32
abbrev pub word_from : ℤ → Option ℕ
word_from (pos n) = if nat_lt n (2 ^ 32) then Some n else None
word_from (negsuc n) = if nat_lt n (2 ^ 31) then Some (2 ^ 32 - 1 - n) else None

unfoldable pub a_word : Grammar ℕ
a_word = filter_mapped integer word_from
