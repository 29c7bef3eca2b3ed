-- Words as bytes: most words of a position are small, and take one byte each.
use Rattle.std.specs.Prelude.{ℕ, ◌≡◌, ◌+◌, ◌*◌, ◌/◌, ◌%◌, nat_lt, if◌then◌else◌, List, [], ◌∷◌}
use Rattle.std.specs.List.{flat_map}
use Rattle.std.specs.Global.{Vec}

-- five groups of seven bits, the highest first; all bytes except the last are 128 at least
abbrev pub wide_bytes : ℕ → List ℕ
wide_bytes w =
    (128 + w / 128 / 128 / 128 / 128) ∷ (128 + w / 128 / 128 / 128 % 128) ∷ (128 + w / 128 / 128 % 128) ∷ (128 + w / 128 % 128) ∷ (w % 128) ∷ []

unfoldable pub word_bytes : ℕ → List ℕ
word_bytes w = if nat_lt w 128 then w ∷ [] else wide_bytes w

abbrev pub bytes_of : (words : List ℕ) → List ℕ
bytes_of words = flat_map word_bytes words

-- a word that was read so far, with seven bits more
unfoldable pub with_seven_bits : (word byte : ℕ) → ℕ
with_seven_bits word byte = word % 33554432 * 128 + byte % 128

-- the words of bytes, the first of which goes on with a word
unfoldable pub words_from : (word : ℕ) → (bytes : List ℕ) → List ℕ
words_from word [] = []
words_from word (b ∷ bs) = if nat_lt b 128 then with_seven_bits word b ∷ words_from 0 bs else words_from (with_seven_bits word b) bs

abbrev pub words_in : (bytes : List ℕ) → List ℕ
words_in bytes = words_from 0 bytes

-- these bytes are those of their words
abbrev pub IsCompact : Vec ℕ → Type 0
IsCompact key = bytes_of (words_in key.items) ≡ key.items

-- the words that a list's bytes say
abbrev pub position_words : Vec ℕ → List ℕ
position_words position = words_in position.items
