-- A number in some digits of a word.
use Rattle.std.specs.Prelude.{ℕ, ◌+◌, ◌*◌, ◌/◌, ◌%◌}

-- the number in some digits of a word: `low` is how many numbers the digits below them have, `size` how many these have
abbrev pub digits_in : (word low size : ℕ) → ℕ
digits_in word low size = word / low % size

-- the word with another number there
abbrev pub with_field : (word low size number : ℕ) → ℕ
with_field word low size number = (word / low / size * size + number) * low + word % low
