-- Numbers in digits of the words of a key.
use Rattle.std.specs.Prelude.{ℕ, ◌≡◌, ◌+◌, ◌^◌, ◌<◌, ◌≤◌, ◌⊎◌, All, List, map, slice_index, slice_set}
use Rattle.std.specs.List.{AllPairs, AllZip}
use Rattle.surveys.specs.inner.Fields.{digits_in, with_field}
use Rattle.surveys.specs.declared.layout.Field.{Field}

-- binary digits of one word of a key: how many stand below them, and how many they are
pub record Digits : Type 0 where
  pub word : ℕ
  pub shift : ℕ
  pub width : ℕ

abbrev pub number_in : Digits → (key : List ℕ) → ℕ
number_in digits key = digits_in (slice_index key digits.word) (2 ^ digits.shift) (2 ^ digits.width)

abbrev pub with_number : Digits → (key : List ℕ) → (number : ℕ) → List ℕ
with_number digits key number = slice_set key digits.word (with_field (slice_index key digits.word) (2 ^ digits.shift) (2 ^ digits.width) number)

-- they are of other words, or no digit is of both
abbrev pub AreApart : Digits → Digits → Type 0
AreApart digits other = (digits.word ≡ other.word → ⊥) ⊎ ((digits.shift + digits.width ≤ other.shift) ⊎ (other.shift + other.width ≤ digits.shift))

-- digits of keys of N words, none of which is of two numbers
pub record AreOfWords (N : ℕ) (layout : List Digits) : Type 0 where
  pub apart : AllPairs AreApart layout
  pub within : All (λ digits. digits.word < N) layout

-- the numbers in all these digits of a key
abbrev pub numbers_of_key : List Digits → (key : List ℕ) → List ℕ
numbers_of_key layout key = map (λ digits. number_in digits key) layout

-- the digits of a field
abbrev pub digits_of : Field → Digits
digits_of field = record { word = field.word; shift = field.shift; width = field.width }

-- there are digits enough for each number of the row
abbrev pub HasRoomFor : List Digits → (row : List ℕ) → Type 0
HasRoomFor layout row = AllZip (λ digits number. number < 2 ^ digits.width) layout row

-- there are digits enough for all numbers below the count of each place
abbrev pub HasRoomBelow : List Digits → (counts : List ℕ) → Type 0
HasRoomBelow layout counts = AllZip (λ digits count. count ≤ 2 ^ digits.width) layout counts
