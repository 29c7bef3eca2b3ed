-- Numbers in digits, with a sign or without.
use Rattle.std.specs.Prelude.{◌≡◌, ℕ, ◌^◌, ◌-◌, ◌<◌, ◌==◌, nat_lt, Bool, false, ◌&&◌, if◌then◌else◌, min}
use Rattle.std.specs.Prelude.{List, [], ◌∷◌, ◌++◌, length, replicate, Option, Some, None}
use Rattle.std.specs.List.{list_all}
use Rattle.std.specs.Char.{is_digit}
use Rattle.std.specs.Fmt.{digits}
use Rattle.std.specs.Str.Parse.{IsNumeral, digits_value}

-- One or more decimal digits say n.
abbrev pub SaysDecimal : List ℕ → ℕ → Type 0
SaysDecimal digits n = IsNumeral 10 digits × (digits_value 10 digits ≡ n)

-- One or more hex digits of either case say n.
abbrev pub SaysInHex : List ℕ → ℕ → Type 0
SaysInHex digits n = IsNumeral 16 digits × (digits_value 16 digits ≡ n)

-- Eight hex digits say the word n.
abbrev pub IsHexWord : List ℕ → ℕ → Type 0
IsHexWord digits n = (length digits ≡ 8) × SaysInHex digits n

-- a word as 8 lower case hex digits
abbrev pub hex_word : ℕ → List ℕ
hex_word word = replicate (8 - length (digits 16 false word)) 48 ++ digits 16 false word

-- A number from 2^32 on counts as 2^32, which passes every limit.
abbrev pub capped : ℕ → ℕ
capped n = min n (2 ^ 32)

-- One or more decimal digits say a number n below 2^32.
abbrev pub SaysWord : List ℕ → ℕ → Type 0
SaysWord digits n = SaysDecimal digits n × (n < 2 ^ 32)

-- the test of `IsNumeral`
abbrev pub is_numeral : ℕ → List ℕ → Bool
is_numeral radix [] = false
is_numeral radix (c ∷ digits) = list_all (λ d. is_digit d radix) (c ∷ digits)

unfoldable pub capped_value : ℕ → List ℕ → Option ℕ
capped_value radix digits = if is_numeral radix digits then Some (capped (digits_value radix digits)) else None

abbrev pub number_of : List ℕ → Option ℕ
number_of digits = capped_value 10 digits

abbrev pub hex_number_of : List ℕ → Option ℕ
hex_number_of digits = capped_value 16 digits

-- the number, where it is below the cap of 2 ^ 32
abbrev pub below_cap_of : Option ℕ → Option ℕ
below_cap_of None = None
below_cap_of (Some n) = if nat_lt n (2 ^ 32) then Some n else None

-- the number below 2^32 that decimal digits say
unfoldable pub word_of : List ℕ → Option ℕ
word_of digits = if is_numeral 10 digits && nat_lt (digits_value 10 digits) (2 ^ 32) then Some (digits_value 10 digits) else None

-- the word that eight hex digits say
unfoldable pub hex_word_of : List ℕ → Option ℕ
hex_word_of digits = if (length digits == 8) && is_numeral 16 digits then Some (digits_value 16 digits) else None
