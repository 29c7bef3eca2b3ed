-- Digits and what they say.
use Rattle.std.proofs.Common.{◌≡◌, ℕ, ◌+◌, ◌*◌, ◌^◌, ◌<◌, ◌≤◌, Bool, true, false, cond, List, [], ◌∷◌, length, take, get_or, Option, Some, None, refl, ◌∙◌}
use Rattle.std.proofs.Common.{subst, arith, inl, inr, ltb}
use Rattle.std.specs.Prelude.{IfSome}
use Rattle.std.specs.List.{list_all}
use Rattle.std.specs.Char.{digit_value, is_digit}
use Rattle.std.specs.Str.Parse.{IsNumeral, AllDigits, digits_value}
use Rattle.std.proofs.lemmas.Bool.{ltb-true, lt-ltb, le-ltb, cases_lt, eqb-true, ne_eqb, and_parts}
use Rattle.std.proofs.lemmas.List.Folds.{list_all_more, list_all_at}
use Rattle.std.proofs.lemmas.Int.Digits.{digits_value_more, digits_value-lt}
use Rattle.std.proofs.Math.Nat.{mul-le-mul_left, mul-le-mul_right}
use Rattle.texts.specs.Numbers.{SaysDecimal, IsHexWord, capped, is_numeral, capped_value, number_of, hex_number_of, below_cap_of, word_of, hex_word_of}

AllDigits-from_list_all : (radix : ℕ) (digits : List ℕ) → list_all (λ c. is_digit c radix) digits ≡ true → AllDigits radix digits
AllDigits-from_list_all radix [] e = tt
AllDigits-from_list_all radix (c ∷ digits) e = grind (arith, and_parts, ltb-true, AllDigits-from_list_all radix digits)

list_all-from_AllDigits : (radix : ℕ) (digits : List ℕ) → AllDigits radix digits → list_all (λ c. is_digit c radix) digits ≡ true
list_all-from_AllDigits radix [] h = refl
list_all-from_AllDigits radix (c ∷ digits) h = rw (lt-ltb (digit_value c) radix h.0, list_all-from_AllDigits radix digits h.1) refl

pub IsNumeral-from_test : (radix : ℕ) (digits : List ℕ) → is_numeral radix digits ≡ true → IsNumeral radix digits
IsNumeral-from_test radix digits e = grind (arith, AllDigits-from_list_all)

pub is_numeral-from_IsNumeral : (radix : ℕ) (digits : List ℕ) → IsNumeral radix digits → is_numeral radix digits ≡ true
is_numeral-from_IsNumeral radix digits h = grind (arith, list_all-from_AllDigits)

-- ---- the value with its cap

-- capping the front of a number first changes nothing
pub capped-step : (n radix digit : ℕ) → 1 ≤ radix → capped (capped n * radix + digit) ≡ capped (n * radix + digit)
capped-step n radix digit low = grind (arith, mul-le-mul_left, mul-le-mul_right)

-- ---- the reader's loop

abbrev pub all_digits : ℕ → List ℕ → Bool
all_digits radix digits = list_all (λ c. is_digit c radix) digits

pub all_digits_more : (radix : ℕ) (digits : List ℕ) (i : ℕ) → i < length digits
    → digit_value (get_or digits i 0) < radix → all_digits radix (take i digits) ≡ true
    → all_digits radix (take (i + 1) digits) ≡ true
all_digits_more radix digits i lt fits so_far = list_all_more (λ c. is_digit c radix) digits i 0 lt
    ∙ rw (so_far, lt-ltb (digit_value (get_or digits i 0)) radix fits) refl

pub value_more : (radix : ℕ) (digits : List ℕ) (i value : ℕ) → 1 ≤ radix → i < length digits
    → value ≡ capped (digits_value radix (take i digits))
    → capped (value * radix + digit_value (get_or digits i 0)) ≡ capped (digits_value radix (take (i + 1) digits))
value_more radix digits i value low lt so_far = grind (arith, digits_value_more, capped-step)

pub capped_value_empty : (radix : ℕ) (digits : List ℕ) → length digits ≡ 0 → capped_value radix digits ≡ None
unfolding capped_value
capped_value_empty radix digits e = grind arith

pub capped_value_other : (radix : ℕ) (digits : List ℕ) (i : ℕ) → i < length digits → radix ≤ digit_value (get_or digits i 0) → capped_value radix digits ≡ None
unfolding capped_value
capped_value_other radix digits i lt other = grind (arith, list_all_at, le-ltb)

pub capped_value-all : (radix : ℕ) (digits : List ℕ) → 0 < length digits → all_digits radix digits ≡ true
    → capped_value radix digits ≡ Some (capped (digits_value radix digits))
unfolding capped_value
capped_value-all radix digits some all = grind arith

-- ---- the numbers of the grammars

-- what is read was said by digits
pub capped_value-said : (radix : ℕ) (digits : List ℕ) (n : ℕ) → capped_value radix digits ≡ Some n
    → IsNumeral radix digits × (capped (digits_value radix digits) ≡ n)
unfolding capped_value
capped_value-said radix digits n e = grind (arith, IsNumeral-from_test)

-- and what digits say is read
pub capped_value-of_IsNumeral : (radix : ℕ) (digits : List ℕ) → IsNumeral radix digits → capped_value radix digits ≡ Some (capped (digits_value radix digits))
unfolding capped_value
capped_value-of_IsNumeral radix digits h = rw (is_numeral-from_IsNumeral radix digits h) refl

-- what a digit's reader says of the byte that it read
pub other_digit : (radix byte read : ℕ) → read ≡ byte → (digit_value read < radix → ⊥) → radix ≤ digit_value byte
other_digit radix byte read same refused = subst (λ (b : ℕ). radix ≤ digit_value b) same
    (elim (cases_lt (digit_value read) radix) [ inl lt ↦ absurd (refused lt) | inr le ↦ le ])

pub read_digit : (radix byte read digit : ℕ) → read ≡ byte → (digit_value read < radix) × (digit ≡ digit_value read)
    → (digit_value byte < radix) × (digit ≡ digit_value byte)
read_digit radix byte read digit same h = subst (λ (b : ℕ). (digit_value b < radix) × (digit ≡ digit_value b)) same h

-- ---- words

below_cap_of-capped : (n : ℕ) → below_cap_of (Some (capped n)) ≡ cond (ltb n (2 ^ 32)) (Some n) None
below_cap_of-capped n = grind (arith, lt-ltb, le-ltb)

pub number_below_cap : (digits : List ℕ) → below_cap_of (number_of digits) ≡ word_of digits
unfolding capped_value word_of
number_below_cap digits = grind (arith, below_cap_of-capped)

pub word_said : (digits : List ℕ) (n : ℕ) → word_of digits ≡ Some n → SaysDecimal digits n × (n < 2 ^ 32)
unfolding word_of
word_said digits n e = grind (arith, IsNumeral-from_test, ltb-true)

pub says_word : (digits : List ℕ) (n : ℕ) → SaysDecimal digits n → n < 2 ^ 32 → word_of digits ≡ Some n
unfolding word_of
says_word digits n h small = rw (is_numeral-from_IsNumeral 10 digits h.0, h.1, lt-ltb n (2 ^ 32) small) refl

-- eight hex digits always say a word
hex_value-lt : (digits : List ℕ) → length digits ≡ 8 → IsNumeral 16 digits → digits_value 16 digits < 2 ^ 32
hex_value-lt digits eight h = subst (λ (k : ℕ). digits_value 16 digits < 16 ^ k) eight (digits_value-lt 16 digits h.1)

pub hex_number_below_cap : (digits : List ℕ) → length digits ≡ 8 → below_cap_of (hex_number_of digits) ≡ hex_word_of digits
unfolding capped_value hex_word_of
hex_number_below_cap digits eight = go (is_numeral 16 digits) refl
  where
    go : (b : Bool) → is_numeral 16 digits ≡ b → below_cap_of (hex_number_of digits) ≡ hex_word_of digits
    go true passes =
        let small = lt-ltb (digits_value 16 digits) (2 ^ 32) (hex_value-lt digits eight (IsNumeral-from_test 16 digits passes)) in
        rw (passes, eight) (below_cap_of-capped (digits_value 16 digits) ∙ rw small refl)
    go false fails = rw (fails, eight) refl

pub hex_word_other : (digits : List ℕ) → (length digits ≡ 8 → ⊥) → hex_word_of digits ≡ None
unfolding hex_word_of
hex_word_other digits other = rw (ne_eqb (length digits) 8 other) refl

pub hex_word-said : (digits : List ℕ) (n : ℕ) → hex_word_of digits ≡ Some n → IsHexWord digits n
unfolding hex_word_of
hex_word-said digits n e = grind (arith, eqb-true, IsNumeral-from_test)

pub is_hex_word : (digits : List ℕ) (n : ℕ) → IsHexWord digits n → hex_word_of digits ≡ Some n
unfolding hex_word_of
is_hex_word digits n h = rw (h.0, is_numeral-from_IsNumeral 16 digits h.1.0, h.1.1) refl

-- what a reader answered, from the function that it computes
pub found_word : (digits : List ℕ) (o : Option ℕ) → o ≡ word_of digits → IfSome o (SaysDecimal digits)
found_word digits o e = grind (arith, word_said)

pub found_hex_word : (digits : List ℕ) (o : Option ℕ) → o ≡ hex_word_of digits → IfSome o (IsHexWord digits)
found_hex_word digits o e = grind (arith, hex_word-said)

-- ---- how large a number that is read can be

pub small_number : (radix : ℕ) (digits : List ℕ) (r : Option ℕ) → r ≡ capped_value radix digits → IfSome r (λ n. n ≤ 2 ^ 32)
small_number radix digits r e = grind (arith, capped_value-said)
