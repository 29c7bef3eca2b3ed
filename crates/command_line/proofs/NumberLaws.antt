-- What Rust's parser reads is the number that the text says.
use Rattle.std.proofs.Common.{◌≡◌, ◌≤◌, ◌<◌, ◌^◌, ℕ, List, refl, Some, None, true, false, Bool, ◌&&◌, ap, arith, leb, leb-true, le-leb}
use Rattle.std.specs.Prelude.{Result, Ok, Err}
use Rattle.std.specs.Result.{result_ok}
use Rattle.std.proofs.lemmas.Bool.{and_parts}
use Rattle.std.specs.Str.Parse.{ParsesUnsigned, IsNumeral, digits_value, without_leading_plus}
use Rattle.texts.specs.Numbers.{is_numeral}
use Rattle.texts.proofs.NumberLaws.{IsNumeral-from_test, is_numeral-from_IsNumeral}
use Rattle.command_line.specs.CommandLines.{number_within}

abbrev digits_of : List ℕ → List ℕ
digits_of text = without_leading_plus text

abbrev value_of : List ℕ → ℕ
value_of text = digits_value 10 (digits_of text)

-- there is no number in the range
no_number : (least most : ℕ) (text : List ℕ) → (IsNumeral 10 (digits_of text) → least ≤ value_of text → value_of text ≤ most → ⊥)
    → None ≡ number_within least most text
unfolding number_within
no_number least most text never = go (is_numeral 10 (digits_of text) && (leb least (value_of text) && leb (value_of text) most)) refl
  where
    go : (b : Bool) → (is_numeral 10 (digits_of text) && (leb least (value_of text) && leb (value_of text) most)) ≡ b → None ≡ number_within least most text
    go true passes =
        let first = and_parts (is_numeral 10 (digits_of text)) (leb least (value_of text) && leb (value_of text) most) passes in
        let second = and_parts (leb least (value_of text)) (leb (value_of text) most) first.1 in
        absurd (never (IsNumeral-from_test 10 (digits_of text) first.0) (leb-true least (value_of text) second.0) (leb-true (value_of text) most second.1))
    go false fails = rw fails refl

-- a numeral of at most k bits
abbrev IsRead : (k : ℕ) (text : List ℕ) → Type 0
IsRead k text = IsNumeral 10 (digits_of text) × (value_of text < 2 ^ k)

module _ (k least most : ℕ) (text : List ℕ) where
  -- a number that is read, and lies in the range
  pub number_read : (n : ℕ) → IsRead k text × (n ≡ value_of text) → least ≤ n → n ≤ most → Some n ≡ number_within least most text
  unfolding number_within
  number_read n h low high =
      let above : least ≤ value_of text = omega (arith, h.1, low) in
      let below : value_of text ≤ most = omega (arith, h.1, high) in
      rw (
        is_numeral-from_IsNumeral 10 (digits_of text) h.0.0,
        le-leb least (value_of text) above,
        le-leb (value_of text) most below,
      ) (ap (λ (m : ℕ). Some m) h.1)

  pub number_too_small : (n : ℕ) → IsRead k text × (n ≡ value_of text) → n < least → None ≡ number_within least most text
  number_too_small n h low = no_number least most text (λ numeral above below. omega (arith, h.1, low, above))

  pub number_too_large : (n : ℕ) → IsRead k text × (n ≡ value_of text) → most < n → None ≡ number_within least most text
  number_too_large n h high = no_number least most text (λ numeral above below. omega (arith, h.1, high, below))

  pub number_not_read : most < 2 ^ k → (IsRead k text → ⊥) → None ≡ number_within least most text
  number_not_read fits refused = no_number least most text (λ numeral above below. refused (numeral, omega (arith, below, fits)))

-- a number of 64 bits
pub seed_read : {E : Type 0} (text : List ℕ) (r : Result ℕ E) → ParsesUnsigned {E = E} 64 10 text r → result_ok r ≡ number_within 0 18446744073709551615 text
seed_read text (Ok n) h = number_read 64 0 18446744073709551615 text n h (omega arith) (omega (arith, h.0.1, h.1))
seed_read text (Err e) h = number_not_read 64 0 18446744073709551615 text (omega arith) h
