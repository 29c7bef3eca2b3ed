-- Words as eight hex digits, padded with zeros: what they say.
use Rattle.std.proofs.Common.{◌≡◌, ℕ, zero, suc, ◌+◌, ◌*◌, ◌-◌, ◌/◌, ◌%◌, ◌^◌, ◌<◌, ◌≤◌, false, eqb, List, [], ◌∷◌, ◌++◌, length, refl, ◌∙◌, inl, inr, arith}
use Rattle.std.proofs.Common.{length-append}
use Rattle.std.specs.Prelude.{replicate}
use Rattle.std.specs.Fmt.{digits, digits_onto, digit_glyph, padded_integral, format_spec, char_count}
use Rattle.std.specs.Str.Parse.{AllDigits, digits_value}
use Rattle.std.proofs.Math.Nat.{pow-suc}
use Rattle.std.proofs.lemmas.Bool.{cases_Bool, eqb-false}
use Rattle.std.proofs.lemmas.List.{length-replicate, append-nil}
use Rattle.std.proofs.lemmas.Fmt.{digits_is_IsNumeral}
use Rattle.texts.specs.Numbers.{IsHexWord, hex_word}

-- a number below 16 ^ m has m digits at most
short : (k m n : ℕ) (acc : List ℕ) → 0 < m → n < 16 ^ m → length (digits_onto k 16 false n acc) ≤ m + length acc
short zero m n acc some small = omega arith
short (suc k) zero n acc some small = absurd (omega arith)
short (suc k) (suc m) n acc some small =
    let within : n < 16 ^ m * 16 = rw pow-suc at small in
    elim (cases_Bool (eqb (n / 16) 0)) [
      | inl one ↦ rw one (omega arith)
      | inr more ↦ (
          let left : n / 16 ≡ 0 → ⊥ = eqb-false (n / 16) 0 more in
          rw more (omega (arith, short k m (n / 16) (digit_glyph false (n % 16) ∷ acc) (some_left m n within left) (omega arith))))
    ]
  where
    some_left : (m n : ℕ) → n < 16 ^ m * 16 → (n / 16 ≡ 0 → ⊥) → 0 < m
    some_left zero n within left = absurd (left (omega arith))
    some_left (suc m) n within left = omega arith

zeros_digits : (k : ℕ) (ds : List ℕ) → AllDigits 16 ds → AllDigits 16 (replicate k 48 ++ ds)
zeros_digits zero ds all = all
zeros_digits (suc k) ds all = (omega arith, zeros_digits k ds all)

zeros_value : (k : ℕ) (ds : List ℕ) → digits_value 16 (replicate k 48 ++ ds) ≡ digits_value 16 ds
zeros_value zero ds = refl
zeros_value (suc k) ds = zeros_value k ds

pub hex_word-said : (word : ℕ) → word < 2 ^ 32 → IsHexWord (hex_word word) word
unfolding digits
hex_word-said word small =
    let ds = digits 16 false word in
    let said = digits_is_IsNumeral 16 false (omega arith) (omega arith) word (omega arith) in
    let few : length ds ≤ 8 = short 64 8 word [] (omega arith) small in
    let long : length (hex_word word) ≡ 8 = simp (length-append, length-replicate) (omega arith) in
    let some : 0 < length (hex_word word) = omega arith in
    (long, ((some, zeros_digits (8 - length ds) ds said.0.1), zeros_value (8 - length ds) ds ∙ said.1))

-- what `{:08x}` makes of digits
pub eight_digits : (ds : List ℕ) → padded_integral (format_spec 32 0 4 8 (2 ^ 64 - 1)) false [] ds ≡ replicate (8 - length ds) 48 ++ ds
unfolding padded_integral char_count
eight_digits ds = grind (arith, append-nil)
