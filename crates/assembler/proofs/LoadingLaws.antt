-- What `li` makes puts its number in the register.
use Rattle.std.proofs.Common.{◌≡◌, ℕ, ◌-◌, ◌*◌, ◌/◌, ◌%◌, ◌^◌, ◌<◌, ◌≤◌, true, not, eqb, refl, ap, subst, inl, inr, ◌⊎◌, arith, ℤ, pos, negsuc}
use Rattle.std.specs.Prelude.{◌+ℤ◌, ◌-ℤ◌, ◌≤ℤ◌, ◌<ℤ◌, int_lt, unsigned_abs}
use Rattle.std.specs.Int.{int_rem_euclid, int_div_euclid}
use Rattle.std.proofs.lemmas.Bool.{and_parts, not-true, cases_Bool, cases_lt, eqb-true}
use Rattle.std.proofs.lemmas.Int.{ints, int_rem_euclid_is}
use Rattle.rv_decode.specs.Fits.{IsSigned}
use Rattle.rv_decode.specs.declared.instruction.Reg.{Reg}
use Rattle.assembler.specs.{wrapped, low_of, high_of, is_short, loaded, IsSameWord, Puts}
use Rattle.assembler.specs.Loading.Puts.{short, upper, both}

-- a signed number of 32 bits
record IsWordNumber (v : ℤ) : Type 0 where
  low : negsuc 2147483647 ≤ℤ v
  high : v <ℤ pos (2 ^ 31)

-- v + 2048 + 2^32 is never negative
raised : ℤ → ℕ
raised v = unsigned_abs (v +ℤ pos 4294969344)

raised_is : (v : ℤ) → IsWordNumber v → (v +ℤ pos 2048) +ℤ pos (1048576 * 4096) ≡ pos (raised v)
unfolding raised
raised_is v is = grind (arith, ints)

low_is : (v : ℤ) → IsWordNumber v → low_of v ≡ pos (raised v % 4096) -ℤ pos 2048
low_is v is = ap (λ r. r -ℤ pos 2048) (int_rem_euclid_is (v +ℤ pos 2048) (pos 4096) 4096 1048576 (raised v) (omega arith) refl (raised_is v is))

low_signed : (v : ℤ) → IsWordNumber v → IsSigned 11 (low_of v)
low_signed v is = grind (arith, low_is, raised, ints)

left_is : (v : ℤ) → IsWordNumber v → v -ℤ low_of v ≡ pos (4096 * (raised v / 4096)) -ℤ pos 4294967296
left_is v is = let r = raised_is v is in let low = low_is v is in omega (arith, ints)

abbrev high_from : ℤ → ℕ
high_from z = unsigned_abs (int_rem_euclid (int_div_euclid z (pos 4096)) (pos 1048576))

-- where the word has no sign
high_plain : (q : ℕ) → 1048576 ≤ q → q < 2097152 → high_from (pos (4096 * q) -ℤ pos 4294967296) ≡ q - 1048576
high_plain q le lt = grind (arith, ints)

-- and where it has one
high_signed : (q : ℕ) → q < 1048576 → high_from (pos (4096 * q) -ℤ pos 4294967296) ≡ q
high_signed q lt = grind (arith, ints)

record Halves (v : ℤ) : Type 0 where
  high : high_of v < 2 ^ 20
  low : IsSigned 11 (low_of v)
  whole : (pos (4096 * high_of v) +ℤ low_of v ≡ v) ⊎ (pos (4096 * high_of v) +ℤ low_of v ≡ v +ℤ pos 4294967296)

halves : (v : ℤ) → IsWordNumber v → Halves v
halves v is = grind (arith, raised_is, low_is, raised, ints, cases_lt, left_is, high_signed, low_signed, high_plain)

same_word : (n v s : ℤ) → (n ≡ v) ⊎ (n ≡ v +ℤ pos 4294967296) → (s ≡ v) ⊎ (s ≡ v +ℤ pos 4294967296) → IsSameWord n s
same_word n v s h3 h4 = grind arith

wrapped-word : (n : ℤ) → negsuc 2147483647 ≤ℤ n → n ≤ℤ pos 4294967295 → IsWordNumber (wrapped n) × ((n ≡ wrapped n) ⊎ (n ≡ wrapped n +ℤ pos 4294967296))
wrapped-word n low high = grind (arith, cases_Bool, ints)

puts : (rd : Reg) (n v : ℤ) → IsWordNumber v → (n ≡ v) ⊎ (n ≡ v +ℤ pos 4294967296) → Puts rd n (loaded rd v)
puts rd n v is same = elim (cases_Bool (is_short v)) [
  | inl fits ↦ rw fits (short v (signed fits) (same_word n v v same (inl refl)))
  | inr wide ↦ (
      let parts = halves v is in
      elim (cases_Bool (eqb (unsigned_abs (low_of v)) 0)) [
        | inl none ↦ (
            let zero : low_of v ≡ pos 0 = omega (arith, ints, eqb-true (unsigned_abs (low_of v)) 0 none) in
            let sum : pos (4096 * high_of v) +ℤ low_of v ≡ pos (4096 * high_of v) = omega (arith, ints) in
            rw (wide, none) (upper (high_of v) parts.high (subst (IsSameWord n) sum (same_word n v (pos (4096 * high_of v) +ℤ low_of v) same parts.whole))))
        | inr some ↦ rw (wide, some) (both (high_of v) (low_of v) parts.high parts.low (same_word n v (pos (4096 * high_of v) +ℤ low_of v) same parts.whole))
      ])
]
  where
    signed : is_short v ≡ true → IsSigned 11 v
    signed fits = (let tests = and_parts (not (int_lt v (negsuc 2047))) (int_lt v (pos 2048)) fits in
        let above = not-true (int_lt v (negsuc 2047)) tests.0 in
        (omega (arith, ints, above), omega (arith, ints, tests.1)))

pub number_put : (rd : Reg) (n : ℤ) → negsuc 2147483647 ≤ℤ n → n ≤ℤ pos 4294967295 → Puts rd n (loaded rd (wrapped n))
number_put rd n low high = let word = wrapped-word n low high in puts rd n (wrapped n) word.0 word.1
