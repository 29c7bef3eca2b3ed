-- The operands that an instruction's text is made of are spelled as the grammar asks.
use Rattle.std.proofs.Common.{◌≡◌, ℕ, suc, ◌+◌, ◌^◌, ◌<◌, ◌≤◌, Bool, true, false, [], ◌∷◌, ◌++◌, length, Option, Some, None, refl, arith, inl, inr, ℤ, pos}
use Rattle.std.proofs.Common.{negsuc}
use Rattle.std.specs.Prelude.{nat_eq}
use Rattle.std.specs.Fmt.{digits, decimal, signed_decimal}
use Rattle.std.proofs.lemmas.Bool.{eqb-true}
use Rattle.std.proofs.lemmas.Fmt.{decimal_nonempty}
use Rattle.std.proofs.lemmas.Int.{ints}
use Rattle.texts.specs.{NonePass, magnitude, integer, is_blank}
use Rattle.texts.proofs.{decimal_none, decimal_numeral, stripped-none, stripped-all}
use Rattle.rv_decode.specs.{IsSigned, register_names}
use Rattle.rv_decode.specs.declared.instruction.Reg.{Reg}
use Rattle.assembler.specs.{set_names, a_register, a_set, number_from, natural_to, base, address_from, target_within, register_text, address_text, set_text}
use Rattle.assembler.specs.{bytes, IsInReach}
use Rattle.assembler.proofs.Rows.{all_below, below_all, found_in, member_of_row}
use Rattle.assembler.proofs.OperandLaws.{within-only, is_reached-only}

-- ---- registers and sets

abbrev is_number : Option ℕ → ℕ → Bool
is_number None n = false
is_number (Some m) n = nat_eq m n

is_number_of : (r : Option ℕ) (n : ℕ) → is_number r n ≡ true → r ≡ Some n
is_number_of r n e = grind (arith, eqb-true)

abbrev numbered : ℕ → Option ℕ
numbered n = found_in register_names (120 ∷ decimal n)

all_numbered : all_below 32 (λ n. is_number (numbered n) n) ≡ true
unfolding digits
all_numbered = refl

pub register_spelled : (r : Reg) → a_register.Says (register_text r) r
register_spelled r =
    member_of_row register_names (register_text r) r.number (is_number_of (numbered r.number) r.number
    (below_all 32 (λ n. is_number (numbered n) n) all_numbered r.number (omega arith)))

is_read_set : ℕ → Bool
is_read_set n = is_number (found_in set_names (set_text n)) n

all_sets : all_below 16 is_read_set ≡ true
unfolding is_read_set
all_sets = refl

pub set_spelled : (n : ℕ) → n < 16 → a_set.Says (set_text n) n
unfolding is_read_set
set_spelled n lt = member_of_row set_names (set_text n) n (is_number_of (found_in set_names (set_text n)) n (below_all 16 is_read_set all_sets n lt))

-- ---- numbers

pub signed_spelled : (z : ℤ) → IsSigned 31 z → integer.Says (signed_decimal z) z
unfolding integer magnitude
signed_spelled (pos n) fits = inr (n, inr (decimal_numeral n (omega (arith, ints))), refl)
signed_spelled (negsuc n) fits = inl (suc n, (decimal (suc n), refl, inr (decimal_numeral (suc n) (omega (arith, ints)))), refl)

pub short_spelled : (z : ℤ) → IsSigned 11 z → IsSigned 31 z → (number_from (negsuc 2047) (pos 2047)).Says (signed_decimal z) z
short_spelled z short fits = (z, signed_spelled z fits, within-only (negsuc 2047) (pos 2047) z (omega (arith, ints)) (omega (arith, ints)))

pub natural_spelled : (most n : ℕ) → n ≤ most → most < 2 ^ 32 → (natural_to most).Says (decimal n) n
unfolding integer magnitude
natural_spelled most n le small = (
  pos n,
  (
    pos n,
    inr (n, inr (decimal_numeral n (omega arith)), refl),
    within-only (pos 0) (pos most) (pos n) (omega (arith, ints)) (omega (arith, ints)),
  ),
  refl,
)

pub target_spelled : (bound z : ℤ) → IsSigned 31 z → IsInReach bound (bytes z) → (target_within bound).Says (signed_decimal z) (bytes z)
target_spelled bound z fits (low, high, even) = inr (z, signed_spelled z fits, rw (is_reached-only bound z low high even) refl)

pub signed_none : (p : ℕ → Bool) → p 45 ≡ false → ((d : ℕ) → d < 10 → p (48 + d) ≡ false) → (z : ℤ) → IsSigned 31 z → NonePass p (signed_decimal z)
signed_none p sign digit (pos n) fits = decimal_none p digit n (omega (arith, ints))
signed_none p sign digit (negsuc n) fits = (sign, decimal_none p digit (suc n) (omega (arith, ints)))

pub signed_some : (z : ℤ) → IsSigned 31 z → 0 < length (signed_decimal z)
signed_some z fits = grind (arith, decimal_nonempty, ints)

-- ---- addresses

base_spelled : (r : Reg) → NonePass is_blank (register_text r) → base.Says (register_text r ++ 41 ∷ []) r
base_spelled r solid = (register_text r, refl, rw (stripped-none is_blank (register_text r) solid) (register_spelled r))

-- `n(rs1)`
pub address_spelled : (z : ℤ) (r : Reg) → IsSigned 11 z → IsSigned 31 z → NonePass is_blank (signed_decimal z) → NonePass is_blank (register_text r)
    → (address_from (negsuc 2047) (pos 2047)).Says (address_text z r) (r, z)
address_spelled z r short fits solid solid_register = (
  (z, r),
  (
    signed_decimal z,
    register_text r ++ 41 ∷ [],
    refl,
    rw (stripped-none is_blank (signed_decimal z) solid) (inr (short_spelled z short fits)),
    base_spelled r solid_register,
  ),
  refl,
)

-- `(rs1)`
pub pointer_spelled : (r : Reg) → NonePass is_blank (register_text r)
    → (address_from (pos 0) (pos 0)).Says (40 ∷ (register_text r ++ 41 ∷ [])) (r, pos 0)
pointer_spelled r solid = ((pos 0, r), ([], register_text r ++ 41 ∷ [], refl, rw (stripped-all is_blank [] tt) (inl (refl, refl)), base_spelled r solid), refl)
