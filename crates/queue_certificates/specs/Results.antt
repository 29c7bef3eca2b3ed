-- What an instruction leaves in a register, as far as it is known. What isn't treated becomes any number.
use Rattle.std.specs.Prelude.{ℕ, ℤ, zero, suc, pos, negsuc, ◌+◌, ◌-◌, ◌*◌, ◌/◌, ◌%◌, ◌^◌, ◌==◌, ◌&&◌, not, nat_le, nat_lt}
use Rattle.std.specs.Prelude.{if◌then◌else◌, Bool, true, false, Option, None, Some, List, map, count_ones, bit_and, bit_or, bit_xor}
use Rattle.std.specs.Int.{trailing_zeros, w32}
use Rattle.rv_decode.specs.declared.instruction.BranchOp.{BranchOp}
use Rattle.rv_decode.specs.declared.instruction.BranchOp.TheVariants as branch
use Rattle.rv_decode.specs.declared.instruction.ImmediateOp.{ImmediateOp}
use Rattle.rv_decode.specs.declared.instruction.ImmediateOp.TheVariants as immediate
use Rattle.rv_decode.specs.declared.instruction.ShiftOp.{ShiftOp}
use Rattle.rv_decode.specs.declared.instruction.ShiftOp.TheVariants as shift
use Rattle.rv_decode.specs.declared.instruction.RegisterOp.{RegisterOp}
use Rattle.rv_decode.specs.declared.instruction.RegisterOp.TheVariants as register
use Rattle.hart.specs.Effects.{word, computed, with_immediate, shifted, is_taken, flag}
use Rattle.slot_queue.specs.Queues.{Queue}
use Rattle.queue_certificates.specs.Forms.{Form, number, first_variable, plus, times, lifted, vanishes, is_same, most, fits_in}
use Rattle.queue_certificates.specs.Forms.{remainder_word, Bounds, bounds_of}
use Rattle.queue_certificates.specs.States.{KnownValue, any, linear, index_for, signed_for, ends_as, has_bits, value_by, scaled}

-- a value over one variable more, the first, which is at most `most`
pub record Result : Type 0 where
  pub most : ℕ
  pub value : KnownValue

abbrev pub just : KnownValue → Result
just v = record { most = 0; value = value_by lifted v }

abbrev pub exactly : ℕ → Result
exactly n = just (if nat_lt n (2 ^ 32) then linear (number n) else any)

-- some number up to n
abbrev pub any_up_to : ℕ → Result
any_up_to n = if nat_lt n (2 ^ 32) then record { most = n; value = linear first_variable } else just any

-- what is known, or some number up to n
abbrev pub or_up_to : (n : ℕ) → KnownValue → Result
or_up_to n any = any_up_to n
or_up_to n v = just v

-- the number, where a value is one
abbrev pub as_number : KnownValue → Option ℕ
as_number any = None
as_number (linear f) = if vanishes (2 ^ 32) f.factors then Some (f.constant % 2 ^ 32) else None
as_number (index_for i f) = None
as_number (signed_for i f) = None
as_number (ends_as n f) = None
as_number (has_bits m b) = None

-- some bits of a word: those under the mask are these. A number is a word of which all are known
pub record Bits : Type 0 where
  pub mask : ℕ
  pub bits : ℕ

abbrev pub of_bits : (mask bits : ℕ) → KnownValue
of_bits mask bits = if mask == 2 ^ 32 - 1 then linear (number bits) else has_bits mask bits

abbrev pub number_bits : Option ℕ → Bits
number_bits None = record { mask = 0; bits = 0 }
number_bits (Some n) = record { mask = 2 ^ 32 - 1; bits = n }

-- what bits are known of a value, where it is a word
abbrev pub bits_of : KnownValue → Option Bits
bits_of any = None
bits_of (linear f) = Some (number_bits (as_number (linear f)))
bits_of (index_for i f) = None
bits_of (signed_for i f) = None
bits_of (ends_as n f) = None
bits_of (has_bits m b) = Some (record { mask = m; bits = b })

-- an `or` has a bit where both are known there, or one is known to have it
abbrev pub either_bits : Option Bits → Option Bits → KnownValue
either_bits None b = any
either_bits (Some a) None = any
either_bits (Some a) (Some b) = of_bits (bit_or (bit_and a.mask b.mask) (bit_or a.bits b.bits)) (bit_or a.bits b.bits)

abbrev pub or_of : KnownValue → KnownValue → KnownValue
or_of v w = either_bits (bits_of v) (bits_of w)

-- what one says where it says something, and else the other
abbrev pub or_else : Option ℕ → Result → Result
or_else None r = r
or_else (Some n) r = exactly n

abbrev pub both : (ℕ → ℕ → ℕ) → Option ℕ → Option ℕ → Option ℕ
both f None b = None
both f (Some a) None = None
both f (Some a) (Some b) = Some (f a b)

-- a < b, where bounds tell
abbrev pub is_below : Option Bounds → Option Bounds → Option Bool
is_below None b = None
is_below (Some a) None = None
is_below (Some a) (Some b) = if nat_lt a.high b.low then Some true else (if nat_le b.high a.low then Some false else None)

-- the same of two numbers in two's complement, neither of which is negative
abbrev pub is_below_signed : Option Bounds → Option Bounds → Option Bool
is_below_signed None b = None
is_below_signed (Some a) None = None
is_below_signed (Some a) (Some b) = if nat_lt a.high (2 ^ 31) && nat_lt b.high (2 ^ 31) then is_below (Some a) (Some b) else None

-- the difference is 0, where bounds tell
abbrev pub is_nothing : Option Bounds → Option Bool
is_nothing None = None
is_nothing (Some b) = if nat_lt 0 b.low then Some false else (if b.high == 0 then Some true else None)

-- a number of n bits, where it is known whether it is 0
abbrev pub bounds_by : (n : ℕ) → Option Bool → Option Bounds
bounds_by n None = None
bounds_by n (Some true) = Some (record { low = 0; high = 0 })
bounds_by n (Some false) = Some (record { low = 1; high = 2 ^ n - 1 })

abbrev pub negated : Option Bool → Option Bool
negated None = None
negated (Some b) = Some (not b)

abbrev pub flag_of : Option Bool → Result
flag_of None = any_up_to 1
flag_of (Some b) = exactly (flag b)

-- whether it is below a number
abbrev pub set_less : Option Bounds → ℤ → Result
set_less b (pos n) = if nat_lt n (2 ^ 31) then flag_of (is_below_signed b (Some (record { low = n; high = n }))) else any_up_to 1
set_less b (negsuc n) = any_up_to 1

abbrev pub shifted_right : Option Bounds → (amount : ℕ) → Result
shifted_right None amount = just any
shifted_right (Some b) amount = any_up_to (b.high / 2 ^ amount)

abbrev pub sum_of : KnownValue → KnownValue → KnownValue
sum_of (linear f) (linear g) = linear (plus f g)
sum_of v w = any

-- a number by its remainder: it is this form's by `by`, which divides 2 ^ 32
pub record Rest : Type 0 where
  pub by : ℕ
  pub form : Form

-- all numbers of which a remainder is known: a multiple of a number that isn't known is added
abbrev pub of_rest : Option Rest → Result
of_rest None = just any
of_rest (Some r) = record { most = 2 ^ 32 / r.by - 1; value = linear (plus (lifted r.form) (times r.by first_variable)) }

abbrev pub negative : Option Rest → Option Rest
negative None = None
negative (Some r) = Some (record { by = r.by; form = times (2 ^ 32 - 1) r.form })

-- a sum is known by the lesser of the two that divides the other
abbrev pub rests_added : Option Rest → Option Rest → Option Rest
rests_added None b = None
rests_added (Some a) None = None
rests_added (Some a) (Some b) = if a.by % b.by == 0 then Some (record { by = b.by; form = plus a.form b.form }) else
    (if b.by % a.by == 0 then Some (record { by = a.by; form = plus a.form b.form }) else None)

-- a number as its own remainder
abbrev pub whole : Form → Option Rest
whole f = Some (record { by = 2 ^ 32; form = f })

abbrev pub result_by : (Form → Form) → Result → Result
result_by t r = record { most = r.most; value = value_by t r.value }

-- all bits turned, where the mask has them all
abbrev pub turned : KnownValue → (mask : ℕ) → Result
turned (linear f) mask = just (if mask == 2 ^ 32 - 1 then linear (plus (number (2 ^ 32 - 1)) (times (2 ^ 32 - 1) f)) else any)
turned v mask = just any

-- of an index's word, where its remainder divides 2 ^ 32
abbrev pub index_rest : Queue → Form → Option Rest
index_rest q f = if 2 ^ 32 % (q.scale * q.modulus) == 0
    then Some (record { by = q.scale * q.modulus; form = scaled q (plus f (number q.offset)) }) else None

-- a signed load leaves a remainder that divides the number of words of the index's bytes
abbrev pub rest_of : (ℕ → Queue) → KnownValue → Option Rest
rest_of queues any = None
rest_of queues (linear f) = whole f
rest_of queues (index_for i f) = index_rest (queues i) f
rest_of queues (ends_as n f) = None
rest_of queues (has_bits m b) = None
rest_of queues (signed_for i f) = if 256 ^ (queues i).index_width % ((queues i).scale * (queues i).modulus) == 0 then index_rest (queues i) f else None

abbrev pub shifted_left : (ℕ → Queue) → KnownValue → (amount : ℕ) → Result
shifted_left queues (linear f) amount = just (linear (times (2 ^ amount) f))
shifted_left queues (has_bits m b) amount = just (of_bits (bit_or ((m * 2 ^ amount) % 2 ^ 32) (2 ^ amount - 1)) ((b * 2 ^ amount) % 2 ^ 32))
shifted_left queues v amount = result_by (times (2 ^ amount)) (of_rest (rest_of queues v))

-- with its sign: where the highest bit is known, so are the bits that it fills
abbrev pub shifted_with_sign : KnownValue → (amount : ℕ) → Result
shifted_with_sign (has_bits m b) amount = if nat_lt m (2 ^ 32) && nat_lt amount 32
    then just (of_bits (shifted shift.RightArithmetic m amount) (shifted shift.RightArithmetic b amount)) else just any
shifted_with_sign v amount = just any

-- two numbers agree in their lowest bits where their `xor` is 0 in these, and where their difference is
abbrev pub xor_of : KnownValue → KnownValue → KnownValue
xor_of (linear f) (linear g) = ends_as 32 (plus f (times (2 ^ 32 - 1) g))
xor_of v w = any

-- bits that a mask keeps of known ones, and 0 beside it. Few enough low bits for the number of a slot, of which none is known, are the other
abbrev pub kept_bits : (m b mask : ℕ) → (other : Result) → Result
kept_bits m b mask other = if nat_le mask 65535 && (mask + 1 == 2 ^ count_ones mask) && (bit_and m mask == 0) then other
    else just (of_bits (bit_or m (bit_xor mask (2 ^ 32 - 1))) (bit_and b mask))

-- some of the lowest bits of a number of which that is known, or of a word of which some are; or the other
abbrev pub ending_in : KnownValue → (mask : ℕ) → (other : Result) → Result
ending_in (ends_as n f) mask other = if (mask + 1 == 2 ^ count_ones mask) && nat_le (count_ones mask) n then just (ends_as (count_ones mask) f) else other
ending_in (has_bits m b) mask other = kept_bits m b mask other
ending_in v mask other = other

abbrev pub ending_by : KnownValue → Option ℕ → (other : Result) → Result
ending_by v None other = other
ending_by v (Some mask) other = ending_in v mask other

-- an index that counts on in n words, so that each is a remainder by n
abbrev pub is_count : Queue → (n : ℕ) → Bool
is_count q n = (q.base == 0) && (q.scale == 1) && (q.modulus == n)

abbrev pub counting : (ℕ → Queue) → (N n : ℕ) → Option ℕ
counting queues zero n = None
counting queues (suc k) n = if is_count (queues k) n then Some k else counting queues k n

-- a remainder by n as a word of such an index
abbrev pub rest_counted : (ℕ → Queue) → (n : ℕ) → Form → Option ℕ → (other : Result) → Result
rest_counted queues n f None other = other
rest_counted queues n f (Some i) other = just (index_for i (plus f (number (n - (queues i).offset % n))))

-- n times a form, where it is one
abbrev pub multiple_or : (n : ℕ) → Option Form → (other : Result) → Result
multiple_or n None other = other
multiple_or n (Some g) other = just (linear (times n g))

abbrev pub if_unbounded : (most : Option ℕ) → (r other : Result) → Result
if_unbounded None r other = r
if_unbounded (Some n) r other = other

abbrev pub number_and : (ℕ → ℕ) → Option ℕ → Option ℕ
number_and f None = None
number_and f (Some a) = Some (f a)

abbrev pub taken_known : BranchOp → Option ℕ → Option ℕ → Option Bool → Option Bool
taken_known op None b other = other
taken_known op (Some a) None other = other
taken_known op (Some a) (Some b) other = Some (is_taken op a b)

-- a word is negative where its highest bit is 1: whether it is below a number that is 0, or the other
abbrev pub sign_or : KnownValue → Option ℕ → (other : Option Bool) → Option Bool
sign_or (has_bits m b) (Some zero) other = if bit_and m (2 ^ 31) == 2 ^ 31 then Some (bit_and b (2 ^ 31) == 2 ^ 31) else other
sign_or v a other = other

module _ (ranges : List (Option ℕ)) where
  abbrev pub bounds : KnownValue → Option Bounds
  bounds any = None
  bounds (linear f) = bounds_of (2 ^ 32) ranges f
  bounds (index_for i f) = None
  bounds (signed_for i f) = None
  bounds (ends_as n f) = if nat_le 1 n && nat_le n 32 then bounds_by n (is_nothing (bounds_of (2 ^ n) ranges f)) else None
  bounds (has_bits m b) = None

  -- whether one is below the other, in two's complement
  abbrev pub is_less : KnownValue → KnownValue → Option Bool
  is_less v w = sign_or v (as_number w) (is_below_signed (bounds v) (bounds w))

  -- whether a value is this number, where that is 0
  abbrev pub is_zero : KnownValue → Option ℕ → Option Bool
  is_zero v None = None
  is_zero v (Some a) = if a == 0 then is_nothing (bounds v) else None

  -- whether their remainders by n are the same, where bounds of the difference tell
  abbrev pub agrees : (n : ℕ) → Form → Form → Option Bool
  agrees n f g = is_nothing (bounds_of n ranges (plus f (times (n - 1) g)))

  -- a multiple of a power of two, as a shift to the left leaves it, shifted right: the remainder of what it is a multiple of
  abbrev pub without : (n : ℕ) → Form → Form
  without n f = record { constant = f.constant / n; factors = map (λ m. m / n) f.factors }

  -- bits in a row, of which this is the lowest, of one of its multiples
  abbrev pub masked_row : Rest → (mask low : ℕ) → Result
  masked_row r mask low = if (mask + low == low * 2 ^ count_ones mask) && (r.by % (mask + low) == 0) && is_same 0 r.form (times low (without low r.form))
      then multiple_or low (remainder_word ranges (without low r.form) (2 ^ count_ones mask)) (any_up_to mask) else any_up_to mask

-- where there are N queues
module _ (queues : ℕ → Queue) (N : ℕ) (ranges : List (Option ℕ)) where
  -- the remainder by n, as a form or as an index's word
  abbrev pub remaining : (n : ℕ) → Form → Option Form → (other : Result) → Result
  remaining n f (Some g) other = just (linear g)
  remaining n f None other = if_unbounded (most ranges f) (rest_counted queues n f (counting queues N n) other) other

  -- the low bits, or bits in a row
  abbrev pub masked : Option Rest → (mask : ℕ) → Result
  masked None mask = any_up_to mask
  masked (Some r) mask = if (mask + 1 == 2 ^ count_ones mask) && (r.by % (mask + 1) == 0)
      then remaining (mask + 1) r.form (remainder_word ranges r.form (mask + 1)) (any_up_to mask) else masked_row ranges r mask (2 ^ trailing_zeros w32 mask)

  abbrev pub masked_by : Option Rest → Option ℕ → (other : Result) → Result
  masked_by r None other = other
  masked_by r (Some mask) other = masked r mask

  abbrev pub shifted_back : KnownValue → (amount : ℕ) → Result
  shifted_back any amount = just any
  shifted_back (index_for i f) amount = just any
  shifted_back (signed_for i f) amount = just any
  shifted_back (ends_as n f) amount = just any
  shifted_back (has_bits m b) amount = just (of_bits (bit_or (m / 2 ^ amount) (2 ^ 32 - 2 ^ (32 - amount))) (b / 2 ^ amount))
  shifted_back (linear f) amount = if nat_le amount 32 && is_same 0 f (times (2 ^ amount) (without ranges (2 ^ amount) f))
      then remaining (2 ^ (32 - amount)) (without ranges (2 ^ amount) f) (remainder_word ranges (without ranges (2 ^ amount) f) (2 ^ (32 - amount)))
      (shifted_right (bounds_of (2 ^ 32) ranges f) amount)
      else shifted_right (bounds_of (2 ^ 32) ranges f) amount

  abbrev pub shift_part : ShiftOp → KnownValue → (amount : ℕ) → Result
  shift_part shift.Left v amount = shifted_left queues v amount
  shift_part shift.Right v amount = shifted_back v amount
  shift_part shift.RightArithmetic v amount = shifted_with_sign v amount

  abbrev pub of_shift : ShiftOp → KnownValue → (amount : ℕ) → Result
  of_shift op v amount = or_else (number_and (λ a. shifted op a amount) (as_number v)) (shift_part op v amount)

  -- of a value and an immediate
  abbrev pub immediate_part : ImmediateOp → KnownValue → ℤ → Result
  immediate_part immediate.Add v n = of_rest (rests_added (rest_of queues v) (whole (number (word n))))
  immediate_part immediate.And v n = ending_in v (word n) (masked (rest_of queues v) (word n))
  immediate_part immediate.SetLess v n = set_less (bounds ranges v) n
  immediate_part immediate.SetLessUnsigned v n = flag_of (is_below (bounds ranges v) (bounds ranges (linear (number (word n)))))
  immediate_part immediate.Xor v n = turned v (word n)
  immediate_part immediate.Or v n = just (or_of v (linear (number (word n))))

  abbrev pub of_immediate : ImmediateOp → KnownValue → ℤ → Result
  of_immediate op v n = or_else (number_and (λ a. with_immediate op a n) (as_number v)) (immediate_part op v n)

  abbrev pub register_part : RegisterOp → KnownValue → KnownValue → Result
  register_part register.Add v w = of_rest (rests_added (rest_of queues v) (rest_of queues w))
  register_part register.Sub v w = of_rest (rests_added (rest_of queues v) (negative (rest_of queues w)))
  register_part register.ShiftLeft v w = just any
  register_part register.SetLess v w = flag_of (is_below_signed (bounds ranges v) (bounds ranges w))
  register_part register.SetLessUnsigned v w = flag_of (is_below (bounds ranges v) (bounds ranges w))
  register_part register.Xor v w = just (xor_of v w)
  register_part register.ShiftRight v w = just any
  register_part register.ShiftRightArithmetic v w = just any
  register_part register.Or v w = just (or_of v w)
  register_part register.And v w = ending_by v (as_number w) (ending_by w (as_number v)
      (masked_by (rest_of queues v) (as_number w) (masked_by (rest_of queues w) (as_number v) (just any))))

  abbrev pub of_registers : RegisterOp → KnownValue → KnownValue → Result
  of_registers op v w = or_else (both (computed op) (as_number v) (as_number w)) (register_part op v w)

module _ (queues : ℕ → Queue) (ranges : List (Option ℕ)) where
  -- a form without a queue's base and scale, and whether it is a word of the queue's index that stands for what is left
  abbrev pub unscaled : Queue → Form → Form
  unscaled q f = record { constant = (f.constant % 2 ^ 32 - q.base) / q.scale; factors = map (λ m. m % 2 ^ 32 / q.scale) f.factors }

  abbrev pub is_scaled : Queue → Form → (k : Form) → Bool
  is_scaled q f k = is_same (2 ^ 32) f (scaled q k) && fits_in (most ranges (scaled q k)) (Some (2 ^ 32 - 1))
      && fits_in (most ranges k) (Some (q.modulus - 1))

  -- the count that a value stands for as a word of queue i's index, with the offset, up to the modulus
  abbrev pub standing : (i : ℕ) → KnownValue → Option Form
  standing i any = None
  standing i (linear f) = if is_scaled (queues i) f (unscaled (queues i) f) then Some (unscaled (queues i) f) else None
  standing i (index_for j f) = if i == j then Some (plus f (number (queues i).offset)) else None
  standing i (signed_for j f) = None
  standing i (ends_as n f) = None
  standing i (has_bits m b) = None

  abbrev pub both_agree : (n : ℕ) → Option Form → Option Form → Option Bool
  both_agree n None k = None
  both_agree n (Some j) None = None
  both_agree n (Some j) (Some k) = agrees ranges n j k

  -- of two words of queue i's index
  abbrev pub is_equal_word : (i : ℕ) → KnownValue → KnownValue → Option Bool
  is_equal_word i v w = if nat_le 1 (queues i).scale then both_agree (queues i).modulus (standing i v) (standing i w) else None

  -- what signed loads leave of words is equal where the words are
  abbrev pub is_equal : KnownValue → KnownValue → Option Bool
  is_equal any w = None
  is_equal (index_for i f) w = is_equal_word i (index_for i f) w
  is_equal (signed_for i f) any = None
  is_equal (signed_for i f) (linear g) = None
  is_equal (signed_for i f) (index_for j g) = None
  is_equal (signed_for i f) (signed_for j g) = if (queues i).index_width == (queues j).index_width
      then is_equal_word i (index_for i f) (index_for j g) else None
  is_equal (linear f) any = None
  is_equal (linear f) (signed_for i g) = None
  is_equal (linear f) (index_for i g) = is_equal_word i (linear f) (index_for i g)
  is_equal (linear f) (linear g) = agrees ranges (2 ^ 32) f g
  is_equal (linear f) (ends_as n g) = is_zero ranges (ends_as n g) (as_number (linear f))
  is_equal (ends_as n f) w = is_zero ranges (ends_as n f) (as_number w)
  is_equal (has_bits m b) w = None
  is_equal (linear f) (has_bits m b) = None
  is_equal (signed_for i f) (ends_as n g) = None
  is_equal (signed_for i f) (has_bits m b) = None

  -- whether a branch is taken, where that is known
  abbrev pub branch_part : BranchOp → KnownValue → KnownValue → Option Bool
  branch_part branch.Equal v w = is_equal v w
  branch_part branch.NotEqual v w = negated (is_equal v w)
  branch_part branch.Less v w = is_less ranges v w
  branch_part branch.GreaterEqual v w = negated (is_less ranges v w)
  branch_part branch.LessUnsigned v w = is_below (bounds ranges v) (bounds ranges w)
  branch_part branch.GreaterEqualUnsigned v w = negated (is_below (bounds ranges v) (bounds ranges w))

  abbrev pub is_branch_taken : BranchOp → KnownValue → KnownValue → Option Bool
  is_branch_taken op v w = taken_known op (as_number v) (as_number w) (branch_part op v w)
