-- A number in some digits of a word.
use Rattle.std.proofs.Common.{◌≡◌, ℕ, ◌+◌, ◌-◌, ◌*◌, ◌/◌, ◌%◌, ◌^◌, ◌<◌, ◌≤◌, sym, ◌∙◌, ap, arith}
use Rattle.std.proofs.Math.Nat.{add-mul-div_right, add-mul-mod_self_right, div-div-eq-div-mul, mod-lt, mul_assoc, mul_comm, add_comm, add-zero, add-mul}
use Rattle.std.proofs.Math.Nat.{mul-div_cancel, mul-mod_left, mul-lt-mul_of_pos_left, div-lt_iff_lt-mul, mod-eq_of_lt, pow-le-pow_right}
use Rattle.surveys.specs.inner.Fields.{digits_in, with_field}
use Rattle.std.proofs.lemmas.Nat.{div-add-mod', div-mul-add, mod-mul-add, mod-pow-add, mul-add-lt, pow-add, pow_pos}

shifted : (word low size number : ℕ) → 0 < low → with_field word low size number / low ≡ word / low / size * size + number
shifted word low size number some = div-mul-add (word / low / size * size + number) low (word % low) (mod-lt word some)

-- it is there
pub field_set : (word low size number : ℕ) → 0 < low → number < size → digits_in (with_field word low size number) low size ≡ number
field_set word low size number some small =
    ap (λ (n : ℕ). n % size) (shifted word low size number some) ∙ mod-mul-add (word / low / size) size number small

-- a field above has what it had
field_above : (word low size number more other : ℕ) → 0 < low → number < size
    → digits_in (with_field word low size number) (low * size * more) other ≡ digits_in word (low * size * more) other
field_above word low size number more other some small =
    let parted = λ (n : ℕ). sym (div-div-eq-div-mul n (low * size) more) ∙ ap (λ (m : ℕ). m / more) (sym (div-div-eq-div-mul n low size)) in
    let same : with_field word low size number / low / size ≡ word / low / size =
    ap (λ (n : ℕ). n / size) (shifted word low size number some) ∙ div-mul-add (word / low / size) size number small in
    ap (λ (n : ℕ). n % other) (parted (with_field word low size number) ∙ ap (λ (n : ℕ). n / more) same ∙ sym (parted word))

-- what stands above a field is no part of it
below : (high lowest low size more : ℕ) → 0 < low → digits_in (high * (low * size * more) + lowest) low size ≡ digits_in lowest low size
below high lowest low size more some =
    let round : low * size * more ≡ more * size * low =
    mul_comm (low * size) more ∙ ap (λ (n : ℕ). more * n) (mul_comm low size) ∙ sym (mul_assoc more size low) in
    let turned : high * (low * size * more) + lowest ≡ lowest + high * more * size * low =
    ap (λ (n : ℕ). high * n + lowest) round ∙ ap (λ (n : ℕ). n + lowest) (sym (mul_assoc high (more * size) low))
    ∙ ap (λ (n : ℕ). n * low + lowest) (sym (mul_assoc high more size)) ∙ add_comm (high * more * size * low) lowest in
    ap (λ (n : ℕ). n / low % size) turned ∙ ap (λ (n : ℕ). n % size) (add-mul-div_right lowest (high * more * size) some)
    ∙ add-mul-mod_self_right (lowest / low) (high * more) size

-- a field below has what it had
field_below : (word low size number more other : ℕ) → 0 < low
    → digits_in (with_field word (low * size * more) other number) low size ≡ digits_in word low size
field_below word low size number more other some =
    let high = low * size * more in
    below (word / high / other * other + number) (word % high) low size more some
    ∙ sym (below (word / high) (word % high) low size more some) ∙ ap (λ (n : ℕ). digits_in n low size) (div-add-mod' word high)

-- ---- digits of base 2, as shifts read and write them

-- `shift` digits stand below these `width`, and `above` above them
read_field : (word shift width above : ℕ) → word * 2 ^ above % 2 ^ (width + shift + above) / 2 ^ (above + shift) ≡ digits_in word (2 ^ shift) (2 ^ width)
read_field word shift width above =
    let up : word * 2 ^ above % 2 ^ (width + shift + above) ≡ word % 2 ^ (width + shift) * 2 ^ above =
    mod-pow-add (word * 2 ^ above) (width + shift) above
    ∙ ap (λ (n : ℕ). n % 2 ^ (width + shift) * 2 ^ above + word * 2 ^ above % 2 ^ above) (mul-div_cancel word (pow_pos above))
    ∙ ap (λ (n : ℕ). word % 2 ^ (width + shift) * 2 ^ above + n) (mul-mod_left word (2 ^ above)) ∙ add-zero (word % 2 ^ (width + shift) * 2 ^ above) in
    ap (λ (n : ℕ). n / 2 ^ (above + shift)) up
    ∙ ap (λ (n : ℕ). word % 2 ^ (width + shift) * 2 ^ above / n) (pow-add 2 above shift)
    ∙ sym (div-div-eq-div-mul (word % 2 ^ (width + shift) * 2 ^ above) (2 ^ above) (2 ^ shift))
    ∙ ap (λ (n : ℕ). n / 2 ^ shift) (mul-div_cancel (word % 2 ^ (width + shift)) (pow_pos above))
    ∙ ap (λ (n : ℕ). n / 2 ^ shift) (mod-pow-add word width shift)
    ∙ div-mul-add (word / 2 ^ shift % 2 ^ width) (2 ^ shift) (word % 2 ^ shift) (mod-lt word (pow_pos shift))

replaced : (all high old new low : ℕ) → all ≡ high + old + low → all - old + new ≡ high + new + low
replaced all high old new low is = omega (arith, is)

-- the number is taken out, and another put there
write_field : (word low size number : ℕ) → word - digits_in word low size * low + number * low ≡ with_field word low size number
write_field word low size number =
    let high = word / low / size * size in
    let parted : word ≡ high * low + digits_in word low size * low + word % low =
    sym (div-add-mod' word low) ∙ ap (λ (n : ℕ). n * low + word % low) (sym (div-add-mod' (word / low) size))
    ∙ ap (λ (n : ℕ). n + word % low) (add-mul high (digits_in word low size) low) in
    replaced word (high * low) (digits_in word low size * low) (number * low) (word % low) parted
    ∙ ap (λ (n : ℕ). n + word % low) (sym (add-mul high number low))

-- what is taken out is no more than the word
field_few : (word low size : ℕ) → digits_in word low size * low ≤ word
field_few word low size = omega (arith, parted)
  where
    parted : word ≡ word / low / size * size * low + digits_in word low size * low + word % low
    parted =
        sym (div-add-mod' word low) ∙ ap (λ (n : ℕ). n * low + word % low) (sym (div-add-mod' (word / low) size))
        ∙ ap (λ (n : ℕ). n + word % low) (add-mul (word / low / size * size) (digits_in word low size) low)

pub small_pow : (n : ℕ) → 0 < 2 ^ n
small_pow n = pow_pos n

power : (shift width higher : ℕ) → shift + width ≤ higher → 2 ^ higher ≡ 2 ^ shift * 2 ^ width * 2 ^ (higher - (shift + width))
power shift width higher apart =
    let whole : higher ≡ shift + width + (higher - (shift + width)) = omega (arith, apart) in
    ap (λ (n : ℕ). 2 ^ n) whole ∙ pow-add 2 (shift + width) (higher - (shift + width))
    ∙ ap (λ (n : ℕ). n * 2 ^ (higher - (shift + width))) (pow-add 2 shift width)

-- digits above
pub digits_above : (word shift width number higher other : ℕ) → shift + width ≤ higher → number < 2 ^ width
    → digits_in (with_field word (2 ^ shift) (2 ^ width) number) (2 ^ higher) other ≡ digits_in word (2 ^ higher) other
digits_above word shift width number higher other apart small =
    let parted : 2 ^ higher ≡ 2 ^ shift * 2 ^ width * 2 ^ (higher - (shift + width)) = power shift width higher apart in
    ap (λ (n : ℕ). digits_in (with_field word (2 ^ shift) (2 ^ width) number) n other) parted
    ∙ field_above word (2 ^ shift) (2 ^ width) number (2 ^ (higher - (shift + width))) other (pow_pos shift) small
    ∙ ap (λ (n : ℕ). digits_in word n other) (sym parted)

-- digits below
pub digits_below : (word shift width number lower few : ℕ) → lower + few ≤ shift
    → digits_in (with_field word (2 ^ shift) (2 ^ width) number) (2 ^ lower) (2 ^ few) ≡ digits_in word (2 ^ lower) (2 ^ few)
digits_below word shift width number lower few apart =
    let parted : 2 ^ shift ≡ 2 ^ lower * 2 ^ few * 2 ^ (shift - (lower + few)) = power lower few shift apart in
    ap (λ (n : ℕ). digits_in (with_field word n (2 ^ width) number) (2 ^ lower) (2 ^ few)) parted
    ∙ field_below word (2 ^ lower) (2 ^ few) number (2 ^ (shift - (lower + few))) (2 ^ width) (pow_pos lower)

-- a word with another number has no more digits
field_small : (word low size number more : ℕ) → 0 < low → 0 < size → number < size → word < low * size * more
    → with_field word low size number < low * size * more
field_small word low size number more some_low some_size small few =
    let turned : word < more * (low * size) = omega (arith, few, mul_comm (low * size) more) in
    let some : 0 < low * size = omega (arith, mul-lt-mul_of_pos_left some_size some_low) in
    let high : word / low / size < more = omega (arith, (div-lt_iff_lt-mul some).1 turned, div-div-eq-div-mul word low size) in
    omega (
      arith,
      mul-add-lt (word / low / size * size + number) low (word % low) (size * more)
          (mul-add-lt (word / low / size) size number more high small) (mod-lt word some_low),
      mul_assoc low size more,
    )

-- ---- the same of words of 64 digits, as they are shifted

pub number_read : (word shift width : ℕ) → shift + width ≤ 64 → width ≤ 32
    → word * 2 ^ (64 - width - shift) % 18446744073709551616 / 2 ^ (64 - width) % 4294967296 ≡ digits_in word (2 ^ shift) (2 ^ width)
number_read word shift width within few =
    let above : ℕ = 64 - width - shift in
    let all : width + shift + above ≡ 64 = omega (arith, within) in
    let rest : above + shift ≡ 64 - width = omega (arith, within) in
    let size : 2 ^ (width + shift + above) ≡ 18446744073709551616 = ap (λ (n : ℕ). 2 ^ n) all in
    let read : word * 2 ^ above % 18446744073709551616 / 2 ^ (64 - width) ≡ digits_in word (2 ^ shift) (2 ^ width) =
    ap (λ (n : ℕ). word * 2 ^ above % n / 2 ^ (64 - width)) (sym size)
    ∙ ap (λ (n : ℕ). word * 2 ^ above % 2 ^ (width + shift + above) / 2 ^ n) (sym rest) ∙ read_field word shift width above in
    let most : 2 ^ width ≤ 2 ^ 32 = pow-le-pow_right (pow_pos 1) few in
    ap (λ (n : ℕ). n % 4294967296) read ∙ mod-eq_of_lt (omega (arith, mod-lt (word / 2 ^ shift) (pow_pos width), most))

wrapped : (word old new result : ℕ) → word < 18446744073709551616 → old ≤ word → new < 18446744073709551616 → word - old + new ≡ result
    → result < 18446744073709551616
    → ((word + (18446744073709551616 - old % 18446744073709551616)) % 18446744073709551616 + new % 18446744073709551616) % 18446744073709551616 ≡ result
wrapped word old new result fits some small is few = omega (arith, fits, some, small, is, few)

pub number_written : (word shift width old number : ℕ) → shift + width ≤ 64 → word < 18446744073709551616 → old ≡ digits_in word (2 ^ shift) (2 ^ width)
    → number < 2 ^ width
    → ((word + (18446744073709551616 - old * 2 ^ shift % 18446744073709551616)) % 18446744073709551616 + number * 2 ^ shift % 18446744073709551616)
    % 18446744073709551616 ≡ with_field word (2 ^ shift) (2 ^ width) number
number_written word shift width old number within fits is small =
    let whole : 2 ^ 64 ≡ 2 ^ shift * 2 ^ width * 2 ^ (64 - (shift + width)) = power shift width 64 within in
    let few : with_field word (2 ^ shift) (2 ^ width) number < 18446744073709551616 = omega (
      arith,
      field_small word (2 ^ shift) (2 ^ width) number (2 ^ (64 - (shift + width))) (pow_pos shift) (pow_pos width) small (omega (arith, fits, whole)),
      whole,
    ) in
    let written : word - old * 2 ^ shift + number * 2 ^ shift ≡ with_field word (2 ^ shift) (2 ^ width) number =
    ap (λ (n : ℕ). word - n * 2 ^ shift + number * 2 ^ shift) is ∙ write_field word (2 ^ shift) (2 ^ width) number in
    let some : old * 2 ^ shift ≤ word = omega (arith, ap (λ (n : ℕ). n * 2 ^ shift) is, field_few word (2 ^ shift) (2 ^ width)) in
    wrapped word (old * 2 ^ shift) (number * 2 ^ shift) (with_field word (2 ^ shift) (2 ^ width) number) fits some (omega (arith, written, few)) written few
