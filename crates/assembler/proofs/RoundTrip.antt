-- The text of an instruction is assembled to it again.
use Rattle.std.proofs.Common.{◌≡◌, ℕ, ◌+◌, ◌^◌, ◌<◌, ◌≤◌, Bool, true, false, not, ◌&&◌, List, [], ◌∷◌, ◌++◌, length, Some, Ok, refl, ◌∙◌, arith, ℤ, pos}
use Rattle.std.specs.Prelude.{nat_lt, codes}
use Rattle.std.proofs.lemmas.Int.{ints}
use Rattle.rv_decode.specs.Fits.{Fits, IsSigned}
use Rattle.std.specs.List.{list_all}
use Rattle.std.specs.Fmt.{decimal, signed_decimal}
use Rattle.std.proofs.lemmas.Bool.{ne_eqb, ltb-true, and_parts, or_parts, not-true}
use Rattle.std.proofs.lemmas.Fmt.{decimal_nonempty}
use Rattle.texts.specs.{is_blank, is_byte, trimmed, NonePass}
use Rattle.rv_decode.specs.declared.instruction.Reg.{Reg}
use Rattle.rv_decode.specs.declared.instruction.Instr.{Instr}
use Rattle.rv_decode.specs.declared.instruction.Instr.TheVariants as instr
use Rattle.assembler.specs.{Form, form_named, one, operand_row, statement_of, label_of, statement_text, made_in, made_for, some_text, operands_in, assembled}
use Rattle.assembler.specs.{drafted, line_below, all_instructions, register_text, address_text, set_text, branch_name, load_name, store_name, immediate_name}
use Rattle.assembler.specs.{shift_name, register_name, amo_name, order_name, with_two, with_three, text_of}
use Rattle.assembler.specs.declared.form.Form.TheVariants as form
use Rattle.assembler.specs.Operands.{bytes, register, upper, amount, short, address, pointer, near, far, set, value_in}
use Rattle.texts.proofs.{none-append, before-none, after-none, before-stop, after-stop, one_line, decimal_none, not_byte, not_low_byte, digit_no_blank}
use Rattle.texts.proofs.{stripped-none, stripped-ends, all_by_test, none_of_all}
use Rattle.assembler.proofs.Commas.{parts_line, parts_operands, IsOperand, none_weaker, operand_line, no_blank, two_between, three_between}
use Rattle.assembler.proofs.Named.{is_word, IsNameOf, branch_named, load_named, store_named, immediate_named, shift_named, register_named, amo_named}
use Rattle.assembler.proofs.Rows.{all_below, below_all}
use Rattle.assembler.proofs.OperandLaws.{operand_only}
use Rattle.assembler.proofs.ReadAgain.{register_spelled, set_spelled, short_spelled, natural_spelled, target_spelled, address_spelled, pointer_spelled}
use Rattle.assembler.proofs.ReadAgain.{signed_none, signed_some}

-- ---- operands that stand for themselves

-- a text that parts no line
pub record PartsNoLine (xs : List ℕ) : Type 0 where
  pub none : NonePass parts_line xs
  pub some : 0 < length xs

pub as_line : (xs : List ℕ) → IsOperand xs → PartsNoLine xs
as_line xs h = record { none = operand_line xs h.none; some = h.some }

long_append : (xs ys : List ℕ) → 0 < length xs → 0 < length (xs ++ ys)
long_append [] ys some = absurd (omega arith)
long_append (x ∷ xs) ys some = omega arith

operand-append : (xs ys : List ℕ) → IsOperand xs → IsOperand ys → IsOperand (xs ++ ys)
operand-append xs ys h k = record { none = none-append parts_operands xs ys h.none k.none; some = long_append xs ys h.some }

digit_none : (d : ℕ) → d < 10 → parts_operands (48 + d) ≡ false
digit_none d lt = rw (
  digit_no_blank d,
  not_low_byte 10 d (omega arith),
  not_low_byte 35 d (omega arith),
  not_byte 58 d (omega arith) lt,
  not_low_byte 44 d (omega arith),
) refl

decimal_operand : (n : ℕ) → n < 2 ^ 64 → IsOperand (decimal n)
decimal_operand n fits = record { none = decimal_none parts_operands digit_none n fits; some = decimal_nonempty n fits }

signed_operand : (z : ℤ) → IsSigned 31 z → IsOperand (signed_decimal z)
signed_operand z fits = record { none = signed_none parts_operands refl digit_none z fits; some = signed_some z fits }

one_byte : (c : ℕ) → parts_operands c ≡ false → IsOperand (c ∷ [])
one_byte c none = record { none = (none, tt); some = omega arith }

register_operand : (r : Reg) → IsOperand (register_text r)
register_operand r = operand-append (120 ∷ []) (decimal r.number) (one_byte 120 refl) (decimal_operand r.number (omega arith))

base_operand : (r : Reg) → IsOperand (40 ∷ (register_text r ++ 41 ∷ []))
base_operand r = operand-append (40 ∷ []) (register_text r ++ 41 ∷ []) (one_byte 40 refl)
    (operand-append (register_text r) (41 ∷ []) (register_operand r) (one_byte 41 refl))

address_operand : (z : ℤ) (r : Reg) → IsSigned 31 z → IsOperand (address_text z r)
address_operand z r fits = operand-append (signed_decimal z) (40 ∷ (register_text r ++ 41 ∷ [])) (signed_operand z fits) (base_operand r)

none_by_test : (p : ℕ → Bool) (xs : List ℕ) → list_all (λ c. not (p c)) xs ≡ true → NonePass p xs
none_by_test p xs e = none_of_all (λ c. not (p c)) p (λ c passes. not-true (p c) passes) xs (all_by_test (λ c. not (p c)) xs e)

is_operand : List ℕ → Bool
is_operand xs = nat_lt 0 (length xs) && list_all (λ c. not (parts_operands c)) xs

set_operands : all_below 16 (λ n. is_operand (set_text n)) ≡ true
unfolding is_operand
set_operands = refl

set_operand : (n : ℕ) → n < 16 → IsOperand (set_text n)
unfolding is_operand
set_operand n lt =
    let both = and_parts (nat_lt 0 (length (set_text n))) (list_all (λ c. not (parts_operands c)) (set_text n))
    (below_all 16 (λ m. is_operand (set_text m)) set_operands n lt) in
    record { none = none_by_test parts_operands (set_text n) both.1; some = ltb-true 0 (length (set_text n)) both.0 }

word_of_test : (xs : List ℕ) → is_word xs ≡ true → PartsNoLine xs
word_of_test xs e =
    let both = and_parts (nat_lt 0 (length xs)) (list_all (λ c. not (parts_line c)) xs) e in
    record { none = none_by_test parts_line xs both.1; some = ltb-true 0 (length xs) both.0 }

-- ---- a line of a mnemonic and operands

some_ops : (ops : List ℕ) → 0 < length ops → some_text ops ≡ Some ops
some_ops ops some = rw (ne_eqb (length ops) 0 (omega arith)) refl

-- what the statement makes is what the mnemonic's form makes of the operands
made_text : (name ops : List ℕ) → PartsNoLine name → PartsNoLine ops → made_in (name ++ 32 ∷ ops) ≡ made_for (form_named name) (operands_in ops)
unfolding made_in
made_text name ops h k =
    let solid = no_blank name h.none in
    let long = long_append name (32 ∷ ops) h.some in
    rw (
      ne_eqb (length (name ++ 32 ∷ ops)) 0 (omega arith),
      before-stop is_blank name 32 ops solid refl,
      after-stop is_blank name 32 ops solid refl,
      stripped-none is_blank ops (no_blank ops k.none),
      some_ops ops k.some,
    ) refl

-- a text of one statement, which makes one instruction
assembled-one : (text : List ℕ) (i : Instr) → 0 < length text → NonePass (is_byte 10) text
    → NonePass (is_byte 35) text → NonePass (is_byte 58) text → trimmed text ≡ text → made_in text ≡ Ok (Some (one i))
    → assembled text ≡ Ok (Some i ∷ [])
unfolding assembled drafted line_below label_of statement_text all_instructions
assembled-one text i some feeds hashes colons same made = grind (arith, before-none, after-none, one_line)

free : (c : ℕ) → parts_line c ≡ false → (is_byte 10 c ≡ false) × (is_byte 35 c ≡ false) × (is_byte 58 c ≡ false)
free c e = grind (arith, or_parts)

assembled-text : (name ops : List ℕ) (i : Instr) → PartsNoLine name → PartsNoLine ops
    → made_for (form_named name) (operands_in ops) ≡ Ok (Some (one i))
    → assembled (name ++ 32 ∷ ops) ≡ Ok (Some i ∷ [])
assembled-text name ops i h k made = assembled-one (name ++ 32 ∷ ops) i (long_append name (32 ∷ ops) h.some)
    (no_byte 10 refl (λ c e. (free c e).0)) (no_byte 35 refl (λ c e. (free c e).1)) (no_byte 58 refl (λ c e. (free c e).2))
    (stripped-ends is_blank name (32 ∷ []) ops h.some (no_blank name h.none) k.some (no_blank ops k.none))
    (made_text name ops h k ∙ made)
  where
    no_byte : (b : ℕ) → is_byte b 32 ≡ false → ((c : ℕ) → parts_line c ≡ false → is_byte b c ≡ false) → NonePass (is_byte b) (name ++ 32 ∷ ops)
    no_byte b space weaker = none-append (is_byte b) name (32 ∷ ops) (none_weaker parts_line (is_byte b) weaker name h.none)
        (space, none_weaker parts_line (is_byte b) weaker ops k.none)

comma_between : (xs ys : List ℕ) → IsOperand xs → PartsNoLine ys → PartsNoLine (xs ++ 44 ∷ ys)
comma_between xs ys h k = record { none = none-append parts_line xs (44 ∷ ys) (operand_line xs h.none) (refl, k.none); some = long_append xs (44 ∷ ys) h.some }

made_three : (name : List ℕ) (f : Form) (a b c : List ℕ) (i : Instr) → IsNameOf name f → IsOperand a → IsOperand b → IsOperand c
    → statement_of f (a ∷ b ∷ c ∷ []) ≡ Ok (one i) → assembled (with_three name a b c) ≡ Ok (Some i ∷ [])
made_three name f a b c i named h k m e =
    assembled-text name (a ++ 44 ∷ (b ++ 44 ∷ c)) i (word_of_test name named.0)
    (comma_between a (b ++ 44 ∷ c) h (comma_between b c k (as_line c m))) (rw (named.1, three_between a b c h k m, e) refl)

made_two : (name : List ℕ) (f : Form) (a b : List ℕ) (i : Instr) → IsNameOf name f → IsOperand a → IsOperand b
    → statement_of f (a ∷ b ∷ []) ≡ Ok (one i) → assembled (with_two name a b) ≡ Ok (Some i ∷ [])
made_two name f a b i named h k e =
    assembled-text name (a ++ 44 ∷ b) i (word_of_test name named.0) (comma_between a b h (as_line b k))
    (rw (named.1, two_between a b h k, e) refl)

short_wide : (z : ℤ) → IsSigned 11 z → IsSigned 31 z
short_wide z h = (omega (arith, ints), omega (arith, ints))

branch_wide : (z : ℤ) → IsSigned 12 z → IsSigned 31 z
branch_wide z h = (omega (arith, ints), omega (arith, ints))

jump_wide : (z : ℤ) → IsSigned 20 z → IsSigned 31 z
jump_wide z h = (omega (arith, ints), omega (arith, ints))

alone_read : (name : List ℕ) (f : Form) (i : Instr) → IsNameOf name f → statement_of f [] ≡ Ok (one i) → assembled name ≡ Ok (Some i ∷ [])
unfolding made_in
alone_read name f i named e =
    let h = word_of_test name named.0 in
    let some : 0 < length name = h.some in
    let solid = no_blank name h.none in
    assembled-one name i h.some (none_weaker parts_line (is_byte 10) (λ c t. (free c t).0) name h.none)
    (none_weaker parts_line (is_byte 35) (λ c t. (free c t).1) name h.none) (none_weaker parts_line (is_byte 58) (λ c t. (free c t).2) name h.none)
    (stripped-none is_blank name solid)
    (rw (ne_eqb (length name) 0 (omega arith), before-none is_blank name solid, after-none is_blank name solid, named.1, e) refl)

-- ---- operands, read again

operand_solid : {xs : List ℕ} → IsOperand xs → NonePass is_blank xs
operand_solid {xs = xs} h = no_blank xs (operand_line xs h.none)

register_read : (r : Reg) → value_in register (register_text r) ≡ Ok r
register_read r = operand_only register (register_text r) r (register_spelled r)

set_read : (n : ℕ) → n < 16 → value_in set (set_text n) ≡ Ok n
set_read n lt = operand_only set (set_text n) n (set_spelled n lt)

upper_read : (n : ℕ) → n ≤ 1048575 → value_in upper (decimal n) ≡ Ok n
upper_read n le = operand_only upper (decimal n) n (natural_spelled 1048575 n le (omega arith))

address-read : (z : ℤ) (r : Reg) → IsSigned 11 z → value_in address (address_text z r) ≡ Ok (r, z)
address-read z r fits = operand_only address (address_text z r) (r, z)
    (address_spelled z r fits (short_wide z fits) (operand_solid (signed_operand z (short_wide z fits))) (operand_solid (register_operand r)))

-- the text of an instruction that has a word is assembled to it
pub read_again : (i : Instr) → Fits i → assembled (text_of i) ≡ Ok (Some i ∷ [])
unfolding text_of operand_row form_named
read_again (instr.Lui rd n) fits =
    made_two (codes "lui") form.Lui (register_text rd) (decimal n) (instr.Lui rd n) (refl, refl) (register_operand rd) (decimal_operand n (omega arith))
    (rw (register_read rd, upper_read n (omega arith)) refl)
read_again (instr.Auipc rd n) fits =
    made_two (codes "auipc") form.Auipc (register_text rd) (decimal n) (instr.Auipc rd n) (refl, refl)
    (register_operand rd) (decimal_operand n (omega arith))
    (rw (register_read rd, upper_read n (omega arith)) refl)
read_again (instr.Jal rd z) fits =
    let wide = jump_wide z fits.0 in
    made_two (codes "jal") form.Jal (register_text rd) (signed_decimal z) (instr.Jal rd z) (refl, refl)
    (register_operand rd) (signed_operand z wide)
    (rw (register_read rd, operand_only far (signed_decimal z) (bytes z) (target_spelled (pos 1048576) z wide (fits.0.0, fits.0.1, fits.1))) refl)
read_again (instr.Jalr rd rs1 z) fits =
    let wide = short_wide z fits in
    made_two (codes "jalr") form.Jalr (register_text rd) (address_text z rs1) (instr.Jalr rd rs1 z) (refl, refl)
    (register_operand rd) (address_operand z rs1 wide)
    (rw (register_read rd, address-read z rs1 fits) refl)
read_again (instr.Branch op rs1 rs2 z) fits =
    let wide = branch_wide z fits.0 in
    made_three (branch_name op) (form.Branch op) (register_text rs1) (register_text rs2) (signed_decimal z)
    (instr.Branch op rs1 rs2 z) (branch_named op)
    (register_operand rs1) (register_operand rs2) (signed_operand z wide)
    (rw (
      register_read rs1,
      register_read rs2,
      operand_only near (signed_decimal z) (bytes z) (target_spelled (pos 4096) z wide (fits.0.0, fits.0.1, fits.1)),
    ) refl)
read_again (instr.Load op rd rs1 z) fits =
    let wide = short_wide z fits in
    made_two (load_name op) (form.Load op) (register_text rd) (address_text z rs1) (instr.Load op rd rs1 z)
    (load_named op) (register_operand rd) (address_operand z rs1 wide)
    (rw (register_read rd, address-read z rs1 fits) refl)
read_again (instr.Store op rs1 rs2 z) fits =
    let wide = short_wide z fits in
    made_two (store_name op) (form.Store op) (register_text rs2) (address_text z rs1) (instr.Store op rs1 rs2 z)
    (store_named op) (register_operand rs2)
    (address_operand z rs1 wide)
    (rw (register_read rs2, address-read z rs1 fits) refl)
read_again (instr.Immediate op rd rs1 z) fits =
    let wide = short_wide z fits in
    made_three (immediate_name op) (form.Immediate op) (register_text rd) (register_text rs1) (signed_decimal z)
    (instr.Immediate op rd rs1 z) (immediate_named op)
    (register_operand rd) (register_operand rs1) (signed_operand z wide)
    (rw (register_read rd, register_read rs1, operand_only short (signed_decimal z) z (short_spelled z fits wide)) refl)
read_again (instr.Shift op rd rs1 n) fits =
    made_three (shift_name op) (form.Shift op) (register_text rd) (register_text rs1) (decimal n)
    (instr.Shift op rd rs1 n) (shift_named op)
    (register_operand rd) (register_operand rs1) (decimal_operand n (omega arith))
    (rw (register_read rd, register_read rs1, operand_only amount (decimal n) n (natural_spelled 31 n (omega arith) (omega arith))) refl)
read_again (instr.Register op rd rs1 rs2) fits =
    made_three (register_name op) (form.Register op) (register_text rd) (register_text rs1) (register_text rs2)
    (instr.Register op rd rs1 rs2) (register_named op)
    (register_operand rd) (register_operand rs1) (register_operand rs2)
    (rw (register_read rd, register_read rs1, register_read rs2) refl)
read_again (instr.Fence pred succ) fits =
    made_two (codes "fence") form.Fence (set_text pred) (set_text succ) (instr.Fence pred succ) (refl, refl)
    (set_operand pred fits.0) (set_operand succ fits.1)
    (rw (set_read pred fits.0, set_read succ fits.1) refl)
read_again instr.FenceTso fits = alone_read (codes "fence.tso") form.FenceTso instr.FenceTso (refl, refl) refl
read_again instr.Ecall fits = alone_read (codes "ecall") form.Ecall instr.Ecall (refl, refl) refl
read_again instr.Ebreak fits = alone_read (codes "ebreak") form.Ebreak instr.Ebreak (refl, refl) refl
read_again (instr.Amo op rd rs1 rs2 aq rl) fits =
    made_three (amo_name op ++ order_name aq rl) (form.Amo op aq rl) (register_text rd) (register_text rs2)
    (40 ∷ (register_text rs1 ++ 41 ∷ [])) (instr.Amo op rd rs1 rs2 aq rl) (amo_named op aq rl)
    (register_operand rd) (register_operand rs2) (base_operand rs1)
    (rw (
      register_read rd,
      register_read rs2,
      operand_only pointer (40 ∷ (register_text rs1 ++ 41 ∷ [])) (rs1, pos 0)
          (pointer_spelled rs1 (operand_solid (register_operand rs1))),
    ) refl)
