-- The names of labels. What an operand says, and what is wrong with it where it says nothing that its place
-- asks for.
use Rattle.std.specs.Prelude.{ℕ, ◌==◌, Bool, false, ◌&&◌, ◌||◌, List, [], ◌∷◌, ◌≡◌, ◌≤ℤ◌, ◌<ℤ◌, ℤ, pos, negsuc, neg_ℤ, int_lt, unsigned_abs, ◌%◌, not, length}
use Rattle.std.specs.Prelude.{Option, Some, None, Result, Ok, Err, if◌then◌else◌}
use Rattle.std.specs.List.{list_all}
use Rattle.texts.specs.Cutting.{is_letter, is_digit}
use Rattle.texts.specs.Cutting.{before, after, is_byte, trimmed}
use Rattle.texts.specs.Grammars.{integer}
use Rattle.texts.specs.Results.{◌>>=◌}
use Rattle.rv_decode.specs.Fits.{IsEven}
use Rattle.rv_decode.specs.declared.instruction.Reg.{Reg}
use Rattle.assembler.specs.declared.faults.AsmFault.{AsmFault}
use Rattle.assembler.specs.declared.faults.AsmFault.TheVariants.{UnknownName, BadOperand, OutOfRange}
use Rattle.assembler.specs.declared.operands.Address.{Address}
use Rattle.assembler.specs.declared.operands.JumpTarget.{JumpTarget}
use Rattle.assembler.specs.declared.operands.JumpTarget.TheVariants.{Bytes, Label}
use Rattle.rv_decode.specs.Registers.{register_named}
use Rattle.assembler.specs.Sets.{set_named}

-- a letter, `_` or `.`
abbrev pub begins_label_name : ℕ → Bool
begins_label_name c = is_letter c || (c == 95) || (c == 46)

abbrev pub goes_on_label_name : ℕ → Bool
goes_on_label_name c = begins_label_name c || is_digit c

-- a letter, `_` or `.`, and then letters, digits, `_` and `.`
abbrev pub is_label_name : List ℕ → Bool
is_label_name [] = false
is_label_name (c ∷ rest) = begins_label_name c && list_all goes_on_label_name (c ∷ rest)

-- ---- registers

abbrev pub known_register : Option Reg → Result Reg AsmFault
known_register None = Err UnknownName
known_register (Some r) = Ok r

abbrev pub register_in : List ℕ → Result Reg AsmFault
register_in text = known_register (register_named text)

-- ---- numbers

abbrev pub in_range : ℤ → ℤ → Option ℤ → Result ℤ AsmFault
in_range low high None = Err BadOperand
in_range low high (Some n) = if int_lt n low || int_lt high n then Err OutOfRange else Ok n

abbrev pub number_in : ℤ → ℤ → List ℕ → Result ℤ AsmFault
number_in low high text = in_range low high (integer.reads text)

-- a number from 0 to the most
abbrev pub natural_in : ℕ → List ℕ → Result ℕ AsmFault
natural_in most text = do
  n ← number_in (pos 0) (pos most) text
  Ok (unsigned_abs n)

-- ---- addresses, `n(rs1)`

-- nothing may follow the parenthesis that closes
abbrev pub closed : List ℕ → Option (List ℕ) → Result Reg AsmFault
closed name None = Err BadOperand
closed name (Some rest) = if length rest == 0 then register_in (trimmed name) else Err BadOperand

abbrev pub in_parentheses : Option (List ℕ) → Result Reg AsmFault
in_parentheses None = Err BadOperand
in_parentheses (Some inner) = closed (before (is_byte 41) inner) (after (is_byte 41) inner)

abbrev pub base_in : List ℕ → Result Reg AsmFault
base_in text = in_parentheses (after (is_byte 40) text)

-- a number that is left out is 0
abbrev pub or_zero : ℤ → ℤ → List ℕ → Result ℤ AsmFault
or_zero low high text = if length text == 0 then Ok (pos 0) else number_in low high text

abbrev pub offset_in : ℤ → ℤ → List ℕ → Result ℤ AsmFault
offset_in low high text = or_zero low high (trimmed (before (is_byte 40) text))

-- the register, and then the number
abbrev pub address_in : ℤ → ℤ → List ℕ → Result (Reg × ℤ) AsmFault
address_in low high text = do
  rs1 ← base_in text
  n ← offset_in low high text
  Ok (rs1, n)

-- ---- targets of jumps and branches

-- a label, or a number of bytes from the instruction itself
pub data Target : Type 0 where
  bytes : ℤ → Target
  label : List ℕ → Target

abbrev pub is_even : ℤ → Bool
is_even n = unsigned_abs n % 2 == 0

abbrev pub is_reached : ℤ → ℤ → Bool
is_reached bound n = is_even n && not (int_lt n (neg_ℤ bound)) && int_lt n bound

abbrev pub in_reach : ℤ → Option ℤ → Result Target AsmFault
in_reach bound None = Err BadOperand
in_reach bound (Some n) = if is_reached bound n then Ok (bytes n) else Err OutOfRange

-- a number of bytes is even and within the bound
abbrev pub IsInReach : ℤ → Target → Type 0
IsInReach bound (bytes n) = (neg_ℤ bound ≤ℤ n) × (n <ℤ bound) × IsEven n
IsInReach bound (label name) = Unit {0}

abbrev pub target_in : ℤ → List ℕ → Result Target AsmFault
target_in bound text = if is_label_name text then Ok (label text) else in_reach bound (integer.reads text)

-- ---- the sets of a fence

abbrev pub known_set : Option ℕ → Result ℕ AsmFault
known_set None = Err BadOperand
known_set (Some n) = Ok n

abbrev pub set_in : List ℕ → Result ℕ AsmFault
set_in text = known_set (set_named text)

-- ---- the kinds of operands

-- An operand in the manual's assembly syntax: a register, the 20 bits of `lui`, what a word is shifted
-- by, a number of 12 bits and its sign, a word in a register, `n(rs1)`, `(rs1)`, where a branch and
-- where a jump goes, and a fence's set.
pub data OperandKind : Type 0 where
  register : OperandKind
  upper : OperandKind
  amount : OperandKind
  short : OperandKind
  word : OperandKind
  address : OperandKind
  pointer : OperandKind
  near : OperandKind
  far : OperandKind
  set : OperandKind

-- what it stands for
abbrev pub OperandValue : OperandKind → Type 0
OperandValue register = Reg
OperandValue short = ℤ
OperandValue word = ℤ
OperandValue address = Reg × ℤ
OperandValue pointer = Reg × ℤ
OperandValue near = Target
OperandValue far = Target
OperandValue other = ℕ

abbrev pub value_in : (kind : OperandKind) → List ℕ → Result (OperandValue kind) AsmFault
value_in register text = register_in text
value_in upper text = natural_in 1048575 text
value_in amount text = natural_in 31 text
value_in short text = number_in (negsuc 2047) (pos 2047) text
value_in word text = number_in (negsuc 2147483647) (pos 4294967295) text
value_in address text = address_in (negsuc 2047) (pos 2047) text
value_in pointer text = address_in (pos 0) (pos 0) text
value_in near text = target_in (pos 4096) text
value_in far text = target_in (pos 1048576) text
value_in set text = set_in text

-- ---- what the code's values stand for

abbrev pub target_of : JumpTarget → Target
target_of (Bytes n) = bytes n
target_of (Label name) = label name.now

abbrev pub address_of : Address → Reg × ℤ
address_of at = (at.base, at.offset)

-- what a function returned, seen by view, is the answer
abbrev pub Tells : {X Y E : Type 0} → (X → Y) → Result X E → Result Y E → Type 0
Tells view (Ok x) answer = answer ≡ Ok (view x)
Tells view (Err e) answer = answer ≡ Err e
