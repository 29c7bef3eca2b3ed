-- How the operands of a statement are spelled: a grammar for each kind.
use Rattle.std.specs.Prelude.{◌≡◌, ℕ, ℤ, pos, negsuc, int_lt, unsigned_abs, true, ◌||◌, if◌then◌else◌, List, map, Option, Some, None}
use Rattle.std.specs.List.{Contains, slice_split}
use Rattle.texts.specs.Pieces.{is_blank}
use Rattle.texts.specs.Cutting.{is_byte, trimmed}
use Rattle.texts.specs.Grammars.{Grammar, mapped, filter_mapped, parted, suffixed, absent, surrounded, choice, integer}
use Rattle.rv_decode.specs.declared.instruction.Reg.{Reg}
use Rattle.rv_decode.specs.Registers.{register_names, register_named}
use Rattle.assembler.specs.Sets.{set_names, set_named}
use Rattle.assembler.specs.Operands.{is_label_name, goes_on_label_name, Target, bytes, label, is_reached, OperandKind, register, upper, amount, short, word}
use Rattle.assembler.specs.Operands.{address, pointer, near, far, set, OperandValue}

-- what stands between the commas (44), without the blanks round it
abbrev pub operands_in : List ℕ → List (List ℕ)
operands_in text = map trimmed (slice_split (is_byte 44) text)

-- ---- registers and the sets of a fence, each a row of its table

abbrev pub a_register : Grammar Reg
a_register = record { Says = λ text r. Contains register_names (text, r.number); reads = register_named; bytes = goes_on_label_name }

abbrev pub a_set : Grammar ℕ
a_set = record { Says = λ text n. Contains set_names (text, n); reads = set_named; bytes = goes_on_label_name }

-- ---- numbers

abbrev pub within : (low high : ℤ) → ℤ → Option ℤ
within low high n = if int_lt n low || int_lt high n then None else Some n

abbrev pub number_from : (low high : ℤ) → Grammar ℤ
number_from low high = filter_mapped integer (within low high)

abbrev pub natural_to : (most : ℕ) → Grammar ℕ
natural_to most = mapped (number_from (pos 0) (pos most)) unsigned_abs

-- ---- addresses, `n(rs1)`, with blanks round each part; the parentheses are 40 and 41

-- where the number is left out it is 0
abbrev pub displacement : (low high : ℤ) → Grammar ℤ
displacement low high = surrounded is_blank (choice (absent (pos 0)) (number_from low high))

abbrev pub base : Grammar Reg
base = suffixed 41 (surrounded is_blank a_register)

abbrev pub based : ℤ × Reg → Reg × ℤ
based both = (both.1, both.0)

abbrev pub address_from : (low high : ℤ) → Grammar (Reg × ℤ)
address_from low high = mapped (parted 40 (displacement low high) base) based

-- ---- where a jump or a branch goes: a label, or an even number of bytes within its reach

abbrev pub label_named : List ℕ → Option (List ℕ)
label_named text = if is_label_name text then Some text else None

abbrev pub a_label : Grammar (List ℕ)
a_label = record { Says = λ text name. (is_label_name text ≡ true) × (text ≡ name); reads = label_named; bytes = goes_on_label_name }

abbrev pub reached : (bound n : ℤ) → Option Target
reached bound n = if is_reached bound n then Some (bytes n) else None

abbrev pub target_within : (bound : ℤ) → Grammar Target
target_within bound = choice (mapped a_label label) (filter_mapped integer (reached bound))

-- ---- an operand of each kind

abbrev pub an_operand : (kind : OperandKind) → Grammar (OperandValue kind)
an_operand register = a_register
an_operand upper = natural_to 1048575
an_operand amount = natural_to 31
an_operand short = number_from (negsuc 2047) (pos 2047)
an_operand word = number_from (negsuc 2147483647) (pos 4294967295)
an_operand address = address_from (negsuc 2047) (pos 2047)
an_operand pointer = address_from (pos 0) (pos 0)
an_operand near = target_within (pos 4096)
an_operand far = target_within (pos 1048576)
an_operand set = a_set
