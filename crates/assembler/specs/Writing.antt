-- The text of an instruction: its mnemonic, and its operands in the order of the manual's assembly
-- syntax, with commas and no blanks. Registers go by their numbers, and numbers are in decimal.
use Rattle.std.specs.Prelude.{ℕ, ℤ, ◌==◌, ◌/◌, ◌%◌, Bool, true, false, List, [], ◌∷◌, ◌++◌, codes, if◌then◌else◌}
use Rattle.std.specs.Fmt.{decimal, signed_decimal}
use Rattle.rv_decode.specs.declared.instruction.Reg.{Reg}
use Rattle.rv_decode.specs.declared.instruction.BranchOp.{BranchOp}
use Rattle.rv_decode.specs.declared.instruction.BranchOp.TheVariants as branch
use Rattle.rv_decode.specs.declared.instruction.LoadOp.{LoadOp}
use Rattle.rv_decode.specs.declared.instruction.LoadOp.TheVariants as load
use Rattle.rv_decode.specs.declared.instruction.StoreOp.{StoreOp}
use Rattle.rv_decode.specs.declared.instruction.StoreOp.TheVariants as store
use Rattle.rv_decode.specs.declared.instruction.ImmediateOp.{ImmediateOp}
use Rattle.rv_decode.specs.declared.instruction.ImmediateOp.TheVariants as immediate
use Rattle.rv_decode.specs.declared.instruction.ShiftOp.{ShiftOp}
use Rattle.rv_decode.specs.declared.instruction.ShiftOp.TheVariants as shift
use Rattle.rv_decode.specs.declared.instruction.RegisterOp.{RegisterOp}
use Rattle.rv_decode.specs.declared.instruction.RegisterOp.TheVariants as register
use Rattle.rv_decode.specs.declared.instruction.AmoOp.{AmoOp}
use Rattle.rv_decode.specs.declared.instruction.AmoOp.TheVariants as amo
use Rattle.rv_decode.specs.declared.instruction.Instr.{Instr}
use Rattle.rv_decode.specs.declared.instruction.Instr.TheVariants.{Lui, Auipc, Jal, Jalr, Branch, Load, Store}
use Rattle.rv_decode.specs.declared.instruction.Instr.TheVariants.{Immediate, Shift, Register, Fence, FenceTso, Ecall}
use Rattle.rv_decode.specs.declared.instruction.Instr.TheVariants.{Ebreak, Amo}

abbrev pub branch_name : BranchOp → List ℕ
branch_name branch.Equal = codes "beq"
branch_name branch.NotEqual = codes "bne"
branch_name branch.Less = codes "blt"
branch_name branch.GreaterEqual = codes "bge"
branch_name branch.LessUnsigned = codes "bltu"
branch_name branch.GreaterEqualUnsigned = codes "bgeu"

abbrev pub load_name : LoadOp → List ℕ
load_name load.Byte = codes "lb"
load_name load.Half = codes "lh"
load_name load.Word = codes "lw"
load_name load.ByteUnsigned = codes "lbu"
load_name load.HalfUnsigned = codes "lhu"

abbrev pub store_name : StoreOp → List ℕ
store_name store.Byte = codes "sb"
store_name store.Half = codes "sh"
store_name store.Word = codes "sw"

abbrev pub immediate_name : ImmediateOp → List ℕ
immediate_name immediate.Add = codes "addi"
immediate_name immediate.SetLess = codes "slti"
immediate_name immediate.SetLessUnsigned = codes "sltiu"
immediate_name immediate.Xor = codes "xori"
immediate_name immediate.Or = codes "ori"
immediate_name immediate.And = codes "andi"

abbrev pub shift_name : ShiftOp → List ℕ
shift_name shift.Left = codes "slli"
shift_name shift.Right = codes "srli"
shift_name shift.RightArithmetic = codes "srai"

abbrev pub register_name : RegisterOp → List ℕ
register_name register.Add = codes "add"
register_name register.Sub = codes "sub"
register_name register.ShiftLeft = codes "sll"
register_name register.SetLess = codes "slt"
register_name register.SetLessUnsigned = codes "sltu"
register_name register.Xor = codes "xor"
register_name register.ShiftRight = codes "srl"
register_name register.ShiftRightArithmetic = codes "sra"
register_name register.Or = codes "or"
register_name register.And = codes "and"

abbrev pub amo_name : AmoOp → List ℕ
amo_name amo.Swap = codes "amoswap.w"
amo_name amo.Add = codes "amoadd.w"
amo_name amo.Xor = codes "amoxor.w"
amo_name amo.And = codes "amoand.w"
amo_name amo.Or = codes "amoor.w"
amo_name amo.Min = codes "amomin.w"
amo_name amo.Max = codes "amomax.w"
amo_name amo.MinUnsigned = codes "amominu.w"
amo_name amo.MaxUnsigned = codes "amomaxu.w"

-- the suffix for the bits aq and rl
abbrev pub order_name : Bool → Bool → List ℕ
order_name false false = []
order_name true false = codes ".aq"
order_name false true = codes ".rl"
order_name true true = codes ".aqrl"

-- ---- operands, after a space or a comma

abbrev pub register_text : Reg → List ℕ
register_text register = codes "x" ++ decimal register.number

abbrev pub address_text : ℤ → Reg → List ℕ
address_text offset base = signed_decimal offset ++ (codes "(" ++ (register_text base ++ codes ")"))

abbrev pub letter : ℕ → ℕ → ℕ → List ℕ
letter bit name set = if set / bit % 2 == 1 then name ∷ [] else []

-- the letters i, o, r and w of the bits from 3 down, and 0 for none of them
abbrev pub set_text : ℕ → List ℕ
set_text set = if set == 0 then codes "0" else letter 8 105 set ++ letter 4 111 set ++ letter 2 114 set ++ letter 1 119 set

abbrev pub with_two : (name first second : List ℕ) → List ℕ
with_two name first second = name ++ (codes " " ++ (first ++ (codes "," ++ second)))

abbrev pub with_three : (name first second third : List ℕ) → List ℕ
with_three name first second third = name ++ (codes " " ++ (first ++ (codes "," ++ (second ++ (codes "," ++ third)))))

unfoldable pub text_of : Instr → List ℕ
text_of (Lui rd upper) = with_two (codes "lui") (register_text rd) (decimal upper)
text_of (Auipc rd upper) = with_two (codes "auipc") (register_text rd) (decimal upper)
text_of (Jal rd offset) = with_two (codes "jal") (register_text rd) (signed_decimal offset)
text_of (Jalr rd rs1 offset) = with_two (codes "jalr") (register_text rd) (address_text offset rs1)
text_of (Branch op rs1 rs2 offset) = with_three (branch_name op) (register_text rs1) (register_text rs2) (signed_decimal offset)
text_of (Load op rd rs1 offset) = with_two (load_name op) (register_text rd) (address_text offset rs1)
text_of (Store op rs1 rs2 offset) = with_two (store_name op) (register_text rs2) (address_text offset rs1)
text_of (Immediate op rd rs1 value) = with_three (immediate_name op) (register_text rd) (register_text rs1) (signed_decimal value)
text_of (Shift op rd rs1 amount) = with_three (shift_name op) (register_text rd) (register_text rs1) (decimal amount)
text_of (Register op rd rs1 rs2) = with_three (register_name op) (register_text rd) (register_text rs1) (register_text rs2)
text_of (Fence pred succ) = with_two (codes "fence") (set_text pred) (set_text succ)
text_of FenceTso = codes "fence.tso"
text_of Ecall = codes "ecall"
text_of Ebreak = codes "ebreak"
text_of (Amo op rd rs1 rs2 aq rl) = with_three (amo_name op ++ order_name aq rl) (register_text rd)
    (register_text rs2) (codes "(" ++ (register_text rs1 ++ codes ")"))
