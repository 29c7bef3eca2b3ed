-- What a statement makes of its operands: a row for each instruction of the manual's assembly syntax, and
-- for each pseudoinstruction.
use Rattle.std.specs.Prelude.{ℕ, zero, suc, ℤ, pos, negsuc, ◌+ℤ◌, ◌-ℤ◌, int_lt, unsigned_abs, ◌==◌, ◌^◌, Bool, ◌&&◌}
use Rattle.std.specs.Prelude.{not, List, [], ◌∷◌, length, Result, Ok, Err, if◌then◌else◌}
use Rattle.std.specs.Int.{int_rem_euclid, int_div_euclid}
use Rattle.texts.specs.Results.{◌>>=◌}
use Rattle.rv_decode.specs.Fits.{Fits}
use Rattle.rv_decode.specs.Meaning.{reg_of}
use Rattle.rv_decode.specs.declared.instruction.Reg.{Reg}
use Rattle.rv_decode.specs.declared.instruction.BranchOp.{BranchOp}
use Rattle.rv_decode.specs.declared.instruction.ImmediateOp.TheVariants as immediate_op
use Rattle.rv_decode.specs.declared.instruction.RegisterOp.TheVariants as register_op
use Rattle.rv_decode.specs.declared.instruction.Instr.{Instr}
use Rattle.rv_decode.specs.declared.instruction.Instr.TheVariants as instr
use Rattle.assembler.specs.declared.faults.AsmFault.{AsmFault}
use Rattle.assembler.specs.declared.faults.AsmFault.TheVariants.{BadOperand}
use Rattle.assembler.specs.declared.form.Form.{Form}
use Rattle.assembler.specs.declared.form.Form.TheVariants.{Lui, Auipc, Jal, Jalr, Branch, Load, Store, Immediate, Shift}
use Rattle.assembler.specs.declared.form.Form.TheVariants.{Register, Fence, FenceTso, Ecall, Ebreak, Amo, Nop, Move}
use Rattle.assembler.specs.declared.form.Form.TheVariants.{Invert, Negate, IsZero, IsNotZero, BranchZero, Jump, Return}
use Rattle.assembler.specs.declared.form.Form.TheVariants.{LoadImmediate}
use Rattle.assembler.specs.declared.statement.Statement.{Statement}
use Rattle.assembler.specs.declared.statement.Statement.TheVariants as statement
use Rattle.assembler.specs.Operands.{Target, bytes, label, OperandKind, register, upper, amount, short}
use Rattle.assembler.specs.Operands.{word, address, pointer, near, far, set, OperandValue, value_in}

-- What a statement makes: an instruction or two, or a jump or a branch to a label.
pub data Made : Type 0 where
  one : Instr → Made
  two : Instr → Instr → Made
  jump : Reg → List ℕ → Made
  branch : BranchOp → Reg → Reg → List ℕ → Made

abbrev pub jump_to : Reg → Target → Made
jump_to rd (bytes n) = one (instr.Jal rd n)
jump_to rd (label name) = jump rd name

abbrev pub branch_to : BranchOp → Reg → Reg → Target → Made
branch_to op rs1 rs2 (bytes n) = one (instr.Branch op rs1 rs2 n)
branch_to op rs1 rs2 (label name) = branch op rs1 rs2 name

-- the number that a word of 32 bits stands for in two's complement
abbrev pub wrapped : ℤ → ℤ
wrapped n = if int_lt n (pos (2 ^ 31)) then n else n -ℤ pos (2 ^ 32)

-- the low 12 bits, with their sign
abbrev pub low_of : ℤ → ℤ
low_of v = int_rem_euclid (v +ℤ pos 2048) (pos 4096) -ℤ pos 2048

-- the upper 20 bits that are left
abbrev pub high_of : ℤ → ℕ
high_of v = unsigned_abs (int_rem_euclid (int_div_euclid (v -ℤ low_of v) (pos 4096)) (pos 1048576))

abbrev pub is_short : ℤ → Bool
is_short v = not (int_lt v (negsuc 2047)) && int_lt v (pos 2048)

-- a word in a register: by one `addi`, by `lui`, or by both
abbrev pub loaded : Reg → ℤ → Made
loaded rd v =
    if is_short v
    then one (instr.Immediate immediate_op.Add rd (reg_of 0) v)
    else if unsigned_abs (low_of v) == 0
    then one (instr.Lui rd (high_of v))
    else two (instr.Lui rd (high_of v)) (instr.Immediate immediate_op.Add rd rd (low_of v))

-- ---- the table of operands

abbrev pub Maker : List OperandKind → Type 0
Maker [] = Made
Maker (kind ∷ kinds) = OperandValue kind → Maker kinds

-- A row of the table: operands from the left, and what is made of them.
pub record OperandRow : Type 0 where
  pub kinds : List OperandKind
  pub make : Maker kinds

abbrev takes : (kinds : List OperandKind) → Maker kinds → OperandRow
takes kinds make = record { kinds = kinds; make = make }

-- The operands that each mnemonic takes and what it makes of them, in the order of the manual's assembly
-- syntax. Two mnemonics have two rows, which go by how many operands are given. T is a label or a number
-- of bytes, and `negsuc n` is the negative number below -n.
unfoldable pub operand_row : Form → (given : ℕ) → OperandRow
-- lui rd,n
operand_row Lui given = takes (register ∷ upper ∷ []) (λ rd n. one (instr.Lui rd n))
-- auipc rd,n
operand_row Auipc given = takes (register ∷ upper ∷ []) (λ rd n. one (instr.Auipc rd n))
-- jal rd,T
operand_row Jal given = takes (register ∷ far ∷ []) (λ rd to. jump_to rd to)
-- jalr rd,n(rs1), or jalr rd,rs1,n
operand_row Jalr (suc (suc zero)) = takes (register ∷ address ∷ []) (λ rd at. one (instr.Jalr rd at.0 at.1))
operand_row Jalr given = takes (register ∷ register ∷ short ∷ []) (λ rd rs1 n. one (instr.Jalr rd rs1 n))
-- beq rs1,rs2,T and its like
operand_row (Branch op) given = takes (register ∷ register ∷ near ∷ []) (λ rs1 rs2 to. branch_to op rs1 rs2 to)
-- lw rd,n(rs1)
operand_row (Load op) given = takes (register ∷ address ∷ []) (λ rd at. one (instr.Load op rd at.0 at.1))
-- sw rs2,n(rs1)
operand_row (Store op) given = takes (register ∷ address ∷ []) (λ rs2 at. one (instr.Store op at.0 rs2 at.1))
-- addi rd,rs1,n
operand_row (Immediate op) given = takes (register ∷ register ∷ short ∷ []) (λ rd rs1 n. one (instr.Immediate op rd rs1 n))
-- slli rd,rs1,n
operand_row (Shift op) given = takes (register ∷ register ∷ amount ∷ []) (λ rd rs1 n. one (instr.Shift op rd rs1 n))
-- add rd,rs1,rs2
operand_row (Register op) given = takes (register ∷ register ∷ register ∷ []) (λ rd rs1 rs2. one (instr.Register op rd rs1 rs2))
-- fence, which is fence iorw,iorw, or fence p,s
operand_row Fence zero = takes [] (one (instr.Fence 15 15))
operand_row Fence given = takes (set ∷ set ∷ []) (λ pred succ. one (instr.Fence pred succ))
-- fence.tso, ecall, ebreak
operand_row FenceTso given = takes [] (one instr.FenceTso)
operand_row Ecall given = takes [] (one instr.Ecall)
operand_row Ebreak given = takes [] (one instr.Ebreak)
-- amoadd.w rd,rs2,(rs1)
operand_row (Amo op aq rl) given = takes (register ∷ register ∷ pointer ∷ []) (λ rd rs2 at. one (instr.Amo op rd at.0 rs2 aq rl))
-- nop: addi x0,x0,0
operand_row Nop given = takes [] (one (instr.Immediate immediate_op.Add (reg_of 0) (reg_of 0) (pos 0)))
-- mv rd,rs: addi rd,rs,0
operand_row Move given = takes (register ∷ register ∷ []) (λ rd rs. one (instr.Immediate immediate_op.Add rd rs (pos 0)))
-- not rd,rs: xori rd,rs,-1
operand_row Invert given = takes (register ∷ register ∷ []) (λ rd rs. one (instr.Immediate immediate_op.Xor rd rs (negsuc 0)))
-- neg rd,rs: sub rd,x0,rs
operand_row Negate given = takes (register ∷ register ∷ []) (λ rd rs. one (instr.Register register_op.Sub rd (reg_of 0) rs))
-- seqz rd,rs: sltiu rd,rs,1
operand_row IsZero given = takes (register ∷ register ∷ []) (λ rd rs. one (instr.Immediate immediate_op.SetLessUnsigned rd rs (pos 1)))
-- snez rd,rs: sltu rd,x0,rs
operand_row IsNotZero given = takes (register ∷ register ∷ []) (λ rd rs. one (instr.Register register_op.SetLessUnsigned rd (reg_of 0) rs))
-- beqz rs,T and bnez rs,T: beq and bne with x0
operand_row (BranchZero op) given = takes (register ∷ near ∷ []) (λ rs to. branch_to op rs (reg_of 0) to)
-- j T: jal x0,T
operand_row Jump given = takes (far ∷ []) (λ to. jump_to (reg_of 0) to)
-- ret: jalr x0,0(x1)
operand_row Return given = takes [] (one (instr.Jalr (reg_of 0) (reg_of 1) (pos 0)))
-- li rd,n: addi, lui or both, see `Loading`
operand_row LoadImmediate given = takes (register ∷ word ∷ []) (λ rd n. loaded rd (wrapped n))

-- The first fault from the left, or what is made. A missing operand is a bad one, and so is one too many.
abbrev pub read_operands : (kinds : List OperandKind) → Maker kinds → List (List ℕ) → Result Made AsmFault
read_operands [] made [] = Ok made
read_operands [] made (operand ∷ others) = Err BadOperand
read_operands (kind ∷ kinds) make [] = Err BadOperand
read_operands (kind ∷ kinds) make (operand ∷ others) = do
  x ← value_in kind operand
  read_operands kinds (make x) others

-- what a mnemonic makes of its operands
abbrev pub statement_of : Form → List (List ℕ) → Result Made AsmFault
statement_of form operands = read_operands (operand_row form (length operands)).kinds (operand_row form (length operands)).make operands

-- ---- what the code's values stand for

abbrev pub made_of : Statement → Made
made_of (statement.One i) = one i
made_of (statement.Two i j) = two i j
made_of (statement.Jump rd name) = jump rd name.now
made_of (statement.Branch op rs1 rs2 name) = branch op rs1 rs2 name.now

-- each instruction has a word
abbrev pub MadeFits : Made → Type 0
MadeFits (one i) = Fits i
MadeFits (two i j) = Fits i × Fits j
MadeFits (jump rd name) = Unit {0}
MadeFits (branch op rs1 rs2 name) = Unit {0}
