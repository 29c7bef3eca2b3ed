-- The two functions of Lamport's queue, line by line: each word, and the instruction that it means. The tables are
-- their words.
use Rattle.std.specs.Prelude.{pos, List, [], ◌∷◌}
use Rattle.rv_decode.specs.Listings.{Listed, line}
use Rattle.rv_decode.specs.Meaning.{reg_of}
use Rattle.rv_decode.specs.declared.instruction.BranchOp.TheVariants as branch
use Rattle.rv_decode.specs.declared.instruction.ImmediateOp.TheVariants as immediate
use Rattle.rv_decode.specs.declared.instruction.RegisterOp.TheVariants as register
use Rattle.rv_decode.specs.declared.instruction.LoadOp.TheVariants as load
use Rattle.rv_decode.specs.declared.instruction.StoreOp.TheVariants as store
use Rattle.rv_decode.specs.declared.instruction.Instr.TheVariants.{Jalr, Branch, Load, Store, Immediate, Register}

-- try_send: a0 is the block, a1 the word, a2 the bytes of the slots; it returns a0 = 1, or a0 = 0 if the queue is full
abbrev pub try_send : List Listed
try_send =
    line 0x00052283 (Load load.Word (reg_of 5) (reg_of 10) (pos 0)) ∷  -- 00 lw x5,0(x10)
    line 0x04052303 (Load load.Word (reg_of 6) (reg_of 10) (pos 64)) ∷  -- 04 lw x6,64(x10)
    line 0x00428393 (Immediate immediate.Add (reg_of 7) (reg_of 5) (pos 4)) ∷  -- 08 addi x7,x5,4
    line 0x00C39463 (Branch branch.NotEqual (reg_of 7) (reg_of 12) (pos 8)) ∷  -- 0C bne x7,x12,14
    line 0x00000393 (Immediate immediate.Add (reg_of 7) (reg_of 0) (pos 0)) ∷  -- 10 addi x7,x0,0
    line 0x00730C63 (Branch branch.Equal (reg_of 6) (reg_of 7) (pos 24)) ∷  -- 14 beq x6,x7,2C
    line 0x005502B3 (Register register.Add (reg_of 5) (reg_of 10) (reg_of 5)) ∷  -- 18 add x5,x10,x5
    line 0x08B2A023 (Store store.Word (reg_of 5) (reg_of 11) (pos 128)) ∷  -- 1C sw x11,128(x5)
    line 0x00752023 (Store store.Word (reg_of 10) (reg_of 7) (pos 0)) ∷  -- 20 sw x7,0(x10)
    line 0x00100513 (Immediate immediate.Add (reg_of 10) (reg_of 0) (pos 1)) ∷  -- 24 addi x10,x0,1
    line 0x00008067 (Jalr (reg_of 0) (reg_of 1) (pos 0)) ∷  -- 28 jalr x0,0(x1)
    line 0x00000513 (Immediate immediate.Add (reg_of 10) (reg_of 0) (pos 0)) ∷  -- 2C addi x10,x0,0: full
    line 0x00008067 (Jalr (reg_of 0) (reg_of 1) (pos 0)) ∷  -- 30 jalr x0,0(x1)
    []

-- try_receive: a0 is the block, a2 the bytes of the slots; it returns a0 = 1 and a1 = the word, or a0 = 0 if the queue
-- is empty
abbrev pub try_receive : List Listed
try_receive =
    line 0x04052283 (Load load.Word (reg_of 5) (reg_of 10) (pos 64)) ∷  -- 00 lw x5,64(x10)
    line 0x00052303 (Load load.Word (reg_of 6) (reg_of 10) (pos 0)) ∷  -- 04 lw x6,0(x10)
    line 0x02628263 (Branch branch.Equal (reg_of 5) (reg_of 6) (pos 36)) ∷  -- 08 beq x5,x6,2C
    line 0x005503B3 (Register register.Add (reg_of 7) (reg_of 10) (reg_of 5)) ∷  -- 0C add x7,x10,x5
    line 0x0803A583 (Load load.Word (reg_of 11) (reg_of 7) (pos 128)) ∷  -- 10 lw x11,128(x7)
    line 0x00428293 (Immediate immediate.Add (reg_of 5) (reg_of 5) (pos 4)) ∷  -- 14 addi x5,x5,4
    line 0x00C29463 (Branch branch.NotEqual (reg_of 5) (reg_of 12) (pos 8)) ∷  -- 18 bne x5,x12,20
    line 0x00000293 (Immediate immediate.Add (reg_of 5) (reg_of 0) (pos 0)) ∷  -- 1C addi x5,x0,0
    line 0x04552023 (Store store.Word (reg_of 10) (reg_of 5) (pos 64)) ∷  -- 20 sw x5,64(x10)
    line 0x00100513 (Immediate immediate.Add (reg_of 10) (reg_of 0) (pos 1)) ∷  -- 24 addi x10,x0,1
    line 0x00008067 (Jalr (reg_of 0) (reg_of 1) (pos 0)) ∷  -- 28 jalr x0,0(x1)
    line 0x00000513 (Immediate immediate.Add (reg_of 10) (reg_of 0) (pos 0)) ∷  -- 2C addi x10,x0,0: empty
    line 0x00008067 (Jalr (reg_of 0) (reg_of 1) (pos 0)) ∷  -- 30 jalr x0,0(x1)
    []
