-- The two functions of FastForward's queue, line by line: each word, and the instruction that it means. The tables are
-- their words.
use Rattle.std.specs.Prelude.{pos, List, [], ◌∷◌}
use Rattle.rv_decode.specs.Meaning.{reg_of}
use Rattle.rv_decode.specs.declared.instruction.BranchOp.TheVariants as branch
use Rattle.rv_decode.specs.declared.instruction.ImmediateOp.TheVariants as immediate
use Rattle.rv_decode.specs.declared.instruction.RegisterOp.TheVariants as register
use Rattle.rv_decode.specs.declared.instruction.LoadOp.TheVariants as load
use Rattle.rv_decode.specs.declared.instruction.StoreOp.TheVariants as store
use Rattle.rv_decode.specs.declared.instruction.Instr.TheVariants.{Jalr, Branch, Load, Store, Immediate, Register}
use Rattle.rv_decode.specs.Listings.{Listed, line}

-- it takes the registers of try_send, and its word isn't 0; it returns a0 = 1, or a0 = 0 if the queue is full
abbrev pub fastforward_send : List Listed
fastforward_send =
    line 0x00052283 (Load load.Word (reg_of 5) (reg_of 10) (pos 0)) ∷  -- 00 lw x5,0(x10)
    line 0x005503B3 (Register register.Add (reg_of 7) (reg_of 10) (reg_of 5)) ∷  -- 04 add x7,x10,x5
    line 0x0803A303 (Load load.Word (reg_of 6) (reg_of 7) (pos 128)) ∷  -- 08 lw x6,128(x7)
    line 0x02031063 (Branch branch.NotEqual (reg_of 6) (reg_of 0) (pos 32)) ∷  -- 0C bne x6,x0,2C
    line 0x00428293 (Immediate immediate.Add (reg_of 5) (reg_of 5) (pos 4)) ∷  -- 10 addi x5,x5,4
    line 0x00C29463 (Branch branch.NotEqual (reg_of 5) (reg_of 12) (pos 8)) ∷  -- 14 bne x5,x12,1C
    line 0x00000293 (Immediate immediate.Add (reg_of 5) (reg_of 0) (pos 0)) ∷  -- 18 addi x5,x0,0
    line 0x08B3A023 (Store store.Word (reg_of 7) (reg_of 11) (pos 128)) ∷  -- 1C sw x11,128(x7)
    line 0x00552023 (Store store.Word (reg_of 10) (reg_of 5) (pos 0)) ∷  -- 20 sw x5,0(x10)
    line 0x00100513 (Immediate immediate.Add (reg_of 10) (reg_of 0) (pos 1)) ∷  -- 24 addi x10,x0,1
    line 0x00008067 (Jalr (reg_of 0) (reg_of 1) (pos 0)) ∷  -- 28 jalr x0,0(x1)
    line 0x00000513 (Immediate immediate.Add (reg_of 10) (reg_of 0) (pos 0)) ∷  -- 2C addi x10,x0,0
    line 0x00008067 (Jalr (reg_of 0) (reg_of 1) (pos 0)) ∷  -- 30 jalr x0,0(x1)
    []

-- it takes the registers of try_receive; it returns a0 = 1 and a1 = the word, or a0 = 0 if the queue is empty
abbrev pub fastforward_receive : List Listed
fastforward_receive =
    line 0x04052283 (Load load.Word (reg_of 5) (reg_of 10) (pos 64)) ∷  -- 00 lw x5,64(x10)
    line 0x005503B3 (Register register.Add (reg_of 7) (reg_of 10) (reg_of 5)) ∷  -- 04 add x7,x10,x5
    line 0x0803A583 (Load load.Word (reg_of 11) (reg_of 7) (pos 128)) ∷  -- 08 lw x11,128(x7)
    line 0x02058063 (Branch branch.Equal (reg_of 11) (reg_of 0) (pos 32)) ∷  -- 0C beq x11,x0,2C
    line 0x00428293 (Immediate immediate.Add (reg_of 5) (reg_of 5) (pos 4)) ∷  -- 10 addi x5,x5,4
    line 0x00C29463 (Branch branch.NotEqual (reg_of 5) (reg_of 12) (pos 8)) ∷  -- 14 bne x5,x12,1C
    line 0x00000293 (Immediate immediate.Add (reg_of 5) (reg_of 0) (pos 0)) ∷  -- 18 addi x5,x0,0
    line 0x0803A023 (Store store.Word (reg_of 7) (reg_of 0) (pos 128)) ∷  -- 1C sw x0,128(x7)
    line 0x04552023 (Store store.Word (reg_of 10) (reg_of 5) (pos 64)) ∷  -- 20 sw x5,64(x10)
    line 0x00100513 (Immediate immediate.Add (reg_of 10) (reg_of 0) (pos 1)) ∷  -- 24 addi x10,x0,1
    line 0x00008067 (Jalr (reg_of 0) (reg_of 1) (pos 0)) ∷  -- 28 jalr x0,0(x1)
    line 0x00000513 (Immediate immediate.Add (reg_of 10) (reg_of 0) (pos 0)) ∷  -- 2C addi x10,x0,0
    line 0x00008067 (Jalr (reg_of 0) (reg_of 1) (pos 0)) ∷  -- 30 jalr x0,0(x1)
    []
