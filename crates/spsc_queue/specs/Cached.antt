-- The function that sends of Lamport's queue with a cached tail, line by line: try_send, which looks at its copy of the tail, and at
-- the tail itself only where the copy says that the queue is full. It is received by try_receive.
use Rattle.std.specs.Prelude.{pos, negsuc, List, [], ◌∷◌}
use Rattle.rv_decode.specs.Meaning.{reg_of}
use Rattle.rv_decode.specs.declared.instruction.BranchOp.TheVariants as branch
use Rattle.rv_decode.specs.declared.instruction.ImmediateOp.TheVariants as immediate
use Rattle.rv_decode.specs.declared.instruction.RegisterOp.TheVariants as register
use Rattle.rv_decode.specs.declared.instruction.LoadOp.TheVariants as load
use Rattle.rv_decode.specs.declared.instruction.StoreOp.TheVariants as store
use Rattle.rv_decode.specs.declared.instruction.Instr.TheVariants.{Jal, Jalr, Branch, Load, Store, Immediate, Register}
use Rattle.rv_decode.specs.Listings.{Listed, line}

-- it takes the registers of try_send; it returns a0 = 1, or a0 = 0 if the queue is full
abbrev pub cached_send : List Listed
cached_send =
    line 0x00052283 (Load load.Word (reg_of 5) (reg_of 10) (pos 0)) ∷  -- 00 lw x5,0(x10)
    line 0x00452303 (Load load.Word (reg_of 6) (reg_of 10) (pos 4)) ∷  -- 04 lw x6,4(x10)
    line 0x00428393 (Immediate immediate.Add (reg_of 7) (reg_of 5) (pos 4)) ∷  -- 08 addi x7,x5,4
    line 0x00C39463 (Branch branch.NotEqual (reg_of 7) (reg_of 12) (pos 8)) ∷  -- 0C bne x7,x12,14
    line 0x00000393 (Immediate immediate.Add (reg_of 7) (reg_of 0) (pos 0)) ∷  -- 10 addi x7,x0,0
    line 0x02730063 (Branch branch.Equal (reg_of 6) (reg_of 7) (pos 32)) ∷  -- 14 beq x6,x7,34
    line 0x005502B3 (Register register.Add (reg_of 5) (reg_of 10) (reg_of 5)) ∷  -- 18 add x5,x10,x5: store
    line 0x08B2A023 (Store store.Word (reg_of 5) (reg_of 11) (pos 128)) ∷  -- 1C sw x11,128(x5)
    line 0x00752023 (Store store.Word (reg_of 10) (reg_of 7) (pos 0)) ∷  -- 20 sw x7,0(x10)
    line 0x00100513 (Immediate immediate.Add (reg_of 10) (reg_of 0) (pos 1)) ∷  -- 24 addi x10,x0,1
    line 0x00008067 (Jalr (reg_of 0) (reg_of 1) (pos 0)) ∷  -- 28 jalr x0,0(x1)
    line 0x00000513 (Immediate immediate.Add (reg_of 10) (reg_of 0) (pos 0)) ∷  -- 2C addi x10,x0,0: full
    line 0x00008067 (Jalr (reg_of 0) (reg_of 1) (pos 0)) ∷  -- 30 jalr x0,0(x1)
    line 0x04052303 (Load load.Word (reg_of 6) (reg_of 10) (pos 64)) ∷  -- 34 lw x6,64(x10): look
    line 0xFE730AE3 (Branch branch.Equal (reg_of 6) (reg_of 7) (negsuc 11)) ∷  -- 38 beq x6,x7,2C
    line 0x00652223 (Store store.Word (reg_of 10) (reg_of 6) (pos 4)) ∷  -- 3C sw x6,4(x10)
    line 0xFD9FF06F (Jal (reg_of 0) (negsuc 39)) ∷  -- 40 jal x0,18
    []
