-- The listings of FastForward: the sender's, and the receiver's five lines of its own. The tables are their words.
use Rattle.std.specs.Prelude.{pos, negsuc, List, [], ◌∷◌}
use Rattle.rv_decode.specs.Meaning.{reg_of}
use Rattle.rv_decode.specs.declared.instruction.BranchOp.TheVariants as branch
use Rattle.rv_decode.specs.declared.instruction.ImmediateOp.TheVariants as immediate
use Rattle.rv_decode.specs.declared.instruction.RegisterOp.TheVariants as register
use Rattle.rv_decode.specs.declared.instruction.LoadOp.TheVariants as load
use Rattle.rv_decode.specs.declared.instruction.StoreOp.TheVariants as store
use Rattle.rv_decode.specs.declared.instruction.Instr.TheVariants.{Jal, Branch, Load, Store, Immediate, Register, Ecall}
use Rattle.poll_close.specs.Laws.{Ring}
use Rattle.rv_decode.specs.Listings.{Listed, line, words_of}
use Rattle.poll_close.specs.Listing.{Listing, RingLines, receiver_with}

abbrev pub sender_listing : List Listed
sender_listing =
    line 0x00100893 (Immediate immediate.Add (reg_of 17) (reg_of 0) (pos 1)) ∷  -- 00 next: addi x17,x0,1
    line 0x00000073 Ecall ∷  -- 04 ecall
    line 0x02058263 (Branch branch.Equal (reg_of 11) (reg_of 0) (pos 36)) ∷  -- 08 beq x11,x0,done
    line 0x00540E33 (Register register.Add (reg_of 28) (reg_of 8) (reg_of 5)) ∷  -- 0C add x28,x8,x5
    line 0x010E2383 (Load load.Word (reg_of 7) (reg_of 28) (pos 16)) ∷  -- 10 test: lw x7,16(x28)
    line 0xFE039EE3 (Branch branch.NotEqual (reg_of 7) (reg_of 0) (negsuc 3)) ∷  -- 14 bne x7,x0,test
    line 0x00AE2823 (Store store.Word (reg_of 28) (reg_of 10) (pos 16)) ∷  -- 18 sw x10,16(x28)
    line 0x00428293 (Immediate immediate.Add (reg_of 5) (reg_of 5) (pos 4)) ∷  -- 1C addi x5,x5,4
    line 0xFE9290E3 (Branch branch.NotEqual (reg_of 5) (reg_of 9) (negsuc 31)) ∷  -- 20 bne x5,x9,next
    line 0x00000293 (Immediate immediate.Add (reg_of 5) (reg_of 0) (pos 0)) ∷  -- 24 addi x5,x0,0
    line 0xFD9FF06F (Jal (reg_of 0) (negsuc 39)) ∷  -- 28 jal x0,next
    line 0x00100313 (Immediate immediate.Add (reg_of 6) (reg_of 0) (pos 1)) ∷  -- 2C done: addi x6,x0,1
    line 0x00642223 (Store store.Word (reg_of 8) (reg_of 6) (pos 4)) ∷  -- 30 sw x6,4(x8)
    line 0x05D00893 (Immediate immediate.Add (reg_of 17) (reg_of 0) (pos 93)) ∷  -- 34 addi x17,x0,93
    line 0x00000073 Ecall ∷  -- 38 ecall
    []

abbrev pub ring_lines : RingLines
ring_lines = record {
  at_14 = line 0x00842383 (Load load.Word (reg_of 7) (reg_of 8) (pos 8));  -- lw x7,8(x8)
  at_18 = line 0x00740E33 (Register register.Add (reg_of 28) (reg_of 8) (reg_of 7));  -- add x28,x8,x7
  at_1C = line 0x010E2583 (Load load.Word (reg_of 11) (reg_of 28) (pos 16));  -- lw x11,16(x28)
  at_20 = line 0x02058463 (Branch branch.Equal (reg_of 11) (reg_of 0) (pos 40));  -- beq x11,x0,empty
  at_24 = line 0x000E2823 (Store store.Word (reg_of 28) (reg_of 0) (pos 16));  -- sw x0,16(x28)
}

abbrev pub listing : Listing
listing = record { sender = sender_listing; receiver = receiver_with ring_lines }

-- the ring: the slots themselves say what is free, so one is enough
abbrev pub fastforward : Ring
fastforward = record { sender = words_of listing.sender; receiver = words_of listing.receiver; least = 1 }
