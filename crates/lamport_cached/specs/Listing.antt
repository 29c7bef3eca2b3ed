-- The listings of Lamport's ring with a cached tail: the sender's, and Lamport's receiver. The tables are their words.
use Rattle.std.specs.Prelude.{pos, negsuc, List, [], ◌∷◌}
use Rattle.rv_decode.specs.Meaning.{reg_of}
use Rattle.rv_decode.specs.declared.instruction.BranchOp.TheVariants as branch
use Rattle.rv_decode.specs.declared.instruction.ImmediateOp.TheVariants as immediate
use Rattle.rv_decode.specs.declared.instruction.RegisterOp.TheVariants as register
use Rattle.rv_decode.specs.declared.instruction.LoadOp.TheVariants as load
use Rattle.rv_decode.specs.declared.instruction.StoreOp.TheVariants as store
use Rattle.rv_decode.specs.declared.instruction.Instr.TheVariants.{Jal, Branch, Load, Store, Immediate, Register, Ecall}
use Rattle.poll_close.specs.Laws.{Ring}
use Rattle.rv_decode.specs.Listings.{Listed, line, words_of}
use Rattle.poll_close.specs.Listing.{Listing}
use Rattle.lamport_ring.specs.Listing as lamport

abbrev pub sender_listing : List Listed
sender_listing =
    line 0x00100893 (Immediate immediate.Add (reg_of 17) (reg_of 0) (pos 1)) ∷  -- 00 next: addi x17,x0,1
    line 0x00000073 Ecall ∷  -- 04 ecall
    line 0x02058863 (Branch branch.Equal (reg_of 11) (reg_of 0) (pos 48)) ∷  -- 08 beq x11,x0,done
    line 0x00428313 (Immediate immediate.Add (reg_of 6) (reg_of 5) (pos 4)) ∷  -- 0C addi x6,x5,4
    line 0x00931463 (Branch branch.NotEqual (reg_of 6) (reg_of 9) (pos 8)) ∷  -- 10 bne x6,x9,test
    line 0x00000313 (Immediate immediate.Add (reg_of 6) (reg_of 0) (pos 0)) ∷  -- 14 addi x6,x0,0
    line 0x00639663 (Branch branch.NotEqual (reg_of 7) (reg_of 6) (pos 12)) ∷  -- 18 test: bne x7,x6,store
    line 0x00842383 (Load load.Word (reg_of 7) (reg_of 8) (pos 8)) ∷  -- 1C again: lw x7,8(x8)
    line 0xFE638EE3 (Branch branch.Equal (reg_of 7) (reg_of 6) (negsuc 3)) ∷  -- 20 beq x7,x6,again
    line 0x00540E33 (Register register.Add (reg_of 28) (reg_of 8) (reg_of 5)) ∷  -- 24 store: add x28,x8,x5
    line 0x00AE2823 (Store store.Word (reg_of 28) (reg_of 10) (pos 16)) ∷  -- 28 sw x10,16(x28)
    line 0x00642023 (Store store.Word (reg_of 8) (reg_of 6) (pos 0)) ∷  -- 2C sw x6,0(x8)
    line 0x00030293 (Immediate immediate.Add (reg_of 5) (reg_of 6) (pos 0)) ∷  -- 30 addi x5,x6,0
    line 0xFCDFF06F (Jal (reg_of 0) (negsuc 51)) ∷  -- 34 jal x0,next
    line 0x00100313 (Immediate immediate.Add (reg_of 6) (reg_of 0) (pos 1)) ∷  -- 38 done: addi x6,x0,1
    line 0x00642223 (Store store.Word (reg_of 8) (reg_of 6) (pos 4)) ∷  -- 3C sw x6,4(x8)
    line 0x05D00893 (Immediate immediate.Add (reg_of 17) (reg_of 0) (pos 93)) ∷  -- 40 addi x17,x0,93
    line 0x00000073 Ecall ∷  -- 44 ecall
    []

abbrev pub listing : Listing
listing = record { sender = sender_listing; receiver = lamport.listing.receiver }

-- the ring: one slot stays free, so a ring has at least two
abbrev pub lamport_cached : Ring
lamport_cached = record { sender = words_of listing.sender; receiver = words_of listing.receiver; least = 2 }
