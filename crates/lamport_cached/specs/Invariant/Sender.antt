-- The outline of the sender: at each line how far it is from its end, and what holds there. From the opening on, x7 is
-- the offset of a tail that it has seen, by which the words that it stored fit the ring. An older tail than that in memory
-- only makes it more careful.
use Rattle.std.proofs.Common.{◌+◌, ◌*◌, ◌≡◌, ◌==◌, if◌then◌else◌, [], ◌∷◌, length}
use Rattle.std.specs.Prelude.{slice_index}
use Rattle.poll_close.specs.Invariant.Blocks.{SenderBlock, offset}
use Rattle.poll_close.specs.Invariant.Outlines.{sender_row}
use Rattle.poll_close.specs.Invariant.HartStates.{SenderRegisters}
use Rattle.rv_decode.specs.Listings.{words_of}
use Rattle.lamport_ring.specs.Invariant.{Between, HoldsWord, Asked, HasRead, Room, StoredWord, Marked, Sent, Program}
use Rattle.lamport_cached.specs.Listing.{listing}

-- it holds the next word, and the tail that it read
pub record Ready (k : SenderBlock) (n : Sent) (r : SenderRegisters) : Type 0 where
  pub holds : HoldsWord k n r.x5 r.x10
  pub read : HasRead k n r.x7

-- and in x6 the offset after the word's
pub record Tests (k : SenderBlock) (n : Sent) (r : SenderRegisters) : Type 0 where
  pub ready : Ready k n r
  pub next : r.x6 ≡ offset k (n.stored + 1)

abbrev pub program : Program
program = record {
  code = words_of listing.sender;
  over = 0x48;
  reads = 0x1C;
  rows =
      sender_row 0x00 (λ x. 8) (λ k n r. Between k n × HasRead k n r.x7 × (r.x5 ≡ offset k n.stored)) ∷  -- next: addi x17,x0,1
      sender_row 0x04 (λ x. 7) (λ k n r. Between k n × HasRead k n r.x7 × (r.x5 ≡ offset k n.stored) × (r.x17 ≡ 1)) ∷  -- ecall
      sender_row 0x08 (λ x. 5 + 15 * slice_index x 11) (λ k n r. Asked k n r.x5 r.x10 r.x11 × HasRead k n r.x7) ∷  -- beq x11,x0,done
      sender_row 0x0C (λ x. 19) (λ k n r. Ready k n r) ∷  -- addi x6,x5,4
      sender_row 0x10 (λ x. 18) (λ k n r. Ready k n r × (r.x6 ≡ r.x5 + 4)) ∷  -- bne x6,x9,test
      sender_row 0x14 (λ x. 17) (λ k n r. Ready k n r × (r.x5 + 4 ≡ 4 * k.size)) ∷  -- addi x6,x0,0
      sender_row 0x18 (λ x. 16) (λ k n r. Tests k n r) ∷  -- test: bne x7,x6,store
      sender_row 0x1C (λ x. 15) (λ k n r. Tests k n r) ∷  -- again: lw x7,8(x8)
      sender_row 0x20 (λ x. if slice_index x 7 == slice_index x 6 then 16 else 14) (λ k n r. Tests k n r) ∷  -- beq x7,x6,again
      sender_row 0x24 (λ x. 13) (λ k n r. Tests k n r × Room k n) ∷  -- store: add x28,x8,x5
      sender_row 0x28 (λ x. 12) (λ k n r. Tests k n r × Room k n × (r.x28 ≡ k.base + r.x5)) ∷  -- sw x10,16(x28)
      sender_row 0x2C (λ x. 11) (λ k n r. StoredWord k n r.x6 × HasRead k n r.x7) ∷  -- sw x6,0(x8)
      sender_row 0x30 (λ x. 10) (λ k n r. Between k n × HasRead k n r.x7 × (r.x6 ≡ offset k n.stored)) ∷  -- addi x5,x6,0
      sender_row 0x34 (λ x. 9) (λ k n r. Between k n × HasRead k n r.x7 × (r.x5 ≡ offset k n.stored)) ∷  -- jal x0,next
      sender_row 0x38 (λ x. 4) (λ k n r. Between k n × (n.stored ≡ length k.list)) ∷  -- done: addi x6,x0,1
      sender_row 0x3C (λ x. 3) (λ k n r. Between k n × (n.stored ≡ length k.list) × (r.x6 ≡ 1)) ∷  -- sw x6,4(x8)
      sender_row 0x40 (λ x. 2) (λ k n r. Marked k n) ∷  -- addi x17,x0,93
      sender_row 0x44 (λ x. 1) (λ k n r. Marked k n × (r.x17 ≡ 93)) ∷  -- ecall
      [];
}
