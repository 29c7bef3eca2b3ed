-- The sender's outline: at each line how far it is from its end, and what holds there of its own numbers
-- and registers.
use Rattle.std.proofs.Common.{ℕ, ◌+◌, ◌*◌, ◌<◌, ◌≤◌, ◌≡◌, ◌==◌, ◌⊎◌, if◌then◌else◌, [], ◌∷◌, length}
use Rattle.std.specs.Prelude.{slice_index}
use Rattle.poll_close.specs.Invariant.Blocks.{SenderBlock, offset}
use Rattle.poll_close.specs.Invariant.Outlines.{Outline, sender_row}
use Rattle.rv_decode.specs.Listings.{words_of}
use Rattle.fastforward.specs.Listing.{listing}
use Rattle.fastforward.specs.Invariant.{Sent}

-- between two words: all that it took are stored, and no mark
pub record Between (k : SenderBlock) (n : Sent) : Type 0 where
  pub taken : n.asked ≡ n.stored
  pub unmarked : n.marked ≡ 0

-- it holds the next word, which it has not stored
pub record HoldsWord (k : SenderBlock) (n : Sent) (x5 x10 : ℕ) : Type 0 where
  pub taken : n.asked ≡ n.stored + 1
  pub unmarked : n.marked ≡ 0
  pub within : n.stored < length k.list
  pub word : x10 ≡ slice_index k.list n.stored
  pub index : x5 ≡ offset k n.stored

pub record Asked (k : SenderBlock) (n : Sent) (x5 x10 x11 : ℕ) : Type 0 where
  pub unmarked : n.marked ≡ 0
  pub index : x5 ≡ offset k n.stored
  pub answer :
      ((x11 ≡ 1) × (n.asked ≡ n.stored + 1) × (n.stored < length k.list) × (x10 ≡ slice_index k.list n.stored))
      ⊎ ((x11 ≡ 0) × (n.asked ≡ n.stored) × (n.stored ≡ length k.list))

-- the next word's slot is free: it has seen the null of the word that stood there before
abbrev pub Free : SenderBlock → Sent → Type 0
Free k n = n.stored + 1 ≤ n.seen + k.size

-- it has stored a word, the last
pub record StoredWord (k : SenderBlock) (n : Sent) : Type 0 where
  pub between : Between k n
  pub last : ℕ
  pub next : n.stored ≡ last + 1

-- the whole list is stored, and the mark is made
pub record Marked (k : SenderBlock) (n : Sent) : Type 0 where
  pub taken : n.asked ≡ length k.list
  pub all : n.stored ≡ length k.list
  pub mark : n.marked ≡ 1

abbrev pub sender : Outline
sender = record {
  Own = Sent;
  asked = λ n. n.asked;
  code = words_of listing.sender;
  over = 0x3C;
  done = λ k n. Marked k n;
  rows =
      sender_row 0x00 (λ x. 8) (λ k n r. Between k n × (r.x5 ≡ offset k n.stored)) ∷  -- next: addi x17,x0,1
      sender_row 0x04 (λ x. 7) (λ k n r. Between k n × (r.x5 ≡ offset k n.stored) × (r.x17 ≡ 1)) ∷  -- ecall
      sender_row 0x08 (λ x. 5 + 12 * slice_index x 11) (λ k n r. Asked k n r.x5 r.x10 r.x11) ∷  -- beq x11,x0,done
      sender_row 0x0C (λ x. 16) (λ k n r. HoldsWord k n r.x5 r.x10) ∷  -- add x28,x8,x5
      sender_row 0x10 (λ x. 15) (λ k n r. HoldsWord k n r.x5 r.x10 × (r.x28 ≡ k.base + r.x5)) ∷  -- test: lw x7,16(x28)
      sender_row 0x14 (λ x. if slice_index x 7 == 0 then 14 else 16)
      (λ k n r. HoldsWord k n r.x5 r.x10 × (r.x28 ≡ k.base + r.x5) × (r.x7 ≡ 0 → Free k n)) ∷  -- bne x7,x0,test
      sender_row 0x18 (λ x. 13) (λ k n r. HoldsWord k n r.x5 r.x10 × (r.x28 ≡ k.base + r.x5) × Free k n) ∷  -- sw x10,16(x28)
      sender_row 0x1C (λ x. 12) (λ k n r. (s : StoredWord k n) × (r.x5 ≡ offset k s.last)) ∷  -- addi x5,x5,4
      sender_row 0x20 (λ x. 11) (λ k n r. (s : StoredWord k n) × (r.x5 ≡ offset k s.last + 4)) ∷  -- bne x5,x9,next
      sender_row 0x24 (λ x. 10) (λ k n r. (s : StoredWord k n) × (offset k s.last + 4 ≡ 4 * k.size)) ∷  -- addi x5,x0,0
      sender_row 0x28 (λ x. 9) (λ k n r. Between k n × (r.x5 ≡ offset k n.stored)) ∷  -- jal x0,next
      sender_row 0x2C (λ x. 4) (λ k n r. Between k n × (n.stored ≡ length k.list)) ∷  -- done: addi x6,x0,1
      sender_row 0x30 (λ x. 3) (λ k n r. Between k n × (n.stored ≡ length k.list) × (r.x6 ≡ 1)) ∷  -- sw x6,4(x8)
      sender_row 0x34 (λ x. 2) (λ k n r. Marked k n) ∷  -- addi x17,x0,93
      sender_row 0x38 (λ x. 1) (λ k n r. Marked k n × (r.x17 ≡ 93)) ∷  -- ecall
      [];
}
