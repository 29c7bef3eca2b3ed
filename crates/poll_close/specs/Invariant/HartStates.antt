-- The sender's states, over its code: its registers as one list, of which the program writes seven.
use Rattle.std.specs.Prelude.{ℕ, ◌*◌, List, [], ◌∷◌, ◌+◌, ◌==◌, if◌then◌else◌}
use Rattle.hart.specs.State.{HartState}
use Rattle.hart.specs.declared.status.Status.TheVariants as status
use Rattle.poll_close.specs.Invariant.Blocks.{SenderBlock}
use Rattle.rv_decode.specs.Listings.{words_of}
use Rattle.poll_close.specs.Listing.{RingLines, receiver_with}

-- the registers that the program writes
pub record SenderRegisters : Type 0 where
  pub x5 : ℕ
  pub x6 : ℕ
  pub x7 : ℕ
  pub x10 : ℕ
  pub x11 : ℕ
  pub x17 : ℕ
  pub x28 : ℕ

-- what stays: the memory's words, the block's start, the ring's bytes
pub record SenderConstants : Type 0 where
  pub words : ℕ
  pub base : ℕ
  pub bytes : ℕ

abbrev pub fixed : SenderBlock → SenderConstants
fixed k = record { words = k.words; base = k.base; bytes = 4 * k.size }

abbrev pub file : SenderConstants → SenderRegisters → List ℕ
file f r = 0 ∷ 0 ∷ 0 ∷ 0 ∷ 0 ∷ r.x5 ∷ r.x6 ∷ r.x7 ∷ f.base ∷ f.bytes ∷ r.x10 ∷ r.x11 ∷ 0 ∷ 0 ∷ 0 ∷ 0 ∷ 0 ∷ r.x17 ∷ 0
    ∷ 0 ∷ 0 ∷ 0 ∷ 0 ∷ 0 ∷ 0 ∷ 0 ∷ 0 ∷ 0 ∷ r.x28 ∷ 0 ∷ 0 ∷ 0 ∷ []

abbrev pub running : List ℕ → SenderConstants → ℕ → SenderRegisters → List ℕ → HartState
running code f pc r inbox = record { code = code; words = f.words; registers = file f r; pc = pc; inbox = inbox; status = status.Running }

abbrev pub ended : List ℕ → SenderConstants → ℕ → SenderRegisters → List ℕ → HartState
ended code f pc r inbox = record { code = code; words = f.words; registers = file f r; pc = pc; inbox = inbox; status = status.Ended }

-- ---- the receiver's states, over its code: its registers as one list, of which the program writes eleven

abbrev pub receiver_of : RingLines → List ℕ
receiver_of m = words_of (receiver_with m)

-- the registers that the program writes
pub record ReceiverRegisters : Type 0 where
  pub x5 : ℕ
  pub x6 : ℕ
  pub x7 : ℕ
  pub x8 : ℕ
  pub x10 : ℕ
  pub x11 : ℕ
  pub x17 : ℕ
  pub x20 : ℕ
  pub x22 : ℕ
  pub x28 : ℕ
  pub x30 : ℕ

-- what stays: the memory's words, the ring's bytes, the stride, where the blocks end and begin
pub record ReceiverConstants : Type 0 where
  pub words : ℕ
  pub bytes : ℕ
  pub stride : ℕ
  pub end : ℕ
  pub first : ℕ

abbrev pub receiver_file : ReceiverConstants → ReceiverRegisters → List ℕ
receiver_file f r = 0 ∷ 0 ∷ 0 ∷ 0 ∷ 0 ∷ r.x5 ∷ r.x6 ∷ r.x7 ∷ r.x8 ∷ f.bytes ∷ r.x10 ∷ r.x11 ∷ 0 ∷ 0 ∷ 0 ∷ 0 ∷ 0
    ∷ r.x17 ∷ f.stride ∷ f.end ∷ r.x20 ∷ f.first ∷ r.x22 ∷ 0 ∷ 0 ∷ 0 ∷ 0 ∷ 0 ∷ r.x28 ∷ 0 ∷ r.x30 ∷ 0 ∷ []

abbrev pub receiving : RingLines → ReceiverConstants → ℕ → ReceiverRegisters → HartState
receiving m f pc r = record { code = receiver_of m; words = f.words; registers = receiver_file f r; pc = pc; inbox = []; status = status.Running }

abbrev pub received : RingLines → ReceiverConstants → ReceiverRegisters → HartState
received m f r = record { code = receiver_of m; words = f.words; registers = receiver_file f r; pc = 0x7C; inbox = []; status = status.Ended }

-- at an offset, where 80 is after its last line
abbrev pub receives : RingLines → ReceiverConstants → ℕ → ReceiverRegisters → HartState
receives m f here r = if here == 0x80 then received m f r else receiving m f here r

-- at 60 the sender that was closed last is not counted yet
abbrev pub closings_due : ℕ → ℕ
closings_due here = if here == 0x60 then 1 else 0

abbrev pub whole_of : SenderBlock → ℕ → ReceiverConstants
whole_of k count = record { words = k.words; bytes = 4 * k.size; stride = k.stride; end = k.first + count * k.stride; first = k.first }
