-- Losses by hand, of runs of two harts: what is decided of a run could be the wrong question, and no proof of a law would notice.
use Rattle.std.proofs.Common.{ℕ, ◌≡◌, Option, None, Some, List, [], ◌∷◌, ◌++◌, refl}
use Rattle.step_machine.specs.declared.events.Entry.{Entry}
use Rattle.step_machine.specs.Names.{OpeningValue}
use Rattle.step_machine.specs.declared.events.Entry.TheVariants.{Load, Store, Land}
use Rattle.queue_parties.specs.{all_at}
use Rattle.queue_layouts.specs.declared.AnyQueue.{AnyQueue}
use Rattle.queue_layouts.specs.declared.AnyQueue.TheVariants.{Indexed, Tagged}
use Rattle.queue_layouts.specs.declared.tagged.Codec.TheVariants as codec
use Rattle.ownership_runs.specs.{Loss, first_loss}
use Rattle.ownership_runs.specs.Losses as losses

abbrev zeros : OpeningValue
zeros = record { harts = []; words = [] }

-- one slot of a byte at address 4, and indices of a byte
abbrev byte : AnyQueue
byte = Indexed (record {
  sender = 0;
  receiver = 1;
  head = 0;
  tail = 1;
  index_width = 1;
  slots = 4;
  size = 1;
  width = 1;
  capacity = 1;
  base = 0;
  scale = 1;
  offset = 0;
  modulus = 256;
})

-- of one slot the first byte is the tag, which is 0 if the slot is free
abbrev tagged : AnyQueue
tagged = Tagged
    (record { sender = 0; receiver = 1; slots = 4; size = 1; width = 2; tags = 4; tag_stride = 2; tag_offset = 0; tag_width = 1; codec = codec.Zero })

-- one slot of a byte, which is its tag
abbrev fast_forward : AnyQueue
fast_forward = Tagged
    (record { sender = 0; receiver = 1; slots = 4; size = 1; width = 1; tags = 4; tag_stride = 1; tag_offset = 0; tag_width = 1; codec = codec.Zero })

abbrev loss : (place value position sent : ℕ) → Option Loss
loss place value position sent =
    Some (record { place = place; hart = 1; addr = 4; width = 1; value = value; position = position; byte = 4; sent = sent })

-- a record is published, and the receiver is told
abbrev told : List Entry
told = Store 0 4 1 7 ∷ Store 0 0 1 1 ∷ Land 0 ∷ Land 0 ∷ Load 1 0 1 1 ∷ []

-- it is loaded as it was sent; also what the receiver stored there itself
pub right_by_hand : first_loss None byte zeros (all_at 0) (told ++ Load 1 4 1 7 ∷ Store 1 1 1 1 ∷ []) ≡ None
unfolding losses.first_byte
right_by_hand = refl

pub own_by_hand : first_loss None byte zeros (all_at 0) (told ++ Store 1 4 1 5 ∷ Load 1 4 1 5 ∷ []) ≡ None
unfolding losses.first_byte
own_by_hand = refl

-- the index is stored before the record
pub early_by_hand : first_loss None byte zeros (all_at 0) (Store 0 0 1 1 ∷ Store 0 4 1 7 ∷ Land 0 ∷ Land 0 ∷ Load 1 0 1 1 ∷ Load 1 4 1 7 ∷ []) ≡ loss 5 7 0 0
unfolding losses.first_byte
early_by_hand = refl

-- the sender publishes over a record that the receiver has not taken
pub overrun_by_hand : first_loss None byte zeros (all_at 0) (told ++ Store 0 4 1 9 ∷ Store 0 0 1 2 ∷ Land 0 ∷ Load 1 4 1 9 ∷ []) ≡ loss 8 9 0 7
unfolding losses.first_byte
overrun_by_hand = refl

-- the receiver loads the slot again after it has handed it back
pub late_by_hand : first_loss None byte zeros (all_at 0)
    (told ++ Load 1 4 1 7 ∷ Store 1 1 1 1 ∷ Land 1 ∷ Load 0 1 1 1 ∷ Store 0 4 1 9 ∷ Land 0 ∷ Load 1 4 1 9 ∷ [])
    ≡ loss 11 9 0 7
unfolding losses.first_byte
late_by_hand = refl

-- a tag that the receiver has stored over is no longer the record
pub tag_by_hand : first_loss None tagged zeros (all_at 0)
    (Store 0 5 1 7 ∷ Store 0 4 1 1 ∷ Land 0 ∷ Land 0 ∷ Load 1 4 1 1 ∷ Load 1 5 1 7 ∷ Store 1 4 1 0 ∷ Load 1 4 1 0 ∷ [])
    ≡ None
unfolding losses.first_byte
tag_by_hand = refl

-- the record is the tag, and a later one is stored over it before the receiver looks
pub overwritten_by_hand : first_loss None fast_forward zeros (all_at 0) (Store 0 4 1 7 ∷ Store 0 4 1 9 ∷ Land 0 ∷ Land 0 ∷ Load 1 4 1 9 ∷ []) ≡ loss 4 9 0 7
unfolding losses.first_byte
overwritten_by_hand = refl
