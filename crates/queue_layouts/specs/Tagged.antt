-- What the tags of a queue tell, and the queue as `slots_that_tell` has it.
use Rattle.std.specs.Prelude.{ℕ, ◌^◌, Bool}
use Rattle.queue_parties.specs.Parties.{Party}
use Rattle.slots_that_tell.specs.Slots.{Slots}
use Rattle.slots_that_tell.specs.Codecs.{zero_is_free, position_number, bits_under, phase_bits}
use Rattle.queue_layouts.specs.declared.tagged.Codec.{Codec}
use Rattle.queue_layouts.specs.declared.tagged.Codec.TheVariants as codec
use Rattle.queue_layouts.specs.declared.tagged.TaggedQueue.{TaggedQueue}

-- where there are `size` slots
abbrev pub tells_by : (size : ℕ) → Codec → Party → (k v : ℕ) → Bool
tells_by size codec.Zero = zero_is_free
tells_by size codec.Number = position_number (2 ^ 32)
tells_by size (codec.Bit mask free full) = bits_under mask free full
tells_by size (codec.Phases mask free full odd_free odd_full) = phase_bits size mask free full odd_free odd_full

abbrev pub slots_of : TaggedQueue → Slots
slots_of q = record {
  sender = q.sender;
  receiver = q.receiver;
  slots = q.slots;
  size = q.size;
  width = q.width;
  tags = q.tags;
  tag_stride = q.tag_stride;
  tag_offset = q.tag_offset;
  tag_width = q.tag_width;
  tells = tells_by q.size q.codec;
}
