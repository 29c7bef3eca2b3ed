-- The queues as instances: Lamport's of `slot_queue`, FastForward's of `slots_that_tell`.
use Rattle.std.specs.Prelude.{◌+◌, ◌-◌}
use Rattle.queue_parties.specs.Parties.{QueueCounts}
use Rattle.slot_queue.specs.Queues.{Queue}
use Rattle.slots_that_tell.specs.Slots.{Slots}
use Rattle.slots_that_tell.specs.Codecs.{zero_is_free}
use Rattle.spsc_queue.specs.RingBuffers.{RingBuffer}

-- Lamport's indices are byte offsets among its slots, of which one stays free
abbrev pub queue_of : RingBuffer → Queue
queue_of r = record {
  sender = r.sender;
  receiver = r.receiver;
  head = r.head;
  tail = r.tail;
  index_width = 4;
  slots = r.slots;
  size = r.size;
  width = 4;
  capacity = r.size - 1;
  base = 0;
  scale = 4;
  offset = 0;
  modulus = r.size;
}

-- each slot of FastForward's is its own tag
abbrev pub ring_slots_of : RingBuffer → Slots
ring_slots_of r = record {
  sender = r.sender;
  receiver = r.receiver;
  slots = r.slots;
  size = r.size;
  width = 4;
  tags = r.slots;
  tag_stride = 4;
  tag_offset = 0;
  tag_width = 4;
  tells = zero_is_free;
}

-- the counts of both parties where a run begins: the words that wait are published, and the receiver knows of none of them yet
abbrev pub counts_at_start : RingBuffer → QueueCounts
counts_at_start r = record { published = r.start + r.begins_with; taken = r.start; known_taken = r.start; known_published = r.start }
