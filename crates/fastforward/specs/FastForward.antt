-- FastForward, what its histories mean, and how far its harts are from their ends.
use Rattle.std.specs.Prelude.{ℕ, ◌<◌, Bool, None}
use Rattle.hart.specs.State.{HartState}
use Rattle.poll_close.specs.Laws.{Meaning}
use Rattle.poll_close.specs.Rankings.{Ranking}
use Rattle.poll_close.specs.Waiting.{waits_at}
use Rattle.poll_close.specs.Invariant.BlockInvariant.{BlockInvariant, ranking_of}
use Rattle.poll_close.specs.Invariant.Channels.{means_by}
use Rattle.fastforward.specs.Listing.{ring_lines}
use Rattle.fastforward.specs.Invariant.{sender_stores, receiver_stores, Landed, sent, gone, taken_so_far, freed, CounterInvariant, Words, Level, Filled, rows}
use Rattle.fastforward.specs.Invariant.Sender.{sender}

-- it is about to read its slot, and will find a word there
abbrev pub waits : HartState → (ℕ → ℕ) → Bool
waits = waits_at 0x10 28 16 None

abbrev pub fastforward_blocks : BlockInvariant
fastforward_blocks = record {
  sender = sender;
  Own = ℕ;
  Landed = Landed;
  marks = λ n. n.mark;
  CounterInvariant = CounterInvariant;
  Words = Words;
  sender_stores = sender_stores;
  receiver_stores = receiver_stores;
  sent = sent;
  gone = gone;
  taken = taken_so_far;
  freed = freed;
  Level = Level;
  Filled = Filled;
  ring_lines = ring_lines;
  rows = rows;
  waits = waits;
  Ready = λ k n. n.receiver.tails < n.landed.slots;
}

abbrev pub fastforward_means : Meaning
fastforward_means = means_by fastforward_blocks

abbrev pub fastforward_ranking : Ranking
fastforward_ranking = ranking_of fastforward_blocks
