-- A run of two harts that use two queues of two slots at once: hart 0 sends a word by Lamport's at address 64, hart 1 receives it and sends
-- it back by FastForward's at address 256, and hart 0 receives it there.
use Rattle.std.specs.Prelude.{ℕ, zero, suc, false, List, [], ◌∷◌, ◌++◌, replicate}
use Rattle.step_machine.specs.declared.events.Entry.{Entry}
use Rattle.step_machine.specs.declared.events.Event.{Event}
use Rattle.step_machine.specs.History.{HartOpeningValue, OpeningValue}
use Rattle.rv_decode.specs.Listings.{Listed, words_of}
use Rattle.spsc_queue.specs.RingBuffers.{Kind, lamport, fastforward}
use Rattle.spsc_queue.specs.Listings.{try_send, try_receive}
use Rattle.spsc_queue.specs.FastForward.{fastforward_send, fastforward_receive}
use Rattle.spsc_queue.specs.Calls.{SpscQueue}
use Rattle.spsc_queue.specs.Example.{entries_by, acts, landings}

abbrev pub queue_at : Kind → (base line sender receiver : ℕ) → SpscQueue
queue_at k base line sender receiver = record {
  block = record { kind = k; caches = false; base = base; size = 2; start = 0; begins_with = 0 };
  sender = sender;
  receiver = receiver;
  send_line = line;
  receive_line = line;
}

abbrev pub both_queues : ℕ → SpscQueue
both_queues zero = queue_at lamport 64 1 0 1
both_queues (suc i) = queue_at fastforward 256 15 1 0

-- a0 is made the block, and then the function entered, whose return leads to where the same is done for the other queue
abbrev pub hart_of_two : (one two : List Listed) → (word : ℕ) → HartOpeningValue
hart_of_two one two word = record {
  code = 0x04000513 ∷ (words_of one ++ 0x10000513 ∷ words_of two);
  registers = 0 ∷ 56 ∷ (replicate 9 0 ++ word ∷ 8 ∷ replicate 19 0);
  inbox = [];
}

abbrev pub opening_of_two : OpeningValue
opening_of_two = record { harts = hart_of_two try_send fastforward_receive 99 ∷ hart_of_two try_receive fastforward_send 0 ∷ []; words = [] }

abbrev pub both_events : List Event
both_events = acts 0 11 ++ (landings 0 2 ++ (acts 1 22 ++ (landings 1 3 ++ (acts 0 11 ++ landings 0 2))))

abbrev pub entries_of_two : List Entry
entries_of_two = entries_by 128 opening_of_two [] both_events
