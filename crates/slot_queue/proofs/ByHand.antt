-- Records by hand, of a run of two harts: definitions that only conclusions cite could be wrong, and no proof of a law would notice.
use Rattle.std.proofs.Common.{◌≡◌, List, [], ◌∷◌, refl}
use Rattle.step_machine.specs.declared.events.Entry.{Entry}
use Rattle.step_machine.specs.declared.events.Entry.TheVariants.{Load, Store, Land}
use Rattle.step_machine.specs.History.{OpeningValue}
use Rattle.queue_parties.specs.Parties.{the_sender, the_receiver, all_at}
use Rattle.queue_parties.specs.Positions as positions
use Rattle.slot_queue.specs.{Queue, records_by, records_learned, records_waiting}

-- two slots of a byte from address 4 on, and indices of a byte
abbrev bytes : Queue
bytes = record {
  sender = 0;
  receiver = 1;
  head = 0;
  tail = 1;
  index_width = 1;
  slots = 4;
  size = 2;
  width = 1;
  capacity = 2;
  base = 0;
  scale = 1;
  offset = 0;
  modulus = 256;
}

abbrev zeros : OpeningValue
zeros = record { harts = []; words = [] }

-- the sender fills both slots and publishes them at once, while its stores are pending,
abbrev filled : List Entry
filled = Store 0 4 1 7 ∷ Store 0 5 1 9 ∷ Store 0 0 1 2 ∷ Land 0 ∷ Land 0 ∷ Land 0 ∷ []

-- and the receiver looks, loads the first record and takes it
abbrev run : List Entry
run = Store 0 4 1 7 ∷ Store 0 5 1 9 ∷ Store 0 0 1 2 ∷ Land 0 ∷ Land 0 ∷ Land 0 ∷ Load 1 0 1 2 ∷ Load 1 4 1 7 ∷ Store 1 1 1 1 ∷ []

pub published_by_hand : records_by bytes the_sender zeros (all_at 0) [] run ≡ 7 ∷ 9 ∷ []
unfolding positions.records_passed positions.numbers_from
published_by_hand = refl

pub taken_by_hand : records_by bytes the_receiver zeros (all_at 0) [] run ≡ 7 ∷ []
unfolding positions.records_passed positions.numbers_from
taken_by_hand = refl

pub learned_by_hand : records_learned bytes zeros (all_at 0) [] run ≡ 7 ∷ 9 ∷ []
unfolding positions.records_passed positions.numbers_from
learned_by_hand = refl

-- after the sender's entries alone the second record waits from position 1 on
pub waiting_by_hand : records_waiting bytes zeros (record { published = 2; taken = 0; known_taken = 0; known_published = 0 }) filled 1 ≡ 9 ∷ []
unfolding positions.numbers_from
waiting_by_hand = refl
