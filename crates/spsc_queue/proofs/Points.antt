-- What is known at a point of a run, of a queue of either kind.
use Rattle.spsc_queue.proofs.Common.{ℕ, ◌+◌, ◌<◌, ◌≤◌, ◌≡◌, true, false, List, [], length, Entry, OpeningValue, pending, memory_word, read, Kind, lamport}
use Rattle.spsc_queue.proofs.Common.{fastforward, RingBuffer, slot_offset, slot_address, capacity_of, writes_to, placed, roomy, asked, ProtocolState, room_at}
use Rattle.spsc_queue.proofs.Common.{says_full, watched_address, says_empty, available_of, ready_by_state}
use Rattle.spsc_queue.specs.Laws.{known_count, ready_count}
use Rattle.spsc_queue.proofs.OwnWords.{IsAloneAt}
use Rattle.spsc_queue.proofs.States.{spare, IsPlaced, IsAsked, Taking}
use Rattle.spsc_queue.proofs.Copies.{Copied}
use Rattle.spsc_queue.proofs.Counts.{number_of, publishes_to, releases_to}

-- how many words are there in memory, and how many slots are freed there; where the parties stand, what they know of these two, and how many
-- words and slots their pending stores hold back; what looks say; what lies in the words that one party alone stores
pub record At (k : Kind) (r : RingBuffer) (o : OpeningValue) (es : List Entry) (s : ProtocolState) : Type 0 where
  pub there : ℕ
  pub freed : ℕ
  pub placed_at : IsPlaced r s.stored s.published s.sending
  pub asked_at : IsAsked r s.consumed s.receiving
  pub taking : Taking k s.taken s.consumed s.receiving
  pub known_there : known_count s ≤ there
  pub ready_freed : ready_count s + spare k ≤ freed + r.size
  pub words_held : available_of k s ≡ there + number_of (publishes_to k r) (pending r.sender es)
  pub slots_held : s.taken ≡ freed + number_of (releases_to k r) (pending r.receiver es)
  pub empty : (u v : ℕ) → s.receiving ≡ asked u → v ≡ read o es r.receiver (watched_address k r u) 4 → says_empty k u v ≡ true → there ≤ s.taken
  pub found : k ≡ fastforward → (u v : ℕ) → s.receiving ≡ asked u → v ≡ read o es r.receiver (r.slots + u) 4 → says_empty fastforward u v ≡ false
      → s.taken < there
  pub full : (u v : ℕ) → s.sending ≡ placed u → v ≡ read o es r.sender (room_at k r u) 4 → says_full k r u v ≡ true → freed + r.size ≤ s.stored + spare k
  pub alone : k ≡ fastforward → (u : ℕ) → s.sending ≡ roomy u → IsAloneAt r.sender (slot_address r s.stored) es
  pub head : read o es r.sender r.head 4 ≡ slot_offset r s.published
  pub tail : read o es r.receiver r.tail 4 ≡ slot_offset r s.consumed
  pub copied : Copied k r.copy r o es (s.stored + ready_by_state s.sending) s.taken
  pub free : k ≡ fastforward → ((h : ℕ) → writes_to r (pending h es) ≡ []) → (j : ℕ) → s.stored ≤ j → j < s.taken + r.size
      → memory_word o es (slot_address r j) ≡ 0
  pub room : k ≡ lamport → s.stored + length (writes_to r (pending r.receiver es)) ≤ s.taken + capacity_of k r.size
