-- The two parties of a queue between two harts, and how far each has come.
use Rattle.std.specs.Prelude.{ℕ, ◌≤◌, ◌+◌, ◌==◌, if◌then◌else◌, Option, None, Some, List, [], ◌∷◌}
use Rattle.memory.specs.declared.writes.Write.{Write}
use Rattle.step_machine.specs.declared.events.Entry.{Entry}

pub data Party : Type 0 where
  the_sender : Party
  the_receiver : Party

abbrev pub other : Party → Party
other the_sender = the_receiver
other the_receiver = the_sender

-- a party's hart, and whose hart h is
abbrev pub hart_among : (sender receiver : ℕ) → Party → ℕ
hart_among sender receiver the_sender = sender
hart_among sender receiver the_receiver = receiver

abbrev pub party_among : (sender receiver h : ℕ) → Option Party
party_among sender receiver h = if h == sender then Some the_sender else (if h == receiver then Some the_receiver else None)

-- how many positions the sender published, and how many the receiver took; and how many of either the other party knows of by its loads
pub record QueueCounts : Type 0 where
  pub published : ℕ
  pub taken : ℕ
  pub known_taken : ℕ
  pub known_published : ℕ

-- nothing waits: n positions were published and taken, and both parties know of all of them
abbrev pub all_at : (n : ℕ) → QueueCounts
all_at n = record { published = n; taken = n; known_taken = n; known_published = n }

abbrev pub count : Party → QueueCounts → ℕ
count the_sender c = c.published
count the_receiver c = c.taken

abbrev pub with_count : Party → (n : ℕ) → QueueCounts → QueueCounts
with_count the_sender n c = record c { published = n }
with_count the_receiver n c = record c { taken = n }

-- what a party knows of the other's count
abbrev pub known : Party → QueueCounts → ℕ
known the_sender c = c.known_taken
known the_receiver c = c.known_published

abbrev pub with_known : Party → (n : ℕ) → QueueCounts → QueueCounts
with_known the_sender n c = record c { known_taken = n }
with_known the_receiver n c = record c { known_published = n }

-- Neither party knows of more than there is, and neither has moved past what it knows, where at most `capacity` positions may be in use at once
pub record IsWindow (capacity : ℕ) (c : QueueCounts) : Type 0 where
  pub known_published : c.known_published ≤ c.published
  pub published : c.published ≤ c.known_taken + capacity
  pub known_taken : c.known_taken ≤ c.taken
  pub taken : c.taken ≤ c.known_published

-- A party owns the positions from its own count up to here, this one not: the sender those that are free as far as it knows, where `capacity` may be
-- in use at once, and the receiver those that are published as far as it knows
abbrev pub owned_until : (capacity : ℕ) → Party → QueueCounts → ℕ
owned_until capacity the_sender c = c.known_taken + capacity
owned_until capacity the_receiver c = c.known_published

-- how far on the position is that a party hands over with position k, where a slot's next position is `size` further: the sender hands over position k
-- itself, and the receiver the slot's next one
abbrev pub handed_on : (size : ℕ) → Party → ℕ
handed_on size the_sender = 0
handed_on size the_receiver = size

-- ---- runs: `next` is what an entry makes of the counts, and `May` which entries are allowed at which counts

abbrev pub counts_from : (next : QueueCounts → Entry → QueueCounts) → QueueCounts → List Entry → QueueCounts
counts_from next c [] = c
counts_from next c (e ∷ es) = counts_from next (next c e) es

abbrev pub KeepsEach : (next : QueueCounts → Entry → QueueCounts) (May : QueueCounts → Entry → Type 0) → QueueCounts → List Entry → Type 0
KeepsEach next May c [] = Unit {0}
KeepsEach next May c (e ∷ es) = May c e × KeepsEach next May (next c e) es

-- ---- a number after these writes, each of which moves it on

abbrev pub moved_through : (moved : ℕ → Write → ℕ) → (n : ℕ) → List Write → ℕ
moved_through moved n [] = n
moved_through moved n (w ∷ ws) = moved_through moved (moved n w) ws
