-- What ranks mean in every run of a text, where the certificate is accepted.
use Rattle.std.specs.Prelude.{ℕ, ◌≡◌, ◌+◌, ◌*◌, ◌<◌, ◌≤◌, Bool, true, List, length}
use Rattle.step_machine.specs.declared.events.Entry.{Entry}
use Rattle.step_machine.specs.History.{OpeningValue, history_of}
use Rattle.step_machine.specs.Legal.{WellFormed}
use Rattle.queue_parties.specs.Parties.{Party, the_sender, the_receiver}
use Rattle.slot_queue.specs.Ownership.{hart}
use Rattle.queue_certificates.specs.Certificates.{QueueCertificate, queue_at, accepts}
use Rattle.queue_progress.specs.Harts.{sides, IsHartStuck}
use Rattle.queue_progress.specs.Progress.{keeps_going, hart_keeps_going, told_within}
use Rattle.queue_progress.specs.Rows.{Arrives, GoesWithin, HaveLanded, IsStuckAt, MovesAfter, KeepsRunning, counts_at, moved_at}
use Rattle.queue_progress.specs.Told.{IsToldStuck, TagsHaveLanded, slots_at, teller_at, told_moved_at}
use Rattle.queue_progress.specs.declared.pace.Pace.{Pace}

-- ---- of queues with indices

abbrev pub PartiesGo : Type 0
PartiesGo = (o : OpeningValue) (c : QueueCertificate) → accepts o c ≡ true → (i : ℕ) (p : Party) → i < length c.queues → (g : Pace)
    → keeps_going o c (hart (queue_at c i) p) i g ≡ true → GoesWithin o (hart (queue_at c i) p) (IsStuckAt c i p g.owned) (g.pace + g.sight + 2)

-- both parties do, and while they wait own fewer positions together than the queue has
pub record BothGo (o : OpeningValue) (c : QueueCertificate) (i : ℕ) (s r : Pace) : Type 0 where
  pub inside : i < length c.queues
  pub few : s.owned + r.owned < (queue_at c i).capacity
  pub sends : keeps_going o c (queue_at c i).sender i s ≡ true
  pub receives : keeps_going o c (queue_at c i).receiver i r ≡ true

abbrev pub QueuesMove : Type 0
QueuesMove = (o : OpeningValue) (c : QueueCertificate) → accepts o c ≡ true → (i : ℕ) (s r : Pace) → BothGo o c i s r
    → MovesAfter o (λ es. HaveLanded (queue_at c i) o es (counts_at c i es)) (moved_at c i) (queue_at c i).sender (queue_at c i).receiver
    (s.pace + s.sight + 2) (r.pace + r.sight + 2)

abbrev pub QueuesArrive : Type 0
QueuesArrive = (B M : ℕ) (o : OpeningValue) (c : QueueCertificate) → accepts o c ≡ true → (i : ℕ) (s r : Pace) → BothGo o c i s r → 1 ≤ B
    → (always : Bool) → KeepsRunning always B M o (queue_at c i).sender → KeepsRunning always B M o (queue_at c i).receiver → (es : List Entry)
    → WellFormed B M (history_of o es) → Arrives always B M o (queue_at c i).sender (queue_at c i).receiver (moved_at c i) es

abbrev pub HartsGo : Type 0
HartsGo = (o : OpeningValue) (c : QueueCertificate) → accepts o c ≡ true → (h : ℕ) (g : Pace) → hart_keeps_going o c h g ≡ true
    → GoesWithin o h (IsHartStuck c h g.owned) (g.pace + sides c h (length c.queues) * (g.sight + 1) + 1)

-- ---- of queues with tags

abbrev pub TellersGo : Type 0
TellersGo = (o : OpeningValue) (c : QueueCertificate) → accepts o c ≡ true → (t : ℕ) (p : Party) → t < length c.tagged → (N : ℕ)
    → told_within o c (teller_at c t p) t N ≡ true → GoesWithin o (teller_at c t p) (IsToldStuck c t p) (N + 1)

pub record BothTell (o : OpeningValue) (c : QueueCertificate) (t s r : ℕ) : Type 0 where
  pub inside : t < length c.tagged
  pub sends : told_within o c (teller_at c t the_sender) t s ≡ true
  pub receives : told_within o c (teller_at c t the_receiver) t r ≡ true

abbrev pub TellersMove : Type 0
TellersMove = (o : OpeningValue) (c : QueueCertificate) → accepts o c ≡ true → (t s r : ℕ) → BothTell o c t s r
    → MovesAfter o (TagsHaveLanded (slots_at c t)) (told_moved_at c t) (teller_at c t the_sender) (teller_at c t the_receiver) (s + 1) (r + 1)

abbrev pub TellersArrive : Type 0
TellersArrive = (B M : ℕ) (o : OpeningValue) (c : QueueCertificate) → accepts o c ≡ true → (t s r : ℕ) → BothTell o c t s r → 1 ≤ B
    → (always : Bool) → KeepsRunning always B M o (teller_at c t the_sender) → KeepsRunning always B M o (teller_at c t the_receiver) → (es : List Entry)
    → WellFormed B M (history_of o es) → Arrives always B M o (teller_at c t the_sender) (teller_at c t the_receiver) (told_moved_at c t) es
