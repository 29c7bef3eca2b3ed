-- Certified sets as one value: their queues, what is said of records, and what is known of the protocols beside.
use Rattle.std.proofs.Common.{ℕ, ◌<◌, List}
use Rattle.hart.specs.State.{HartState}
use Rattle.step_machine.specs.declared.events.Entry.{Entry}
use Rattle.step_machine.specs.Names.{OpeningValue, history_of, Legal}
use Rattle.queue_parties.specs.Parties.{Party}
use Rattle.certified_runs.specs.Views.{view_of}
use Rattle.certified_runs.specs.TwoParties.{hart_in, KeepsProtocol, counts_in}
use Rattle.certified_runs.proofs.TwoParties.{IsOfParties}
use Rattle.slot_queue.specs.Queues.{Queue}
use Rattle.queue_certificates.specs.OwnedRuns.{View, AllCounts, Beside, IsCertifiedOfQueues, OpenQueues}

-- each protocol beside is one of two parties, and what a party takes for granted is so in a legal run that keeps it
pub record IsBeside (B : ℕ) (o : OpeningValue) (b : Beside) : Type 0 where
  pub of_parties : (i : ℕ) → i < b.number → IsOfParties (b.queues i)
  pub knows : (i : ℕ) → i < b.number → (done : List Entry) → Legal B (history_of o done) → KeepsProtocol (b.queues i) (b.starts i) done → (p : Party)
      → (b.queues i).Knows p (counts_in (b.queues i) (b.starts i) done) (view_of o done (hart_in (b.queues i) p))

-- sets of states that are certified, `number` queues that open rightly, and those beside
pub record CertifiedSets (B M : ℕ) (o : OpeningValue) : Type 1 where
  pub number : ℕ
  pub queues : ℕ → Queue
  pub starts : ℕ → ℕ
  pub Told : ℕ → Type 0
  pub Sent : (i k : ℕ) → View → Type 0
  pub beside : Beside
  pub Own : ℕ → ℕ → Type 0
  pub Among : ℕ → HartState → View → AllCounts → AllCounts → Type 0
  pub begins : OpenQueues M o number queues Told Sent starts
  pub is_beside : IsBeside B o beside
  pub certified : IsCertifiedOfQueues M o number queues Told Sent beside starts Own Among
