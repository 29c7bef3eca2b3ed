-- The theorems of a certificate that is accepted.
use Rattle.std.proofs.Common.{ℕ, ◌+◌, ◌<◌, ◌≤◌, ◌≡◌, ◌*◌, ◌⊎◌, inl, inr, List, [], ◌∷◌, ◌++◌, Some, true, length, arith}
use Rattle.std.proofs.lemmas.Bool.{cases_lt}
use Rattle.std.proofs.lemmas.List.Elements.{All-from_get_or}
use Rattle.hart.specs.State.{HartState}
use Rattle.step_machine.specs.declared.events.Entry.{Entry}
use Rattle.step_machine.specs.Names.{OpeningValue, history_of, Access, load, exchange, land, access_of, hart_of, read_byte, read}
use Rattle.step_machine.specs.Names.{state_of, Legal, WellFormed}
use Rattle.step_machine.proofs.OwnRuns.{kept-front}
use Rattle.queue_parties.specs.{IsInBytes, Party, the_receiver, QueueCounts, all_at}
use Rattle.certified_runs.specs.TwoParties.{EachIs}
use Rattle.slot_queue.specs.{hart, counts_after, FollowsOwnership}
use Rattle.slots_that_tell.specs.Slots.{Slots, tag_of, IsSlotByte}
use Rattle.slots_that_tell.specs.{teller_hart, OwnsRest, KeepsTelling, told_counts, FollowsTelling}
use Rattle.queue_certificates.specs.{telling, IsOfTag, LoadsRestOwned, HasArrived, LoadsByte, ReadsOwned, IsDelivered, MeetsField, QueueCertificate, queue_at}
use Rattle.queue_certificates.specs.{start_at, fields_at, tagged_at, tagged_start, IsInState, HasFields, MeetsFields, IsOwnByte, IsAtState, told_beside}
use Rattle.queue_certificates.specs.{accepts, accepts_loads, accepts_rest, no_field}
use Rattle.queue_certificates.proofs.ToldProtocol.{is_of_parties, sees_tags}
use Rattle.queue_certificates.proofs.Arrived.{has_arrived, told_arrives, still_read}
use Rattle.queue_certificates.proofs.Sets.{CertifiedSets}
use Rattle.queue_certificates.proofs.Every.{every_run, reads_owned, loads_delivered, every_state, every_record, every_beside, beside_is, next_beside_is}
use Rattle.queue_layouts.specs.Tagged.{slots_of, tells_by}
use Rattle.queue_certificates.proofs.Accepted.{accepted-opens, accepted-tagged}
use Rattle.queue_certificates.proofs.Certified.{accepted-certifies, accepted-loads, accepted-rest}

-- what a receiver loads of slots that it owns has arrived
module _ (B : ℕ) (q : Slots) (start : QueueCounts) (o : OpeningValue) (es : List Entry) (f : FollowsTelling B q start o [] es) (x : ℕ) where
  owned-arrives : IsOfTag q x ⊎ OwnsRest q the_receiver (told_counts q start es) x → IsOfTag q x ⊎ HasArrived q start o es x
  owned-arrives (inl tag) = inl tag
  owned-arrives (inr owns) = inr (has_arrived B q start o es f owns.position x owns.byte owns.from
      (let below : owns.position < (told_counts q start es).known_published + 0 = owns.before in omega (arith, below)))

  load-arrives : (y : Access) → LoadsRestOwned q the_receiver (told_counts q start es) y → LoadsByte y x → IsInBytes q.slots (q.size * q.width) x
      → IsOfTag q x ⊎ HasArrived q start o es x
  load-arrives (load a width v) owned within slots = owned-arrives (owned x within slots)
  load-arrives (exchange a old new) owned within slots = owned-arrives (owned x within slots)
  load-arrives other owned within slots = absurd within

module _ (B M : ℕ) (o : OpeningValue) (c : QueueCertificate) (ok : accepts o c ≡ true) where
  abbrev slots : ℕ → Slots
  slots t = slots_of (tagged_at c t)

  abbrev opens : ℕ → QueueCounts
  opens t = all_at (tagged_start c t)

  pub follows : (t : ℕ) → t < length c.tagged → (es : List Entry) → Legal B (history_of o es) → KeepsTelling (slots_of (tagged_at c t)) (opens t) es
      → FollowsTelling B (slots t) (opens t) o [] es
  follows t less es legal keeps = record {
    slots = (accepted-tagged M o c ok t less).0;
    legal = legal;
    rest = (accepted-tagged M o c ok t less).1;
    keeps = keeps;
  }

  -- what the certificate gives of a run, by proofs/Every.antt
  abbrev pub sets : CertifiedSets B M o
  sets = record {
    number = length c.queues;
    queues = queue_at c;
    starts = start_at c;
    Told = HasFields c;
    Sent = MeetsFields c;
    beside = told_beside c;
    Own = IsOwnByte c;
    Among = IsAtState c;
    begins = accepted-opens M o c ok;
    is_beside = record {
      of_parties = λ t less. is_of_parties (slots t) (accepted-tagged M o c ok t less).0;
      knows = λ t less done legal keeps p. sees_tags B (slots t) (opens t) o done (follows t less done legal keeps) p;
    };
    certified = accepted-certifies M o c ok;
  }

  pub accepted_runs : (es : List Entry) → WellFormed B M (history_of o es) → (i : ℕ) → i < length c.queues
      → FollowsOwnership B (queue_at c i) (all_at (start_at c i)) o [] es
  accepted_runs = every_run sets

  pub accepted_loads : (i : ℕ) (p : Party) → i < length c.queues
      → accepts_loads o c i (hart (queue_at c i) p) ≡ true → (es : List Entry) → WellFormed B M (history_of o es)
      → ReadsOwned (queue_at c i) p (all_at (start_at c i)) es
  accepted_loads i p less owned = reads_owned sets i p (accepted-loads M o c ok i less p owned)

  pub accepted_deliveries : (i : ℕ) → i < length c.queues → accepts_loads o c i (queue_at c i).receiver ≡ true → (es : List Entry) (e : Entry)
      → WellFormed B M (history_of o (es ++ e ∷ [])) → hart_of e ≡ (queue_at c i).receiver → (x : ℕ) → LoadsByte (access_of e) x
      → IsInBytes (queue_at c i).slots ((queue_at c i).size * (queue_at c i).width) x → IsDelivered (queue_at c i) (start_at c i) o es x
  accepted_deliveries i less owned = loads_delivered sets i less (accepted-loads M o c ok i less the_receiver owned)

  -- a hart that runs is in one of its states, and what that says of fields and of queues with tags is so
  pub accepted_fields : (es : List Entry) → WellFormed B M (history_of o es) → (h : ℕ) (s : HartState) → state_of M (history_of o es) h ≡ Some s
      → IsAtState c h s (λ x. read_byte o es h x) (λ i. counts_after (queue_at c i) (all_at (start_at c i)) es) (λ t. told_counts (slots t) (opens t) es)
  accepted_fields = every_state sets

  pub accepted_states : (es : List Entry) → WellFormed B M (history_of o es) → (h : ℕ) (s : HartState) → state_of M (history_of o es) h ≡ Some s
      → IsInState c h s (λ x. read_byte o es h x) (λ i. counts_after (queue_at c i) (all_at (start_at c i)) es)
  accepted_states es run h s at runs = (let w = accepted_fields es run h s at runs in (w.0, w.1, (w.2.0, w.2.1)))

  pub accepted_records : (i : ℕ) → i < length c.queues → (es : List Entry) → WellFormed B M (history_of o es) → (k : ℕ)
      → (counts_after (queue_at c i) (all_at (start_at c i)) es).taken ≤ k
      → k < (counts_after (queue_at c i) (all_at (start_at c i)) es).known_published
      → MeetsFields c i k (λ x. read_byte o es (queue_at c i).receiver x)
  accepted_records i less es run k from below = elim (cases_lt 0 (length (fields_at c i))) [
    | inl told ↦ every_record sets es run i less told k from below
    | inr none ↦ All-from_get_or (MeetsField (queue_at c i) k (λ x. read_byte o es (queue_at c i).receiver x)) (fields_at c i) no_field
        (λ j listed. absurd (omega (arith, none, listed)))
  ]

  -- ---- queues with tags

  pub accepted_telling : (es : List Entry) → WellFormed B M (history_of o es) → (t : ℕ) → t < length c.tagged
      → FollowsTelling B (slots_of (tagged_at c t)) (all_at (tagged_start c t)) o [] es
  accepted_telling es run t less = follows t less es run.legal (every_beside sets es run t less)

  module _ (t : ℕ) (p : Party) (less : t < length c.tagged) (rested : accepts_rest o c t (teller_hart (slots_of (tagged_at c t)) p) ≡ true) where
    landed : (d : QueueCounts) → LoadsRestOwned (slots t) p d land
    landed d = tt

    pub accepted_rest : (es : List Entry) → WellFormed B M (history_of o es)
        → EachIs (telling (slots_of (tagged_at c t))) (teller_hart (slots_of (tagged_at c t)) p) (LoadsRestOwned (slots_of (tagged_at c t)) p)
        (all_at (tagged_start c t)) es
    accepted_rest = beside_is sets t (teller_hart (slots t) p) (LoadsRestOwned (slots t) p) landed (accepted-rest M o c ok t less p rested)

    next_rest : (es : List Entry) (e : Entry) → WellFormed B M (history_of o (es ++ e ∷ [])) → hart_of e ≡ teller_hart (slots t) p
        → LoadsRestOwned (slots t) p (told_counts (slots t) (opens t) es) (access_of e)
    next_rest = next_beside_is sets t (teller_hart (slots t) p) (LoadsRestOwned (slots t) p) landed (accepted-rest M o c ok t less p rested)

  pub accepted_arrivals : (t : ℕ) → t < length c.tagged → accepts_rest o c t (tagged_at c t).receiver ≡ true → (es : List Entry) (e : Entry)
      → WellFormed B M (history_of o (es ++ e ∷ [])) → hart_of e ≡ (tagged_at c t).receiver → (x : ℕ) → LoadsByte (access_of e) x
      → IsInBytes (tagged_at c t).slots ((tagged_at c t).size * (tagged_at c t).width) x
      → IsOfTag (slots_of (tagged_at c t)) x ⊎ HasArrived (slots_of (tagged_at c t)) (all_at (tagged_start c t)) o es x
  accepted_arrivals t less rested es e run here x loads within = load-arrives B (slots t) (opens t) o es
      (accepted_telling es (kept-front B M o es (e ∷ []) run) t less) x (access_of e) (next_rest t the_receiver less rested es e run here) loads within

  pub accepted_tellings : (t : ℕ) → t < length c.tagged → (es : List Entry) (e : Entry) → WellFormed B M (history_of o (es ++ e ∷ []))
      → hart_of e ≡ (tagged_at c t).receiver → (k v : ℕ) → access_of e ≡ load (tag_of (slots_of (tagged_at c t)) k) (tagged_at c t).tag_width v
      → (told_counts (slots_of (tagged_at c t)) (all_at (tagged_start c t)) es).taken ≤ k
      → k < (told_counts (slots_of (tagged_at c t)) (all_at (tagged_start c t)) es).taken + (tagged_at c t).size
      → tells_by (tagged_at c t).size (tagged_at c t).codec the_receiver k v ≡ true
      → (v ≡ read o (es ++ e ∷ []) (tagged_at c t).receiver (tag_of (slots_of (tagged_at c t)) k) (tagged_at c t).tag_width)
      × ((x : ℕ) → IsSlotByte (slots_of (tagged_at c t)) k x → HasArrived (slots_of (tagged_at c t)) (all_at (tagged_start c t)) o (es ++ e ∷ []) x)
  accepted_tellings t less es e run here k v does from near tells = let f = accepted_telling (es ++ e ∷ []) run t less in (
    still_read B (slots t) (opens t) o es e f here k v does from near tells,
    told_arrives B (slots t) (opens t) o es e f here k v does from near tells,
  )
