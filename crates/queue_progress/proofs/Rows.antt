-- An entry that a hart makes from a leaf of one of its states, and where it goes on.
use Rattle.std.proofs.Common.{ℕ, ◌≤◌, ◌≡◌, true, Some, List, [], ◌∷◌}
use Rattle.std.proofs.Common.{length}
use Rattle.hart.specs.{HartState, advanced}
use Rattle.hart.specs.declared.status.Status.TheVariants as status
use Rattle.step_machine.specs.declared.events.Entry.{Entry}
use Rattle.step_machine.specs.Names.{OpeningValue, access_of, read_byte, number_read}
use Rattle.slot_queue.specs.Ownership.{party_of, after_access}
use Rattle.queue_certificates.specs.{View, AllCounts, view_then, ActsByCounts, kept_beside, Form, KnownState, MeansAt}
use Rattle.queue_certificates.specs.{QueueCertificate, queue_at, own_of, told_beside, HasFields, MeetsFields}
use Rattle.queue_certificates.specs.{SharesTold, next_states, accepts}
use Rattle.queue_certificates.proofs.Every as every
use Rattle.queue_certificates.proofs.{IsAmongAll, sets}
use Rattle.queue_progress.specs.{counts_at, code_of}

module _ (B M : ℕ) (o : OpeningValue) (c : QueueCertificate) (ok : accepts o c ≡ true) (h : ℕ) where
  abbrev pub Sees : List Entry → View
  Sees done = λ x. read_byte o done h x

  abbrev pub Counted : List Entry → AllCounts
  Counted done = λ j. counts_at c j done

  abbrev pub Told : List Entry → AllCounts
  Told done = every.CountedBeside (sets B M o c ok) done

  -- the counts after the hart's access
  abbrev pub Then : List Entry → Entry → AllCounts
  Then done e = λ j. after_access (queue_at c j) (party_of (queue_at c j) h) (access_of e) (Counted done j)

  abbrev pub ThenTold : List Entry → Entry → AllCounts
  ThenTold done e = (kept_beside (told_beside c)).next h (access_of e) (Told done)

  -- the hart, after these entries, makes an entry at a leaf, and goes on in one of the states that may follow
  pub record Executes (xs : List ℕ) (k : KnownState) (d : Form) (s : HartState) (done : List Entry) (e : Entry) : Type 0 where
    pub acts : ActsByCounts M o (length c.queues) (queue_at c) (HasFields c) (MeetsFields c) h s (Sees done) (Counted done) e
    pub wide : 32 ≤ length s.registers
    pub code : code_of o h ≡ s.code
    pub means : MeansAt (queue_at c) (length c.queues) (own_of c h) h xs k s (Sees done) (Counted done)
    pub told : SharesTold c h xs k (Told done)
    pub knows : (kept_beside (told_beside c)).Knows h (Told done) (Sees done)
    pub following : List KnownState
    pub follow : next_states c h (code_of o h) k d ≡ Some following
    pub runs : (advanced s (number_read e)).status ≡ status.Running
    pub among : IsAmongAll c h xs following (advanced s (number_read e)) (view_then (access_of e) (Sees done)) (Then done e) (ThenTold done e)

  -- and there is a first of these, in which it is
  pub record GoesFirst (xs : List ℕ) (following : List KnownState) (s : HartState) (done : List Entry) (e : Entry) : Type 0 where
    pub first : KnownState
    pub others : List KnownState
    pub are : following ≡ first ∷ others
    pub among : IsAmongAll c h xs (first ∷ []) (advanced s (number_read e)) (view_then (access_of e) (Sees done)) (Then done e) (ThenTold done e)
