-- Each byte of a slot that the receiver owns waited or was sent, and a load that tells the receiver of a position makes it own that.
use Rattle.std.proofs.Common.{ℕ, ◌+◌, ◌<◌, ◌≤◌, ◌≡◌, ◌⊎◌, inl, inr, Bool, true, false, if◌then◌else◌, List, [], ◌∷◌, ◌++◌, Some, refl, sym, ◌∙◌, ap, subst}
use Rattle.std.proofs.Common.{arith}
use Rattle.std.proofs.lemmas.Bool.{cases_lt}
use Rattle.step_machine.specs.declared.events.Entry.{Entry}
use Rattle.step_machine.specs.Names.{OpeningValue, load, land, access_of, hart_of, is_land, pending, read_byte, read, AllowedBy}
use Rattle.step_machine.proofs.Appended.{LegalAfter-back}
use Rattle.memory.proofs.Bytes.{joined-same}
use Rattle.store_buffers.proofs.OwnEntries.{land_is}
use Rattle.queue_parties.specs.Parties.{the_sender, the_receiver, count, QueueCounts, IsWindow}
use Rattle.queue_parties.proofs.Parties.{Passed, Whose, mine, theirs, whose, counts-append}
use Rattle.queue_parties.proofs.Records.{passed}
use Rattle.certified_runs.specs.Views.{byte_then}
use Rattle.certified_runs.proofs.EveryRun.{own_act}
use Rattle.slots_that_tell.specs.Slots.{Slots, tag_of, IsSlotByte}
use Rattle.slots_that_tell.specs.{teller_of, owned_end, told_access, after_entry, told_counts, FollowsTelling}
use Rattle.slots_that_tell.proofs.HandingOver.{handed, waited}
use Rattle.slots_that_tell.proofs.Owned.{grows-entry}
use Rattle.slots_that_tell.proofs.Runs.{window}
use Rattle.queue_certificates.specs.Arrived.{HasWaited, WasSent, HasArrived}
use Rattle.queue_certificates.proofs.ToldAccesses.{knows_of, tag_loaded, told_owns}

module _ (B : ℕ) (q : Slots) (start : QueueCounts) (o : OpeningValue) (es : List Entry) (f : FollowsTelling B q start o [] es) (k x : ℕ)
    (of_k : IsSlotByte q k x) (given : (told_counts q start es).taken ≤ k) (has : k < (told_counts q start es).known_published) where
  was_sent : start.published ≤ k → WasSent q start o es k x
  was_sent new = record {
    before = at.done;
    tag = at.entry;
    since = at.rest;
    is = at.is;
    from = at.from;
    past = at.past;
    reads = λ leaves. subst (λ xs. read_byte o xs q.receiver x ≡ read_byte o (at.done ++ at.entry ∷ []) q.sender x) (sym at.is)
        (handed B q start o [] at.done at.entry at.rest (subst (FollowsTelling B q start o []) at.is f) the_sender k at.from at.past x of_k
        (let from : (told_counts q start (at.done ++ at.entry ∷ at.rest)).taken ≤ k = subst (λ xs. (told_counts q start xs).taken ≤ k) at.is given in
        omega (arith, from))
        (let below : k < (told_counts q start (at.done ++ at.entry ∷ at.rest)).known_published =
        subst (λ xs. k < (told_counts q start xs).known_published) at.is has in
        omega (arith, below)) leaves);
  }
    where
      at : Passed (after_entry q) (count the_sender) start es k
      at = passed (after_entry q) (count the_sender) (λ front e j. 0) (λ c e. (grows-entry q c e).counts the_sender) start es k new
          (let w : IsWindow q.size (told_counts q start es) = window B q start o [] es f in omega (arith, w.known_published, has))

  came : HasWaited q start o es k x ⊎ WasSent q start o es k x
  came = elim (cases_lt k start.published) [
    | inl old ↦ inl (record { waited = old; reads = λ leaves h. waited B q start o [] es f k x of_k old given leaves h q.receiver })
    | inr new ↦ inr (was_sent new)
  ]

  pub has_arrived : HasArrived q start o es x
  has_arrived = record { position = k; byte = of_k; from = given; before = has; came = came }

-- ---- a load of a whole tag that tells

module _ (B : ℕ) (q : Slots) (start : QueueCounts) (o : OpeningValue) (es : List Entry) (e : Entry) (f : FollowsTelling B q start o [] (es ++ e ∷ []))
    (here : hart_of e ≡ q.receiver) (k v : ℕ) (does : access_of e ≡ load (tag_of q k) q.tag_width v) (from : (told_counts q start es).taken ≤ k)
    (near : k < (told_counts q start es).taken + q.size) (tells : q.tells the_receiver k v ≡ true) where
  abbrev c : QueueCounts
  c = told_counts q start es

  party : teller_of q (hart_of e) ≡ Some the_receiver
  party = by (whose q.sender q.receiver (hart_of e))
    where
      by : Whose q.sender q.receiver (hart_of e) → teller_of q (hart_of e) ≡ Some the_receiver
      by (theirs far none) = absurd (far the_receiver here)
      by (mine the_receiver at found) = found
      by (mine the_sender at found) = absurd (f.slots.parties (sym at ∙ here))

  after : told_counts q start (es ++ e ∷ []) ≡ knows_of q f.slots the_receiver c k
  after = counts-append (after_entry q) start es (e ∷ [])
      ∙ ap (λ t. told_access q t (access_of e) c) party
      ∙ ap (λ y. told_access q (Some the_receiver) y c) does
      ∙ tag_loaded q f.slots the_receiver c k v from near
      ∙ ap (λ b. if b then knows_of q f.slots the_receiver c k else c) tells

  pub told_arrives : (x : ℕ) → IsSlotByte q k x → HasArrived q start o (es ++ e ∷ []) x
  told_arrives x of_k = has_arrived B q start o (es ++ e ∷ []) f k x of_k
      (let same : (told_counts q start (es ++ e ∷ [])).taken ≡ c.taken = ap (λ d. d.taken) after in omega (arith, same, from))
      (subst (λ d. k < d.known_published) (sym after)
      (let owns : k < owned_end q the_receiver (knows_of q f.slots the_receiver c k) = told_owns q f.slots the_receiver c k in omega (arith, owns)))

  pub still_read : v ≡ read o (es ++ e ∷ []) q.receiver (tag_of q k) q.tag_width
  still_read =
      let allowed : AllowedBy B (pending (hart_of e) es) (read o es (hart_of e)) (access_of e) = (LegalAfter-back B o [] es (e ∷ []) f.legal).0 in
      subst (AllowedBy B (pending (hart_of e) es) (read o es (hart_of e))) does allowed
      ∙ ap (λ h. read o es h (tag_of q k) q.tag_width) here
      ∙ joined-same (λ i. read_byte o es q.receiver (tag_of q k + i)) (λ i. read_byte o (es ++ e ∷ []) q.receiver (tag_of q k + i)) q.tag_width
      (λ i less. sym (own_act B o q.receiver (tag_of q k + i) es e f.legal here acting
      ∙ ap (λ y. byte_then y (tag_of q k + i) (read_byte o es q.receiver (tag_of q k + i))) does))
    where
      acting : is_land e ≡ false
      acting = by (is_land e) refl
        where
          by : (l : Bool) → is_land e ≡ l → l ≡ false
          by false act = refl
          by true lands = absurd (let no : land ≡ load (tag_of q k) q.tag_width v = sym (land_is (access_of e) lands) ∙ does in cc)
