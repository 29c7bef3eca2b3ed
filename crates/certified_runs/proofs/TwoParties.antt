-- Protocols of queues between two harts: another hart's entries leave what a hart knows, and every run of a certificate keeps them.
use Rattle.std.proofs.Common.{ℕ, ◌<◌, ◌≡◌, ◌≢◌, ◌⊎◌, inl, inr, Bool, true, false, List, [], ◌∷◌, ◌++◌, Option, Some, None, refl, sym, ◌∙◌, ap, subst}
use Rattle.std.proofs.lemmas.Bool.{cases_eq}
use Rattle.hart.specs.State.{HartState}
use Rattle.step_machine.specs.declared.events.Entry.{Entry}
use Rattle.step_machine.specs.Names.{OpeningValue, history_of, Access, land, access_of, hart_of, is_land, is_own, state_of, Legal, WellFormed}
use Rattle.step_machine.proofs.OwnRuns.{kept-front}
use Rattle.store_buffers.proofs.OwnEntries.{land_is, own_is}
use Rattle.queue_parties.specs.Parties.{Party, other, QueueCounts, count, known, KeepsEach, counts_from}
use Rattle.queue_parties.proofs.Parties.{Whose, mine, theirs, whose, two, counts-append}
use Rattle.certified_runs.specs.Views.{View, view_of}
use Rattle.certified_runs.specs.Certified.{Acts, IsCertified}
use Rattle.certified_runs.specs.TwoParties.{TwoPartyProtocol, party_in, hart_in, IsSameFor, AllCounts, all_of, next_by, counts_in, KeepsProtocol, EachIs}
use Rattle.certified_runs.proofs.Every.{IsCounted, Holds, holds, holds_first, each_from, is_next}

-- what an access of one party leaves, and what a third hart's and a landing
pub record IsOfParties (q : TwoPartyProtocol) : Type 0 where
  pub parties : q.sender ≢ q.receiver
  pub counts : (r : Party) (y : Access) (c : QueueCounts) → count (other r) (q.next (Some r) y c) ≡ count (other r) c
  pub knows : (r : Party) (y : Access) (c : QueueCounts) → known (other r) (q.next (Some r) y c) ≡ known (other r) c
  pub nobodys : (y : Access) (c : QueueCounts) → q.next None y c ≡ c
  pub landed : (t : Option Party) (c : QueueCounts) → q.next t land c ≡ c
  pub lands : (t : Option Party) (c : QueueCounts) → q.May t c land

pub same-for : (q : TwoPartyProtocol) (h : ℕ) (c : QueueCounts) → IsSameFor q h c c
same-for q h c = record { count = λ p is. refl; known = λ p is. refl }

module _ (q : TwoPartyProtocol) (is : IsOfParties q) (h : ℕ) (c : QueueCounts) (e : Entry) where
  -- another hart's entry leaves what a hart knows
  others-same : hart_of e ≢ h → IsSameFor q h c (next_by q c e)
  others-same far = by (whose q.sender q.receiver (hart_of e))
    where
      by : Whose q.sender q.receiver (hart_of e) → IsSameFor q h c (next_by q c e)
      by (theirs apart party) = subst (IsSameFor q h c) (sym (ap (λ t. q.next t (access_of e) c) party ∙ is.nobodys (access_of e) c)) (same-for q h c)
      by (mine r at party) = subst (IsSameFor q h c) (sym (ap (λ t. q.next t (access_of e) c) party)) (record {
        count = λ p here. subst (λ t. count t (q.next (Some r) (access_of e) c) ≡ count t c) (sym (far_from p here)) (is.counts r (access_of e) c);
        known = λ p here. subst (λ t. known t (q.next (Some r) (access_of e) c) ≡ known t c) (sym (far_from p here)) (is.knows r (access_of e) c);
      })
        where
          far_from : (p : Party) → h ≡ hart_in q p → p ≡ other r
          far_from p here = elim (two r p) [
            | inl same ↦ absurd (far (at ∙ sym (ap (hart_in q) same) ∙ sym here))
            | inr same ↦ same
          ]

  -- and so does a landing
  landing-same : is_land e ≡ true → IsSameFor q h c (next_by q c e)
  landing-same landed = subst (IsSameFor q h c) (sym (ap (λ y. q.next (party_in q (hart_of e)) y c) (land_is (access_of e) landed)
      ∙ is.landed (party_in q (hart_of e)) c)) (same-for q h c)

  pub left-same : is_own h e ≡ false → IsSameFor q h c (next_by q c e)
  left-same off = at (cases_eq (hart_of e) h) (is_land e) refl
    where
      at : (hart_of e ≡ h) ⊎ (hart_of e ≢ h) → (l : Bool) → is_land e ≡ l → IsSameFor q h c (next_by q c e)
      at same true landed = landing-same landed
      at (inl same) false act = absurd (let no : false ≡ true = sym off ∙ own_is h e same act in cc)
      at (inr far) false act = others-same far

-- the keeping is that before and of the last entry
pub keeps-last : (next : QueueCounts → Entry → QueueCounts) (May : QueueCounts → Entry → Type 0) (c : QueueCounts) (es : List Entry) (e : Entry)
    → KeepsEach next May c es → May (counts_from next c es) e → KeepsEach next May c (es ++ e ∷ [])
keeps-last next May c [] e keeps last = (last, tt)
keeps-last next May c (d ∷ es) e keeps last = (keeps.0, keeps-last next May (next c d) es e keeps.1 last)

module _ (B M : ℕ) (o : OpeningValue) (N : ℕ) (queues : ℕ → TwoPartyProtocol) (starts : AllCounts)
    (is : (i : ℕ) → i < N → IsOfParties (queues i))
    (knows : (i : ℕ) → i < N → (done : List Entry) → Legal B (history_of o done) → KeepsProtocol (queues i) (starts i) done → (p : Party)
    → (queues i).Knows p (counts_in (queues i) (starts i) done) (view_of o done (hart_in (queues i) p)))
    (P : ℕ → HartState → View → AllCounts → Type 0) where
  -- the counts of each queue
  abbrev pub Counted : List Entry → AllCounts
  Counted done = λ i. counts_in (queues i) (starts i) done

  pub record Kept (done : List Entry) : Type 0 where
    pub legal : Legal B (history_of o done)
    pub keeps : (i : ℕ) → i < N → KeepsProtocol (queues i) (starts i) done

  counts_last : (i : ℕ) (done : List Entry) (e : Entry) → next_by (queues i) (Counted done i) e ≡ Counted (done ++ e ∷ []) i
  counts_last i done e = sym (counts-append (next_by (queues i)) (starts i) done (e ∷ []))

  pub is_counted : IsCounted B M o AllCounts (all_of N queues) starts P Counted Kept
  is_counted = record {
    opens = λ h i less. same-for (queues i) h (starts i);
    left = λ h done e off run k may i less. subst (IsSameFor (queues i) h (Counted done i)) (counts_last i done e)
        (left-same (queues i) (is i less) h (Counted done i) e off);
    owned = λ h x done e off run k may owns. absurd owns;
    acted = λ h done e here i less. subst (IsSameFor (queues i) h ((queues i).next (party_in (queues i) h) (access_of e) (Counted done i)))
        (ap (λ g. (queues i).next (party_in (queues i) g) (access_of e) (Counted done i)) (sym here) ∙ counts_last i done e)
        (same-for (queues i) h ((queues i).next (party_in (queues i) h) (access_of e) (Counted done i)));
    lands = λ h cs i less. (is i less).lands (party_in (queues i) h) (cs i);
    first = record { legal = tt; keeps = λ i less. tt };
    knows = λ h done k i less p same. subst (λ g. (queues i).Knows p (Counted done i) (view_of o done g)) (sym same)
        (knows i less done k.legal (k.keeps i less) p);
    goes_on = λ done e run k may stands. record {
      legal = run.legal;
      keeps = λ i less. keeps-last (next_by (queues i)) _ (starts i) done e (k.keeps i less) (may i less);
    };
  }

  module _ (Own : ℕ → ℕ → Type 0) (c : IsCertified M o (all_of N queues) starts Own P) where
    all_hold : (es : List Entry) → WellFormed B M (history_of o es) → Holds B M o AllCounts (all_of N queues) starts P Counted Own c Kept is_counted es
    all_hold = holds B M o AllCounts (all_of N queues) starts P Counted Own c Kept is_counted

    -- EVERY run, of any length, keeps the protocol of each queue
    pub every_run : (es : List Entry) → WellFormed B M (history_of o es) → (i : ℕ) → i < N → KeepsProtocol (queues i) (starts i) es
    every_run es run = (all_hold es run).kept.keeps

    -- and each hart is in its set
    pub every_state : (es : List Entry) → WellFormed B M (history_of o es) → (h : ℕ) (s : HartState) → state_of M (history_of o es) h ≡ Some s
        → P h s (view_of o es h) (Counted es)
    every_state es run = (all_hold es run).within

    -- what the sets say of a hart's accesses, by the counts of one queue, is so of each in every run
    module _ (i h : ℕ) (Is : QueueCounts → Access → Type 0) (lands : (d : QueueCounts) → Is d land)
        (each : (s : HartState) (m : View) (cs : AllCounts) (e : Entry) → P h s m cs → Acts M o h s m e
        → (all_of N queues).Knows h cs m → Is (cs i) (access_of e)) where
      pub each_is : (es : List Entry) → WellFormed B M (history_of o es) → EachIs (queues i) h Is (starts i) es
      each_is es run = each_from B M o AllCounts (all_of N queues) starts P Counted Own c Kept is_counted
          (λ done rest. EachIs (queues i) h Is (Counted done i) rest) (λ done. tt)
          (λ done e rest front w more. (
            is_next B M o AllCounts (all_of N queues) starts P Counted Own c Kept is_counted h (λ cs. Is (cs i)) (λ cs. lands (cs i)) each done e front w,
            subst (λ d. EachIs (queues i) h Is d rest) (sym (counts_last i done e)) more,
          )) [] es run (holds_first B M o AllCounts (all_of N queues) starts P Counted Own c Kept is_counted)

      -- the next access of that hart
      pub next_is : (es : List Entry) (e : Entry) → WellFormed B M (history_of o (es ++ e ∷ [])) → hart_of e ≡ h → Is (Counted es i) (access_of e)
      next_is es e run = is_next B M o AllCounts (all_of N queues) starts P Counted Own c Kept is_counted h (λ cs. Is (cs i)) (λ cs. lands (cs i)) each es e
          run (all_hold es (kept-front B M o es (e ∷ []) run))
