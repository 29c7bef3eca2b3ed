-- In every run the receiver reads what is free in the state in which it is, and nothing that is closed: by the induction over the run's entries of
-- Runs.
use Rattle.std.proofs.Common.{ℕ, ◌+◌, ◌-◌, ◌<◌, ◌≤◌, ◌≡◌, ◌==◌, ◌&&◌, ◌⊎◌, inl, inr, if◌then◌else◌, Bool, true, false, Option, Some, None, List, []}
use Rattle.std.proofs.Common.{◌∷◌, ◌++◌, refl, sym, ◌∙◌, ap, subst, arith, not, append-nil, append_assoc}
use Rattle.std.specs.Prelude.{nat_lt, nat_le, max, option_and_then}
use Rattle.std.proofs.lemmas.Bool.{and_parts, and_from, cases_lt, eqb-true, leb-true, lt-ltb, not-true}
use Rattle.hart.specs.{advanced}
use Rattle.hart.specs.declared.status.Status.TheVariants as status
use Rattle.step_machine.specs.declared.events.Entry.{Entry}
use Rattle.step_machine.specs.Names.{OpeningValue, history_of, access_of, hart_of, is_land, is_own, number_read, WellFormed}
use Rattle.step_machine.proofs.{kept-front}
use Rattle.store_buffers.proofs.OwnEntries.{own_is, own_parts, land_is}
use Rattle.queue_parties.specs.Parties.{the_receiver, all_at}
use Rattle.queue_parties.proofs.Parties.{counts-append}
use Rattle.slot_queue.specs.Ownership.{counts_after, counts_next, end}
use Rattle.slot_queue.proofs.Owned.{grows-after}
use Rattle.slots_that_tell.specs.Telling.{after_entry, owned_end, told_counts}
use Rattle.slots_that_tell.proofs.Owned as told
use Rattle.queue_layouts.specs.Tagged.{slots_of}
use Rattle.certified_runs.specs.Views.{LoadsByte}
use Rattle.queue_certificates.specs.{QueueCertificate, queue_at, start_at, tagged_at, tagged_start, accepts, instruction_at}
use Rattle.queue_certificates.specs.declared.effect.Effect.{Effect}
use Rattle.queue_certificates.specs.declared.effect.Effect.TheVariants.{Leaves, Fills, Publishes, PublishesSome}
use Rattle.records_written.specs.{QueueNumber, Indexed, Tagged, IsListed, receiver_in, slot_in, taken_after, owned_end_after, IsRead, IsReadBy, IsFresh}
use Rattle.records_written.specs.{AreClosed, IsOnceAt, IsRecordByte, IsShownOnce, OwnsReads, PartyLeaf, closed_by, graph_of, has_offset, is_again, is_filled}
use Rattle.records_written.specs.{reads_byte}
use Rattle.records_written.specs.Parties.{counts_for, next_instruction}
use Rattle.records_written.proofs.Leading.{leaves, none-passes}
use Rattle.records_written.proofs.Runs.{StaysMarked, Stepped, stepped, acts, first, from}

-- ---- the last entry of a run

module _ (M : ℕ) (o : OpeningValue) (c : QueueCertificate) (w : QueueNumber) where
  -- what was read with one entry more was read before, or by that entry
  read-last : (done : List Entry) (e : Entry) (k x : ℕ) → IsRead M o c w (done ++ e ∷ []) k x → IsRead M o c w done k x ⊎ IsReadBy M o c w done e k x
  read-last done e k x is = by done is.before [] refl refl is.is
    where
      by : (rest before front : List Entry) → done ≡ front ++ rest → is.before ≡ front ++ before → rest ++ e ∷ [] ≡ before ++ is.reads ∷ is.since
          → IsRead M o c w done k x ⊎ IsReadBy M o c w done e k x
      by [] [] front all here same = inr (subst (λ (es : List Entry). IsReadBy M o c w es e k x) (here ∙ sym all)
          (subst (λ (f : Entry). IsReadBy M o c w is.before f k x) (let last : is.reads ≡ e = cc in last) is.by))
      by [] (f ∷ []) front all here same = absurd (cc)
      by [] (f ∷ g ∷ before) front all here same = absurd (cc)
      by (f ∷ rest) [] front all here same = inl (record {
        before = is.before;
        reads = is.reads;
        since = rest;
        is = all ∙ (let first : f ≡ is.reads = cc in let start : is.before ≡ front ++ [] = here in
            ap (λ (g : Entry). front ++ g ∷ rest) first ∙ ap (λ (fs : List Entry). fs ++ is.reads ∷ rest) (sym (append-nil front) ∙ sym start));
        by = is.by;
      })
      by (f ∷ rest) (g ∷ before) front all here same = by rest before (front ++ f ∷ [])
          (all ∙ sym (append_assoc front (f ∷ []) rest))
          (here ∙ (let first : f ≡ g = cc in ap (λ (h : Entry). front ++ h ∷ before) (sym first)) ∙ sym (append_assoc front (f ∷ []) before))
          (let more : rest ++ e ∷ [] ≡ before ++ is.reads ∷ is.since = cc in more)

  none-read : (k x : ℕ) → IsRead M o c w [] k x → ⊥
  none-read k x is = by is.before is.is
    where
      by : (before : List Entry) → [] ≡ before ++ is.reads ∷ is.since → ⊥
      by [] same = cc
      by (f ∷ before) same = cc

  -- who reads acts
  reads-acts : (done : List Entry) (e : Entry) (k x : ℕ) → IsReadBy M o c w done e k x → is_own (receiver_in c w) e ≡ true
  reads-acts done e k x by = own_is (receiver_in c w) e by.receiver (act (is_land e) refl)
    where
      act : (t : Bool) → is_land e ≡ t → t ≡ false
      act false is = refl
      act true is = absurd (subst (λ y. LoadsByte y x) (land_is (access_of e) is) by.byte)

-- what the receiver owns only grows, so nothing was read of what it doesn't own yet
none-beyond : (M : ℕ) (o : OpeningValue) (c : QueueCertificate) (w : QueueNumber) (es : List Entry) (k x : ℕ) → owned_end_after c w es ≤ k
    → IsRead M o c w es k x → ⊥
none-beyond M o c w es k x beyond is =
    let owned : k < owned_end_after c w is.before = is.by.owned in omega (arith, grown w, beyond, owned)
  where
    grown : (w : QueueNumber) → owned_end_after c w is.before ≤ owned_end_after c w es
    grown (Indexed i) =
        let q = queue_at c i in let start = all_at (start_at c i) in
        let more = (grows-after q (counts_after q start is.before) (is.reads ∷ is.since)).knows the_receiver in
        subst (λ d. end q the_receiver (counts_after q start is.before) ≤ end q the_receiver d)
        (sym (ap (λ fs. counts_after q start fs) is.is ∙ counts-append (counts_next q) start is.before (is.reads ∷ is.since))) more
    grown (Tagged t) =
        let q = slots_of (tagged_at c t) in let start = all_at (tagged_start c t) in
        let more = (told.grows-after q (told_counts q start is.before) (is.reads ∷ is.since)).knows the_receiver in
        subst (λ d. owned_end q the_receiver (told_counts q start is.before) ≤ owned_end q the_receiver d)
        (sym (ap (λ fs. told_counts q start fs) is.is ∙ counts-append (after_entry q) start is.before (is.reads ∷ is.since))) (omega (arith, more))

-- ---- a run

module _ (B M : ℕ) (o : OpeningValue) (c : QueueCertificate) (ok : accepts o c ≡ true) (w : QueueNumber) (less : IsListed c w) (mask : ℕ → Bool)
    (shown : IsShownOnce o c w mask) (owns : OwnsReads o c w) (records : (b : ℕ) → mask b ≡ true → IsRecordByte c w b) where
  -- byte b of the position d further than the count is free in state n, by some numbers that its leaves make
  record IsOpen (n d b : ℕ) : Type 0 where
    asked : mask b ≡ true
    closed : ℕ → ℕ
    are : AreClosed (graph_of o c w the_receiver) b closed
    open_at : closed n ≤ d

  abbrev Fresh : List Entry → (k b : ℕ) → Type 0
  Fresh es k b = IsFresh M o c w mask es k b

  abbrev Stays : List Entry → Type 0
  Stays = StaysMarked B M o c ok w the_receiver less IsOpen Fresh

  -- what an entry leaves that reads nothing of these positions
  fresh-on : (done : List Entry) (e : Entry) (k b : ℕ) → Fresh done k b → (IsReadBy M o c w done e k (slot_in c w k + b) → ⊥)
      → ((j a : ℕ) → k < j → mask a ≡ true → IsReadBy M o c w done e j (slot_in c w j + a) → ⊥) → Fresh (done ++ e ∷ []) k b
  fresh-on done e k b was not later = (
    λ is. elim (read-last M o c w done e k (slot_in c w k + b) is) [ inl old ↦ was.0 old | inr new ↦ not new ],
    λ j a past asked is. elim (read-last M o c w done e j (slot_in c w j + a) is) [ inl old ↦ was.1 j a past asked old | inr new ↦ later j a past asked new ],
  )

  module _ (done : List Entry) (e : Entry) (run : WellFormed B M (history_of o (done ++ e ∷ []))) (marked : Stays done)
      (mine : hart_of e ≡ receiver_in c w) (act : is_land e ≡ false) where
    abbrev its : Stepped B M o c ok w the_receiver less IsOpen Fresh done e run marked
    its = stepped B M o c ok w the_receiver less IsOpen Fresh done e run marked mine act

    abbrev does : PartyLeaf
    does = its.leading.does

    -- it reads only what its leaf says
    only : (k a : ℕ) → mask a ≡ true → IsReadBy M o c w done e k (slot_in c w k + a) → reads_byte does.effect (k - taken_after c w done) a ≡ true
    only k a asked by =
        let at : taken_after c w done + (k - taken_after c w done) ≡ k = (let from : taken_after c w done ≤ k = by.from in omega (arith, from)) in
        its.leading.reads (refl, owns) (k - taken_after c w done) a (records a asked)
        (ap (λ s. counts_for the_receiver (option_and_then (λ z. instruction_at z.code z.pc) s)) (sym its.at)
        ∙ ap (λ h. counts_for the_receiver (next_instruction M o done h)) (sym mine) ∙ by.counts)
        (subst (λ n. n < owned_end_after c w done) (sym at) by.owned, subst (λ n. LoadsByte (access_of e) (slot_in c w n + a)) (sym at) by.byte)

    leaf-once : (b : ℕ) (at : IsOnceAt (graph_of o c w the_receiver) its.from b) → is_again does.effect b (at.closed its.from) ≡ false
    leaf-once b at = not-true (is_again does.effect b (at.closed its.from)) (its.leading.leaf (λ s. not (is_again s.effect b (at.closed its.from)))
        (none-passes (λ s. is_again s.effect b (at.closed its.from)) (leaves M o c ok w the_receiver less its.from) at.once))

    makes : (runs : (advanced its.state (number_read e)).status ≡ status.Running) → (d b : ℕ) → IsOpen (its.leading.next runs).state d b
        → Fresh (done ++ e ∷ []) (taken_after c w (done ++ e ∷ []) + d) b
    makes runs d b is = by does.effect refl
      where
        left : closed_by does.all does.effect b (is.closed its.from) ≤ d
        left = let passes : nat_le (closed_by does.all does.effect b (is.closed its.from)) (is.closed (its.leading.next runs).state) ≡ true =
            (its.leading.next runs).passes (λ s to. nat_le (closed_by s.all s.effect b (is.closed its.from)) (is.closed to)) (is.are its.from) in
            let under : is.closed (its.leading.next runs).state ≤ d = is.open_at in
            omega (arith, leb-true _ _ passes, under)

        was : (j : ℕ) → is.closed its.from ≤ j → Fresh done (taken_after c w done + j) b
        was j free = its.all_done j b (record { asked = is.asked; closed = is.closed; are = is.are; open_at = free })

        again : (f : Option Effect) → does.effect ≡ f → is_again f b ((shown its.from b is.asked).closed its.from) ≡ false
        again f effect = subst (λ g. is_again g b ((shown its.from b is.asked).closed its.from) ≡ false) effect (leaf-once b (shown its.from b is.asked))

        reads : (f : Option Effect) → does.effect ≡ f → (k a : ℕ) → mask a ≡ true → IsReadBy M o c w done e k (slot_in c w k + a)
            → reads_byte f (k - taken_after c w done) a ≡ true
        reads f effect k a asked by = subst (λ g. reads_byte g (k - taken_after c w done) a ≡ true) effect (only k a asked by)

        at-count : (n : ℕ) → n ≡ taken_after c w (done ++ e ∷ []) + d → Fresh (done ++ e ∷ []) n b
            → Fresh (done ++ e ∷ []) (taken_after c w (done ++ e ∷ []) + d) b
        at-count n same fresh = subst (λ k. Fresh (done ++ e ∷ []) k b) same fresh

        by : (f : Option Effect) → does.effect ≡ f → Fresh (done ++ e ∷ []) (taken_after c w (done ++ e ∷ []) + d) b
        by None effect = absurd (let no : true ≡ false = again None effect in cc)
        by (Some (PublishesSome m)) effect = absurd (let no : true ≡ false = again (Some (PublishesSome m)) effect in cc)
        by (Some Leaves) effect =
            let same : taken_after c w (done ++ e ∷ []) ≡ taken_after c w done =
            (acts B M o c ok w the_receiver less IsOpen Fresh done e run marked mine act Leaves effect).done runs in
            let free : is.closed its.from ≤ d = subst (λ f. closed_by does.all f b (is.closed its.from) ≤ d) effect left in
            at-count (taken_after c w done + d) (omega (arith, same)) (fresh-on done e (taken_after c w done + d) b (was d free)
            (λ new. (let no : false ≡ true = reads (Some Leaves) effect _ b is.asked new in cc))
            (λ j a past asked new. (let no : false ≡ true = reads (Some Leaves) effect j a asked new in cc)))
        by (Some (Fills j offset width)) effect =
            let same : taken_after c w (done ++ e ∷ []) ≡ taken_after c w done =
            ((acts B M o c ok w the_receiver less IsOpen Fresh done e run marked mine act (Fills j offset width) effect).done runs).0 in
            let free : max (is.closed its.from) (if has_offset b offset width then j + 1 else j) ≤ d =
            subst (λ f. closed_by does.all f b (is.closed its.from) ≤ d) effect left in
            let within : (k a : ℕ) → is_filled j offset width k a ≡ true → (j ≡ k) × (has_offset a offset width ≡ true) = λ k a ok.
            (let all = and_parts ((j == k) && nat_le offset a) (nat_lt a (offset + width)) ok in let front = and_parts (j == k) (nat_le offset a) all.0 in
            (eqb-true j k front.0, and_from (nat_le offset a) (nat_lt a (offset + width)) front.1 all.1)) in
            at-count (taken_after c w done + d) (omega (arith, same)) (fresh-on done e (taken_after c w done + d) b (was d (omega (arith, free)))
            (λ new. (let at = within (taken_after c w done + d - taken_after c w done) b (reads (Some (Fills j offset width)) effect _ b is.asked new) in
            let past : max (is.closed its.from) (j + 1) ≤ d = rw at.1 at free in
            omega (arith, at.0, past)))
            (λ k a past asked new. (let at = within (k - taken_after c w done) a (reads (Some (Fills j offset width)) effect k a asked new) in
            let most : j ≤ d = least (has_offset b offset width) free in
            omega (arith, at.0, past, most))))
          where
            least : (t : Bool) → max (is.closed its.from) (if t then j + 1 else j) ≤ d → j ≤ d
            least true le = omega (arith, le)
            least false le = omega (arith, le)
        by (Some (Publishes m)) effect =
            let to : taken_after c w (done ++ e ∷ []) ≡ taken_after c w done + m =
            (acts B M o c ok w the_receiver less IsOpen Fresh done e run marked mine act (Publishes m) effect).done runs in
            at-count (taken_after c w done + (d + m)) (omega (arith, to)) (fresh-on done e (taken_after c w done + (d + m)) b (old m effect does.all refl)
            (λ new. (let no : false ≡ true = reads (Some (Publishes m)) effect _ b is.asked new in cc))
            (λ j a past asked new. (let no : false ≡ true = reads (Some (Publishes m)) effect j a asked new in cc)))
          where
            old : (m : ℕ) → does.effect ≡ Some (Publishes m) → (t : Bool) → does.all ≡ t → Fresh done (taken_after c w done + (d + m)) b
            old m effect false all = was (d + m)
                (let free : is.closed its.from - m ≤ d = subst (λ t. (if t then 0 else is.closed its.from - m) ≤ d) all
                (subst (λ f. closed_by does.all f b (is.closed its.from) ≤ d) effect left) in omega (arith, free))
            old m effect true all = let beyond : owned_end_after c w done ≤ taken_after c w done + m = its.leading.all (refl, owns) m effect all in (
              λ read. none-beyond M o c w done (taken_after c w done + (d + m)) _ (omega (arith, beyond)) read,
              λ j a past asked read. none-beyond M o c w done j _ (omega (arith, beyond, past)) read,
            )

  stays : (es : List Entry) → WellFormed B M (history_of o es) → Stays es
  stays es run = from B M o c ok w the_receiver less IsOpen Fresh
      (λ done e front marked. (
        λ off k b was. fresh-on done e k b was (λ new. (let on : is_own (receiver_in c w) e ≡ true = reads-acts M o c w done e k _ new in absurd (cc)))
            (λ j a past asked new. (let on : is_own (receiver_in c w) e ≡ true = reads-acts M o c w done e j _ new in absurd (cc))),
        λ mine act. makes done e front marked mine act,
      ))
      [] es run (first B M o c ok w the_receiver less IsOpen Fresh
      (λ d b is. (λ read. none-read M o c w _ _ read, λ j a past asked read. none-read M o c w _ _ read)))

  -- EVERY byte that is asked about, in every run, is read at most once, and none after one of a later record
  pub each_once : (es : List Entry) (e : Entry) → WellFormed B M (history_of o (es ++ e ∷ [])) → (k b : ℕ) → mask b ≡ true
      → IsReadBy M o c w es e k (slot_in c w k + b) → IsFresh M o c w mask es k b
  each_once es e run k b asked by =
      let marked : Stays es = stays es (kept-front B M o es (e ∷ []) run) in
      let parts = own_parts (receiver_in c w) e (reads-acts M o c w es e k (slot_in c w k + b) by) in
      let st = stepped B M o c ok w the_receiver less IsOpen Fresh es e run marked parts.0 parts.1 in
      let from : taken_after c w es ≤ k = by.from in
      let at : taken_after c w es + (k - taken_after c w es) ≡ k = omega (arith, from) in
      let once = shown st.from b asked in
      subst (λ n. IsFresh M o c w mask es n b) at (st.all_done (k - taken_after c w es) b (record {
        asked = asked;
        closed = once.closed;
        are = once.are;
        open_at = free (once.closed st.from) (k - taken_after c w es) b st.leading.does.effect
            (only es e run marked parts.0 parts.1 k b asked by) (leaf-once es e run marked parts.0 parts.1 b once);
      }))
    where
      free : (n d b : ℕ) (f : Option Effect) → reads_byte f d b ≡ true → is_again f b n ≡ false → n ≤ d
      free n d b (Some (Fills j offset width)) reads again =
          let all = and_parts ((j == d) && nat_le offset b) (nat_lt b (offset + width)) reads in let front = and_parts (j == d) (nat_le offset b) all.0 in
          let same : j ≡ d = eqb-true j d front.0 in
          let has : has_offset b offset width ≡ true = and_from (nat_le offset b) (nat_lt b (offset + width)) front.1 all.1 in
          let not : nat_lt j n ≡ false = rw has at again in
          elim (cases_lt j n) [
            | inl less ↦ absurd (let yes : nat_lt j n ≡ true = lt-ltb j n less in cc)
            | inr most ↦ omega (arith, most, same)
          ]
      free n d b None reads again = absurd (cc)
      free n d b (Some Leaves) reads again = absurd (cc)
      free n d b (Some (Publishes m)) reads again = absurd (cc)
      free n d b (Some (PublishesSome m)) reads again = absurd (cc)
