-- Every run keeps the protocol of ownership of each queue, and those of the queues beside, where the states of each hart are certified:
-- the induction of certified_runs, with what was sent beside what the protocols count.
use Rattle.std.proofs.Common.{ℕ, ◌≡◌, ◌⊎◌, ◌*◌, ◌<◌, ◌≤◌, inl, inr, Bool, true, false, List, [], ◌∷◌, ◌++◌, Some, refl, sym, ◌∙◌, ap, subst, arith}
use Rattle.std.proofs.Common.{append_assoc}
use Rattle.std.proofs.lemmas.Bool.{cases_lt}
use Rattle.hart.specs.State.{HartState}
use Rattle.step_machine.specs.declared.events.Entry.{Entry}
use Rattle.step_machine.specs.Names.{OpeningValue, history_of, Access, load, exchange, land, access_of, hart_of, is_land, is_own}
use Rattle.step_machine.specs.Names.{state_of, Legal, WellFormed}
use Rattle.step_machine.proofs.OwnRuns.{kept-front}
use Rattle.store_buffers.specs.StoreBuffers.{LeavesByteBy, LeavesByteAt}
use Rattle.store_buffers.proofs.LateStores.{at-end}
use Rattle.store_buffers.proofs.OwnEntries.{land_is, own_parts}
use Rattle.queue_parties.specs.{IsInBytes, Party, the_sender, the_receiver, QueueCounts, all_at, IsWindow}
use Rattle.queue_parties.proofs.Parties.{counts-append}
use Rattle.certified_runs.specs.Views.{view_of, view_then}
use Rattle.certified_runs.specs.Certified.{Protocol}
use Rattle.certified_runs.specs.Certified as certified
use Rattle.certified_runs.specs.TwoParties.{TwoPartyProtocol, all_of, next_by, KeepsProtocol, counts_in, EachIs}
use Rattle.certified_runs.proofs.Every.{At, Stands, IsCounted}
use Rattle.certified_runs.proofs.Every as every
use Rattle.certified_runs.proofs.TwoParties as two_parties
use Rattle.slot_queue.specs.{IsByteOf, party_of, hart, after_access, counts_after, OwnsByte, FollowsOwnership}
use Rattle.slot_queue.proofs.{grows-after, window}
use Rattle.queue_certificates.specs.{View, AllCounts, IsSameFor, SeesIndices, owning, kept_beside, ActsByCounts, counts_then, LoadsOwned, LoadsByte, ReadsOwned}
use Rattle.queue_certificates.specs.{LoadsAreOwned, IsDelivered}
use Rattle.queue_certificates.proofs.Sets.{CertifiedSets}
use Rattle.queue_certificates.proofs.Counted.{is_of_parties, seen}
use Rattle.queue_certificates.proofs.Delivered.{delivered, handed-at}

-- the counts after one entry more
counts-last : (q : TwoPartyProtocol) (start : QueueCounts) (done : List Entry) (e : Entry)
    → next_by q (counts_in q start done) e ≡ counts_in q start (done ++ e ∷ [])
counts-last q start done e = sym (counts-append (next_by q) start done (e ∷ []))

-- counting asks nothing of sets
abbrev NoSets : ℕ → HartState → View → AllCounts → Type 0
NoSets h s m cs = Unit {0}

module _ {B M : ℕ} {o : OpeningValue} (sets : CertifiedSets B M o) where
  open sets use {number as N, queues, starts, Told, Sent, beside as b, Own, Among as P, begins, is_beside, certified as c}

  abbrev pub each : ℕ → TwoPartyProtocol
  each i = owning (queues i)

  abbrev pub opening : AllCounts
  opening i = all_at (starts i)

  -- the counts of each queue, and of each beside
  abbrev pub Counted : List Entry → AllCounts
  Counted done = λ i. counts_after (queues i) (all_at (starts i)) done

  abbrev pub CountedBeside : List Entry → AllCounts
  CountedBeside done = λ i. counts_in (b.queues i) (b.starts i) done

  -- what the receiver knows of its records
  abbrev pub Received : ℕ → AllCounts → View → Type 0
  Received h cs m = (i : ℕ) → i < N → Told i → h ≡ (queues i).receiver → (k : ℕ) → (cs i).taken ≤ k → k < (cs i).known_published → Sent i k m

  -- ---- all queues in one protocol, by both counts

  abbrev pub BothCounts : Type 0
  BothCounts = AllCounts × AllCounts

  abbrev pub start : BothCounts
  start = (opening, b.starts)

  abbrev pub counted : List Entry → BothCounts
  counted done = (Counted done, CountedBeside done)

  abbrev pub protocol : Protocol BothCounts
  protocol = record {
    next = λ h y cs. ((all_of N each).next h y cs.0, (kept_beside b).next h y cs.1);
    IsSame = λ h cs ds. (all_of N each).IsSame h cs.0 ds.0 × (kept_beside b).IsSame h cs.1 ds.1;
    May = λ h cs y. (all_of N each).May h cs.0 y × (kept_beside b).May h cs.1 y;
    Knows = λ h cs m. (all_of N each).Knows h cs.0 m × Received h cs.0 m × (kept_beside b).Knows h cs.1 m;
    Owns = λ h cs x. ⊥;
  }

  abbrev pub ByBoth : ℕ → HartState → View → BothCounts → Type 0
  ByBoth h s m cs = P h s m cs.0 cs.1

  abbrev pub ActsIn : (h : ℕ) → HartState → View → AllCounts → Entry → Type 0
  ActsIn h s m cs e = ActsByCounts M o N queues Told Sent h s m cs e

  acts-as : (h : ℕ) (s : HartState) (m : View) (cs : BothCounts) (e : Entry) → certified.Acts M o h s m e → protocol.Knows h cs m → ActsIn h s m cs.0 e
  acts-as h s m cs e a k = record {
    mine = a.mine;
    act = a.act;
    can = a.can;
    reads = a.reads;
    bytes = a.bytes;
    sees = k.0;
    received = k.1;
    opens = a.opens;
    is = a.is;
    code = a.code;
    words = a.words;
    size = a.size;
    zero = a.zero;
  }

  pub is_certified : certified.IsCertified M o protocol start Own ByBoth
  is_certified = record {
    frame = λ h s m n cs ds w bytes owned same. c.frame h s m n cs.0 ds.0 cs.1 ds.1 w bytes same.0 same.1;
    opens = c.opens;
    steps = λ h s m cs e w a k. c.steps h s m cs.0 cs.1 e w (acts-as h s m cs e a k) k.2;
    keeps = λ h s m cs e w a k. (
      c.writes h s m cs.0 cs.1 e w (acts-as h s m cs e a k) k.2,
      c.keeps h s m cs.0 cs.1 e w (acts-as h s m cs e a k) k.2,
    );
    apart = λ h s m cs e w a k. c.apart h s m cs.0 cs.1 e w (acts-as h s m cs e a k) k.2;
  }

  -- where the sender of queue i moved its head past position k, and what it read there
  pub record WasSent (i k : ℕ) (done : List Entry) : Type 0 where
    before : List Entry
    publishing : Entry
    since : List Entry
    is : done ≡ before ++ publishing ∷ since
    from : (counts_after (queues i) (all_at (starts i)) before).published ≤ k
    past : k < (counts_after (queues i) (all_at (starts i)) (before ++ publishing ∷ [])).published
    sent : Sent i k (view_of o before (queues i).sender)

  follows-as : (i : ℕ) → i < N → (done : List Entry) → Legal B (history_of o done) → KeepsProtocol (each i) (opening i) done
      → FollowsOwnership B (queues i) (all_at (starts i)) o [] done
  follows-as i less done legal keeps = record { queue = (begins i less).0; legal = legal; rest = (begins i less).1; keeps = keeps }

  pub sees : (i : ℕ) → i < N → (done : List Entry) → Legal B (history_of o done) → KeepsProtocol (each i) (opening i) done → (p : Party)
      → SeesIndices (queues i) p (counts_in (each i) (opening i) done) (view_of o done (hart (queues i) p))
  sees i less done legal keeps p = seen B (queues i) (starts i) o done (follows-as i less done legal keeps) p (hart (queues i) p) refl

  abbrev pub KeptByAll : List Entry → Type 0
  KeptByAll = two_parties.Kept B M o N each opening (λ i less. is_of_parties (queues i) (begins i less).0) sees NoSets

  pub counts : IsCounted B M o AllCounts (all_of N each) opening NoSets Counted KeptByAll
  counts = two_parties.is_counted B M o N each opening (λ i less. is_of_parties (queues i) (begins i less).0) sees NoSets

  abbrev pub KeptBeside : List Entry → Type 0
  KeptBeside = two_parties.Kept B M o b.number b.queues b.starts is_beside.of_parties is_beside.knows NoSets

  pub counts_beside : IsCounted B M o AllCounts (kept_beside b) b.starts NoSets CountedBeside KeptBeside
  counts_beside = two_parties.is_counted B M o b.number b.queues b.starts is_beside.of_parties is_beside.knows NoSets

  pub record Kept (done : List Entry) : Type 0 where
    pub all : KeptByAll done
    pub others : KeptBeside done
    pub sent : (i k : ℕ) → i < N → Told i → starts i ≤ k → k < (counts_after (queues i) (all_at (starts i)) done).published → WasSent i k done
    pub untouched : (i k x : ℕ) → i < N → Told i → IsByteOf (queues i) k x → LeavesByteAt (queues i).receiver x done

  pub follows : (done : List Entry) → Kept done → (i : ℕ) → i < N → FollowsOwnership B (queues i) (all_at (starts i)) o [] done
  follows done k i less = follows-as i less done k.all.legal (k.all.keeps i less)

  -- a record that the receiver owns is one that was sent
  received : (h : ℕ) (done : List Entry) → Kept done → Received h (Counted done) (view_of o done h)
  received h done w i less told is k from below =
      let f : FollowsOwnership B (queues i) (all_at (starts i)) o [] done = follows done w i less in
      let win : IsWindow (queues i).capacity (counts_after (queues i) (all_at (starts i)) done) = window B (queues i) (all_at (starts i)) o [] done f in
      let more : starts i ≤ (counts_after (queues i) (all_at (starts i)) done).taken =
      (grows-after (queues i) (all_at (starts i)) done).counts the_receiver in
      let was : WasSent i k done = w.sent i k less told (omega (arith, more, from)) (omega (arith, win.known_published, below)) in
      subst (λ g. Sent i k (view_of o done g)) (sym is) (c.record_frame i k less told (view_of o was.before (queues i).sender)
      (view_of o done (queues i).receiver)
      (λ x of_k. handed-at B (queues i) (starts i) o done f k x of_k from below was.before was.publishing was.since was.is was.from was.past
      (w.untouched i k x less told of_k)) was.sent)

  abbrev StandsAt : List Entry → Entry → Type 0
  StandsAt = Stands B M o BothCounts protocol start ByBoth counted

  module _ (done : List Entry) (e : Entry) (w : Kept done) (stands : is_land e ≡ false → StandsAt done e)
      (run : WellFormed B M (history_of o (done ++ e ∷ []))) (may : protocol.May (hart_of e) (counted done) (access_of e)) where
    sent_then : (i k : ℕ) → i < N → Told i → starts i ≤ k
        → k < (counts_after (queues i) (all_at (starts i)) (done ++ e ∷ [])).published → WasSent i k (done ++ e ∷ [])
    sent_then i k less told low high = at (cases_lt k (counts_after (queues i) (all_at (starts i)) done).published)
      where
        new : (counts_after (queues i) (all_at (starts i)) done).published ≤ k → (b : Bool) → is_own (queues i).sender e ≡ b → WasSent i k (done ++ e ∷ [])
        new from false off =
            absurd (let same : (counts_after (queues i) (all_at (starts i)) (done ++ e ∷ [])).published
            ≡ (counts_after (queues i) (all_at (starts i)) done).published =
            (counts.left (queues i).sender done e off run w.all may.0 i less).count the_sender refl in omega (arith, same, from, high))
        new from true on =
            let parts = own_parts (queues i).sender e on in
            let st = stands parts.1 in
            record {
              before = done;
              publishing = e;
              since = [];
              is = refl;
              from = from;
              past = high;
              sent = subst (λ g. Sent i k (view_of o done g)) parts.0 (c.publishes (hart_of e) st.state (view_of o done (hart_of e)) (Counted done)
                  (CountedBeside done) e st.set (acts-as (hart_of e) st.state (view_of o done (hart_of e)) (counted done) e st.acting st.knows) st.knows.2
                  i less told parts.0 k from
                  (subst (λ n. k < n) ((counts.acted (hart_of e) done e refl i less).count the_sender parts.0) high));
            }

        at : (k < (counts_after (queues i) (all_at (starts i)) done).published)
            ⊎ ((counts_after (queues i) (all_at (starts i)) done).published ≤ k) → WasSent i k (done ++ e ∷ [])
        at (inl old) =
            let was : WasSent i k done = w.sent i k less told low old in
            record {
              before = was.before;
              publishing = was.publishing;
              since = was.since ++ e ∷ [];
              is = ap (λ xs. xs ++ e ∷ []) was.is ∙ append_assoc was.before (was.publishing ∷ was.since) (e ∷ []);
              from = was.from;
              past = was.past;
              sent = was.sent;
            }
        at (inr from) = new from (is_own (queues i).sender e) refl

    takes_none : (i k x : ℕ) → i < N → Told i → IsByteOf (queues i) k x → hart_of e ≡ (queues i).receiver → LeavesByteBy x (access_of e)
    takes_none i k x less told of_k mine = by (is_land e) refl
      where
        by : (l : Bool) → is_land e ≡ l → LeavesByteBy x (access_of e)
        by true landed = subst (LeavesByteBy x) (sym (land_is (access_of e) landed)) tt
        by false act =
            let st = stands act in
            c.takes (hart_of e) st.state (view_of o done (hart_of e)) (Counted done) (CountedBeside done) e st.set
            (acts-as (hart_of e) st.state (view_of o done (hart_of e)) (counted done) e st.acting st.knows) st.knows.2 i less told mine k x of_k

  pub is_counted : IsCounted B M o BothCounts protocol start ByBoth counted Kept
  is_counted = record {
    opens = λ h. (counts.opens h, counts_beside.opens h);
    left = λ h done e off run w may. (counts.left h done e off run w.all may.0, counts_beside.left h done e off run w.others may.1);
    owned = λ h x done e off run w may owns. absurd owns;
    acted = λ h done e mine. (counts.acted h done e mine, counts_beside.acted h done e mine);
    lands = λ h cs. (counts.lands h cs.0, counts_beside.lands h cs.1);
    first = record {
      all = counts.first;
      others = counts_beside.first;
      sent = λ i k less told low high. absurd (omega (arith, low, high));
      untouched = λ i k x less told of_k. tt;
    };
    knows = λ h done w. (counts.knows h done w.all, received h done w, counts_beside.knows h done w.others);
    goes_on = λ done e run w may stands. record {
      all = counts.goes_on done e run w.all may.0 (λ act. bare (all_of N each) opening Counted done e (stands act) (stands act).knows.0);
      others = counts_beside.goes_on done e run w.others may.1 (λ act. bare (kept_beside b) b.starts CountedBeside done e (stands act) (stands act).knows.2);
      sent = sent_then done e w stands run may;
      untouched = λ i k x less told of_k. at-end (queues i).receiver x done e (w.untouched i k x less told of_k)
          (takes_none done e w stands run may i k x less told of_k);
    };
  }
    where
      bare : (p : Protocol AllCounts) (first : AllCounts) (all : List Entry → AllCounts) (done : List Entry) (e : Entry) → StandsAt done e
          → p.Knows (hart_of e) (all done) (view_of o done (hart_of e)) → Stands B M o AllCounts p first NoSets all done e
      bare p first all done e st knows = record { state = st.state; here = st.here; set = tt; acting = st.acting; knows = knows }

  abbrev pub Holds : List Entry → Type 0
  Holds = every.Holds B M o BothCounts protocol start ByBoth counted Own is_certified Kept is_counted

  -- in every run
  pub holds : (es : List Entry) → WellFormed B M (history_of o es) → Holds es
  holds = every.holds B M o BothCounts protocol start ByBoth counted Own is_certified Kept is_counted

  -- what is known beside
  pub knows_beside : (done : List Entry) → Holds done → (h : ℕ) → (kept_beside b).Knows h (CountedBeside done) (view_of o done h)
  knows_beside done w h = counts_beside.knows h done w.kept.others

  -- what an induction over a run takes of one entry more
  module _ (done : List Entry) (e : Entry) (run : WellFormed B M (history_of o (done ++ e ∷ []))) (w : Holds done) where
    -- the hart of the entry has a state,
    pub state_known : (h : ℕ) → hart_of e ≡ h → (s : HartState) × At M o h done s
    state_known = every.state_known B M o BothCounts protocol start ByBoth counted Own is_certified Kept is_counted done e run w

    -- which decides what it makes
    pub acts : (h : ℕ) (s : HartState) → hart_of e ≡ h → is_land e ≡ false → At M o h done s → ActsIn h s (view_of o done h) (Counted done) e
    acts h s mine act at = acts-as h s (view_of o done h) (counted done) e
        (every.acts B M o BothCounts protocol start ByBoth counted Own is_certified Kept is_counted done e run w h s mine act at)
        (is_counted.knows h done w.kept)

    pub view_acted : (h x : ℕ) → hart_of e ≡ h → is_land e ≡ false → view_of o (done ++ e ∷ []) h x ≡ view_then (access_of e) (view_of o done h) x
    view_acted = every.view_acted B M o BothCounts protocol start ByBoth counted Own is_certified Kept is_counted done e run w

    pub view_other : (h x : ℕ) → Own h x → is_own h e ≡ false → view_of o (done ++ e ∷ []) h x ≡ view_of o done h x
    view_other = every.view_other B M o BothCounts protocol start ByBoth counted Own is_certified Kept is_counted done e run w

    pub counts_left : (h : ℕ) → is_own h e ≡ false → (i : ℕ) → i < N → IsSameFor (queues i) h (Counted done i) (Counted (done ++ e ∷ []) i)
    counts_left h off = counts.left h done e off run w.kept.all
        (every.may B M o BothCounts protocol start ByBoth counted Own is_certified Kept is_counted done e run w).0

    pub counts_acted : (h : ℕ) → hart_of e ≡ h → (i : ℕ)
        → IsSameFor (queues i) h (counts_then M o N queues Told Sent h (access_of e) (Counted done) i) (Counted (done ++ e ∷ []) i)
    counts_acted h mine i = subst (IsSameFor (queues i) h (counts_then M o N queues Told Sent h (access_of e) (Counted done) i))
        (ap (λ g. after_access (queues i) (party_of (queues i) g) (access_of e) (Counted done i)) (sym mine) ∙ counts-last (each i) (opening i) done e)
        (two_parties.same-for (each i) h (counts_then M o N queues Told Sent h (access_of e) (Counted done) i))

    -- and so of the counts beside
    pub beside_left : (h : ℕ) → is_own h e ≡ false → (kept_beside b).IsSame h (CountedBeside done) (CountedBeside (done ++ e ∷ []))
    beside_left h off = counts_beside.left h done e off run w.kept.others
        (every.may B M o BothCounts protocol start ByBoth counted Own is_certified Kept is_counted done e run w).1

    pub beside_acted : (h : ℕ) → hart_of e ≡ h
        → (kept_beside b).IsSame h ((kept_beside b).next h (access_of e) (CountedBeside done)) (CountedBeside (done ++ e ∷ []))
    beside_acted h mine = counts_beside.acted h done e mine

  -- what the sets say of a hart's accesses is so of its next one
  module _ (h : ℕ) (Is : (cs us : AllCounts) → Access → Type 0) (lands : (cs us : AllCounts) → Is cs us land)
      (says : (s : HartState) (m : View) (cs us : AllCounts) (e : Entry) → P h s m cs us → ActsIn h s m cs e → (kept_beside b).Knows h us m
      → Is cs us (access_of e)) where
    pub next_is : (done : List Entry) (e : Entry) → WellFormed B M (history_of o (done ++ e ∷ [])) → Holds done → hart_of e ≡ h
        → Is (Counted done) (CountedBeside done) (access_of e)
    next_is = every.is_next B M o BothCounts protocol start ByBoth counted Own is_certified Kept is_counted h (λ cs. Is cs.0 cs.1) (λ cs. lands cs.0 cs.1)
        (λ s m cs e w a k. says s m cs.0 cs.1 e w (acts-as h s m cs e a k) k.2)

  -- EVERY run, of any length, keeps the protocol of each queue
  pub every_run : (es : List Entry) → WellFormed B M (history_of o es) → (i : ℕ) → i < N → FollowsOwnership B (queues i) (all_at (starts i)) o [] es
  every_run es run = follows es (holds es run).kept

  -- and of each beside
  pub every_beside : (es : List Entry) → WellFormed B M (history_of o es) → (i : ℕ) → i < b.number → KeepsProtocol (b.queues i) (b.starts i) es
  every_beside es run = (holds es run).kept.others.keeps

  -- what the sets say of a hart's accesses by the counts of one queue beside is so of each
  module _ (i h : ℕ) (Is : QueueCounts → Access → Type 0) (lands : (d : QueueCounts) → Is d land)
      (says : (s : HartState) (m : View) (cs us : AllCounts) (e : Entry) → P h s m cs us → ActsIn h s m cs e → (kept_beside b).Knows h us m
      → Is (us i) (access_of e)) where
    beside-next : (done : List Entry) (e : Entry) → WellFormed B M (history_of o (done ++ e ∷ [])) → Holds done → hart_of e ≡ h
        → Is (CountedBeside done i) (access_of e)
    beside-next = next_is h (λ cs us. Is (us i)) (λ cs us. lands (us i)) says

    pub beside_is : (es : List Entry) → WellFormed B M (history_of o es) → EachIs (b.queues i) h Is (b.starts i) es
    beside_is es run = every.each_from B M o BothCounts protocol start ByBoth counted Own is_certified Kept is_counted
        (λ done rest. EachIs (b.queues i) h Is (CountedBeside done i) rest) (λ done. tt)
        (λ done e rest front w more. (
          beside-next done e front w,
          subst (λ d. EachIs (b.queues i) h Is d rest) (sym (counts-last (b.queues i) (b.starts i) done e)) more,
        )) [] es run (every.holds_first B M o BothCounts protocol start ByBoth counted Own is_certified Kept is_counted)

    pub next_beside_is : (es : List Entry) (e : Entry) → WellFormed B M (history_of o (es ++ e ∷ [])) → hart_of e ≡ h
        → Is (CountedBeside es i) (access_of e)
    next_beside_is es e run = beside-next es e run (holds es (kept-front B M o es (e ∷ []) run))

  -- and where the certificate's loads of slots are of owned ones, so are all in every run
  module _ (i : ℕ) (p : Party) (looks : LoadsAreOwned M o N queues Told Sent b P i p) where
    loads_next : (done : List Entry) (e : Entry) → WellFormed B M (history_of o (done ++ e ∷ [])) → Holds done → hart_of e ≡ hart (queues i) p
        → LoadsOwned (queues i) p (Counted done i) (access_of e)
    loads_next = next_is (hart (queues i) p) (λ cs us. LoadsOwned (queues i) p (cs i)) (λ cs us. tt) looks

    pub reads_owned : (es : List Entry) → WellFormed B M (history_of o es) → ReadsOwned (queues i) p (all_at (starts i)) es
    reads_owned es run = every.each_from B M o BothCounts protocol start ByBoth counted Own is_certified Kept is_counted
        (λ done rest. ReadsOwned (queues i) p (Counted done i) rest) (λ done. tt)
        (λ done e rest front w more. (
          loads_next done e front w,
          subst (λ d. ReadsOwned (queues i) p d rest) (sym (counts-last (each i) (opening i) done e)) more,
        )) [] es run (every.holds_first B M o BothCounts protocol start ByBoth counted Own is_certified Kept is_counted)

  -- so that what the receiver loads there was delivered
  pub loads_delivered : (i : ℕ) → i < N → LoadsAreOwned M o N queues Told Sent b P i the_receiver → (es : List Entry) (e : Entry)
      → WellFormed B M (history_of o (es ++ e ∷ [])) → hart_of e ≡ (queues i).receiver → (x : ℕ) → LoadsByte (access_of e) x
      → IsInBytes (queues i).slots ((queues i).size * (queues i).width) x → IsDelivered (queues i) (starts i) o es x
  loads_delivered i less looks es e run mine x loads slots =
      let w : Holds es = holds es (kept-front B M o es (e ∷ []) run) in
      delivered B (queues i) (starts i) o es (follows es w.kept i less) x (by (access_of e) (loads_next i the_receiver looks es e run w mine) loads)
    where
      by : (y : Access) → LoadsOwned (queues i) the_receiver (counts_after (queues i) (all_at (starts i)) es) y → LoadsByte y x
          → OwnsByte (queues i) the_receiver (counts_after (queues i) (all_at (starts i)) es) x
      by (load a width v) owned within = owned x within slots
      by (exchange a old new) owned within = owned x within slots
      by other owned within = elim within [ ]

  -- and in every run each hart is in its set
  pub every_state : (es : List Entry) → WellFormed B M (history_of o es) → (h : ℕ) (s : HartState) → state_of M (history_of o es) h ≡ Some s
      → P h s (view_of o es h) (Counted es) (CountedBeside es)
  every_state es run = (holds es run).within

  -- and of each record that a receiver owns what is said of records is so, in its view
  pub every_record : (es : List Entry) → WellFormed B M (history_of o es) → (i : ℕ) → i < N → Told i → (k : ℕ)
      → (counts_after (queues i) (all_at (starts i)) es).taken ≤ k → k < (counts_after (queues i) (all_at (starts i)) es).known_published
      → Sent i k (view_of o es (queues i).receiver)
  every_record es run i less told k from below = received (queues i).receiver es (holds es run).kept i less told refl k from below
