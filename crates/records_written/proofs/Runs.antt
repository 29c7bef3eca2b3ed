-- In every run all is done that surely is in the state in which a party is: by induction over the run's entries. The sender writes, and the
-- receiver reads.
use Rattle.std.proofs.Common.{ℕ, ◌+◌, ◌-◌, ◌<◌, ◌≤◌, ◌≡◌, ◌==◌, ◌&&◌, inl, inr, Bool, true, false, Option, Some, None, List, [], ◌∷◌, ◌++◌, length, refl, sym}
use Rattle.std.proofs.Common.{◌∙◌, ap, subst, arith, append-nil, append_assoc, not, ◌||◌}
use Rattle.std.specs.Prelude.{nat_lt, nat_le, option_map, option_and_then}
use Rattle.std.specs.List.{slice_get}
use Rattle.std.proofs.lemmas.Bool.{and_parts, or_cases, eqb-true, ltb-true, leb-true, lt-ltb}
use Rattle.hart.specs.{HartState, advanced}
use Rattle.hart.specs.declared.status.Status.TheVariants as status
use Rattle.step_machine.specs.declared.events.Entry.{Entry}
use Rattle.step_machine.specs.Names.{HartOpeningValue, OpeningValue, history_of, Access, access_of, hart_of, is_land, is_own, read_byte, number_read, opens_as}
use Rattle.step_machine.specs.Names.{state_of, WellFormed}
use Rattle.step_machine.proofs.{state_after, kept-front}
use Rattle.store_buffers.proofs.OwnEntries.{same_state, next_state, own_parts}
use Rattle.slot_queue.specs.Ownership.{counts_after}
use Rattle.queue_parties.specs.Parties.{Party, the_sender, the_receiver, all_at}
use Rattle.slots_that_tell.specs.Telling.{told_counts}
use Rattle.queue_layouts.specs.Tagged.{slots_of}
use Rattle.queue_certificates.specs.{View, AllCounts, view_then, IsSameFor, kept_beside, KnownState, QueueCertificate, queue_at, start_at, part_of, own_of}
use Rattle.queue_certificates.specs.{state_at, tagged_at, tagged_start, told_beside, IsKeptByte, MeansAll, next_states, all_lead, accepts, most_published}
use Rattle.queue_certificates.specs.Steps.{instruction_at}
use Rattle.queue_certificates.proofs.Every as every
use Rattle.queue_certificates.specs.declared.effect.Effect.{Effect}
use Rattle.queue_certificates.specs.declared.effect.Effect.TheVariants.{Leaves, Fills, Publishes, PublishesSome}
use Rattle.queue_certificates.proofs.{means-frame, told-frame, told-opens, fine-tagged, of-hart, opens-means, at-leaf, sets}
use Rattle.records_written.specs.{QueueNumber, Indexed, Tagged, IsListed, hart_by, slot_in, count_of, count_after, published_after, taken_after, IsWritten}
use Rattle.records_written.specs.Parties.{counts_for, next_instruction}
use Rattle.records_written.specs.{IsRead, is_filled, marked_after, may_hand, IsSurelyDone, leaf_by, graph_of, first_of, IsShownDone, IsShownWritten}
use Rattle.records_written.specs.{IsShownRead, OwnsReads}
use Rattle.records_written.proofs.Acted.{DoesByte, IsActed, Acted, indexed_then, tagged_then}
use Rattle.records_written.proofs.Leading.{leaves-pass, hands, Leads, leads, owned-at, owns_load}

-- ---- a byte that is done stays so

-- the sender wrote the byte at x of the slot of position k, or the receiver read it
abbrev WasDone : (M : ℕ) → OpeningValue → QueueCertificate → QueueNumber → Party → List Entry → (k x : ℕ) → Type 0
WasDone M o c w the_sender es k x = IsWritten M o c w es k x
WasDone M o c w the_receiver es k x = IsRead M o c w es k x

later : (M : ℕ) (o : OpeningValue) (c : QueueCertificate) (w : QueueNumber) (p : Party) (es : List Entry) (e : Entry) (k x : ℕ) → WasDone M o c w p es k x
    → WasDone M o c w p (es ++ e ∷ []) k x
later M o c w the_sender es e k x is = record {
  before = is.before;
  writes = is.writes;
  since = is.since ++ e ∷ [];
  is = ap (λ fs. fs ++ e ∷ []) is.is ∙ append_assoc is.before (is.writes ∷ is.since) (e ∷ []);
  sender = is.sender;
  byte = is.byte;
  counts = is.counts;
  after = is.after;
}
later M o c w the_receiver es e k x is = record {
  before = is.before;
  reads = is.reads;
  since = is.since ++ e ∷ [];
  is = ap (λ fs. fs ++ e ∷ []) is.is ∙ append_assoc is.before (is.reads ∷ is.since) (e ∷ []);
  by = is.by;
}

-- what an access of the party's does after these entries, where its bytes count
abbrev pub DoesNow : (M : ℕ) → OpeningValue → QueueCertificate → QueueNumber → Party → List Entry → Access → (j b : ℕ) → Type 0
DoesNow M o c w p es y j b = (counts_for p (next_instruction M o es (hart_by c w p)) ≡ true)
    × DoesByte c w p (λ i. counts_after (queue_at c i) (all_at (start_at c i)) es)
    (λ t. told_counts (slots_of (tagged_at c t)) (all_at (tagged_start c t)) es) y j b

done-now : (M : ℕ) (o : OpeningValue) (c : QueueCertificate) (w : QueueNumber) (p : Party) (es : List Entry) (e : Entry) → hart_of e ≡ hart_by c w p
    → (j b : ℕ) → DoesNow M o c w p es (access_of e) j b
    → WasDone M o c w p (es ++ e ∷ []) (count_after c w p es + j) (slot_in c w (count_after c w p es + j) + b)
done-now M o c w the_sender es e mine j b does = record {
  before = es;
  writes = e;
  since = [];
  is = refl;
  sender = mine;
  byte = does.1.1;
  counts = ap (λ h. counts_for the_sender (next_instruction M o es h)) mine ∙ does.0;
  after = omega (arith, does.1.0);
}
done-now M o c w the_receiver es e mine j b does = record {
  before = es;
  reads = e;
  since = [];
  is = refl;
  by = record {
    receiver = mine;
    byte = does.1.1;
    counts = ap (λ h. counts_for the_receiver (next_instruction M o es h)) mine ∙ does.0;
    from = omega arith;
    owned = does.1.0;
  };
}

module _ (M : ℕ) (o : OpeningValue) (c : QueueCertificate) (w : QueueNumber) (p : Party) where
  -- the byte of position k's slot at an offset is
  abbrev IsDoneAt : List Entry → (k b : ℕ) → Type 0
  IsDoneAt es k b = WasDone M o c w p es k (slot_in c w k + b)

  -- what f marks is so after these entries
  abbrev AreDone : (f : ℕ → ℕ → Bool) → List Entry → Type 0
  AreDone f es = (d b : ℕ) → f d b ≡ true → IsDoneAt es (count_after c w p es + d) b

  -- the same position is d further than the count, after an entry that hands on
  done-on : (es : List Entry) (e : Entry) (k d b : ℕ) → count_after c w p (es ++ e ∷ []) + d ≡ k → IsDoneAt es k b
      → IsDoneAt (es ++ e ∷ []) (count_after c w p (es ++ e ∷ []) + d) b
  done-on es e k d b same is = subst (λ k. IsDoneAt (es ++ e ∷ []) k b) (sym same) (later M o c w p es e k (slot_in c w k + b) is)

  -- after an entry of the party's whose effect is done, its marks are so
  marks-after : (es : List Entry) (e : Entry) (was : ℕ → ℕ → Bool) (f : Effect) → hart_of e ≡ hart_by c w p → AreDone was es
      → IsActed (DoesNow M o c w p es (access_of e)) (count_after c w p es) (count_after c w p (es ++ e ∷ [])) f → (d b : ℕ)
      → marked_after (Some f) was d b ≡ true → IsDoneAt (es ++ e ∷ []) (count_after c w p (es ++ e ∷ []) + d) b
  marks-after es e was Leaves mine so to d b marked = done-on es e (count_after c w p es + d) d b (omega (arith, to)) (so d b marked)
  marks-after es e was (Publishes m) mine so to d b marked =
      done-on es e (count_after c w p es + (d + m)) d b (omega (arith, to)) (so (d + m) b marked)
  marks-after es e was (PublishesSome m) mine so to d b marked = absurd (cc)
  marks-after es e was (Fills j offset width) mine so acted d b marked =
      elim (or_cases (is_filled j offset width d b) (was d b) marked) [
        | inr old ↦ done-on es e (count_after c w p es + d) d b (omega (arith, acted.0)) (so d b old)
        | inl new ↦ (
            let front : ((j == d) && nat_le offset b) ≡ true = (and_parts _ _ new).0 in
            let at : j ≡ d = eqb-true j d (and_parts (j == d) (nat_le offset b) front).0 in
            let low : offset ≤ b = leb-true offset b (and_parts (j == d) (nat_le offset b) front).1 in
            let high : b < offset + width = ltb-true b (offset + width) (and_parts ((j == d) && nat_le offset b) (nat_lt b (offset + width)) new).1 in
            subst (λ k. IsDoneAt (es ++ e ∷ []) k b)
            (let same : count_after c w p es + j ≡ count_after c w p (es ++ e ∷ []) + d = omega (arith, acted.0, at) in same)
            (done-now M o c w p es e mine j b (acted.1 b low high)))
      ]

  -- the same, where the effect may not be known
  marks-then : (es : List Entry) (e : Entry) (was : ℕ → ℕ → Bool) (f : Option Effect) → hart_of e ≡ hart_by c w p → AreDone was es
      → ((g : Effect) → f ≡ Some g → IsActed (DoesNow M o c w p es (access_of e)) (count_after c w p es) (count_after c w p (es ++ e ∷ [])) g)
      → (d b : ℕ) → marked_after f was d b ≡ true → IsDoneAt (es ++ e ∷ []) (count_after c w p (es ++ e ∷ []) + d) b
  marks-then es e was None mine so acted d b marked = absurd (cc)
  marks-then es e was (Some f) mine so acted d b marked = marks-after es e was f mine so (acted f refl) d b marked

module _ (B M : ℕ) (o : OpeningValue) (c : QueueCertificate) (ok : accepts o c ≡ true) where
  -- what hart h reads at each byte
  abbrev pub Sees : ℕ → List Entry → View
  Sees h done = λ x. read_byte o done h x

  -- the counts of each queue
  abbrev pub Counted : List Entry → AllCounts
  Counted done = λ j. counts_after (queue_at c j) (all_at (start_at c j)) done

  -- and of each queue with tags
  abbrev pub Told : List Entry → AllCounts
  Told done = every.CountedBeside (sets B M o c ok) done

  -- what a state means stays so, where its hart sees the same
  still-means : (h : ℕ) (k : KnownState) (z : HartState) (m n : View) (cs ds us vs : AllCounts) → MeansAll c h k z m cs us
      → ((x : ℕ) → IsKeptByte c h x → n x ≡ m x) → ((j : ℕ) → j < length c.queues → IsSameFor (queue_at c j) h (cs j) (ds j))
      → (kept_beside (told_beside c)).IsSame h us vs → MeansAll c h k z n ds vs
  still-means h k z m n cs ds us vs w bytes same told = (
    w.0,
    means-frame (queue_at c) (length c.queues) (own_of c h) h w.0 k z m n cs ds w.1 (λ j x short low high. bytes x (j, short, (low, high))) same,
    told-frame (tagged_at c) (length c.tagged) (queue_at c) (length c.queues) (own_of c) (length c.harts) h w.0 k us vs w.2 told,
  )

  module _ (done : List Entry) (e : Entry) (run : WellFormed B M (history_of o (done ++ e ∷ []))) (holds : every.Holds (sets B M o c ok) done) where
    -- another hart's entry, and a landing, hand nothing on
    pub count-left : (w : QueueNumber) (p : Party) → IsListed c w → is_own (hart_by c w p) e ≡ false
        → count_after c w p (done ++ e ∷ []) ≡ count_after c w p done
    count-left (Indexed i) p less off = (every.counts_left (sets B M o c ok) done e run holds (hart_by c (Indexed i) p) off i less).count p refl
    count-left (Tagged t) p less off = (every.beside_left (sets B M o c ok) done e run holds (hart_by c (Tagged t) p) off t less).count p refl

    -- and the party's own what its access does
    pub count-acted : (w : QueueNumber) (p : Party) → IsListed c w → hart_of e ≡ hart_by c w p
        → count_of w p (indexed_then c (hart_by c w p) (access_of e) (Counted done)) (tagged_then c (hart_by c w p) (access_of e) (Told done))
        ≡ count_after c w p (done ++ e ∷ [])
    count-acted (Indexed i) p less mine =
        sym ((every.counts_acted (sets B M o c ok) done e run holds (hart_by c (Indexed i) p) mine i).count p refl)
    count-acted (Tagged t) p less mine =
        sym ((every.beside_acted (sets B M o c ok) done e run holds (hart_by c (Tagged t) p) mine t less).count p refl)

  -- what surely is so in state n, of byte b of the position d further than the count, and what this means of position k after these entries
  module _ (w : QueueNumber) (p : Party) (less : IsListed c w) (Surely : (n d b : ℕ) → Type 0) (Is : List Entry → (k b : ℕ) → Type 0) where
    abbrev pub h : ℕ
    h = hart_by c w p

    -- a listed state of the party's, where all is so that surely is
    pub record IsMarked (done : List Entry) (s : HartState) : Type 0 where
      pub state : ℕ
      pub listed : state < length (part_of c h).states
      pub means : MeansAll c h (state_at c h state).known s (Sees h done) (Counted done) (Told done)
      pub all_done : (d b : ℕ) → Surely state d b → Is done (count_after c w p done + d) b

    -- a party that runs is in such a state
    abbrev pub StaysMarked : List Entry → Type 0
    StaysMarked done = (s : HartState) → state_of M (history_of o done) h ≡ Some s → s.status ≡ status.Running → IsMarked done s

    module _ (done : List Entry) (e : Entry) (run : WellFormed B M (history_of o (done ++ e ∷ []))) (marked : StaysMarked done) where
      pub holds : every.Holds (sets B M o c ok) done
      holds = every.holds (sets B M o c ok) done (kept-front B M o done (e ∷ []) run)

      -- an entry of the party's, from its state and the marks of it
      pub record Stepped : Type 0 where
        pub state : HartState
        pub at : state_of M (history_of o done) h ≡ Some state
        pub from : ℕ
        pub listed : from < length (part_of c h).states
        pub all_done : (d b : ℕ) → Surely from d b → Is done (count_after c w p done + d) b
        pub leading : Leads M o c ok w p less ((p ≡ the_receiver) × OwnsReads o c w) from (Sees h done)
            (Counted done) (Told done) (instruction_at state.code state.pc) (access_of e)
            (advanced state (number_read e))

      pub stepped : hart_of e ≡ h → is_land e ≡ false → Stepped
      stepped mine act =
          let k = every.state_known (sets B M o c ok) done e run holds h mine in
          let a = every.acts (sets B M o c ok) done e run holds h k.0 mine act k.1 in
          let m = marked k.0 k.1 a.can.running in
          let of = of-hart M o c ok h a.opens a.is in
          let leaf = at-leaf c h k.0 (Sees h done) (Counted done) m.means.0 (state_at c h m.state).known (state_at c h m.state).cases m.means.1 in
          record {
            state = k.0;
            at = k.1;
            from = m.state;
            listed = m.listed;
            all_done = m.all_done;
            leading = leads M o c ok w p less a.opens of k.0 (Sees h done) (Counted done) (Told done) e a
                (every.knows_beside (sets B M o c ok) done holds h) a.code a.size m.state leaf.known leaf.handed leaf.arrows leaf.numbers
                (leaf.passes (λ k d arrows. all_lead c h (next_states c h a.opens.code k d) arrows) (of.closed m.state m.listed))
                (λ P all. leaf.passes (λ k d arrows. P (leaf_by c w p a.opens.code k d arrows))
                (leaves-pass M o c ok w p less a.opens a.is m.state m.listed P all))
                leaf.means (leaf.told (Told done) m.means.2) ((p ≡ the_receiver) × OwnsReads o c w)
                (λ own. (
                  own.0,
                  leaf.passes (λ k d arrows. owns_load M o c ok w k (instruction_at a.opens.code k.pc))
                      (owned-at M o c ok w p own.0 own.1 a.opens a.is m.state m.listed),
                ));
          }

      -- what it does, by the counts of the run
      pub acts : (mine : hart_of e ≡ h) (act : is_land e ≡ false) (f : Effect) → (stepped mine act).leading.does.effect ≡ Some f
          → Acted (DoesNow M o c w p done (access_of e)) (count_after c w p done) (count_after c w p (done ++ e ∷ [])) f
          (advanced (stepped mine act).state (number_read e))
      acts mine act f is = subst (λ t. Acted (λ j b. (t ≡ true) × DoesByte c w p (Counted done) (Told done) (access_of e) j b) (count_after c w p done)
          (count_after c w p (done ++ e ∷ [])) f (advanced (stepped mine act).state (number_read e)))
          (ap (λ s. counts_for p (option_and_then (λ z. instruction_at z.code z.pc) s)) (sym (stepped mine act).at))
          (subst (λ n. Acted (λ j b. (counts_for p (instruction_at (stepped mine act).state.code (stepped mine act).state.pc) ≡ true)
          × DoesByte c w p (Counted done) (Told done) (access_of e) j b) (count_after c w p done) n f
          (advanced (stepped mine act).state (number_read e))) (count-acted done e run holds w p less mine) ((stepped mine act).leading.acts f is))

      -- what another's entry leaves, and what the party's own makes so
      abbrev pub Leaves-so : Type 0
      Leaves-so = is_own h e ≡ false → (k b : ℕ) → Is done k b → Is (done ++ e ∷ []) k b

      abbrev pub Makes-so : Type 0
      Makes-so = (mine : hart_of e ≡ h) (act : is_land e ≡ false) (runs : (advanced (stepped mine act).state (number_read e)).status ≡ status.Running)
          → (d b : ℕ) → Surely ((stepped mine act).leading.next runs).state d b → Is (done ++ e ∷ []) (count_after c w p (done ++ e ∷ []) + d) b

      marked-next : Leaves-so → Makes-so → StaysMarked (done ++ e ∷ [])
      marked-next leaves makes z at runs = by (is_own h e) refl
        where
          by : (b : Bool) → is_own h e ≡ b → IsMarked (done ++ e ∷ []) z
          by false off =
              let m = marked z (same_state M o done e h off z at) runs in
              let kept : count_after c w p (done ++ e ∷ []) ≡ count_after c w p done = count-left done e run holds w p less off in
              record {
                state = m.state;
                listed = m.listed;
                means = still-means h (state_at c h m.state).known z (Sees h done) (Sees h (done ++ e ∷ [])) (Counted done) (Counted (done ++ e ∷ []))
                    (Told done) (Told (done ++ e ∷ [])) m.means
                    (λ x kept. every.view_other (sets B M o c ok) done e run holds h x (inl kept) off)
                    (every.counts_left (sets B M o c ok) done e run holds h off) (every.beside_left (sets B M o c ok) done e run holds h off);
                all_done = λ d b is. subst (λ n. Is (done ++ e ∷ []) n b)
                    (let same : count_after c w p done + d ≡ count_after c w p (done ++ e ∷ []) + d =
                    omega (arith, kept) in
                    same) (leaves off (count_after c w p done + d) b (m.all_done d b is));
              }
          by true on =
              let parts = own_parts h e on in
              let st = stepped parts.0 parts.1 in
              let same : advanced st.state (number_read e) ≡ z = next_state M o done e h parts.0 parts.1 st.state z st.at at in
              let running : (advanced st.state (number_read e)).status ≡ status.Running = ap (λ y. y.status) same ∙ runs in
              let found = st.leading.next running in
              record {
                state = found.state;
                listed = found.listed;
                means = subst (λ y. MeansAll c h (state_at c h found.state).known y (Sees h (done ++ e ∷ [])) (Counted (done ++ e ∷ []))
                    (Told (done ++ e ∷ []))) same
                    (still-means h (state_at c h found.state).known (advanced st.state (number_read e)) (view_then (access_of e) (Sees h done))
                    (Sees h (done ++ e ∷ [])) (indexed_then c h (access_of e) (Counted done)) (Counted (done ++ e ∷ []))
                    (tagged_then c h (access_of e) (Told done)) (Told (done ++ e ∷ [])) found.means
                    (λ x kept. every.view_acted (sets B M o c ok) done e run holds h x parts.0 parts.1)
                    (λ j short. every.counts_acted (sets B M o c ok) done e run holds h parts.0 j)
                    (every.beside_acted (sets B M o c ok) done e run holds h parts.0));
                all_done = makes parts.0 parts.1 running;
              }

    pub first : ((d b : ℕ) → Surely (first_of c w p) d b → Is [] (count_after c w p [] + d) b) → StaysMarked []
    first opens s at runs = opened (slice_get o.harts h) refl at
      where
        opened : (x : Option HartOpeningValue) → slice_get o.harts h ≡ x → option_map (state_after M []) x ≡ Some s → IsMarked [] s
        opened None is none = absurd (cc)
        opened (Some x) is some =
            let same : opens_as M x ≡ s = cc in
            let of = of-hart M o c ok h x is in
            subst (IsMarked []) same (record {
              state = (part_of c h).first;
              listed = of.first;
              means = (
                (part_of c h).numbers,
                opens-means M o c ok h x (state_at c h (part_of c h).first).known (part_of c h).numbers of.opens,
                told-opens c h (state_at c h (part_of c h).first).known (part_of c h).numbers (fine-tagged M o c ok) of.told,
              );
              all_done = opens;
            })

    pub from : ((done : List Entry) (e : Entry) (run : WellFormed B M (history_of o (done ++ e ∷ []))) (marked : StaysMarked done)
        → Leaves-so done e run marked × Makes-so done e run marked)
        → (done rest : List Entry) → WellFormed B M (history_of o (done ++ rest)) → StaysMarked done → StaysMarked (done ++ rest)
    from each done [] run w = subst StaysMarked (sym (append-nil done)) w
    from each done (e ∷ rest) run w =
        let all : (done ++ e ∷ []) ++ rest ≡ done ++ e ∷ rest = append_assoc done (e ∷ []) rest in
        let whole_run : WellFormed B M (history_of o ((done ++ e ∷ []) ++ rest)) = subst (λ es. WellFormed B M (history_of o es)) (sym all) run in
        let front : WellFormed B M (history_of o (done ++ e ∷ [])) = kept-front B M o (done ++ e ∷ []) rest whole_run in
        let so = each done e front w in
        subst StaysMarked all (from each (done ++ e ∷ []) rest whole_run (marked-next done e front w so.0 so.1))

  -- ---- what is surely done

  module _ (w : QueueNumber) (p : Party) (less : IsListed c w) (mask : ℕ → Bool) (shown : IsShownDone o c w p mask) where
    abbrev its-hart : ℕ
    its-hart = hart_by c w p

    abbrev IsSurely : (n d b : ℕ) → Type 0
    IsSurely n d b = IsSurelyDone (graph_of o c w p) (first_of c w p) n d b

    abbrev AreSurelyDone : List Entry → Type 0
    AreSurelyDone = StaysMarked w p less IsSurely (IsDoneAt M o c w p)

    surely : (es : List Entry) → WellFormed B M (history_of o es) → AreSurelyDone es
    surely es run = from w p less IsSurely (IsDoneAt M o c w p)
        (λ done e front marked. (
          λ off k b is. later M o c w p done e k (slot_in c w k + b) is,
          λ mine act runs d b is.
              (let st = stepped w p less IsSurely (IsDoneAt M o c w p) done e front marked mine act in
              let found = st.leading.next runs in
              let kept : (not (is.marks found.state d b) || marked_after st.leading.does.effect (is.marks st.from) d b) ≡ true =
              found.passes (λ s to. not (is.marks to d b) || marked_after s.effect (is.marks st.from) d b) (is.kept.leads st.from d b) in
              marks-then M o c w p done e (is.marks st.from) st.leading.does.effect mine
              (λ j a marked. st.all_done j a (record { marks = is.marks; kept = is.kept; marked = marked }))
              (λ f does. (acts w p less IsSurely (IsDoneAt M o c w p) done e front marked mine act f does).done runs) d b
              (let marked : is.marks found.state d b ≡ true = is.marked in rw marked at kept)),
        ))
        [] es run (first w p less IsSurely (IsDoneAt M o c w p)
        (λ d b is. absurd (let none : is.marks (first_of c w p) d b ≡ false = is.kept.opens d b in
        let some : is.marks (first_of c w p) d b ≡ true = is.marked in
        cc)))

    module _ (done : List Entry) (e : Entry) (run : WellFormed B M (history_of o (done ++ e ∷ []))) (marked : AreSurelyDone done) where
      -- what it hands on was done
      done-there : (k : ℕ) → count_after c w p done ≤ k → k < count_after c w p (done ++ e ∷ []) → (b : ℕ) → mask b ≡ true → IsDoneAt M o c w p done k b
      done-there k from past b asked = by (is_own its-hart e) refl
        where
          handed : (f : Option Effect)
              → ((g : Effect) → f ≡ Some g → count_after c w p (done ++ e ∷ []) ≤ count_after c w p done + most_published g)
              → may_hand (k - count_after c w p done) f ≡ true
          handed None upto = refl
          handed (Some f) upto = lt-ltb _ _ (omega (arith, upto f refl, from, past))

          by : (t : Bool) → is_own its-hart e ≡ t → IsDoneAt M o c w p done k b
          by false off = absurd (let same : count_after c w p (done ++ e ∷ []) ≡ count_after c w p done = count-left done e run
              (holds w p less IsSurely (IsDoneAt M o c w p) done e run marked) w p less off in
              omega (arith, same, from, past))
          by true on =
              let parts = own_parts its-hart e on in
              let st = stepped w p less IsSurely (IsDoneAt M o c w p) done e run marked parts.0 parts.1 in
              subst (λ n. IsDoneAt M o c w p done n b)
              (let at : count_after c w p done + (k - count_after c w p done) ≡ k = omega (arith, from) in at)
              (st.all_done (k - count_after c w p done) b (shown st.from (k - count_after c w p done)
              (hands M o c ok w p less st.from st.leading.does st.leading.leaf (k - count_after c w p done)
              (handed st.leading.does.effect (λ f is. (acts w p less IsSurely (IsDoneAt M o c w p) done e run marked parts.0 parts.1 f is).upto))) b asked))

    -- EVERY record, in every run, is done before it is handed on
    each-done : (es : List Entry) (e : Entry) → WellFormed B M (history_of o (es ++ e ∷ [])) → (k : ℕ)
        → count_after c w p es ≤ k → k < count_after c w p (es ++ e ∷ []) → (b : ℕ) → mask b ≡ true → IsDoneAt M o c w p es k b
    each-done es e run = done-there es e run (surely es (kept-front B M o es (e ∷ []) run))

  -- ---- of each party

  pub each_written : (w : QueueNumber) → IsListed c w → (mask : ℕ → Bool) → IsShownWritten o c w mask → (es : List Entry) (e : Entry)
      → WellFormed B M (history_of o (es ++ e ∷ [])) → (k : ℕ) → published_after c w es ≤ k → k < published_after c w (es ++ e ∷ [])
      → (b : ℕ) → mask b ≡ true → IsWritten M o c w es k (slot_in c w k + b)
  each_written w less mask shown = each-done w the_sender less mask shown

  pub each_read : (w : QueueNumber) → IsListed c w → (mask : ℕ → Bool) → IsShownRead o c w mask → (es : List Entry) (e : Entry)
      → WellFormed B M (history_of o (es ++ e ∷ [])) → (k : ℕ) → taken_after c w es ≤ k → k < taken_after c w (es ++ e ∷ [])
      → (b : ℕ) → mask b ≡ true → IsRead M o c w es k (slot_in c w k + b)
  each_read w less mask shown = each-done w the_receiver less mask shown
