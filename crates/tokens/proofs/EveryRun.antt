-- Every run of sets of states that are closed under single instructions keeps tokens, and a queue whose sender's role passes with one.
use Rattle.std.proofs.Common.{ℕ, ◌+◌, ◌<◌, ◌≤◌, ◌≡◌, ◌⊎◌, inl, inr, true, Option, Some, None, List, [], ◌∷◌, refl, ◌∙◌, ap, subst, arith, ◌≢◌, Bool, false}
use Rattle.std.proofs.Common.{◌++◌, length, sym, ◌==◌, if◌then◌else◌}
use Rattle.std.proofs.lemmas.Bool.{false_from_ne_true, cases_eq, eqb-true, eq-eqb, ne_eqb}
use Rattle.memory.specs.declared.writes.Write.{Write}
use Rattle.memory.specs.Writes.{write, covers}
use Rattle.memory.proofs.Bytes.{joined-same}
use Rattle.hart.specs.State.{HartState}
use Rattle.step_machine.specs.declared.events.Entry.{Entry}
use Rattle.step_machine.specs.Names.{OpeningValue, pending, history_of, Access, nothing, load, store, exchange, fence, land, access_of, hart_of, is_land}
use Rattle.step_machine.specs.Names.{is_own, own_stores, lands, opening_byte, state_of, WellFormed}
use Rattle.step_machine.proofs.{LegalAfter-back, balanced}
use Rattle.step_machine.specs.declared.events.Entry.TheVariants as entry
use Rattle.store_buffers.specs.StoreBuffers.{LeavesByteBy}
use Rattle.store_buffers.proofs.OwnEntries.{own_is, land_is, known_hart}
use Rattle.queue_parties.specs.Parties.{count, known, QueueCounts, Party, the_sender, the_receiver, other, all_at}
use Rattle.queue_parties.proofs.Parties.{counts-append}
use Rattle.slot_queue.specs.Queues.{Queue, IsQueue, IsAtRest}
use Rattle.slot_queue.specs.Ownership.{hart, after_access, party_of, index, counts_next, counts_after, KeepsAccess, KeepsEntry, KeepsOwnership}
use Rattle.slot_queue.specs.Laws.{FollowsOwnership}
use Rattle.certified_runs.specs.Views.{view_of, number_seen, View, view_then}
use Rattle.certified_runs.specs.Certified.{IsCertified}
use Rattle.certified_runs.proofs.Every.{Stands, IsCounted, Holds, holds}
use Rattle.certified_runs.proofs.TwoParties.{IsOfParties, keeps-last as kept-last}
use Rattle.queue_certificates.specs.OwnedRuns.{SeesIndices, owning}
use Rattle.queue_certificates.proofs.Counted.{is_of_parties, seen}
use Rattle.tokens.specs.Tokens.{TokenLayout, lays, Holders, laid, last_stored, taken_by, holders_then, May, MayWrite, holders, OpensTokens, FollowsTokens}
use Rattle.tokens.specs.Tokens.{lays_down, holders_next}
use Rattle.tokens.specs.Protocols.{HoldsSame, holding, HandsRightly, party_holding, RoleCounts, SameRole, playing, HandsOnRightly}
use Rattle.tokens.specs.Roles.{in_memory, is_holder, as_role, laid_first, next_in_memory, as_one_hart}
use Rattle.tokens.proofs.Held.{owned, nobodys, reads_seen, memory-snoc, none-some, two-harts, laid-from, Held, taken-left, taken-here, left, holders-append}
use Rattle.tokens.proofs.Held.{keeps-last, held_at, memory, stays, exclusive, IsSaid, said_next, laid-left}
use Rattle.tokens.proofs.Roles.{turn_next, played-snoc, Turn, holder-true, same_byte, reads_same, nothing_yet}

-- ---- of tokens

-- what another hart's access leaves a hart it had before
pub untaken : (q : TokenLayout) (g h t : ℕ) (y : Access) (c : Holders) → g ≢ h → holders_then q g y c t ≡ Some h → c t ≡ Some h
untaken q g h t (store w) c other is = (laid-from q w c t h is).1
untaken q g h t (exchange a old new) c other is = by (lays q (write a 4 old) t) refl
  where
    holds : taken_by q g (write a 4 old) c t ≡ Some h
    holds = (laid-from q (write a 4 new) (taken_by q g (write a 4 old) c) t h is).1

    by : (b : Bool) → lays q (write a 4 old) t ≡ b → c t ≡ Some h
    by true yea = absurd (other (two-harts (taken_by q g (write a 4 old) c t) g h (taken-here q g (write a 4 old) c t yea) holds))
    by false nay = sym (taken-left q g (write a 4 old) c t nay) ∙ holds
untaken q g h t y c other is = is

module _ (B M : ℕ) (o : OpeningValue) (q : TokenLayout) (says : ℕ → View → Bool) (start : Holders) (opens : OpensTokens q o start)
    (framed : (t : ℕ) (m n : View) → ((x : ℕ) → q.guards t x ≡ true → n x ≡ m x) → says t m ≡ true → says t n ≡ true)
    (begins : (t : ℕ) → start t ≡ None → says t (opening_byte o) ≡ true) (P : ℕ → HartState → View → Holders → Type 0)
    (hands : HandsRightly M o q says P) where
  abbrev Counted : List Entry → Holders
  Counted done = holders q start done

  pub record Kept (done : List Entry) : Type 0 where
    pub follows : FollowsTokens B q start o done
    pub said : IsSaid B q o says framed done (Counted done)

  counted_last : (done : List Entry) (e : Entry) → Counted (done ++ e ∷ []) ≡ holders_then q (hart_of e) (access_of e) (Counted done)
  counted_last done e = holders-append q start done (e ∷ [])

  module _ (done : List Entry) (e : Entry) (run : WellFormed B M (history_of o (done ++ e ∷ []))) (k : Kept done)
      (may : May q (hart_of e) (Counted done) (access_of e)) where
    follows_next : FollowsTokens B q start o (done ++ e ∷ [])
    follows_next = record { opens = opens; legal = run.legal; keeps = keeps-last q start done e k.follows.keeps may }

    le : (g : ℕ) → lands g done ≤ length (own_stores g done)
    le g = balanced B (history_of o done) g k.follows.legal

    other_left : (h : ℕ) → hart_of e ≢ h → HoldsSame h (Counted done) (Counted (done ++ e ∷ []))
    other_left h other t = (
      λ is. stays B q o start done e follows_next h t is other,
      λ is. untaken q (hart_of e) h t (access_of e) (Counted done) other (sym (ap (λ (d : Holders). d t) (counted_last done e)) ∙ is),
    )

    land_left : (h : ℕ) → is_land e ≡ true → HoldsSame h (Counted done) (Counted (done ++ e ∷ []))
    land_left h landed t = grind (arith, counted_last, land_is)

    pub held_left : (h : ℕ) → is_own h e ≡ false → HoldsSame h (Counted done) (Counted (done ++ e ∷ []))
    held_left h off = at (cases_eq (hart_of e) h) (is_land e) refl
      where
        at : (hart_of e ≡ h) ⊎ (hart_of e ≢ h) → (l : Bool) → is_land e ≡ l → HoldsSame h (Counted done) (Counted (done ++ e ∷ []))
        at same true landed = land_left h landed
        at (inr other) false act = other_left h other
        at (inl mine) false act = absurd (let no_own : false ≡ true = sym off ∙ own_is h e mine act in cc)

    leaves : (h t x : ℕ) → hart_of e ≢ h → q.guards t x ≡ true → Counted done t ≡ Some h → LeavesByteBy x (access_of e)
    leaves h t x other guards holds = at (access_of e) refl may
      where
        past : (v : Write) (d : Holders) → MayWrite q (hart_of e) d v → (d t ≡ Some (hart_of e) → ⊥) → covers v x ≡ false
        past v d m never = false_from_ne_true (covers v x) (λ on. never (m.guarded t x on guards))

        not_theirs : Counted done t ≡ Some (hart_of e) → ⊥
        not_theirs is = other (two-harts (Counted done t) (hart_of e) h is holds)

        not_taken : (a old new : ℕ) → access_of e ≡ exchange a old new → (b : Bool) → lays q (write a 4 old) t ≡ b
            → taken_by q (hart_of e) (write a 4 old) (Counted done) t ≡ Some (hart_of e) → ⊥
        not_taken a old new does false nay is = not_theirs (sym (taken-left q (hart_of e) (write a 4 old) (Counted done) t nay) ∙ is)
        not_taken a old new does true yea is = none-some (Counted done t) h (exclusive B q o start done e follows_next a old new t does yea) holds

        at : (y : Access) → access_of e ≡ y → May q (hart_of e) (Counted done) y → LeavesByteBy x y
        at (store v) does m = past v (Counted done) m not_theirs
        at (exchange a old new) does m = inr (past (write a 4 new) (taken_by q (hart_of e) (write a 4 old) (Counted done)) m
            (not_taken a old new does (lays q (write a 4 old) t) refl))
        at other does m = tt

    view_left : (h t x : ℕ) → q.guards t x ≡ true → Counted done t ≡ Some h → LeavesByteBy x (access_of e)
        → view_of o (done ++ e ∷ []) h x ≡ view_of o done h x
    view_left h t x guards holds leaves_it =
        let held = held_at B q o start done k.follows in
        left q o done (Counted done) (memory q [] start done) held B e h t x le (LegalAfter-back B o [] done (e ∷ []) run.legal).0
        (owned q o done (Counted done) (memory q [] start done) held h t holds) guards leaves_it

    pub owned_left : (h x : ℕ) → is_own h e ≡ false → (holding q says).Owns h (Counted done) x → view_of o (done ++ e ∷ []) h x ≡ view_of o done h x
    owned_left h x off owns = at (cases_eq (hart_of e) h) (is_land e) refl
      where
        at : (hart_of e ≡ h) ⊎ (hart_of e ≢ h) → (l : Bool) → is_land e ≡ l → view_of o (done ++ e ∷ []) h x ≡ view_of o done h x
        at same true landed = view_left h owns.0 x owns.1 owns.2 (subst (LeavesByteBy x) (sym (land_is (access_of e) landed)) tt)
        at (inr other) false act = view_left h owns.0 x owns.1 owns.2 (leaves h owns.0 x other owns.1 owns.2)
        at (inl mine) false act = absurd (let no_own : false ≡ true = sym off ∙ own_is h e mine act in cc)

    pub kept_next : (is_land e ≡ false → Stands B M o Holders (holding q says) start P Counted done e) → Kept (done ++ e ∷ [])
    kept_next stands =
        let held = held_at B q o start done k.follows in
        record {
          follows = follows_next;
          said = subst (IsSaid B q o says framed (done ++ e ∷ [])) (sym (counted_last done e))
              (said_next B q o says framed done e (Counted done) (memory q [] start done) held le (LegalAfter-back B o [] done (e ∷ []) run.legal).0 k.said
              (rightly (is_land e) refl) may);
        }
      where
        rightly : (l : Bool) → is_land e ≡ l → (t : ℕ) → lays_down q (access_of e) t → says t (view_then (access_of e) (view_of o done (hart_of e))) ≡ true
        rightly true landed t down = absurd (subst (λ y. lays_down q y t) (land_is (access_of e) landed) down)
        rightly false act t down =
            let st = stands act in
            hands (hart_of e) st.state (view_of o done (hart_of e)) (Counted done) e st.set st.acting st.knows t down

  pub knows_at : (h : ℕ) (done : List Entry) → Kept done → (holding q says).Knows h (Counted done) (view_of o done h)
  knows_at h done k a t lies =
      let held = held_at B q o start done k.follows in
      let free : Counted done t ≡ None = nobodys q o done (Counted done) (memory q [] start done) held h a t lies in (
        λ holds. none-some (Counted done t) h free holds,
        framed t (last_stored o done) (view_of o done h)
            (λ x guards. reads_seen q o done (Counted done) (memory q [] start done) held h a t lies x guards)
            (k.said t free),
      )

  pub is_counted : IsCounted B M o Holders (holding q says) start P Counted Kept
  is_counted = grind (arith, held_left, owned_left, counted_last, knows_at, kept_next)

  module _ (Own : ℕ → ℕ → Type 0) (c : IsCertified M o (holding q says) start Own P) where
    all_hold : (es : List Entry) → WellFormed B M (history_of o es) → Holds B M o Holders (holding q says) start P Counted Own c Kept is_counted es
    all_hold = holds B M o Holders (holding q says) start P Counted Own c Kept is_counted

    -- EVERY run, of any length, keeps its tokens
    pub every_run : (es : List Entry) → WellFormed B M (history_of o es) → FollowsTokens B q start o es
    every_run es run = (all_hold es run).kept.follows

    -- and each hart is in its set
    pub every_state : (es : List Entry) → WellFormed B M (history_of o es) → (h : ℕ) (s : HartState) → state_of M (history_of o es) h ≡ Some s
        → P h s (view_of o es h) (Counted es)
    every_state es run = (all_hold es run).within

-- ---- of tokens and a queue

-- the counts of the queue after these entries
abbrev role_counts : TokenLayout → (s : ℕ) → Queue → Holders → QueueCounts → List Entry → QueueCounts
role_counts q s k c a [] = a
role_counts q s k c a (e ∷ es) = role_counts q s k (holders_next q c e) (after_access k (party_holding s k c (hart_of e)) (access_of e) a) es

pub counts-snoc : (q : TokenLayout) (s : ℕ) (k : Queue) (c : Holders) (a : QueueCounts) (es : List Entry) (e : Entry)
    → role_counts q s k c a (es ++ e ∷ []) ≡ after_access k (party_holding s k (holders q c es) (hart_of e)) (access_of e) (role_counts q s k c a es)
counts-snoc q s k c a [] e = refl
counts-snoc q s k c a (d ∷ es) e = counts-snoc q s k (holders_next q c d) (after_access k (party_holding s k c (hart_of d)) (access_of d) a) es e

module _ (s : ℕ) (k : Queue) (c : Holders) (h : ℕ) where
  sender_holds : party_holding s k c h ≡ Some the_sender → c s ≡ Some h
  sender_holds role = by (is_holder (c s) h) refl (h == k.receiver) role
    where
      by : (b : Bool) → is_holder (c s) h ≡ b → (d : Bool) → (if b then Some the_sender else (if d then Some the_receiver else None)) ≡ Some the_sender
          → c s ≡ Some h
      by true yea d is = holder-true (c s) h yea
      by false nay true is = absurd (let wrong : Some the_receiver ≡ Some the_sender = is in cc)
      by false nay false is = absurd (let wrong : None ≡ Some the_sender = is in cc)

  receiver_is : party_holding s k c h ≡ Some the_receiver → h ≡ k.receiver
  receiver_is role = by (is_holder (c s) h) (h == k.receiver) refl role
    where
      by : (b d : Bool) → (h == k.receiver) ≡ d → (if b then Some the_sender else (if d then Some the_receiver else None)) ≡ Some the_receiver → h ≡ k.receiver
      by true d yea is = absurd (let wrong : Some the_sender ≡ Some the_receiver = is in cc)
      by false true yea is = eqb-true h k.receiver yea
      by false false nay is = absurd (let wrong : None ≡ Some the_receiver = is in cc)

-- what is seen in the indices depends on their bytes alone
sees-same : (k : Queue) (p : Party) (n : QueueCounts) (m v : View) → ((x : ℕ) → v x ≡ m x) → SeesIndices k p n m → SeesIndices k p n v
sees-same k p n m v same w = record {
  room = w.room;
  own = number (index k p) ∙ w.own;
  there = w.there;
  theirs = number (index k (other p)) ∙ w.theirs;
  from = w.from;
  upto = w.upto;
}
  where
    number : (a : ℕ) → number_seen v a k.index_width ≡ number_seen m a k.index_width
    number a = joined-same (λ i. v (a + i)) (λ i. m (a + i)) k.index_width (λ i lt. same (a + i))

module _ (B M : ℕ) (o : OpeningValue) (q : TokenLayout) (says : ℕ → View → Bool) (start : Holders) (opens : OpensTokens q o start)
    (framed : (t : ℕ) (m n : View) → ((x : ℕ) → q.guards t x ≡ true → n x ≡ m x) → says t m ≡ true → says t n ≡ true)
    (begins : (t : ℕ) → start t ≡ None → says t (opening_byte o) ≡ true) (s : ℕ) (k : Queue) (n : ℕ) (is : IsQueue k) (rests : IsAtRest k o [] (all_at n))
    (far : length o.harts ≤ k.sender) (unheld : start s ≡ Some k.receiver → ⊥)
    (P : ℕ → HartState → View → RoleCounts → Type 0) (hands : HandsOnRightly M o q says s k P) where
  -- the sets without the queue's counts
  abbrev Sets : ℕ → HartState → View → Holders → Type 0
  Sets h z m c = (nn : QueueCounts) × P h z m (c, nn) × ((p : Party) → party_holding s k c h ≡ Some p → SeesIndices k p nn m)

  pub hands_on : HandsRightly M o q says Sets
  hands_on h z m c e p acts knows t down = hands h z m (c, p.0) e p.1 acts (knows, p.2) t down

  abbrev TokensKept : List Entry → Type 0
  TokensKept = Kept B M o q says start opens framed begins Sets hands_on

  abbrev C : List Entry → Holders
  C done = holders q start done

  abbrev Mem : List Entry → Holders
  Mem done = memory q [] start done

  abbrev R : List Entry → List Entry
  R done = as_one_hart q s k.sender start done

  abbrev N : List Entry → QueueCounts
  N done = role_counts q s k start (all_at n) done

  abbrev RoleCounted : List Entry → RoleCounts
  RoleCounted done = (C done, N done)

  pub record RoleKept (done : List Entry) : Type 0 where
    pub tokens : TokensKept done
    pub turn : Turn q s k.sender B o done (R done) (Mem done)
    pub keeps : KeepsOwnership k (all_at n) (R done)
    pub counts : N done ≡ counts_after k (all_at n) (R done)
    pub free : C done s ≡ Some k.receiver → ⊥
    pub never : Mem done s ≡ Some k.receiver → ⊥

  module _ (done : List Entry) (w : RoleKept done) where
    held : Held q o done (C done) (Mem done)
    held = held_at B q o start done w.tokens.follows

    role_follows : FollowsOwnership B k (all_at n) o [] (R done)
    role_follows = record { queue = is; legal = w.turn.legal; rest = rests; keeps = w.keeps }

    seen_as : (p : Party) (g h : ℕ) → g ≡ hart k p → ((x : ℕ) → view_of o done h x ≡ view_of o (R done) g x) → SeesIndices k p (N done) (view_of o done h)
    seen_as p g h is_its same = sees-same k p (N done) (view_of o (R done) g) (view_of o done h) same
        (subst (λ a. SeesIndices k p a (view_of o (R done) g)) (sym w.counts) (seen B k n o (R done) role_follows p g is_its))

    -- a party sees in the indices what one of two harts does
    sees : (h : ℕ) (p : Party) → party_holding s k (C done) h ≡ Some p → SeesIndices k p (N done) (view_of o done h)
    sees h the_sender role = seen_as the_sender k.sender h refl (λ x. sym (reads_same q s k.sender B o done (R done) (Mem done) w.turn (C done) held h x
        (sender_holds s k (C done) h role)))
    sees h the_receiver role = seen_as the_receiver k.receiver h refl (λ x. sym (same_byte q s k.sender B o done (R done) (Mem done) w.turn k.receiver h x
        (w.turn.others k.receiver (λ e. is.parties (sym e)) w.never ∙ ap (λ g. pending g done) (sym (receiver_is s k (C done) h role)))))

    -- what an entry is to the queue as its hart's part is what it is as the role's hart
    abbrev IsAs : Entry → Entry → Type 0
    IsAs e x = (after_access k (party_holding s k (C done) (hart_of e)) (access_of e) (N done) ≡ counts_next k (N done) x)
        × (KeepsAccess k (party_holding s k (C done) (hart_of e)) (N done) (access_of e) → KeepsEntry k (N done) x)

    part_as : (e x : Entry) → party_holding s k (C done) (hart_of e) ≡ party_of k (hart_of x) → access_of x ≡ access_of e → IsAs e x
    part_as e x party does = grind arith

    role_V : (h : ℕ) → is_holder (C done s) h ≡ true → party_holding s k (C done) h ≡ party_of k k.sender
    role_V h yea = grind (arith, eq-eqb)

    role_h : (h : ℕ) → h ≢ k.sender → is_holder (C done s) h ≡ false → party_holding s k (C done) h ≡ party_of k h
    role_h h new nay = grind (arith, ne_eqb)

    none_of : (h : ℕ) → is_holder (C done s) h ≡ false → h ≢ k.receiver → party_holding s k (C done) h ≡ None
    none_of h nay off = grind (arith, ne_eqb)

    -- what touches no memory is nothing to the queue, nor is a landing or a fence
    idle : (t : Option Party) → (after_access k t nothing (N done) ≡ N done) × KeepsAccess k t (N done) nothing
    idle (Some p) = (refl, tt)
    idle None = (refl, tt)

    lands_idle : (t : Option Party) → (after_access k t land (N done) ≡ N done) × KeepsAccess k t (N done) land
    lands_idle (Some p) = (refl, tt)
    lands_idle None = (refl, tt)

    fences : (t : Option Party) (full : Bool) → after_access k t (fence full) (N done) ≡ N done
    fences (Some p) full = refl
    fences None full = refl

    idle_as : (e : Entry) (h : ℕ) → after_access k (party_holding s k (C done) (hart_of e)) (access_of e) (N done) ≡ N done → IsAs e (entry.Inner h)
    idle_as e h same = (same ∙ sym (idle (party_of k h)).0, λ keeps. (idle (party_of k h)).1)

    is_as : (e : Entry) → hart_of e ≢ k.sender → IsAs e (as_role k.sender (is_holder (C done s) (hart_of e)) (is_holder (Mem done s) (hart_of e)) e)
    is_as (entry.Load h a width v) new = by (is_holder (C done s) h) refl (is_holder (Mem done s) h) refl
      where
        by : (b : Bool) → is_holder (C done s) h ≡ b → (l : Bool) → is_holder (Mem done s) h ≡ l
            → IsAs (entry.Load h a width v) (if b then entry.Load k.sender a width v else (if l then entry.Inner h else entry.Load h a width v))
        by true yea l lays = part_as (entry.Load h a width v) (entry.Load k.sender a width v) (role_V h yea) refl
        by false nay false off = part_as (entry.Load h a width v) (entry.Load h a width v) (role_h h new nay) refl
        by false nay true pends = idle_as (entry.Load h a width v) h (ap (λ t. after_access k t (load a width v) (N done))
            (none_of h nay (λ e. w.never (holder-true (Mem done s) h pends ∙ ap Some e))))
    is_as (entry.Store h a width v) new = by (is_holder (C done s) h) refl
      where
        by : (b : Bool) → is_holder (C done s) h ≡ b → IsAs (entry.Store h a width v) (entry.Store (if b then k.sender else h) a width v)
        by true yea = part_as (entry.Store h a width v) (entry.Store k.sender a width v) (role_V h yea) refl
        by false nay = part_as (entry.Store h a width v) (entry.Store h a width v) (role_h h new nay) refl
    is_as (entry.Amo h a old x) new = by (is_holder (C done s) h) refl
      where
        by : (b : Bool) → is_holder (C done s) h ≡ b → IsAs (entry.Amo h a old x) (entry.Amo (if b then k.sender else h) a old x)
        by true yea = part_as (entry.Amo h a old x) (entry.Amo k.sender a old x) (role_V h yea) refl
        by false nay = part_as (entry.Amo h a old x) (entry.Amo h a old x) (role_h h new nay) refl
    is_as (entry.Fence h full) new = idle_as (entry.Fence h full) h (fences (party_holding s k (C done) h) full)
    is_as (entry.Land h) new = grind (arith, lands_idle)
    is_as e new = idle_as e (hart_of e) (idle (party_holding s k (C done) (hart_of e))).0

    module _ (e : Entry) (run : WellFormed B M (history_of o (done ++ e ∷ [])))
        (may : (playing q says s k).May (hart_of e) (RoleCounted done) (access_of e)) where
      new : hart_of e ≢ k.sender
      new same = let less : hart_of e < length o.harts = known_hart o done e [] run.of_harts in omega (arith, less, same, far)

      played_then : R (done ++ e ∷ []) ≡ R done ++ as_role k.sender (is_holder (C done s) (hart_of e)) (is_holder (Mem done s) (hart_of e)) e ∷ []
      played_then = played-snoc q s k.sender [] start start done e

      memory_then : Mem (done ++ e ∷ []) ≡ in_memory q done e (Mem done)
      memory_then = memory-snoc q [] start done e

      held_then : C (done ++ e ∷ []) ≡ holders_then q (hart_of e) (access_of e) (C done)
      held_then = holders-append q start done (e ∷ [])

      pub counts_then : N (done ++ e ∷ []) ≡ after_access k (party_holding s k (C done) (hart_of e)) (access_of e) (N done)
      counts_then = counts-snoc q s k start (all_at n) done e

      played_counts : N (done ++ e ∷ []) ≡ counts_after k (all_at n) (R (done ++ e ∷ []))
      played_counts = counts_then ∙ (is_as e new).0
          ∙ ap (λ a. counts_next k a (as_role k.sender (is_holder (C done s) (hart_of e)) (is_holder (Mem done s) (hart_of e)) e)) w.counts
          ∙ sym (counts-append (counts_next k) (all_at n) (R done)
          (as_role k.sender (is_holder (C done s) (hart_of e)) (is_holder (Mem done s) (hart_of e)) e ∷ []))
          ∙ sym (ap (counts_after k (all_at n)) played_then)

      free_then : C (done ++ e ∷ []) s ≡ Some k.receiver → ⊥
      free_then has = by (cases_eq (hart_of e) k.receiver)
        where
          took : holders_then q (hart_of e) (access_of e) (C done) s ≡ Some k.receiver
          took = sym (ap (λ (c : Holders). c s) held_then) ∙ has

          by : (hart_of e ≡ k.receiver) ⊎ (hart_of e ≢ k.receiver) → ⊥
          by (inl here) = may.2 (λ had. w.free (had ∙ ap Some here)) (took ∙ ap Some (sym here)) here
          by (inr other) = w.free (untaken q (hart_of e) k.receiver s (access_of e) (C done) other took)

      never_then : Mem (done ++ e ∷ []) s ≡ Some k.receiver → ⊥
      never_then has = at (access_of e) refl (sym (ap (λ (c : Holders). c s) memory_then) ∙ has)
        where
          landed : (ws : List Write) → laid_first q ws (Mem done) s ≡ Some k.receiver → ⊥
          landed [] it = w.never it
          landed (v ∷ ws) it = w.never (laid-from q v (Mem done) s k.receiver it).1

          swapped : (a old x : ℕ) → access_of e ≡ exchange a old x
              → laid q (write a 4 x) (taken_by q (hart_of e) (write a 4 old) (Mem done)) s ≡ Some k.receiver → ⊥
          swapped a old x does it = by (lays q (write a 4 old) s) refl
            where
              l : (lays q (write a 4 x) s ≡ false) × (taken_by q (hart_of e) (write a 4 old) (Mem done) s ≡ Some k.receiver)
              l = laid-from q (write a 4 x) (taken_by q (hart_of e) (write a 4 old) (Mem done)) s k.receiver it

              by : (b : Bool) → lays q (write a 4 old) s ≡ b → ⊥
              by false off = w.never (sym (taken-left q (hart_of e) (write a 4 old) (Mem done) s off) ∙ l.1)
              by true found = grind (arith, free_then, laid-left, taken-here)

          at : (y : Access) → access_of e ≡ y → next_in_memory q (hart_of e) (pending (hart_of e) done) y (Mem done) s ≡ Some k.receiver → ⊥
          at land does it = landed (pending (hart_of e) done) it
          at (exchange a old x) does it = swapped a old x does it
          at other does it = w.never it

      pub role_kept_next : (is_land e ≡ false → Stands B M o RoleCounts (playing q says s k) (start, all_at n) P RoleCounted done e) → RoleKept (done ++ e ∷ [])
      role_kept_next stands = record {
        tokens = kept_next B M o q says start opens framed begins Sets hands_on done e run w.tokens may.0 (λ act.
            (let st = stands act in record {
              state = st.state;
              here = st.here;
              set = (N done, st.set, st.knows.1);
              acting = st.acting;
              knows = st.knows.0;
            }));
        turn = turn_next q s k.sender B o start done e (follows_next B M o q says start opens framed begins Sets hands_on done e run w.tokens may.0)
            new w.turn;
        keeps = subst (KeepsOwnership k (all_at n)) (sym played_then) (kept-last (counts_next k) (KeepsEntry k) (all_at n) (R done)
            (as_role k.sender (is_holder (C done s) (hart_of e)) (is_holder (Mem done s) (hart_of e)) e) w.keeps
            (subst (λ a. KeepsEntry k a (as_role k.sender (is_holder (C done s) (hart_of e)) (is_holder (Mem done s) (hart_of e)) e)) w.counts
            ((is_as e new).1 may.1)));
        counts = played_counts;
        free = free_then;
        never = never_then;
      }

      parts : IsOfParties (owning k)
      parts = is_of_parties k is

      unmoved : is_land e ≡ true → N (done ++ e ∷ []) ≡ N done
      unmoved landed = counts_then ∙ ap (λ y. after_access k (party_holding s k (C done) (hart_of e)) y (N done)) (land_is (access_of e) landed)
          ∙ parts.landed (party_holding s k (C done) (hart_of e)) (N done)

      -- an entry of who isn't party p leaves its count
      leaves_count : (p : Party) (t : Option Party) (y : Access) (c : QueueCounts) → (t ≡ Some p → ⊥)
          → (count p (after_access k t y c) ≡ count p c) × (known p (after_access k t y c) ≡ known p c)
      leaves_count p None y c never = (ap (count p) (parts.nobodys y c), ap (known p) (parts.nobodys y c))
      leaves_count the_sender (Some the_receiver) y c never = (parts.counts the_receiver y c, parts.knows the_receiver y c)
      leaves_count the_receiver (Some the_sender) y c never = (parts.counts the_sender y c, parts.knows the_sender y c)
      leaves_count the_sender (Some the_sender) y c never = absurd (never refl)
      leaves_count the_receiver (Some the_receiver) y c never = absurd (never refl)

      left_count : (p : Party) (h : ℕ) → is_own h e ≡ false → (hart_of e ≢ h → party_holding s k (C done) (hart_of e) ≡ Some p → ⊥)
          → (count p (N (done ++ e ∷ [])) ≡ count p (N done)) × (known p (N (done ++ e ∷ [])) ≡ known p (N done))
      left_count p h off apart = at (cases_eq (hart_of e) h) (is_land e) refl
        where
          at : (hart_of e ≡ h) ⊎ (hart_of e ≢ h) → (l : Bool) → is_land e ≡ l
              → (count p (N (done ++ e ∷ [])) ≡ count p (N done)) × (known p (N (done ++ e ∷ [])) ≡ known p (N done))
          at same true landed = (ap (count p) (unmoved landed), ap (known p) (unmoved landed))
          at (inl mine) false act = absurd (let no_own : false ≡ true = sym off ∙ own_is h e mine act in cc)
          at (inr far) false act =
              let l = leaves_count p (party_holding s k (C done) (hart_of e)) (access_of e) (N done) (apart far) in
              (ap (count p) counts_then ∙ l.0, ap (known p) counts_then ∙ l.1)

      -- what an entry that isn't a hart's leaves of what it knows
      pub left_part : (h : ℕ) → is_own h e ≡ false → SameRole s k h (RoleCounted done) (RoleCounted (done ++ e ∷ []))
      left_part h off = record {
        holds = held_left B M o q says start opens framed begins Sets hands_on done e run w.tokens may.0 h off;
        sends = λ has. left_count the_sender h off (λ far role. far (two-harts (C done s) (hart_of e) h (sender_holds s k (C done) (hart_of e) role) has));
        receives = λ here. left_count the_receiver h off (λ far role. far (receiver_is s k (C done) (hart_of e) role ∙ sym here));
      }

  -- the count of an entry of hart h's own
  acted_part : (h : ℕ) (a b : RoleCounts) → a.0 ≡ b.0 → a.1 ≡ b.1 → SameRole s k h a b
  acted_part h a b holds counts = grind arith

  -- ---- the induction of certified_runs

  pub role_is_counted : IsCounted B M o RoleCounts (playing q says s k) (start, all_at n) P RoleCounted RoleKept
  role_is_counted = record {
    opens = λ h. acted_part h (start, all_at n) (start, all_at n) refl refl;
    left = λ h done e off run w may. left_part done w e run may h off;
    owned = λ h x done e off run w may owns. owned_left B M o q says start opens framed begins Sets hands_on done e run w.tokens may.0 h x off owns;
    acted = λ h done e mine. acted_part h (holders_then q h (access_of e) (C done), after_access k (party_holding s k (C done) h) (access_of e) (N done))
        (RoleCounted (done ++ e ∷ []))
        (ap (λ g. holders_then q g (access_of e) (C done)) (sym mine) ∙ sym (holders-append q start done (e ∷ [])))
        (ap (λ g. after_access k (party_holding s k (C done) g) (access_of e) (N done)) (sym mine) ∙ sym (counts-snoc q s k start (all_at n) done e));
    lands = λ h a. (tt, landing_free (party_holding s k a.0 h) a.1, λ had has. absurd (had has));
    first = record {
      tokens = record { follows = record { opens = opens; legal = tt; keeps = tt }; said = begins };
      turn = nothing_yet q s k.sender B o start;
      keeps = tt;
      counts = refl;
      free = unheld;
      never = unheld;
    };
    knows = λ h done w. (knows_at B M o q says start opens framed begins Sets hands_on h done w.tokens, λ p role. sees done w h p role);
    goes_on = λ done e run w may stands. role_kept_next done w e run may stands;
  }
    where
      landing_free : (t : Option Party) (a : QueueCounts) → KeepsAccess k t a land
      landing_free (Some p) a = tt
      landing_free None a = tt

  module _ (Own : ℕ → ℕ → Type 0) (c : IsCertified M o (playing q says s k) (start, all_at n) Own P) where
    role_all_hold : (es : List Entry) → WellFormed B M (history_of o es)
        → Holds B M o RoleCounts (playing q says s k) (start, all_at n) P RoleCounted Own c RoleKept role_is_counted es
    role_all_hold = holds B M o RoleCounts (playing q says s k) (start, all_at n) P RoleCounted Own c RoleKept role_is_counted

    -- EVERY run keeps its tokens, and, with one hart for all that hold token s, the protocol of ownership
    pub every_role_run : (es : List Entry) → WellFormed B M (history_of o es)
        → FollowsTokens B q start o es × FollowsOwnership B k (all_at n) o [] (as_one_hart q s k.sender start es)
    every_role_run es run = let w = (role_all_hold es run).kept in (w.tokens.follows, role_follows es w)
