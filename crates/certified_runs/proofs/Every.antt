-- Every run stays in the sets of a certificate and keeps its protocol: by induction over its entries.
use Rattle.std.proofs.Common.{ℕ, ◌≡◌, ◌≢◌, ◌⊎◌, ◌<◌, ◌≤◌, inl, inr, Bool, true, false, Option, List, [], ◌∷◌, ◌++◌, length, Some, None, refl, sym, ◌∙◌, ap}
use Rattle.std.proofs.Common.{subst, append-nil, append_assoc}
use Rattle.std.specs.Prelude.{option_map}
use Rattle.std.specs.List.{slice_get}
use Rattle.std.proofs.lemmas.Bool.{cases_eq}
use Rattle.std.proofs.lemmas.List.Elements.{All-nil}
use Rattle.hart.specs.{HartState, advanced}
use Rattle.step_machine.specs.declared.events.Entry.{Entry}
use Rattle.step_machine.specs.Names.{HartOpeningValue, OpeningValue, history_of, Access, load, exchange, land, access_of, hart_of}
use Rattle.step_machine.specs.Names.{is_land, is_own, own, own_stores, lands, pending, read, number_read, opens_as, state_of, PathOf, WellFormed, Allowed}
use Rattle.step_machine.specs.Names.{AllowedBy}
use Rattle.step_machine.proofs.{LegalAfter-back, LegalAfter-front, balanced, state_after, kept-front, state_keeps}
use Rattle.store_buffers.specs.StoreBuffers.{LeavesByte, LeavesByteBy, IsOnlyWriter}
use Rattle.store_buffers.proofs.OwnEntries.{made_by, known_hart, same_state, next_state, land_is, own_is, own_parts}
use Rattle.store_buffers.proofs.MessagePassing.{kept}
use Rattle.store_buffers.proofs.Effects.{read-below}
use Rattle.certified_runs.specs.Views.{View, view_of, ReadsFrom, view_then}
use Rattle.certified_runs.specs.Certified.{Acts, Protocol, IsCertified}
use Rattle.certified_runs.proofs.Views.{own_view, alone_next}

abbrev pub At : (M : ℕ) → OpeningValue → (h : ℕ) → List Entry → HartState → Type 0
At M o h done s = state_of M (history_of o done) h ≡ Some s

module _ (B M : ℕ) (o : OpeningValue) (Counts : Type 0) (p : Protocol Counts) (start : Counts) (P : ℕ → HartState → View → Counts → Type 0)
    (counted : List Entry → Counts) where
  -- the hart of an entry makes it from its set
  pub record Stands (done : List Entry) (e : Entry) : Type 0 where
    pub state : HartState
    pub here : At M o (hart_of e) done state
    pub set : P (hart_of e) state (view_of o done (hart_of e)) (counted done)
    pub acting : Acts M o (hart_of e) state (view_of o done (hart_of e)) e
    pub knows : p.Knows (hart_of e) (counted done) (view_of o done (hart_of e))

  -- What is to be shown of the protocol in a run, where `counted` are the counts after its entries: they follow it as far as each hart
  -- knows them, and what is `Kept` along the way shows what each hart takes for granted, and holds again where the protocol is kept
  pub record IsCounted (Kept : List Entry → Type 0) : Type 0 where
    pub opens : (h : ℕ) → p.IsSame h start (counted [])
    pub left : (h : ℕ) (done : List Entry) (e : Entry) → is_own h e ≡ false → WellFormed B M (history_of o (done ++ e ∷ [])) → Kept done
        → p.May (hart_of e) (counted done) (access_of e) → p.IsSame h (counted done) (counted (done ++ e ∷ []))
    pub owned : (h x : ℕ) (done : List Entry) (e : Entry) → is_own h e ≡ false → WellFormed B M (history_of o (done ++ e ∷ [])) → Kept done
        → p.May (hart_of e) (counted done) (access_of e) → p.Owns h (counted done) x → view_of o (done ++ e ∷ []) h x ≡ view_of o done h x
    pub acted : (h : ℕ) (done : List Entry) (e : Entry) → hart_of e ≡ h → p.IsSame h (p.next h (access_of e) (counted done)) (counted (done ++ e ∷ []))
    pub lands : (h : ℕ) (c : Counts) → p.May h c land
    pub first : Kept []
    pub knows : (h : ℕ) (done : List Entry) → Kept done → p.Knows h (counted done) (view_of o done h)
    pub goes_on : (done : List Entry) (e : Entry) → WellFormed B M (history_of o (done ++ e ∷ [])) → Kept done
        → p.May (hart_of e) (counted done) (access_of e) → (is_land e ≡ false → Stands done e) → Kept (done ++ e ∷ [])

  module _ (Own : ℕ → ℕ → Type 0) (c : IsCertified M o p start Own P) (Kept : List Entry → Type 0) (counts : IsCounted Kept) where
    -- what holds after these entries
    pub record Holds (done : List Entry) : Type 0 where
      pub kept : Kept done
      pub within : (h : ℕ) (s : HartState) → At M o h done s → P h s (view_of o done h) (counted done)
      pub alone : (h x : ℕ) → Own h x → IsOnlyWriter h x done

    module _ (done : List Entry) (e : Entry) (run : WellFormed B M (history_of o (done ++ e ∷ []))) (w : Holds done) where
      known : hart_of e < length o.harts
      known = known_hart o done e [] run.of_harts

      pub allowed : Allowed B o done e
      allowed = (LegalAfter-back B o [] done (e ∷ []) run.legal).0

      pub le : (g : ℕ) → lands g done ≤ length (own_stores g done)
      le g = balanced B (history_of o done) g (LegalAfter-front B o [] done (e ∷ []) run.legal)

      reads_view : (h : ℕ) (y : Access) → AllowedBy B (pending h done) (read o done h) y → ReadsFrom (view_of o done h) y
      reads_view h (load x width v) a = a
      reads_view h (exchange x old new) a = a.1
      reads_view h other a = tt

      -- its state decides what a hart makes
      pub acts : (h : ℕ) (s : HartState) → hart_of e ≡ h → is_land e ≡ false → At M o h done s → Acts M o h s (view_of o done h) e
      acts h s mine act at = opened (slice_get o.harts h) refl
        where
          opened : (x : Option HartOpeningValue) → slice_get o.harts h ≡ x → Acts M o h s (view_of o done h) e
          opened None none = absurd (let no : None ≡ Some s = sym (ap (option_map (state_after M (own h done))) none) ∙ at in cc)
          opened (Some x) is =
              let keeps = state_keeps M (history_of o done) h x s is at in
              record {
                mine = mine;
                act = act;
                can = made_by B M o [] done e [] run act s known (ap (state_of M (history_of o done)) mine ∙ at);
                reads = reads_view h (access_of e) (subst (λ g. AllowedBy B (pending g done) (read o done g) (access_of e)) mine allowed);
                bytes = λ x. read-below o done h x;
                opens = x;
                is = is;
                code = keeps.code;
                words = keeps.words;
                size = keeps.registers;
                zero = keeps.zero;
              }

      -- the hart of the entry has a state
      pub state_known : (h : ℕ) → hart_of e ≡ h → (s : HartState) × At M o h done s
      state_known h mine = by (slice_get o.harts h) refl
          (subst (λ g. PathOf M (slice_get o.harts g) (own g (done ++ e ∷ []))) mine (run.paths (hart_of e) known))
        where
          by : (x : Option HartOpeningValue) → slice_get o.harts h ≡ x → PathOf M x (own h (done ++ e ∷ [])) → (s : HartState) × At M o h done s
          by None none path = absurd path
          by (Some x) is path = (state_after M (own h done) x, ap (option_map (state_after M (own h done))) is)

      pub stands : is_land e ≡ false → Stands done e
      stands act =
          let k = state_known (hart_of e) refl in
          record {
            state = k.0;
            here = k.1;
            set = w.within (hart_of e) k.0 k.1;
            acting = acts (hart_of e) k.0 refl act k.1;
            knows = counts.knows (hart_of e) done w.kept;
          }

      -- ---- the protocol is kept

      pub may : p.May (hart_of e) (counted done) (access_of e)
      may = by (is_land e) refl
        where
          by : (l : Bool) → is_land e ≡ l → p.May (hart_of e) (counted done) (access_of e)
          by true landed = subst (p.May (hart_of e) (counted done)) (sym (land_is (access_of e) landed)) (counts.lands (hart_of e) (counted done))
          by false act =
              let k = stands act in
              c.keeps (hart_of e) k.state (view_of o done (hart_of e)) (counted done) e k.set k.acting k.knows

      -- ---- each hart's own bytes

      pub off_others : (h x : ℕ) → Own h x → hart_of e ≢ h → LeavesByteBy x (access_of e)
      off_others h x own other = by (is_land e) refl
        where
          by : (l : Bool) → is_land e ≡ l → LeavesByteBy x (access_of e)
          by true landed = subst (LeavesByteBy x) (sym (land_is (access_of e) landed)) tt
          by false act =
              let k = stands act in
              c.apart (hart_of e) k.state (view_of o done (hart_of e)) (counted done) e k.set k.acting k.knows h x (λ same. other (sym same)) own

      view_left : (h x : ℕ) → Own h x → LeavesByteBy x (access_of e) → view_of o (done ++ e ∷ []) h x ≡ view_of o done h x
      view_left h x own leaves = (kept B o h x done (e ∷ []) le (allowed, tt) (w.alone h x own) (leaves, tt)).0

      pub view_acted : (h x : ℕ) → hart_of e ≡ h → is_land e ≡ false → view_of o (done ++ e ∷ []) h x ≡ view_then (access_of e) (view_of o done h) x
      view_acted h x mine act = own_view B o h x done e (le h) allowed mine act

      pub view_other : (h x : ℕ) → Own h x → is_own h e ≡ false → view_of o (done ++ e ∷ []) h x ≡ view_of o done h x
      view_other h x own off = at (cases_eq (hart_of e) h) (is_land e) refl
        where
          at : (hart_of e ≡ h) ⊎ (hart_of e ≢ h) → (l : Bool) → is_land e ≡ l → view_of o (done ++ e ∷ []) h x ≡ view_of o done h x
          at same true landed = view_left h x own (subst (LeavesByteBy x) (sym (land_is (access_of e) landed)) tt)
          at (inl mine) false act = absurd (let no : false ≡ true = sym off ∙ own_is h e mine act in cc)
          at (inr other) false act = view_left h x own (off_others h x own other)

      -- ---- each hart's state is in its set again

      within_then : (h : ℕ) (z : HartState) → At M o h (done ++ e ∷ []) z → P h z (view_of o (done ++ e ∷ []) h) (counted (done ++ e ∷ []))
      within_then h z at = by (is_own h e) refl
        where
          by : (b : Bool) → is_own h e ≡ b → P h z (view_of o (done ++ e ∷ []) h) (counted (done ++ e ∷ []))
          by false off = c.frame h z (view_of o done h) (view_of o (done ++ e ∷ []) h) (counted done) (counted (done ++ e ∷ []))
              (w.within h z (same_state M o done e h off z at)) (λ x own. view_other h x own off)
              (λ x owns. counts.owned h x done e off run w.kept may owns) (counts.left h done e off run w.kept may)
          by true on =
              let parts = own_parts h e on in
              let k = state_known h parts.0 in
              let same : advanced k.0 (number_read e) ≡ z = next_state M o done e h parts.0 parts.1 k.0 z k.1 at in
              subst (λ y. P h y (view_of o (done ++ e ∷ []) h) (counted (done ++ e ∷ []))) same
              (c.frame h (advanced k.0 (number_read e)) (view_then (access_of e) (view_of o done h)) (view_of o (done ++ e ∷ []) h)
              (p.next h (access_of e) (counted done)) (counted (done ++ e ∷ []))
              (c.steps h k.0 (view_of o done h) (counted done) e (w.within h k.0 k.1) (acts h k.0 parts.0 parts.1 k.1) (counts.knows h done w.kept))
              (λ x own. view_acted h x parts.0 parts.1) (λ x owns. view_acted h x parts.0 parts.1) (counts.acted h done e parts.0))

      pub holds_next : Holds (done ++ e ∷ [])
      holds_next = record {
        kept = counts.goes_on done e run w.kept may stands;
        within = within_then;
        alone = λ h x own. alone_next h x done e le (w.alone h x own) (off_others h x own);
      }

    -- what the set says of its hart's accesses is so of this one
    module _ (h : ℕ) (Is : Counts → Access → Type 0) (lands : (d : Counts) → Is d land)
        (each : (s : HartState) (m : View) (d : Counts) (e : Entry) → P h s m d → Acts M o h s m e → p.Knows h d m → Is d (access_of e)) where
      pub is_next : (done : List Entry) (e : Entry) → WellFormed B M (history_of o (done ++ e ∷ [])) → Holds done
          → hart_of e ≡ h → Is (counted done) (access_of e)
      is_next done e run w here = by (is_land e) refl
        where
          by : (l : Bool) → is_land e ≡ l → Is (counted done) (access_of e)
          by true landed = subst (Is (counted done)) (sym (land_is (access_of e) landed)) (lands (counted done))
          by false act =
              let k = state_known done e run w h here in
              each k.0 (view_of o done h) (counted done) e (w.within h k.0 k.1) (acts done e run w h k.0 here act k.1) (counts.knows h done w.kept)

    -- where the run begins
    pub holds_first : Holds []
    holds_first = record {
      kept = counts.first;
      within = λ h s at. opened h s (slice_get o.harts h) refl at;
      alone = λ h x own g other. All-nil (LeavesByte x);
    }
      where
        opened : (h : ℕ) (s : HartState) (x : Option HartOpeningValue) → slice_get o.harts h ≡ x → option_map (state_after M []) x ≡ Some s
            → P h s (view_of o [] h) (counted [])
        opened h s None is none = absurd (cc)
        opened h s (Some x) is some =
            let same : opens_as M x ≡ s = cc in
            subst (λ y. P h y (view_of o [] h) (counted [])) same
            (c.frame h (opens_as M x) (view_of o [] h) (view_of o [] h) start (counted []) (c.opens h x is) (λ y own. refl) (λ y owns. refl) (counts.opens h))

    -- what holds of each entry where the front holds, holds of all
    module _ (Goal : List Entry → List Entry → Type 0) (ends : (done : List Entry) → Goal done [])
        (begins : (done : List Entry) (e : Entry) (rest : List Entry) → WellFormed B M (history_of o (done ++ e ∷ [])) → Holds done
        → Goal (done ++ e ∷ []) rest → Goal done (e ∷ rest)) where
      pub each_from : (done rest : List Entry) → WellFormed B M (history_of o (done ++ rest)) → Holds done → Goal done rest
      each_from done [] run w = ends done
      each_from done (e ∷ rest) run w =
          let whole_run : WellFormed B M (history_of o ((done ++ e ∷ []) ++ rest)) =
          subst (λ xs. WellFormed B M (history_of o xs)) (sym (append_assoc done (e ∷ []) rest)) run in
          let front : WellFormed B M (history_of o (done ++ e ∷ [])) = kept-front B M o (done ++ e ∷ []) rest whole_run in
          begins done e rest front w (each_from (done ++ e ∷ []) rest whole_run (holds_next done e front w))

    from : (done rest : List Entry) → WellFormed B M (history_of o (done ++ rest)) → Holds done → Holds (done ++ rest)
    from done [] run w = subst Holds (sym (append-nil done)) w
    from done (e ∷ rest) run w =
        let all : (done ++ e ∷ []) ++ rest ≡ done ++ e ∷ rest = append_assoc done (e ∷ []) rest in
        let whole_run : WellFormed B M (history_of o ((done ++ e ∷ []) ++ rest)) = subst (λ xs. WellFormed B M (history_of o xs)) (sym all) run in
        subst Holds all (from (done ++ e ∷ []) rest whole_run (holds_next done e (kept-front B M o (done ++ e ∷ []) rest whole_run) w))

    -- in every run, of any length
    pub holds : (es : List Entry) → WellFormed B M (history_of o es) → Holds es
    holds es run = from [] es run holds_first
