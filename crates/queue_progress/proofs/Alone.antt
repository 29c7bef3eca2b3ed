-- A hart that runs or has ended in every run, alone: its stores land, and then it executes n instructions, the stores of which land at once, unless it
-- ends before.
use Rattle.std.proofs.Common.{ℕ, zero, suc, ◌+◌, ◌≤◌, ◌≡◌, ◌≢◌, ◌==◌, ◌&&◌, ◌⊎◌, inl, inr, if◌then◌else◌, Bool, true, false, Some, List, [], ◌∷◌, ◌++◌, drop}
use Rattle.std.proofs.Common.{refl, sym, ◌∙◌, ap, subst, arith, append_assoc, append-nil}
use Rattle.std.specs.Prelude.{All, option_map}
use Rattle.std.proofs.lemmas.List.Elements.{All-nil, All-cons, All-append, All-head, All-tail}
use Rattle.std.proofs.lemmas.Bool.{ne_eqb}
use Rattle.memory.specs.declared.writes.Write.{Write}
use Rattle.hart.specs.{HartState, need_of}
use Rattle.hart.specs.declared.need.Need.{Need}
use Rattle.hart.specs.declared.status.Status.TheVariants as status
use Rattle.step_machine.specs.declared.events.Event.TheVariants as event
use Rattle.step_machine.specs.declared.events.Outcome.TheVariants as outcome
use Rattle.step_machine.specs.declared.events.Entry.{Entry}
use Rattle.step_machine.specs.declared.events.Entry.TheVariants as entry
use Rattle.step_machine.specs.Names.{OpeningValue, history_of, with_entry, access_of, hart_of, is_land, is_own, stored_by, landed_by, pending}
use Rattle.step_machine.specs.Names.{WellFormed, Allowed}
use Rattle.step_machine.specs.Paths.{entry_of}
use Rattle.step_machine.proofs.Acts.{HasToWait, decide, does, land_happens}
use Rattle.step_machine.proofs.{kept-happens, kept-front, pending-other, pending-land}
use Rattle.store_buffers.proofs.Effects.{stored_none, landed_none}
use Rattle.store_buffers.proofs.OwnEntries.{own_is}
use Rattle.queue_progress.specs.Rows.{executed, RunsOrEnds, HasEnded, Comes}

pub executed-append : (h : ℕ) (es fs : List Entry) → executed h (es ++ fs) ≡ executed h es + executed h fs
executed-append h [] fs = omega arith
executed-append h (e ∷ es) fs = let rest : executed h (es ++ fs) ≡ executed h es + executed h fs = executed-append h es fs in
    omega (arith, rest)

no_wait : (B : ℕ) (ws : List Write) (n : Need) → 1 ≤ B → ws ≡ [] → HasToWait B ws n → ⊥
no_wait B ws n some none wait = grind arith

-- these entries may follow, are the hart's, and leave nothing pending of it
pub record Alone (B M : ℕ) (o : OpeningValue) (h n : ℕ) (es : List Entry) : Type 0 where
  pub entries : List Entry
  pub run : WellFormed B M (history_of o (es ++ entries))
  pub mine : All (λ e. hart_of e ≡ h) entries
  pub empty : pending h (es ++ entries) ≡ []
  pub many : executed h entries ≡ n

-- what is pending of another hart stays so
still-empty-one : (B M : ℕ) (o : OpeningValue) (g : ℕ) (es : List Entry) (e : Entry) → WellFormed B M (history_of o es) → hart_of e ≢ g → pending g es ≡ []
    → pending g (es ++ e ∷ []) ≡ []
still-empty-one B M o g es e run apart none = pending-other B (history_of o es) g e run.legal
    (ap (λ t. stored_by t (access_of e)) (ne_eqb (hart_of e) g apart) ∙ stored_none (access_of e))
    (ap (λ t. landed_by t (access_of e)) (ne_eqb (hart_of e) g apart) ∙ landed_none (access_of e)) ∙ none

pub still-empty : (B M : ℕ) (o : OpeningValue) (h g : ℕ) (es fs : List Entry) → WellFormed B M (history_of o (es ++ fs)) → All (λ e. hart_of e ≡ h) fs
    → h ≢ g → pending g es ≡ [] → pending g (es ++ fs) ≡ []
still-empty B M o h g es [] run mine apart none = ap (pending g) (append-nil es) ∙ none
still-empty B M o h g es (e ∷ fs) run mine apart none =
    let whole : WellFormed B M (history_of o ((es ++ e ∷ []) ++ fs)) = subst (λ xs. WellFormed B M (history_of o xs)) (sym (append_assoc es (e ∷ []) fs)) run in
    ap (pending g) (sym (append_assoc es (e ∷ []) fs))
    ∙ still-empty B M o h g (es ++ e ∷ []) fs whole (All-tail (λ e. hart_of e ≡ h) e fs mine) apart
    (still-empty-one B M o g es e (kept-front B M o es (e ∷ fs) run)
    (λ same. apart (sym (All-head (λ e. hart_of e ≡ h) e fs mine) ∙ same)) none)

-- what comes after more entries comes after fewer
pub before : (B M : ℕ) (o : OpeningValue) (IsSo : List Entry → Type 0) (es fs : List Entry) → Comes B M o IsSo (es ++ fs) → Comes B M o IsSo es
before B M o IsSo es fs w = record {
  later = fs ++ w.later;
  run = subst (λ xs. WellFormed B M (history_of o xs)) (append_assoc es fs w.later) w.run;
  so = subst IsSo (append_assoc es fs w.later) w.so;
}

module _ (B M : ℕ) (o : OpeningValue) (h : ℕ) (there : RunsOrEnds B M o h) (some : 1 ≤ B) where
  -- a landing is no instruction
  landing-none : is_own h (entry.Land h) ≡ false
  landing-none = by (h == h)
    where
      by : (t : Bool) → (t && false) ≡ false
      by true = refl
      by false = refl

  -- its stores land
  landing-all : (ws : List Write) (es : List Entry) → WellFormed B M (history_of o es) → pending h es ≡ ws → Alone B M o h 0 es
  landing-all [] es run is = record {
    entries = [];
    run = subst (λ xs. WellFormed B M (history_of o xs)) (sym (append-nil es)) run;
    mine = All-nil (λ e. hart_of e ≡ h);
    empty = ap (pending h) (append-nil es) ∙ is;
    many = refl;
  }
  landing-all (w ∷ ws) es run is =
      let at = there es run in
      let one : WellFormed B M (history_of o (es ++ entry.Land h ∷ [])) =
      kept-happens B M (history_of o es) (event.Land h) (outcome.Did (entry.Land h)) (with_entry (history_of o es) (entry.Land h)) run
      (land_happens B M (history_of o es) h at.0 w ws run at.1 is) in
      let rest = landing-all ws (es ++ entry.Land h ∷ []) one (pending-land B (history_of o es) h run.legal ∙ ap (drop 1) is) in
      let all : (es ++ entry.Land h ∷ []) ++ rest.entries ≡ es ++ entry.Land h ∷ rest.entries = append_assoc es (entry.Land h ∷ []) rest.entries in
      record {
        entries = entry.Land h ∷ rest.entries;
        run = subst (λ xs. WellFormed B M (history_of o xs)) all rest.run;
        mine = All-cons (λ e. hart_of e ≡ h) (entry.Land h) rest.entries refl rest.mine;
        empty = ap (pending h) (sym all) ∙ rest.empty;
        many = ap (λ t. (if t then 1 else 0) + executed h rest.entries) landing-none
            ∙ (let none : executed h rest.entries ≡ 0 = rest.many in omega (arith, none));
      }

  pub landing : (es : List Entry) → WellFormed B M (history_of o es) → Alone B M o h 0 es
  landing es run = landing-all (pending h es) es run refl

  -- with nothing pending it executes an instruction, unless it has ended
  record Act (es : List Entry) : Type 0 where
    made : Entry
    run : WellFormed B M (history_of o (es ++ made ∷ []))
    mine : hart_of made ≡ h
    act : is_land made ≡ false

  acting : (es : List Entry) → WellFormed B M (history_of o es) → pending h es ≡ [] → Act es ⊎ HasEnded M o h es
  acting es run none = elim ((there es run).2) [
    | inl runs ↦ inl (by runs (decide B o es h (need_of (there es run).0)))
    | inr ended ↦ inr (ap (λ z. option_map (λ (s : HartState). s.status) z) (there es run).1 ∙ ap (λ x. Some x) ended)
  ]
    where
      by : (there es run).0.status ≡ status.Running
          → ((v : ℕ) × Allowed B o es (entry_of h (need_of (there es run).0) v)) ⊎ HasToWait B (pending h es) (need_of (there es run).0) → Act es
      by runs (inr wait) = absurd (no_wait B (pending h es) (need_of (there es run).0) some none wait)
      by runs (inl can) =
          let at = there es run in
          let d = does B M (history_of o es) h at.0 run at.1 runs (need_of at.0) can.0 refl can.1 in
          record {
            made = entry_of h (need_of at.0) can.0;
            run = kept-happens B M (history_of o es) (event.Act h) (outcome.Did (entry_of h (need_of at.0) can.0))
                (with_entry (history_of o es) (entry_of h (need_of at.0) can.0)) run d;
            mine = d.for_event.0;
            act = d.for_event.1;
          }

  pub acting-on : (n : ℕ) (es : List Entry) → WellFormed B M (history_of o es) → pending h es ≡ [] → Alone B M o h n es ⊎ Comes B M o (HasEnded M o h) es
  acting-on zero es run none = inl (landing es run)
  acting-on (suc n) es run none = by (acting es run none) (acting-on n)
    where
      longer : (a : Act es) (l : Alone B M o h 0 (es ++ a.made ∷ [])) → Alone B M o h n ((es ++ a.made ∷ []) ++ l.entries) → Alone B M o h (suc n) es
      longer a l rest =
          let all : ((es ++ a.made ∷ []) ++ l.entries) ++ rest.entries ≡ es ++ a.made ∷ (l.entries ++ rest.entries) =
          append_assoc (es ++ a.made ∷ []) l.entries rest.entries ∙ append_assoc es (a.made ∷ []) (l.entries ++ rest.entries) in
          record {
            entries = a.made ∷ (l.entries ++ rest.entries);
            run = subst (λ xs. WellFormed B M (history_of o xs)) all rest.run;
            mine = All-cons (λ e. hart_of e ≡ h) a.made (l.entries ++ rest.entries) a.mine
                (All-append (λ e. hart_of e ≡ h) l.entries rest.entries l.mine rest.mine);
            empty = ap (pending h) (sym all) ∙ rest.empty;
            many = ap (λ t. (if t then 1 else 0) + executed h (l.entries ++ rest.entries)) (own_is h a.made a.mine a.act)
                ∙ (let sum : executed h (l.entries ++ rest.entries) ≡ executed h l.entries + executed h rest.entries =
                executed-append h l.entries rest.entries in
                let none : executed h l.entries ≡ 0 = l.many in
                let those : executed h rest.entries ≡ n = rest.many in omega (arith, sum, none, those));
          }

      by : Act es ⊎ HasEnded M o h es
          → ((fs : List Entry) → WellFormed B M (history_of o fs) → pending h fs ≡ [] → Alone B M o h n fs ⊎ Comes B M o (HasEnded M o h) fs)
          → Alone B M o h (suc n) es ⊎ Comes B M o (HasEnded M o h) es
      by (inr ended) on = inr (record {
        later = [];
        run = subst (λ xs. WellFormed B M (history_of o xs)) (sym (append-nil es)) run;
        so = subst (HasEnded M o h) (sym (append-nil es)) ended;
      })
      by (inl a) on =
          let l = landing (es ++ a.made ∷ []) a.run in
          elim (on ((es ++ a.made ∷ []) ++ l.entries) l.run l.empty) [
            | inl rest ↦ inl (longer a l rest)
            | inr ends ↦ inr (before B M o (HasEnded M o h) es (a.made ∷ [])
                (before B M o (HasEnded M o h) (es ++ a.made ∷ []) l.entries ends))
          ]
