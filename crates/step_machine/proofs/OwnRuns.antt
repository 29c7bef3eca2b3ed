-- A kept history is the run of its own entries' events, and each front of it is kept.
use Rattle.std.proofs.Common.{arith, ◌≡◌, ℕ, ◌<◌, true, false, List, [], ◌∷◌, ◌++◌, length, Option, Some, None, refl, sym, ◌∙◌, ap, subst, append-nil}
use Rattle.std.proofs.Common.{append_assoc}
use Rattle.std.specs.Prelude.{map, option_map, All}
use Rattle.std.specs.List.{slice_get}
use Rattle.std.proofs.lemmas.List.Elements.{All-nil, All-cons, All-head, All-tail}
use Rattle.std.proofs.lemmas.Option.{slice_get-get_or}
use Rattle.hart.specs.{HartState, need_of}
use Rattle.hart.specs.declared.need.Need.{Need}
use Rattle.step_machine.specs.Names.{Entry, HartOpeningValue, OpeningValue, History, history_of, HistoryWithRoom, with_entry, hart_of, is_land, own, Allowed}
use Rattle.step_machine.specs.Names.{IsOfHarts, WellFormed, CanFollow, Adds, RunFrom, event_of, IsOwnRun, Config, IsMachineAt}
use Rattle.step_machine.specs.declared.events.Entry.TheVariants as entry
use Rattle.step_machine.specs.declared.events.Outcome.TheVariants as outcome
use Rattle.step_machine.specs.Paths.{entry_of, number_read, CanMake, after_entries, opens_as, state_of, PathOf}
use Rattle.step_machine.proofs.Appended.{own-append, Makes-front, LegalAfter-front}
use Rattle.step_machine.proofs.Follows.{act_only}
use Rattle.step_machine.proofs.Running.{hart_follows}

pub path_front : (M : ℕ) (so : Option HartOpeningValue) (es fs : List Entry) → PathOf M so (es ++ fs) → PathOf M so es
path_front M so es fs p = grind (arith, Makes-front)

of_harts_front : (o : OpeningValue) (es fs : List Entry) → All (IsOfHarts o) (es ++ fs) → All (IsOfHarts o) es
of_harts_front o [] fs all = All-nil (IsOfHarts o)
of_harts_front o (e ∷ es) fs all = All-cons (IsOfHarts o) e es (All-head (IsOfHarts o) e (es ++ fs) all)
    (of_harts_front o es fs (All-tail (IsOfHarts o) e (es ++ fs) all))

-- the front of a kept history is kept
pub kept-front : (B M : ℕ) (o : OpeningValue) (es fs : List Entry) → WellFormed B M (history_of o (es ++ fs)) → WellFormed B M (history_of o es)
kept-front B M o es fs kept = grind (arith, LegalAfter-front B o [] es fs kept.legal, path_front M, own-append, of_harts_front o es fs kept.of_harts)

-- two entries by which one state does what it needs, after the same entries, are one entry
same_done : (B : ℕ) (o : OpeningValue) (before : List Entry) (h : ℕ) (n : Need) (v w : ℕ)
    → Allowed B o before (entry_of h n v) → Allowed B o before (entry_of h n w) → entry_of h n v ≡ entry_of h n w
same_done B o before h n v w one two = grind arith

-- each of the opening's harts has a state
pub state_there : (M : ℕ) (t : History) (h : ℕ) → h < length t.opening.harts → (s : HartState) × (state_of M t h ≡ Some s)
state_there M t h within = at (slice_get t.opening.harts h) refl
  where
    at : (so : Option HartOpeningValue) → slice_get t.opening.harts h ≡ so → (s : HartState) × (state_of M t h ≡ Some s)
    at None none =
        let some : slice_get t.opening.harts h ≡ Some _ = slice_get-get_or t.opening.harts h (record { code = []; registers = []; inbox = [] }) within in
        cc
    at (Some x) is = (
      after_entries (opens_as M x) (own h t.entries),
      ap (λ so. option_map (λ (y : HartOpeningValue). after_entries (opens_as M y) (own h t.entries)) so) is,
    )

-- of a hart's own entries only one can follow
pub only_act : (B M : ℕ) (t : History) (h : ℕ) (e d : Entry) → h < length t.opening.harts → hart_of e ≡ h
    → is_land e ≡ false → CanFollow B M t e → hart_of d ≡ h → is_land d ≡ false → CanFollow B M t d → d ≡ e
only_act B M t h e d within mine act f his does g =
    let there : (s : HartState) × (state_of M t h ≡ Some s) = state_there M t h within in
    at there.0 (act_only B M t h there.0 e mine act there.1 f) (act_only B M t h there.0 d his does there.1 g)
  where
    at : (s : HartState) → CanMake s e × Allowed B t.opening t.entries e → CanMake s d × Allowed B t.opening t.entries d → d ≡ e
    at s one two =
        let is : e ≡ entry_of h (need_of s) (number_read e) = one.0.made ∙ ap (λ k. entry_of k (need_of s) (number_read e)) mine in
        let be : d ≡ entry_of h (need_of s) (number_read d) = two.0.made ∙ ap (λ k. entry_of k (need_of s) (number_read d)) his in
        be ∙ same_done B t.opening t.entries h (need_of s) (number_read d) (number_read e)
        (subst (Allowed B t.opening t.entries) be two.1) (subst (Allowed B t.opening t.entries) is one.1) ∙ sym is

landing : (e : Entry) → is_land e ≡ true → e ≡ entry.Land (hart_of e)
landing e is = grind arith

-- an entry that can follow is added by its own event
pub added : (B M : ℕ) (t : History) (e : Entry) → CanFollow B M t e → Adds B M t (event_of e) e (with_entry t e)
added B M t e f = grind (arith, landing e, only_act B M t (hart_of e) e, hart_follows B M t e f)

run_on : (B M : ℕ) (o : OpeningValue) (before es : List Entry) → WellFormed B M (history_of o (before ++ es))
    → RunFrom B M (history_of o before) (map event_of es) (history_of o (before ++ es))
run_on B M o before [] kept = ap (history_of o) (append-nil before)
run_on B M o before (e ∷ es) kept =
    let longer : WellFormed B M (history_of o ((before ++ e ∷ []) ++ es)) =
    subst (λ (xs : List Entry). WellFormed B M (history_of o xs)) (sym (append_assoc before (e ∷ []) es)) kept in
    let here : WellFormed B M (history_of o (before ++ e ∷ [])) = kept-front B M o (before ++ e ∷ []) es longer in
    let rest : RunFrom B M (history_of o (before ++ e ∷ [])) (map event_of es)
    (history_of o ((before ++ e ∷ []) ++ es)) =
    run_on B M o (before ++ e ∷ []) es longer in (
      outcome.Did e,
      history_of o (before ++ e ∷ []),
      added B M (history_of o before) e (record { legal = here.legal; path = here.paths (hart_of e) (last_of_harts o before e here.of_harts) }),
      subst (λ (xs : List Entry). RunFrom B M (history_of o (before ++ e ∷ [])) (map event_of es) (history_of o xs)) (append_assoc before (e ∷ []) es) rest,
    )
  where
    last_of_harts : (o : OpeningValue) (before : List Entry) (e : Entry) → All (IsOfHarts o) (before ++ e ∷ []) → hart_of e < length o.harts
    last_of_harts o [] e all = All-head (IsOfHarts o) e [] all
    last_of_harts o (d ∷ before) e all = last_of_harts o before e (All-tail (IsOfHarts o) d (before ++ e ∷ []) all)

pub own_run : (B M : ℕ) (t : History) → WellFormed B M t → IsOwnRun B M t
own_run B M t kept = run_on B M t.opening [] t.entries kept

-- what a sound machine did, as it is seen, is the run of its own entries' events
pub own_run_seen : (B M n : ℕ) (o : OpeningValue) (es : List Entry) (c : Config) (p : HistoryWithRoom)
    → IsMachineAt B M (history_of o es) c n → record { history = history_of o es; room = n } ≡ p
    → IsOwnRun B M p.history
own_run_seen B M n o es c p sound is = subst (λ (q : HistoryWithRoom). IsOwnRun B M q.history) is (own_run B M (history_of o es) sound.kept)
