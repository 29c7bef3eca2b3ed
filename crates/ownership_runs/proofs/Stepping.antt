-- The steps of a run, one event further; their entries are the run's.
use Rattle.std.proofs.Common.{ℕ, zero, suc, ◌≡◌, ◌<◌, ◌+◌, List, [], ◌∷◌, ◌++◌, ◌≤◌, length, map, take, get_or, refl}
use Rattle.std.proofs.Common.{sym, ap, subst, ◌∙◌, arith, append_assoc, append-nil}
use Rattle.step_machine.specs.declared.events.Event.{Event}
use Rattle.step_machine.specs.declared.events.Outcome.{Outcome}
use Rattle.step_machine.specs.declared.events.Outcome.TheVariants.{Did, Waited, NothingToLand, Over, NoHart}
use Rattle.step_machine.specs.Names.{OpeningValue, History, at_opening, Happens, Run, RunFrom}
use Rattle.step_machine.proofs.Running.{run-one}
use Rattle.queue_parties.specs.Parties.{QueueCounts}
use Rattle.queue_layouts.specs.declared.AnyQueue.{AnyQueue}
use Rattle.std.proofs.Common.{Bool, true, false, Some, drop}
use Rattle.std.specs.Prelude.{if◌then◌else◌}
use Rattle.std.proofs.Math.Seq.{drop-cons}
use Rattle.std.proofs.lemmas.List.{take_more}
use Rattle.ownership_runs.specs.{AreSteps, AreStepsFrom, IsStepOf, Step, entry_counts, handed_back, hands_back, pc_at}

module _ (B M : ℕ) where
  steps-more : (t : History) (evs : List Event) (steps : List Step) (mid : History) (ev : Event) (o : Outcome) (u : History) (now : List Step)
      → AreStepsFrom B M t evs steps mid → Happens B M mid ev o u → IsStepOf M mid o now → AreStepsFrom B M t (evs ++ ev ∷ []) (steps ++ now) u
  steps-more t [] steps mid ev o u now are happens did =
      let begin : mid ≡ t = are.1 in (
        o,
        u,
        now,
        [],
        subst (λ x. Happens B M x ev o u) begin happens,
        subst (λ x. IsStepOf M x o now) begin did,
        ap (λ xs. xs ++ now) are.0 ∙ sym (append-nil now),
        (refl, refl),
      )
  steps-more t (e ∷ evs) steps mid ev o u now are happens did = (
    are.0,
    are.1,
    are.2,
    are.3 ++ now,
    are.4,
    are.5,
    ap (λ xs. xs ++ now) are.6 ∙ append_assoc are.2 are.3 now,
    steps-more are.1 evs are.3 mid ev o u now are.7 happens did,
  )

  pub next-steps : (t : History) (evs : List Event) (i : ℕ) (d : Event) (steps : List Step) (mid : History) (o : Outcome) (u : History) (now : List Step)
      → i < length evs → AreStepsFrom B M t (take i evs) steps mid → Happens B M mid (get_or evs i d) o u → IsStepOf M mid o now
      → AreStepsFrom B M t (take (i + 1) evs) (steps ++ now) u
  next-steps t evs i d steps mid o u now within are happens did =
      subst (λ es. AreStepsFrom B M t es (steps ++ now) u) (sym (take_more evs i d within))
      (steps-more t (take i evs) steps mid (get_or evs i d) o u now are happens did)

  none : (t u : History) (now : List Step) → u ≡ t → now ≡ [] → u.entries ≡ t.entries ++ map (λ (s : Step). s.entry) now
  none t u now same did = ap (λ (h : History). h.entries) same ∙ sym (append-nil t.entries)
      ∙ ap (λ xs. t.entries ++ map (λ (s : Step). s.entry) xs) (sym did)

  -- what one event did
  entry-of : (t : History) (ev : Event) (o : Outcome) (u : History) (now : List Step) → Happens B M t ev o u → IsStepOf M t o now
      → u.entries ≡ t.entries ++ map (λ (s : Step). s.entry) now
  entry-of t ev (Did e) u now adds did = ap (λ (h : History). h.entries) adds.after ∙ ap (λ xs. t.entries ++ map (λ (s : Step). s.entry) xs) (sym did.2)
  entry-of t ev Waited u now idles did = none t u now idles.after did
  entry-of t ev NothingToLand u now idles did = none t u now idles.after did
  entry-of t ev Over u now idles did = none t u now idles.after did
  entry-of t ev NoHart u now idles did = none t u now idles.after did

  steps-run : (t : History) (evs : List Event) (steps : List Step) (u : History) → AreStepsFrom B M t evs steps u → RunFrom B M t evs u
  steps-run t [] steps u are = are.1
  steps-run t (ev ∷ evs) steps u are = (are.0, are.1, are.4, steps-run are.1 evs are.3 u are.7)

  steps-entries : (t : History) (evs : List Event) (steps : List Step) (u : History) → AreStepsFrom B M t evs steps u
      → u.entries ≡ t.entries ++ map (λ (s : Step). s.entry) steps
  steps-entries t [] steps u are = ap (λ (h : History). h.entries) are.1 ∙ sym (append-nil t.entries)
      ∙ ap (λ xs. t.entries ++ map (λ (s : Step). s.entry) xs) (sym are.0)
  steps-entries t (ev ∷ evs) steps u are = steps-entries are.1 evs are.3 u are.7
      ∙ ap (λ xs. xs ++ map (λ (s : Step). s.entry) are.3) (entry-of t ev are.0 are.1 are.2 are.4 are.5)
      ∙ append_assoc t.entries (map (λ (s : Step). s.entry) are.2) (map (λ (s : Step). s.entry) are.3)
      ∙ ap (λ xs. t.entries ++ xs) (sym (map-append are.2 are.3) ∙ ap (map (λ (s : Step). s.entry)) (sym are.6))
    where
      map-append : (xs ys : List Step) → map (λ (s : Step). s.entry) (xs ++ ys) ≡ map (λ (s : Step). s.entry) xs ++ map (λ (s : Step). s.entry) ys
      map-append [] ys = refl
      map-append (x ∷ xs) ys = ap (λ es. x.entry ∷ es) (map-append xs ys)

  pub entries-are : (o : OpeningValue) (events : List Event) (steps : List Step) (t : History) → AreSteps B M o events steps → Run B M o events t
      → map (λ (s : Step). s.entry) steps ≡ t.entries
  entries-are o events steps t are run = sym (steps-entries (at_opening o) events steps are.history are.from)
      ∙ ap (λ (h : History). h.entries) (run-one B M (at_opening o) events are.history t (steps-run (at_opening o) events steps are.history are.from) run)

pub pc-at : (steps : List Step) (place : ℕ) (d : Step) → place < length steps → (get_or steps place d).pc ≡ pc_at steps place
pc-at [] place d less = absurd (omega (arith, less))
pc-at (s ∷ ss) zero d less = refl
pc-at (s ∷ ss) (suc n) d less = pc-at ss n d (omega (arith, less))

pub pc-past : (steps : List Step) (place : ℕ) → length steps ≤ place → pc_at steps place ≡ 0
pc-past [] place past = refl
pc-past (s ∷ ss) zero past = absurd (omega (arith, past))
pc-past (s ∷ ss) (suc n) past = pc-past ss n (omega (arith, past))

-- ---- the step that hands a position back

module _ (q : AnyQueue) (k : ℕ) (c : QueueCounts) (steps : List Step) (i : ℕ) (d : Step) (less : i < length steps) where
  by-test : (b : Bool) → hands_back k c (entry_counts q c (get_or steps i d).entry) ≡ b → handed_back q k c (drop i steps)
      ≡ (if b then Some (get_or steps i d).pc else handed_back q k (entry_counts q c (get_or steps i d).entry) (drop (suc i) steps))
  by-test b is = ap (handed_back q k c) (drop-cons steps i d less)
      ∙ ap (λ r. if r then Some (get_or steps i d).pc else handed_back q k (entry_counts q c (get_or steps i d).entry) (drop (suc i) steps)) is

  pub handed-here : (after : QueueCounts) → after ≡ entry_counts q c (get_or steps i d).entry → hands_back k c after ≡ true
      → handed_back q k c (drop i steps) ≡ Some (get_or steps i d).pc
  handed-here after is on = by-test true (ap (hands_back k c) (sym is) ∙ on)

  pub handed-later : (after : QueueCounts) → after ≡ entry_counts q c (get_or steps i d).entry → hands_back k c after ≡ false
      → handed_back q k c (drop i steps) ≡ handed_back q k after (drop (i + 1) steps)
  handed-later after is off = by-test false (ap (hands_back k c) (sym is) ∙ off)
      ∙ ap (λ (n : QueueCounts). handed_back q k n (drop (suc i) steps)) (sym is)
      ∙ ap (λ n. handed_back q k after (drop n steps)) (let same : suc i ≡ i + 1 = omega arith in same)
