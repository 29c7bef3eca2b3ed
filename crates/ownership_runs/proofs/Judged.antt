-- What the judgement of runs says of them.
use Rattle.std.proofs.Common.{ℕ, ◌≡◌, ◌+◌, min, Bool, List, [], ◌∷◌, ◌++◌, Option, None, Some, sym, ap, subst, ◌∙◌, arith}
use Rattle.step_machine.specs.declared.events.Event.{Event}
use Rattle.step_machine.specs.declared.events.Entry.{Entry}
use Rattle.step_machine.specs.Names.{OpeningValue, History, history_of, at_opening, Legal, WellFormed, Run}
use Rattle.step_machine.proofs.Running.{kept-at_opening, kept-run as well_formed, opening_kept, run-one}
use Rattle.queue_parties.specs.Parties.{QueueCounts}
use Rattle.queue_layouts.specs.declared.AnyQueue.{AnyQueue}
use Rattle.queue_layouts.specs.declared.AnyQueue.TheVariants.{Indexed, Tagged}
use Rattle.judged_runs.specs.Telling.{MOST, summed}
use Rattle.judged_runs.proofs.Histories.{capped_both, runs_both, runs_one, total_both}
use Rattle.ownership_runs.specs.{Violation, Moved, Keeps, HasSlot, IsAnyQueue, Rests, Follows, first_ownership_violation, HasKeptRun, BreaksNothing}
use Rattle.ownership_runs.specs.{HasBrokenRun, published_in, taken_in, HasMoved, AreMovesOf, Loss, judged_loss, LosesNothing, HasLoss}
use Rattle.ownership_runs.specs.{AreSteps, BreaksAndLoses, Step, first_loss, loss_after}
use Rattle.std.proofs.Common.{true, false, map, refl}
use Rattle.std.specs.Prelude.{if◌then◌else◌}
use Rattle.ownership_runs.proofs.First.{kept-all, none-first}
use Rattle.ownership_runs.proofs.Stepping.{entries-are}

follows : (B : ℕ) (q : AnyQueue) (start : QueueCounts) (o : OpeningValue) (es : List Entry) → IsAnyQueue q → Legal B (history_of o es) → Rests q o [] start
    → Keeps q start es → Follows B q start o [] es
follows B (Indexed q) start o es queue legal rest keeps = record { queue = queue; legal = legal; rest = rest; keeps = keeps }
follows B (Tagged q) start o es slots legal rest keeps = record { slots = slots; legal = legal; rest = rest; keeps = keeps }

-- what is found of a run is one, or nothing
module _ {X : Type 0} (found : List Entry → Option X) (B M : ℕ) (o : OpeningValue) (events : List Event) (t u : History)
    (run : Run B M o events t) (other : Run B M o events u) where
  same-found : found t.entries ≡ found u.entries
  same-found = ap (λ (h : History). found h.entries) (run-one B M (at_opening o) events t u run other)

  one-found : (a b : X) → found t.entries ≡ Some a → found u.entries ≡ Some b → a ≡ b
  one-found a b is also = let both : Some a ≡ Some b = sym is ∙ same-found ∙ also in cc

  none-or-found : (b : X) → found t.entries ≡ None → found u.entries ≡ Some b → ⊥
  none-or-found b none is = let some = same-found ∙ is in absurd (cc)

module _ (B M : ℕ) (o : OpeningValue) (q : AnyQueue) (start : QueueCounts) where
  module _ (events : List Event) where
    -- a run has one first violation, or none
    pub one-violation : (b d : Violation) → HasBrokenRun B M o q start events b → HasBrokenRun B M o q start events d → b ≡ d
    one-violation b d has also =
        one-found (first_ownership_violation q start) B M o events has.history also.history has.run also.run b d has.first also.first

    pub none-or-one : (b : Violation) → BreaksNothing B M o q start events → HasBrokenRun B M o q start events b → ⊥
    none-or-one b free has =
        none-or-found (first_ownership_violation q start) B M o events free.history has.history free.run has.run b free.none has.first

    -- one that keeps the protocol has none
    pub keeps-or-breaks : (b : Violation) → HasSlot q → HasKeptRun B M o q start events → HasBrokenRun B M o q start events b → ⊥
    keeps-or-breaks b some keeps has =
        none-or-one b (record { history = keeps.history; run = keeps.run; none = none-first q some start keeps.history.entries keeps.keeps }) has

    -- it is a run of which the laws of the protocol speak
    pub follows-run : (t : History) → IsAnyQueue q → Rests q o [] start → HasKeptRun B M o q start events → Run B M o events t
        → Follows B q start o [] t.entries
    follows-run t queue rest keeps run =
        let same : keeps.history ≡ t = run-one B M (at_opening o) events keeps.history t keeps.run run in
        let formed : WellFormed B M t = well_formed B M (at_opening o) events t (kept-at_opening B M o) run in
        follows B q start o t.entries queue
        (subst (λ (x : OpeningValue). Legal B (history_of x t.entries)) (opening_kept B M o events t run) formed.legal) rest
        (subst (λ (u : History). Keeps q start u.entries) same keeps.keeps)

    -- one without a violation keeps the protocol
    pub kept-run : HasSlot q → BreaksNothing B M o q start events → HasKeptRun B M o q start events
    kept-run some free = record { history = free.history; run = free.run; keeps = kept-all q some start free.history.entries free.none }

  -- one loss that is judged, or none
  module _ (broken : Bool) (events : List Event) where
    pub one-loss : (l m : Loss) → HasLoss B M o q start broken events l → HasLoss B M o q start broken events m → l ≡ m
    one-loss l m has also = one-found (judged_loss broken q o start) B M o events has.history also.history has.run also.run l m has.first also.first

    pub none-or-lost : (l : Loss) → LosesNothing B M o q start broken events → HasLoss B M o q start broken events l → ⊥
    none-or-lost l free has = none-or-found (judged_loss broken q o start) B M o events free.history has.history free.run has.run l free.none has.first

  -- where a record is lost after a violation, the steps have both
  pub breaks-and-loses : (events : List Event) (l : Loss) (steps : List Step) → HasLoss B M o q start true events l → AreSteps B M o events steps
      → BreaksAndLoses o q start (map (λ (s : Step). s.entry) steps) l
  breaks-and-loses events l steps has are =
      subst (λ es. BreaksAndLoses o q start es l) (sym (entries-are B M o events steps has.history are has.run))
      (by (first_ownership_violation q start has.history.entries) refl has.first)
    where
      by : (x : Option Violation) → first_ownership_violation q start has.history.entries ≡ x → loss_after q o start has.history.entries x ≡ Some l
          → BreaksAndLoses o q start has.history.entries l
      by None none lost = cc
      by (Some b) some lost = at b.described refl lost
        where
          at : (described : Bool) → b.described ≡ described → (if described then first_loss (Some b.place) q o start has.history.entries else None) ≡ Some l
              → BreaksAndLoses o q start has.history.entries l
          at true on first = record { violation = b; first = some; described = on; loses = first }
          at false off none = cc

  -- ---- by how much the parties moved on

  -- the same runs moved on by as much
  pub moves-one : (all : List (List Event)) (a b : Moved) → AreMovesOf B M o q start all a → AreMovesOf B M o q start all b → a ≡ b
  moves-one all a b one other =
      let same : one.histories ≡ other.histories = runs_one B M o all one.histories other.histories one.runs other.runs in
      let published : a.published ≡ b.published = one.published ∙ ap (λ hs. min (summed (published_in q start) hs) MOST) same ∙ sym other.published in
      let taken : a.taken ≡ b.taken = one.taken ∙ ap (λ hs. min (summed (taken_in q start) hs) MOST) same ∙ sym other.taken in
      ap (λ (n : ℕ). moved_by n a.taken) published ∙ ap (λ (n : ℕ). moved_by b.published n) taken
    where
      moved_by : (published taken : ℕ) → Moved
      moved_by published taken = record { published = published; taken = taken }

  pub one-moved : (events : List Event) (t : History) (moved : Moved) → HasMoved B M o q start events t moved → AreMovesOf B M o q start (events ∷ []) moved
  one-moved events t moved has = record {
    histories = t ∷ [];
    runs = (has.run, tt);
    published = has.published ∙ ap (λ m. min m MOST) (alone (published_in q start t));
    taken = has.taken ∙ ap (λ m. min m MOST) (alone (taken_in q start t));
  }
    where
      alone : (n : ℕ) → n ≡ n + 0
      alone n = omega arith

  pub both-moved : (all more : List (List Event)) (old later new : Moved) → AreMovesOf B M o q start all old → AreMovesOf B M o q start more later
      → new.published ≡ min (old.published + later.published) MOST
      → new.taken ≡ min (old.taken + later.taken) MOST → AreMovesOf B M o q start (all ++ more) new
  both-moved all more old later new are others published taken = record {
    histories = are.histories ++ others.histories;
    runs = runs_both B M o all more are.histories others.histories are.runs others.runs;
    published = published ∙ capped_both old.published later.published _ _ are.published others.published
        ∙ ap (λ m. min m MOST) (sym (total_both (published_in q start) are.histories others.histories));
    taken = taken ∙ capped_both old.taken later.taken _ _ are.taken others.taken
        ∙ ap (λ m. min m MOST) (sym (total_both (taken_in q start) are.histories others.histories));
  }
