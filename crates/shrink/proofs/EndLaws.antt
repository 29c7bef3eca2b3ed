-- How a list of events ends depends on its run alone.
use Rattle.std.proofs.Common.{arith, ◌≡◌, ◌↔◌, ◌<◌, ℕ, Bool, IsTrue, List, length, sym, ap, subst, ◌∙◌}
use Rattle.std.specs.Prelude.{map}
use Rattle.step_machine.specs.declared.events.Event.{Event}
use Rattle.step_machine.specs.Names.{OpeningValue, History, Run, event_of}
use Rattle.litmus.specs.{LitmusTest, left_sides, IsFinished, final_value}
use Rattle.shrink.specs.Shrinking.{EndsWith, IsPartOf, IsShrunk, without}
use Rattle.shrink.proofs.PartLaws.{part_of_part, part_of_run}

-- a run that is finished, and its values
pub run_ends : (B M : ℕ) (q : LitmusTest) (o : OpeningValue) (events : List Event) (t : History) (last : List ℕ)
    → o ≡ q.opening → Run B M o events t → IsFinished M t → last ≡ map (final_value M t) (left_sides q.condition)
    → EndsWith B M q events last
run_ends B M q o events t last same run finished values = grind arith

-- where these are the values of the one run, an answer by them is right
pub ends_by_values : (B M : ℕ) (q : LitmusTest) (o : OpeningValue) (events : List Event) (t : History)
    (last values : List ℕ) (b : Bool) → o ≡ q.opening → Run B M o events t
    → ((u : History) → Run B M o events t → Run B M o events u → t ≡ u) → IsFinished M t
    → values ≡ map (final_value M t) (left_sides q.condition) → (IsTrue b ↔ (values ≡ last))
    → IsTrue b ↔ EndsWith B M q events last
ends_by_values B M q o events t last values b same run one finished are agree = (
  (λ yes. run_ends B M q o events t last same run finished (sym (agree.0 yes) ∙ are)),
  (λ ends. agree.1 (are ∙ ap (λ (u : History). map (final_value M u) (left_sides q.condition))
      (one ends.history run (subst (λ (p : OpeningValue). Run B M p events ends.history) (sym same) ends.run)) ∙ ends.values)),
)

-- what is left of the events of a run's own entries, and needed
pub shrunk_of_run : (B M : ℕ) (q : LitmusTest) (o : OpeningValue) (given own answer : List Event) (t : History)
    (last : List ℕ) → o ≡ q.opening → Run B M o given t → IsFinished M t
    → last ≡ map (final_value M t) (left_sides q.condition) → own ≡ map event_of t.entries → IsPartOf answer own
    → EndsWith B M q answer last → ((i : ℕ) → i < length answer → EndsWith B M q (without i 1 answer) last → ⊥)
    → IsShrunk B M q given answer
shrunk_of_run B M q o given own answer t last same run finished values is part ends minimal = grind (arith, run_ends, part_of_part, part_of_run)
