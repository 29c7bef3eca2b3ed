-- What answers a test and a schedule, by the schedule's run.
use Rattle.std.proofs.Common.{arith, ◌≡◌, ℕ, Result, Ok, Err, refl, subst, ◌<◌, ◌≤◌, List, length}
use Rattle.step_machine.specs.History.{History, at_opening}
use Rattle.step_machine.proofs.Running.{run-one}
use Rattle.litmus.specs.{LitmusTest, IsFinished}
use Rattle.recorder.specs.{ScheduleValue, events_of_schedule, OfHarts, hart_of_event}
use Rattle.shrink.specs.Shrinking.{RefusesRun, IsPartOf, empty, with_first, without_first}
use Rattle.shrink.specs.declared.faults.ShrinkError.{ShrinkError}
use Rattle.shrink.specs.declared.faults.ShrinkError.TheVariants as error
use Rattle.engine_support.specs.declared.fault.Fault.{Fault}
use Rattle.engine_support.specs.declared.fault.Refusal.{Refusal}
use Rattle.engine_support.specs.{Output, AreAlike, AnswersAs}
use Rattle.engine_support.specs.Runs.{Runs}
use Rattle.engine_support.proofs.RunLaws.{one_difference, runs_events, runs_or_differs}
use Rattle.view_engines.specs.Shrink.{AreOfOneKind, IsNotShrunk, IsShrink, IsShrinkOf, differs, fault_of_shrink, unfinished}
use Rattle.std.specs.List.{AllByRecursion}
use Rattle.std.proofs.lemmas.List.Elements.{All-from_recursion, recursion_from_All}
use Rattle.step_machine.specs.declared.events.Event.{Event}

module _ (B M : ℕ) (q : LitmusTest) (parsed : ScheduleValue) where
  -- why the run isn't shrunk is why the schedule isn't
  pub not_shrunk : {X : Type 0} (view : X → Output) (t : History) (why : ShrinkError) (fault : Fault) → Runs B M q.opening parsed (Ok t)
      → RefusesRun M t why → fault ≡ fault_of_shrink why → AnswersAs (IsShrink B M q parsed) view (Err fault)
  not_shrunk view t error.NoMemory fault ran unended is = rw is tt
  not_shrunk view t error.NotFinished fault ran unended is = rw is (unfinished t ran unended)

  -- what is shrunk isn't refused, since its run is finished
  shrunk_or_not : (answer : Output) (r : Refusal) → IsShrinkOf B M q parsed answer → IsNotShrunk B M q parsed r → ⊥
  shrunk_or_not answer r is (differs s differ) = runs_or_differs B M q.opening parsed is.history s is.ran differ
  shrunk_or_not answer r is (unfinished t ran unended) =
      let ends = is.shrunk.given_ends in
      let same = run-one B M (at_opening q.opening) (events_of_schedule parsed) ends.history t ends.run (runs_events B M q.opening parsed t ran) in
      unended (subst (IsFinished M) same ends.finished)

  one_reason : (r s : Refusal) → IsNotShrunk B M q parsed r → IsNotShrunk B M q parsed s → r ≡ s
  one_reason r s (differs x differ) (differs y other) = one_difference B M q.opening parsed x y differ other
  one_reason r s (differs x differ) (unfinished t ran unended) = absurd (runs_or_differs B M q.opening parsed t x ran differ)
  one_reason r s (unfinished t ran unended) (differs y other) = absurd (runs_or_differs B M q.opening parsed t y ran other)
  one_reason r s (unfinished t ran unended) (unfinished u also never) = refl

pub alike_run : (B M : ℕ) (q : LitmusTest) (parsed : ScheduleValue) (a b : Result Output Refusal)
    → IsShrink B M q parsed a → IsShrink B M q parsed b → AreAlike a b
alike_run B M q parsed (Ok a) (Ok b) is other = tt
alike_run B M q parsed (Ok a) (Err s) is refusal = absurd (shrunk_or_not B M q parsed a s is refusal)
alike_run B M q parsed (Err r) (Ok b) refusal is = absurd (shrunk_or_not B M q parsed b r is refusal)
alike_run B M q parsed (Err r) (Err s) first other = one_reason B M q parsed r s first other

-- what is alike is of one kind
pub of_one_kind : {A : Type 0} (a b : Result A Refusal) → AreAlike a b → AreOfOneKind a b
of_one_kind a b alike = grind arith

-- ---- a part of a schedule's events keeps within the schedule's limits

part_each : (P : Event → Type 0) (part whole : List Event) → IsPartOf part whole → AllByRecursion P whole → AllByRecursion P part
part_each P part whole empty all = all
part_each P part whole (with_first ev front back is) all = (all.0, part_each P front back is all.1)
part_each P part whole (without_first ev front back is) all = part_each P part back is all.1

pub part_OfHarts : (part whole : List Event) → IsPartOf part whole → OfHarts whole → OfHarts part
part_OfHarts part whole is harts =
    All-from_recursion (λ (ev : Event). hart_of_event ev < 64) part
    (part_each _ part whole is (recursion_from_All (λ (ev : Event). hart_of_event ev < 64) whole harts))

pub part_few : (part whole : List Event) → IsPartOf part whole → length part ≤ length whole
part_few part whole empty = omega arith
part_few part whole (with_first ev front back is) = omega (arith, part_few front back is)
part_few part whole (without_first ev front back is) = omega (arith, part_few part back is)
