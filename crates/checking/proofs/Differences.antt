-- The first event of a record whose outcome isn't the run's.
use Rattle.std.proofs.Common.{◌≡◌, ◌≢◌, ℕ, ◌<◌, length, List, take, get_or, Result, Ok, Err, refl, sym, ◌∙◌}
use Rattle.std.specs.Prelude.{IfOk, OnOk}
use Rattle.std.proofs.lemmas.Option.{slice_get-get_or}
use Rattle.step_machine.specs.Names.{OpeningValue, History, Happens}
use Rattle.step_machine.specs.declared.events.Outcome.{Outcome}
use Rattle.recorder.specs.{Step, IsRunRecord, DiffersAt}
use Rattle.texts.proofs.ResultLaws.{some_is}
use Rattle.litmus.specs.LitmusTests.{LitmusTest}
use Rattle.checking.specs.{line_of_event, IsRecordJudged, differing, of_difference}

pub differing_here : (B M : ℕ) (o : OpeningValue) (steps : List Step) (i : ℕ) (d : Step) (mid : History) (out : Outcome) (new : History) → i < length steps
    → IsRunRecord B M o (take i steps) mid → Happens B M mid (get_or steps i d).0 out new → out ≢ (get_or steps i d).1
    → (f : DiffersAt B M o steps i) × (f.outcome ≡ out)
differing_here B M o steps i d mid out new within is happens other = (
  record {
    before = mid;
    is_record = is;
    step = get_or steps i d;
    stands = slice_get-get_or steps i d within;
    outcome = out;
    after = new;
    happens = happens;
    other = other;
  },
  refl,
)

-- it is judged with its line, the record's step there and the run's outcome
pub difference_judged : (B M : ℕ) (test : LitmusTest) (text : List ℕ) (steps : List Step) (event line : ℕ) (d : Step) (found : Outcome)
    → (f : DiffersAt B M test.opening steps event) → f.outcome ≡ found → event < length steps → line ≡ line_of_event text event
    → IsRecordJudged B M test text steps (differing (record { event = event; line = line; step = get_or steps event d; found = found }))
difference_judged B M test text steps event line d found f same within on_line =
    of_difference (record { event = event; line = line; step = get_or steps event d; found = found })
    (record {
      differs = f;
      step = some_is f.step (get_or steps event d) (sym f.stands ∙ slice_get-get_or steps event d within);
      found = same;
      line = on_line;
    })

-- ---- what holds of a value, where there is one

pub ok_more : {X E : Type 0} (result : Result X E) (P Q : X → Type 0) → ((x : X) → P x → Q x) → IfOk result P → IfOk result Q
ok_more (Ok x) P Q more holds = more x holds
ok_more (Err e) P Q more holds = tt

pub ok_any : {X E : Type 0} (result : Result X E) (P : Type 0) → P → OnOk result P
ok_any (Ok x) P holds = holds
ok_any (Err e) P holds = tt

pub ok_then : {X E : Type 0} (result : Result X E) (P Q : Type 0) → (P → Q) → OnOk result P → OnOk result Q
ok_then (Ok x) P Q then holds = then holds
ok_then (Err e) P Q then holds = tt

pub ok_some : {X E : Type 0} (result : Result X E) (P : X → Type 0) (Q : Type 0) → ((x : X) → P x → Q) → IfOk result P → OnOk result Q
ok_some (Ok x) P Q more holds = more x holds
ok_some (Err e) P Q more holds = tt
