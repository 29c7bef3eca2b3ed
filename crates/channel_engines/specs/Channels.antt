-- The command `channel`: a schedule and the senders' lists in, what the receiver reports out.
use Rattle.std.specs.Prelude.{ℕ, ◌≡◌, ◌⊎◌, Bool, true, false, List, [], ◌∷◌, ◌++◌, Option, Result, Ok, Err, codes}
use Rattle.std.specs.Fmt.{decimal}
use Rattle.std.specs.List.{flat_map}
use Rattle.hart.specs.declared.need.Report.{Report}
use Rattle.hart.specs.declared.need.Report.TheVariants as report
use Rattle.step_machine.specs.declared.events.Event.{Event}
use Rattle.step_machine.specs.History.{History}
use Rattle.recorder.specs.Versions.{ScheduleValue, events_of_schedule}
use Rattle.poll_close.specs.Layout.{Layout}
use Rattle.poll_close.specs.Laws.{Ring, AcceptedAt as IsWithin, opening_over}
use Rattle.poll_close.specs.Delivery.{DeliversOver, DeliversWholeOver}
use Rattle.poll_close.specs.Refusals.{RefusesAt, refusal_number_at}
use Rattle.poll_close.specs.declared.faults.Refused.TheVariants as refused
use Rattle.poll_close.specs.declared.faults.RefusedAt.{RefusedAt}
use Rattle.poll_close.specs.declared.faults.RefusedAt.TheVariants as refused_at
use Rattle.engine_support.specs.declared.fault.Fault.{Fault}
use Rattle.engine_support.specs.declared.fault.Fault.TheVariants as fault
use Rattle.engine_support.specs.declared.fault.Position.TheVariants as place
use Rattle.engine_support.specs.declared.fault.Refusal.{Refusal}
use Rattle.engine_support.specs.Engines.{Output}
use Rattle.engine_support.specs.Runs.{Runs}
use Rattle.engine_support.specs.Inputs.{After, schedules}
use Rattle.channel_engines.specs.Lists.{list_texts}

-- `took I W` or `closed I`, and a line end
abbrev pub report_line : Report → List ℕ
report_line (report.Took sender word) = codes "took " ++ decimal sender ++ 32 ∷ decimal word ++ 10 ∷ []
report_line (report.Closed sender) = codes "closed " ++ decimal sender ++ 10 ∷ []

-- what the receiver reports in the run of the events over these lists, and of a plan after them if the channel is to be
-- finished
abbrev pub Reported : (finish : Bool) → Ring → (B M : ℕ) → List (List ℕ) → Layout → List Event → List Report → Type 0
Reported false ring B M lists l events reports = DeliversOver ring B M lists l events reports
Reported true ring B M lists l events reports = DeliversWholeOver ring B M lists l events reports

-- The receiver reports this in the run of what the schedule says over these lists: lists and a layout within
-- the limits, whose reports are clean. A record's outcomes are the run's.
pub record IsReported (ring : Ring) (B M : ℕ) (l : Layout) (finish : Bool) (parsed : ScheduleValue)
    (lists : List (List ℕ)) (reports : List Report) : Type 0 where
  pub within : IsWithin ring M lists l
  pub ran : (history : History) × Runs B M (opening_over ring lists l) parsed (Ok history)
  pub delivers : Reported finish ring B M lists l (events_of_schedule parsed) reports

-- the same, with the reports a line each
pub record IsDelivery (ring : Ring) (B M : ℕ) (l : Layout) (finish : Bool) (parsed : ScheduleValue) (lists : List (List ℕ)) (answer : Output) : Type 0 where
  pub reports : List Report
  pub is_reported : IsReported ring B M l finish parsed lists reports
  pub text : answer.0 ≡ flat_map report_line reports

-- why there is no channel, as a fault; a word that is 0 has its place
abbrev pub fault_from : RefusedAt → Fault
fault_from (refused_at.Lists refused.NoMemory) = fault.NoMemory
fault_from (refused_at.Lists (refused.ZeroWord sender word)) = fault.Refused (record { number = 16; place = place.Word sender word })
fault_from why = fault.Refused (record { number = refusal_number_at why; place = place.Nowhere })

-- no block is filled, since all memory opens as 0
abbrev pub IsUnfilled : RefusedAt → Type 0
IsUnfilled (refused_at.FilledBlock word) = ⊥
IsUnfilled why = Unit {0}

-- There is no channel over these lists, for this reason.
pub record HasNoChannel (ring : Ring) (M : ℕ) (l : Layout) (lists : List (List ℕ)) (refusal : Refusal) : Type 0 where
  pub why : RefusedAt
  pub unfilled : IsUnfilled why
  pub refuses : RefusesAt ring M lists l why
  pub is_fault : fault_from why ≡ fault.Refused refusal

-- There is a channel over these lists, and a record is refused at the first event whose outcome isn't the run's.
pub record IsOtherRun (ring : Ring) (B M : ℕ) (l : Layout) (parsed : ScheduleValue) (lists : List (List ℕ)) (refusal : Refusal) : Type 0 where
  pub within : IsWithin ring M lists l
  pub differs : Runs B M (opening_over ring lists l) parsed (Err refusal)

-- why nothing is reported
abbrev pub IsUnreported : (ring : Ring) (B M : ℕ) (l : Layout) (parsed : ScheduleValue) (lists : List (List ℕ)) → Refusal → Type 0
IsUnreported ring B M l parsed lists refusal = HasNoChannel ring M l lists refusal ⊎ IsOtherRun ring B M l parsed lists refusal

-- what a schedule writes over these lists, or why nothing
abbrev pub IsChannelRun : Ring → (B M : ℕ) → Layout → (finish : Bool) → ScheduleValue → List (List ℕ) → Result Output Refusal → Type 0
IsChannelRun ring B M l finish parsed lists (Ok answer) = IsDelivery ring B M l finish parsed lists answer
IsChannelRun ring B M l finish parsed lists (Err refusal) = IsUnreported ring B M l parsed lists refusal

-- What answers a schedule of either version and lists. They are judged in the order in which they are read, then the lists
-- and the place, and then a record.
abbrev pub IsChannelAnswer : Ring → (B M : ℕ) → Layout → (finish : Bool) → (schedule input : Option (List ℕ)) → Result Output Refusal → Type 0
IsChannelAnswer ring B M l finish schedule input =
    After schedules schedule (λ parsed. After list_texts input (IsChannelRun ring B M l finish parsed))
