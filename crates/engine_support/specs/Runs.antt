-- What a schedule of either version makes of an opening.
use Rattle.std.specs.Prelude.{ℕ, ◌≡◌, List, Result, Ok, Err}
use Rattle.step_machine.specs.History.{OpeningValue, History}
use Rattle.step_machine.specs.Runs.{Run}
use Rattle.recorder.specs.Records.{Step, events_in}
use Rattle.recorder.specs.Versions.{ScheduleValue, events_of_schedule}
use Rattle.recorder.specs.Versions.ScheduleValue.{plain, recorded}
use Rattle.recorder.specs.Replaying.{IsRunRecord, DiffersAt}
use Rattle.recorder.specs.declared.replaying.CheckError.{CheckError}
use Rattle.recorder.specs.declared.replaying.CheckError.TheVariants as error
use Rattle.engine_support.specs.declared.fault.Fault.{Fault}
use Rattle.engine_support.specs.declared.fault.Fault.TheVariants.{NoMemory, Refused}
use Rattle.engine_support.specs.declared.fault.Refusal.{Refusal}
use Rattle.engine_support.specs.declared.fault.Position.TheVariants.{Event as AtEvent}

-- a record that differs is refused at the first event whose outcome isn't the run's, counted from 0
abbrev pub differing : (event : ℕ) → Refusal
differing event = record { number = 38; place = AtEvent event }

-- why a check of a record fails, as a fault
abbrev pub fault_of_check : CheckError → Fault
fault_of_check error.NoMemory = NoMemory
fault_of_check (error.Differs event) = Refused (differing event)

-- What running a schedule from an opening gives: the history of its events, and of a record only where
-- each outcome is the run's; else the first event whose outcome isn't.
abbrev pub Runs : (B M : ℕ) → OpeningValue → ScheduleValue → Result History Refusal → Type 0
Runs B M opening (plain events) (Ok history) = Run B M opening events history
Runs B M opening (plain events) (Err refusal) = ⊥
Runs B M opening (recorded steps) (Ok history) = IsRunRecord B M opening steps history
Runs B M opening (recorded steps) (Err refusal) = (event : ℕ) × DiffersAt B M opening steps event × (refusal ≡ differing event)

-- What noting its outcomes gives: its events, each with its outcome in the run.
abbrev pub Records : (B M : ℕ) → OpeningValue → ScheduleValue → Result (List Step) Refusal → Type 0
Records B M opening parsed (Ok steps) = (events_in steps ≡ events_of_schedule parsed)
    × ((history : History) × Runs B M opening parsed (Ok history) × IsRunRecord B M opening steps history)
Records B M opening parsed (Err refusal) = Runs B M opening parsed (Err refusal)
