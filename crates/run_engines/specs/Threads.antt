-- The command `threads`: the schedule of a run that threads made, in canonical form, its state text and
-- its verdict.
use Rattle.std.specs.Prelude.{ℕ, ◌≡◌, ◌≤◌, ◌<◌, ◌⊎◌, List, ◌++◌, length, map, Option, Result, Ok, Err}
use Rattle.step_machine.specs.History.{History}
use Rattle.step_machine.specs.Runs.{Run, event_of}
use Rattle.step_machine.specs.declared.events.Event.{Event}
use Rattle.litmus.specs.LitmusTests.{LitmusTest}
use Rattle.litmus.specs.declared.verdict.Verdict.{Verdict}
use Rattle.recorder.specs.Writing.{canon}
use Rattle.recorder.specs.declared.reading.TheConstants.{MAX_EVENTS}
use Rattle.hart_threads.specs.GettingOn.{AllGetOn, AtMost}
use Rattle.hart_threads.specs.Returns.{IsLost}
use Rattle.hart_threads.specs.Seats.{seats_of}
use Rattle.hart_threads.specs.declared.fault.Fault.{Fault as ThreadFault}
use Rattle.hart_threads.specs.declared.fault.Fault.TheVariants as thread
use Rattle.engine_support.specs.declared.fault.Fault.{Fault}
use Rattle.engine_support.specs.declared.fault.Fault.TheVariants.{NoMemory, Refused}
use Rattle.engine_support.specs.declared.fault.Refusal.{Refusal}
use Rattle.engine_support.specs.declared.fault.Position.TheVariants.{Nowhere}
use Rattle.engine_support.specs.Inputs.{After, tests}
use Rattle.engine_support.specs.declared.input.TheConstants.{INPUT_BYTES}
use Rattle.run_engines.specs.Run.{IsJudged}

-- a fault of the threads as a fault of the command
abbrev pub fault_of_threads : ThreadFault → Fault
fault_of_threads thread.NoMemory = NoMemory
fault_of_threads thread.NoThread = Refused (record { number = 35; place = Nowhere })
fault_of_threads (thread.Missing h) = Refused (record { number = 33; place = Nowhere })
fault_of_threads (thread.Mismatch h es) = Refused (record { number = 32; place = Nowhere })

-- a run of the test's opening, one event an entry, over store buffers of B pairs and a memory of M
-- words, by harts and landers that got on for n turns and made no more: its schedule, which is short enough to be an
-- input, then its state text and its verdict
pub record IsThreadsRun (B M n : ℕ) (test : LitmusTest) (answer : List ℕ × Verdict) : Type 0 where
  pub events : List Event
  pub few : length events ≤ MAX_EVENTS
  pub short : length (canon events) ≤ INPUT_BYTES
  pub history : History
  pub ran : Run B M test.opening events history
  pub each : events ≡ map event_of history.entries
  pub at_most : AtMost n history
  pub get_on : AllGetOn n M history
  pub state : List ℕ
  pub judged : IsJudged M test history (state, answer.1)
  pub written : answer.0 ≡ canon events ++ state

-- such a run, whose schedule would be refused as an input: it has too many events, or its text too many bytes
pub record IsTooLong (B M n : ℕ) (test : LitmusTest) : Type 0 where
  pub events : List Event
  pub history : History
  pub ran : Run B M test.opening events history
  pub each : events ≡ map event_of history.entries
  pub at_most : AtMost n history
  pub get_on : AllGetOn n M history
  pub many : (MAX_EVENTS < length events) ⊎ (INPUT_BYTES < length (canon events))

-- the bank has lost a hart, though the threads made a run
abbrev pub HasLost : ℕ → ℕ → ℕ → LitmusTest → Type 0
HasLost B M n test = (h : ℕ) × IsLost B M n test.opening (seats_of M test.opening) h

-- the refusals of threads that have all their seats, and that of a run within n turns which is too long
abbrev pub RefusesThreads : (B M n : ℕ) → LitmusTest → ℕ → Type 0
RefusesThreads B M n test number =
    (number ≡ 32)
    ⊎ ((number ≡ 33) × HasLost B M n test
    ⊎ ((number ≡ 35)
    ⊎ ((number ≡ 37) × IsTooLong B M n test)))

abbrev pub IsThreadsGiven : ℕ → ℕ → ℕ → LitmusTest → Result (List ℕ × Verdict) Refusal → Type 0
IsThreadsGiven B M n test (Ok answer) = IsThreadsRun B M n test answer
IsThreadsGiven B M n test (Err refusal) = (refusal.place ≡ Nowhere) × RefusesThreads B M n test refusal.number

-- what answers a test after at most n turns of each thread
abbrev pub IsThreadsAnswer : (B M n : ℕ) → (file : Option (List ℕ)) → Result (List ℕ × Verdict) Refusal → Type 0
IsThreadsAnswer B M n file = After tests file (IsThreadsGiven B M n)
