-- How the program fails, and the exit statuses.
use Rattle.std.specs.Prelude.{ℕ, Bool, true, false, Result, Ok, Err}
use Rattle.command_line.specs.declared.fault.CommandLineError.{CommandLineError}
use Rattle.command_line.specs.declared.fault.CommandLineError.TheVariants as command_line
use Rattle.certifying.specs.declared.judgement.Judgement.{Judgement}
use Rattle.certifying.specs.declared.judgement.Judgement.TheVariants.{Kept, ReadsNotShown, ProgressNotShown, AskedNotShown, NotShown, Broken, OtherProtocol}
use Rattle.finding.specs.declared.finds.Found.{Found}
use Rattle.finding.specs.declared.finds.Found.TheVariants as found
use Rattle.litmus.specs.declared.verdict.Verdict.{Verdict}
use Rattle.litmus.specs.declared.verdict.Verdict.TheVariants.{Holds}
use Rattle.ztso.specs.declared.failure.Failure.{Failure}
use Rattle.ztso.specs.declared.failure.Failure.TheVariants.{BadCommandLine, Engine, AllSeen, Cut}
use Rattle.engine_support.specs.declared.fault.Fault.{Fault}
use Rattle.engine_support.specs.declared.fault.Fault.TheVariants.{NoMemory}
use Rattle.engine_support.specs.Faults.{status_of as fault_status_of}

-- the exit status of a program that fails
abbrev pub exit_status : Failure → ℕ
exit_status BadCommandLine = 2
exit_status (Engine fault) = fault_status_of fault
exit_status (AllSeen states) = 1
exit_status (Cut states) = 5

-- the failure where words give no job
abbrev pub failure_of : CommandLineError → Failure
failure_of command_line.BadCommandLine = BadCommandLine
failure_of command_line.NoMemory = Engine NoMemory

-- ---- exit statuses

-- what an engine returned, as an exit status, or its failure
abbrev pub exit_of : {V : Type 0} → (V → Result ℕ Failure) → Result V Fault → Result ℕ Failure
exit_of status (Ok value) = status value
exit_of status (Err fault) = Err (Engine fault)

abbrev pub done_exit : Result (Unit {0}) Fault → Result ℕ Failure
done_exit = exit_of (λ done. Ok 0)

-- where it is good that all runs are clean, or no record was refused
abbrev pub good_status : (is_good : Bool) → Result ℕ Failure
good_status true = Ok 0
good_status false = Ok 1

abbrev pub good_exit : Result Bool Fault → Result ℕ Failure
good_exit = exit_of good_status

abbrev pub verdict_status : Verdict → Result ℕ Failure
verdict_status Holds = Ok 0
verdict_status other = Ok 1

abbrev pub verdict_exit : Result Verdict Fault → Result ℕ Failure
verdict_exit = exit_of verdict_status

-- what came of a certificate
abbrev pub judgement_status : Judgement → Result ℕ Failure
judgement_status Kept = Ok 0
judgement_status ReadsNotShown = Ok 6
judgement_status AskedNotShown = Ok 9
judgement_status ProgressNotShown = Ok 10
judgement_status NotShown = Ok 7
judgement_status Broken = Ok 8
judgement_status OtherProtocol = Ok 11

abbrev pub judgement_exit : Result Judgement Fault → Result ℕ Failure
judgement_exit = exit_of judgement_status

-- a search that didn't find what it looked for fails
abbrev pub found_status : Found → Result ℕ Failure
found_status found.Shown = Ok 0
found_status (found.AllSeen states) = Err (AllSeen states)
found_status (found.Cut states) = Err (Cut states)

abbrev pub found_exit : Result Found Fault → Result ℕ Failure
found_exit = exit_of found_status
