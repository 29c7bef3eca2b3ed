-- Each engine's end, with the exit status of what it returned.
use Rattle.std.proofs.Common.{◌≡◌, ℕ, Bool, true, false, Result, Ok, Err, subst}
use Rattle.engine_support.specs.declared.fault.Fault.{Fault}
use Rattle.engine_support.specs.declared.fault.Fault.TheVariants.{ReadFailed, WriteFailed, NoMemory, Refused}
use Rattle.engine_support.specs.Interactive.{OnRefused}
use Rattle.ztso.specs.Failures.{good_status, exit_of}
use Rattle.ztso.proofs.work.do_machine.Goals as goal
use Rattle.ztso.specs.declared.failure.Failure.{Failure}
use Rattle.ztso.specs.Work.{IsRefusal}

-- An engine's fault as the program's failure.

-- what holds where an engine refused an input holds where the program fails for that
pub refused_exit : {V : Type 0} (status : V → Result ℕ Failure) (plain : (v : V) → IsRefusal (status v) → ⊥) (P : Type 0) (r : Result V Fault)
    → OnRefused r P → (s : Result ℕ Failure) → s ≡ exit_of status r → IsRefusal s → P
refused_exit status plain P r holds s is refuses = at r holds (subst IsRefusal is refuses)
  where
    at : (r : Result _ Fault) → OnRefused r P → IsRefusal (exit_of status r) → P
    at (Ok v) holds refuses = absurd (plain v refuses)
    at (Err (Refused refusal)) holds refuses = holds
    at (Err ReadFailed) holds refuses = absurd refuses
    at (Err NoMemory) holds refuses = absurd refuses
    at (Err WriteFailed) holds refuses = absurd refuses

pub good_plain : (is_good : Bool) → IsRefusal (good_status is_good) → ⊥
good_plain true refuses = refuses
good_plain false refuses = refuses

pub returns-in-Steps-clause-does : goal.returns-in-Steps-clause-does
returns-in-Steps-clause-does g c = λ written read once. rw c.in-Steps.is (c.steps_engine.result, c.after.ensures.ended, c.steps_engine.ensures)

pub returns-in-Run-clause-does : goal.returns-in-Run-clause-does
returns-in-Run-clause-does g c = λ written read once. rw c.in-Run.is (c.run_engine.result, c.after_run.ensures.ended, c.run_engine.ensures.ends)

pub returns-in-Replay-clause-does : goal.returns-in-Replay-clause-does
returns-in-Replay-clause-does g c = λ written read once.
    rw c.in-Replay.is (c.replay_engine.result, c.after-in-Replay.ensures.ended, c.replay_engine.ensures.ends)

pub returns-in-Move-clause-does : goal.returns-in-Move-clause-does
returns-in-Move-clause-does g c = λ written read once. rw c.in-Move.is (c.move_engine.result, c.after-in-Move.ensures.ended, c.move_engine.ensures.ends)

pub returns-in-Shrink-clause-does : goal.returns-in-Shrink-clause-does
returns-in-Shrink-clause-does g c = λ written read once.
    rw c.in-Shrink.is (c.shrink_engine.result, c.after-in-Shrink.ensures.ended, c.shrink_engine.ensures.ends)

pub returns-in-Chart-clause-does : goal.returns-in-Chart-clause-does
returns-in-Chart-clause-does g c = λ written read once. rw c.in-Chart.is (c.chart_engine.result, c.after-in-Chart.ensures.ended, c.chart_engine.ensures.ends)

pub returns-in-Show-clause-does : goal.returns-in-Show-clause-does
returns-in-Show-clause-does g c = λ written read once. rw c.in-Show.is
    (c.show_engine.result, c.after-in-Show.ensures.ended, (rw c.form_of.ensures at c.show_engine.ensures))

pub returns-in-Check-clause-does : goal.returns-in-Check-clause-does
returns-in-Check-clause-does g c = λ written read once. rw c.in-Check.is
    (c.check.result, c.after_runs.ensures.ended, c.check.ensures.ends, c.check.ensures.left, c.check.ensures.unwritten)

pub returns-in-Check-clause-unread : goal.returns-in-Check-clause-unread
returns-in-Check-clause-unread g c = rw c.in-Check.is (λ leaves.
    refused_exit good_status good_plain _ c.check.result c.check.ensures.unread c.after_runs.result c.after_runs.ensures.ended leaves.0 leaves.1)

pub returns-in-Debug-clause-does : goal.returns-in-Debug-clause-does
returns-in-Debug-clause-does g c = λ written read once. rw c.in-Debug.is
    (c.debug.result, c.after-in-Debug.ensures.ended, c.debug.ensures.ends, c.debug.ensures.left, c.debug.ensures.unwritten)

pub returns-in-Debug-clause-unasked : goal.returns-in-Debug-clause-unasked
returns-in-Debug-clause-unasked g c = rw c.in-Debug.is
    (refused_exit _ (λ done refuses. refuses) _ c.debug.result c.debug.ensures.unasked c.after-in-Debug.result c.after-in-Debug.ensures.ended)

pub returns-in-Try-clause-does : goal.returns-in-Try-clause-does
returns-in-Try-clause-does g c = λ written read once. rw c.in-Try.is (c.try_drawn.result, c.after_runs-in-Try.ensures.ended, c.try_drawn.ensures)

pub returns-in-Callers-clause-does : goal.returns-in-Callers-clause-does
returns-in-Callers-clause-does g c = λ written read once. rw c.in-Callers.is (c.call_drawn.result, c.after_runs-in-Callers.ensures.ended, c.call_drawn.ensures)

pub returns-in-Channel-clause-does : goal.returns-in-Channel-clause-does
returns-in-Channel-clause-does g c = λ written read once. rw c.in-Channel.is (c.run_rings.result, c.after-in-Channel.ensures.ended, c.run_rings.ensures.ends)
