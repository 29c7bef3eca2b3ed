pub mod Queues
pub mod Violations
pub mod Counts
pub mod Runs
pub mod Answers
pub mod inner
pub use Rattle.callers.specs.Queues.{HasFirstCopy, HasNoCopy, IsLocated, block_at, caches_tail, kind_of, receives_by, sends_by, slots_after, spsc_of, start_in}
pub use Rattle.callers.specs.Queues.{waiting_between, waiting_in}
pub use Rattle.callers.specs.Violations.{AreAsOwedBelow, IsOffset, IsOldTail, IsOpeningViolation, arguments_violation, entering_violation}
pub use Rattle.callers.specs.Violations.{first_caller_violation, idle_violation, is_in_its_call, met_by, party_violation, pc_in, violation_after, violation_of}
pub use Rattle.callers.specs.Violations.{waits_in, written_at}
pub use Rattle.callers.specs.Counts.{AreCalls, AreCountsOf, AreTotalCalls, HasCalls, HaveUnfinished, calls_both, receives, returned, returned_by, returned_from}
pub use Rattle.callers.specs.Counts.{returns_in, returns_now, sends, unfinished_by}
pub use Rattle.callers.specs.Runs.{HasCallerViolation, HasNoCallerViolation, KeepsObligations}
pub use Rattle.callers.specs.Answers.{IsCallersOutput, IsOutputOfRuns, call_schedule, kept_text, violation_line}
pub use Rattle.callers.specs.inner.{AreCallNotes, IsCallState, IsEventNoted, StandsAt, counted_by, found_by, noted_call, notes_by}
pub use Rattle.callers.specs.declared.judging.CallState.{CallState}
pub use Rattle.callers.specs.declared.judging.Calls.{Calls}
pub use Rattle.callers.specs.declared.judging.Notes.{Notes}
pub use Rattle.callers.specs.declared.queue.Located.{Located}
pub use Rattle.callers.specs.declared.queue.Queue.{Queue}
pub use Rattle.callers.specs.declared.queue.QueueKind.{QueueKind}
pub use Rattle.callers.specs.declared.violations.CallerViolation.{CallerViolation}
