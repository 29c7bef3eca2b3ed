pub mod Sessions
pub mod DebuggerStates
pub mod Commands
pub mod DebugText
pub mod Debugging
pub mod Transcripts
pub mod inner
pub use Rattle.debugger.specs.Sessions.{GoesBack, IsNearest, Past, snapshot_before}
pub use Rattle.debugger.specs.DebuggerStates.{DebuggerState, GoesBackBy, IsWellFormed, TakesEvent, debugger_at_opening, of_schedule, scheduled}
pub use Rattle.debugger.specs.Commands.{command_of}
pub use Rattle.debugger.specs.DebugText.{break_line, end_line}
pub use Rattle.debugger.specs.Debugging.{Breaks, DoesAll, DoesCommand, DoesEvent, DoesNext, Toggled, is_point, stop_before}
pub use Rattle.debugger.specs.Transcripts.{DoesAsked, DoesLine, EndsInteractive, IsDebugAnswer, IsDebugFront, IsDebugSome, IsTranscript, Leaves, OnRefused}
pub use Rattle.debugger.specs.Transcripts.{OnStopped, OnUnwritten, Prints, PrintsFront, PrintsSome, Transcript, after_last, is_last, quits}
unfoldable pub use Rattle.debugger.specs.Transcripts.{left_unread}
pub use Rattle.debugger.specs.inner.{AsksNext, HasSnapshots, IsAtStart, IsFailure, IsNextLine, IsTakenAfter, TakesAsking}
pub use Rattle.debugger.specs.declared.debug.command.Command.{Command}
pub use Rattle.debugger.specs.declared.debug.command.Command.TheVariants.{Quit}
pub use Rattle.debugger.specs.declared.debugger.Source.{Source}
pub use Rattle.debugger.specs.declared.debugger.Source.TheVariants.{Schedule, User}
pub use Rattle.debugger.specs.declared.session.TheConstants.{SNAPSHOT_EVENTS}
