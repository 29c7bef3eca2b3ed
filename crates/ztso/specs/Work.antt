-- What each command that a command line can ask for does.
use Rattle.std.specs.Prelude.{ℕ, ◌≡◌, ◌*◌, ◌⊎◌, max, not, Bool, true, false, List, [], ◌∷◌, Option, Result, Ok, Err}
use Rattle.std.specs.Io.KnownBytes.{Appends}
use Rattle.rand_core.specs.Stream.{Stream}
use Rattle.rand_core.specs.Steps.{stream_of, steps_u32}
use Rattle.rand_core.specs.Pcg32Seed.{pcg32_seed}
use Rattle.rand_pcg.specs.Pcg.{pcg32, pcg32_of_seed}
use Rattle.engine_support.specs.declared.fault.Fault.{Fault}
use Rattle.engine_support.specs.declared.fault.Fault.TheVariants.{Refused}
use Rattle.engine_support.specs.declared.fault.Refusal.{Refusal}
use Rattle.engine_support.specs.Engines.{Ends}
use Rattle.engine_support.specs.Inputs.{IsRefused, tests, schedules}
use Rattle.code_engines.specs.Asm.{IsAsmAnswer}
use Rattle.code_engines.specs.Dis.{IsDisAnswer}
use Rattle.code_engines.specs.Steps.{IsStepsAnswer}
use Rattle.run_engines.specs.Run.{IsRunAnswer, IsMoveAnswer, IsReplayAnswer}
use Rattle.checking.specs.Checking.{IsCheckAnswer, IsCheckFront}
use Rattle.finding.specs.Find.{IsFindAnswer}
use Rattle.view_engines.specs.Chart.{IsChartAnswer, drawing}
use Rattle.view_engines.specs.Show.{IsShowAnswer}
use Rattle.view_engines.specs.Shrink.{IsShrinkAnswer}
use Rattle.sampling.specs.declared.trials.outcomes.Unfinished.{Unfinished}
use Rattle.sampling.specs.declared.trials.outcomes.Unfinished.TheVariants as left
use Rattle.view_engines.specs.declared.showing.Form.{Form}
use Rattle.view_engines.specs.declared.showing.Form.TheVariants as form
use Rattle.debugger.specs.Transcripts.{EndsInteractive, IsDebugAnswer, IsDebugFront, IsDebugSome, OnStopped, OnUnwritten}
use Rattle.sampling.specs.Outcomes.{IsTryAnswer}
use Rattle.certifying.specs.Answers.{IsQueueAnswer}
use Rattle.certifying.specs.Questions.{Questions}
use Rattle.callers.specs.Answers.{IsCallersAnswer}
use Rattle.callers.specs.declared.queue.Queue.{Queue}
use Rattle.callers.specs.declared.queue.QueueKind.{QueueKind}
use Rattle.callers.specs.declared.queue.QueueKind.TheVariants as kind
use Rattle.poll_close.specs.Layout.{layout_of}
use Rattle.poll_close.specs.declared.place.BlockPlace.{BlockPlace}
use Rattle.drawn_runs.specs.declared.Runs.{Runs}
use Rattle.drawn_runs.specs.declared.draws.Draw.{Draw}
use Rattle.drawn_runs.specs.Samples.{DrawnRuns, runs_drawn}
use Rattle.channel_engines.specs.Channels.{IsChannelAnswer}
use Rattle.run_engines.specs.Threads.{IsThreadsAnswer}
use Rattle.channel_engines.specs.UserChannels.{IsUserAnswer, programs}
use Rattle.engine_support.specs.declared.fault.Role.TheVariants.{Sender, Receiver}
use Rattle.channel_engines.specs.Rings.{IsRingAnswer}
use Rattle.poll_close.specs.Laws.{Ring as RingTables}
use Rattle.lamport_ring.specs.Listing.{lamport}
use Rattle.fastforward.specs.Listing.{fastforward}
use Rattle.lamport_cached.specs.Listing.{lamport_cached}
use Rattle.command_line.specs.declared.job.Capacity.{Capacity}
use Rattle.command_line.specs.declared.job.Capacity.TheVariants.{One, Two, Four, Sixteen}
use Rattle.command_line.specs.declared.job.Ring.{Ring as RingKind}
use Rattle.command_line.specs.declared.job.Ring.TheVariants.{Lamport, FastForward, LamportCached}
use Rattle.command_line.specs.declared.job.QueueKind.{QueueKind as KindAsked}
use Rattle.command_line.specs.declared.job.QueueKind.TheVariants as asked
use Rattle.command_line.specs.declared.job.CalledQueue.{CalledQueue}
use Rattle.command_line.specs.declared.job.Command.{Command}
use Rattle.command_line.specs.declared.job.Command.TheVariants.{Code, Machine, Find, Threads, UserChannel, Ring, Queue as OfQueues}
use Rattle.command_line.specs.declared.job.CodeCommand.TheVariants.{Asm, Dis}
use Rattle.command_line.specs.declared.job.MachineCommand.TheVariants.{Steps, Run, Replay, Move, Shrink, Chart, Show, Check, Debug, Try, Callers, Channel}
use Rattle.ztso.specs.declared.failure.Failure.{Failure}
use Rattle.ztso.specs.declared.failure.Failure.TheVariants.{Engine}
use Rattle.ztso.specs.declared.work.TheConstants.{WORDS}
use Rattle.ztso.specs.Failures.{done_exit, found_exit, good_exit, judgement_exit, verdict_exit}

-- how many stores a buffer of this capacity holds
abbrev pub stores_of : Capacity → ℕ
stores_of One = 1
stores_of Two = 2
stores_of Four = 4
stores_of Sixteen = 16

-- what the generator of this seed draws
abbrev pub drawn_from : (seed : ℕ) → Stream
drawn_from seed = stream_of (steps_u32 pcg32) (pcg32_of_seed (pcg32_seed 16 seed))

-- the runs that it draws, with buffers of B stores
abbrev pub runs_from : (B seed : ℕ) → Draw → Runs → DrawnRuns
runs_from B seed draw runs = runs_drawn B WORDS draw (drawn_from seed) runs

-- the tables and the least size of the rings of a kind
abbrev pub tables_of : RingKind → RingTables
tables_of Lamport = lamport
tables_of FastForward = fastforward
tables_of LamportCached = lamport_cached

abbrev pub queue_kind_of : KindAsked → QueueKind
queue_kind_of asked.Lamport = kind.Lamport
queue_kind_of asked.Cached = kind.Cached
queue_kind_of asked.FastForward = kind.FastForward

-- the queue whose callers are asked about
abbrev pub queue_of : CalledQueue → Queue
queue_of called = record {
  kind = queue_kind_of called.kind;
  base = called.base;
  slots = called.slots;
  sender = called.sender;
  receiver = called.receiver;
}

-- in which form `show` tells a test
abbrev pub form_of : (steps : Bool) → Form
form_of true = form.Steps
form_of false = form.Table

-- what `try` says of the runs that did not finish
abbrev pub left_of : (unfinished : Bool) → Unfinished
left_of true = left.Shown
left_of false = left.Counted

-- ---- how a command ends

-- What the readers of all inputs tell, in the order in which they are read, what a user's commands tell, and the bytes of records that are asked
-- about, if any are: those that are to be written, those that are to be read, and those that are to be read at most once.
pub record Given : Type 0 where
  pub first : Option (List ℕ)
  pub second : Option (List ℕ)
  pub third : Option (List ℕ)
  pub fourth : Option (List ℕ)
  pub commands : Option (List ℕ)
  pub written : Option (List ℕ)
  pub read : Option (List ℕ)
  pub once : Option (List ℕ)

-- what is asked of a certificate besides the protocol
abbrev pub queue_asked : Given → (harts safety : Bool) → Questions
queue_asked given harts safety =
    record { progress = not safety; written = given.written; read = given.read; once = given.once; harts = harts }

-- An engine ended, whose value or fault makes this exit status or failure: what it wrote and returned is an answer, or
-- a refusal is and nothing was written (`Ends` says it all).
abbrev pub Done : {V W : Type 0} → (exit : Result V Fault → Result ℕ Failure) → (Result (List ℕ × V) Refusal → Type 0) → Result ℕ Failure
    → (contents : W → Option (List ℕ)) → (old new : W) → Type 0
Done {V = V} exit IsAnswer result contents old new = (ended : Result V Fault) × (result ≡ exit ended) × Ends IsAnswer ended contents old new

-- The same of one that writes as it reads. Where a read failed or memory ran out, it wrote a front of an answer, or nothing;
-- where a write failed, such a front was to be written.
abbrev pub DoneAlong : {V W : Type 0} → (exit : Result V Fault → Result ℕ Failure) → (Result (List ℕ × V) Refusal → Type 0)
    → (IsFront IsSome : (out : List ℕ) → Type 0) → Result ℕ Failure → (contents : W → Option (List ℕ)) → (old new : W) → Type 0
DoneAlong {V = V} exit IsAnswer IsFront IsSome result contents old new = (ended : Result V Fault) × (result ≡ exit ended)
    × EndsInteractive IsAnswer ended contents old new
    × OnStopped ended ((out : List ℕ) × Appends (contents old) (contents new) out × ((out ≡ []) ⊎ IsFront out))
    × OnUnwritten ended ((out : List ℕ) × IsSome out)

-- The table of all commands, over buffers of B stores and a memory of 4,096 words. The debugger and `check` alone write as
-- they read. A search sees the opening's state, whatever the limit.
abbrev pub Does : {W : Type 0} → (B : ℕ) → Command → Result ℕ Failure → Given → (contents : W → Option (List ℕ)) → (old new : W) → Type 0
Does B (Code Asm) result given = Done done_exit (IsAsmAnswer given.first) result
Does B (Code Dis) result given = Done done_exit (IsDisAnswer given.first) result
Does B (Machine Steps) result given = Done done_exit (IsStepsAnswer B WORDS given.first) result
Does B (Machine Run) result given = Done verdict_exit (IsRunAnswer B WORDS given.first given.second) result
Does B (Machine Replay) result given = Done done_exit (IsReplayAnswer B WORDS given.first given.second) result
Does B (Machine Move) result given = Done done_exit (IsMoveAnswer B WORDS given.first given.second) result
Does B (Machine Shrink) result given = Done done_exit (IsShrinkAnswer B WORDS given.first given.second) result
Does B (Machine (Chart style selection)) result given =
    Done done_exit (IsChartAnswer B WORDS (drawing style selection) given.first given.second) result
Does B (Machine (Show steps)) result given = Done done_exit (IsShowAnswer (form_of steps) given.first) result
Does B (Machine Check) result given = DoneAlong good_exit (IsCheckAnswer B WORDS given.second given.first)
    (λ out. IsCheckFront B WORDS given.second given.first (Ok out)) (λ out. IsCheckFront B WORDS given.second given.first (Ok out)) result
Does B (Machine Debug) result given = DoneAlong done_exit (IsDebugAnswer B WORDS given.commands given.first given.second)
    (λ out. IsDebugFront B WORDS given.commands given.first given.second (Ok (out, tt)))
    (λ out. IsDebugSome B WORDS given.commands given.first given.second (Ok (out, tt))) result
Does B (Machine (Try seed draw runs unfinished)) result given =
    Done good_exit (IsTryAnswer (runs_from B seed draw runs) (left_of unfinished) given.first) result
Does B (Machine (Callers seed draw runs queue)) result given =
    Done good_exit (IsCallersAnswer (runs_from B seed draw runs) (queue_of queue) given.first) result
Does B (Machine (Channel ring place finish)) result given =
    Done done_exit (IsChannelAnswer (tables_of ring) B WORDS (layout_of place []) finish given.first given.second) result
Does B (Find states) result given = Done found_exit (IsFindAnswer B WORDS (max states 1) given.first) result
Does B (Threads turns) result given = Done verdict_exit (IsThreadsAnswer B WORDS turns given.first) result
Does B (UserChannel place) result given =
    Done done_exit (IsUserAnswer B WORDS (layout_of place []) given.first given.second given.third given.fourth) result
Does B (Ring seed draw runs place) result given =
    Done good_exit (IsRingAnswer (runs_from B seed draw runs) place given.first given.second given.third) result
Does B (OfQueues seed draw runs harts safety) result given =
    Done judgement_exit (IsQueueAnswer (runs_from B seed draw runs) (queue_asked given harts safety) given.first given.second) result

-- the greatest exit status of a command that doesn't fail
abbrev pub greatest_status : Command → ℕ
greatest_status (OfQueues seed draw runs harts safety) = 11
greatest_status command = 1

-- a command that judges records, one after the other
abbrev pub judges_records : Command → Bool
judges_records (Machine Check) = true
judges_records command = false

-- ---- what is left unread

-- the end is a refusal
abbrev pub IsRefusal : Result ℕ Failure → Type 0
IsRefusal (Err (Engine (Refused refusal))) = Unit {0}
IsRefusal other = ⊥

-- What refuses each input that another one follows, in the order in which they are read; an input after a refused one is
-- left unread, and so is one that the command doesn't have. The records of `check` get a buffer before the first input is
-- read, and of an end without memory for it nothing is said.
abbrev pub refusals : Command → Result ℕ Failure → List (Option (List ℕ) → Type 0)
refusals (Code command) result = []
refusals (Machine Steps) result = []
refusals (Machine (Show steps)) result = []
refusals (Machine (Try seed draw runs unfinished)) result = []
refusals (Machine (Callers seed draw runs queue)) result = []
refusals (Machine (Channel ring place finish)) result = IsRefused schedules ∷ []
refusals (Machine Check) result = (λ first. IsRefusal result × IsRefused tests first) ∷ []
refusals (Machine command) result = IsRefused tests ∷ []
refusals (Find states) result = []
refusals (Threads turns) result = []
refusals (UserChannel place) result = IsRefused (programs Sender) ∷ IsRefused (programs Receiver) ∷ IsRefused schedules ∷ []
refusals (Ring seed draw runs place) result = IsRefused (programs Sender) ∷ IsRefused (programs Receiver) ∷ []
refusals (OfQueues seed draw runs harts safety) result = IsRefused tests ∷ []

-- The input after these is left unread: the command has none there, or one of these is refused.
abbrev pub LeavesUnread : List (Option (List ℕ) → Type 0) → (before : List (Option (List ℕ))) → Type 0
LeavesUnread refuses [] = ⊥
LeavesUnread [] (input ∷ before) = Unit {0}
LeavesUnread (Refuses ∷ refuses) (input ∷ []) = Refuses input
LeavesUnread (Refuses ∷ refuses) (input ∷ second ∷ before) = Refuses input ⊎ LeavesUnread refuses (second ∷ before)

-- an end with which a user's commands are left unread: any, except the debugger's; of those a refusal
abbrev pub LeavesCommands : Command → Result ℕ Failure → Type 0
LeavesCommands (Machine Debug) result = IsRefusal result
LeavesCommands command result = Unit {0}
