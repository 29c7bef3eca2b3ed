-- The numbers of a command line. The job that words ask for.
use Rattle.std.specs.Prelude.{ℕ, List, ◌&&◌, nat_le, if◌then◌else◌, Option, Some, None, ◌≡◌, ◌⊎◌, Bool, [], ◌∷◌, Result, Ok, Err, codes, option_and_then}
use Rattle.std.specs.Prelude.{option_map}
use Rattle.std.specs.Str.Parse.{digits_value, without_leading_plus}
use Rattle.texts.specs.Numbers.{is_numeral}
use Rattle.std.specs.Str.{bytes_eq}
use Rattle.clap.specs.Words.{Kinds, Row, Text, fault_of, first_of, found_of, rows_of, subcommand_of}
use Rattle.clap.specs.declared.parser.matches.ArgMatches.{ArgMatches}
use Rattle.record_bytes.specs.Naming.{is_bytes}
use Rattle.recorder.specs.declared.reading.TheConstants.{MAX_EVENTS}
use Rattle.command_line.specs.declared.fault.CommandLineError.{CommandLineError}
use Rattle.command_line.specs.declared.fault.CommandLineError.TheVariants.{BadCommandLine, NoMemory}
use Rattle.command_line.specs.declared.job.Capacity.{Capacity}
use Rattle.command_line.specs.declared.job.Capacity.TheVariants.{One, Two, Four, Sixteen}
use Rattle.command_line.specs.declared.job.Job.{Job}
use Rattle.command_line.specs.Descriptions.{ztso_command}
use Rattle.command_line.specs.declared.job.Ring.{Ring}
use Rattle.command_line.specs.declared.job.Ring.TheVariants.{Lamport, FastForward, LamportCached}
use Rattle.command_line.specs.declared.job.QueueKind.{QueueKind}
use Rattle.command_line.specs.declared.job.QueueKind.TheVariants as kind
use Rattle.command_line.specs.declared.job.CalledQueue.{CalledQueue}
use Rattle.command_line.specs.declared.job.CodeCommand.TheVariants.{Asm, Dis}
use Rattle.command_line.specs.declared.job.Command.{Command}
use Rattle.command_line.specs.declared.job.Command.TheVariants.{Code, Machine, Find, Threads, UserChannel, Ring as UserRing, Queue}
use Rattle.drawn_runs.specs.declared.Runs.{Runs}
use Rattle.drawn_runs.specs.declared.draws.Draw.{Draw}
use Rattle.drawn_runs.specs.declared.draws.Draw.TheVariants.{Uniform, Bursts}
use Rattle.poll_close.specs.declared.place.BlockPlace.{BlockPlace}
use Rattle.chart.specs.declared.scenes.Selection.{Selection}
use Rattle.chart.specs.declared.scenes.Selection.TheVariants.{EveryRow, MemoryRows}
use Rattle.chart.specs.declared.scenes.Style.{Style}
use Rattle.chart.specs.declared.scenes.Style.TheVariants.{Svg}
use Rattle.chart.specs.declared.scenes.Style.TheVariants as style
use Rattle.command_line.specs.declared.job.MachineCommand.TheVariants.{Steps, Run, Replay, Move, Shrink, Chart, Show, Check, Debug, Try, Callers, Channel}
use Rattle.command_line.specs.Jobs.{Input, Wanted, four_inputs, one_input, three_inputs, two_inputs, wanted_by}
use Rattle.command_line.specs.Jobs.Input.{Standard, File}

-- What Rust's parser of unsigned numbers reads, from `least` to `most`: decimal digits, before which a
-- plus may stand.
unfoldable pub number_within : (least most : ℕ) → List ℕ → Option ℕ
number_within least most text =
    let digits = without_leading_plus text in
    let number = digits_value 10 digits in
    if is_numeral 10 digits && (nat_le least number && nat_le number most) then Some number else None

infixl 10 ◌>>=◌
abbrev pub ◌>>=◌ : {A B : Type 0} → Option A → (A → Option B) → Option B
found >>= f = option_and_then f found

abbrev pub capacity_given : Text → Option Capacity
capacity_given text =
    if bytes_eq text (codes "1") then Some One
    else (if bytes_eq text (codes "2") then Some Two
    else (if bytes_eq text (codes "4") then Some Four
    else (if bytes_eq text (codes "16") then Some Sixteen else None)))

-- the text that is found for a name, if there is one
abbrev pub Found : Type 0
Found = Text → Option Text

abbrev pub found_by : ArgMatches → Found
found_by matches = λ id. first_of id (rows_of (found_of matches))

-- the number from `least` to `most` that is found for a name
abbrev pub number_at : Found → (name : Text) → (least most : ℕ) → Option ℕ
number_at options name least most = options name >>= number_within least most

-- whether a flag with this value is given
abbrev pub flag_given : Text → Bool
flag_given text = bytes_eq text (codes "true")

-- the seed of the generator that draws schedules
abbrev pub seed_in : Found → Option ℕ
seed_in options = number_at options (codes "seed") 0 18446744073709551615

-- which runs are drawn
abbrev pub runs_in : Found → Option Runs
runs_in options = do
  skip ← number_at options (codes "skip") 0 18446744073709551615
  runs ← number_at options (codes "runs") 1 100000
  events ← number_at options (codes "length") 0 MAX_EVENTS
  jobs ← number_at options (codes "jobs") 1 64
  Some (record { skip = skip; number = runs; length = events; jobs = jobs })

-- how events are drawn
abbrev pub draw_given : Text → Option Draw
draw_given text = if bytes_eq text (codes "uniform") then Some Uniform else (if bytes_eq text (codes "bursts") then Some Bursts else None)

abbrev pub draw_in : Found → Option Draw
draw_in options = options (codes "draw") >>= draw_given

-- the runs of `try`, from its options
abbrev pub try_in : Found → Option Command
try_in options = do
  seed ← seed_in options
  draw ← draw_in options
  runs ← runs_in options
  unfinished ← options (codes "unfinished")
  Some (Machine (Try seed draw runs (flag_given unfinished)))

abbrev pub queue_kind_given : Text → Option QueueKind
queue_kind_given text =
    if bytes_eq text (codes "lamport") then Some kind.Lamport
    else (if bytes_eq text (codes "cached") then Some kind.Cached else (if bytes_eq text (codes "fastforward") then Some kind.FastForward else None))

-- the queue whose functions code calls
abbrev pub queue_in : Found → Option CalledQueue
queue_in options = do
  of_kind ← options (codes "kind") >>= queue_kind_given
  base ← number_at options (codes "base") 0 4294967295
  slots ← number_at options (codes "slots") 0 4294967295
  sender ← number_at options (codes "sender") 0 63
  receiver ← number_at options (codes "receiver") 0 63
  Some (record { kind = of_kind; base = base; slots = slots; sender = sender; receiver = receiver })

-- the runs of `callers`, from its options, and of which queue
abbrev pub callers_in : Found → Option Command
callers_in options = do
  seed ← seed_in options
  draw ← draw_in options
  runs ← runs_in options
  queue ← queue_in options
  Some (Machine (Callers seed draw runs queue))

-- the runs of `queue`, from its options, whether the harts are asked about, and whether progress isn't
abbrev pub certified_in : Found → Option Command
certified_in options = do
  seed ← seed_in options
  draw ← draw_in options
  runs ← runs_in options
  harts ← options (codes "harts")
  safety ← options (codes "safety")
  Some (Queue seed draw runs (flag_given harts) (flag_given safety))

-- the bytes of records that are asked about, if any are; none where the text names no bytes
abbrev pub bytes_if_given : Option Text → Option (Option Text)
bytes_if_given None = Some None
bytes_if_given (Some text) = if is_bytes text then Some (Some text) else None

abbrev pub ring_given : Text → Option Ring
ring_given text =
    if bytes_eq text (codes "lamport") then Some Lamport
    else (if bytes_eq text (codes "fastforward") then Some FastForward else (if bytes_eq text (codes "cached") then Some LamportCached else None))

-- a number of 32 bits, if one is said; none where that is no such number
abbrev pub number_if_given : Option Text → Option (Option ℕ)
number_if_given None = Some None
number_if_given (Some text) = option_map (λ (number : ℕ). Some number) (number_within 0 4294967295 text)

-- how `chart` draws, by its flag
abbrev pub style_given : Text → Style
style_given text = if flag_given text then Svg else style.Text

-- which rows it draws, by its flag
abbrev pub selection_given : Text → Selection
selection_given text = if flag_given text then MemoryRows else EveryRow

abbrev pub chart_in : Found → Option Command
chart_in options = do
  svg ← options (codes "svg")
  memory ← options (codes "memory")
  Some (Machine (Chart (style_given svg) (selection_given memory)))

abbrev pub show_in : Found → Option Command
show_in options = do
  steps ← options (codes "steps")
  Some (Machine (Show (flag_given steps)))

-- where a channel's blocks lie
abbrev pub place_in : Found → Option BlockPlace
place_in options = do
  slots ← number_at options (codes "ring") 0 4294967295
  base ← number_at options (codes "base") 0 4294967295
  stride ← number_if_given (options (codes "stride"))
  Some (record { slots = slots; base = base; stride = stride })

-- the ring of `channel`, from its words, its place, and whether it is to be finished
abbrev pub channel_in : Found → Option Command
channel_in options = do
  kind ← options (codes "kind")
  ring ← ring_given kind
  place ← place_in options
  finish ← options (codes "finish")
  Some (Machine (Channel ring place (flag_given finish)))

-- the capacity that the options ask for; a command without such an option has a usual capacity that nothing reads
abbrev pub capacity_if_given : Option Text → Option Capacity
capacity_if_given None = Some Four
capacity_if_given (Some text) = capacity_given text

abbrev pub capacity_in : Found → Option Capacity
capacity_in options = capacity_if_given (options (codes "buffer"))

-- the search, from its options
abbrev pub find_in : Found → Option Command
find_in options = do
  states ← number_at options (codes "states") 1 16777216
  Some (Find states)

-- the run on threads, from its options
abbrev pub threads_in : Found → Option Command
threads_in options = do
  turns ← number_at options (codes "turns") 0 10000000
  Some (Threads turns)

-- the runs of `ring`, from its options, and of which channel
abbrev pub ring_in : Found → Option Command
ring_in options = do
  seed ← seed_in options
  draw ← draw_in options
  runs ← runs_in options
  place ← place_in options
  Some (UserRing seed draw runs place)

-- the channel of a user's programs, from its words and its place; it isn't finished by a plan
abbrev pub own_in : Found → Option Command
own_in options = do
  place ← place_in options
  finish ← options (codes "finish")
  if flag_given finish then None else Some (UserChannel place)

-- the file that a word names
abbrev pub file_in : (id : Text) → Found → Option Input
file_in id options = do
  path ← options id
  Some (File path)

-- a command with its inputs, in the order in which they are read
abbrev pub on_file : Found → Option Command → Option Wanted
on_file options found = do
  command ← found
  capacity ← capacity_in options
  file ← file_in (codes "file") options
  Some (one_input command capacity file)

abbrev pub on_file_and_schedule : Found → Option Command → Option Wanted
on_file_and_schedule options found = do
  command ← found
  capacity ← capacity_in options
  file ← file_in (codes "file") options
  schedule ← file_in (codes "schedule") options
  Some (two_inputs command capacity file schedule)

abbrev pub on_file_and_standard : Found → Option Command → Option Wanted
on_file_and_standard options found = do
  command ← found
  capacity ← capacity_in options
  file ← file_in (codes "file") options
  Some (two_inputs command capacity file Standard)

abbrev pub on_file_and_certificate : Found → Option Command → Option Wanted
on_file_and_certificate options found = do
  command ← found
  capacity ← capacity_in options
  file ← file_in (codes "file") options
  certificate ← file_in (codes "certificate") options
  written ← bytes_if_given (options (codes "written"))
  read ← bytes_if_given (options (codes "read"))
  once ← bytes_if_given (options (codes "once"))
  Some (record (two_inputs command capacity file certificate) { written = written; read = read; once = once })

abbrev pub on_schedule_and_standard : Found → Option Command → Option Wanted
on_schedule_and_standard options found = do
  command ← found
  capacity ← capacity_in options
  schedule ← file_in (codes "schedule") options
  Some (two_inputs command capacity schedule Standard)

-- a command on the files `sender` and `receiver`, and then on standard input
abbrev pub on_programs_and_standard : Found → Option Command → Option Wanted
on_programs_and_standard options found = do
  command ← found
  capacity ← capacity_in options
  sender ← file_in (codes "sender") options
  receiver ← file_in (codes "receiver") options
  Some (three_inputs command capacity sender receiver Standard)

-- what is found, where this option is left out
abbrev pub where_left_out : {A : Type 0} → Option Text → Option A → Option A
where_left_out None found = found
where_left_out (Some asked) found = None

-- `channel own`, on the files `sender`, `receiver` and `schedule`, and then on standard input
abbrev pub on_own_channel : Found → Option Wanted
on_own_channel options = do
  sender ← file_in (codes "sender") options
  receiver ← file_in (codes "receiver") options
  command ← own_in options
  capacity ← capacity_in options
  schedule ← file_in (codes "schedule") options
  Some (four_inputs command capacity sender receiver schedule Standard)

-- `channel`, with KIND `own` over the user's programs, else without them
abbrev pub on_channel : Found → Option Wanted
on_channel options = do
  kind ← options (codes "kind")
  if bytes_eq kind (codes "own") then on_own_channel options
      else where_left_out (options (codes "sender")) (where_left_out (options (codes "receiver"))
      (on_schedule_and_standard options (channel_in options)))

abbrev pub on_standard : Found → Option Command → Option Wanted
on_standard options found = do
  command ← found
  capacity ← capacity_in options
  Some (one_input command capacity Standard)

-- the command of this name on a litmus text and a schedule, by its options
abbrev pub scheduled_in : (name : Text) → Found → Option Command
scheduled_in name options =
    if bytes_eq name (codes "run") then Some (Machine Run)
    else (if bytes_eq name (codes "replay") then Some (Machine Replay)
    else (if bytes_eq name (codes "move") then Some (Machine Move)
    else (if bytes_eq name (codes "shrink") then Some (Machine Shrink)
    else (if bytes_eq name (codes "chart") then chart_in options
    else (if bytes_eq name (codes "debug") then Some (Machine Debug) else None)))))

-- The table of commands: what each asks for, by its options and words.
abbrev pub job_by : (command : Text) → Found → Option Wanted
job_by name options =
    if bytes_eq name (codes "steps") then on_standard options (Some (Machine Steps))
    else (if bytes_eq name (codes "asm") then on_standard options (Some (Code Asm))
    else (if bytes_eq name (codes "dis") then on_standard options (Some (Code Dis))
    else (if bytes_eq name (codes "show") then on_file options (show_in options)
    else (if bytes_eq name (codes "check") then on_file_and_standard options (Some (Machine Check))
    else (if bytes_eq name (codes "find") then on_file options (find_in options)
    else (if bytes_eq name (codes "try") then on_file options (try_in options)
    else (if bytes_eq name (codes "callers") then on_file options (callers_in options)
    else (if bytes_eq name (codes "channel") then on_channel options
    else (if bytes_eq name (codes "threads") then on_file options (threads_in options)
    else (if bytes_eq name (codes "ring") then on_programs_and_standard options (ring_in options)
    else (if bytes_eq name (codes "queue") then on_file_and_certificate options (certified_in options)
    else on_file_and_schedule options (scheduled_in name options))))))))))))

-- the same, by what clap found
abbrev pub job_at : Text × List Row → Option Wanted
job_at p = job_by p.0 (λ id. first_of id p.1)

abbrev pub job_without : Kinds → Option (Text × List Row) → Option Wanted
job_without [] found = option_and_then job_at found
job_without (kind ∷ kinds) found = None

-- what the words ask for, the first of which is the program's name
unfoldable pub job_given : List Text → Option Wanted
job_given words = job_without (fault_of ztso_command words) (subcommand_of ztso_command words)

-- the job that is said, unless there was no memory, and a bad command line where none is said
abbrev pub GivesJob : Option Wanted → Result Job CommandLineError → Type 0
GivesJob asked (Ok job) = asked ≡ Some (wanted_by job)
GivesJob asked (Err error) = (error ≡ NoMemory) ⊎ ((error ≡ BadCommandLine) × (asked ≡ None))

-- ---- which option says which field of the records of numbers
-- The table of commands has them as they are read; here they stand by field, so that no two change places
-- unseen.

module _ (options : Found) where
  abbrev pub SayRuns : Runs → Type 0
  SayRuns runs = (number_at options (codes "skip") 0 18446744073709551615 ≡ Some runs.skip) × (number_at options (codes "runs") 1 100000 ≡ Some runs.number)
      × (number_at options (codes "length") 0 MAX_EVENTS ≡ Some runs.length) × (number_at options (codes "jobs") 1 64 ≡ Some runs.jobs)

  abbrev pub SayPlace : BlockPlace → Type 0
  SayPlace place = (number_at options (codes "ring") 0 4294967295 ≡ Some place.slots) × (number_at options (codes "base") 0 4294967295 ≡ Some place.base)
      × (number_if_given (options (codes "stride")) ≡ Some place.stride)

  abbrev pub SayQueue : CalledQueue → Type 0
  SayQueue queue = (options (codes "kind") >>= queue_kind_given ≡ Some queue.kind) × (number_at options (codes "base") 0 4294967295 ≡ Some queue.base)
      × (number_at options (codes "slots") 0 4294967295 ≡ Some queue.slots) × (number_at options (codes "sender") 0 63 ≡ Some queue.sender)
      × (number_at options (codes "receiver") 0 63 ≡ Some queue.receiver)
