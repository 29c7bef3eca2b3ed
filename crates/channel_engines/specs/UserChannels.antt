-- A user's own programs of a channel, one that each sender runs and one that the receiver runs, as assembly.
-- The command `channel own`: two programs, a schedule and the senders' lists in, what the receiver reports
-- out.
use Rattle.std.specs.Prelude.{ℕ, List, Option, Result, ◌≡◌, Ok, Err}
use Rattle.texts.specs.Results.{map_err}
use Rattle.rv_decode.specs.declared.instruction.Instr.{Instr}
use Rattle.assembler.specs.Drafts.{assembled, asm_number, Refusal as AsmRefusal}
use Rattle.assembler.specs.Program.{IsCode}
use Rattle.engine_support.specs.declared.fault.Position.TheVariants.{ProgramLine}
use Rattle.engine_support.specs.declared.fault.Refusal.{Refusal}
use Rattle.engine_support.specs.declared.fault.Role.{Role}
use Rattle.engine_support.specs.Inputs.{Format, format, After, schedules}
use Rattle.std.specs.List.{flat_map}
use Rattle.hart.specs.declared.need.Report.{Report}
use Rattle.step_machine.specs.Entries.{reported}
use Rattle.step_machine.specs.History.{History}
use Rattle.recorder.specs.Versions.{ScheduleValue}
use Rattle.poll_close.specs.Laws.{Ring, AcceptedAt as IsWithin, opening_over}
use Rattle.poll_close.specs.Layout.{Layout}
use Rattle.engine_support.specs.declared.fault.Role.TheVariants.{Sender, Receiver}
use Rattle.engine_support.specs.Engines.{Output}
use Rattle.engine_support.specs.Runs.{Runs}
use Rattle.channel_engines.specs.Channels.{IsUnreported, report_line}
use Rattle.channel_engines.specs.Lists.{list_texts}

-- a fault of a program's text, refused by its number at its line of this program
abbrev pub refused_in : Role → AsmRefusal → Refusal
refused_in role refusal = record { number = asm_number refusal.fault; place = ProgramLine role refusal.line }

-- the instructions of a program's text, or its refusal
unfoldable pub program_at : Role → List ℕ → Result (List (Option Instr)) Refusal
program_at role text = map_err (refused_in role) (assembled text)

-- inputs that are programs, with the words of their code
abbrev pub programs : Role → Format (List ℕ)
programs role = format IsCode (program_at role)

-- the two programs, as rings of one slot or more
abbrev pub ring_over : (sends receives : List ℕ) → Ring
ring_over sends receives = record { sender = sends; receiver = receives; least = 1 }

-- The receiver reports this in the run of what the schedule says: lists and a layout within the limits, and a record's
-- outcomes are the run's. It may be clean or not.
pub record IsUserReported (ring : Ring) (B M : ℕ) (l : Layout) (parsed : ScheduleValue) (lists : List (List ℕ)) (reports : List Report) : Type 0 where
  pub within : IsWithin ring M lists l
  pub history : History
  pub ran : Runs B M (opening_over ring lists l) parsed (Ok history)
  pub reports_are : reports ≡ reported 0 history.entries

-- the same, with the reports a line each
pub record IsUserDelivery (ring : Ring) (B M : ℕ) (l : Layout) (parsed : ScheduleValue) (lists : List (List ℕ)) (answer : Output) : Type 0 where
  pub reports : List Report
  pub is_reported : IsUserReported ring B M l parsed lists reports
  pub text : answer.0 ≡ flat_map report_line reports

-- what this run writes, or why nothing
abbrev pub IsUserRun : Ring → (B M : ℕ) → Layout → ScheduleValue → List (List ℕ) → Result Output Refusal → Type 0
IsUserRun ring B M l parsed lists (Ok answer) = IsUserDelivery ring B M l parsed lists answer
IsUserRun ring B M l parsed lists (Err refusal) = IsUnreported ring B M l parsed lists refusal

-- What answers two programs, a schedule of either version and lists, in a layout, over buffers of B stores and a memory of M
-- words. They are judged in the order in which they are read, then the lists and the layout, and then a record.
abbrev pub IsUserAnswer : (B M : ℕ) → Layout → (sender receiver schedule input : Option (List ℕ)) → Result Output Refusal → Type 0
IsUserAnswer B M l sender receiver schedule input =
    After (programs Sender) sender (λ sends. After (programs Receiver) receiver (λ receives. After schedules schedule (λ parsed.
    After list_texts input (IsUserRun (ring_over sends receives) B M l parsed))))
