-- What a command line asks for, with its words as texts.
use Rattle.std.specs.Prelude.{ℕ, List, Option, Some, None, option_map, ◌≡◌, ◌⊎◌}
use Rattle.command_line.specs.declared.job.Input.{Input as JobInput}
use Rattle.command_line.specs.declared.job.Input.TheVariants as input
use Rattle.command_line.specs.declared.job.Capacity.{Capacity}
use Rattle.command_line.specs.declared.job.Job.{Job}
use Rattle.command_line.specs.declared.job.Command.{Command}
use Rattle.command_line.specs.declared.fault.CommandLineError.{CommandLineError}
use Rattle.command_line.specs.declared.fault.CommandLineError.TheVariants.{BadCommandLine, NoMemory}

-- where an input comes from: standard input, or the file of this path
pub data Input : Type 0 where
  Standard : Input
  File : (path : List ℕ) → Input

-- A command, the buffers of its machine, its inputs in the order in which they are read, and the bytes of records that are asked about, if any
-- are: those that are to be written, those that are to be read, and those that are to be read at most once
pub record Wanted : Type 0 where
  pub command : Command
  pub capacity : Capacity
  pub first : Input
  pub second : Option Input
  pub third : Option Input
  pub fourth : Option Input
  pub written : Option (List ℕ)
  pub read : Option (List ℕ)
  pub once : Option (List ℕ)

module _ (command : Command) (capacity : Capacity) where
  abbrev pub wanted_of : (first : Input) → (second third fourth : Option Input) → Wanted
  wanted_of first second third fourth =
      record {
        command = command;
        capacity = capacity;
        first = first;
        second = second;
        third = third;
        fourth = fourth;
        written = None;
        read = None;
        once = None;
      }

  abbrev pub one_input : Input → Wanted
  one_input first = wanted_of first None None None

  abbrev pub two_inputs : (first second : Input) → Wanted
  two_inputs first second = wanted_of first (Some second) None None

  abbrev pub three_inputs : (first second third : Input) → Wanted
  three_inputs first second third = wanted_of first (Some second) (Some third) None

  abbrev pub four_inputs : (first second third fourth : Input) → Wanted
  four_inputs first second third fourth = wanted_of first (Some second) (Some third) (Some fourth)

abbrev pub input_by : JobInput → Input
input_by input.Standard = Standard
input_by (input.File path) = File path.now

-- what a job asks for
abbrev pub wanted_by : Job → Wanted
wanted_by job = record {
  command = job.command;
  capacity = job.capacity;
  first = input_by job.first;
  second = option_map input_by job.second;
  third = option_map input_by job.third;
  fourth = option_map input_by job.fourth;
  written = option_map (λ bytes. bytes.now) job.written;
  read = option_map (λ bytes. bytes.now) job.read;
  once = option_map (λ bytes. bytes.now) job.once;
}

-- ---- why a command line gives no job

-- want of memory is reported as such, and every other error as a bad command line
abbrev pub IsErrorFor : Type 0 → CommandLineError → Type 0
IsErrorFor WantOfMemory error = (WantOfMemory × (error ≡ NoMemory)) ⊎ ((WantOfMemory → ⊥) × (error ≡ BadCommandLine))
