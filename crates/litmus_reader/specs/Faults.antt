-- The faults of a litmus text.
use Rattle.std.specs.Prelude.{ℕ, Option, Some, None}
use Rattle.texts.specs.declared.errors.AtLine.{AtLine}
use Rattle.texts.specs.declared.errors.TextError.{TextError}
use Rattle.texts.specs.declared.errors.TextError.TheVariants.{NoMemory, Refused}
use Rattle.litmus_reader.specs.declared.faults.LitmusFault.{LitmusFault}
use Rattle.litmus_reader.specs.declared.faults.LitmusFault.TheVariants.{NoHeader, BadInit, BadTable, BadInstr, BadCondition, TooMany}
use Rattle.litmus_reader.specs.declared.refusals.AtLeft.{AtLeft}

abbrev pub litmus_number : LitmusFault → ℕ
litmus_number NoHeader = 21
litmus_number BadInit = 22
litmus_number BadTable = 23
litmus_number BadInstr = 24
litmus_number BadCondition = 25
litmus_number TooMany = 26

-- the text's fault that an error carries; its line is no part of it
abbrev pub fault_of : TextError (AtLine LitmusFault) → Option LitmusFault
fault_of NoMemory = None
fault_of (Refused refusal) = Some refusal.fault

-- the text's fault that a refusal carries; its place is no part of it
abbrev pub fault_in : TextError AtLeft → Option LitmusFault
fault_in NoMemory = None
fault_in (Refused refusal) = Some refusal.fault
