-- The command `steps`: the state text of a run.
use Rattle.std.specs.Prelude.{ℕ, ◌≡◌, List, IsOkAnd, Option, Result}
use Rattle.step_machine.specs.History.{History}
use Rattle.step_machine.specs.Runs.{Run}
use Rattle.engine_support.specs.declared.fault.Refusal.{Refusal}
use Rattle.code_engines.specs.ScriptValue.{ScriptValue, opening_of_script}
use Rattle.code_engines.specs.StepsText.{Describes}
use Rattle.code_engines.specs.StepsReading.{script_at}
use Rattle.engine_support.specs.StateText.{shown}
use Rattle.engine_support.specs.Engines.{Output}
use Rattle.engine_support.specs.Inputs.{After, Format, format}

-- the state text of the history that the events make of the opening, over store buffers of B pairs and
-- a memory of M words
pub record IsStateText (B M : ℕ) (script : ScriptValue) (out : List ℕ) : Type 0 where
  pub history : History
  pub ran : Run B M (opening_of_script script) script.events history
  pub is_shown : out ≡ shown M history

-- inputs that are steps texts, for a memory of M words
abbrev pub steps_texts : (M : ℕ) → Format ScriptValue
steps_texts M = format (Describes M) (script_at M)

-- What answers an input: the state text of what it tells.
abbrev pub IsStepsAnswer : (B M : ℕ) → (input : Option (List ℕ)) → Result Output Refusal → Type 0
IsStepsAnswer B M input = After (steps_texts M) input (λ script given. IsOkAnd given (λ answer. IsStateText B M script answer.0))
