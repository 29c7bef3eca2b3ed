use Rattle.std.specs.String.{string_bytes}
use Rattle.engine_support.proofs.TextInputs.{format_read}
use Rattle.code_engines.specs.ScriptValue.{script_value}
use Rattle.code_engines.specs.StepsReading.{script_at}
use Rattle.code_engines.specs.StepsText.{Describes}
use Rattle.code_engines.proofs.steps.read_steps.Goals as goal

pub returns-clause-read : goal.returns-clause-read
returns-clause-read g c =
    format_read (Describes g.row.M) (script_at g.row.M) script_value script_value _ (string_bytes c.in_ok-input.input) c.read_script.result
    c.in_ok-input.ensures.text (rw c.as_bytes.ensures.value at c.read_script.ensures.found) (rw c.as_bytes.ensures.value at c.read_script.ensures.exact)
