use Rattle.engine_support.specs.{read, text_and_value}
use Rattle.engine_support.proofs.InputLaws.{refused_after}
use Rattle.code_engines.specs.ScriptValue.{script_value}
use Rattle.code_engines.specs.Steps.{steps_texts}
use Rattle.code_engines.proofs.steps.made.Goals as goal

pub returns-in_err-script : goal.returns-in_err-script
returns-in_err-script g c =
    refused_after (steps_texts g.row.M) _ _ script_value text_and_value c.from_residual.result c.in_err-script.field-0.0
    c.from_residual.ensures.1 c.in_err-script.ensures.read

pub returns : goal.returns
returns g c = read (script_value c.in_ok-script.script) _ c.in_ok-script.ensures.read c.in_ok-text.ensures
