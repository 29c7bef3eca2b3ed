use Rattle.code_engines.specs.StepsText.{Describes}
use Rattle.code_engines.specs.StepsReading.{script_at}
use Rattle.engine_support.proofs.Judging.{accepted_well, accepted-decoded}
use Rattle.code_engines.proofs.Describing.{text_sound, text_read, one_script}
use Rattle.code_engines.proofs.laws.laws_of_steps_texts.Goals as goal

pub returns-clause-read : goal.returns-clause-read
returns-clause-read c = λ M text script. (text_sound M text script, text_read M text script)

pub returns-clause-one : goal.returns-clause-one
returns-clause-one c = one_script

pub returns-clause-judged : goal.returns-clause-judged
returns-clause-judged c = λ M input script. (
  accepted_well (script_at M) (Describes M) input script (text_sound M input script),
  accepted-decoded (script_at M) (Describes M) input script (text_read M input script),
)
