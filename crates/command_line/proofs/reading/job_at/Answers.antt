use Rattle.std.proofs.Common.{◌∙◌, ap}
use Rattle.std.specs.Prelude.{option_and_then}
use Rattle.command_line.specs.CommandLines.{job_at}
use Rattle.command_line.proofs.Matches.{both_known}
use Rattle.command_line.proofs.reading.job_at.Goals as goal

pub returns : goal.returns
returns c = c.job_by.ensures ∙ ap (option_and_then job_at) (both_known _ _ _ c.in_ok-name.name.now _ c.in_ok-name.ensures.name c.in_ok-name.ensures.rows)
