use Rattle.channel_engines.proofs.OneUserChannel.{program_short}
use Rattle.channel_engines.proofs.programs.code_of_program.Goals as goal

pub returns-in-Ok-clause-short : goal.returns-in-Ok-clause-short
returns-in-Ok-clause-short c = let found = c.in-Ok.ensures.found in program_short _ _ found.0 found.1 found.2
