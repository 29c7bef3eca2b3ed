use Rattle.command_line.proofs.description.command_for.Goals as goal

pub returns : goal.returns
returns c = c.with_parameters.ensures _ (record { app_is = c.new.ensures.app; local = c.new.ensures.local })
