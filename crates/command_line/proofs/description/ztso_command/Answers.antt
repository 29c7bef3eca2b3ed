use Rattle.std.proofs.Common.{List, subst}
use Rattle.std.specs.Prelude.{IfOk, codes}
use Rattle.clap.specs.Words.{new_app}
use Rattle.command_line.specs.Descriptions.{IsDescribed, with_commands}
use Rattle.command_line.specs.Parameters.{CommandRow}
use Rattle.command_line.proofs.description.ztso_command.Goals as goal

pub returns : goal.returns
returns c =
    subst (λ (rows : List CommandRow).
    IfOk c.with_commands.result (λ command. IsDescribed command (with_commands (new_app (codes "ztso")) rows)))
    c.commands.ensures
    (c.with_commands.ensures _ (record { app_is = c.new.ensures.app; local = c.new.ensures.local }))
