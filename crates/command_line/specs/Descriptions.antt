-- clap's description of the table of commands.
use Rattle.std.specs.Prelude.{◌≡◌, false, List, [], ◌∷◌, map, codes}
use Rattle.clap.specs.Words.{App, Rule, app_of, new_app, rule_of, with_rule, with_subcommand}
use Rattle.clap.specs.declared.builder.arg.Arg.{Arg}
use Rattle.clap.specs.declared.builder.command.Command.{Command}
use Rattle.clap.specs.declared.builder.command.Command.TheViews.{out-Command as fields_of}
use Rattle.command_line.specs.Commands.{commands}
use Rattle.command_line.specs.Parameters.{CommandRow, rule_for}

-- The argument has this rule, and belongs to its command alone.
pub record HasRule (arg : Arg) (rule : Rule) : Type 0 where
  pub rule_is : rule_of arg ≡ rule
  pub local : arg.global ≡ false

-- The command is described so, and none of its arguments belongs to its subcommands too.
pub record IsDescribed (command : Command) (app : App) : Type 0 where
  pub app_is : app_of command ≡ app
  pub local : (fields_of command).has_globals ≡ false

abbrev pub with_rules : App → List Rule → App
with_rules app [] = app
with_rules app (rule ∷ rules) = with_rules (with_rule app rule) rules

-- clap's description of a command
abbrev pub app_for : CommandRow → App
app_for r = with_rules (new_app r.name) (map rule_for r.parameters)

abbrev pub with_commands : App → List CommandRow → App
with_commands app [] = app
with_commands app (r ∷ rows) = with_commands (with_subcommand app (app_for r).top) rows

abbrev pub ztso_command : App
ztso_command = with_commands (new_app (codes "ztso")) commands
