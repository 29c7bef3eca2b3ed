use Rattle.std.proofs.Common.{arith, sym, subst, map, List}
use Rattle.std.specs.Prelude.{IfOk}
use Rattle.command_line.specs.Descriptions.{IsDescribed, with_commands}
use Rattle.command_line.specs.Parameters.{row_by}
use Rattle.std.specs.Borrow.{Bor}
use Rattle.clap.specs.Words.{Text}
use Rattle.command_line.specs.declared.table.Parameter.{Parameter}
use Rattle.command_line.proofs.Described.{parts, with_command}
use Rattle.command_line.proofs.description.+with_commands.Goals as goal

pub with_commands-requires : goal.with_commands-requires
with_commands-requires t c = (omega (arith, c.in-len1-up.len_at_least), tt)

pub returns-in_ok-command-in-len1-up : goal.returns-in_ok-command-in-len1-up
returns-in_ok-command-in-len1-up t c = λ app is.
    subst (λ (rows : List (Bor Text × Bor (List Parameter))). IfOk c.with_commands.result (λ made. IsDescribed made (with_commands app (map row_by rows))))
    (sym (parts c.args.rows.now _ c.in-len1-up.len_at_least))
    (c.with_commands.ensures _ (with_command c.args.command c.in_ok-command_for-in-len1-up.field-0 _ app _ is
    c.in_ok-command_for-in-len1-up.ensures c.in_ok-command-in-len1-up.ensures))
