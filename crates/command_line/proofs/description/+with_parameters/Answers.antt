use Rattle.std.proofs.Common.{arith, sym, subst, map, List}
use Rattle.std.specs.Prelude.{IfOk}
use Rattle.command_line.specs.Descriptions.{IsDescribed, with_rules}
use Rattle.command_line.specs.Parameters.{rule_for, parameter_by}
use Rattle.command_line.specs.declared.table.Parameter.{Parameter}
use Rattle.command_line.proofs.Described.{parts, with_arg}
use Rattle.command_line.proofs.description.+with_parameters.Goals as goal

pub with_parameters-requires : goal.with_parameters-requires
with_parameters-requires t c = (omega (arith, c.in-len1-up.len_at_least), tt)

pub returns-in_ok-command-in-len1-up : goal.returns-in_ok-command-in-len1-up
returns-in_ok-command-in-len1-up t c = λ app is.
    subst (λ (ps : List Parameter). IfOk c.with_parameters.result (λ made. IsDescribed made (with_rules app (map rule_for (map parameter_by ps)))))
    (sym (parts c.args.parameters.now _ c.in-len1-up.len_at_least))
    (c.with_parameters.ensures _ (with_arg c.args.command _ app c.arg_for.result _ is c.arg_for.ensures c.in_ok-command-in-len1-up.ensures))
