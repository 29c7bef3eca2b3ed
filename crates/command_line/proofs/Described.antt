-- Commands described parameter by parameter.
use Rattle.std.proofs.Common.{◌≡◌, ◌∙◌, ◌≤◌, ◌-◌, ap, ap₂, sym, arith, Bool, ◌||◌, List, [], ◌∷◌, length, take, drop}
use Rattle.std.specs.List.{slice_index_or}
use Rattle.std.proofs.lemmas.List.{take_all}
use Rattle.clap.specs.Words.{AddsArg, AddsSubcommand, App, Rule, with_rule, with_subcommand}
use Rattle.clap.specs.declared.builder.arg.Arg.{Arg}
use Rattle.clap.specs.declared.builder.command.Command.{Command}
use Rattle.command_line.specs.Descriptions.{HasRule, IsDescribed}

-- a list that isn't empty, as a slice pattern takes it apart
pub parts : {X : Type 0} (xs : List X) (d : X) → 1 ≤ length xs → xs ≡ slice_index_or xs 0 d ∷ take (length xs - 1) (drop 1 xs)
parts {X = X} [] d some = absurd (omega (arith, some))
parts {X = X} (x ∷ xs) d some = ap (λ (rest : List X). x ∷ rest) (sym (take_all (length (x ∷ xs) - 1) xs (omega arith)))

pub with_arg : (old new : Command) (app : App) (arg : Arg) (rule : Rule) → IsDescribed old app → HasRule arg rule → AddsArg old arg new
    → IsDescribed new (with_rule app rule)
with_arg old new app arg rule is has adds = record {
  app_is = adds.shape has.local ∙ ap₂ with_rule is.app_is has.rule_is;
  local = adds.globals ∙ ap₂ (λ (a b : Bool). a || b) is.local has.local;
}

pub with_command : (old sub new : Command) (app below : App) → IsDescribed old app → IsDescribed sub below → AddsSubcommand old sub new
    → IsDescribed new (with_subcommand app below.top)
with_command old sub new app below is sub_is adds = record {
  app_is = adds.shape sub_is.local ∙ ap₂ with_subcommand is.app_is (ap (λ (a : App). a.top) sub_is.app_is);
  local = adds.globals ∙ ap₂ (λ (a b : Bool). a || b) is.local sub_is.local;
}
