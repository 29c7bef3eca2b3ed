use Rattle.std.proofs.Common.{ap, ◌≡◌, ◌∙◌, map}
use Rattle.std.proofs.lemmas.Result.{IfOk-weaker}
use Rattle.clap.proofs.FaultLemmas.{fails_as}
use Rattle.clap.specs.Words.{App, app_of, fault_of, is_simple, is_simple_and_free, subcommand_of}
use Rattle.command_line.specs.Descriptions.{ztso_command}
use Rattle.command_line.proofs.Matches.{is_free_ztso, is_simple_ztso}
use Rattle.command_line.proofs.reading.matches_of.Goals as goal

pub returns : goal.returns
returns g c =
    let is : app_of c.in_ok-command.command ≡ ztso_command = c.in_ok-command.ensures.app_is in
    let parse = c.try_get_matches_from in
    record {
      kinds = fails_as parse.result _ _ (ap (λ (a : App). fault_of a (map g.S.AsStr.text c.args.words.now)) is)
          (parse.ensures.kinds (ap is_simple_and_free is ∙ is_free_ztso));
      subcommand = IfOk-weaker parse.result _ _
          (λ m h. (h (ap is_simple is ∙ is_simple_ztso)).1 ∙ ap (λ (a : App). subcommand_of a (map g.S.AsStr.text c.args.words.now)) is)
          parse.ensures.matches;
    }
