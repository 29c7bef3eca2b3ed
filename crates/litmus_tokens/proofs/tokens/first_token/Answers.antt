use Rattle.std.proofs.Common.{◌≡◌, sym, ap, subst, ◌∙◌}
use Rattle.litmus_tokens.specs.Tokens.{seen, begun, beginning_of, tokens_of, tokens_from, LeavesLess}
use Rattle.litmus_tokens.proofs.TokenLaws.{leaves_less, tokens-cut}
use Rattle.litmus_tokens.proofs.tokens.first_token.Goals as goal

pub returns : goal.returns
unfolding beginning_of
returns c =
    let text = c.args.text.now in
    let exact : seen c.begun.result ≡ beginning_of text = c.begun.ensures ∙ ap begun c.without_leading.ensures in
    record {
      exact = exact;
      tokens = tokens-cut text ∙ ap (tokens_from tokens_of) (sym exact);
      rest = subst (LeavesLess text) (sym exact) (leaves_less text);
    }
