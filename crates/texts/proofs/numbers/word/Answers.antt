use Rattle.std.proofs.Common.{ap, ◌∙◌}
use Rattle.texts.specs.Numbers.{below_cap_of}
use Rattle.texts.proofs.NumberLaws.{number_below_cap, says_word, found_word}
use Rattle.texts.proofs.numbers.word.Goals as goal

pub returns : goal.returns
returns c =
    let exact = c.below_cap.ensures ∙ ap below_cap_of c.number.ensures ∙ number_below_cap c.args.bytes.now in
    record {
      found = found_word c.args.bytes.now c.below_cap.result exact;
      only = λ n says small. exact ∙ says_word c.args.bytes.now n says small;
      exact = exact;
    }
