use Rattle.std.proofs.Common.{◌≡◌, ◌≢◌, length, sym, ap, ◌∙◌, rules, arith}
use Rattle.texts.specs.Numbers.{below_cap_of}
use Rattle.texts.proofs.NumberLaws.{hex_number_below_cap, hex_word_other, is_hex_word, found_hex_word}
use Rattle.texts.proofs.numbers.hex_word.Goals as goal

pub returns-then-bytes-eq8 : goal.returns-then-bytes-eq8
returns-then-bytes-eq8 c =
    let eight : length c.args.bytes.now ≡ 8 = omega arith in
    let exact = c.below_cap.ensures ∙ ap below_cap_of c.hex_number.ensures ∙ hex_number_below_cap c.args.bytes.now eight in
    record {
      found = found_hex_word c.args.bytes.now c.below_cap.result exact;
      only = λ n says. exact ∙ is_hex_word c.args.bytes.now n says;
      exact = exact;
    }

pub returns-else-bytes-eq8-clause-exact : goal.returns-else-bytes-eq8-clause-exact
returns-else-bytes-eq8-clause-exact c =
    let other : length c.args.bytes.now ≢ 8 = search rules in
    sym (hex_word_other c.args.bytes.now other)
