use Rattle.std.proofs.Common.{List, ℕ, subst, arith, length, ◌≤◌}
use Rattle.std.specs.Prelude.{All}
use Rattle.std.proofs.lemmas.List.{take_all}
use Rattle.rv_decode.specs.Word.{IsWord}
use Rattle.surveys.proofs.Compaction.{words-back}
use Rattle.surveys.proofs.compact.push_bytes.Goals as goal

pub returns-clause-back : goal.returns-clause-back
returns-clause-back c =
    let done : length c.args.words.now ≤ c.loop-word.word-index = omega (arith, c.loop-word-test.false) in
    words-back c.args.words.now (subst (λ (ws : List ℕ). All IsWord ws) (take_all c.loop-word.word-index c.args.words.now done) c.loop-word.invariant.all)
