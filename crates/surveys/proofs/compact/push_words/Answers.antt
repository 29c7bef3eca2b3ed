use Rattle.std.proofs.Common.{◌≡◌, ◌++◌, ◌+◌, ◌<◌, ◌≤◌, ℕ, [], ◌∷◌, length, drop, get_or, sym, ◌∙◌, ap, arith}
use Rattle.surveys.specs.inner.Compact.{with_seven_bits, words_from}
use Rattle.surveys.proofs.Compaction.{small_more, large_more, none_left}
use Rattle.surveys.proofs.compact.push_words.Goals as goal
use Rattle.surveys.proofs.compact.push_words.Goals.{then-byte-lt128+in_ok-push, else-byte-lt128}

pub loop-byte-preserved : goal.loop-byte-preserved
loop-byte-preserved c =
    let within : c.loop-byte.byte-index < length c.args.bytes.now = omega (arith, c.loop-byte-test.true) in
    let bytes = c.args.bytes.now in
    let i = c.loop-byte.byte-index in
    elim c.if-byte-lt128.branch [
      | then-byte-lt128+in_ok-push w ↦
          let pushed : w.push.new.self.items ≡ c.loop-byte.out.items ++ with_seven_bits c.loop-byte.word (get_or bytes i 0) ∷ [] =
          w.in_ok-push.ensures.items ∙ ap (λ (n : ℕ). c.loop-byte.out.items ++ n ∷ []) c.joined-word.ensures in
          (λ k. (w.out-is k).items ++ words_from (w.word-is k) (drop (i + 1) bytes))
          ∙ small_more c.loop-byte.word i bytes c.loop-byte.out.items w.push.new.self.items within w.if-byte-lt128.true pushed ∙ c.loop-byte.invariant
      | else-byte-lt128 w ↦
          (λ k. (w.out-is k).items ++ words_from ((w.word-is ∙ c.joined-word.ensures) k) (drop (i + 1) bytes))
          ∙ large_more c.loop-byte.word i bytes c.loop-byte.out.items within w.if-byte-lt128.false ∙ c.loop-byte.invariant
    ]

pub returns : goal.returns
returns c =
    let done : length c.args.bytes.now ≤ c.loop-byte.byte-index = omega (arith, c.loop-byte-test.false) in
    sym (none_left c.loop-byte.word c.loop-byte.byte-index c.args.bytes.now c.loop-byte.out.items done) ∙ c.loop-byte.invariant
