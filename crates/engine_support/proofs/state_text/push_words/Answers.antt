use Rattle.engine_support.proofs.OutcomeLaws.{none_added, one_added}
use Rattle.engine_support.proofs.StateLines.{words_shown-none, words_shown-more}
use Rattle.engine_support.proofs.state_text.push_words.Goals as goal

pub loop-place-init : goal.loop-place-init
loop-place-init g c = λ t stands. none_added _ _ (words_shown-none t)

pub loop-place-preserved : goal.loop-place-preserved
loop-place-preserved g c = λ t stands.
    (one_added _ _ _ _ _ _ (c.loop-place.invariant t stands) (rw (← c.word.ensures.history t stands) c.in_ok-push_word_line.ensures)
    (words_shown-more t c.loop-place.place))
