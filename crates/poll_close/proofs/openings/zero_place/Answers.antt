-- Each word that was passed is none of the zeros.
use Rattle.std.proofs.Common.{arith}
use Rattle.poll_close.proofs.Opened.{words_step, words-all}
use Rattle.poll_close.proofs.openings.zero_place.Goals as goal

pub loop-place-preserved : goal.loop-place-preserved
loop-place-preserved c = words_step c.args.list.now c.loop-place.place c.loop-place-test.true (omega arith) c.if-word-eq0.false c.loop-place.invariant

pub returns : goal.returns
returns c = words-all c.args.list.now c.loop-place.place (omega arith) c.loop-place.invariant
