-- Each list that was passed has no zero.
use Rattle.std.proofs.Common.{subst, arith}
use Rattle.poll_close.specs.{AreWords, ZeroAt}
use Rattle.poll_close.proofs.Opened.{lists-more, lists-all, list-found}
use Rattle.poll_close.proofs.openings.zero_word.Goals as goal

pub returns-in-Some : goal.returns-in-Some
returns-in-Some c = list-found c.args.lists.now c.loop-sender.sender _ c.index-lists-sender.result
    c.loop-sender-test.true c.index-lists-sender.is
    (subst (λ ws. ZeroAt ws c.in-Some.place) c.deref.ensures.value c.in-Some.ensures) c.loop-sender.invariant

pub loop-sender-preserved : goal.loop-sender-preserved
loop-sender-preserved c =
    lists-more c.args.lists.now c.loop-sender.sender c.index-lists-sender.result c.loop-sender-test.true
    c.index-lists-sender.is (subst AreWords c.deref.ensures.value c.in-None.ensures) c.loop-sender.invariant

pub returns : goal.returns
returns c = lists-all c.args.lists.now c.loop-sender.sender (omega arith) c.loop-sender.invariant
