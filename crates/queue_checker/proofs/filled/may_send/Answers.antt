use Rattle.std.proofs.Common.{◌≡◌, ◌<◌, false, length, sym, arith}
use Rattle.std.proofs.lemmas.Bool.Decides.{nat_tests}
use Rattle.queue_certificates.specs.{all_below, is_filled, most_published}
use Rattle.queue_checker.proofs.Splits.{below_none}
use Rattle.queue_checker.proofs.filled.may_send.Goals as goal

pub returns-then-not-is_whole : goal.returns-then-not-is_whole
returns-then-not-is_whole c =
    let not : all_below (length c.args.fields.now) (is_filled c.args.size c.args.slots.now c.loop-position.position) ≡ false =
    grind (arith, c.is_whole.ensures, c.if-not-is_whole.true, c.if-not-is_whole.ensures) in
    let less : c.loop-position.position < most_published c.args.effect =
    grind (arith, nat_tests, c.loop-position-test.true, c.most_published-position-end.ensures) in
    sym (below_none (most_published c.args.effect) (λ d. all_below (length c.args.fields.now) (is_filled c.args.size c.args.slots.now d))
    c.loop-position.position less not)
