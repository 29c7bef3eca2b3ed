use Rattle.std.proofs.Common.{◌≡◌}
use Rattle.queue_certificates.specs.{own_of, all_below, leaves_words}
use Rattle.queue_checker.proofs.words.leaves_words.Given as goal

abbrev pub invariant-loop-other : goal.invariant-loop-other
invariant-loop-other l = let c = l.certificate in
    l.all ≡ all_below l.other
    (leaves_words (own_of c) l.hart l.bounds l.width)
