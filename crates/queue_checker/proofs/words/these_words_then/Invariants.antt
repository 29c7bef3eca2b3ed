use Rattle.std.proofs.Common.{◌≡◌, ◌++◌, length}
use Rattle.queue_certificates.specs.{queue_at, words_then}
use Rattle.queue_checker.proofs.words.these_words_then.Given as goal

abbrev pub invariant-words : goal.invariant-words
invariant-words l = let c = l.site.certificate.now in let rs = l.site.state.now.ranges in
    l.out.items ++ words_then (queue_at c) (length c.queues) rs l.bounds l.width l.value l.own l.words
    ≡ words_then (queue_at c) (length c.queues) rs l.bounds l.width l.value l.initial.own l.initial.words

abbrev pub decreases-words : goal.decreases-words
decreases-words l = length l.own
