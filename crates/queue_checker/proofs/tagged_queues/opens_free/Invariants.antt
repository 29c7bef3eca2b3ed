use Rattle.std.proofs.Common.{◌≡◌, ◌+◌, []}
use Rattle.store_buffers.specs.StoreBuffers.{memory_number}
use Rattle.queue_parties.specs.Parties.{the_sender}
use Rattle.slots_that_tell.specs.Slots.{tag_of}
use Rattle.queue_certificates.specs.Steps.{all_below}
use Rattle.queue_layouts.specs.Tagged.{slots_of, tells_by}
use Rattle.queue_checker.proofs.tagged_queues.opens_free.Given as goal

abbrev pub invariant-loop-d : goal.invariant-loop-d
invariant-loop-d l = let q = l.queue in
    l.all ≡ all_below l.d (λ d. tells_by q.size q.codec the_sender (l.start + d) (memory_number l.opening [] (tag_of (slots_of q) (l.start + d)) q.tag_width))
