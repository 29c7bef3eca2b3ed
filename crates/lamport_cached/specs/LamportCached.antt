-- Lamport's ring with a cached tail, what its histories mean, and how far its harts are from their ends.
use Rattle.poll_close.specs.Laws.{Meaning}
use Rattle.poll_close.specs.Rankings.{Ranking}
use Rattle.poll_close.specs.Invariant.BlockInvariant.{BlockInvariant, ranking_of}
use Rattle.poll_close.specs.Invariant.Channels.{means_by}
use Rattle.lamport_ring.specs.Invariant.{blocks_of}
use Rattle.lamport_cached.specs.Invariant.Sender.{program}

abbrev pub lamport_cached_blocks : BlockInvariant
lamport_cached_blocks = blocks_of program

abbrev pub lamport_cached_means : Meaning
lamport_cached_means = means_by lamport_cached_blocks

abbrev pub lamport_cached_ranking : Ranking
lamport_cached_ranking = ranking_of lamport_cached_blocks
