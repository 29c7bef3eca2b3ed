-- Lamport's ring, what its histories mean, and how far its harts are from their ends.
use Rattle.poll_close.specs.Laws.{Meaning}
use Rattle.poll_close.specs.Rankings.{Ranking}
use Rattle.poll_close.specs.Invariant.BlockInvariant.{BlockInvariant, ranking_of}
use Rattle.poll_close.specs.Invariant.Channels.{means_by}
use Rattle.lamport_ring.specs.Invariant.{blocks_of}
use Rattle.lamport_ring.specs.Invariant.Sender.{lamport_program}

abbrev pub lamport_blocks : BlockInvariant
lamport_blocks = blocks_of lamport_program

abbrev pub lamport_means : Meaning
lamport_means = means_by lamport_blocks

abbrev pub lamport_ranking : Ranking
lamport_ranking = ranking_of lamport_blocks
