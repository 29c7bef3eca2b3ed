use Rattle.queue_progress.proofs.harts.keeps_looking.Goals as goal

pub returns : goal.returns
returns c = rw (c.code_of.ensures, c.deref.ensures.value, c.in_ok-ranks.ensures) at c.are_ranks.ensures
