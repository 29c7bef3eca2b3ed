use Rattle.queue_progress.proofs.judging.sight_of.Goals as goal

pub returns : goal.returns
returns c = rw (c.code_of-code.ensures, c.deref.ensures.value, c.in_ok-ranks.ensures) at c.row_bound.ensures
