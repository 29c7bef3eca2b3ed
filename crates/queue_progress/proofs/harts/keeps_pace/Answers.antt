use Rattle.queue_progress.proofs.harts.keeps_pace.Goals as goal

pub returns : goal.returns
returns c = rw c.code_of.ensures at c.are_ranks.ensures
