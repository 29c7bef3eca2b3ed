use Rattle.engine_support.proofs.outcomes.Outcomes.count_first.Goals as goal

pub count_row-requires : goal.count_row-requires
count_row-requires g c = rw c.requires tt
