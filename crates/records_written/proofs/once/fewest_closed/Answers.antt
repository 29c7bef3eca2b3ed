use Rattle.records_written.proofs.Again.{zeros-under}
use Rattle.records_written.proofs.once.fewest_closed.Goals as goal

pub returns : goal.returns
returns c = λ f are. c.in_ok-settle.ensures f are (rw (c.in_ok-vec.ensures.items_if_clones_equal (λ zero is. is)) (zeros-under _ f))
