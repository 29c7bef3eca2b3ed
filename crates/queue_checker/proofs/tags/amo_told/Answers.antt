use Rattle.queue_checker.proofs.tags.amo_told.Goals as goal

pub returns : goal.returns
returns c = rw (c.in_ok-target.ensures, c.in_ok-stored.ensures) at c.stored_told.ensures
