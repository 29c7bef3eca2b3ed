use Rattle.queue_progress.proofs.harts.+each_lacking.Given as goal

abbrev pub decreases-each_lacking : goal.decreases-each_lacking
decreases-each_lacking l = l.n
