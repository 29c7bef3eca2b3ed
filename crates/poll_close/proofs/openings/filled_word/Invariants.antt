use Rattle.poll_close.specs.Layout.{layout_of}
use Rattle.poll_close.proofs.Blocks.{EmptyTo}
use Rattle.poll_close.proofs.openings.filled_word.Given as goal

abbrev pub invariant-loop-j : goal.invariant-loop-j
invariant-loop-j l = EmptyTo (layout_of l.place l.words) l.count l.j
