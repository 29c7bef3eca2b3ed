use Rattle.step_machine.specs.Standing.{RepresentsRunFrom}
use Rattle.checking.proofs.Goings.{Going}
use Rattle.checking.proofs.check.judge_all.Given as goal

-- the texts so far were judged, and a line for each written
abbrev pub invariant-loop : goal.invariant-loop
invariant-loop g l = record {
  going : Going g.row.B g.row.M l.test (g.R.Read.remaining l.fn.records) (g.R.Read.remaining l.records) (g.W.Write.contents l.fn.writer)
      (g.W.Write.contents l.writer) l.text.items l.tally l.counter;
  stands : RepresentsRunFrom g.row.B g.row.M l.test.opening l.machine;
}
