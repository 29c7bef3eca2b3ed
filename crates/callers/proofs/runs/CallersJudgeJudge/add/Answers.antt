use Rattle.std.proofs.Common.{[], ◌∷◌, refl, arith}
use Rattle.callers.specs.declared.counts.Counts.{Counts}
use Rattle.callers.proofs.Counting.{both_counted, few_unfinished, run_counted}
use Rattle.callers.proofs.runs.CallersJudgeJudge.add.Goals as goal

pub overflow_add-counts : goal.overflow_add-counts
overflow_add-counts g c =
    let it = c.args.self.now in
    let few = few_unfinished g.row.B g.row.M it.test.now.opening it.located 4294967294 c.args.counts.now c.requires.counted in
    omega (arith, few, c.unfinished_by.ensures.most)

pub returns : goal.returns
returns g c all events counted noted =
    let it = c.args.self.now in
    let one : Counts = record { calls = c.args.bench.now.calls; unfinished = c.unfinished_by.result } in
    both_counted g.row.B g.row.M it.test.now.opening it.located all (events ∷ []) c.args.counts.now one _ counted
    (run_counted g.row.B g.row.M it.test.now.opening it.located it.test.now events c.args.bench.now.machine.history c.args.bench.now.calls
    c.verdict.result noted (c.verdict.ensures.history c.args.bench.now.machine.history c.machine_state.ensures.stands) c.unfinished_by.result
    c.unfinished_by.ensures.value)
    c.both-counts.ensures refl
