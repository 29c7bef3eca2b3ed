use Rattle.std.proofs.Common.{ℕ, ◌<◌, Some, arith}
use Rattle.engine_support.proofs.Rows.{found-row, none_there, row-again}
use Rattle.engine_support.proofs.outcomes.Outcomes.count_again.Goals as goal

pub overflow_add-row : goal.overflow_add-row
overflow_add-row g c =
    let small = found-row g.F.FirstRun.name (λ (n : ℕ). n < 18446744073709551615) c.args.self.now.rows.entries c.args.outcome.now
    (Some c.in-Some.row.now) c.in-Some.ensures.value c.requires in
    omega (arith, small)

pub returns-in-Some-clause-again : goal.returns-in-Some-clause-again
returns-in-Some-clause-again g c = λ again name.
    rw (c.get_mut.follows.holds _).0
    (row-again g.F.FirstRun.name (1, name) c.args.self.now.rows.entries c.args.outcome.now c.in-Some.row.now c.in-Some.ensures.value)

pub returns-in-None-clause-none : goal.returns-in-None-clause-none
returns-in-None-clause-none g c = λ none. none_there g.F.FirstRun.name c.args.self.now.rows.entries c.args.outcome.now c.in-None.ensures.value
