use Rattle.std.proofs.Common.{ℕ, ◌<◌, ◌+◌, Some, arith}
use Rattle.engine_support.specs.Counting.{counted_by}
use Rattle.engine_support.proofs.Rows.{found-row, row-again, row-first}
use Rattle.engine_support.proofs.outcomes.count_row.Goals as goal

pub overflow_add-row : goal.overflow_add-row
overflow_add-row g c =
    let small = found-row g.F.FirstRun.name (λ (n : ℕ). n + c.args.later.count < 18446744073709551616) c.args.rows.now.entries c.args.outcome.items
    (Some c.in-Some.row.now) (rw c.as_slice.ensures.value at c.in-Some.ensures.value) c.requires in
    omega (arith, small)

pub returns-in-Some-clause-counts : goal.returns-in-Some-clause-counts
returns-in-Some-clause-counts g c =
    rw ((c.get_mut.follows.holds _).0, c.as_slice.ensures.value)
    (row-again g.F.FirstRun.name (counted_by g.F.FirstRun.name c.args.later) c.args.rows.now.entries c.args.outcome.items c.in-Some.row.now
    (rw c.as_slice.ensures.value at c.in-Some.ensures.value))

pub returns-in_ok-insert-in-None-clause-counts : goal.returns-in_ok-insert-in-None-clause-counts
returns-in_ok-insert-in-None-clause-counts g c =
    rw (c.in_ok-insert-in-None.ensures.entries, c.get_mut.follows.holds-at-none)
    (row-first g.F.FirstRun.name c.args.rows.now.entries c.args.outcome c.args.later (rw c.as_slice.ensures.value at c.in-None.ensures.value))
