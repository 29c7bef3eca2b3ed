use Rattle.std.proofs.Common.{rules, ◌≡◌, subst, List, ◌∷◌, [], ℕ}
use Rattle.std.specs.Map.{keys_of}
use Rattle.std.specs.List.Sorted.{IsStrictlySortedBy}
use Rattle.std.specs.Global.{Vec}
use Rattle.std.proofs.lemmas.Map.Keys.{sorted_tail}
use Rattle.engine_support.specs.{Row, order}
use Rattle.engine_support.proofs.Rows.{row_taken, row_few, rows_done}
use Rattle.engine_support.proofs.outcomes.Outcomes.take_in.Goals as goal

pub count_row-requires : goal.count_row-requires
count_row-requires g c =
    let next : c.loop-outcome.outcome-iterator ≡ (c.in-Some.outcome, c.in-Some.row) ∷ c.next.new.self = search rules in
    row_few g.F.FirstRun.name _ _ c.in-Some.outcome c.in-Some.row _ _ _ 18446744073709551616 next
    c.loop-outcome.invariant.taken (c.requires c.in-Some.outcome.items)

pub loop-outcome-preserved : goal.loop-outcome-preserved
loop-outcome-preserved g c =
    let so_far = c.loop-outcome.invariant in
    let next : c.loop-outcome.outcome-iterator ≡ (c.in-Some.outcome, c.in-Some.row) ∷ c.next.new.self = search rules in
    record {
      taken = row_taken g.F.FirstRun.name _ _ c.in-Some.outcome c.in-Some.row _ _ _ _ next so_far.sorted c.in_ok-count_row.ensures.counts so_far.taken;
      sorted = sorted_tail order c.in-Some.outcome (keys_of c.next.new.self)
          (subst (λ (rows : List (Vec ℕ × Row _)). IsStrictlySortedBy order (keys_of rows)) next so_far.sorted);
    }

pub returns-clause-counts : goal.returns-clause-counts
returns-clause-counts g c =
    let none : c.loop-outcome.outcome-iterator ≡ [] = search rules in
    rows_done g.F.FirstRun.name _ _ c.loop-outcome.outcome-iterator c.loop-outcome.self.rows.entries none c.loop-outcome.invariant.taken
