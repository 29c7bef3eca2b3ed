use Rattle.std.proofs.Common.{rules}
use Rattle.std.specs.List.Sorted.{IsStrictlySortedBy}
use Rattle.std.specs.Map.{keys_of}
use Rattle.engine_support.specs.inner.{AreFound, order}
use Rattle.engine_support.proofs.OutcomeLaws.{are_lines}
use Rattle.engine_support.proofs.outcomes.Outcomes.has_lines.Goals as goal

pub returns : goal.returns
returns g c =
    let rows = c.args.self.now.rows.entries in
    let sorted : IsStrictlySortedBy order (keys_of rows) = search rules in
    let found : AreFound rows = search rules in
    are_lines g.F.FirstRun.name c.args.test.now rows sorted found
