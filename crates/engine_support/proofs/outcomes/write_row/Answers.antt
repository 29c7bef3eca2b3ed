use Rattle.std.proofs.Common.{[], ◌∷◌, ◌++◌, zip, rules}
use Rattle.std.specs.Prelude.{codes}
use Rattle.std.specs.List.{flat_map}
use Rattle.std.specs.Fmt.{decimal}
use Rattle.std.specs.Io.KnownBytes.{Appends}
use Rattle.litmus.specs.LitmusTests.{left_sides}
use Rattle.engine_support.specs.Outcomes.{value_text}
use Rattle.engine_support.proofs.Written.{appends_more, ends_written}
use Rattle.engine_support.proofs.outcomes.write_row.Goals as goal

pub returns : goal.returns
returns g c =
    let test = c.args.test.now in
    let start = g.W.Write.contents c.args.writer.now in
    let count = decimal c.args.row.count in
    let values = flat_map (value_text test.names) (zip (left_sides test.condition) c.args.outcome.now) in
    let name = g.F.FirstRun.name c.args.row.first in
    let counted : Appends start (g.W.Write.contents c.write.new.self) count = search rules in
    let with_values = appends_more start _ _ count values counted c.in_ok-write_values.ensures in
    let with_mark = appends_more start _ _ (count ++ values) (codes " ;") with_values c.in_ok-write_all.ensures.bytes in
    let with_name = appends_more start _ _ (count ++ values ++ codes " ;") name with_mark c.in_ok-write_name.ensures in
    ends_written c.write_all-2.result start _ _ (count ++ values ++ codes " ;" ++ name) (10 ∷ []) with_name c.write_all-2.ensures.bytes
