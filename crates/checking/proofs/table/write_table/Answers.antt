use Rattle.std.proofs.Common.{◌++◌, rules}
use Rattle.std.specs.Io.KnownBytes.{Appends}
use Rattle.engine_support.specs.{unfinished_line, lines_in}
use Rattle.engine_support.proofs.Written.{appends_more}
use Rattle.checking.specs.{refused_line, first_name}
use Rattle.checking.proofs.table.write_table.Goals as goal

pub returns : goal.returns
returns g c =
    let start = g.W.Write.contents c.args.writer.now in
    let lines = lines_in first_name c.args.test.now c.args.tally.outcomes in
    let unfinished = unfinished_line c.args.tally.unfinished in
    let refused = refused_line c.args.tally.refused in
    let counted : Appends start (g.W.Write.contents c.writeln.new.self) (lines ++ unfinished) =
    appends_more start _ _ lines unfinished c.in_ok-write_lines.ensures c.in_ok-writeln.ensures.bytes in
    let all : Appends start (g.W.Write.contents c.writeln-2.new.self) (lines ++ unfinished ++ refused) =
    appends_more start _ _ (lines ++ unfinished) refused counted c.in_ok-writeln-2.ensures.bytes in
    search (rules, all)
