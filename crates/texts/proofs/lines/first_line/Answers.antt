use Rattle.std.proofs.Common.{◌+◌, ◌<◌, length, sym, ◌∙◌, rules}
use Rattle.std.proofs.Math.Seq.{drop-length}
use Rattle.std.proofs.lemmas.List.{take_rest}
use Rattle.texts.proofs.PieceLaws.{lines_found, lines_whole}
use Rattle.texts.proofs.lines.first_line.Goals as goal

pub returns-in-Some-clause-line : goal.returns-in-Some-clause-line
returns-in-Some-clause-line c =
    let first = lines_found c.args.bytes.now c.in-Some.at (sym c.line_feed_in.ensures ∙ c.in-Some.is) in
    rw (take_rest c.args.bytes.now (c.in-Some.at + 1), c.without_carriage_return.ensures) first

pub returns-in-None-clause-line : goal.returns-in-None-clause-line
returns-in-None-clause-line c =
    let some : 0 < length c.args.bytes.now = search rules in
    rw (take_rest c.args.bytes.now (length c.args.bytes.now), drop-length c.args.bytes.now)
    (lines_whole c.args.bytes.now (sym c.line_feed_in.ensures ∙ c.in-None.is) some)
