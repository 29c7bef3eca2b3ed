use Rattle.std.specs.String.{string_bytes}
use Rattle.chart.specs.Svg.{line_svg}
use Rattle.chart.proofs.SvgLaws.{lines_grown}
use Rattle.chart.proofs.svg.push_lines.Goals as goal

pub loop-i-preserved : goal.loop-i-preserved
loop-i-preserved c =
    lines_grown line_svg c.loop-i.i c.args.lines.now c.index-lines-i.result (string_bytes c.args.out.now)
    (string_bytes c.loop-i.out) (string_bytes c.push_line.new.out) c.loop-i.invariant c.in_ok-push_line.ensures
    c.index-lines-i.is c.loop-i-test.true
