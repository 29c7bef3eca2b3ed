use Rattle.std.specs.String.{string_bytes}
use Rattle.chart.specs.Svg.{text_svg}
use Rattle.chart.proofs.SvgLaws.{mapped_grown}
use Rattle.chart.proofs.svg.push_texts.Goals as goal

pub loop-i-preserved : goal.loop-i-preserved
loop-i-preserved c =
    mapped_grown (text_svg c.args.class.now 0) string_bytes c.loop-i.i c.args.texts.now c.index-texts-i.result
    c.deref.result.now (string_bytes c.args.out.now) (string_bytes c.loop-i.out) (string_bytes c.push_text.new.out)
    c.loop-i.invariant c.in_ok-push_text.ensures c.deref.ensures c.index-texts-i.is c.loop-i-test.true
