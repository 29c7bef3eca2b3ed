use Rattle.std.proofs.Common.{◌∙◌}
use Rattle.view_engines.specs.LeastWidths.{label_of_word, brief_of_word, kept_of_word}
use Rattle.view_engines.proofs.WidthLaws.{wider}
use Rattle.view_engines.proofs.least_widths.widths_with.Goals as goal

pub loop-word-preserved : goal.loop-word-preserved
loop-word-preserved c =
    let words = c.args.words.now in
    let i = c.loop-word.word-index in
    let before = c.loop-word.invariant in
    let more = c.in_ok-least.ensures in record {
      label = wider (label_of_word c.args.name c.args.number) words i _ _ _ c.loop-word-test.true before.label more.label;
      brief = wider (brief_of_word c.args.name c.args.number) words i _ _ _ c.loop-word-test.true before.brief more.brief;
      kept = wider (kept_of_word c.args.name c.args.number) words i _ _ _ c.loop-word-test.true before.kept more.kept;
      lanes = more.lanes ∙ before.lanes;
      listed_lanes = more.listed_lanes ∙ before.listed_lanes;
    }
