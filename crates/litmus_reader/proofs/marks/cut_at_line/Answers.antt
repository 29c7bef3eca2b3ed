use Rattle.std.proofs.Common.{sym, ap, ◌∙◌}
use Rattle.std.proofs.lemmas.List.{take_rest}
use Rattle.litmus_reader.specs.Marks.{Cut}
use Rattle.litmus_reader.proofs.MarkLaws.{found_cut, turn_within, turn_cut, end_cut}
use Rattle.litmus_reader.proofs.marks.cut_at_line.Goals as goal

pub returns-then-begins : goal.returns-then-begins
returns-then-begins c =
    let here = rw (take_rest c.args.text.now c.loop-mark.at) at (sym c.begins.ensures ∙ c.if-begins.true) in
    let cut = found_cut c.args.mark c.args.text.now _ c.loop-mark.at here c.loop-mark.invariant.so_far in
    record {
      front = ap (λ (p : Cut). p.0) cut;
      back = rw (take_rest c.args.text.now c.loop-mark.at) (ap (λ (p : Cut). p.1) cut);
    }

pub loop-mark-preserved : goal.loop-mark-preserved
loop-mark-preserved c =
    let other = rw (take_rest c.args.text.now c.loop-mark.at) at (sym c.begins.ensures ∙ c.if-begins.false) in
    let ends = rw (take_rest c.args.text.now c.loop-mark.at) at (sym c.in-Some.ensures) in
    record {
      within = turn_within c.args.text.now c.loop-mark.at c.in-Some.end c.loop-mark.invariant.within ends;
      so_far = turn_cut c.args.mark c.args.text.now _ c.loop-mark.at c.in-Some.end other ends c.loop-mark.invariant.so_far;
    }

pub returns-in-None : goal.returns-in-None
returns-in-None c =
    let other = rw (take_rest c.args.text.now c.loop-mark.at) at (sym c.begins.ensures ∙ c.if-begins.false) in
    let ends = rw (take_rest c.args.text.now c.loop-mark.at) at (sym c.in-None.ensures) in
    let cut = end_cut c.args.mark c.args.text.now _ c.loop-mark.at other ends c.loop-mark.invariant.so_far in
    record { front = ap (λ (p : Cut). p.0) cut; back = ap (λ (p : Cut). p.1) cut }
