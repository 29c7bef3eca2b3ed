use Rattle.std.proofs.Common.{arith, rules, suc, ◌+◌, ◌≡◌, ◌++◌, List, ℕ, append_assoc, ap, sym, ◌∙◌}
use Rattle.std.specs.String.{string_bytes}
use Rattle.certifying.specs.Answers.{texts}
use Rattle.certifying.specs.Lines.{going_lines, lines_below}
use Rattle.certifying.proofs.LineLaws.{texts_append}
use Rattle.certifying.proofs.going.push_all.Goals as goal

pub loop-index-preserved : goal.loop-index-preserved
loop-index-preserved c =
    let o = c.args.opening.now in
    let listed = c.args.certificate.now in
    let lines = going_lines c.args.opening.now c.args.certificate.now c.args.endings.now in
    let index = c.loop-index.index in
    let before = string_bytes c.args.out.now in
    let next : suc index ≡ index + 1 = omega arith in
    record {
      lines = c.in_ok-going.ensures.lines ∙ ap (λ (xs : List ℕ). xs ++ texts o listed (lines index)) c.loop-index.invariant.lines
          ∙ append_assoc before (texts o listed (lines_below index lines)) (texts o listed (lines index))
          ∙ ap (λ (xs : List ℕ). before ++ xs) (sym (texts_append o listed (lines_below index lines) (lines index)))
          ∙ ap (λ (n : ℕ). before ++ texts o listed (lines_below n lines)) next;
      going = search rules;
    }
