use Rattle.std.proofs.Common.{◌≡◌, ◌+◌, [], length, drop, refl, sym, ap, subst, ◌∙◌, append_assoc, arith}
use Rattle.std.proofs.Math.Seq.{drop-length}
use Rattle.std.proofs.lemmas.List.{append-nil}
use Rattle.litmus_tokens.specs.Cleaning.{cleaned_from, cleaned_text, IsCleaned}
use Rattle.litmus_tokens.proofs.CleaningLaws.{length-cleaned_text, one_turn, is_first}
use Rattle.litmus_tokens.proofs.CommentLaws.{is_cleaned, only_cleaned}
use Rattle.litmus_tokens.proofs.cleaning.cleaned.Goals as goal

pub loop-at-init : goal.loop-at-init
unfolding cleaned_text
loop-at-init c = rw c.new-bytes.ensures.items refl

pub loop-at-preserved : goal.loop-at-preserved
loop-at-preserved c =
    let text = c.args.text.now in
    let next = c.copied.ensures ∙ is_first text (c.loop-at.at + 1) c.get.result c.get.ensures.lookup.3 in
    let shown = rw next at c.turned-written.ensures in
    let turn = one_turn c.loop-at.part text c.loop-at.at c.loop-at-test.true in
    rw (c.in_ok-push.ensures.items, shown, append_assoc) (rw turn at c.loop-at.invariant)

pub returns : goal.returns
unfolding cleaned_from
returns c =
    let at_end : c.loop-at.at ≡ length c.args.text.now = omega arith in
    let none : drop c.loop-at.at c.args.text.now ≡ [] = rw at_end (drop-length c.args.text.now) in
    let whole : c.loop-at.bytes.items ≡ cleaned_text c.args.text.now = sym (append-nil c.loop-at.bytes.items) ∙ (rw none at c.loop-at.invariant) in
    record {
      found = subst (IsCleaned c.args.text.now) (sym whole) (is_cleaned c.args.text.now);
      only = λ out is. whole ∙ only_cleaned c.args.text.now out is;
      cleaned = whole;
      same_length = ap length whole ∙ length-cleaned_text c.args.text.now;
    }
