use Rattle.std.proofs.Common.{◌≡◌, ◌+◌, ◌-◌, length, vec_len, sym, ap, ◌∙◌, arith}
use Rattle.std.specs.Option.{option_copied}
use Rattle.std.proofs.lemmas.Result.{err_from_is_err_and}
use Rattle.std.proofs.lemmas.List.{length-drop}
use Rattle.texts.proofs.FormatLaws.{turns_start, turn_found, turn_gives, turns_end}
use Rattle.recorder.specs.Records.{SizedLine, steps_at, line_size, records_from}
use Rattle.recorder.proofs.TextLaws.{rest_from}
use Rattle.recorder.proofs.RecordLaws.{lines_after, lines_cut, line-is}
use Rattle.recorder.proofs.records.lines_within.Goals as goal

pub loop-rest-init : goal.loop-rest-init
unfolding records_from
loop-rest-init c =
    let none : 1048576 - vec_len c.new-steps.result ≡ 1048576 = omega (arith, c.new-steps.ensures.len) in
    record {
      few = omega (arith, c.new-steps.ensures.len);
      where_it_is = omega (arith, ap length (rest_from c.args.start c.args.text.now), length-drop c.args.start c.args.text.now);
      so_far = rw (none, c.new-steps.ensures.items, rest_from c.args.start c.args.text.now) (turns_start (records_from c.args.start c.args.text.now));
    }

pub returns-in_err-push_line : goal.returns-in_err-push_line
returns-in_err-push_line c =
    let p = err_from_is_err_and c.from_residual.result c.from_residual.ensures.1 in
    let after = option_copied c.first_piece.result.1 in
    let line : SizedLine = (c.line_in-line.result.now, length c.first_piece.result.0.now + 1) in
    let cut = lines_cut c.in-Some.bytes.now c.first_piece.result.0.now after c.first_piece.ensures.cut in
    let here = line-is c.first_piece.result.0.now c.first_piece.result.1 c.line_in-line.result.now c.is_some.result
    c.is_some.ensures c.line_in-line.ensures.line in
    let so_far = rw (c.in-Some.is, cut, here) at c.loop-rest.invariant.so_far in
    turn_gives _ (steps_at (length c.args.text.now)) line_size c.loop-rest.place
    (1048576 - vec_len c.loop-rest.steps) c.loop-rest.steps.items line (lines_after after)
    (records_from c.args.start c.args.text.now) c.from_residual.result p.0 c.in_err-push_line.field-0.0 so_far
    c.in_err-push_line.ensures.exact.1 p.1 p.2

pub loop-rest-preserved : goal.loop-rest-preserved
loop-rest-preserved c =
    let read = c.in_ok-push_line.ensures.exact in
    let after = option_copied c.first_piece.result.1 in
    let line : SizedLine = (c.line_in-line.result.now, length c.first_piece.result.0.now + 1) in
    let cut = lines_cut c.in-Some.bytes.now c.first_piece.result.0.now after c.first_piece.ensures.cut in
    let here = line-is c.first_piece.result.0.now c.first_piece.result.1 c.line_in-line.result.now c.is_some.result
    c.is_some.ensures c.line_in-line.ensures.line in
    let so_far = rw (c.in-Some.is, cut, here) at c.loop-rest.invariant.so_far in
    let where_it_was = rw c.in-Some.is at c.loop-rest.invariant.where_it_is in
    record {
      few = c.in_ok-push_line.ensures.few;
      where_it_is = omega (arith, where_it_was, c.first_piece.ensures.rest);
      so_far = sym (turn_found (steps_at (length c.args.text.now)) line_size c.loop-rest.place 1048576
          (vec_len c.loop-rest.steps) (vec_len c.push_line.new.steps)
          (c.loop-rest.place + (length c.first_piece.result.0.now + 1)) c.loop-rest.steps.items read.0
          c.push_line.new.steps.items line (lines_after after) read.2 c.loop-rest.steps.ok.0 c.push_line.new.steps.ok.0
          (omega arith) read.1) ∙ so_far;
    }

pub returns : goal.returns
returns c =
    let so_far = rw c.in_default.is at c.loop-rest.invariant.so_far in
    sym so_far ∙ turns_end (steps_at (length c.args.text.now)) line_size c.loop-rest.place (1048576 - vec_len c.loop-rest.steps) c.loop-rest.steps.items
