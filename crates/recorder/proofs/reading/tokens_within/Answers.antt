use Rattle.std.proofs.Common.{◌≡◌, ◌+◌, ◌-◌, length, vec_len, sym, ap, ◌∙◌, arith}
use Rattle.texts.specs.declared.pieces.Separators.TheVariants.{BlanksAndLineEnds}
use Rattle.texts.specs.Pieces.{pieces_after}
use Rattle.std.specs.Option.{option_copied}
use Rattle.recorder.specs.Reading.{piece_at, step_over, tokens_from}
use Rattle.std.proofs.lemmas.Result.{err_from_is_err_and}
use Rattle.std.proofs.lemmas.List.{length-drop}
use Rattle.recorder.proofs.TextLaws.{rest_from}
use Rattle.texts.proofs.FormatLaws.{turns_start, turn_found, turn_gives, turns_end}
use Rattle.recorder.proofs.reading.tokens_within.Goals as goal

pub loop-rest-init : goal.loop-rest-init
unfolding tokens_from
loop-rest-init c =
    let none : c.args.room - vec_len c.new-events.result ≡ c.args.room = omega (arith, c.new-events.ensures.len) in
    record {
      few = omega (arith, c.new-events.ensures.len);
      where_it_is = omega (arith, ap length (rest_from c.args.start c.args.text.now), length-drop c.args.start c.args.text.now);
      so_far = rw (none, c.new-events.ensures.items, rest_from c.args.start c.args.text.now)
          (turns_start (tokens_from c.args.start c.args.room c.args.text.now));
    }

pub returns-in_err-push_piece : goal.returns-in_err-push_piece
returns-in_err-push_piece c =
    let p = err_from_is_err_and c.from_residual.result c.from_residual.ensures.1 in
    let so_far = rw (c.in-Some.is, c.first_piece.ensures.cut) at c.loop-rest.invariant.so_far in
    turn_gives _ (piece_at (length c.args.text.now)) step_over c.loop-rest.place
    (c.args.room - vec_len c.loop-rest.events) c.loop-rest.events.items c.first_piece.result.0.now
    (pieces_after BlanksAndLineEnds (option_copied c.first_piece.result.1))
    (tokens_from c.args.start c.args.room c.args.text.now) c.from_residual.result p.0 c.in_err-push_piece.field-0.0
    so_far c.in_err-push_piece.ensures.exact.1 p.1 p.2

pub loop-rest-preserved : goal.loop-rest-preserved
loop-rest-preserved c =
    let read = c.in_ok-push_piece.ensures.exact in
    let so_far = rw (c.in-Some.is, c.first_piece.ensures.cut) at c.loop-rest.invariant.so_far in
    let where_it_was = rw c.in-Some.is at c.loop-rest.invariant.where_it_is in
    record {
      few = c.in_ok-push_piece.ensures.few;
      where_it_is = omega (arith, where_it_was, c.first_piece.ensures.rest);
      so_far = sym (turn_found (piece_at (length c.args.text.now)) step_over c.loop-rest.place c.args.room
          (vec_len c.loop-rest.events) (vec_len c.push_piece.new.events)
          (c.loop-rest.place + (length c.first_piece.result.0.now + 1)) c.loop-rest.events.items read.0
          c.push_piece.new.events.items c.first_piece.result.0.now
          (pieces_after BlanksAndLineEnds (option_copied c.first_piece.result.1)) read.2 c.loop-rest.events.ok.0
          c.push_piece.new.events.ok.0 (omega arith) read.1) ∙ so_far;
    }

pub returns : goal.returns
returns c =
    let so_far = rw c.in_default.is at c.loop-rest.invariant.so_far in
    sym so_far ∙ turns_end (piece_at (length c.args.text.now)) step_over c.loop-rest.place (c.args.room - vec_len c.loop-rest.events) c.loop-rest.events.items
