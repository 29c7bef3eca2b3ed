use Rattle.std.proofs.Common.{◌≡◌, ◌+◌, ◌-◌, ◌≤◌, length, vec_len}
use Rattle.std.specs.Option.{option_copied}
use Rattle.texts.specs.declared.pieces.Separators.TheVariants.{BlanksAndLineEnds}
use Rattle.texts.specs.{pieces_after, bytes_left, read_in_turn}
use Rattle.texts.proofs.FormatLaws.{following}
use Rattle.recorder.specs.Reading.{piece_at, step_over, tokens_from}
use Rattle.recorder.proofs.reading.tokens_within.Given as goal

abbrev pub invariant-loop-rest : goal.invariant-loop-rest
invariant-loop-rest l = record {
  few : vec_len l.events ≤ l.room;
  where_it_is : l.place + bytes_left (option_copied l.rest) ≡ length l.text + 1;
  so_far : following l.events.items
      (read_in_turn (piece_at (length l.text)) step_over l.place (l.room - vec_len l.events)
      (pieces_after BlanksAndLineEnds (option_copied l.rest))) ≡ tokens_from l.fn.start l.room l.text;
}

abbrev pub decreases-loop-rest : goal.decreases-loop-rest
decreases-loop-rest l = bytes_left (option_copied l.rest)
