use Rattle.std.proofs.Common.{◌≡◌, ◌+◌, ◌-◌, ◌≤◌, length, vec_len}
use Rattle.std.specs.Option.{option_copied}
use Rattle.texts.specs.{bytes_left, read_in_turn}
use Rattle.texts.proofs.FormatLaws.{following}
use Rattle.recorder.specs.Records.{steps_at, line_size, records_from}
use Rattle.recorder.proofs.RecordLaws.{lines_after}
use Rattle.recorder.proofs.records.lines_within.Given as goal

abbrev pub invariant-loop-rest : goal.invariant-loop-rest
invariant-loop-rest l = record {
  few : vec_len l.steps ≤ 1048576;
  where_it_is : l.place + bytes_left (option_copied l.rest) ≡ length l.text + 1;
  so_far : following l.steps.items (read_in_turn (steps_at (length l.text)) line_size l.place (1048576 - vec_len l.steps)
      (lines_after (option_copied l.rest))) ≡ records_from l.fn.start l.text;
}

abbrev pub decreases-loop-rest : goal.decreases-loop-rest
decreases-loop-rest l = bytes_left (option_copied l.rest)
