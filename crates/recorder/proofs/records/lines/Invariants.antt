use Rattle.std.proofs.Common.{◌≡◌, ◌≤◌, ◌++◌, take, drop}
use Rattle.std.specs.List.{flat_map}
use Rattle.std.specs.String.{string_bytes}
use Rattle.texts.specs.Runs.{with_repetition, repetitions_of}
use Rattle.recorder.specs.Records.{is_same_step, record_line}
use Rattle.recorder.proofs.RecordLaws.{AreWords}
use Rattle.recorder.proofs.records.lines.Given as goal

abbrev pub invariant-loop-next : goal.invariant-loop-next
invariant-loop-next l = record {
  few : l.times ≤ l.next-index;
  words : AreWords (take l.next-index l.steps);
  so_far : string_bytes l.text
      ++ flat_map record_line (with_repetition is_same_step (l.step, l.times) (repetitions_of is_same_step (drop l.next-index l.steps)))
      ≡ flat_map record_line (repetitions_of is_same_step l.steps);
}
