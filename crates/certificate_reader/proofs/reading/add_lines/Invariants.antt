use Rattle.std.proofs.Common.{◌≡◌, ◌+◌, ◌≤◌, length}
use Rattle.std.specs.Str.Lines.{lines}
use Rattle.certificate_reader.specs.DraftValues.{draft_value}
use Rattle.certificate_reader.specs.Reading.{after_lines}
use Rattle.certificate_reader.proofs.reading.add_lines.Given as goal

-- the lines left, after what was said so far, say what all lines say
abbrev pub invariant-loop-line : goal.invariant-loop-line
invariant-loop-line l = record {
  so_far : after_lines (draft_value l.draft) l.number (lines l.rest) ≡ after_lines (draft_value l.fn.draft) 1 (lines l.text);
  few : l.number + length l.rest ≤ length l.text + 1;
}

abbrev pub decreases-loop-line : goal.decreases-loop-line
decreases-loop-line l = length l.rest
