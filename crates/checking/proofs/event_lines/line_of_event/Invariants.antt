use Rattle.std.proofs.Common.{◌≡◌, ◌+◌, ◌≤◌, length}
use Rattle.std.specs.Str.Lines.{lines}
use Rattle.checking.specs.EventLines.{line_of_event, line_holding}
use Rattle.checking.proofs.event_lines.line_of_event.Given as goal

abbrev pub invariant-loop-bytes : goal.invariant-loop-bytes
invariant-loop-bytes l = record {
  stands : line_holding l.left (lines l.rest) + l.line ≡ line_of_event l.text l.event;
  few : l.line + length l.rest ≤ length l.text + 2;
}

abbrev pub decreases-loop-bytes : goal.decreases-loop-bytes
decreases-loop-bytes l = length l.rest
