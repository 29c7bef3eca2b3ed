use Rattle.std.proofs.Common.{◌≡◌, ◌+◌, ◌≤◌, length}
use Rattle.std.specs.Str.Lines.{lines}
use Rattle.litmus_reader.specs.Lines.{last_filled, last_line}
use Rattle.litmus_reader.proofs.MarkLaws.{reached}
use Rattle.litmus_reader.proofs.refusals.last_line.Given as goal

abbrev pub invariant-loop-line : goal.invariant-loop-line
invariant-loop-line l = record {
  room : l.seen + length l.rest ≤ length l.text;
  so_far : reached l.seen l.last (last_filled (lines l.rest)) ≡ last_line l.text;
}

abbrev pub decreases-loop-line : goal.decreases-loop-line
decreases-loop-line l = length l.rest
