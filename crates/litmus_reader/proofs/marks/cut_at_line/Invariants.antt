use Rattle.std.proofs.Common.{◌≡◌, ◌-◌, ◌≤◌, length, take, drop}
use Rattle.litmus_reader.specs.Marks.{onto_front, line_cut}
use Rattle.litmus_reader.proofs.marks.cut_at_line.Given as goal

abbrev pub invariant-loop-mark : goal.invariant-loop-mark
invariant-loop-mark l = record {
  within : l.at ≤ length l.text;
  so_far : onto_front (take l.at l.text) (line_cut l.mark (drop l.at l.text)) ≡ line_cut l.mark l.text;
}

abbrev pub decreases-loop-mark : goal.decreases-loop-mark
decreases-loop-mark l = length l.text - l.at
