use Rattle.std.proofs.Common.{◌≡◌, ◌+◌, ◌≤◌, length}
use Rattle.std.specs.Str.Lines.{lines}
use Rattle.assembler.specs.Drafts.{onto}
use Rattle.code_engines.specs.Dis.{code_of_lines, dis_at}
use Rattle.code_engines.proofs.dis.code_of_text.Given as goal

-- the words so far, and those of the lines left, are what the text says
abbrev pub invariant-loop-line : goal.invariant-loop-line
invariant-loop-line l = record {
  so_far : onto l.all.items (code_of_lines (l.number + 1) (lines l.rest)) ≡ dis_at l.text;
  few : l.number + length l.rest ≤ length l.text;
}

abbrev pub decreases-loop-line : goal.decreases-loop-line
decreases-loop-line l = length l.rest
