use Rattle.std.proofs.Common.{◌≡◌, ◌+◌, ◌≤◌, length, map}
use Rattle.std.specs.Str.Lines.{lines}
use Rattle.assembler.specs.Drafts.{onto}
use Rattle.channel_engines.specs.Lists.{lists_of_lines, lists_at}
use Rattle.channel_engines.proofs.lists.lists_of_text.Given as goal

-- the lists so far, and those of the lines left, are what the text says
abbrev pub invariant-loop-line : goal.invariant-loop-line
invariant-loop-line l = record {
  so_far : onto (map (λ list. list.items) l.lists.items) (lists_of_lines (l.number + 1) (lines l.rest)) ≡ lists_at l.text;
  few : l.number + length l.rest ≤ length l.text;
}

abbrev pub decreases-loop-line : goal.decreases-loop-line
decreases-loop-line l = length l.rest
