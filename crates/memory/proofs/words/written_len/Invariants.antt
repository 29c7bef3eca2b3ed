use Rattle.std.proofs.Common.{◌≡◌, ◌≤◌, drop}
use Rattle.memory.proofs.words.written_len.Given as goal

abbrev pub invariant-loop-len : goal.invariant-loop-len
invariant-loop-len l = record {
  within : l.len ≤ l.untouched;
  after : drop l.len l.words ≡ drop l.len l.first;
}

abbrev pub decreases-loop-len : goal.decreases-loop-len
decreases-loop-len l = l.len
