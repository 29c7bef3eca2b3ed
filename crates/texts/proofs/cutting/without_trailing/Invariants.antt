use Rattle.std.proofs.Common.{◌≡◌, ◌≤◌, length, take}
use Rattle.texts.specs.{separates, without_trailing}
use Rattle.texts.proofs.cutting.without_trailing.Given as goal

abbrev pub invariant-loop-end : goal.invariant-loop-end
invariant-loop-end l = record {
  within : l.end ≤ length l.text;
  same : without_trailing (separates l.separators) (take l.end l.text)
      ≡ without_trailing (separates l.separators) l.text;
}

abbrev pub decreases-loop-end : goal.decreases-loop-end
decreases-loop-end l = l.end
