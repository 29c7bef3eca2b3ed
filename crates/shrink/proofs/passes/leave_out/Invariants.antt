use Rattle.std.proofs.Common.{◌≡◌, ◌+◌, ◌<◌, ℕ, false, length}
use Rattle.std.specs.Prelude.{if◌then◌else◌}
use Rattle.shrink.specs.Shrinking.{IsPartOf, without}
use Rattle.shrink.proofs.passes.leave_out.Given as goal

abbrev pub invariant-loop-went : goal.invariant-loop-went
invariant-loop-went g l = record {
  stands : g.Q.Question.stands l.question l.bench;
  holds : g.Q.Question.holds l.question l.events.items;
  part : IsPartOf l.events.items l.fn.events.items;
  minimal : l.went ≡ false → (i : ℕ) → i < length l.events.items → g.Q.Question.holds l.question (without i 1 l.events.items) → ⊥;
}

-- a pass in which something went leaves fewer events; the other one is the last
abbrev pub decreases-loop-went : goal.decreases-loop-went
decreases-loop-went g l = length l.events.items + (if l.went then 1 else 0)
