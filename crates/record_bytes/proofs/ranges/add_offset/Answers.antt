use Rattle.std.proofs.Common.{arith, ◌≡◌, ◌+◌}
use Rattle.std.proofs.lemmas.Result.{on_ok_weaker}
use Rattle.record_bytes.proofs.RangeLaws.{made_longer, made_more}
use Rattle.record_bytes.proofs.ranges.add_offset.Goals as goal
use Rattle.record_bytes.proofs.ranges.add_offset.Goals.{else-range-offset-via-then-range-offset+else-offset-range-eq1, else-range-offset-via-else-range-offset}

pub returns-then-offset-range-eq1 : goal.returns-then-offset-range-eq1
returns-then-offset-range-eq1 c =
    made_longer c.args.ranges.now.items c.pop.new.self.items c.push.new.self.items c.in-Some.range c.args.offset c.in-Some.ensures.items
    (omega arith) c.in_ok-push-in-Some.ensures.items

pub returns-in_ok-push-in-Some-2 : goal.returns-in_ok-push-in-Some-2
returns-in_ok-push-in-Some-2 c =
    let other : c.in-Some.range.last + 1 ≡ c.args.offset → ⊥ = λ e. (elim c.else-range-offset.branch [
      | else-range-offset-via-then-range-offset+else-offset-range-eq1 w ↦ absurd (omega (arith, e))
      | else-range-offset-via-else-range-offset w ↦ absurd (omega (arith, e))
    ]) in
    on_ok_weaker c.push_one-in-Some.result
    (λ pushed. made_more c.args.ranges.now.items c.pop.new.self.items c.push_one-in-Some.new.ranges.items c.in-Some.range c.args.offset
    c.in-Some.ensures.items other (rw (← c.in_ok-push-in-Some-2.ensures.items) pushed)) c.push_one-in-Some.ensures
