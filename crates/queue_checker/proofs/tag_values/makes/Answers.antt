use Rattle.queue_checker.proofs.tag_values.makes.Goals as goal

pub returns-in-Zero : goal.returns-in-Zero
returns-in-Zero c = rw c.in-Zero.is (c.makes_by_zero.ensures c.args.queue.size c.args.position.now)

pub returns-in_ok-number_for-in-Number : goal.returns-in_ok-number_for-in-Number
returns-in_ok-number_for-in-Number c =
    rw (c.in-Number.is, ← c.in_ok-number_for-in-Number.ensures c.args.ranges.now c.args.queue.size) c.is_number-in-Number.ensures

pub returns-in_ok-is_even-in-Phases : goal.returns-in_ok-is_even-in-Phases
returns-in_ok-is_even-in-Phases c =
    rw (c.in-Phases.is, ← c.in_ok-is_even-in-Phases.ensures, ← c.bits_for-even.ensures, ← c.bits_for-odd.ensures)
    (c.makes_round.ensures c.args.queue.tag_width)
