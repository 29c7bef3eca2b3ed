-- The bytes are right up to a place where one is not, or all are and there is nothing above them.
use Rattle.std.proofs.Common.{arith, get_or, sym, ◌∙◌}
use Rattle.ztso_axioms.proofs.Values.{value_from_bytes, bytes_from_value, below_from_value}
use Rattle.ztso_axioms.proofs.checking.has_bytes.Goals as goal

pub returns-then-latest_byte-byte_at : goal.returns-then-latest_byte-byte_at
returns-then-latest_byte-byte_at c = (
  λ no. absurd (cc),
  λ is. absurd (c.if-latest_byte-byte_at.true (c.latest_byte.ensures
      ∙ sym (bytes_from_value c.args.trace.now.opening c.args.trace.now.entries c.args.order.now
      (get_or c.args.order.now c.args.index 0) c.args.addr c.args.width c.args.value c.loop-place.place is
      (omega arith))
      ∙ sym c.byte_at.ensures)),
)

pub returns : goal.returns
returns c = (
  λ so. value_from_bytes c.args.trace.now.opening c.args.trace.now.entries c.args.order.now
      (get_or c.args.order.now c.args.index 0) c.args.addr c.args.width c.args.value (c.is_below.ensures.0 so)
      (λ i lt. c.loop-place.invariant i (omega arith)),
  λ is. c.is_below.ensures.1 (below_from_value c.args.trace.now.opening c.args.trace.now.entries c.args.order.now
      (get_or c.args.order.now c.args.index 0) c.args.addr c.args.width c.args.value is),
)
