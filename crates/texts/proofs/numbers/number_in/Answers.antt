use Rattle.std.proofs.Common.{◌≡◌, ◌<◌, length, take, sym, rules, arith}
use Rattle.std.proofs.Math.Seq.{take-length}
use Rattle.texts.proofs.NumberLaws.{capped_value-all}
use Rattle.texts.proofs.numbers.number_in.Goals as goal

pub returns : goal.returns
returns c =
    let at_end : c.loop-byte.byte-index ≡ length c.args.bytes.now = omega arith in
    let whole : take c.loop-byte.byte-index c.args.bytes.now ≡ c.args.bytes.now = rw at_end (take-length c.args.bytes.now) in
    let some : 0 < length c.args.bytes.now = search rules in
    rw (c.loop-byte.invariant.value, whole) (sym (capped_value-all c.args.radix c.args.bytes.now some (rw whole at c.loop-byte.invariant.digits)))
