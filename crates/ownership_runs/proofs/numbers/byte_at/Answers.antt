use Rattle.std.proofs.Common.{sym, arith}
use Rattle.memory.proofs.Joined.{byte_past}
use Rattle.ownership_runs.proofs.numbers.byte_at.Goals as goal

pub returns-else-place-lt4 : goal.returns-else-place-lt4
returns-else-place-lt4 c = sym (byte_past c.args.place c.args.value (omega (arith, c.if-place-lt4.false)) c.ranges.value.fits)
