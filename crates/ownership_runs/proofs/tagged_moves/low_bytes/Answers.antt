use Rattle.std.proofs.Common.{◌≤◌, ◌<◌, ◌^◌, sym, arith}
use Rattle.std.proofs.Math.Nat.{mod-eq_of_lt, pow-le-pow_right}
use Rattle.ownership_runs.proofs.tagged_moves.low_bytes.Goals as goal

pub returns-in_default : goal.returns-in_default
returns-in_default c =
    let past : 4 ≤ c.args.count = omega (arith, c.in_default) in
    let large : 2 ^ 32 ≤ 256 ^ c.args.count = pow-le-pow_right {n = 256} (omega arith) {i = 4} {j = c.args.count} past in
    let word : c.args.value < 2 ^ 32 = c.ranges.value.fits in
    sym (mod-eq_of_lt (omega (arith, word, large)))
