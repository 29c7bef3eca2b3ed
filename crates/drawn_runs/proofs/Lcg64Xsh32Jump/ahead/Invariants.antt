use Rattle.std.proofs.Common.{◌≡◌, ◌*◌}
use Rattle.rand_pcg.specs.Lcg.{advance}
use Rattle.rand_pcg.specs.Pcg.{multiplier_64}
use Rattle.drawn_runs.proofs.Lcg64Xsh32Jump.ahead.Given as goal

abbrev pub invariant-loop : goal.invariant-loop
invariant-loop l = l.there ≡ advance 64 multiplier_64 (l.blocks * l.counter) l.fn.self
