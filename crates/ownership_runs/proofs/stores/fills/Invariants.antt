use Rattle.std.proofs.Common.{◌≡◌, true}
use Rattle.ownership_runs.specs.Keeping.{fills}
use Rattle.ownership_runs.proofs.stores.fills.Given as goal

abbrev pub invariant-loop-place : goal.invariant-loop-place
invariant-loop-place l = fills l.queue l.owned l.address l.place ≡ true
