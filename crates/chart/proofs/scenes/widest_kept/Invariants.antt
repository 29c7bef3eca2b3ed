use Rattle.std.proofs.Common.{◌≡◌}
use Rattle.chart.specs.Scenes.{widest_kept}
use Rattle.chart.proofs.scenes.widest_kept.Given as goal

abbrev pub invariant-loop-i : goal.invariant-loop-i
invariant-loop-i l = l.widest ≡ widest_kept l.form l.scene l.i
