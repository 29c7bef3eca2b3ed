use Rattle.std.proofs.Common.{◌≡◌}
use Rattle.chart.specs.Scenes.{widest_label}
use Rattle.chart.proofs.scenes.widest_label.Given as goal

abbrev pub invariant-loop-i : goal.invariant-loop-i
invariant-loop-i l = l.widest ≡ widest_label l.form l.scene l.i
