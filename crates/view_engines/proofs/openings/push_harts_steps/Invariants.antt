use Rattle.std.proofs.Common.{◌≡◌, ◌++◌, drop}
use Rattle.std.specs.String.{string_bytes}
use Rattle.engine_support.specs.OpeningTexts.{numbered, hart_steps}
use Rattle.view_engines.proofs.openings.push_harts_steps.Given as goal

abbrev pub invariant-loop-hart : goal.invariant-loop-hart
invariant-loop-hart l = string_bytes l.out ++ numbered hart_steps l.hart (drop l.hart l.harts) ≡ string_bytes l.fn.out ++ numbered hart_steps 0 l.harts
