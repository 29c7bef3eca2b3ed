use Rattle.std.proofs.Common.{◌≡◌, ◌++◌, drop}
use Rattle.std.specs.String.{string_bytes}
use Rattle.engine_support.specs.OpeningTexts.{numbered}
use Rattle.view_engines.specs.TestLines.{hart_lines}
use Rattle.view_engines.proofs.test_lines.push_harts.Given as goal

abbrev pub invariant-loop-hart : goal.invariant-loop-hart
invariant-loop-hart l =
    string_bytes l.out ++ numbered (hart_lines l.rows) l.hart (drop l.hart l.harts) ≡ string_bytes l.fn.out
    ++ numbered (hart_lines l.rows) 0 l.harts
