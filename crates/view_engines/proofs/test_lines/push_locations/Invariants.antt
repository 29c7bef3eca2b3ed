use Rattle.std.proofs.Common.{◌≡◌, ◌++◌, drop}
use Rattle.std.specs.String.{string_bytes}
use Rattle.engine_support.specs.OpeningTexts.{numbered}
use Rattle.view_engines.specs.TestLines.{location_line}
use Rattle.view_engines.proofs.test_lines.push_locations.Given as goal

abbrev pub invariant-loop-place : goal.invariant-loop-place
invariant-loop-place l =
    string_bytes l.out ++ numbered (location_line l.words) l.place (drop l.place l.test.names) ≡ string_bytes l.fn.out
    ++ numbered (location_line l.words) 0 l.test.names
