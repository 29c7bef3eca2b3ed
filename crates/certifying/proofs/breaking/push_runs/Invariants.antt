use Rattle.std.proofs.Common.{◌≡◌, ◌++◌, drop}
use Rattle.std.specs.String.{string_bytes}
use Rattle.engine_support.specs.OpeningTexts.{numbered}
use Rattle.certifying.specs.Broken.{runs_line}
use Rattle.certifying.proofs.breaking.push_runs.Given as goal

abbrev pub invariant-loop-place : goal.invariant-loop-place
invariant-loop-place l =
    string_bytes l.out ++ numbered (runs_line l.number l.length) l.place (drop l.place l.kept) ≡ string_bytes l.fn.out
    ++ numbered (runs_line l.number l.length) 0 l.kept
