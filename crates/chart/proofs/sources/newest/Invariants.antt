use Rattle.std.proofs.Common.{◌≡◌, take}
use Rattle.chart.specs.Sources.{newest}
use Rattle.chart.proofs.sources.newest.Given as goal

abbrev pub invariant-loop-write : goal.invariant-loop-write
invariant-loop-write l = l.found ≡ newest l.addr (take l.write-index l.writes)
