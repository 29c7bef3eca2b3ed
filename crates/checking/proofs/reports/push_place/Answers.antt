use Rattle.std.proofs.lemmas.Result.{on_ok_weaker}
use Rattle.checking.specs.Reports.{difference_place}
use Rattle.checking.proofs.Answering.{two_written}
use Rattle.checking.proofs.reports.push_place.Goals as goal

pub returns : goal.returns
unfolding difference_place
returns c = on_ok_weaker c.write-2.result (λ last. two_written _ _ _ _ _ c.in_ok-write.ensures.bytes last) c.write-2.ensures.bytes
