use Rattle.records_written.specs.PartyLeaves.{has_mark}
use Rattle.records_written.proofs.MarkLaws.{open-within}
use Rattle.records_written.proofs.finding.open_in.Goals as goal

pub returns : goal.returns
returns c = open-within c.args.mask.now (has_mark c.args.own.now) c.args.state.now c.in_ok-end.end c.in_ok-open.open c.in_ok-end.ensures c.in_ok-open.ensures
