use Rattle.std.proofs.Common.{◌≡◌, false}
use Rattle.certifying.specs.Answers.{is_of_queue}
use Rattle.certifying.proofs.DrawnLaws.{sized}
use Rattle.certifying.proofs.answering.judged_flaw.Goals as goal

pub judged_by_runs-requires-clause-some_slot : goal.judged_by_runs-requires-clause-some_slot
judged_by_runs-requires-clause-some_slot g c κs within =
    let other : is_of_queue c.args.flaw ≡ false = cc in sized c.args.opening.now c.args.certificate.now c.args.flaw c.requires.first other
