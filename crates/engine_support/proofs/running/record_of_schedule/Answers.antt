use Rattle.std.proofs.Common.{refl}
use Rattle.recorder.specs.Versions.{schedule_value}
use Rattle.engine_support.proofs.RunLaws.{noted}
use Rattle.engine_support.proofs.running.record_of_schedule.Goals as goal

pub returns-in_ok-record-in-Plain : goal.returns-in_ok-record-in-Plain
returns-in_ok-record-in-Plain g c =
    noted g.row.B g.row.M c.args.test.now.opening _ c.in-Plain.events.items (schedule_value c.args.schedule) (rw c.in-Plain.is refl)
    (rw c.deref.ensures.value at c.in_ok-record-in-Plain.ensures.events) (rw c.in_ok-opening.ensures.copy at c.in_ok-record-in-Plain.ensures.outcomes)
