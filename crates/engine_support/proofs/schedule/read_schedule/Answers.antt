use Rattle.std.proofs.Common.{◌≡◌}
use Rattle.std.specs.String.{string_bytes}
use Rattle.recorder.specs.Versions.{SaysSchedule, schedule_value}
use Rattle.engine_support.specs.Inputs.{schedule_of, schedules}
use Rattle.engine_support.proofs.InputLaws.{one_schedule, refused_no_answer}
use Rattle.engine_support.proofs.TextInputs.{format_read}
use Rattle.engine_support.proofs.schedule.read_schedule.Goals as goal

pub returns-clause-schedule : goal.returns-clause-schedule
returns-clause-schedule g c =
    format_read SaysSchedule schedule_of schedule_value schedule_value _ (string_bytes c.in_ok-text.text) c.schedule_of_text.result c.in_ok-text.ensures.text
    (rw c.deref.ensures at c.schedule_of_text.ensures.found) (rw c.deref.ensures at c.schedule_of_text.ensures.exact)

pub returns-clause-refused : goal.returns-clause-refused
returns-clause-refused g c = refused_no_answer schedules (λ r s. r ≡ s) one_schedule _ schedule_value c.schedule_of_text.result (returns-clause-schedule g c)
