use Rattle.engine_support.specs.Histories.{BySchedule}
use Rattle.engine_support.proofs.Endings.{ended}
use Rattle.engine_support.proofs.command.schedule_engine.Goals as goal

pub returns-clause-ends : goal.returns-clause-ends
returns-clause-ends g c =
    ended (BySchedule g.C.ScheduleCommand.is_answer (g.F.Read.remaining c.args.file.now) (g.S.Read.remaining c.args.schedule.now)) _ c.made.result
    c.end_with.result g.W.Write.contents _ _ c.made.ensures.made c.end_with.ensures
