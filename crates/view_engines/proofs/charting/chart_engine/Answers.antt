use Rattle.engine_support.proofs.Endings.{ended}
use Rattle.view_engines.specs.Chart.{IsChartAnswer, drawing}
use Rattle.view_engines.proofs.charting.chart_engine.Goals as goal

pub returns-clause-ends : goal.returns-clause-ends
returns-clause-ends g c =
    ended
    (IsChartAnswer g.row.B g.row.M (drawing c.args.style c.args.selection) (g.F.Read.remaining c.args.file.now)
    (g.S.Read.remaining c.args.schedule.now)) _
    c.made.result c.end_with.result g.W.Write.contents _ _ c.made.ensures.made c.end_with.ensures
