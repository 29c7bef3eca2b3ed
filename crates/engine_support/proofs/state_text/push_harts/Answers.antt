use Rattle.engine_support.proofs.OutcomeLaws.{none_added, one_added}
use Rattle.engine_support.proofs.StateLines.{harts_shown-none, harts_shown-more}
use Rattle.engine_support.proofs.state_text.push_harts.Goals as goal

pub loop-hart-init : goal.loop-hart-init
loop-hart-init g c = λ t stands. none_added _ _ (harts_shown-none g.row.M t)

pub loop-hart-preserved : goal.loop-hart-preserved
loop-hart-preserved g c = λ t stands.
    (one_added _ _ _ _ _ _ (c.loop-hart.invariant t stands) (c.in_ok-push_hart.ensures.pushed t stands) (harts_shown-more g.row.M t c.loop-hart.hart))
