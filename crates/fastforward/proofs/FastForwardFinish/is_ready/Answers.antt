use Rattle.std.proofs.Common.{lit<}
use Rattle.fastforward.proofs.Decreasing.{fastforward_loads}
use Rattle.fastforward.proofs.FastForwardFinish.is_ready.Goals as goal

pub is_ready_at-requires : goal.is_ready_at-requires
is_ready_at-requires g c = (
  lit< tt,
  (
    c.requires.hart,
    (
      lit< tt,
      (
        tt,
        fastforward_loads g.row.B g.row.M c.args.machine.now.history c.args.hart c.requires.stands c.requires.sender
            c.requires.hart,
      ),
    ),
  ),
)
