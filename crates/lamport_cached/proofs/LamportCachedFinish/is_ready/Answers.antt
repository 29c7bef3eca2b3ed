use Rattle.std.proofs.Common.{lit<}
use Rattle.lamport_cached.proofs.LamportCachedLaws.{lamport_cached_loads}
use Rattle.lamport_cached.proofs.LamportCachedFinish.is_ready.Goals as goal

pub is_ready_at-requires : goal.is_ready_at-requires
is_ready_at-requires g c = (
  lit< tt,
  (
    c.requires.hart,
    (
      lit< tt,
      (
        lit< tt,
        lamport_cached_loads g.row.B g.row.M c.args.machine.now.history c.args.hart c.requires.stands c.requires.sender
            c.requires.hart,
      ),
    ),
  ),
)
