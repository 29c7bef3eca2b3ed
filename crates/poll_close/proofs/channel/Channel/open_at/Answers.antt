-- The opening is one that the machine takes, and it stands.
use Rattle.std.proofs.Common.{lit<, ◌∙◌, ap}
use Rattle.step_machine.specs.History.{at_opening}
use Rattle.poll_close.proofs.channel.Channel.open_at.Goals as goal
use Rattle.poll_close.proofs.Delivering.{channel-fits}
use Rattle.poll_close.proofs.Standing.{stands-opens}

pub open-requires : goal.open-requires
open-requires g c = (
  lit< tt,
  (
    c.requires.some_capacity,
    (
      c.requires.capacity,
      (
        c.requires.some_word,
        (
          c.requires.memory,
          channel-fits g.K.RingKind.ring g.row.M _ _ _ c.laws.ensures.short c.in_ok-opening.ensures.accepted
              c.in_ok-opening.ensures.value,
        ),
      ),
    ),
  ),
)

pub invariant_of-result : goal.invariant_of-result
invariant_of-result g c = (
  c.requires.some_capacity,
  stands-opens g.K.RingKind.ring g.K.RingKind.meaning g.row.B g.row.M _ _ _ c.laws.ensures.opens
      c.in_ok-opening.ensures.accepted (c.in_ok-machine.ensures ∙ ap at_opening c.in_ok-opening.ensures.value),
  c.requires.capacity,
  c.requires.some_word,
  c.requires.memory,
)
