-- A channel over two programs of a user's own.
use Rattle.std.specs.Prelude.{ℕ, ◌≡◌, List, [], map}
use Rattle.step_machine.specs.History.{OpeningValue}
use Rattle.poll_close.specs.Layout.{Layout, layout_of}
use Rattle.poll_close.specs.Laws.{Ring, FitsHart, AcceptedAt, opening_over}
use Rattle.ring_trials.specs.declared.user_channel.UserChannel.{UserChannel}

-- its programs, as a ring of one slot or more
abbrev pub ring_of : UserChannel → Ring
ring_of channel = record { sender = channel.sender.items; receiver = channel.receiver.items; least = 1 }

abbrev pub lists_of : UserChannel → List (List ℕ)
lists_of channel = map (λ v. v.items) channel.lists.items

-- all memory opens as 0
abbrev pub layout_from : UserChannel → Layout
layout_from channel = layout_of channel.place []

abbrev pub start_of : UserChannel → OpeningValue
start_of channel = opening_over (ring_of channel) (lists_of channel) (layout_from channel)

-- the channel is within the limits, over a memory of M words, and opens so
pub record OpensOver (M : ℕ) (channel : UserChannel) (o : OpeningValue) : Type 0 where
  pub accepted : AcceptedAt (ring_of channel) M (lists_of channel) (layout_from channel)
  pub short : FitsHart (ring_of channel)
  pub is : o ≡ start_of channel
