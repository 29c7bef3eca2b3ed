use Rattle.std.proofs.Common.{◌≡◌, take, map, []}
use Rattle.poll_close.specs.Layout.{senders_from, layout_of}
use Rattle.poll_close.proofs.openings.sender_harts.Given as goal

abbrev pub invariant-loop-index : goal.invariant-loop-index
invariant-loop-index l = l.harts.items ≡ senders_from l.code (layout_of l.place []) 0 (map (λ v. v.items) (take l.index l.lists))
