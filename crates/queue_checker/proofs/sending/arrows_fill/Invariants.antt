use Rattle.std.proofs.Common.{◌≡◌, length}
use Rattle.queue_certificates.specs.{arrows_fill, is_filled_after}
use Rattle.queue_checker.proofs.sending.arrows_fill.Given as goal

abbrev pub invariant-arrows : goal.invariant-arrows
invariant-arrows l = let s = l.sending in let f = is_filled_after s.ranges.now s.queue s.fields.now s.stored.now s.slots.now s.effect in
    arrows_fill l.certificate l.hart l.i l.arrows f ≡ arrows_fill l.certificate l.hart l.i l.initial.arrows f

abbrev pub decreases-arrows : goal.decreases-arrows
decreases-arrows l = length l.arrows
