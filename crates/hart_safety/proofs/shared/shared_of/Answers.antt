use Rattle.std.proofs.Common.{◌∙◌}
use Rattle.hart_safety.proofs.Sharing.{more-places, more-shares}
use Rattle.hart_safety.proofs.shared.shared_of.Goals as goal

pub loop-place-preserved : goal.loop-place-preserved
loop-place-preserved c =
    let o = c.args.opening.now in
    let listed = c.args.certificate.now in record {
      shares = c.in_ok-shares.ensures ∙ more-shares o listed c.loop-place.place c.in_ok-hart.hart c.in_ok-stores.stores c.in_ok-loads.loads
          c.in_ok-hart.ensures c.in_ok-stores.ensures c.in_ok-loads.ensures c.loop-place.shares c.loop-place.invariant.shares;
      unbounded = c.first_place-unbounded.ensures ∙ more-places o listed c.loop-place.place c.in_ok-hart.hart c.in_ok-stores.stores
          c.in_ok-loads.loads c.in_ok-hart.ensures c.in_ok-stores.ensures c.in_ok-loads.ensures c.loop-place.unbounded c.loop-place.invariant.unbounded;
    }
