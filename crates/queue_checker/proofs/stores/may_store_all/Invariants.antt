use Rattle.std.proofs.Common.{◌≡◌}
use Rattle.queue_certificates.specs.{queue_at, all_below, may_store}
use Rattle.queue_checker.proofs.stores.may_store_all.Given as goal

abbrev pub invariant-loop-i : goal.invariant-loop-i
invariant-loop-i l = let c = l.site.certificate.now in
    l.all ≡ all_below l.i
    (may_store (queue_at c) l.site.hart l.site.state.now l.handed l.value l.target.place
    l.target.bounds l.target.width l.moves)
