use Rattle.std.proofs.Common.{◌≡◌, length}
use Rattle.queue_certificates.specs.Certificates.{each_leads}
use Rattle.queue_checker.proofs.arrows.each_leads.Given as goal

abbrev pub invariant-states : goal.invariant-states
invariant-states l = each_leads l.certificate l.hart l.states l.arrows
    ≡ each_leads l.certificate l.hart l.initial.states l.initial.arrows

abbrev pub decreases-states : goal.decreases-states
decreases-states l = length l.states
