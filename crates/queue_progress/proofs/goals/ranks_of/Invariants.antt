use Rattle.std.proofs.Common.{◌≡◌, map, take, get_or}
use Rattle.queue_certificates.specs.Forms.{number}
use Rattle.queue_progress.proofs.goals.ranks_of.Given as goal

abbrev pub invariant-loop-state : goal.invariant-loop-state
invariant-loop-state l = l.ranks.items ≡ map (λ s. get_or s.ranks l.place (number 0)) (take l.state-index l.states)
