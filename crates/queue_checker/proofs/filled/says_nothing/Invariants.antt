use Rattle.std.proofs.Common.{◌≡◌, [], false, get_or}
use Rattle.std.specs.List.{list_all}
use Rattle.queue_certificates.specs.Steps.{all_below}
use Rattle.queue_checker.proofs.filled.says_nothing.Given as goal

abbrev pub invariant-loop-i : goal.invariant-loop-i
invariant-loop-i l = l.all ≡ all_below l.i (λ d. list_all (λ j. false) (get_or l.slots d []))
