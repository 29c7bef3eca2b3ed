use Rattle.hart_safety.proofs.Safety.{not_stopped, runs_or_ended, runs, spares_outside}
use Rattle.hart_safety.proofs.Sharing.{regions_in_order, bounded, not_shared}
use Rattle.hart_safety.proofs.laws_of_hart_safety.Goals as goal

pub returns-clause-never_stopped : goal.returns-clause-never_stopped
returns-clause-never_stopped c = not_stopped

pub returns-clause-runs_or_ended : goal.returns-clause-runs_or_ended
returns-clause-runs_or_ended c B M o certificate ok h known none = runs_or_ended B M o certificate ok h none known

pub returns-clause-runs : goal.returns-clause-runs
returns-clause-runs c B M o certificate ok h known none never = runs B M o certificate ok h none never known

pub returns-clause-touched_within : goal.returns-clause-touched_within
returns-clause-touched_within c stores B M o certificate ok = spares_outside B M o certificate ok stores

pub returns-clause-in_order : goal.returns-clause-in_order
returns-clause-in_order c = regions_in_order

pub returns-clause-bounded : goal.returns-clause-bounded
returns-clause-bounded c = bounded

pub returns-clause-not_shared : goal.returns-clause-not_shared
returns-clause-not_shared c = not_shared
