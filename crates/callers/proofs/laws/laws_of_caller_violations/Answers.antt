use Rattle.callers.specs.Queues.{spsc_of}
use Rattle.callers.proofs.Sound.{keeps_all}
use Rattle.callers.proofs.Exact.{none_owed}
use Rattle.callers.proofs.Alike.{no_opening_violation}
use Rattle.callers.proofs.laws.laws_of_caller_violations.Goals as goal

pub returns-clause-kept : goal.returns-clause-kept
returns-clause-kept c = λ B M o l es located run free. keeps_all B M o l es located run free

pub returns-clause-none : goal.returns-clause-none
returns-clause-none c = λ B M o l es uses. none_owed B M o (spsc_of l) es uses

pub returns-clause-opening : goal.returns-clause-opening
returns-clause-opening c = λ M o q l d located has_violation. no_opening_violation M o q l d located has_violation
