use Rattle.std.specs.Prelude.{IsTrue}
use Rattle.step_machine.specs.History.{History, at_opening}
use Rattle.step_machine.proofs.Running.{kept-at_opening, kept-run, run-one, run_induction, opening_kept, of_harts-run}
use Rattle.step_machine.proofs.OwnRuns.{own_run}
use Rattle.step_machine.proofs.Acts.{run_some}
use Rattle.step_machine.proofs.Landings.{landed-counted}
use Rattle.step_machine.proofs.WordReads.{read-word, memory-word}
use Rattle.step_machine.proofs.laws.laws_of_runs.Goals as goal

pub returns-clause-exists : goal.returns-clause-exists
returns-clause-exists c = λ B M o evs. run_some B M o evs

pub returns-clause-one : goal.returns-clause-one
returns-clause-one c = λ B M o evs t u run next. run-one B M (at_opening o) evs t u run next

pub returns-clause-kept : goal.returns-clause-kept
returns-clause-kept c = λ B M o evs t run. kept-run B M (at_opening o) evs t (kept-at_opening B M o) run

pub returns-clause-opening : goal.returns-clause-opening
returns-clause-opening c = λ B M o evs t run. opening_kept B M o evs t run

pub returns-clause-harts : goal.returns-clause-harts
returns-clause-harts c = λ B M o evs t run. of_harts-run B M o evs t run

pub returns-clause-own : goal.returns-clause-own
returns-clause-own c = λ B M t kept. own_run B M t kept

pub returns-clause-induction : goal.returns-clause-induction
returns-clause-induction c = λ B M holds o opens keeps evs t run.
    run_induction B M (λ (u : History). IsTrue (holds u))
    (λ u ev out new kept is happens. keeps u ev out new is happens) (at_opening o) evs t (kept-at_opening B M o)
    opens run

pub returns-clause-landings : goal.returns-clause-landings
returns-clause-landings c = λ B t l. landed-counted B t l

pub returns-clause-word_reads : goal.returns-clause-word_reads
returns-clause-word_reads c = λ o es h a opens all aligned. read-word o es h a opens all aligned

pub returns-clause-words_of_memory : goal.returns-clause-words_of_memory
returns-clause-words_of_memory c = λ o es a opens all aligned. memory-word o es a opens all aligned
