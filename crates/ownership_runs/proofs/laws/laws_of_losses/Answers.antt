use Rattle.ownership_runs.proofs.Delivered.{handed-back}
use Rattle.ownership_runs.proofs.Losing.{is-first-loss, none-lost}
use Rattle.ownership_runs.proofs.laws.laws_of_losses.Goals as goal

pub returns-clause-lost : goal.returns-clause-lost
returns-clause-lost c = λ since q o counts es l some found. is-first-loss q some o counts since es l found

pub returns-clause-none : goal.returns-clause-none
returns-clause-none c = λ since q o counts es l some none after is. none-lost q some o counts since es l none after is

pub returns-clause-kept : goal.returns-clause-kept
returns-clause-kept c = λ B q o counts front e back l follows is. handed-back B q counts o front e back l follows is
