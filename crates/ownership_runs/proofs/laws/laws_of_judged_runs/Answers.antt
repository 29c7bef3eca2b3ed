use Rattle.ownership_runs.proofs.Ends.{ends-told, loss-told}
use Rattle.ownership_runs.proofs.Judged.{breaks-and-loses, keeps-or-breaks, follows-run, none-or-lost}
use Rattle.ownership_runs.proofs.laws.laws_of_judged_runs.Goals as goal

pub returns-clause-follows : goal.returns-clause-follows
returns-clause-follows c = λ B M o q start events t queue rest keeps run. follows-run B M o q start events t queue rest keeps run

pub returns-clause-apart : goal.returns-clause-apart
returns-clause-apart c = λ B M o q start events b some keeps breaks. keeps-or-breaks B M o q start events b some keeps breaks

pub returns-clause-ends : goal.returns-clause-ends
returns-clause-ends c = λ B M o q start schedule runs part b told. ends-told B M o q start schedule runs part b told

pub returns-clause-lost_or_not : goal.returns-clause-lost_or_not
returns-clause-lost_or_not c = λ B M o q start broken events l none has. none-or-lost B M o q start broken events l none has

pub returns-clause-both : goal.returns-clause-both
returns-clause-both c = λ B M o q start events l steps has are. breaks-and-loses B M o q start events l steps has are

pub returns-clause-loses : goal.returns-clause-loses
returns-clause-loses c = λ B M o q start broken schedule runs part l some told. loss-told B M o q start schedule runs part broken l some told
