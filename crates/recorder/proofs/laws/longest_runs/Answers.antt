use Rattle.texts.proofs.RunLaws.{expanded-runs_of, AreLongest-runs_of, runs_of-expanded}
use Rattle.recorder.specs.{is_same, is_same_step}
use Rattle.recorder.proofs.Runs.{decides}
use Rattle.recorder.proofs.RecordLaws.{decides_steps}
use Rattle.recorder.proofs.laws.longest_runs.Goals as goal

pub returns-clause-same : goal.returns-clause-same
returns-clause-same c = expanded-runs_of is_same decides

pub returns-clause-longest : goal.returns-clause-longest
returns-clause-longest c = AreLongest-runs_of is_same decides

pub returns-clause-one : goal.returns-clause-one
returns-clause-one c = runs_of-expanded is_same decides

pub returns-clause-record_same : goal.returns-clause-record_same
returns-clause-record_same c = expanded-runs_of is_same_step decides_steps

pub returns-clause-record_longest : goal.returns-clause-record_longest
returns-clause-record_longest c = AreLongest-runs_of is_same_step decides_steps

pub returns-clause-record_one : goal.returns-clause-record_one
returns-clause-record_one c = runs_of-expanded is_same_step decides_steps
