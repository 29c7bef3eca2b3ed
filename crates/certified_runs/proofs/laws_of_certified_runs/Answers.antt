use Rattle.certified_runs.proofs.EveryRun.{own_act, in_states, alone}
use Rattle.certified_runs.proofs.laws_of_certified_runs.Goals as goal

pub returns-clause-own_act : goal.returns-clause-own_act
returns-clause-own_act c = own_act

pub returns-clause-in_states : goal.returns-clause-in_states
returns-clause-in_states c = in_states

pub returns-clause-alone : goal.returns-clause-alone
returns-clause-alone c = alone
