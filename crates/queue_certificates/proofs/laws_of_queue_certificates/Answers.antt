use Rattle.queue_certificates.proofs.EveryRun.{accepted_runs, accepted_loads, accepted_deliveries, accepted_states, accepted_records, accepted_telling}
use Rattle.queue_certificates.proofs.EveryRun.{accepted_rest, accepted_arrivals, accepted_tellings}
use Rattle.queue_certificates.proofs.Facts.{facts_shown, facts_derived, low-splits, high-splits}
use Rattle.queue_certificates.proofs.laws_of_queue_certificates.Goals as goal

pub returns-clause-shown : goal.returns-clause-shown
returns-clause-shown c = facts_shown

pub returns-clause-derived : goal.returns-clause-derived
returns-clause-derived c = facts_derived

pub returns-clause-at_most : goal.returns-clause-at_most
returns-clause-at_most c = low-splits

pub returns-clause-above : goal.returns-clause-above
returns-clause-above c = high-splits

pub returns-clause-every_run : goal.returns-clause-every_run
returns-clause-every_run c = accepted_runs

pub returns-clause-reads_owned : goal.returns-clause-reads_owned
returns-clause-reads_owned c = accepted_loads

pub returns-clause-delivered : goal.returns-clause-delivered
returns-clause-delivered c = accepted_deliveries

pub returns-clause-in_states : goal.returns-clause-in_states
returns-clause-in_states c = accepted_states

pub returns-clause-sent : goal.returns-clause-sent
returns-clause-sent c = accepted_records

pub returns-clause-tells : goal.returns-clause-tells
returns-clause-tells c = accepted_telling

pub returns-clause-rest_owned : goal.returns-clause-rest_owned
returns-clause-rest_owned c = accepted_rest

pub returns-clause-arrived : goal.returns-clause-arrived
returns-clause-arrived c = accepted_arrivals

pub returns-clause-told : goal.returns-clause-told
returns-clause-told c = accepted_tellings
