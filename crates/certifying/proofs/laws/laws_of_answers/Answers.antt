use Rattle.certifying.proofs.AnswerLaws as answers
use Rattle.certifying.proofs.DrawnLaws.{all-sized, loses}
use Rattle.certifying.proofs.laws.laws_of_answers.Goals as goal

pub returns-clause-promised : goal.returns-clause-promised
returns-clause-promised c = answers.promised (record {
  no_flaw = c.laws_of_flaws.ensures.flaw;
  all_owned = c.laws_of_flaws.ensures.loads;
  all_rest = c.laws_of_flaws.ensures.rest;
  every_run = λ o listed accepted B M. c.laws_of_queue_certificates.ensures.every_run B M o listed accepted;
  tells = λ o listed accepted B M es formed t less. c.laws_of_queue_certificates.ensures.tells B M o listed accepted es formed t less;
  sent = λ o listed accepted B M es formed i less. c.laws_of_queue_certificates.ensures.sent B M o listed accepted i less es formed;
  reads_owned = c.laws_of_queue_certificates.ensures.reads_owned;
  rest_owned = c.laws_of_queue_certificates.ensures.rest_owned;
  going = record {
    shown = c.laws_of_queue_progress.ensures.shown;
    going = c.laws_of_queue_progress.ensures.going;
    stands = c.laws_of_queue_progress.ensures.stands;
    arrives = c.laws_of_queue_progress.ensures.arrives;
    hart_shown = c.laws_of_queue_progress.ensures.hart_shown;
    hart_going = c.laws_of_queue_progress.ensures.hart_going;
    told_shown = c.laws_of_queue_progress.ensures.told_shown;
    told_going = c.laws_of_queue_progress.ensures.told_going;
    told_stands = c.laws_of_queue_progress.ensures.told_stands;
    told_arrives = c.laws_of_queue_progress.ensures.told_arrives;
  };
  records = record {
    written = λ B M o listed accepted. c.laws_of_written_records.ensures.shown B M o listed accepted;
    read = λ B M o listed accepted. c.laws_of_read_records.ensures.read B M o listed accepted;
    once = λ B M o listed accepted. c.laws_of_read_records.ensures.once B M o listed accepted;
  };
  harts = record {
    never_stopped = c.laws_of_hart_safety.ensures.never_stopped;
    runs_or_ended = c.laws_of_hart_safety.ensures.runs_or_ended;
    runs = c.laws_of_hart_safety.ensures.runs;
    touched_within = c.laws_of_hart_safety.ensures.touched_within;
    bounded = c.laws_of_hart_safety.ensures.bounded;
    not_shared = c.laws_of_hart_safety.ensures.not_shared;
  };
  drawn = record {
    none = c.laws_of_violations.ensures.none;
    apart = c.laws_of_judged_runs.ensures.apart;
    lost = c.laws_of_losses.ensures.lost;
    lost_or_not = c.laws_of_judged_runs.ensures.lost_or_not;
  };
})

pub returns-clause-one : goal.returns-clause-one
returns-clause-one c = answers.one_queue_answer (record {
  none = c.laws_of_violations.ensures.none;
  apart = c.laws_of_judged_runs.ensures.apart;
  lost = c.laws_of_losses.ensures.lost;
  lost_or_not = c.laws_of_judged_runs.ensures.lost_or_not;
})
    (record {
      either_written = c.laws_of_written_records.ensures.either;
      one_written = c.laws_of_written_records.ensures.one;
      either_read = c.laws_of_read_records.ensures.either;
      one_read = c.laws_of_read_records.ensures.one;
      either_once = c.laws_of_read_records.ensures.either_once;
      one_once = c.laws_of_read_records.ensures.one_once;
    })

pub returns-clause-lost : goal.returns-clause-lost
returns-clause-lost c = λ d o listed i part l steps none inside is. loses d o listed (record {
  none = c.laws_of_violations.ensures.none;
  apart = c.laws_of_judged_runs.ensures.apart;
  lost = c.laws_of_losses.ensures.lost;
  lost_or_not = c.laws_of_judged_runs.ensures.lost_or_not;
}) (all-sized o listed none) i inside part l steps is
