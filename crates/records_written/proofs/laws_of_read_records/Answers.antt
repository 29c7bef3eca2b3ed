use Rattle.queue_parties.specs.Parties.{the_receiver}
use Rattle.records_written.specs.Marks.{graph_of, first_of}
use Rattle.records_written.proofs.Answers.{never-both, not-both, same-first, same-twice}
use Rattle.records_written.proofs.OnceRuns.{each_once}
use Rattle.records_written.proofs.Runs.{each_read}
use Rattle.records_written.proofs.laws_of_read_records.Goals as goal

pub returns : goal.returns
returns c = record {
  read = each_read;
  once = each_once;
  either = λ o c w mask u all first. not-both (graph_of o c w the_receiver) (first_of c w the_receiver) mask u.state u.byte all first;
  one = λ o c w mask u v first other. same-first (graph_of o c w the_receiver) (first_of c w the_receiver) mask u.state u.byte v.state v.byte first other;
  either_once = λ o c w mask u all first. never-both (graph_of o c w the_receiver) (first_of c w the_receiver) mask u.state u.byte all first;
  one_once = λ o c w mask u v first other. same-twice (graph_of o c w the_receiver) (first_of c w the_receiver) mask u.state u.byte v.state v.byte first other;
}
