use Rattle.queue_parties.specs.Parties.{the_sender}
use Rattle.records_written.specs.Marks.{graph_of, first_of}
use Rattle.records_written.proofs.Answers.{not-both, same-first}
use Rattle.records_written.proofs.Runs.{each_written}
use Rattle.records_written.proofs.laws_of_written_records.Goals as goal

pub returns : goal.returns
returns c = record {
  shown = each_written;
  either = λ o c w mask u all first. not-both (graph_of o c w the_sender) (first_of c w the_sender) mask u.state u.byte all first;
  one = λ o c w mask u v first other. same-first (graph_of o c w the_sender) (first_of c w the_sender) mask u.state u.byte v.state v.byte first other;
}
