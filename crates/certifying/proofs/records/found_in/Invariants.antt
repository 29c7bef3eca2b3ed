use Rattle.std.proofs.Common.{◌≡◌, length}
use Rattle.certifying.specs.Questions.{questions_by}
use Rattle.certifying.specs.Records.{AreFoundFrom}
use Rattle.certifying.proofs.records.found_in.Given as goal

-- what is found of the queues so far
abbrev pub invariant-loop-index : goal.invariant-loop-index
invariant-loop-index l = record {
  count : length l.found.items ≡ l.index;
  found : AreFoundFrom l.opening l.certificate (questions_by l.asked) l.owned 0 l.found.items;
}
