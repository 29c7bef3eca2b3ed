use Rattle.std.proofs.Common.{◌≡◌, ◌++◌, drop}
use Rattle.std.specs.String.{string_bytes}
use Rattle.engine_support.specs.OpeningTexts.{numbered}
use Rattle.certifying.specs.Questions.{questions_by}
use Rattle.certifying.specs.Records.{lines_of_queue}
use Rattle.certifying.proofs.records.push_records.Given as goal

abbrev pub invariant-loop-place : goal.invariant-loop-place
invariant-loop-place l =
    string_bytes l.out ++ numbered (lines_of_queue l.opening l.certificate (questions_by l.asked)) l.place (drop l.place l.found)
    ≡ string_bytes l.fn.out ++ numbered (lines_of_queue l.opening l.certificate (questions_by l.asked)) 0 l.found
