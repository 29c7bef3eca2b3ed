use Rattle.std.proofs.Common.{◌≡◌, ◌++◌}
use Rattle.std.specs.String.{string_bytes}
use Rattle.queue_certificates.specs.Steps.{all_below}
use Rattle.certifying.specs.Answers.{texts}
use Rattle.certifying.specs.Lines.{going_lines, is_going, lines_below}
use Rattle.certifying.proofs.going.push_all.Given as goal

abbrev pub invariant-loop-index : goal.invariant-loop-index
invariant-loop-index l = record {
  lines : string_bytes l.out ≡ string_bytes l.fn.out ++ texts l.opening l.certificate (lines_below l.index (going_lines l.opening l.certificate l.endings));
  going : l.all ≡ all_below l.index (is_going l.opening l.certificate);
}
