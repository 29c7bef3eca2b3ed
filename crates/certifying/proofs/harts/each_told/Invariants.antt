use Rattle.std.proofs.Common.{◌≡◌}
use Rattle.std.specs.String.{string_bytes}
use Rattle.queue_certificates.specs.Steps.{all_below}
use Rattle.certifying.specs.Answers.{texts}
use Rattle.certifying.specs.Lines.{hart_lines, is_safe, lines_below}
use Rattle.certifying.proofs.harts.each_told.Given as goal

abbrev pub invariant-loop-place : goal.invariant-loop-place
invariant-loop-place l = record {
  lines : string_bytes l.lines ≡ texts l.opening l.certificate (lines_below l.place (hart_lines l.opening l.certificate l.endings));
  safe : l.safe ≡ all_below l.place (is_safe l.opening l.certificate l.endings);
}
