use Rattle.std.proofs.Common.{◌≡◌, ◌+◌, ◌≤◌, ◌++◌, length}
use Rattle.std.specs.String.{string_bytes}
use Rattle.certificate_reader.specs.Writing.{multiples, parts_text}
use Rattle.certificate_reader.proofs.form_texts.push_multiples.Given as goal

-- what is written, before what is to be written of the factors left
abbrev pub invariant-factors : goal.invariant-factors
invariant-factors l = record {
  so_far : string_bytes l.out ++ parts_text l.follows (multiples l.variable l.rest) ≡ string_bytes l.fn.out ++ parts_text l.fn.follows (multiples 0 l.factors);
  few : l.variable + length l.rest ≤ length l.factors;
}

abbrev pub decreases-factors : goal.decreases-factors
decreases-factors l = length l.rest
