use Rattle.std.proofs.Common.{◌≡◌, replicate}
use Rattle.queue_certificates.specs.States.{any}
use Rattle.certificate_reader.proofs.parts.unknown.Given as goal

abbrev pub invariant-loop : goal.invariant-loop
invariant-loop l = l.values.items ≡ replicate l.counter any
