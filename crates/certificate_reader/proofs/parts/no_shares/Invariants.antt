use Rattle.std.proofs.Common.{◌≡◌, replicate}
use Rattle.queue_certificates.specs.States.{no_share}
use Rattle.certificate_reader.proofs.parts.no_shares.Given as goal

abbrev pub invariant-loop : goal.invariant-loop
invariant-loop l = l.shares.items ≡ replicate l.counter no_share
