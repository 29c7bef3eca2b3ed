-- What a certificate says is known where something isn't shown.
use Rattle.std.specs.Prelude.{ℕ, List, [], codes}
use Rattle.queue_certificates.specs.Certificates.{QueueCertificate, state_at}
use Rattle.queue_checker.specs.declared.flaws.Flaw.{Flaw}
use Rattle.queue_checker.specs.declared.flaws.Flaw.TheVariants.{State}
use Rattle.certificate_reader.specs.Writing.{described_lines, lines_text}

-- in state n of hart h: the state's lines without its pc and its cases
abbrev pub known_text : QueueCertificate → (h n : ℕ) → List ℕ
known_text c h n = lines_text (codes "known: ") (described_lines (state_at c h n))

-- in the state that has this flaw
abbrev pub known_at : QueueCertificate → Flaw → List ℕ
known_at c (State h n) = known_text c h n
known_at c other = []
