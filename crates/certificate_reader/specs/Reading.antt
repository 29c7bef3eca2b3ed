-- The certificate that a text stands for, or the first of its lines that is wrong.
use Rattle.std.specs.Prelude.{ℕ, ◌+◌, List, [], ◌∷◌, Result, Ok}
use Rattle.std.specs.Str.Lines.{lines}
use Rattle.texts.specs.Results.{◌>>=◌, map_err}
use Rattle.texts.specs.declared.errors.AtLine.{AtLine}
use Rattle.texts.specs.declared.errors.TextError.{TextError}
use Rattle.texts.specs.declared.errors.TextError.TheVariants.{NoMemory, Refused}
use Rattle.queue_certificates.specs.Certificates.{QueueCertificate}
use Rattle.certificate_reader.specs.declared.faults.CertificateFault.{CertificateFault}
use Rattle.certificate_reader.specs.Drafts.{DraftValue, no_draft, after_line, finished}

abbrev pub Fault : Type 0
Fault = AtLine CertificateFault

abbrev pub on_line : (line : ℕ) → CertificateFault → Fault
on_line line fault = record { fault = fault; line = line }

-- the error of a text whose line has this one
abbrev pub error_at : (line : ℕ) → TextError CertificateFault → TextError Fault
error_at line NoMemory = NoMemory
error_at line (Refused fault) = Refused (on_line line fault)

-- what these lines say, the first of which has this number, and the number of the line after them
unfoldable pub after_lines : DraftValue → (number : ℕ) → List (List ℕ) → Result (DraftValue × ℕ) Fault
after_lines d number [] = Ok (d, number)
after_lines d number (line ∷ others) = do
  next ← map_err (on_line number) (after_line d line)
  after_lines next (number + 1) others

-- the certificate of what was said before a text and by it. A text that ends too early is refused at the line after its last one
unfoldable pub certificate_from : DraftValue → List ℕ → Result QueueCertificate Fault
certificate_from d text = do
  said ← after_lines d 1 (lines text)
  map_err (on_line said.1) (finished said.0)

-- the text's certificate, or its first fault
unfoldable pub certificate_at : List ℕ → Result QueueCertificate Fault
certificate_at text = certificate_from no_draft text
