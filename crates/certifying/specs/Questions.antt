-- What is asked of a certificate besides the protocol.
use Rattle.std.specs.Prelude.{ℕ, Bool, List, Option, option_map, ◌≡◌, Result, Ok}
use Rattle.texts.specs.Results.{map_err}
use Rattle.queue_certificates.specs.Certificates.{QueueCertificate}
use Rattle.certificate_reader.specs.Faults.{certificate_number}
use Rattle.certificate_reader.specs.Reading.{certificate_at}
use Rattle.engine_support.specs.declared.fault.Refusal.{Refusal}
use Rattle.engine_support.specs.Faults.{refused_at}
use Rattle.engine_support.specs.Inputs.{Format, format}
use Rattle.certifying.specs.declared.questions.Questions.{Questions as GivenQuestions}

-- Inputs that are certificates.

-- what a text says as a certificate, or its first fault at its line
unfoldable pub certificate_of : List ℕ → Result QueueCertificate Refusal
certificate_of text = map_err (refused_at certificate_number) (certificate_at text)

abbrev pub SaysCertificate : List ℕ → QueueCertificate → Type 0
SaysCertificate text c = certificate_at text ≡ Ok c

-- inputs that are certificates
abbrev pub certificates : Format QueueCertificate
certificates = format SaysCertificate certificate_of

-- whether it is asked if the queues go on; which bytes of each record its sender is to write, by a text, if that is asked, which its receiver is to
-- read, and which at most once, in order; and whether it is asked if each hart is never stopped, and which bytes it writes
pub record Questions : Type 0 where
  pub progress : Bool
  pub written : Option (List ℕ)
  pub read : Option (List ℕ)
  pub once : Option (List ℕ)
  pub harts : Bool

abbrev pub questions_by : GivenQuestions → Questions
questions_by asked = record {
  progress = asked.progress;
  written = option_map (λ bytes. bytes.now) asked.written;
  read = option_map (λ bytes. bytes.now) asked.read;
  once = option_map (λ bytes. bytes.now) asked.once;
  harts = asked.harts;
}
