use Rattle.std.proofs.Common.{arith, ◌≡◌, ℕ, List, Result, Ok}
use Rattle.std.specs.String.{string_bytes}
use Rattle.texts.specs.Results.{map_err}
use Rattle.queue_certificates.specs.Certificates.{QueueCertificate}
use Rattle.engine_support.proofs.TextInputs.{judged_read}
use Rattle.certifying.specs.Questions.{SaysCertificate, certificate_of}
use Rattle.certifying.proofs.input.read_certificate.Goals as goal

kept_ok : {V E F : Type 0} (t : E → F) (r : Result V E) (v : V) → map_err t r ≡ Ok v → r ≡ Ok v
kept_ok t r v e = grind arith

said : (text : List ℕ) (c : QueueCertificate) → certificate_of text ≡ Ok c → SaysCertificate text c
unfolding certificate_of
said text c e = kept_ok _ _ c e

pub returns : goal.returns
returns g c =
    judged_read SaysCertificate certificate_of (λ (listed : QueueCertificate). listed) _ (string_bytes c.in_ok-text.text) c.certificate_of_text.result
    c.in_ok-text.ensures.text (said (string_bytes c.in_ok-text.text)) (rw c.deref.ensures at c.certificate_of_text.ensures)
