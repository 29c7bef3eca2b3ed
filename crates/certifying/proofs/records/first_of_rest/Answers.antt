use Rattle.std.proofs.Common.{ℕ, ◌≡◌, Bool, List, Option, None, Some, ap, subst, sym, ◌∙◌, MatchOption}
use Rattle.std.proofs.lemmas.Result.{IfOk-weaker}
use Rattle.step_machine.specs.History.{OpeningValue}
use Rattle.queue_parties.specs.Parties.{Party, the_sender, the_receiver}
use Rattle.queue_certificates.specs.Certificates.{QueueCertificate}
use Rattle.record_bytes.specs.declared.ranges.ByteRange.{ByteRange}
use Rattle.record_bytes.specs.Ranges.{has_byte}
use Rattle.records_written.specs.declared.finding.Missing.{Missing}
use Rattle.records_written.specs.declared.parties.QueueNumber.{QueueNumber}
use Rattle.records_written.specs.Marks.{IsFirstMissing, IsShownDone, first_of, graph_of}
use Rattle.records_written.proofs.Answers.{sure-same, first-same}
use Rattle.certifying.specs.Queues.{number_in}
use Rattle.certifying.specs.Records.{IsFirstNot, IsShownTo, is_rest}
use Rattle.certifying.specs.declared.records.Deed.{Deed}
use Rattle.certifying.specs.declared.records.Deed.TheVariants.{Writes, Reads, ReadsOnce}
use Rattle.certifying.proofs.records.first_of_rest.Goals as goal

-- of the same bytes
module _ (o : OpeningValue) (c : QueueCertificate) (w : QueueNumber) (f g : ℕ → Bool) (same : (b : ℕ) → f b ≡ g b) where
  abbrev Is : Deed → (mask : ℕ → Bool) → Option Missing → Type 0
  Is deed mask r = MatchOption r (IsShownTo o c deed w mask) (IsFirstNot o c deed w mask)

  same-done : (p : Party) (r : Option Missing) → MatchOption r (IsShownDone o c w p f) (IsFirstMissing o c w p f)
      → MatchOption r (IsShownDone o c w p g) (IsFirstMissing o c w p g)
  same-done p None is = sure-same (graph_of o c w p) (first_of c w p) f g same is
  same-done p (Some u) is = first-same (graph_of o c w p) (first_of c w p) f g same u.state u.byte is

  same-once : (r : Option Missing) → Is ReadsOnce f r → Is ReadsOnce g r
  same-once None once = λ n b asked. once n b (same b ∙ asked)
  same-once (Some u) is = record {
    listed = is.listed;
    asked = sym (same u.byte) ∙ is.asked;
    twice = is.twice;
    bytes = λ a less asked. is.bytes a less (same a ∙ asked);
    states = λ m less a asked. is.states m less a (same a ∙ asked);
  }

  same-answer : (deed : Deed) (r : Option Missing) → Is deed f r → Is deed g r
  same-answer Writes r is = same-done the_sender r is
  same-answer Reads r is = same-done the_receiver r is
  same-answer ReadsOnce r is = same-once r is

pub returns : goal.returns
returns c =
    let o = c.args.opening.now in
    let listed = c.args.certificate.now in
    let deed = c.args.deed in
    let at = number_in listed c.args.index in
    let rest = is_rest listed c.args.index c.args.ranges.now in
    let bytes = has_byte c.deref.result.now in
    let same : (b : ℕ) → bytes b ≡ rest b =
    λ b. ap (λ (rs : List ByteRange). has_byte rs b) c.deref.ensures.value ∙ c.in_ok-rest.ensures.has b in
    IfOk-weaker c.first_missing.result (Is o listed c.number_in-queue.result bytes rest same deed bytes) (Is o listed at bytes rest same deed rest)
    (λ r is. same-answer o listed at bytes rest same deed r
    (subst (λ (w : QueueNumber). Is o listed w bytes rest same deed bytes r) c.number_in-queue.ensures is))
    c.first_missing.ensures
