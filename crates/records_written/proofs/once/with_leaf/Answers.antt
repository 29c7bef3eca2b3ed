use Rattle.std.proofs.Common.{ℕ, ◌≡◌, ◌==◌, ◌&&◌, ◌||◌, Bool, Option, Some, sym, ap, ◌∙◌}
use Rattle.std.proofs.lemmas.Result.{IfOk-weaker}
use Rattle.record_bytes.specs.Ranges.{has_byte}
use Rattle.queue_certificates.specs.declared.effect.Effect.{Effect}
use Rattle.queue_certificates.specs.declared.effect.Effect.TheVariants.{Fills}
use Rattle.records_written.specs.{IsAnswer, Missing, ends_at}
use Rattle.records_written.proofs.Again.{answer-same, both-more}
use Rattle.records_written.proofs.once.with_leaf.Goals as goal

pub returns-in_ok-sum-in-Some-Fills : goal.returns-in_ok-sum-in-Some-Fills
returns-in_ok-sum-in-Some-Fills c = IfOk-weaker c.with_byte-in-Some-Fills.result
    (λ (r : Option Missing). (q : ℕ → Bool) → IsAnswer c.args.graph.now q c.in_ok-first-in-Some-Fills.first
    → IsAnswer c.args.graph.now (λ b. q b || (has_byte c.args.mask.now b && (b == c.in_ok-sum-in-Some-Fills.field-0))) r)
    (λ (r : Option Missing). (p : ℕ → Bool) → IsAnswer c.args.graph.now p c.args.found
    → IsAnswer c.args.graph.now (λ b. p b || (has_byte c.args.mask.now b && ends_at c.args.effect b)) r)
    (λ r was p is. answer-same c.args.graph.now
    (λ b. (p b || (has_byte c.args.mask.now b && (b == c.in-Some-Fills.offset))) || (has_byte c.args.mask.now b && (b == c.in_ok-sum-in-Some-Fills.field-0))) _
    (λ b. both-more (p b) (has_byte c.args.mask.now b) (b == c.in-Some-Fills.offset) (b == c.in_ok-sum-in-Some-Fills.field-0)
    ∙ ap (λ t. p b || (has_byte c.args.mask.now b && t)) (ap (λ n. (b == c.in-Some-Fills.offset) || (b == n)) c.in_ok-sum-in-Some-Fills.ensures.value
    ∙ sym (ap (λ (e : Option Effect). ends_at e b)
    (let fills : c.in-Some-Fills.field-0 ≡ Fills c.in-Some-Fills.field-0-0 c.in-Some-Fills.offset c.in-Some-Fills.width =
    rw c.in-Some-Fills.is at c.in-Some-Fills.field-0-is in c.in-Some-Fills.is ∙ ap Some fills)))) r
    (was (λ b. p b || (has_byte c.args.mask.now b && (b == c.in-Some-Fills.offset))) (c.in_ok-first-in-Some-Fills.ensures p is)))
    c.with_byte-in-Some-Fills.ensures
