use Rattle.std.proofs.Common.{arith, ℕ, ◌≡◌, ◌+◌, ◌∷◌, [], List, Option, length, sym, ap, subst, ◌∙◌}
use Rattle.std.proofs.lemmas.List.{length-append}
use Rattle.certifying.specs.Questions.{questions_by}
use Rattle.certifying.specs.Records.{AreFoundFrom, IsFoundFor}
use Rattle.certifying.specs.declared.records.Deed.TheVariants.{ReadsOnce}
use Rattle.certifying.specs.declared.records.QueueRecords.{QueueRecords}
use Rattle.certifying.proofs.RecordLaws.{found-more}
use Rattle.certifying.proofs.records.found_in.Goals as goal

pub loop-index-preserved : goal.loop-index-preserved
loop-index-preserved c =
    let o = c.args.opening.now in
    let listed = c.args.certificate.now in
    let asked = questions_by c.args.asked in
    let items = c.loop-index.found.items in
    let its : QueueRecords = record { written = c.in_ok-written.written; read = c.in_ok-read.read; once = c.in_ok-once.once } in
    let at : c.loop-index.index ≡ 0 + length items = omega (arith, c.loop-index.invariant.count) in
    record {
      count = ap (λ (xs : List QueueRecords). length xs) c.in_ok-push.ensures.items ∙ length-append items (its ∷ [])
          ∙ ap (λ (n : ℕ). n + 1) c.loop-index.invariant.count;
      found = subst (AreFoundFrom o listed asked c.args.owned 0) (sym c.in_ok-push.ensures.items)
          (found-more o listed asked c.args.owned 0 items its c.loop-index.invariant.found
          (subst (λ (i : ℕ). AreFoundFrom o listed asked c.args.owned i (its ∷ [])) at (
            c.in_ok-written.ensures,
            c.in_ok-read.ensures,
            subst (λ (x : Option (List ℕ)). IsFoundFor o listed ReadsOnce x c.loop-index.index its.once) c.once_asked-asked_once.ensures c.in_ok-once.ensures,
            tt,
          )));
    }
