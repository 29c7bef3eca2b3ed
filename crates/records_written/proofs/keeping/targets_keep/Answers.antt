use Rattle.std.proofs.Common.{ℕ, ◌≡◌, ◌||◌, not, true, List, sym, subst, ◌∙◌}
use Rattle.std.specs.List.{list_all}
use Rattle.std.proofs.lemmas.Bool.{and_from}
use Rattle.std.proofs.lemmas.List.{take_all}
use Rattle.std.proofs.lemmas.List.Folds.{list_all_more}
use Rattle.records_written.specs.PartyLeaves.{marks_byte, marks_of}
use Rattle.records_written.proofs.keeping.targets_keep.Goals as goal
use Rattle.records_written.proofs.keeping.targets_keep.Goals.{then-all_keep, else-all_keep}

pub loop-to-preserved : goal.loop-to-preserved
loop-to-preserved c = elim c.if-all_keep.branch [
  | then-all_keep w ↦ λ so d b.
      (let keeps : c.in_ok-keeps.keeps ≡ true = sym w.all_keep-is ∙ so in
      list_all_more (λ to. not (marks_of c.args.all.now to d b) || marks_byte c.args.left.now d b) c.args.targets.now c.loop-to.to-index 0 c.loop-to-test.true
      ∙ and_from _ _ (c.loop-to.invariant w.if-all_keep.true d b) (c.in_ok-keeps.ensures keeps d b))
  | else-all_keep w ↦ λ so d b. absurd (cc)
]

pub returns : goal.returns
returns c = λ so d b. subst (λ (ts : List ℕ). list_all (λ to. not (marks_of c.args.all.now to d b) || marks_byte c.args.left.now d b) ts ≡ true)
    (take_all c.loop-to.to-index c.args.targets.now c.loop-to-test.false) (c.loop-to.invariant so d b)
