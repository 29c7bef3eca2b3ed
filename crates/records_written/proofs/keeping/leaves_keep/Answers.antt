use Rattle.std.proofs.Common.{◌≡◌, ◌||◌, not, true, List, sym, subst, ◌∙◌}
use Rattle.std.specs.List.{list_all}
use Rattle.std.proofs.lemmas.Bool.{and_from}
use Rattle.std.proofs.lemmas.List.{take_all}
use Rattle.std.proofs.lemmas.List.Folds.{list_all_more}
use Rattle.records_written.specs.{PartyLeaf, marked_after, marks_byte, marks_of}
use Rattle.records_written.proofs.keeping.leaves_keep.Goals as goal
use Rattle.records_written.proofs.keeping.leaves_keep.Goals.{then-all_keep, else-all_keep}

pub loop-leaf-preserved : goal.loop-leaf-preserved
loop-leaf-preserved c = elim c.if-all_keep.branch [
  | then-all_keep w ↦ λ so d b.
      (let keeps : c.in_ok-keeps.keeps ≡ true = sym w.all_keep-is ∙ so in
      list_all_more (λ s. list_all (λ to. not (marks_of c.args.all.now to d b) || marked_after s.effect (marks_byte c.args.own.now) d b) s.targets)
      c.args.leaves.now c.loop-leaf.leaf-index c.leaf-item.result c.loop-leaf-test.true
      ∙ and_from _ _ (c.loop-leaf.invariant w.if-all_keep.true d b)
      (subst (λ (s : PartyLeaf). list_all
      (λ to. not (marks_of c.args.all.now to d b) || marked_after s.effect (marks_byte c.args.own.now) d b) s.targets ≡ true)
      c.leaf-item.is (c.in_ok-keeps.ensures keeps d b)))
  | else-all_keep w ↦ λ so d b. absurd (cc)
]

pub returns : goal.returns
returns c = λ so d b. subst (λ (ls : List PartyLeaf). list_all (λ s. list_all (λ to. not (marks_of c.args.all.now to d b)
    || marked_after s.effect (marks_byte c.args.own.now) d b) s.targets) ls ≡ true)
    (take_all c.loop-leaf.leaf-index c.args.leaves.now c.loop-leaf-test.false) (c.loop-leaf.invariant so d b)
