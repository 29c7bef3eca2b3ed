use Rattle.std.proofs.Common.{◌≡◌, true, sym, subst, ◌∙◌}
use Rattle.std.specs.Prelude.{nat_le}
use Rattle.std.specs.List.{list_all}
use Rattle.records_written.specs.{PartyLeaf, closed_by}
use Rattle.records_written.proofs.Again.{all-at}
use Rattle.records_written.proofs.once.Closing.follow.Goals as goal

pub loop-leaf-preserved : goal.loop-leaf-preserved
loop-leaf-preserved c = λ f ok under. c.in_ok-raise_all.ensures f
    (rw (c.closed_by.ensures, c.deref.ensures.value)
    (subst (λ (s : PartyLeaf). list_all (λ to. nat_le (closed_by s.all s.effect c.args.byte c.args.own) (f to)) s.targets ≡ true)
    (sym (c.leaf.view_is ∙ c.leaf-item.is))
    (all-at (λ s. list_all (λ to. nat_le (closed_by s.all s.effect c.args.byte c.args.own) (f to)) s.targets) c.args.leaves.now c.loop-leaf.leaf-index
    c.leaf-item.result c.loop-leaf-test.true ok))) (c.loop-leaf.invariant f ok under)
