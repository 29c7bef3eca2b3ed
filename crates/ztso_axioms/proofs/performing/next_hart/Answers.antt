use Rattle.std.proofs.Common.{◌+◌, List, take, sym, ◌∙◌, ap, subst}
use Rattle.std.proofs.lemmas.List.{take_all}
use Rattle.step_machine.specs.declared.events.Entry.{Entry}
use Rattle.ztso_axioms.specs.inner.Landings.{nearer_of}
use Rattle.ztso_axioms.proofs.Walks.{NextFound, next_step}
use Rattle.ztso_axioms.proofs.performing.next_hart.Goals as goal

pub loop-entry-preserved : goal.loop-entry-preserved
loop-entry-preserved c =
    subst (NextFound (take (c.loop-entry.entry-index + 1) c.args.entries.now) c.args.from)
    (sym (c.nearer-next.ensures ∙ ap (nearer_of c.args.from c.loop-entry.next) c.hart.ensures))
    (next_step c.args.entries.now c.args.from c.loop-entry.entry-index c.loop-entry.next _ c.loop-entry-test.true c.loop-entry.invariant)

pub returns : goal.returns
returns c = subst (λ (es : List Entry). NextFound es c.args.from c.loop-entry.next)
    (take_all c.loop-entry.entry-index c.args.entries.now c.loop-entry-test.false) c.loop-entry.invariant
