use Rattle.std.proofs.Common.{[], ◌∷◌, ◌++◌, ◌∙◌, ap, arith}
use Rattle.std.proofs.lemmas.Grind.{common_steps}
use Rattle.step_machine.specs.inner.Packed.{Packing}
use Rattle.step_machine.proofs.Unpacked.{lengthened_to}
use Rattle.step_machine.proofs.packed.PackedEntries.lengthen.Goals as goal

pub invariant_of-self-in-Some-lengthened : goal.invariant_of-self-in-Some-lengthened
invariant_of-self-in-Some-lengthened c =
    let a = lengthened_to c.pop.new.self.items c.self.invariant.0 c.in-Some.ensures.items c.push_reserved.ensures.items
    c.in-Some-lengthened.ensures.row in
    grind (arith, common_steps, a.after, a.count)

pub returns-in-Some-lengthened-clause-entries : goal.returns-in-Some-lengthened-clause-entries
returns-in-Some-lengthened-clause-entries c =
    let a = lengthened_to c.pop.new.self.items c.self.invariant.0 c.in-Some.ensures.items c.push_reserved.ensures.items
    c.in-Some-lengthened.ensures.row in
    a.entries ∙ ap (λ (p : Packing). p.entries ++ c.args.entry ∷ []) c.self.view_is
