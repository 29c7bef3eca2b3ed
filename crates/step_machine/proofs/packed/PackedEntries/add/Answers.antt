use Rattle.std.proofs.Common.{[], ◌∷◌, ◌++◌, ◌∙◌, ap, arith}
use Rattle.std.proofs.lemmas.Grind.{common_steps}
use Rattle.step_machine.specs.inner.Packed.{Packing, entry_of}
use Rattle.step_machine.proofs.Unpacked.{added_to}
use Rattle.step_machine.proofs.packed.PackedEntries.add.Goals as goal

pub invariant_of-self : goal.invariant_of-self
invariant_of-self c =
    let a = added_to c.args.numbers.now c.args.plain.now c.self.invariant.0 c.push_reserved.ensures.items
    c.extend_reserved.ensures.items c.extend_reserved-2.ensures.items c.requires.single in
    grind (arith, common_steps, a.after, a.count)

pub returns-clause-entries : goal.returns-clause-entries
returns-clause-entries c =
    let a = added_to c.args.numbers.now c.args.plain.now c.self.invariant.0 c.push_reserved.ensures.items
    c.extend_reserved.ensures.items c.extend_reserved-2.ensures.items c.requires.single in
    a.entries ∙ ap (λ (p : Packing). p.entries ++ entry_of c.args.head c.args.numbers.now c.args.plain.now ∷ [])
    c.self.view_is
