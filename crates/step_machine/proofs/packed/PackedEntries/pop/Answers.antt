use Rattle.std.proofs.Common.{◌-◌, length, take, ◌∙◌, ap, arith}
use Rattle.std.proofs.lemmas.Grind.{common_steps}
use Rattle.step_machine.specs.inner.Packed.{Packing}
use Rattle.step_machine.proofs.Unpacked.{shortened_to, dropped_to, without_last}
use Rattle.step_machine.proofs.packed.PackedEntries.pop.Goals as goal

pub invariant_of-self-in-Some-shortened : goal.invariant_of-self-in-Some-shortened
invariant_of-self-in-Some-shortened c =
    let a = shortened_to c.pop.new.self.items c.self.invariant.0 c.push_reserved.ensures.items c.in-Some.ensures.items
    c.in-Some-shortened.ensures in
    grind (arith, common_steps, a.before, a.count, c.in-Some.ensures.len, c.in-Some.ensures.capacity)

pub returns-in-Some-shortened-clause-entries : goal.returns-in-Some-shortened-clause-entries
returns-in-Some-shortened-clause-entries c =
    let a = shortened_to c.pop.new.self.items c.self.invariant.0 c.push_reserved.ensures.items c.in-Some.ensures.items
    c.in-Some-shortened.ensures in
    without_last a ∙ ap (λ (p : Packing). take (length p.entries - 1) p.entries) c.self.view_is

pub invariant_of-self-in_default-shortened : goal.invariant_of-self-in_default-shortened
invariant_of-self-in_default-shortened c =
    let a = dropped_to c.in-Some.last _ _ c.self.invariant.0 c.in-Some.ensures.items c.truncate.ensures.items
    c.truncate-in_default-shortened.ensures.items c.in_default-shortened.ensures
    (omega (arith, c.self.inside.numbers.ok.0, c.numbers.ensures, c.len.ensures))
    (omega (arith, c.self.inside.plain.ok.0, c.plain.ensures, c.len-in_default-shortened.ensures)) in
    grind (arith, common_steps, a.before, a.count, c.in-Some.ensures.len, c.in-Some.ensures.capacity)

pub returns-in_default-shortened-clause-entries : goal.returns-in_default-shortened-clause-entries
returns-in_default-shortened-clause-entries c =
    let a = dropped_to c.in-Some.last _ _ c.self.invariant.0 c.in-Some.ensures.items c.truncate.ensures.items
    c.truncate-in_default-shortened.ensures.items c.in_default-shortened.ensures
    (omega (arith, c.self.inside.numbers.ok.0, c.numbers.ensures, c.len.ensures))
    (omega (arith, c.self.inside.plain.ok.0, c.plain.ensures, c.len-in_default-shortened.ensures)) in
    without_last a ∙ ap (λ (p : Packing). take (length p.entries - 1) p.entries) c.self.view_is
