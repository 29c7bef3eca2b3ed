-- A buffer without its oldest store, and the memory that it is written to, stay fit for each other.
use Rattle.std.proofs.Common.{◌<◌, length, refl, sym, subst}
use Rattle.std.proofs.lemmas.List.{length-set}
use Rattle.step_machine.specs.inner.Stored.{Stored}
use Rattle.step_machine.proofs.Fitting.{fit_landed}
use Rattle.step_machine.proofs.stores.Stores.land.Goals as goal

pub invariant_of-self : goal.invariant_of-self
invariant_of-self g c =
    let within : c.args.hart < length c.self.inside.buffers.items = subst (λ (s : Stored). c.args.hart < length s.buffers) (sym c.self.view_is) c.requires in (
      c.self.invariant.0,
      rw c.store_bytes.ensures
          (fit_landed g.row.M _ c.self.inside.memory.words _ _ c.args.hart _ _ c.self.invariant.1 within
          c.index_mut.ensures.value c.land.ensures.rest (length-set _ _ _)),
    )

pub invariant_of-self-then-over : goal.invariant_of-self-then-over
invariant_of-self-then-over g c =
    let within : c.args.hart < length c.self.inside.buffers.items = subst (λ (s : Stored). c.args.hart < length s.buffers) (sym c.self.view_is) c.requires in
    (c.self.invariant.0, fit_landed g.row.M _ _ _ _ c.args.hart _ _ c.self.invariant.1 within c.index_mut.ensures.value c.land.ensures.rest refl)

pub invariant_of-self-in-None-2 : goal.invariant_of-self-in-None-2
invariant_of-self-in-None-2 g c =
    let within : c.args.hart < length c.self.inside.buffers.items = subst (λ (s : Stored). c.args.hart < length s.buffers) (sym c.self.view_is) c.requires in
    (c.self.invariant.0, fit_landed g.row.M _ _ _ _ c.args.hart _ _ c.self.invariant.1 within c.index_mut.ensures.value c.land.ensures.rest refl)

pub returns-in-Some-clause-fit : goal.returns-in-Some-clause-fit
returns-in-Some-clause-fit g c = (invariant_of-self g c).1

pub returns-in-None-clause-fit : goal.returns-in-None-clause-fit
returns-in-None-clause-fit g c = (invariant_of-self-then-over g c).1

pub returns-in-None-2-clause-fit : goal.returns-in-None-2-clause-fit
returns-in-None-2-clause-fit g c = (invariant_of-self-in-None-2 g c).1
