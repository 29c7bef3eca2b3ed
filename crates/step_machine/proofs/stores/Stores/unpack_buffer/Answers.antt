-- What the words say has addresses of words.
use Rattle.std.proofs.Common.{◌≡◌, List, arith, subst, sym, length}
use Rattle.std.specs.Prelude.{slice_set}
use Rattle.std.proofs.lemmas.Grind.{common_steps}
use Rattle.std.proofs.lemmas.List.Elements.{All-set}
use Rattle.memory.specs.declared.writes.Write.{Write}
use Rattle.step_machine.specs.inner.Stored.{Stored, FitStored, InMemory}
use Rattle.step_machine.proofs.TakingLaws.{buffer_fits}
use Rattle.step_machine.proofs.stores.Stores.unpack_buffer.Goals as goal

pub invariant_of-self : goal.invariant_of-self
invariant_of-self g c = (
  c.self.invariant.0,
  record {
    words = c.self.invariant.1.words;
    first = c.self.invariant.1.first;
    pending = All-set (InMemory g.row.M) c.self.inside.buffers.items c.args.hart c.take_buffer.new.buffer
        (subst (λ (ps : List Write). InMemory g.row.M ps) (sym c.take_buffer.ensures.stores) (buffer_fits g.row.B g.row.M c.args.words.now))
        c.self.invariant.1.pending;
  },
)

pub returns-clause-fit : goal.returns-clause-fit
returns-clause-fit g c = (invariant_of-self g c).1
