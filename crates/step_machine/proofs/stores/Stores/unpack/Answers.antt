-- The buffers and the words are those that the words say.
use Rattle.std.proofs.Common.{◌≡◌, ◌++◌, length, take, drop, arith, subst, sym}
use Rattle.std.proofs.lemmas.Grind.{common_steps}
use Rattle.std.proofs.lemmas.List.{take_min}
use Rattle.step_machine.specs.Names.{Stored, FitStored, unpacked_stored}
use Rattle.step_machine.proofs.TakingLaws.{buffers_count, fit_unpacked_stored}
use Rattle.step_machine.proofs.stores.Stores.unpack.Goals as goal

pub invariant_of-self : goal.invariant_of-self
invariant_of-self g c =
    let held : Stored = record { buffers = c.self.inside.buffers.items; words = c.self.inside.memory.words; first = c.self.inside.memory.first } in
    let left : Stored = record {
      buffers = take c.self.inside.buffers.len (c.take_buffers-rest.new.buffers ++ drop (length c.take_buffers-rest.new.buffers) c.self.inside.buffers.items);
      words = c.restore.new.self.words;
      first = c.restore.new.self.first;
    } in
    let is : left ≡ unpacked_stored g.row.B g.row.M held c.args.words.now = grind (arith, common_steps, buffers_count, take_min) in
    (c.self.invariant.0, subst (FitStored g.row.M) (sym is) (fit_unpacked_stored g.row.B g.row.M held c.args.words.now c.self.invariant.1))

pub returns-clause-fit : goal.returns-clause-fit
returns-clause-fit g c = (invariant_of-self g c).1
