-- The buffers and the words are those of the copies.
use Rattle.std.proofs.Common.{◌≡◌, ◌++◌, length, take, drop, arith, subst, sym}
use Rattle.std.proofs.lemmas.Grind.{common_steps}
use Rattle.step_machine.specs.Names.{Stored, FitStored, restored_stored}
use Rattle.step_machine.proofs.Snapshots.{fit_stored_back}
use Rattle.step_machine.proofs.stores.Stores.restore.Goals as goal

pub invariant_of-self : goal.invariant_of-self
invariant_of-self g c =
    let held : Stored = record { buffers = c.self.inside.buffers.items; words = c.self.inside.memory.words; first = c.self.inside.memory.first } in
    let left : Stored = record {
      buffers = take c.self.inside.buffers.len (c.restore_buffers.new.buffers ++ drop (length c.restore_buffers.new.buffers) c.self.inside.buffers.items);
      words = c.restore.new.self.words;
      first = c.restore.new.self.first;
    } in
    let is : left ≡ restored_stored c.args.buffers.now c.args.words.now held = grind (arith, common_steps) in (
      c.self.invariant.0,
      subst (FitStored g.row.M) (sym is)
          (fit_stored_back g.row.M c.args.buffers.now c.args.words.now held c.self.invariant.1 c.requires.few
          c.requires.pending),
    )
