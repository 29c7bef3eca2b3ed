-- Harts, buffers and words are those of the snapshot, which fit each other.
use Rattle.std.proofs.Common.{◌≡◌, ◌++◌, length, take, drop, arith, subst, sym}
use Rattle.std.proofs.lemmas.Grind.{common_steps}
use Rattle.step_machine.specs.Names.{Config, Fit, restored_config}
use Rattle.step_machine.proofs.Snapshots.{fit_back}
use Rattle.step_machine.proofs.machine_state.MachineState.restore.Goals as goal

pub invariant_of-self : goal.invariant_of-self
invariant_of-self g c =
    let held : Config = record { harts = c.self.inside.harts.items; stored = c.self.inside.stores } in
    let left : Config = record {
      harts = take c.self.inside.harts.len (c.restore_harts.new.harts ++ drop (length c.restore_harts.new.harts) c.self.inside.harts.items);
      stored = c.restore.new.self;
    } in
    let is : left ≡ restored_config c.args.saved.now held = grind (arith, common_steps) in
    let count : length c.args.saved.now.buffers ≡ length held.stored.buffers =
    subst (λ (k : Config). length c.args.saved.now.buffers ≡ length k.stored.buffers) (sym c.self.view_is)
    c.requires.count in
    (c.self.invariant.0, subst (Fit g.row.M) (sym is) (fit_back g.row.M held c.args.saved.now c.self.invariant.1 count c.requires.few c.requires.pending))
