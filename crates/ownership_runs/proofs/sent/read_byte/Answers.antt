use Rattle.std.proofs.Common.{◌≡◌, None, sym, ap, ◌∙◌}
use Rattle.std.specs.Prelude.{unwrap_or}
use Rattle.memory.specs.Writes.{newest_of}
use Rattle.step_machine.specs.Names.{memory_byte, pending}
use Rattle.ownership_runs.proofs.sent.read_byte.Goals as goal

pub returns-in-None : goal.returns-in-None
returns-in-None g c =
    let o = c.args.machine.now.history.opening in
    let es = c.args.machine.now.history.entries in
    let x = c.args.x in
    let none : newest_of x None (pending c.args.hart es) ≡ None = ap (newest_of x None) (sym c.pending.ensures) ∙ sym c.newest.ensures ∙ c.in-None.is in
    c.memory_byte.ensures ∙ sym (ap (λ f. unwrap_or f (memory_byte o es x)) none)
