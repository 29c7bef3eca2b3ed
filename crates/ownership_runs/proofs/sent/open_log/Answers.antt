use Rattle.std.proofs.Common.{◌≡◌, ◌+◌, Some, refl, ap, ◌∙◌}
use Rattle.step_machine.specs.Entries.{memory_byte}
use Rattle.ownership_runs.specs.Losses.{slots_from}
use Rattle.ownership_runs.proofs.Logs.{opened-more}
use Rattle.ownership_runs.proofs.sent.open_log.Goals as goal

pub loop-place-preserved : goal.loop-place-preserved
loop-place-preserved g c =
    let q = c.args.queue.now in
    let holds = memory_byte c.args.machine.now.history.opening c.args.machine.now.history.entries in
    let slots : c.from-slots.result ≡ slots_from q = c.from-slots.ensures ∙ c.slots_from.ensures in
    opened-more q holds c.args.from c.loop-place.place c.loop-place.log.items c.push.new.self.items _ c.loop-place.invariant c.in_ok-push.ensures.items refl
    (ap (λ n. Some n) (c.memory_byte-byte.ensures ∙ ap (λ n. holds (n + c.loop-place.place)) slots)) c.new-later.ensures.items
