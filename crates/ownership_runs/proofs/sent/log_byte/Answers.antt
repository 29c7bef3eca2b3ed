use Rattle.std.proofs.Common.{◌≡◌, ◌-◌, ◌<◌, ◌≤◌, Some, length, get_or, sym, ap, ◌∙◌, arith}
use Rattle.std.specs.List.{slice_get}
use Rattle.std.proofs.Math.ListN.{set}
use Rattle.std.proofs.lemmas.Option.{slice_get-get_or}
use Rattle.std.specs.Result.{result_unwrap_or}
use Rattle.std.proofs.lemmas.Result.{on_ok_weaker, Ok-from_Ok_iff}
use Rattle.ownership_runs.specs.Losses.{slots_from}
use Rattle.ownership_runs.specs.declared.sent.ByteLog.{ByteLog}
use Rattle.ownership_runs.proofs.Logs.{changed-byte}
use Rattle.ownership_runs.proofs.sent.log_byte.Goals as goal

pub returns-clause-logged : goal.returns-clause-logged
returns-clause-logged c =
    let q = c.args.queue.now in
    let log = c.args.log.now.items in
    let x = c.args.x in
    let slots : c.from-slots.result ≡ slots_from q = c.from-slots.ensures ∙ c.slots_from.ensures in
    let low : slots_from q ≤ x = (let at = c.if-x-slots.false in omega (arith, at, slots)) in
    let place : c.unwrap_or-place.result ≡ x - c.from-slots.result = c.unwrap_or-place.ensures ∙ ap (λ r. result_unwrap_or r 18446744073709551615)
    (Ok-from_Ok_iff c.try_from.result (x - c.from-slots.result < 18446744073709551616) (x - c.from-slots.result) c.try_from.ensures
    (let fits = c.ranges.x.fits in omega (arith, fits))) in
    let here : c.unwrap_or-place.result ≡ x - slots_from q = place ∙ ap (λ n. x - n) slots in
    let within : x - slots_from q < length log = (let at = c.if-place-len.false in let long = c.len.ensures in omega (arith, at, here, long)) in
    let old : ByteLog = c.index_mut.result.now in
    let was : slice_get log (x - slots_from q) ≡ Some old =
    slice_get-get_or log (x - slots_from q) old within ∙ ap (λ b. Some b) (sym (c.index_mut.ensures.value ∙ ap (λ n. get_or log n old) here)) in
    on_ok_weaker c.note_read.result
    (λ has. changed-byte q log x low (set log c.unwrap_or-place.result c.note_read.new.bytes) c.note_read.new.bytes old
    c.args.over c.args.byte c.args.from within was (ap (λ n. set log n c.note_read.new.bytes) here) has)
    c.note_read.ensures
