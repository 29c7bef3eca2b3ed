use Rattle.std.proofs.Common.{◌≡◌, ◌+◌, true, false, sym}
use Rattle.ownership_runs.specs.Keeping.{may_fill}
use Rattle.ownership_runs.proofs.Bytes.{fills-none, fills-more, fills-not}
use Rattle.ownership_runs.proofs.stores.fills.Goals as goal

pub loop-place-init : goal.loop-place-init
loop-place-init c = fills-none c.args.queue.now c.args.owned c.args.address

pub loop-place-preserved : goal.loop-place-preserved
loop-place-preserved c =
    let here : may_fill c.args.queue.now c.args.owned (c.args.address + c.loop-place.place) ≡ true = cc in
    fills-more c.args.queue.now c.args.owned c.args.address c.loop-place.place c.loop-place.invariant here

pub returns-then-not-may_fill : goal.returns-then-not-may_fill
returns-then-not-may_fill c =
    let here : may_fill c.args.queue.now c.args.owned (c.args.address + c.loop-place.place) ≡ false = cc in
    sym (fills-not c.args.queue.now c.args.owned c.args.address c.loop-place.place c.args.width c.loop-place-test.true here)
