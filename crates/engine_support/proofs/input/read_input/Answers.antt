use Rattle.std.proofs.Common.{◌<◌, ◌≤◌, ◌+◌, length, arith}
use Rattle.engine_support.proofs.Endings.{taken_chunk, too_large-found, too_many}
use Rattle.engine_support.proofs.input.read_input.Goals as goal

pub returns-in-Ok-clause-input : goal.returns-in-Ok-clause-input
returns-in-Ok-clause-input g c =
    let many : 1048576 < length c.loop.input.items + c.in-Ok.count = omega arith in
    too_large-found _ c.refused.result c.refused.ensures
    (too_many _ _ _ c.loop.input.items _ c.in-Ok.count c.loop.invariant.consumed c.in-Ok.ensures.bytes.0
    c.in-Ok.ensures.bound.0 many)

pub returns-in-Ok-clause-taken : goal.returns-in-Ok-clause-taken
returns-in-Ok-clause-taken g c =
    let small : length c.read.new.buf ≤ 4096 = omega arith in
    taken_chunk _ _ _ c.loop.input.items _ c.in-Ok.count c.loop.invariant.consumed c.in-Ok.ensures.bytes.0 c.loop.invariant.few c.in-Ok.ensures.bound.0 small

pub returns-in_err-extend_from_slice-in-Ok-2-clause-taken : goal.returns-in_err-extend_from_slice-in-Ok-2-clause-taken
returns-in_err-extend_from_slice-in-Ok-2-clause-taken g c =
    let small : length c.read.new.buf ≤ 4096 = omega arith in
    taken_chunk _ _ _ c.loop.input.items _ c.in-Ok-2.count c.loop.invariant.consumed c.in-Ok-2.ensures.bytes.0
    c.loop.invariant.few c.in-Ok-2.ensures.bound.0 small
