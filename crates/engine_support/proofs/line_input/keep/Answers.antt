use Rattle.std.proofs.Common.{arith}
use Rattle.engine_support.proofs.LineReading.{kept_more}
use Rattle.engine_support.proofs.line_input.keep.Goals as goal

pub returns-clause-kept : goal.returns-clause-kept
returns-clause-kept c =
    kept_more c.extend_from_slice.result _ _ _ _ _ c.requires (omega (arith, c.len.ensures)) c.front_of.ensures c.extend_from_slice.ensures.items
