use Rattle.std.proofs.Common.{◌∙◌}
use Rattle.std.proofs.KnownBytes.{Keeps-trans}
use Rattle.ztso.proofs.line_output.LineOutput.write_held.Goals as goal

pub loop-preserved : goal.loop-preserved
loop-preserved g c = record {
  kept = Keeps-trans _ _ _ c.loop.invariant.kept c.write_some.ensures.bytes;
  room = c.write_some.ensures.room ∙ c.loop.invariant.room;
}

pub returns-in_err-write_some-clause-bytes : goal.returns-in_err-write_some-clause-bytes
returns-in_err-write_some-clause-bytes g c = Keeps-trans _ _ _ c.loop.invariant.kept c.write_some.ensures.bytes
