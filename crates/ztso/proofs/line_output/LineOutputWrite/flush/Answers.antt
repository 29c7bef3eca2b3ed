use Rattle.std.proofs.KnownBytes.{Keeps-trans, append_known-kept}
use Rattle.ztso.proofs.line_output.LineOutputWrite.flush.Goals as goal

pub returns : goal.returns
returns g c = record { bytes = Keeps-trans _ _ _ c.write_held.ensures.bytes (append_known-kept _ _ _ c.flush.ensures.bytes) }
