use Rattle.ztso.proofs.Held.{write_passed}
use Rattle.ztso.proofs.line_output.LineOutputWrite.write.Goals as goal

pub returns-clause-bytes : goal.returns-clause-bytes
returns-clause-bytes g c = write_passed _ _ _ c.write.result _ _ c.write_held.ensures.bytes c.in_ok-write_held.ensures.all c.write.ensures.bytes
