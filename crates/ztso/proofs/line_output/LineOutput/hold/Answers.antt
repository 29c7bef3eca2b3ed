use Rattle.std.proofs.KnownBytes.{append_known-grown, Keeps-refl}
use Rattle.ztso.proofs.line_output.LineOutput.hold.Goals as goal
use Rattle.ztso.proofs.line_output.LineOutput.hold.Goals.{then-bytes-capacity+in_ok-write_held, else-bytes-capacity}

pub returns : goal.returns
returns g c =
    append_known-grown _ _ c.if-bytes-capacity.self.held.items _ _ (elim c.if-bytes-capacity.branch [
      | then-bytes-capacity+in_ok-write_held w ↦ rw w.self-is w.write_held.ensures.bytes
      | else-bytes-capacity w ↦ rw w.self-is (Keeps-refl _)
    ]) c.append.ensures.held
