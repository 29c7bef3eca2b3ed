use Rattle.std.proofs.KnownBytes.{Appends-kept}
use Rattle.ztso.proofs.Held.{all_passed}
use Rattle.ztso.proofs.line_output.LineOutputWrite.write_all.Goals as goal

pub returns-then-buf-capacity : goal.returns-then-buf-capacity
returns-then-buf-capacity g c = record {
  bytes = all_passed _ _ _ c.write_all.result _ _ c.in_ok-write_held.ensures.bytes c.in_ok-write_held.ensures.all c.write_all.ensures.bytes;
}
