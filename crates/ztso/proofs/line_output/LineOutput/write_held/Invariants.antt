use Rattle.std.proofs.Common.{◌≡◌, vec_capacity}
use Rattle.std.specs.Io.KnownBytes.{Keeps}
use Rattle.ztso.specs.Streams.{held_after}
use Rattle.ztso.proofs.line_output.LineOutput.write_held.Given as goal

-- nothing was lost, and there is as much room
abbrev pub invariant-loop : goal.invariant-loop
invariant-loop g l = record {
  kept : Keeps (held_after g.W.Write.contents l.fn.self.to l.fn.self.held) (held_after g.W.Write.contents l.self.to l.self.held);
  room : vec_capacity l.self.held ≡ vec_capacity l.fn.self.held;
}
