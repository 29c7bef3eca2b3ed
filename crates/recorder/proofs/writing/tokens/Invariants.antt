use Rattle.std.proofs.Common.{◌≡◌, ◌≤◌, ◌++◌, drop}
use Rattle.std.specs.String.{string_bytes}
use Rattle.recorder.specs.Writing.{schedule_tokens}
use Rattle.recorder.proofs.Runs.{to_write}
use Rattle.recorder.proofs.writing.tokens.Given as goal

abbrev pub invariant-loop-next : goal.invariant-loop-next
invariant-loop-next l = record {
  few : l.times ≤ l.next-index;
  so_far : string_bytes l.text ++ to_write l.event l.times (drop l.next-index l.events) ≡ schedule_tokens l.events;
}
