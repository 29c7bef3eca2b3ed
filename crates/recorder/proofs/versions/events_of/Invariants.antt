use Rattle.std.proofs.Common.{◌≡◌, take}
use Rattle.recorder.specs.Records.{events_in}
use Rattle.recorder.proofs.versions.events_of.Given as goal

abbrev pub invariant-loop-step : goal.invariant-loop-step
invariant-loop-step l = l.events.items ≡ events_in (take l.step-index l.steps)
