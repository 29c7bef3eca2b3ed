use Rattle.std.proofs.Common.{◌≡◌, take}
use Rattle.std.specs.Prelude.{map}
use Rattle.queue_certificates.specs.Forms.{settled}
use Rattle.queue_checker.proofs.arrows.settled_forms.Given as goal

abbrev pub invariant-loop-form : goal.invariant-loop-form
invariant-loop-form l = l.out.items ≡ map (settled l.ranges) (take l.form-index l.forms)
