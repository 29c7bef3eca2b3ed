-- Whether a hart surely runs on from where a certificate lists it: it isn't just past its code, where it has ended, and makes no exit call.
use Rattle.std.specs.Prelude.{ℕ, ◌*◌, ◌==◌, ◌&&◌, not, Bool, true, false, Option, None, Some, List, length}
use Rattle.rv_decode.specs.declared.instruction.Instr.{Instr}
use Rattle.rv_decode.specs.declared.instruction.Instr.TheVariants.{Ecall}
use Rattle.step_machine.specs.History.{OpeningValue}
use Rattle.queue_certificates.specs.States.{KnownState}
use Rattle.queue_certificates.specs.Steps.{instruction_at}
use Rattle.queue_certificates.specs.Certificates.{QueueCertificate}
use Rattle.queue_checker.specs.Flaws.{hart_at}
use Rattle.hart_safety.specs.Leaves.{first_failing}
use Rattle.hart_safety.specs.Stops.{call_in}

-- an environment call is known, by x17, and isn't the exit call
abbrev pub is_no_exit : Option ℕ → Bool
is_no_exit None = false
is_no_exit (Some n) = not (n == 93)

abbrev pub makes_no_exit : QueueCertificate → KnownState → Option Instr → Bool
makes_no_exit c k (Some Ecall) = is_no_exit (call_in c k)
makes_no_exit c k other = true

abbrev pub runs_on_at : QueueCertificate → (code : List ℕ) → KnownState → Bool
runs_on_at c code k = not (k.pc == 4 * length code) && makes_no_exit c k (instruction_at code k.pc)

-- hart h's first state where it isn't shown to run on
abbrev pub first_end : OpeningValue → QueueCertificate → (h : ℕ) → Option ℕ
first_end o c h = first_failing (λ k d arrows. runs_on_at c (hart_at o h).code k) c h
