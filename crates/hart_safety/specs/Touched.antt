-- The bytes to which a hart may store, or which it may load, as a certificate lists its states.
use Rattle.std.specs.Prelude.{ℕ, ◌-◌, ◌^◌, ◌||◌, nat_lt, if◌then◌else◌, Bool, true, false, Option, None, Some, List, []}
use Rattle.rv_decode.specs.declared.instruction.Instr.{Instr}
use Rattle.step_machine.specs.Access.{Access}
use Rattle.step_machine.specs.History.{OpeningValue}
use Rattle.store_buffers.specs.StoreBuffers.{LeavesByteBy}
use Rattle.certified_runs.specs.Views.{LoadsByte}
use Rattle.queue_certificates.specs.Forms.{Bounds}
use Rattle.queue_certificates.specs.States.{KnownState}
use Rattle.queue_certificates.specs.Steps.{instruction_at}
use Rattle.queue_certificates.specs.Certificates.{QueueCertificate}
use Rattle.queue_checker.specs.declared.targets.Target.{Target}
use Rattle.queue_checker.specs.Flaws.{hart_at, first_of}
use Rattle.queue_checker.specs.Operands.{load_target, store_target}
use Rattle.hart_safety.specs.declared.regions.Region.{Region}
use Rattle.hart_safety.specs.Leaves.{over_hart}
use Rattle.hart_safety.specs.Regions.{region_of, with_region}

-- the access writes nothing over the byte at x, or doesn't load it
abbrev pub SparesByte : (stores : Bool) → (x : ℕ) → Access → Type 0
SparesByte true x y = LeavesByteBy x y
SparesByte false x y = LoadsByte y x → ⊥

-- the bytes to which an instruction stores, or which it loads, if there are any
abbrev pub target_of : (stores : Bool) → QueueCertificate → KnownState → Option Instr → Option Target
target_of true c k i = store_target c k i
target_of false c k i = load_target c k i

-- some address of a word is none of these
abbrev pub is_bounded : Bounds → Bool
is_bounded b = nat_lt 0 b.low || nat_lt b.high (2 ^ 32 - 1)

-- the regions of the accesses that are bounded, and the first state with another one
pub record Touched : Type 0 where
  pub regions : List Region
  pub unbounded : Option ℕ

abbrev pub nothing_touched : Touched
nothing_touched = record { regions = []; unbounded = None }

-- with an access of state n
abbrev pub with_target : (n : ℕ) → Option Target → Touched → Touched
with_target n None w = w
with_target n (Some t) w = if is_bounded t.bounds then record { regions = with_region (region_of t) w.regions; unbounded = w.unbounded }
    else record { regions = w.regions; unbounded = first_of w.unbounded (Some n) }

abbrev pub touched_at : (stores : Bool) → QueueCertificate → (code : List ℕ) → (n : ℕ) → KnownState → Touched → Touched
touched_at stores c code n k w = with_target n (target_of stores c k (instruction_at code k.pc)) w

-- by all leaves of hart h
abbrev pub touched_of : (stores : Bool) → OpeningValue → QueueCertificate → (h : ℕ) → Touched
touched_of stores o c h = over_hart (touched_at stores c (hart_at o h).code) c h nothing_touched
