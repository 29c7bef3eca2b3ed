-- Whether a hart surely goes on from where a certificate lists it: its next instruction doesn't stop it.
use Rattle.std.specs.Prelude.{ℕ, ℤ, ◌*◌, ◌/◌, ◌%◌, ◌==◌, ◌&&◌, ◌||◌, nat_lt, Bool, true, false, Option, None, Some, List, length, get_or}
use Rattle.rv_decode.specs.declared.instruction.Instr.{Instr}
use Rattle.rv_decode.specs.declared.instruction.Instr.TheVariants.{Jal, Jalr, Branch, Load, Store, Ecall, Ebreak, Amo}
use Rattle.hart.specs.Effects.{address, load_width, store_width}
use Rattle.step_machine.specs.History.{OpeningValue}
use Rattle.queue_certificates.specs.Forms.{number, is_same}
use Rattle.queue_certificates.specs.States.{KnownValue, any, linear, index_for, signed_for, ends_as, has_bits, KnownState, plain}
use Rattle.queue_certificates.specs.Results.{as_number}
use Rattle.queue_certificates.specs.Steps.{instruction_at, operand}
use Rattle.queue_certificates.specs.Certificates.{QueueCertificate, queue_at}
use Rattle.queue_checker.specs.declared.targets.Target.{Target}
use Rattle.queue_checker.specs.Flaws.{hart_at}
use Rattle.queue_checker.specs.Operands.{accessed_in, exchanged_in}
use Rattle.hart_safety.specs.Leaves.{first_failing}

-- it is a multiple of the width, whatever the variables are. The widths divide 2 ^ 32
abbrev pub is_aligned : KnownValue → (width : ℕ) → Bool
is_aligned any width = false
is_aligned (linear f) width = is_same width f (number 0)
is_aligned (index_for i f) width = false
is_aligned (signed_for i f) width = false
is_aligned (ends_as n f) width = false
is_aligned (has_bits m b) width = false

-- an access there is aligned and within M words of memory
abbrev pub is_within_memory : (M : ℕ) → Target → Bool
is_within_memory M t = is_aligned t.place t.width && nat_lt t.bounds.high (4 * M)

abbrev pub may_be_target : (pc : ℕ) → Bool
may_be_target pc = pc % 4 == 0

-- a jump by a register is to where it is known to go
abbrev pub jumps_to_target : (base : Option ℕ) → ℤ → Bool
jumps_to_target None offset = false
jumps_to_target (Some a) offset = may_be_target (address a offset / 2 * 2)

-- an environment call is known, by x17
abbrev pub is_known_call : Option ℕ → Bool
is_known_call None = false
is_known_call (Some n) = (n == 1) || (n == 2) || (n == 3) || (n == 93)

abbrev pub call_in : QueueCertificate → KnownState → Option ℕ
call_in c k = as_number (plain (queue_at c) k.ranges (get_or k.registers 17 any))

-- the instruction doesn't stop a hart with M words of memory
abbrev pub goes_on : (M : ℕ) → QueueCertificate → KnownState → Option Instr → Bool
goes_on M c k None = false
goes_on M c k (Some Ebreak) = false
goes_on M c k (Some Ecall) = is_known_call (call_in c k)
goes_on M c k (Some (Jal rd offset)) = may_be_target (address k.pc offset)
goes_on M c k (Some (Jalr rd rs1 offset)) = jumps_to_target (as_number (operand (queue_at c) k rs1)) offset
goes_on M c k (Some (Branch op rs1 rs2 offset)) = may_be_target (address k.pc offset)
goes_on M c k (Some (Load op rd rs1 offset)) = is_within_memory M (accessed_in c k rs1 offset (load_width op))
goes_on M c k (Some (Store op rs1 rs2 offset)) = is_within_memory M (accessed_in c k rs1 offset (store_width op))
goes_on M c k (Some (Amo op rd rs1 rs2 aq rl)) = is_within_memory M (exchanged_in c k rs1)
goes_on M c k (Some other) = true

-- just past its code a hart has ended, and executes nothing
abbrev pub goes_on_at : (M : ℕ) → QueueCertificate → (code : List ℕ) → KnownState → Bool
goes_on_at M c code k = (k.pc == 4 * length code) || goes_on M c k (instruction_at code k.pc)

-- hart h's first state whose instruction isn't shown to go on, with M words of memory
abbrev pub first_stop : (M : ℕ) → OpeningValue → QueueCertificate → (h : ℕ) → Option ℕ
first_stop M o c h = first_failing (λ k d arrows. goes_on_at M c (hart_at o h).code k) c h
