-- Which bytes an instruction accesses in a state of a certificate, by its queues alone.
use Rattle.std.specs.Prelude.{ℕ, ℤ, Option, None, Some}
use Rattle.rv_decode.specs.declared.instruction.Reg.{Reg}
use Rattle.rv_decode.specs.declared.instruction.Instr.{Instr}
use Rattle.rv_decode.specs.declared.instruction.Instr.TheVariants.{Load, Store, Amo}
use Rattle.hart.specs.Effects.{load_width, store_width}
use Rattle.queue_certificates.specs.States.{KnownState}
use Rattle.queue_certificates.specs.Steps.{operand, address_value, addresses, exchanged}
use Rattle.queue_certificates.specs.Certificates.{QueueCertificate, queue_at}
use Rattle.queue_checker.specs.declared.targets.Target.{Target}

-- the bytes of a load or of a store, and the word of an AMO
abbrev pub accessed_in : QueueCertificate → KnownState → Reg → ℤ → (width : ℕ) → Target
accessed_in c k r offset width = record {
  place = address_value (queue_at c) k r offset;
  bounds = addresses (queue_at c) k r offset;
  width = width;
}

abbrev pub exchanged_in : QueueCertificate → KnownState → Reg → Target
exchanged_in c k r = record { place = operand (queue_at c) k r; bounds = exchanged (queue_at c) k r; width = 4 }

-- the bytes that an instruction loads, and those to which it stores; an AMO always does both
abbrev pub load_target : QueueCertificate → KnownState → Option Instr → Option Target
load_target c k (Some (Load op rd rs1 offset)) = Some (accessed_in c k rs1 offset (load_width op))
load_target c k (Some (Amo op rd rs1 rs2 aq rl)) = Some (exchanged_in c k rs1)
load_target c k other = None

abbrev pub store_target : QueueCertificate → KnownState → Option Instr → Option Target
store_target c k (Some (Store op rs1 rs2 offset)) = Some (accessed_in c k rs1 offset (store_width op))
store_target c k (Some (Amo op rd rs1 rs2 aq rl)) = Some (exchanged_in c k rs1)
store_target c k other = None
