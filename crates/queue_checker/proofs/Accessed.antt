-- What is said of an instruction's loads and stores, by the bytes that it loads and those to which it stores.
use Rattle.std.specs.Prelude.{ℕ, ◌≡◌, ◌+◌, ◌*◌, Bool, true, Option, None, Some, length, refl}
use Rattle.rv_decode.specs.declared.instruction.Instr.{Instr}
use Rattle.rv_decode.specs.declared.instruction.Instr.TheVariants.{Load, Store, Amo}
use Rattle.queue_certificates.specs.{KnownState, is_apart, share_at, reads_owned, loads_owned, reads_rest, loads_rest, QueueCertificate, queue_at, tagged_at}
use Rattle.queue_certificates.specs.{leaves_slots}
use Rattle.queue_checker.specs.declared.targets.Target.{Target}
use Rattle.queue_checker.specs.Operands.{load_target, store_target}

-- f says it of these bytes, and it is so where there are none
abbrev pub of_target : (Target → Bool) → Option Target → Bool
of_target f None = true
of_target f (Some t) = f t

pub owned_loads : (c : QueueCertificate) (k : KnownState) (i : ℕ) (instruction : Option Instr) → loads_owned (queue_at c) k i instruction
    ≡ of_target (λ t. reads_owned (queue_at c) k i t.place t.bounds t.width) (load_target c k instruction)
owned_loads c k i (Some (Load op rd rs1 offset)) = refl
owned_loads c k i (Some (Amo op rd rs1 rs2 aq rl)) = refl
owned_loads c k i other = refl

pub rest_loads : (c : QueueCertificate) (k : KnownState) (t : ℕ) (instruction : Option Instr)
    → loads_rest (tagged_at c) (queue_at c) (length c.queues) k t instruction
    ≡ of_target (λ b. reads_rest k.ranges (tagged_at c t) (share_at k (length c.queues + t)) b.place b.bounds b.width) (load_target c k instruction)
rest_loads c k t (Some (Load op rd rs1 offset)) = refl
rest_loads c k t (Some (Amo op rd rs1 rs2 aq rl)) = refl
rest_loads c k t other = refl

pub left_slots : (c : QueueCertificate) (k : KnownState) (i : ℕ) (instruction : Option Instr) → leaves_slots c i k instruction
    ≡ of_target (λ t. is_apart t.bounds t.width (queue_at c i).slots ((queue_at c i).size * (queue_at c i).width)) (store_target c k instruction)
left_slots c k i (Some (Store op rs1 rs2 offset)) = refl
left_slots c k i (Some (Amo op rd rs1 rs2 aq rl)) = refl
left_slots c k i other = refl
