-- Which instructions may access a byte of a queue's slots, in some state of a certificate: of a queue with indices, or of one with tags.
use Rattle.std.specs.Prelude.{ℕ, zero, suc, ◌*◌, ◌==◌, ◌&&◌, ◌||◌, ◌++◌, not, if◌then◌else◌, Bool, true, false, Option, None, Some}
use Rattle.std.specs.Prelude.{List, [], ◌∷◌, length}
use Rattle.rv_decode.specs.declared.instruction.Instr.{Instr}
use Rattle.step_machine.specs.History.{OpeningValue}
use Rattle.slot_queue.specs.Queues.{Queue}
use Rattle.queue_certificates.specs.States.{KnownState}
use Rattle.queue_certificates.specs.Steps.{is_apart, instruction_at}
use Rattle.queue_certificates.specs.Cases.{Cases, each_leaf}
use Rattle.queue_certificates.specs.Certificates.{QueueCertificate, queue_at, tagged_at, part_of, state_at}
use Rattle.queue_certificates.specs.Tags.{bare}
use Rattle.queue_checker.specs.declared.targets.Target.{Target}
use Rattle.queue_checker.specs.declared.accesses.SlotAccess.{SlotAccess}
use Rattle.queue_checker.specs.Flaws.{hart_at}
use Rattle.queue_checker.specs.Operands.{load_target, store_target}

-- some of these bytes, if there are any, may be of the slots
abbrev pub reaches : Queue → Option Target → Bool
reaches q None = false
reaches q (Some t) = not (is_apart t.bounds t.width q.slots (q.size * q.width))

-- an instruction may store to them, or load from them
abbrev pub touches : QueueCertificate → Queue → (stores : Bool) → KnownState → Option Instr → Bool
touches c q true k instruction = reaches q (store_target c k instruction)
touches c q false k instruction = reaches q (load_target c k instruction)

-- in no case of a state
abbrev pub spares_in : QueueCertificate → Queue → (stores : Bool) → (code : List ℕ) → KnownState → Cases → Bool
spares_in c q stores code k t = each_leaf (λ k d arrows. not (touches c q stores k (instruction_at code k.pc))) k t

-- at some number below n
abbrev pub any_below : ℕ → (ℕ → Bool) → Bool
any_below zero f = false
any_below (suc n) f = f n || any_below n f

-- in some state of hart h at this pc
abbrev pub touches_at : OpeningValue → QueueCertificate → Queue → (stores : Bool) → (h pc n : ℕ) → Bool
touches_at o c q stores h pc n = ((state_at c h n).known.pc == pc)
    && not (spares_in c q stores (hart_at o h).code (state_at c h n).known (state_at c h n).cases)

abbrev pub access_at : OpeningValue → QueueCertificate → Queue → (h pc : ℕ) → SlotAccess
access_at o c q h pc = record {
  hart = h;
  pc = pc;
  stores = any_below (length (part_of c h).states) (touches_at o c q true h pc);
  loads = any_below (length (part_of c h).states) (touches_at o c q false h pc);
}

abbrev pub kept_access : SlotAccess → List SlotAccess
kept_access a = if a.stores || a.loads then a ∷ [] else []

-- of the first n instructions of hart h; and of the first n harts
abbrev pub accesses_of : OpeningValue → QueueCertificate → Queue → (h n : ℕ) → List SlotAccess
accesses_of o c q h zero = []
accesses_of o c q h (suc n) = accesses_of o c q h n ++ kept_access (access_at o c q h (4 * n))

abbrev pub accesses_below : OpeningValue → QueueCertificate → Queue → (n : ℕ) → List SlotAccess
accesses_below o c q zero = []
accesses_below o c q (suc n) = accesses_below o c q n ++ accesses_of o c q n (length (hart_at o n).code)

abbrev pub accesses_to : OpeningValue → QueueCertificate → Queue → List SlotAccess
accesses_to o c q = accesses_below o c q (length o.harts)

abbrev pub slot_accesses : OpeningValue → QueueCertificate → (i : ℕ) → List SlotAccess
slot_accesses o c i = accesses_to o c (queue_at c i)

abbrev pub tagged_accesses : OpeningValue → QueueCertificate → (t : ℕ) → List SlotAccess
tagged_accesses o c t = accesses_to o c (bare (tagged_at c t))
