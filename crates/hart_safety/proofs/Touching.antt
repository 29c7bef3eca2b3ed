-- An instruction touches no byte outside of what its leaf says that it stores, or loads.
use Rattle.std.proofs.Common.{ℕ, ◌*◌, ◌/◌, ◌%◌, ◌<◌, ◌≤◌, ◌≡◌, ◌==◌, inl, inr, if◌then◌else◌, Bool, true, false, Option, Some, None, List, length, refl, sym}
use Rattle.std.proofs.Common.{subst, arith}
use Rattle.std.specs.Prelude.{nat_lt, slice_index}
use Rattle.std.specs.List.{slice_get}
use Rattle.std.proofs.lemmas.Bool.{ltb-true}
use Rattle.rv_decode.specs.Meaning.{meaning}
use Rattle.rv_decode.specs.declared.instruction.StoreOp.{StoreOp}
use Rattle.rv_decode.specs.declared.instruction.StoreOp.TheVariants as store_op
use Rattle.rv_decode.specs.declared.instruction.LoadOp.{LoadOp}
use Rattle.rv_decode.specs.declared.instruction.LoadOp.TheVariants as load_op
use Rattle.rv_decode.specs.declared.instruction.Instr.{Instr}
use Rattle.rv_decode.specs.declared.instruction.Instr.TheVariants.{Lui, Auipc, Jal, Jalr, Branch, Load, Store, Immediate, Shift, Register, Fence, FenceTso}
use Rattle.rv_decode.specs.declared.instruction.Instr.TheVariants.{Ecall, Ebreak, Amo}
use Rattle.memory.specs.Writes.{write, covers}
use Rattle.memory.proofs.Bytes.{covers-from}
use Rattle.hart.specs.{HartState, need_of, need_for, jump_need, access_need, register_value, address, is_taken, stored, load_width, store_width, updated}
use Rattle.hart.specs.declared.status.Stop.TheVariants as stop
use Rattle.hart.specs.declared.need.Report.TheVariants as report
use Rattle.hart.specs.declared.need.Need.{Need}
use Rattle.hart.specs.declared.need.Need.TheVariants as need
use Rattle.hart.proofs.Instructions.{need_at, illegal}
use Rattle.step_machine.specs.declared.events.Entry.{Entry}
use Rattle.step_machine.specs.Names.{OpeningValue, access_of, fence, hart_of, land, nothing}
use Rattle.step_machine.specs.Paths.{number_read, entry_of}
use Rattle.queue_parties.specs.Positions.{IsInBytes}
use Rattle.slot_queue.specs.Queues.{IsQueue, TellsFull}
use Rattle.queue_certificates.specs.{View, AllCounts, ActsByCounts, Bounds, KnownValue, KnownState, Has, MeansAt, bounds, anywhere, instruction_at}
use Rattle.queue_certificates.specs.{address_value, operand, QueueCertificate, queue_at, own_of}
use Rattle.queue_certificates.proofs.{has-bounds, nobody_told, nothing_sent, no-code}
use Rattle.queue_certificates.proofs.Steps as steps
use Rattle.hart_safety.specs.Touched.{SparesByte, target_of}
use Rattle.hart_safety.proofs.Going.{either}
use Rattle.hart_safety.proofs.Sharing.{IsSpared}

store-some : (op : StoreOp) → 1 ≤ store_width op
store-some store_op.Byte = omega arith
store-some store_op.Half = omega arith
store-some store_op.Word = omega arith

load-some : (op : LoadOp) → 1 ≤ load_width op
load-some load_op.Byte = omega arith
load-some load_op.Half = omega arith
load-some load_op.Word = omega arith
load-some load_op.ByteUnsigned = omega arith
load-some load_op.HalfUnsigned = omega arith

pub idle : (x : ℕ) (t : Bool) → SparesByte t x nothing
idle x true = tt
idle x false = λ loads. loads

pub landing : (x : ℕ) (t : Bool) → SparesByte t x land
landing x true = tt
landing x false = λ loads. loads

fenced : (x : ℕ) (t full : Bool) → SparesByte t x (fence full)
fenced x true full = tt
fenced x false full = λ loads. loads

module _ (M : ℕ) (o : OpeningValue) (c : QueueCertificate) (h : ℕ) (xs : List ℕ) (k : KnownState) (s : HartState) (m : View) (cs : AllCounts) (e : Entry)
    (acts : ActsByCounts M o (length c.queues) (queue_at c) nobody_told nothing_sent h s m cs e) (size : 32 ≤ length s.registers)
    (fine : (j : ℕ) → j < length c.queues → IsQueue (queue_at c j) × TellsFull (queue_at c j) × ((queue_at c j).index_width ≤ 4))
    (means : MeansAt (queue_at c) (length c.queues) (own_of c h) h xs k s m cs) (x : ℕ) where
  -- the entry by which this is met spares the byte
  abbrev Spares : (stores : Bool) → Need → Type 0
  Spares t n = SparesByte t x (access_of (entry_of (hart_of e) n (number_read e)))

  jump-spares : (t : Bool) (target : ℕ) → Spares t (jump_need target)
  jump-spares t target = either (Spares t) (target % 4 == 0) need.Inner (need.Stop stop.MisalignedJump) (idle x t) (idle x t)

  access-spares : (t : Bool) (width a : ℕ) (n : Need) → Spares t n → Spares t (access_need s.words width a n)
  access-spares t width a n spares = either (Spares t) (a % width == 0) (if nat_lt a (4 * s.words) then n else need.Stop stop.OutOfRange)
      (need.Stop stop.Misaligned) (either (Spares t) (nat_lt a (4 * s.words)) n (need.Stop stop.OutOfRange) spares (idle x t)) (idle x t)

  call-spares : (t : Bool) → Spares t (need_for s Ecall)
  call-spares t = either (Spares t) (slice_index s.registers 17 == 1) (need.Next (slice_get s.inbox 0)) _ (idle x t)
      (either (Spares t) (slice_index s.registers 17 == 2) (need.Report (report.Took (slice_index s.registers 10) (slice_index s.registers 11))) _ (idle x t)
      (either (Spares t) (slice_index s.registers 17 == 3) (need.Report (report.Closed (slice_index s.registers 10))) _ (idle x t)
      (either (Spares t) (slice_index s.registers 17 == 93) need.Exit (need.Stop stop.UnknownCall) (idle x t) (idle x t))))

  -- an access lies where its leaf says
  apart : (bs : Option Bounds) (place : KnownValue) (a width : ℕ) → bounds k.ranges place ≡ bs → Has (queue_at c) xs place a → 1 ≤ width
      → IsSpared x (Some (record { place = place; bounds = anywhere bs; width = width })) → IsInBytes a width x → ⊥
  apart None place a width is has some out inside = absurd (let no : false ≡ true = out.0 in cc)
  apart (Some b) place a width is has some out inside =
      let at : (b.low ≤ a) × (a ≤ b.high) = has-bounds (queue_at c) k.ranges xs place a b means.ranges is has in elim out.1 [
        | inl before ↦ omega (arith, before, inside.0, at.0)
        | inr after ↦ omega (arith, after, inside.1, at.1, some)
      ]

  not-covered : (a width v : ℕ) → (IsInBytes a width x → ⊥) → covers (write a width v) x ≡ false
  not-covered a width v apart = by (covers (write a width v) x) refl
    where
      by : (t : Bool) → covers (write a width v) x ≡ t → t ≡ false
      by false is = refl
      by true is = absurd (apart (covers-from (write a width v) x is))

  instruction-spares : (t : Bool) (i : Instr) → IsSpared x (target_of t c k (Some i)) → Spares t (need_for s i)
  instruction-spares true (Store op rs1 rs2 offset) out = access-spares true (store_width op) (address (register_value s.registers rs1) offset)
      (need.Store (address (register_value s.registers rs1) offset) (store_width op) (stored op (register_value s.registers rs2)))
      (not-covered (address (register_value s.registers rs1) offset) (store_width op) (stored op (register_value s.registers rs2))
      (apart (bounds k.ranges (address_value (queue_at c) k rs1 offset)) (address_value (queue_at c) k rs1 offset)
      (address (register_value s.registers rs1) offset) (store_width op) refl
      (steps.address-has M o (queue_at c) (length c.queues) (own_of c) (length c.harts) h xs k s m cs e acts size fine means rs1 offset) (store-some op) out))
  instruction-spares false (Store op rs1 rs2 offset) out = access-spares false (store_width op) (address (register_value s.registers rs1) offset)
      (need.Store (address (register_value s.registers rs1) offset) (store_width op) (stored op (register_value s.registers rs2))) (λ loads. loads)
  instruction-spares true (Load op rd rs1 offset) out = access-spares true (load_width op) (address (register_value s.registers rs1) offset)
      (need.Load (address (register_value s.registers rs1) offset) (load_width op)) tt
  instruction-spares false (Load op rd rs1 offset) out = access-spares false (load_width op) (address (register_value s.registers rs1) offset)
      (need.Load (address (register_value s.registers rs1) offset) (load_width op))
      (apart (bounds k.ranges (address_value (queue_at c) k rs1 offset)) (address_value (queue_at c) k rs1 offset)
      (address (register_value s.registers rs1) offset) (load_width op) refl
      (steps.address-has M o (queue_at c) (length c.queues) (own_of c) (length c.harts) h xs k s m cs e acts size fine means rs1 offset) (load-some op) out)
  instruction-spares true (Amo op rd rs1 rs2 aq rl) out =
      access-spares true 4 (register_value s.registers rs1) (need.Amo (register_value s.registers rs1) op (register_value s.registers rs2))
      (inr (not-covered (register_value s.registers rs1) 4 (updated op (number_read e) (register_value s.registers rs2))
      (apart (bounds k.ranges (operand (queue_at c) k rs1)) (operand (queue_at c) k rs1) (register_value s.registers rs1) 4 refl
      (steps.operand-has M o (queue_at c) (length c.queues) (own_of c) (length c.harts) h xs k s m cs e acts size fine means rs1) (omega arith) out)))
  instruction-spares false (Amo op rd rs1 rs2 aq rl) out =
      access-spares false 4 (register_value s.registers rs1) (need.Amo (register_value s.registers rs1) op (register_value s.registers rs2))
      (apart (bounds k.ranges (operand (queue_at c) k rs1)) (operand (queue_at c) k rs1) (register_value s.registers rs1) 4 refl
      (steps.operand-has M o (queue_at c) (length c.queues) (own_of c) (length c.harts) h xs k s m cs e acts size fine means rs1) (omega arith) out)
  instruction-spares t (Jal rd offset) out = jump-spares t _
  instruction-spares t (Jalr rd rs1 offset) out = jump-spares t _
  instruction-spares t (Branch op rs1 rs2 offset) out =
      either (Spares t) (is_taken op (register_value s.registers rs1) (register_value s.registers rs2))
      (jump_need (address s.pc offset)) need.Inner (jump-spares t (address s.pc offset)) (idle x t)
  instruction-spares t Ecall out = call-spares t
  instruction-spares t (Lui rd upper) out = idle x t
  instruction-spares t (Auipc rd upper) out = idle x t
  instruction-spares t (Immediate op rd rs1 n) out = idle x t
  instruction-spares t (Shift op rd rs1 amount) out = idle x t
  instruction-spares t (Register op rd rs1 rs2) out = idle x t
  instruction-spares t (Fence pred succ) out = fenced x t _
  instruction-spares t FenceTso out = fenced x t _
  instruction-spares t Ebreak out = idle x t

  -- whatever the pc says
  pub leaf-spares : (t : Bool) → IsSpared x (target_of t c k (instruction_at s.code k.pc)) → SparesByte t x (access_of e)
  leaf-spares t out = subst (λ d. SparesByte t x (access_of d)) (sym acts.can.made) (by (nat_lt s.pc (4 * length s.code)) refl
      (subst (λ pc. IsSpared x (target_of t c k (instruction_at s.code pc))) (sym means.pc) out))
    where
      says : (i : Option Instr) → s.pc < 4 * length s.code → meaning (slice_index s.code (s.pc / 4)) ≡ i → IsSpared x (target_of t c k i)
          → Spares t (need_of s)
      says None within is out = subst (Spares t) (sym (illegal s within is)) (idle x t)
      says (Some i) within is out = subst (Spares t) (sym (need_at (record { inside = within; says = is }))) (instruction-spares t i out)

      by : (b : Bool) → nat_lt s.pc (4 * length s.code) ≡ b
          → IsSpared x (target_of t c k (if b then meaning (slice_index s.code (s.pc / 4)) else None)) → Spares t (need_of s)
      by false outside out = subst (Spares t) (sym (no-code s outside)) (idle x t)
      by true within out = says (meaning (slice_index s.code (s.pc / 4))) (ltb-true s.pc (4 * length s.code) within) refl out
