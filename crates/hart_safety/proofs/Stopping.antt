-- An instruction that goes on from a leaf doesn't stop its hart.
use Rattle.std.proofs.Common.{ℕ, ℤ, ◌*◌, ◌/◌, ◌%◌, ◌^◌, ◌<◌, ◌≤◌, ◌≡◌, ◌==◌, ◌||◌, inl, inr, if◌then◌else◌, Bool, true, false, Option, Some, None, List, length}
use Rattle.std.proofs.Common.{get_or, refl, sym, ◌∙◌, ap, subst, arith}
use Rattle.std.specs.Prelude.{nat_lt, slice_index}
use Rattle.std.proofs.lemmas.Bool.{and_parts, or_cases, eqb-true, eq-eqb, ltb-true, lt-ltb}
use Rattle.std.proofs.Math.Nat.{mod-lt, zero-mod}
use Rattle.rv_decode.specs.Meaning.{meaning}
use Rattle.rv_decode.specs.declared.instruction.Reg.{Reg}
use Rattle.rv_decode.specs.declared.instruction.LoadOp.{LoadOp}
use Rattle.rv_decode.specs.declared.instruction.LoadOp.TheVariants as load_op
use Rattle.rv_decode.specs.declared.instruction.StoreOp.{StoreOp}
use Rattle.rv_decode.specs.declared.instruction.StoreOp.TheVariants as store_op
use Rattle.rv_decode.specs.declared.instruction.Instr.{Instr}
use Rattle.rv_decode.specs.declared.instruction.Instr.TheVariants.{Lui, Auipc, Jal, Jalr, Branch, Load, Store, Immediate, Shift, Register, Fence, FenceTso}
use Rattle.rv_decode.specs.declared.instruction.Instr.TheVariants.{Ecall, Ebreak, Amo}
use Rattle.hart.specs.{HartState, need_of, need_for, jump_need, access_need, register_value, address, is_taken, stored, load_width, store_width}
use Rattle.hart.specs.declared.need.Need.{Need}
use Rattle.hart.specs.declared.need.Need.TheVariants as need
use Rattle.hart.proofs.Instructions.{need_at}
use Rattle.step_machine.specs.declared.events.Entry.{Entry}
use Rattle.step_machine.specs.History.{OpeningValue}
use Rattle.slot_queue.specs.Queues.{Queue, IsQueue, TellsFull}
use Rattle.queue_certificates.specs.{View, AllCounts, ActsByCounts, form_value, number, is_same, InRanges, Bounds, KnownValue, any, linear, index_for}
use Rattle.queue_certificates.specs.{signed_for, ends_as, has_bits, KnownState, Has, MeansAt, as_number, bounds, anywhere, instruction_at, address_value}
use Rattle.queue_certificates.specs.{operand, QueueCertificate, queue_at, own_of}
use Rattle.queue_certificates.proofs.{same-value, value-number, has-plain, has-bounds, known-is, nobody_told, nothing_sent}
use Rattle.queue_certificates.proofs.Steps as steps
use Rattle.queue_checker.specs.declared.targets.Target.{Target}
use Rattle.hart_safety.specs.Stops.{is_within_memory, may_be_target, jumps_to_target, is_known_call, call_in, goes_on, goes_on_at}
use Rattle.hart_safety.proofs.Going.{either, KeepsGoing, jump-keeps, access-keeps, call-keeps, IsGoing}

-- ---- accesses

abbrev target : List (Option ℕ) → (place : KnownValue) → (width : ℕ) → Target
target rs place width = record { place = place; bounds = anywhere (bounds rs place); width = width }

-- a remainder by 2 ^ 32 has the same remainder by it
abbrev Divides : (width : ℕ) → Type 0
Divides width = (x : ℕ) → x % 2 ^ 32 % width ≡ x % width

load-divides : (op : LoadOp) → Divides (load_width op)
load-divides load_op.Byte x = omega arith
load-divides load_op.Half x = omega arith
load-divides load_op.Word x = omega arith
load-divides load_op.ByteUnsigned x = omega arith
load-divides load_op.HalfUnsigned x = omega arith

store-divides : (op : StoreOp) → Divides (store_width op)
store-divides store_op.Byte x = omega arith
store-divides store_op.Half x = omega arith
store-divides store_op.Word x = omega arith

module _ (queues : ℕ → Queue) (rs : List (Option ℕ)) (xs : List ℕ) (ranges : InRanges rs xs) where
  inside-memory : (M : ℕ) (place : KnownValue) (a width : ℕ) → Divides width → Has queues xs place a
      → is_within_memory M (target rs place width) ≡ true → ((a % width == 0) ≡ true) × (nat_lt a (4 * M) ≡ true)
  inside-memory M any a width divides has ok = absurd (cc)
  inside-memory M (index_for i f) a width divides has ok = absurd (cc)
  inside-memory M (signed_for i f) a width divides has ok = absurd (cc)
  inside-memory M (ends_as n f) a width divides has ok = absurd (cc)
  inside-memory M (has_bits n b) a width divides has ok = absurd (cc)
  inside-memory M (linear f) a width divides has ok =
      let parts = and_parts (is_same width f (number 0)) (nat_lt (anywhere (bounds rs (linear f))).high (4 * M)) ok in
      let below : (anywhere (bounds rs (linear f))).high < 4 * M = ltb-true _ (4 * M) parts.1 in
      let high : a ≤ (anywhere (bounds rs (linear f))).high = at-most (bounds rs (linear f)) refl in (
        eq-eqb (a % width) 0 (ap (λ x. x % width) has ∙ divides (form_value f xs) ∙ same-value width f (number 0) xs parts.0
            ∙ ap (λ x. x % width) (value-number 0 xs) ∙ zero-mod width),
        lt-ltb a (4 * M) (omega (arith, below, high)),
      )
    where
      at-most : (b : Option Bounds) → bounds rs (linear f) ≡ b → a ≤ (anywhere b).high
      at-most None is = let small : form_value f xs % 2 ^ 32 < 2 ^ 32 = mod-lt (form_value f xs) (omega arith) in omega (arith, small, has)
      at-most (Some b) is = (has-bounds queues rs xs (linear f) a b ranges is has).1

module _ (M : ℕ) (o : OpeningValue) (c : QueueCertificate) (h : ℕ) (xs : List ℕ) (k : KnownState) (s : HartState) (m : View) (cs : AllCounts) (e : Entry)
    (acts : ActsByCounts M o (length c.queues) (queue_at c) nobody_told nothing_sent h s m cs e) (size : 32 ≤ length s.registers)
    (fine : (j : ℕ) → j < length c.queues → IsQueue (queue_at c j) × TellsFull (queue_at c j) × ((queue_at c j).index_width ≤ 4))
    (means : MeansAt (queue_at c) (length c.queues) (own_of c h) h xs k s m cs) where
  operand-has : (r : Reg) → Has (queue_at c) xs (operand (queue_at c) k r) (register_value s.registers r)
  operand-has = steps.operand-has M o (queue_at c) (length c.queues) (own_of c) (length c.harts) h xs k s m cs e acts size fine means

  address-has : (r : Reg) (offset : ℤ) → Has (queue_at c) xs (address_value (queue_at c) k r offset) (address (register_value s.registers r) offset)
  address-has = steps.address-has M o (queue_at c) (length c.queues) (own_of c) (length c.harts) h xs k s m cs e acts size fine means

  access-goes : (place : KnownValue) (a width : ℕ) (n : Need) → Divides width → Has (queue_at c) xs place a
      → is_within_memory M (target k.ranges place width) ≡ true → KeepsGoing n → KeepsGoing (access_need s.words width a n)
  access-goes place a width n divides has ok keeps =
      let p = inside-memory (queue_at c) k.ranges xs means.ranges M place a width divides has ok in
      access-keeps s.words width a n p.0 (subst (λ w. nat_lt a (4 * w) ≡ true) (sym acts.words) p.1) keeps

  -- ---- jumps and calls

  here : (offset : ℤ) → may_be_target (address k.pc offset) ≡ true → KeepsGoing (jump_need (address s.pc offset))
  here offset ok = subst (λ pc. KeepsGoing (jump_need (address pc offset))) (sym means.pc) (jump-keeps (address k.pc offset) ok)

  jumps : (base : Option ℕ) (rs1 : Reg) (offset : ℤ) → as_number (operand (queue_at c) k rs1) ≡ base → jumps_to_target base offset ≡ true
      → KeepsGoing (jump_need (address (register_value s.registers rs1) offset / 2 * 2))
  jumps None rs1 offset is ok = absurd (cc)
  jumps (Some a) rs1 offset is ok = subst (λ x. KeepsGoing (jump_need (address x offset / 2 * 2)))
      (sym (known-is (queue_at c) xs (operand (queue_at c) k rs1) (register_value s.registers rs1) a is (operand-has rs1)))
      (jump-keeps (address a offset / 2 * 2) ok)

  calls : (number : Option ℕ) → call_in c k ≡ number → is_known_call number ≡ true → KeepsGoing (need_for s Ecall)
  calls None is ok = absurd (cc)
  calls (Some n) is ok = call-keeps s.registers s.inbox n
      (known-is (queue_at c) xs _ (slice_index s.registers 17) n is
      (has-plain (queue_at c) k.ranges xs means.ranges (get_or k.registers 17 any) (slice_index s.registers 17) (means.registers 17))) ok

  instruction-goes : (i : Instr) → goes_on M c k (Some i) ≡ true → KeepsGoing (need_for s i)
  instruction-goes (Jal rd offset) ok = here offset ok
  instruction-goes (Jalr rd rs1 offset) ok = jumps (as_number (operand (queue_at c) k rs1)) rs1 offset refl ok
  instruction-goes (Branch op rs1 rs2 offset) ok = either KeepsGoing (is_taken op (register_value s.registers rs1) (register_value s.registers rs2))
      (jump_need (address s.pc offset)) need.Inner (here offset ok) tt
  instruction-goes (Load op rd rs1 offset) ok = access-goes (address_value (queue_at c) k rs1 offset)
      (address (register_value s.registers rs1) offset) (load_width op)
      (need.Load (address (register_value s.registers rs1) offset) (load_width op)) (load-divides op) (address-has rs1 offset) ok tt
  instruction-goes (Store op rs1 rs2 offset) ok = access-goes (address_value (queue_at c) k rs1 offset)
      (address (register_value s.registers rs1) offset) (store_width op)
      (need.Store (address (register_value s.registers rs1) offset) (store_width op) (stored op (register_value s.registers rs2)))
      (store-divides op) (address-has rs1 offset) ok tt
  instruction-goes (Amo op rd rs1 rs2 aq rl) ok = access-goes (operand (queue_at c) k rs1) (register_value s.registers rs1) 4
      (need.Amo (register_value s.registers rs1) op (register_value s.registers rs2)) (store-divides store_op.Word) (operand-has rs1) ok tt
  instruction-goes Ecall ok = calls (call_in c k) refl ok
  instruction-goes Ebreak ok = absurd (cc)
  instruction-goes (Lui rd upper) ok = tt
  instruction-goes (Auipc rd upper) ok = tt
  instruction-goes (Immediate op rd rs1 n) ok = tt
  instruction-goes (Shift op rd rs1 amount) ok = tt
  instruction-goes (Register op rd rs1 rs2) ok = tt
  instruction-goes (Fence pred succ) ok = tt
  instruction-goes FenceTso ok = tt

  -- whatever the pc says
  pub leaf-goes : goes_on_at M c s.code k ≡ true → IsGoing s → KeepsGoing (need_of s)
  leaf-goes ok going = elim (or_cases (s.pc == 4 * length s.code) (goes_on M c k (instruction_at s.code s.pc))
      (subst (λ pc. ((pc == 4 * length s.code) || goes_on M c k (instruction_at s.code pc)) ≡ true) (sym means.pc) ok)) [
        | inl past ↦ absurd (going.inside acts.can.running (eqb-true s.pc (4 * length s.code) past))
        | inr goes ↦ by (nat_lt s.pc (4 * length s.code)) refl goes
      ]
    where
      says : (i : Option Instr) → s.pc < 4 * length s.code → meaning (slice_index s.code (s.pc / 4)) ≡ i → goes_on M c k i ≡ true
          → KeepsGoing (need_of s)
      says None within is goes = absurd (cc)
      says (Some i) within is goes = subst KeepsGoing (sym (need_at (record { inside = within; says = is }))) (instruction-goes i goes)

      by : (t : Bool) → nat_lt s.pc (4 * length s.code) ≡ t
          → goes_on M c k (if t then meaning (slice_index s.code (s.pc / 4)) else None) ≡ true → KeepsGoing (need_of s)
      by false out goes = absurd (cc)
      by true within goes = says (meaning (slice_index s.code (s.pc / 4))) (ltb-true s.pc (4 * length s.code) within) refl goes
