-- Which access a hart's next instruction makes: the one that it says, or none of memory.
use Rattle.std.proofs.Common.{ℕ, ◌*◌, ◌/◌, ◌%◌, ◌≡◌, ◌==◌, ◌⊎◌, inl, inr, if◌then◌else◌, Bool, true, false, Option, Some, None, List, length, refl, sym, ◌∙◌}
use Rattle.std.proofs.Common.{ap, subst}
use Rattle.std.specs.Prelude.{nat_lt, slice_index}
use Rattle.std.specs.List.{slice_get}
use Rattle.std.proofs.lemmas.Bool.{ltb-true}
use Rattle.rv_decode.specs.Meaning.{meaning}
use Rattle.rv_decode.specs.declared.instruction.Instr.{Instr}
use Rattle.rv_decode.specs.declared.instruction.Instr.TheVariants.{Lui, Auipc, Jal, Jalr, Branch, Load, Store, Immediate, Shift, Register, Fence, FenceTso}
use Rattle.rv_decode.specs.declared.instruction.Instr.TheVariants.{Ecall, Ebreak, Amo}
use Rattle.memory.specs.Writes.{write}
use Rattle.hart.specs.{HartState, register_value, address, load_width, store_width, stored, updated, is_taken, need_of, need_for, advanced, jump_need}
use Rattle.hart.specs.{access_need, call_need}
use Rattle.hart.specs.declared.status.Stop.{Stop}
use Rattle.hart.specs.declared.status.Stop.TheVariants as stop
use Rattle.hart.specs.declared.status.Status.TheVariants as status
use Rattle.hart.specs.declared.need.Report.TheVariants as report
use Rattle.hart.specs.declared.need.Need.{Need}
use Rattle.hart.specs.declared.need.Need.TheVariants as need
use Rattle.hart.proofs.Instructions.{IsAt, need_at, illegal, stopped}
use Rattle.step_machine.specs.declared.events.Entry.{Entry}
use Rattle.step_machine.specs.Names.{Access, load, store, exchange, access_of, hart_of}
use Rattle.step_machine.specs.Paths.{number_read, entry_of, CanMake}
use Rattle.queue_certificates.specs.Steps.{instruction_at}
use Rattle.queue_certificates.proofs.Steps.{IsQuiet, no-code}

-- the access is this one, except where the hart stops
pub record Stops (y : Access) (z : HartState) : Type 0 where
  pub quiet : IsQuiet y
  pub ends : z.status ≡ status.Running → ⊥

abbrev pub Makes : (s : HartState) (v : ℕ) → Option Instr → Access → (z : HartState) → Type 0
Makes s v (Some (Load op rd rs1 offset)) y z = Stops y z ⊎ (y ≡ load (address (register_value s.registers rs1) offset) (load_width op) v)
Makes s v (Some (Store op rs1 rs2 offset)) y z = Stops y z
    ⊎ (y ≡ store (write (address (register_value s.registers rs1) offset) (store_width op) (stored op (register_value s.registers rs2))))
Makes s v (Some (Amo op rd rs1 rs2 aq rl)) y z = Stops y z
    ⊎ (y ≡ exchange (register_value s.registers rs1) v (updated op v (register_value s.registers rs2)))
Makes s v other y z = IsQuiet y

module _ (s : HartState) (e : Entry) (can : CanMake s e) where
  abbrev v : ℕ
  v = number_read e

  abbrev by-need : Need → Access
  by-need n = access_of (entry_of (hart_of e) n v)

  access-is : (n : Need) → need_of s ≡ n → access_of e ≡ by-need n
  access-is n needs = ap access_of can.made ∙ ap by-need needs

  quiet-as : (n : Need) → need_of s ≡ n → IsQuiet (by-need n) → IsQuiet (access_of e)
  quiet-as n needs quiet = subst IsQuiet (sym (access-is n needs)) quiet

  either-quiet : (t : Bool) (n m : Need) → IsQuiet (by-need n) → IsQuiet (by-need m) → IsQuiet (by-need (if t then n else m))
  either-quiet true n m one two = one
  either-quiet false n m one two = two

  jump-quiet : (target : ℕ) → IsQuiet (by-need (jump_need target))
  jump-quiet target = either-quiet (target % 4 == 0) need.Inner (need.Stop stop.MisalignedJump) tt tt

  call-quiet : (x inbox : List ℕ) → IsQuiet (by-need (call_need x inbox))
  call-quiet x inbox = either-quiet (slice_index x 17 == 1) (need.Next (slice_get inbox 0)) _ tt
      (either-quiet (slice_index x 17 == 2) (need.Report (report.Took (slice_index x 10) (slice_index x 11))) _ tt
      (either-quiet (slice_index x 17 == 3) (need.Report (report.Closed (slice_index x 10))) _ tt
      (either-quiet (slice_index x 17 == 93) need.Exit (need.Stop stop.UnknownCall) tt tt)))

  stops : (why : Stop) → need_of s ≡ need.Stop why → Stops (access_of e) (advanced s v)
  stops why needs = record {
    quiet = quiet-as (need.Stop why) needs tt;
    ends = λ runs. (let no : status.Stopped why ≡ status.Running = ap (λ z. z.status) (sym (stopped s why needs v)) ∙ runs in absurd (cc));
  }

  accesses : (width a : ℕ) (n : Need) → need_of s ≡ access_need s.words width a n → Stops (access_of e) (advanced s v) ⊎ (access_of e ≡ by-need n)
  accesses width a n needs = by (a % width == 0) needs
    where
      inside : (t : Bool) → need_of s ≡ (if t then n else need.Stop stop.OutOfRange) → Stops (access_of e) (advanced s v) ⊎ (access_of e ≡ by-need n)
      inside true needs = inr (access-is n needs)
      inside false needs = inl (stops stop.OutOfRange needs)

      by : (t : Bool) → need_of s ≡ (if t then (if nat_lt a (4 * s.words) then n else need.Stop stop.OutOfRange) else need.Stop stop.Misaligned)
          → Stops (access_of e) (advanced s v) ⊎ (access_of e ≡ by-need n)
      by true needs = inside (nat_lt a (4 * s.words)) needs
      by false needs = inl (stops stop.Misaligned needs)

  made-at : (i : Instr) → IsAt s i → Makes s v (Some i) (access_of e) (advanced s v)
  made-at (Load op rd rs1 offset) here = accesses (load_width op) (address (register_value s.registers rs1) offset)
      (need.Load (address (register_value s.registers rs1) offset) (load_width op)) (need_at here)
  made-at (Store op rs1 rs2 offset) here = accesses (store_width op) (address (register_value s.registers rs1) offset)
      (need.Store (address (register_value s.registers rs1) offset) (store_width op) (stored op (register_value s.registers rs2))) (need_at here)
  made-at (Amo op rd rs1 rs2 aq rl) here = accesses 4 (register_value s.registers rs1)
      (need.Amo (register_value s.registers rs1) op (register_value s.registers rs2)) (need_at here)
  made-at (Jal rd offset) here = quiet-as (need_for s (Jal rd offset)) (need_at here) (jump-quiet _)
  made-at (Jalr rd rs1 offset) here = quiet-as (need_for s (Jalr rd rs1 offset)) (need_at here) (jump-quiet _)
  made-at (Branch op rs1 rs2 offset) here = quiet-as (need_for s (Branch op rs1 rs2 offset)) (need_at here)
      (either-quiet (is_taken op (register_value s.registers rs1) (register_value s.registers rs2)) (jump_need (address s.pc offset)) need.Inner
      (jump-quiet (address s.pc offset)) tt)
  made-at Ecall here = quiet-as (need_for s Ecall) (need_at here) (call-quiet s.registers s.inbox)
  made-at (Lui rd upper) here = quiet-as (need_for s (Lui rd upper)) (need_at here) tt
  made-at (Auipc rd upper) here = quiet-as (need_for s (Auipc rd upper)) (need_at here) tt
  made-at (Immediate op rd rs1 n) here = quiet-as (need_for s (Immediate op rd rs1 n)) (need_at here) tt
  made-at (Shift op rd rs1 amount) here = quiet-as (need_for s (Shift op rd rs1 amount)) (need_at here) tt
  made-at (Register op rd rs1 rs2) here = quiet-as (need_for s (Register op rd rs1 rs2)) (need_at here) tt
  made-at (Fence pred succ) here = quiet-as (need_for s (Fence pred succ)) (need_at here) tt
  made-at FenceTso here = quiet-as (need_for s FenceTso) (need_at here) tt
  made-at Ebreak here = quiet-as (need_for s Ebreak) (need_at here) tt

  -- an instruction at the pc, which is there
  pub found-at : (i : Instr) → instruction_at s.code s.pc ≡ Some i → IsAt s i
  found-at i is = by (nat_lt s.pc (4 * length s.code)) refl is
    where
      by : (t : Bool) → nat_lt s.pc (4 * length s.code) ≡ t → (if t then meaning (slice_index s.code (s.pc / 4)) else None) ≡ Some i → IsAt s i
      by false out is = absurd (cc)
      by true within is = record { inside = ltb-true s.pc (4 * length s.code) within; says = is }

  pub next-access : Makes s v (instruction_at s.code s.pc) (access_of e) (advanced s v)
  next-access = by (nat_lt s.pc (4 * length s.code)) refl
    where
      by : (t : Bool) → nat_lt s.pc (4 * length s.code) ≡ t
          → Makes s v (if t then meaning (slice_index s.code (s.pc / 4)) else None) (access_of e) (advanced s v)
      by false out = (stops stop.NoCode (no-code s out)).quiet
      by true within = says (meaning (slice_index s.code (s.pc / 4))) refl
        where
          says : (i : Option Instr) → meaning (slice_index s.code (s.pc / 4)) ≡ i → Makes s v i (access_of e) (advanced s v)
          says None none = (stops stop.Illegal (illegal s (ltb-true s.pc (4 * length s.code) within) none)).quiet
          says (Some i) said = made-at i (record { inside = ltb-true s.pc (4 * length s.code) within; says = said })
