-- What an instruction that doesn't stop its hart makes of it: it goes on, and unless it makes the exit call or comes to just past its code, it runs on.
use Rattle.std.proofs.Common.{ℕ, ◌*◌, ◌%◌, ◌≡◌, ◌==◌, ◌||◌, if◌then◌else◌, Bool, true, false, Option, Some, None, List, length, refl, sym, ◌∙◌, subst, ◌<◌, ◌⊎◌}
use Rattle.std.proofs.Common.{not, inl, inr, ap}
use Rattle.std.specs.Prelude.{nat_lt, slice_index, drop}
use Rattle.std.specs.List.{slice_get}
use Rattle.std.proofs.lemmas.Bool.{eqb-false, ne_eqb, ltb-true}
use Rattle.rv_decode.specs.declared.instruction.Instr.{Instr}
use Rattle.hart.specs.{HartState, written_at, next_pc, registers_after, pc_after, register_value, address, is_taken, stored, load_width, store_width, need_of}
use Rattle.hart.specs.{advanced, advanced_by, after_meaning, fetched, settled, jump_need, access_need, call_need, need_for}
use Rattle.hart.specs.declared.status.Stop.{Stop}
use Rattle.hart.specs.declared.status.Stop.TheVariants as stop
use Rattle.hart.specs.declared.status.Status.TheVariants as status
use Rattle.hart.specs.declared.need.Report.TheVariants as report
use Rattle.hart.specs.declared.need.Need.{Need}
use Rattle.hart.specs.declared.need.Need.TheVariants as need
use Rattle.hart.proofs.Advances.{advanced-as}
use Rattle.hart_safety.specs.Stops.{is_known_call}
use Rattle.rv_decode.specs.declared.instruction.Instr.TheVariants.{Jal, Jalr, Branch, Load, Store, Ecall, Amo}
use Rattle.hart.specs.declared.need.Report.{Report}
use Rattle.hart.proofs.Instructions.{IsAt, IsPlain, need_at, after-at, illegal}
use Rattle.queue_certificates.proofs.Steps.{no-code}
use Rattle.hart_safety.specs.Ends.{is_no_exit}

-- ---- what an instruction needs, by the tests that it makes

pub either : (P : Need → Type 0) (t : Bool) (n m : Need) → P n → P m → P (if t then n else m)
either P true n m one two = one
either P false n m one two = two

-- it doesn't stop the hart
abbrev pub KeepsGoing : Need → Type 0
KeepsGoing (need.Stop why) = ⊥
KeepsGoing n = Unit {0}

pub jump-keeps : (target : ℕ) → (target % 4 == 0) ≡ true → KeepsGoing (jump_need target)
jump-keeps target aligned = subst (λ t. KeepsGoing (if t then need.Inner else need.Stop stop.MisalignedJump)) (sym aligned) tt

pub access-keeps : (words width a : ℕ) (n : Need) → (a % width == 0) ≡ true → nat_lt a (4 * words) ≡ true → KeepsGoing n
    → KeepsGoing (access_need words width a n)
access-keeps words width a n aligned below keeps =
    subst (λ t. KeepsGoing (if t then (if nat_lt a (4 * words) then n else need.Stop stop.OutOfRange) else need.Stop stop.Misaligned)) (sym aligned)
    (subst (λ t. KeepsGoing (if t then n else need.Stop stop.OutOfRange)) (sym below) keeps)

pub call-keeps : (x inbox : List ℕ) (n : ℕ) → slice_index x 17 ≡ n → is_known_call (Some n) ≡ true → KeepsGoing (call_need x inbox)
call-keeps x inbox n is known = by (slice_index x 17 == 1) (slice_index x 17 == 2) (slice_index x 17 == 3) (slice_index x 17 == 93)
    (subst (λ i. is_known_call (Some i) ≡ true) (sym is) known)
  where
    by : (one two three last : Bool) → (one || two || three || last) ≡ true
        → KeepsGoing (if one then need.Next (slice_get inbox 0) else
        (if two then need.Report (report.Took (slice_index x 10) (slice_index x 11)) else
        (if three then need.Report (report.Closed (slice_index x 10)) else (if last then need.Exit else need.Stop stop.UnknownCall))))
    by true two three last some = tt
    by false true three last some = tt
    by false false true last some = tt
    by false false false true some = tt
    by false false false false some = absurd (cc)

-- ---- states

-- it isn't stopped, and if it runs, it isn't just past its code
pub record IsGoing (s : HartState) : Type 0 where
  pub unstopped : (why : Stop) → s.status ≡ status.Stopped why → ⊥
  pub inside : s.status ≡ status.Running → s.pc ≡ 4 * length s.code → ⊥

pub settled-going : (z : HartState) → z.status ≡ status.Running → IsGoing (settled z)
settled-going z runs = by (z.pc == 4 * length z.code) refl
  where
    by : (t : Bool) → (z.pc == 4 * length z.code) ≡ t → IsGoing (record z { status = if t then status.Ended else z.status })
    by true past = record {
      unstopped = λ why is. (let no : status.Ended ≡ status.Stopped why = is in cc);
      inside = λ is. (let no : status.Ended ≡ status.Running = is in cc);
    }
    by false within = record {
      unstopped = λ why is. (let no : status.Running ≡ status.Stopped why = sym runs ∙ is in cc);
      inside = λ is at. eqb-false z.pc (4 * length z.code) within at;
    }

module _ (s : HartState) (runs : s.status ≡ status.Running) (going : IsGoing s) where
  after-going : (v : ℕ) (o : Option Instr) → IsGoing (after_meaning s v o)
  after-going v None = going
  after-going v (Some i) = settled-going (record s { registers = registers_after i s.registers s.pc v; pc = pc_after i s.registers s.pc }) runs

  by-need : (n : Need) (v : ℕ) → KeepsGoing n → IsGoing (advanced_by s n v)
  by-need (need.Stop why) v keeps = absurd keeps
  by-need (need.Next None) v keeps = settled-going (record s { registers = written_at s.registers 11 0; pc = next_pc s.pc }) runs
  by-need (need.Next (Some w)) v keeps = settled-going
      (record s { registers = written_at (written_at s.registers 10 w) 11 1; inbox = drop 1 s.inbox; pc = next_pc s.pc }) runs
  by-need (need.Report r) v keeps = settled-going (record s { pc = next_pc s.pc }) runs
  by-need need.Exit v keeps = record {
    unstopped = λ why is. (let no : status.Ended ≡ status.Stopped why = is in cc);
    inside = λ is. (let no : status.Ended ≡ status.Running = is in cc);
  }
  by-need need.Inner v keeps = after-going v (fetched s)
  by-need (need.Load a width) v keeps = after-going v (fetched s)
  by-need (need.Store a width w) v keeps = after-going v (fetched s)
  by-need (need.Amo a op w) v keeps = after-going v (fetched s)
  by-need (need.Fence full) v keeps = after-going v (fetched s)

  pub next-going : (v : ℕ) → KeepsGoing (need_of s) → IsGoing (advanced s v)
  next-going v keeps = subst IsGoing (sym (advanced-as s (need_of s) v refl)) (by-need (need_of s) v keeps)

-- ---- running on

-- a hart that isn't stopped is at an instruction
pub at-instruction : (s : HartState) → KeepsGoing (need_of s) → (i : Instr) × IsAt s i
at-instruction s keeps = by (nat_lt s.pc (4 * length s.code)) refl
  where
    said : s.pc < 4 * length s.code → (i : Option Instr) → fetched s ≡ i → (i : Instr) × IsAt s i
    said within None none = absurd (subst KeepsGoing (illegal s within none) keeps)
    said within (Some i) is = (i, record { inside = within; says = is })

    by : (t : Bool) → nat_lt s.pc (4 * length s.code) ≡ t → (i : Instr) × IsAt s i
    by false out = absurd (subst KeepsGoing (no-code s out) keeps)
    by true within = said (ltb-true s.pc (4 * length s.code) within) (fetched s) refl

-- it comes of a state with this code and this pc, in which the hart runs
pub record Settles (z : HartState) (code : List ℕ) (pc : ℕ) : Type 0 where
  pub before : HartState
  pub is : z ≡ settled before
  pub runs : before.status ≡ status.Running
  pub code_is : before.code ≡ code
  pub pc_is : before.pc ≡ pc

pub runs-inside : (z : HartState) (code : List ℕ) (pc : ℕ) → Settles z code pc → (pc ≡ 4 * length code → ⊥) → z.status ≡ status.Running
runs-inside z code pc w inside = ap (λ y. y.status) w.is
    ∙ ap (λ t. if t then status.Ended else w.before.status) (ne_eqb w.before.pc (4 * length w.before.code)
    (λ at. inside (sym w.pc_is ∙ at ∙ ap (λ ws. 4 * length ws) w.code_is))) ∙ w.runs

-- ---- an instruction that is no call changes registers and pc alone, or stops its hart

abbrev IsPlainOrStop : Need → Type 0
IsPlainOrStop (need.Stop why) = Unit {0}
IsPlainOrStop n = IsPlain n

plain-of : (n : Need) → IsPlainOrStop n → KeepsGoing n → IsPlain n
plain-of (need.Stop why) is keeps = absurd keeps
plain-of n is keeps = is

jump : (target : ℕ) → IsPlainOrStop (jump_need target)
jump target = either IsPlainOrStop (target % 4 == 0) need.Inner (need.Stop stop.MisalignedJump) tt tt

access : (words width a : ℕ) (n : Need) → IsPlainOrStop n → IsPlainOrStop (access_need words width a n)
access words width a n is = either IsPlainOrStop (a % width == 0) (if nat_lt a (4 * words) then n else need.Stop stop.OutOfRange)
    (need.Stop stop.Misaligned) (either IsPlainOrStop (nat_lt a (4 * words)) n (need.Stop stop.OutOfRange) is tt) tt

plain-or-stop : (s : HartState) (i : Instr) → (i ≡ Ecall) ⊎ IsPlainOrStop (need_for s i)
plain-or-stop s (Jal rd offset) = inr (jump (address s.pc offset))
plain-or-stop s (Jalr rd rs1 offset) = inr (jump (pc_after (Jalr rd rs1 offset) s.registers s.pc))
plain-or-stop s (Branch op rs1 rs2 offset) = inr (either IsPlainOrStop (is_taken op (register_value s.registers rs1) (register_value s.registers rs2))
    (jump_need (address s.pc offset)) need.Inner (jump (address s.pc offset)) tt)
plain-or-stop s (Load op rd rs1 offset) = inr (access s.words (load_width op) (address (register_value s.registers rs1) offset)
    (need.Load (address (register_value s.registers rs1) offset) (load_width op)) tt)
plain-or-stop s (Store op rs1 rs2 offset) = inr (access s.words (store_width op) (address (register_value s.registers rs1) offset)
    (need.Store (address (register_value s.registers rs1) offset) (store_width op) (stored op (register_value s.registers rs2))) tt)
plain-or-stop s (Amo op rd rs1 rs2 aq rl) = inr (access s.words 4 (register_value s.registers rs1)
    (need.Amo (register_value s.registers rs1) op (register_value s.registers rs2)) tt)
plain-or-stop s Ecall = inl refl
plain-or-stop s i = inr tt

module _ (s : HartState) (runs : s.status ≡ status.Running) (keeps : KeepsGoing (need_of s)) (v : ℕ) where
  -- ---- a call

  gives : (w : Option ℕ) → need_of s ≡ need.Next w → Settles (advanced s v) s.code (next_pc s.pc)
  gives None needs = record {
    before = record s { registers = written_at s.registers 11 0; pc = next_pc s.pc };
    is = advanced-as s (need.Next None) v needs;
    runs = runs;
    code_is = refl;
    pc_is = refl;
  }
  gives (Some w) needs = record {
    before = record s { registers = written_at (written_at s.registers 10 w) 11 1; inbox = drop 1 s.inbox; pc = next_pc s.pc };
    is = advanced-as s (need.Next (Some w)) v needs;
    runs = runs;
    code_is = refl;
    pc_is = refl;
  }

  reports : (r : Report) → need_of s ≡ need.Report r → Settles (advanced s v) s.code (next_pc s.pc)
  reports r needs = record {
    before = record s { pc = next_pc s.pc };
    is = advanced-as s (need.Report r) v needs;
    runs = runs;
    code_is = refl;
    pc_is = refl;
  }

  calls : IsAt s Ecall → is_no_exit (Some (slice_index s.registers 17)) ≡ true → Settles (advanced s v) s.code (next_pc s.pc)
  calls at = by (slice_index s.registers 17 == 1) (slice_index s.registers 17 == 2) (slice_index s.registers 17 == 3) (slice_index s.registers 17 == 93)
      (need_at at)
    where
      by : (one two three last : Bool) → need_of s ≡ (if one then need.Next (slice_get s.inbox 0) else
          (if two then need.Report (report.Took (slice_index s.registers 10) (slice_index s.registers 11)) else
          (if three then need.Report (report.Closed (slice_index s.registers 10)) else (if last then need.Exit else need.Stop stop.UnknownCall))))
          → not last ≡ true → Settles (advanced s v) s.code (next_pc s.pc)
      by true two three last needs goes = gives (slice_get s.inbox 0) needs
      by false true three last needs goes = reports (report.Took (slice_index s.registers 10) (slice_index s.registers 11)) needs
      by false false true last needs goes = reports (report.Closed (slice_index s.registers 10)) needs
      by false false false true needs goes = absurd (cc)
      by false false false false needs goes = absurd (subst KeepsGoing needs keeps)

  -- ---- any instruction

  pub settles : (i : Instr) → IsAt s i → (i ≡ Ecall → is_no_exit (Some (slice_index s.registers 17)) ≡ true)
      → Settles (advanced s v) s.code (pc_after i s.registers s.pc)
  settles i at no_exit = elim (plain-or-stop s i) [
    | inl call ↦ subst (λ j. Settles (advanced s v) s.code (pc_after j s.registers s.pc)) (sym call) (calls (subst (IsAt s) call at) (no_exit call))
    | inr plain ↦ record {
      before = record s { registers = registers_after i s.registers s.pc v; pc = pc_after i s.registers s.pc };
      is = after-at at (need_of s) refl (plain-of (need_of s) (subst IsPlainOrStop (sym (need_at at)) plain) keeps) v;
      runs = runs;
      code_is = refl;
      pc_is = refl;
    }
  ]
