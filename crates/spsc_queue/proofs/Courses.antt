-- What both functions' outlines share: the lines, the course of a call so far, and where a call goes on or ends.
use Rattle.spsc_queue.proofs.Common.{ℕ, ◌+◌, ◌*◌, ◌/◌, ◌<◌, ◌≤◌, ◌≡◌, ◌≢◌, ◌==◌, ◌&&◌, ◌||◌, true, false, if◌then◌else◌, List, [], ◌∷◌, ◌++◌, length, sym, ◌∙◌}
use Rattle.spsc_queue.proofs.Common.{ap, subst, arith, slice_index, slice_set, eq-eqb, ne_eqb, HartState, Access, access_of, entry_of, Block, HasArguments}
use Rattle.spsc_queue.proofs.Common.{enters, is_in_call_after, completed_at, StandsIn, Listed, memory_access}
use Rattle.hart.specs.Steps.{need_of}
use Rattle.spsc_queue.specs.Calls.{Party}
use Rattle.spsc_queue.specs.CallEffects.{KeepsOtherRegisters, Returns}
use Rattle.spsc_queue.proofs.Registers.{set-other}

pub data At : Type 0 where
  at_00 : At
  at_04 : At
  at_08 : At
  at_0C : At
  at_10 : At
  at_14 : At
  at_18 : At
  at_1C : At
  at_20 : At
  at_24 : At
  at_28 : At
  at_2C : At
  at_30 : At
  at_34 : At
  at_38 : At
  at_3C : At
  at_40 : At

abbrev pub number : At → ℕ
number at_00 = 0
number at_04 = 1
number at_08 = 2
number at_0C = 3
number at_10 = 4
number at_14 = 5
number at_18 = 6
number at_1C = 7
number at_20 = 8
number at_24 = 9
number at_28 = 10
number at_2C = 11
number at_30 = 12
number at_34 = 13
number at_38 = 14
number at_3C = 15
number at_40 = 16

-- a hart that has a function in its code, as its opening left it
pub record Equipped (M n : ℕ) (listing : List Listed) (s : HartState) : Type 0 where
  pub code : StandsIn s.code n listing
  pub words : s.words ≡ M
  pub size : length s.registers ≡ 32
  pub zero : slice_index s.registers 0 ≡ 0

-- what a hart does in state s, where it reads v
abbrev pub moved : (h : ℕ) → HartState → (v : ℕ) → Access
moved h s v = access_of (entry_of h (need_of s) v)

-- a call so far: the state as it was entered, how many entries it has made, and its accesses to memory
pub record Course : Type 0 where
  pub entry : HartState
  pub count : ℕ
  pub did : List Access

abbrev pub went : Course → Access → Course
went c x = record { entry = c.entry; count = c.count + 1; did = c.did ++ memory_access x }

-- what holds of the registers x at most m entries after the entry: at first a0 is the block too
pub record Left (n : ℕ) (p : Party) (k : Block) (c : Course) (m : ℕ) (x : List ℕ) : Type 0 where
  pub args : HasArguments p n k c.entry
  pub kept : KeepsOtherRegisters c.entry.registers x
  pub count : c.count ≤ m

pub record Frame (n : ℕ) (p : Party) (k : Block) (c : Course) (m : ℕ) (x : List ℕ) : Type 0 where
  pub left : Left n p k c m x
  pub block : slice_index x 10 ≡ k.base

module _ {n : ℕ} {p : Party} {k : Block} {c : Course} {m : ℕ} {x : List ℕ} where
  -- one entry more, by which nothing is written, or one of the registers that may change
  pub left_on : (y : Access) → Left n p k c m x → Left n p k (went c y) (m + 1) x
  left_on y f = record { args = f.args; kept = f.kept; count = omega (arith, f.count) }

  pub left_set : (y : Access) (i v : ℕ) → ((j : ℕ) → j ≢ 5 → j ≢ 6 → j ≢ 7 → j ≢ 10 → j ≢ 11 → j ≢ i) → Left n p k c m x
      → Left n p k (went c y) (m + 1) (slice_set x i v)
  left_set y i v free f = record {
    args = f.args;
    kept = λ j a b d e g. set-other x i j v (free j a b d e g) ∙ f.kept j a b d e g;
    count = omega (arith, f.count);
  }

  pub frame_on : (y : Access) → Frame n p k c m x → Frame n p k (went c y) (m + 1) x
  frame_on y f = record { left = left_on y f.left; block = f.block }

  pub frame_set : (y : Access) (i v : ℕ) → ((j : ℕ) → j ≢ 5 → j ≢ 6 → j ≢ 7 → j ≢ 10 → j ≢ 11 → j ≢ i) → 10 ≢ i → Frame n p k c m x
      → Frame n p k (went c y) (m + 1) (slice_set x i v)
  frame_set y i v free ten f = record { left = left_set y i v free f.left; block = set-other x i 10 v ten ∙ f.block }

  pub more_left : {l : ℕ} → m ≤ l → Left n p k c m x → Left n p k c l x
  more_left le f = record { args = f.args; kept = f.kept; count = omega (arith, f.count, le) }

  pub more_frame : {l : ℕ} → m ≤ l → Frame n p k c m x → Frame n p k c l x
  more_frame le f = record { left = more_left le f.left; block = f.block }

  pub bytes_of : Left n p k c m x → slice_index x 12 ≡ 4 * k.size
  bytes_of f = f.kept 12 (λ e. omega arith) (λ e. omega arith) (λ e. omega arith) (λ e. omega arith) (λ e. omega arith) ∙ f.args.bytes

  pub back_of : Left n p k c m x → slice_index x 1 ≡ slice_index c.entry.registers 1
  back_of f = f.kept 1 (λ e. omega arith) (λ e. omega arith) (λ e. omega arith) (λ e. omega arith) (λ e. omega arith)

  -- a return
  pub returned : (most : ℕ) (z : HartState) → m < most → z.pc ≡ slice_index x 1 / 2 * 2 → z.registers ≡ x → Left n p k c m x
      → Returns most c.entry z (c.count + 1)
  returned most z le place same f = record {
    back = place ∙ ap (λ y. y / 2 * 2) (back_of f);
    registers = subst (KeepsOtherRegisters c.entry.registers) (sym same) f.kept;
    short = omega (arith, f.count, le);
  }

pub free_5 : (j : ℕ) → j ≢ 5 → j ≢ 6 → j ≢ 7 → j ≢ 10 → j ≢ 11 → j ≢ 5
free_5 j a b c d e = a

pub free_6 : (j : ℕ) → j ≢ 5 → j ≢ 6 → j ≢ 7 → j ≢ 10 → j ≢ 11 → j ≢ 6
free_6 j a b c d e = b

pub free_7 : (j : ℕ) → j ≢ 5 → j ≢ 6 → j ≢ 7 → j ≢ 10 → j ≢ 11 → j ≢ 7
free_7 j a b c d e = c

pub free_10 : (j : ℕ) → j ≢ 5 → j ≢ 6 → j ≢ 7 → j ≢ 10 → j ≢ 11 → j ≢ 10
free_10 j a b c d e = d

pub free_11 : (j : ℕ) → j ≢ 5 → j ≢ 6 → j ≢ 7 → j ≢ 10 → j ≢ 11 → j ≢ 11
free_11 j a b c d e = e

-- ---- whether the call goes on, and what it completes

module _ (n : ℕ) (k : Block) (s z : HartState) where
  is_at : (j i : ℕ) → s.pc ≡ 4 * (n + j) → j ≡ i → (s.pc == 4 * (n + i)) ≡ true
  is_at j i place same = eq-eqb s.pc (4 * (n + i)) (omega (arith, place, same))

  not_at : (j i : ℕ) → s.pc ≡ 4 * (n + j) → j ≢ i → (s.pc == 4 * (n + i)) ≡ false
  not_at j i place other = ne_eqb s.pc (4 * (n + i)) (λ e. other (omega (arith, place)))

  pub goes_on : (j : ℕ) → s.pc ≡ 4 * (n + j) → j ≢ 10 → j ≢ 12 → is_in_call_after n k true s z ≡ true
  goes_on j place ten twelve =
      ap (λ b. if b || (s.pc == 4 * (n + 12)) then enters n k z else true) (not_at j 10 place ten)
      ∙ ap (λ b. if b then enters n k z else true) (not_at j 12 place twelve)

  pub completes_none : (j : ℕ) → s.pc ≡ 4 * (n + j) → j ≢ 10 → j ≢ 12 → completed_at n true s ≡ []
  completes_none j place ten twelve =
      ap (λ b. if (b || (s.pc == 4 * (n + 12))) && (slice_index s.registers 10 == 1) then slice_index s.registers 11 ∷ [] else []) (not_at j 10 place ten)
      ∙ ap (λ b. if b && (slice_index s.registers 10 == 1) then slice_index s.registers 11 ∷ [] else []) (not_at j 12 place twelve)

  -- a return goes elsewhere
  leaves : (z.pc ≢ 4 * n) → enters n k z ≡ false
  leaves other = ap (λ b. b && (slice_index z.registers 10 == k.base)) (ne_eqb z.pc (4 * n) other)

  pub ends_10 : s.pc ≡ 4 * (n + 10) → z.pc ≢ 4 * n → is_in_call_after n k true s z ≡ false
  ends_10 place other = ap (λ b. if b || (s.pc == 4 * (n + 12)) then enters n k z else true) (is_at 10 10 place (omega arith)) ∙ leaves other

  pub ends_12 : s.pc ≡ 4 * (n + 12) → z.pc ≢ 4 * n → is_in_call_after n k true s z ≡ false
  ends_12 place other =
      ap (λ b. if b || (s.pc == 4 * (n + 12)) then enters n k z else true) (not_at 12 10 place (λ e. omega arith))
      ∙ ap (λ b. if b then enters n k z else true) (is_at 12 12 place (omega arith)) ∙ leaves other

  pub completes_one : s.pc ≡ 4 * (n + 10) → slice_index s.registers 10 ≡ 1 → completed_at n true s ≡ slice_index s.registers 11 ∷ []
  completes_one place one =
      ap (λ b. if (b || (s.pc == 4 * (n + 12))) && (slice_index s.registers 10 == 1) then slice_index s.registers 11 ∷ [] else [])
      (is_at 10 10 place (omega arith)) ∙ ap (λ b. if b then slice_index s.registers 11 ∷ [] else []) (eq-eqb (slice_index s.registers 10) 1 one)

  pub completes_no_word : s.pc ≡ 4 * (n + 12) → slice_index s.registers 10 ≡ 0 → completed_at n true s ≡ []
  completes_no_word place zero = grind (arith, slice_index, not_at, is_at, ne_eqb)
