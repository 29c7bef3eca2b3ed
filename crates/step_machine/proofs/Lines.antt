-- One line of a program: what a hart wants there, and the state that it leaves.
use Rattle.std.proofs.Common.{ℕ, ℤ, pos, negsuc, zero, suc, ◌+◌, ◌*◌, ◌/◌, ◌%◌, ◌^◌, ◌<◌, ◌≤◌, ◌≡◌, ◌≢◌, ◌==◌, ◌+ℤ◌, true, false, not, List, [], ◌∷◌, length}
use Rattle.std.proofs.Common.{Some, refl, add-zero, ◌∙◌, ap, arith}
use Rattle.std.specs.Prelude.{map, slice_index}
use Rattle.std.specs.List.{slice_get}
use Rattle.std.proofs.lemmas.Int.{ints}
use Rattle.std.proofs.lemmas.Bool.Decides.{nat_tests}
use Rattle.rv_decode.specs.Meaning.{meaning, reg_of}
use Rattle.rv_decode.specs.declared.instruction.Reg.{Reg}
use Rattle.rv_decode.specs.declared.instruction.BranchOp.TheVariants as branch
use Rattle.rv_decode.specs.declared.instruction.ImmediateOp.TheVariants as immediate
use Rattle.rv_decode.specs.declared.instruction.RegisterOp.TheVariants as register
use Rattle.rv_decode.specs.declared.instruction.LoadOp.TheVariants as load
use Rattle.rv_decode.specs.declared.instruction.StoreOp.TheVariants as store
use Rattle.rv_decode.specs.declared.instruction.Instr.{Instr}
use Rattle.rv_decode.specs.declared.instruction.Instr.TheVariants.{Jal, Jalr, Branch, Load, Store, Immediate, Register}
use Rattle.hart.specs.{HartState, register_value, register_written, next_pc, address, word, need_of, advanced, settled, jump_need}
use Rattle.hart.specs.declared.need.Need.{Need}
use Rattle.hart.specs.declared.need.Need.TheVariants as need
use Rattle.hart.proofs.Instructions.{IsAt, load_need, load_after, store_need, store_after, immediate_need, immediate_after, branch_on_need, branch_on_after}
use Rattle.hart.proofs.Instructions.{branch_taken_need, branch_taken_after, register_need, register_after, jal_need, jal_after, need_at, after-at}

-- a state, what it wants, and the state that it leaves when it reads v
pub record Line (s : HartState) (n : Need) (next : ℕ → HartState) : Type 0 where
  pub needs : need_of s ≡ n
  pub leaves : (v : ℕ) → advanced s v ≡ next v

-- a load and a store of a word
abbrev pub loads : ℕ → Need
loads a = need.Load a 4

abbrev pub stores : ℕ → ℕ → Need
stores a w = need.Store a 4 w

pub word-plus : (a k : ℕ) → a + k < 2 ^ 32 → word (pos a +ℤ pos k) ≡ a + k
word-plus a k h = omega (arith, ints)

pub word-minus : (a y : ℕ) → a ≡ y + 1 → y + 1 < 2 ^ 32 → word (pos a +ℤ negsuc 0) ≡ y
word-minus a y is small = grind (arith, pos, negsuc, ints, word-plus, add-zero)

-- a table of words that mean its lines has line j at 4 * j

at_in : (ws : List ℕ) (j : ℕ) (i : Instr) → slice_get (map meaning ws) j ≡ Some (Some i) → (j < length ws) × (meaning (slice_index ws j) ≡ Some i)
at_in [] j i is = cc
at_in (w ∷ ws) zero i is = (omega arith, let same : meaning w ≡ Some i = cc in same)
at_in (w ∷ ws) (suc j) i is = let more = at_in ws j i is in (omega (arith, more.0), more.1)

pub at_line : (s : HartState) (j : ℕ) {i : Instr} → s.pc ≡ 4 * j → slice_get (map meaning s.code) j ≡ Some (Some i) → IsAt s i
at_line s j pc is = grind (arith, at_in)

-- ---- a line by its instruction

abbrev pub goes_to : HartState → ℕ → HartState
goes_to s pc = settled (record s { pc = pc })

abbrev pub leaves_in : HartState → Reg → ℕ → HartState
leaves_in s rd n = settled (record s { registers = register_written s.registers rd n; pc = next_pc s.pc })

pub add_line : {s : HartState} {rd rs : Reg} {k : ℤ} {n : ℕ} → IsAt s (Immediate immediate.Add rd rs k)
    → word (pos (register_value s.registers rs) +ℤ k) ≡ n → Line s need.Inner (λ v. leaves_in s rd n)
add_line {s} {rd} {rs} {k} {n} at is = record { needs = immediate_need at; leaves = λ v. immediate_after at v ∙ ap (leaves_in s rd) is }

pub sum_line : {s : HartState} {rd a b : Reg} → IsAt s (Register register.Add rd a b)
    → register_value s.registers a + register_value s.registers b < 2 ^ 32
    → Line s need.Inner (λ v. leaves_in s rd (register_value s.registers a + register_value s.registers b))
sum_line {s} {rd} {a} {b} at small = grind (arith, register_need at, register_after at)

pub load_line : {s : HartState} {rd rs : Reg} {k : ℕ} → IsAt s (Load load.Word rd rs (pos k))
    → register_value s.registers rs % 4 ≡ 0 → k % 4 ≡ 0 → register_value s.registers rs + k < 4 * s.words → 4 * s.words ≤ 2 ^ 32
    → Line s (loads (register_value s.registers rs + k)) (λ v. leaves_in s rd v)
load_line {s} {rd} {rs} {k} at even whole below small = grind (arith, word-plus (register_value s.registers rs) k, load_need at, load_after at)

pub store_line : {s : HartState} {rs from : Reg} {k : ℕ} → IsAt s (Store store.Word rs from (pos k))
    → register_value s.registers rs % 4 ≡ 0 → k % 4 ≡ 0 → register_value s.registers rs + k < 4 * s.words → 4 * s.words ≤ 2 ^ 32
    → Line s (stores (register_value s.registers rs + k) (register_value s.registers from)) (λ v. goes_to s (next_pc s.pc))
store_line {s} {rs} {from} {k} at even whole below small = grind (arith, word-plus (register_value s.registers rs) k, store_need at, store_after at)

pub jump_line : {s : HartState} {k : ℤ} → IsAt s (Jal (reg_of 0) k) → address s.pc k % 4 ≡ 0 → Line s need.Inner (λ v. goes_to s (address s.pc k))
jump_line at aligned = record { needs = jal_need at aligned; leaves = λ v. jal_after at aligned v }

module _ {s : HartState} {a b : Reg} {k : ℤ} where
  pub same_jumps : IsAt s (Branch branch.Equal a b k) → register_value s.registers a ≡ register_value s.registers b
      → address s.pc k % 4 ≡ 0 → Line s need.Inner (λ v. goes_to s (address s.pc k))
  same_jumps at known aligned =
      let test : (register_value s.registers a == register_value s.registers b) ≡ true = grind (arith, nat_tests) in
      record { needs = branch_taken_need at test aligned; leaves = λ v. branch_taken_after at test aligned v ∙ rw test refl }

  pub other_goes_on : IsAt s (Branch branch.Equal a b k)
      → register_value s.registers a ≢ register_value s.registers b → Line s need.Inner (λ v. goes_to s (next_pc s.pc))
  other_goes_on at known =
      let test : (register_value s.registers a == register_value s.registers b) ≡ false = grind (arith, nat_tests) in
      record { needs = branch_on_need at test; leaves = λ v. branch_on_after at test v ∙ rw test refl }

  pub other_jumps : IsAt s (Branch branch.NotEqual a b k) → register_value s.registers a ≢ register_value s.registers b
      → address s.pc k % 4 ≡ 0 → Line s need.Inner (λ v. goes_to s (address s.pc k))
  other_jumps at known aligned =
      let test : (register_value s.registers a == register_value s.registers b) ≡ false = grind (arith, nat_tests) in
      record { needs = branch_taken_need at (ap not test) aligned; leaves = λ v. branch_taken_after at (ap not test) aligned v ∙ rw test refl }

  pub same_goes_on : IsAt s (Branch branch.NotEqual a b k)
      → register_value s.registers a ≡ register_value s.registers b → Line s need.Inner (λ v. goes_to s (next_pc s.pc))
  same_goes_on at known =
      let test : (register_value s.registers a == register_value s.registers b) ≡ true = grind (arith, nat_tests) in
      record { needs = branch_on_need at (ap not test); leaves = λ v. branch_on_after at (ap not test) v ∙ rw test refl }

-- a return: x0 stays, and the pc is x1, rounded down to a multiple of 2. A return to no multiple of 4 stops the hart
-- where it is
pub return_line : {s : HartState} → IsAt s (Jalr (reg_of 0) (reg_of 1) (pos 0)) → slice_index s.registers 1 < 2 ^ 32
    → slice_index s.registers 1 / 2 * 2 % 4 ≡ 0 → Line s need.Inner (λ v. goes_to s (slice_index s.registers 1 / 2 * 2))
return_line {s} at small aligned =
    let plus : word (pos (slice_index s.registers 1) +ℤ pos 0) ≡ slice_index s.registers 1 =
    word-plus (slice_index s.registers 1) 0 (omega (arith, small)) ∙ add-zero (slice_index s.registers 1) in
    let test : (slice_index s.registers 1 / 2 * 2 % 4 == 0) ≡ true = grind (arith, nat_tests) in
    let needs : need_of s ≡ need.Inner = need_at at ∙ ap (λ a. jump_need (a / 2 * 2)) plus ∙ rw test refl in
    record { needs = needs; leaves = λ v. after-at at need.Inner needs tt v ∙ ap (λ a. goes_to s (a / 2 * 2)) plus }
