-- An instruction has one plain word at most.
use Rattle.std.proofs.Common.{◌≡◌, ℕ, ◌+◌, ◌*◌, ◌/◌, ◌^◌, ◌<◌, List, [], ◌∷◌, sym, ap, ◌∙◌, arith}
use Rattle.std.proofs.lemmas.Int.{ints}
use Rattle.std.proofs.lemmas.Nat.{shr-shr, shr_split}
use Rattle.rv_decode.specs.{field, imm_i, imm_s, imm_b, imm_j, IsPlainWord, Instr, Lui, Auipc, Jal, Jalr, Branch, Load, Store, Immediate, Shift, Register}
use Rattle.rv_decode.specs.{Fence, FenceTso, Ecall, Ebreak, Amo}

-- ---- words with the same fields are one

cut : (w lo k : ℕ) → w / 2 ^ lo ≡ w / 2 ^ (lo + k) * 2 ^ k + field w lo k
cut w lo k = sym (shr_split (w / 2 ^ lo) k) ∙ ap (λ high. high * 2 ^ k + field w lo k) (shr-shr w lo k)

same_above : (a b lo k : ℕ) → field a lo k ≡ field b lo k → a / 2 ^ (lo + k) ≡ b / 2 ^ (lo + k) → a / 2 ^ lo ≡ b / 2 ^ lo
same_above a b lo k low high =
    let left = cut a lo k in
    let right = cut b lo k in
    cc

-- the fields of these widths, from bit lo up, are the same
abbrev SameFields : (lo : ℕ) → List ℕ → (a b : ℕ) → Type 0
SameFields lo [] a b = a / 2 ^ lo ≡ b / 2 ^ lo
SameFields lo (k ∷ widths) a b = (field a lo k ≡ field b lo k) × SameFields (lo + k) widths a b

same_from : (lo : ℕ) (widths : List ℕ) (a b : ℕ) → SameFields lo widths a b → a / 2 ^ lo ≡ b / 2 ^ lo
same_from lo [] a b same = same
same_from lo (k ∷ widths) a b same = same_above a b lo k same.0 (same_from (lo + k) widths a b same.1)

-- no bit is left from 32 on
nothing_above : (a b : ℕ) → a < 2 ^ 32 → b < 2 ^ 32 → a / 2 ^ 32 ≡ b / 2 ^ 32
nothing_above a b small_a small_b = omega arith

same_word : (widths : List ℕ) (a b : ℕ) → SameFields 0 widths a b → a ≡ b
same_word widths a b same = let e = same_from 0 widths a b same in omega arith

-- ---- words with the same immediate have the same fields of it

same_imm_i : (a b : ℕ) → imm_i a ≡ imm_i b → (field a 20 11 ≡ field b 20 11) × (field a 31 1 ≡ field b 31 1)
same_imm_i a b e = (omega (arith, ints), omega (arith, ints))

same_imm_s : (a b : ℕ) → imm_s a ≡ imm_s b → (field a 7 5 ≡ field b 7 5) × (field a 25 6 ≡ field b 25 6) × (field a 31 1 ≡ field b 31 1)
same_imm_s a b e = (omega (arith, ints), omega (arith, ints), omega (arith, ints))

same_imm_b : (a b : ℕ) → imm_b a ≡ imm_b b
    → (field a 7 1 ≡ field b 7 1) × (field a 8 4 ≡ field b 8 4) × (field a 25 6 ≡ field b 25 6)
    × (field a 31 1 ≡ field b 31 1)
same_imm_b a b e = (omega (arith, ints), omega (arith, ints), omega (arith, ints), omega (arith, ints))

same_imm_j : (a b : ℕ) → imm_j a ≡ imm_j b
    → (field a 12 8 ≡ field b 12 8) × (field a 20 1 ≡ field b 20 1) × (field a 21 10 ≡ field b 21 10)
    × (field a 31 1 ≡ field b 31 1)
same_imm_j a b e = (omega (arith, ints), omega (arith, ints), omega (arith, ints), omega (arith, ints))

-- two fields, each of which a third number determines
meet : {A : Type 0} {x y z : A} → x ≡ z → y ≡ z → x ≡ y
meet p q = p ∙ sym q

join : {A : Type 0} {x y z : A} → z ≡ x → z ≡ y → x ≡ y
join p q = sym p ∙ q

pub one_plain_word : (i : Instr) (a b : ℕ) → IsPlainWord a i → IsPlainWord b i → a ≡ b
one_plain_word (Lui rd upper) a b (fa, m, p) (fb, n, q) =
    same_word (7 ∷ 5 ∷ 20 ∷ []) a b (meet m.0 n.0, (join m.1 n.1, (join m.2 n.2, nothing_above a b fa fb)))
one_plain_word (Auipc rd upper) a b (fa, m, p) (fb, n, q) =
    same_word (7 ∷ 5 ∷ 20 ∷ []) a b (meet m.0 n.0, (join m.1 n.1, (join m.2 n.2, nothing_above a b fa fb)))
one_plain_word (Jal rd offset) a b (fa, m, p) (fb, n, q) =
    let imm = same_imm_j a b (join m.2 n.2) in
    same_word (7 ∷ 5 ∷ 8 ∷ 1 ∷ 10 ∷ 1 ∷ []) a b (meet m.0 n.0, (join m.1 n.1, (imm.0, (imm.1, (imm.2, (imm.3, nothing_above a b fa fb))))))
one_plain_word (Jalr rd rs1 offset) a b (fa, m, p) (fb, n, q) =
    let imm = same_imm_i a b (join m.4 n.4) in
    same_word (7 ∷ 5 ∷ 3 ∷ 5 ∷ 11 ∷ 1 ∷ []) a b (meet m.0 n.0, (join m.2 n.2, (meet m.1 n.1, (join m.3 n.3, (imm.0, (imm.1, nothing_above a b fa fb))))))
one_plain_word (Branch op rs1 rs2 offset) a b (fa, m, p) (fb, n, q) =
    let imm = same_imm_b a b (join m.4 n.4) in
    same_word (7 ∷ 1 ∷ 4 ∷ 3 ∷ 5 ∷ 5 ∷ 6 ∷ 1 ∷ []) a b (
      meet m.0 n.0,
      (imm.0, (imm.1, (meet m.1 n.1, (join m.2 n.2, (join m.3 n.3, (imm.2, (imm.3, nothing_above a b fa fb))))))),
    )
one_plain_word (Load op rd rs1 offset) a b (fa, m, p) (fb, n, q) =
    let imm = same_imm_i a b (join m.4 n.4) in
    same_word (7 ∷ 5 ∷ 3 ∷ 5 ∷ 11 ∷ 1 ∷ []) a b (meet m.0 n.0, (join m.2 n.2, (meet m.1 n.1, (join m.3 n.3, (imm.0, (imm.1, nothing_above a b fa fb))))))
one_plain_word (Store op rs1 rs2 offset) a b (fa, m, p) (fb, n, q) =
    let imm = same_imm_s a b (join m.4 n.4) in
    same_word (7 ∷ 5 ∷ 3 ∷ 5 ∷ 5 ∷ 6 ∷ 1 ∷ []) a b (
      meet m.0 n.0,
      (imm.0, (meet m.1 n.1, (join m.2 n.2, (join m.3 n.3, (imm.1, (imm.2, nothing_above a b fa fb)))))),
    )
one_plain_word (Immediate op rd rs1 value) a b (fa, m, p) (fb, n, q) =
    let imm = same_imm_i a b (join m.4 n.4) in
    same_word (7 ∷ 5 ∷ 3 ∷ 5 ∷ 11 ∷ 1 ∷ []) a b (meet m.0 n.0, (join m.2 n.2, (meet m.1 n.1, (join m.3 n.3, (imm.0, (imm.1, nothing_above a b fa fb))))))
one_plain_word (Shift op rd rs1 amount) a b (fa, m, p) (fb, n, q) =
    same_word (7 ∷ 5 ∷ 3 ∷ 5 ∷ 5 ∷ 7 ∷ []) a b (
      meet m.0 n.0,
      (join m.3 n.3, (meet m.1 n.1, (join m.4 n.4, (join m.5 n.5, (meet m.2 n.2, nothing_above a b fa fb))))),
    )
one_plain_word (Register op rd rs1 rs2) a b (fa, m, p) (fb, n, q) =
    same_word (7 ∷ 5 ∷ 3 ∷ 5 ∷ 5 ∷ 7 ∷ []) a b (
      meet m.0 n.0,
      (join m.3 n.3, (meet m.1 n.1, (join m.4 n.4, (join m.5 n.5, (meet m.2 n.2, nothing_above a b fa fb))))),
    )
one_plain_word (Fence pred succ) a b (fa, m, p) (fb, n, q) =
    same_word (7 ∷ 5 ∷ 3 ∷ 5 ∷ 4 ∷ 4 ∷ 4 ∷ []) a b (
      meet m.0 n.0,
      (
        meet p.1 q.1,
        (meet m.1 n.1, (meet p.2 q.2, (join m.4 n.4, (join m.3 n.3, (meet p.0 q.0, nothing_above a b fa fb))))),
      ),
    )
one_plain_word FenceTso a b (fa, m, p) (fb, n, q) =
    same_word (7 ∷ 5 ∷ 3 ∷ 5 ∷ 4 ∷ 4 ∷ 4 ∷ []) a b (
      meet m.0 n.0,
      (
        meet p.0 q.0,
        (
          meet m.1 n.1,
          (meet p.1 q.1, (meet m.2.2 n.2.2, (meet m.2.1 n.2.1, (meet m.2.0 n.2.0, nothing_above a b fa fb)))),
        ),
      ),
    )
one_plain_word Ecall a b (fa, m, p) (fb, n, q) = meet m n
one_plain_word Ebreak a b (fa, m, p) (fb, n, q) = meet m n
one_plain_word (Amo op rd rs1 rs2 aq rl) a b (fa, m, p) (fb, n, q) =
    same_word (7 ∷ 5 ∷ 3 ∷ 5 ∷ 5 ∷ 1 ∷ 1 ∷ 5 ∷ []) a b (
      meet m.0 n.0,
      (
        join m.3 n.3,
        (
          meet m.1 n.1,
          (join m.4 n.4, (join m.5 n.5, (meet m.7 n.7, (meet m.6 n.6, (meet m.2 n.2, nothing_above a b fa fb))))),
        ),
      ),
    )
