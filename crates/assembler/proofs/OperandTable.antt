-- The table of operands: what is made of a list of them is what the grammar says.
use Rattle.std.proofs.Common.{◌≡◌, ℕ, true, false, List, [], ◌∷◌, length, Ok, refl, sym, subst}
use Rattle.texts.specs.{capped_value, magnitude, integer}
use Rattle.texts.proofs.ResultLaws.{ok_is, bind_ok}
use Rattle.rv_decode.specs.declared.instruction.Instr.TheVariants as instr
use Rattle.assembler.specs.{AsmFault, Form, Jalr, Fence, FenceTso, Ecall, Ebreak, set_named, Made, one, Maker, operand_row, read_operands, statement_of}
use Rattle.assembler.specs.{is_pair, AreSpelled, Makes}
use Rattle.rv_decode.specs.Registers.{register_named}
use Rattle.assembler.specs.Operands.{OperandKind, register, short, address, set, OperandValue, value_in}
use Rattle.assembler.proofs.OperandLaws.{operand_found, operand_only}

-- ---- an operand of each kind

none_in_empty : (kind : OperandKind) (x : OperandValue kind) → value_in kind [] ≡ Ok x → ⊥
unfolding register_named set_named magnitude integer capped_value
none_in_empty register x e = cc
none_in_empty kind x e = cc

-- ---- operands of such kinds

kinds_found : (kinds : List OperandKind) (make : Maker kinds) (list : List (List ℕ)) (made : Made)
    → read_operands kinds make list ≡ Ok made → AreSpelled kinds make list made
kinds_found [] make [] made e = (refl, sym (ok_is AsmFault make made e))
kinds_found (kind ∷ kinds) make (a ∷ rest) made e =
    let x = bind_ok (value_in kind a) (λ v. read_operands kinds (make v) rest) made e in
    (a, rest, x.0, refl, operand_found kind a x.0 x.1, kinds_found kinds (make x.0) rest made x.2)
kinds_found x make y made e = absurd cc

kinds_only : (kinds : List OperandKind) (make : Maker kinds) (list : List (List ℕ)) (made : Made)
    → AreSpelled kinds make list made → read_operands kinds make list ≡ Ok made
kinds_only [] make list made (none, is) = rw (none, is) refl
kinds_only (kind ∷ kinds) make list made (operand, others, x, same, says, more) =
    rw same (rw (operand_only kind operand x says) (kinds_only kinds (make x) others made more))

kinds_some : (kinds : List OperandKind) (make : Maker kinds) (made : Made) → read_operands kinds make ([] ∷ []) ≡ Ok made → ⊥
kinds_some [] make made e = cc
kinds_some (kind ∷ kinds) make made e = let x = bind_ok (value_in kind []) (λ v. read_operands kinds (make v) []) made e in none_in_empty kind x.0 x.1

-- ---- operands of a mnemonic

-- what is made of a list of operands is what the table says
pub found_makes : (form : Form) (list : List (List ℕ)) (made : Made) → statement_of form list ≡ Ok made → Makes form list made
found_makes form list made e = kinds_found (operand_row form (length list)).kinds (operand_row form (length list)).make list made e

-- and what the table says is made
pub only_makes : (form : Form) (list : List (List ℕ)) (made : Made) → Makes form list made → statement_of form list ≡ Ok made
only_makes form list made is = kinds_only (operand_row form (length list)).kinds (operand_row form (length list)).make list made is

-- an empty text is no operand
pub makes_of_empty : (form : Form) (made : Made) → statement_of form ([] ∷ []) ≡ Ok made → ⊥
makes_of_empty form made e = kinds_some (operand_row form 1).kinds (operand_row form 1).make made e

-- ---- rows of the table

pub fence_tso_alone : (list : List (List ℕ)) → statement_of FenceTso list ≡ read_operands [] (one instr.FenceTso) list
unfolding operand_row
fence_tso_alone list = refl

pub ecall_alone : (list : List (List ℕ)) → statement_of Ecall list ≡ read_operands [] (one instr.Ecall) list
unfolding operand_row
ecall_alone list = refl

pub ebreak_alone : (list : List (List ℕ)) → statement_of Ebreak list ≡ read_operands [] (one instr.Ebreak) list
unfolding operand_row
ebreak_alone list = refl

pub fence_alone : (list : List (List ℕ)) → list ≡ [] → statement_of Fence list ≡ Ok (one (instr.Fence 15 15))
unfolding operand_row
fence_alone list e = subst (λ (l : List (List ℕ)). statement_of Fence l ≡ Ok (one (instr.Fence 15 15))) (sym e) refl

pub fence_sets : (list : List (List ℕ)) (a : List ℕ) (others : List (List ℕ)) → list ≡ a ∷ others
    → statement_of Fence list ≡ read_operands (set ∷ set ∷ []) (λ pred succ. one (instr.Fence pred succ)) list
unfolding operand_row
fence_sets list a others e = subst
    (λ (l : List (List ℕ)). statement_of Fence l ≡ read_operands (set ∷ set ∷ []) (λ pred succ. one (instr.Fence pred succ)) l)
    (sym e) refl

pub jalr_pair : (list : List (List ℕ)) → is_pair list ≡ true
    → statement_of Jalr list ≡ read_operands (register ∷ address ∷ []) (λ rd at. one (instr.Jalr rd at.0 at.1)) list
unfolding operand_row
jalr_pair (a ∷ b ∷ []) e = refl
jalr_pair x e = absurd cc

pub jalr_other : (list : List (List ℕ)) → is_pair list ≡ false
    → statement_of Jalr list ≡ read_operands (register ∷ register ∷ short ∷ []) (λ rd rs1 n. one (instr.Jalr rd rs1 n)) list
unfolding operand_row
jalr_other (a ∷ b ∷ []) e = absurd cc
jalr_other x e = refl
