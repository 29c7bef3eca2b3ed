-- The mnemonics, in the order of the manual's tables, and the pseudoinstructions.
use Rattle.std.specs.Prelude.{ℕ, true, false, List, [], ◌∷◌, ◌++◌, map, codes, Option}
use Rattle.rv_decode.specs.declared.instruction.BranchOp.TheVariants as branch
use Rattle.rv_decode.specs.Meaning.{branch_ops, load_ops, store_ops, immediate_ops, shift_ops, register_ops}
use Rattle.rv_decode.specs.declared.instruction.AmoOp.{AmoOp}
use Rattle.assembler.specs.Writing.{branch_name, load_name, store_name, immediate_name, shift_name, register_name, amo_name}
use Rattle.rv_decode.specs.declared.instruction.AmoOp.TheVariants as amo
use Rattle.assembler.specs.declared.form.Form.{Form}
use Rattle.assembler.specs.declared.form.Form.TheVariants.{Lui, Auipc, Jal, Jalr, Branch, Load, Store, Immediate, Shift}
use Rattle.assembler.specs.declared.form.Form.TheVariants.{Register, Fence, FenceTso, Ecall, Ebreak, Amo, Nop, Move}
use Rattle.assembler.specs.declared.form.Form.TheVariants.{Invert, Negate, IsZero, IsNotZero, BranchZero, Jump, Return}
use Rattle.assembler.specs.declared.form.Form.TheVariants.{LoadImmediate}
use Rattle.rv_decode.specs.Registers.{row_of}

-- a mnemonic for each operation
abbrev named : {Op : Type 0} → (Op → List ℕ) → (Op → Form) → List Op → List (List ℕ × Form)
named name form ops = map (λ op. (name op, form op)) ops

-- with each suffix for the bits aq and rl
abbrev ordered : AmoOp → List (List ℕ × Form)
ordered op =
    (amo_name op, Amo op false false) ∷
    (amo_name op ++ codes ".aq", Amo op true false) ∷
    (amo_name op ++ codes ".rl", Amo op false true) ∷
    (amo_name op ++ codes ".aqrl", Amo op true true) ∷
    (amo_name op ++ codes ".aq.rl", Amo op true true) ∷
    []

abbrev pub mnemonics : List (List ℕ × Form)
mnemonics =
    (codes "lui", Lui) ∷
    (codes "auipc", Auipc) ∷
    (codes "jal", Jal) ∷
    (codes "jalr", Jalr) ∷
    (named branch_name Branch branch_ops ++
    (named load_name Load load_ops ++
    (named store_name Store store_ops ++
    (named immediate_name Immediate immediate_ops ++
    (named shift_name Shift shift_ops ++
    (named register_name Register register_ops ++
    (codes "fence", Fence) ∷
    (codes "fence.tso", FenceTso) ∷
    (codes "ecall", Ecall) ∷
    (codes "ebreak", Ebreak) ∷
    (ordered amo.Swap ++ (ordered amo.Add ++ (ordered amo.Xor ++ (ordered amo.And ++ (ordered amo.Or ++
    (ordered amo.Min ++ (ordered amo.Max ++ (ordered amo.MinUnsigned ++ (ordered amo.MaxUnsigned ++
    (codes "nop", Nop) ∷
    (codes "mv", Move) ∷
    (codes "not", Invert) ∷
    (codes "neg", Negate) ∷
    (codes "seqz", IsZero) ∷
    (codes "snez", IsNotZero) ∷
    (codes "beqz", BranchZero branch.Equal) ∷
    (codes "bnez", BranchZero branch.NotEqual) ∷
    (codes "j", Jump) ∷
    (codes "ret", Return) ∷
    (codes "li", LoadImmediate) ∷
    [])))))))))))))))

unfoldable pub form_named : List ℕ → Option Form
form_named text = row_of (λ row. row.0) (λ row. row.1) mnemonics text
