-- Which text is which program.
use Rattle.std.specs.Prelude.{◌≡◌, ◌≢◌, ℕ, ◌+◌, ◌^◌, ◌<◌, ◌≤◌, pos, List, [], ◌∷◌, ◌++◌, Option, Some, None}
use Rattle.std.specs.List.{All, AllByRecursion}
use Rattle.std.specs.Str.Lines.{lines}
use Rattle.rv_decode.specs.declared.instruction.Reg.{Reg}
use Rattle.rv_decode.specs.declared.instruction.BranchOp.{BranchOp}
use Rattle.rv_decode.specs.declared.instruction.Instr.{Instr}
use Rattle.rv_decode.specs.declared.instruction.Instr.TheVariants as instr
use Rattle.rv_decode.specs.Means.{Means}
use Rattle.rv_decode.specs.declared.instruction.TheConstants.{MAX_CODE}
use Rattle.assembler.specs.Operands.{IsInReach, bytes}
use Rattle.assembler.specs.Statements.{Made, one, two, jump, branch}
use Rattle.assembler.specs.Grammar.{IsLine}
use Rattle.assembler.specs.Drafts.{Line, size_of, word_count, in_bytes, AllPlain}

-- each text is its line
abbrev pub AreLines : List (List ℕ) → List Line → Type 0
AreLines [] all = all ≡ []
AreLines (text ∷ texts) all = (line : Line) × (rest : List Line) × (all ≡ line ∷ rest) × IsLine text line × AreLines texts rest

-- no label is defined by both lines
abbrev pub AreApart : Line → Line → Type 0
AreApart line other = (name : List ℕ) → line.label ≡ Some name → other.label ≢ Some name

-- no line above defines the line's label
abbrev pub IsFresh : List Line → Line → Type 0
IsFresh above line = AllByRecursion (λ other. AreApart other line) above

-- no line below defines a label again
abbrev pub EachOnce : List Line → Type 0
EachOnce [] = Unit {0}
EachOnce (line ∷ below) = AllByRecursion (λ other. AreApart line other) below × EachOnce below

-- a label's place is the number of words above the line that defines it
pub record Defines (all : List Line) (name : List ℕ) (place : ℕ) : Type 0 where
  pub above : List Line
  pub line : Line
  pub below : List Line
  pub whole : all ≡ above ++ line ∷ below
  pub defined : line.label ≡ Some name
  pub counted : place ≡ word_count above

-- The instructions of a statement with `at` words before it. To a label it is 4 bytes for each
-- word between, forward or back, and the instruction has to reach it.
pub data IsPlaced (all : List Line) (at : ℕ) : Option Made → List Instr → Type 0 where
  nothing : IsPlaced all at None []
  single : (i : Instr) → IsPlaced all at (Some (one i)) (i ∷ [])
  double : (i j : Instr) → IsPlaced all at (Some (two i j)) (i ∷ j ∷ [])
  jumping : (rd : Reg) (name : List ℕ) (place : ℕ) → Defines all name place
      → IsInReach (pos 1048576) (bytes (in_bytes at place))
      → IsPlaced all at (Some (jump rd name)) (instr.Jal rd (in_bytes at place) ∷ [])
  branching : (op : BranchOp) (rs1 rs2 : Reg) (name : List ℕ) (place : ℕ) → Defines all name place
      → IsInReach (pos 4096) (bytes (in_bytes at place))
      → IsPlaced all at (Some (branch op rs1 rs2 name)) (instr.Branch op rs1 rs2 (in_bytes at place) ∷ [])

-- the instructions of lines, the first of which has `at` words before it
abbrev pub ArePlaced : (all : List Line) (at : ℕ) → List Line → List Instr → Type 0
ArePlaced all at [] instrs = instrs ≡ []
ArePlaced all at (line ∷ below) instrs = (front : List Instr) × (rest : List Instr) × (instrs ≡ front ++ rest)
    × IsPlaced all at line.made front × ArePlaced all (at + size_of line.made) below rest

-- The instructions of all lines, where no label is defined twice and no more than 4,096 words are made.
pub record AreInstrs (all : List Line) (instrs : List Instr) : Type 0 where
  pub once : EachOnce all
  pub few : word_count all ≤ MAX_CODE
  pub placed : ArePlaced all 0 all instrs

-- The text is a program of these instructions.
pub record IsProgram (text : List ℕ) (instrs : List Instr) : Type 0 where
  pub all : List Line
  pub written : AreLines (lines text) all
  pub made : AreInstrs all instrs

-- each word means its instruction
abbrev pub AreWordsOf : List ℕ → List Instr → Type 0
AreWordsOf [] instrs = instrs ≡ []
AreWordsOf (word ∷ words) instrs = (i : Instr) × (rest : List Instr) × (instrs ≡ i ∷ rest) × Means word i × AreWordsOf words rest

-- The text is a program whose instructions these words of 32 bits mean, with their free fields 0.
pub record IsCode (text words : List ℕ) : Type 0 where
  pub instrs : List Instr
  pub program : IsProgram text instrs
  pub meant : AreWordsOf words instrs
  pub plain : AllPlain words
  pub small : All (λ word. word < 2 ^ 32) words
