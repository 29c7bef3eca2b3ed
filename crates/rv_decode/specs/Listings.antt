-- Listings: each line of a program with its word and the instruction that the word means.
use Rattle.std.specs.Prelude.{ℕ, List, [], ◌∷◌}
use Rattle.rv_decode.specs.declared.instruction.Instr.{Instr}

-- a line: its word, and the instruction that the word means
pub record Listed : Type 0 where
  pub word : ℕ
  pub means : Instr

abbrev pub line : ℕ → Instr → Listed
line word means = record { word = word; means = means }

abbrev pub words_of : List Listed → List ℕ
words_of [] = []
words_of (l ∷ ls) = l.word ∷ words_of ls

abbrev pub lines_of : List Listed → List Instr
lines_of [] = []
lines_of (l ∷ ls) = l.means ∷ lines_of ls
