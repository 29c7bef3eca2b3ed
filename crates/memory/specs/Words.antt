-- Byte addresses of words, and what a memory and a buffer keep.
use Rattle.std.specs.Prelude.{ℕ, ◌≡◌, ◌==◌, ◌*◌, ◌%◌, ◌<◌, ◌≤◌, ◌++◌, Bool, true, false, List, [], ◌∷◌, length, drop, replicate, All}
use Rattle.memory.specs.declared.writes.Write.{Write}
use Rattle.memory.specs.Writes.{WritesInWord}

-- a word's address in a memory of M words: a multiple of 4 below 4 M
abbrev pub IsAddress : ℕ → ℕ → Type 0
IsAddress M a = (a % 4 ≡ 0) × (a < 4 * M)

-- what a contract sees of a memory: its words, and those with which it opened
pub record MemoryView : Type 0 where
  pub words : List ℕ
  pub first : List ℕ

-- these words, and 0 after them, M in all
abbrev pub opened_words : ℕ → List ℕ → List ℕ
opened_words M words = words ++ drop (length words) (replicate M 0)

abbrev pub opened_memory : ℕ → List ℕ → MemoryView
opened_memory M words = record { words = opened_words M words; first = opened_words M words }

-- a memory has M words, at most 65536 of them, and from some place on they are those of its opening
pub record IsMemory (M : ℕ) (words first : List ℕ) (untouched : ℕ) : Type 0 where
  pub size : length words ≡ M
  pub first_size : length first ≡ M
  pub limit : M ≤ 65536
  pub place : untouched ≤ M
  pub same : drop untouched words ≡ drop untouched first

-- a buffer has room for B stores, at most 64 of them
pub record IsBuffer (B : ℕ) (stores : List Write) : Type 0 where
  pub capacity : B ≤ 64
  pub within : length stores ≤ B
  pub in_words : All WritesInWord stores

-- a word and the written ones after it, where the word itself may be the opening's
abbrev pub unless_untouched : (same : Bool) → ℕ → List ℕ → List ℕ
unless_untouched true word [] = []
unless_untouched true word (later ∷ others) = word ∷ later ∷ others
unless_untouched false word others = word ∷ others

-- the words up to the last that differs from the opening's at its place
abbrev pub written_since : (first words : List ℕ) → List ℕ
written_since [] words = []
written_since (f ∷ first) [] = []
written_since (f ∷ first) (w ∷ words) = unless_untouched (f == w) w (written_since first words)
