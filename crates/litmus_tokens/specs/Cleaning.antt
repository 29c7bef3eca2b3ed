-- A text without its comments: each byte of a comment is a space (32), and so is a CR (13) that an LF (10)
-- follows outside comments. Nothing moves.
use Rattle.std.specs.Prelude.{◌≡◌, ℕ, ◌==◌, Bool, false, ◌&&◌, List, [], ◌∷◌, ◌++◌, length, replicate, Option, None, Some, if◌then◌else◌}
use Rattle.litmus_tokens.specs.declared.cleaning.Part.{Part}
use Rattle.litmus_tokens.specs.declared.cleaning.Part.TheVariants.{Text, Opening, Comment, Closing}

abbrev pub next_byte : List ℕ → Option ℕ
next_byte [] = None
next_byte (c ∷ rest) = Some c

abbrev pub is_next : ℕ → Option ℕ → Bool
is_next byte None = false
is_next byte (Some c) = c == byte

-- `(*` opens a comment
abbrev pub opens : ℕ → Option ℕ → Bool
opens c next = (c == 40) && is_next 42 next

-- `*)` closes one
abbrev pub closes : ℕ → Option ℕ → Bool
closes c next = (c == 42) && is_next 41 next

abbrev pub ends_line : ℕ → Option ℕ → Bool
ends_line c next = (c == 13) && is_next 10 next

-- What stands for a byte that belongs to such a part, and what the next byte belongs to. The star that
-- opens a comment closes none, so comments in comments and `(*)` need no case.
abbrev pub turned : Part → ℕ → Option ℕ → ℕ × Part
turned Text c next = if opens c next then (32, Opening) else (if ends_line c next then 32 else c, Text)
turned Opening c next = (32, Comment)
turned Comment c next = (32, if closes c next then Closing else Comment)
turned Closing c next = (32, Text)

unfoldable pub cleaned_from : Part → List ℕ → List ℕ
cleaned_from part [] = []
cleaned_from part (c ∷ rest) = (turned part c (next_byte rest)).0 ∷ cleaned_from (turned part c (next_byte rest)).1 rest

unfoldable pub cleaned_text : List ℕ → List ℕ
cleaned_text text = cleaned_from Text text

-- ---- comment by comment

-- no `*)` stands in the text
abbrev pub NoneCloses : List ℕ → Type 0
NoneCloses [] = Unit {0}
NoneCloses (c ∷ rest) = (closes c (next_byte rest) ≡ false) × NoneCloses rest

-- What a text is cleaned to. A comment goes from `(*` to the first `*)` after that, or to the end.
pub data IsCleaned : List ℕ → List ℕ → Type 0 where
  ended : IsCleaned [] []
  commented : (inner rest out : List ℕ) → NoneCloses inner → IsCleaned rest out
      → IsCleaned (40 ∷ 42 ∷ (inner ++ 42 ∷ 41 ∷ rest)) (32 ∷ 32 ∷ (replicate (length inner) 32 ++ 32 ∷ 32 ∷ out))
  unclosed : (inner : List ℕ) → NoneCloses inner → IsCleaned (40 ∷ 42 ∷ inner) (32 ∷ 32 ∷ replicate (length inner) 32)
  line_end : (rest out : List ℕ) → IsCleaned (10 ∷ rest) out → IsCleaned (13 ∷ 10 ∷ rest) (32 ∷ out)
  other : (c : ℕ) (rest out : List ℕ) → opens c (next_byte rest) ≡ false → ends_line c (next_byte rest) ≡ false
      → IsCleaned rest out → IsCleaned (c ∷ rest) (c ∷ out)
