-- A test's name and the text of its condition, as pictures of its runs show them.
use Rattle.std.specs.Prelude.{◌≡◌, ℕ, ◌==◌, ◌||◌, nat_lt, if◌then◌else◌, ◌++◌, List, [], ◌∷◌, length, Option, Some, None, Result, Ok, Err, codes}
use Rattle.std.specs.List.{filter, join_with_byte, slice_index_or}
use Rattle.texts.specs.declared.pieces.Separators.TheVariants.{Gaps}
use Rattle.texts.specs.Pieces.{pieces}
use Rattle.texts.specs.Cutting.{before, after, is_byte, tokens}
use Rattle.texts.specs.Results.{◌>>=◌}
use Rattle.litmus_tokens.specs.Cleaning.{IsCleaned, cleaned_text}
use Rattle.litmus_reader.specs.declared.faults.LitmusFault.{LitmusFault}
use Rattle.litmus_reader.specs.declared.faults.LitmusFault.TheVariants.{BadCondition}
use Rattle.litmus_reader.specs.declared.headings.Heading as code
use Rattle.litmus_reader.specs.declared.marks.Mark.TheVariants.{Visible, Condition}
use Rattle.litmus_reader.specs.Marks.{from_line}
use Rattle.litmus_reader.specs.Header.{after_header, after_brace}
use Rattle.litmus_reader.specs.Init.{after_init}
use Rattle.litmus_reader.specs.Layout.{IsLaidOut}

-- a name and a condition
pub record HeadingOf : Type 0 where
  pub name : List ℕ
  pub condition : List ℕ

-- the words of a text in one line, with one space (32) between two
abbrev pub heading_words : List ℕ → List (List ℕ)
heading_words text = filter (λ piece. nat_lt 0 (length piece)) (pieces Gaps text)

abbrev pub in_one_line : List ℕ → List ℕ
in_one_line text = join_with_byte 32 (heading_words text)

-- The name is the header line's second token. The condition is what stands from its first line to the end of the text,
-- in one line and without comments.
pub record IsHeading (text : List ℕ) (heading : HeadingOf) : Type 0 where
  pub clean : List ℕ
  pub init : List ℕ
  pub table : List ℕ
  pub condition_text : List ℕ
  pub others : List (List ℕ)
  pub cleaned : IsCleaned text clean
  pub laid_out : IsLaidOut clean init table condition_text
  pub named : tokens laid_out.header ≡ codes "RISCV" ∷ heading.name ∷ others
  pub asks : heading.condition ≡ in_one_line condition_text

-- ---- the reading

-- a line and a further word, if there is one
abbrev pub with_word : (line word : List ℕ) → List ℕ
with_word line word = if (length line == 0) || (length word == 0) then line ++ word else (line ++ 32 ∷ word)

abbrev pub first_line : Option (List ℕ) → List ℕ
first_line None = []
first_line (Some text) = before (is_byte 10) text

-- the second token of the first line that isn't blank
abbrev pub name_in : List ℕ → List ℕ
name_in text = slice_index_or (tokens (first_line (from_line Visible text))) 1 []

-- the condition's text, which may be missing
abbrev pub condition_of : Option (List ℕ) → Result (List ℕ) LitmusFault
condition_of None = Err BadCondition
condition_of (Some text) = Ok (in_one_line text)

-- the heading in a text without comments
unfoldable pub heading_in : List ℕ → Result HeadingOf LitmusFault
heading_in text = do
  below ← after_header text
  inner ← after_brace below
  rest ← after_init (after (is_byte 125) inner)
  condition ← condition_of (from_line Condition rest)
  Ok (record { name = name_in text; condition = condition })

-- the heading in a text, or the first fault that is met on the way to its condition
unfoldable pub heading_at : List ℕ → Result HeadingOf LitmusFault
heading_at text = heading_in (cleaned_text text)

-- what the code's value stands for
abbrev pub heading_of : code.Heading → HeadingOf
heading_of heading = record { name = heading.name.items; condition = heading.condition.items }
