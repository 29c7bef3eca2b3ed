-- Lines, by how they begin.
use Rattle.std.specs.Prelude.{ℕ, ◌==◌, Bool, false, not, ◌&&◌, ◌||◌, nat_eq, List, [], ◌∷◌, ◌++◌, Option, None, Some, if◌then◌else◌, codes}
use Rattle.std.specs.List.{starts_with}
use Rattle.texts.specs.Cutting.{without_front}
use Rattle.litmus_reader.specs.declared.marks.Mark.{Mark}
use Rattle.litmus_reader.specs.declared.marks.Mark.TheVariants.{Visible, Brace, Condition, Unread}

abbrev pub is_line_feed : ℕ → Bool
is_line_feed byte = byte == 10

abbrev pub has_token : List ℕ → List ℕ → Bool
has_token word line = starts_with nat_eq line word

-- the line's first byte, if it has one, isn't its end
abbrev pub is_visible : List ℕ → Bool
is_visible [] = false
is_visible (c ∷ rest) = not (c == 10)

-- the line begins with `{`
abbrev pub is_brace : List ℕ → Bool
is_brace [] = false
is_brace (c ∷ rest) = c == 123

-- The first line of a text begins so, past its blanks. The words are first letters alone, whatever
-- follows them.
abbrev pub is_unread : List ℕ → Bool
is_unread line = has_token (codes "locations") line || has_token (codes "filter") line

abbrev pub is_condition : List ℕ → Bool
is_condition line = has_token (codes "exists") line || has_token (codes "~exists") line || has_token (codes "forall") line

unfoldable pub begins : Mark → List ℕ → Bool
begins Visible text = is_visible (without_front text)
begins Brace text = is_brace (without_front text)
begins Condition text = is_condition (without_front text) || is_unread (without_front text)
begins Unread text = is_unread (without_front text)

-- A text that is cut before a line: what stands before it, and the text from it on, or nothing where there is no such line.
abbrev pub Cut : Type 0
Cut = List ℕ × Option (List ℕ)

abbrev pub onto_front : List ℕ → Cut → Cut
onto_front front cut = (front ++ cut.0, cut.1)

-- the text cut before the next line that begins so
abbrev pub next_cut : Mark → List ℕ → Cut
next_cut mark [] = ([], None)
next_cut mark (c ∷ rest) = onto_front (c ∷ []) (if (c == 10) && begins mark rest then ([], Some rest) else next_cut mark rest)

-- the text cut before the first line that begins so
unfoldable pub line_cut : Mark → List ℕ → Cut
line_cut mark text = if begins mark text then ([], Some text) else next_cut mark text

abbrev pub before_line : Mark → List ℕ → List ℕ
before_line mark text = (line_cut mark text).0

abbrev pub from_line : Mark → List ℕ → Option (List ℕ)
from_line mark text = (line_cut mark text).1
