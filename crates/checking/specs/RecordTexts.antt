-- The texts of records that stand one after the other in an input.
use Rattle.std.specs.Prelude.{ℕ, ◌&&◌, nat_le, if◌then◌else◌, Bool, List, [], ◌∷◌, ◌++◌, length}
use Rattle.std.specs.List.{list_all}
use Rattle.std.specs.Str.Lines.{lines}
use Rattle.texts.specs.Pieces.{is_blank}
use Rattle.recorder.specs.Reading.{has_head}
use Rattle.recorder.specs.Records.{record_head}
use Rattle.engine_support.specs.declared.input.TheConstants.{INPUT_BYTES}

-- a record begins at each line that is exactly the head of version 2
abbrev pub begins_record : (line : List ℕ) → Bool
begins_record line = has_head record_head line

-- the lines up to the next one at which a record begins, as one text
abbrev pub before_record : List (List ℕ) → List ℕ
before_record [] = []
before_record (line ∷ others) = if begins_record line then [] else line ++ before_record others

-- the records, each from its head line up to the next one
abbrev pub records_in : List (List ℕ) → List (List ℕ)
records_in [] = []
records_in (line ∷ others) = if begins_record line then (line ++ before_record others) ∷ records_in others else records_in others

-- Each line of a text is blank: it has spaces and tabs alone. A CR that no LF follows is no end of a line.
unfoldable pub are_blank_lines : List ℕ → Bool
are_blank_lines text = list_all (list_all is_blank) (lines text)

-- What stands before a record is left out if its lines are blank, and it is no longer than a text may be.
abbrev pub is_left_out : List ℕ → Bool
is_left_out text = nat_le (length text) INPUT_BYTES && are_blank_lines text

-- a text, unless it is left out
abbrev pub unless_blank : List ℕ → List (List ℕ)
unless_blank text = if is_left_out text then [] else text ∷ []

-- these records in order, and before them this text, unless it is left out; without a record it stays, also if it is blank
abbrev pub texts_with : (before : List ℕ) → (records : List (List ℕ)) → List (List ℕ)
texts_with before [] = before ∷ []
texts_with before (first ∷ others) = unless_blank before ++ first ∷ others

-- The texts to be judged: the records, and what stands before the first one. There is at least one: where nothing was
-- read, or blanks only, that is a text without a head.
unfoldable pub texts_in : List (List ℕ) → List (List ℕ)
texts_in all = texts_with (before_record all) (records_in all)
