-- The line that is written of a text.
use Rattle.std.specs.Prelude.{ℕ, ◌+◌, List, [], ◌∷◌, ◌++◌, codes}
use Rattle.std.specs.Fmt.{decimal}
use Rattle.recorder.specs.Schedule.{hart_of_event}
use Rattle.recorder.specs.Outcomes.{outcome_text}
use Rattle.engine_support.specs.declared.fault.Refusal.{Refusal}
use Rattle.engine_support.specs.declared.fault.Position.{Position}
use Rattle.engine_support.specs.declared.fault.Position.TheVariants.{Nowhere, Line, ProgramLine, Byte, Word, Event}
use Rattle.engine_support.specs.declared.fault.Role.{Role}
use Rattle.engine_support.specs.declared.fault.Role.TheVariants.{Sender, Receiver}
use Rattle.checking.specs.Judgements.{Difference, Judged}
use Rattle.checking.specs.Judgements.Judged.{finished, unfinished, differing, no_record}

abbrev pub role_text : Role → List ℕ
role_text Sender = codes "sender"
role_text Receiver = codes "receiver"

abbrev pub position_text : Position → List ℕ
position_text Nowhere = []
position_text (Line line) = codes " at line " ++ decimal line
position_text (ProgramLine role line) = codes " at line " ++ decimal line ++ codes " of the " ++ role_text role
position_text (Byte byte) = codes " at byte " ++ decimal byte
position_text (Word sender place) = codes " at sender " ++ decimal sender ++ codes " place " ++ decimal place
position_text (Event event) = codes " at event " ++ decimal event

abbrev pub refusal_text : Refusal → List ℕ
refusal_text refusal = codes " refused " ++ decimal refusal.number ++ position_text refusal.place

-- where a record differs
unfoldable pub difference_place : (event line : ℕ) → List ℕ
difference_place event line = codes " refused 38 at event " ++ decimal event ++ (codes " line " ++ decimal line ++ codes ": ")

-- the outcome that the record has there, and then the run's
abbrev pub difference_text : Difference → List ℕ
difference_text d = difference_place d.event d.line ++ outcome_text (hart_of_event d.step.0) d.step.1
    ++ codes ", the run has " ++ outcome_text (hart_of_event d.step.0) d.found

abbrev pub judged_text : Judged → List ℕ
judged_text (finished values) = codes " accepted"
judged_text unfinished = codes " unfinished"
judged_text (differing d) = difference_text d
judged_text (no_record refusal) = refusal_text refusal

-- the line of the text of this number, ended by LF (10)
abbrev pub judgement_line : (number : ℕ) → Judged → List ℕ
judgement_line number answer = decimal number ++ judged_text answer ++ 10 ∷ []

-- the lines of texts that are numbered from here on
abbrev pub judgement_lines : (number : ℕ) → List Judged → List ℕ
judgement_lines number [] = []
judgement_lines number (answer ∷ answers) = judgement_line number answer ++ judgement_lines (number + 1) answers
