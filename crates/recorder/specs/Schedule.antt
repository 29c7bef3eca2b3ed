-- The texts of schedules: which text stands for which list of events.
use Rattle.std.specs.Prelude.{◌≡◌, ℕ, ◌<◌, ◌≤◌, ◌⊎◌, List, [], ◌∷◌, ◌++◌, length, replicate, All, codes}
use Rattle.step_machine.specs.declared.events.Event.{Event}
use Rattle.step_machine.specs.declared.events.Event.TheVariants.{Act, Land}
use Rattle.step_machine.specs.declared.opening.TheConstants.{MAX_HARTS}
use Rattle.texts.specs.declared.pieces.Separators.TheVariants.{BlanksAndLineEnds}
use Rattle.texts.specs.Pieces.{pieces}
use Rattle.texts.specs.Grammars.{Grammar, mapped, parted, prefixed, choice, by_byte, numeral}
use Rattle.texts.specs.Runs.{Repetition}
use Rattle.texts.specs.Formats.{Stand}
use Rattle.recorder.specs.declared.reading.TheConstants.{MAX_EVENTS}

-- an act is written by an `a`, a landing by an `l`
abbrev pub letter : Event → ℕ
letter (Act hart) = 97
letter (Land hart) = 108

abbrev pub hart_of_event : Event → ℕ
hart_of_event (Act hart) = hart
hart_of_event (Land hart) = hart

-- a hart, and how often, after a star (42); no count is once
abbrev pub once : ℕ → ℕ × ℕ
once hart = (hart, 1)

unfoldable pub numbers : Grammar (ℕ × ℕ)
numbers = by_byte 42 (parted 42 (numeral 10) (numeral 10)) (mapped (numeral 10) once)

-- an event and how often it stands: its letter, and then its numbers
abbrev pub acts : ℕ × ℕ → Repetition Event
acts n = (Act n.0, n.1)

abbrev pub landings : ℕ × ℕ → Repetition Event
landings n = (Land n.0, n.1)

unfoldable pub token : Grammar (Repetition Event)
token = choice (mapped (prefixed 97 numbers) acts) (mapped (prefixed 108 numbers) landings)

-- A piece is a token for a run of one event of one of the harts, once at least, or it is empty and for none.
abbrev pub IsPieceOf : List ℕ → List Event → Type 0
IsPieceOf [] events = events ≡ []
IsPieceOf (c ∷ word) events = (event : Event) × (times : ℕ) × token.Says (c ∷ word) (event, times)
    × (hart_of_event event < MAX_HARTS) × (0 < times) × (events ≡ replicate times event)

-- The tokens of the text stand for these events, which are at most 1,048,576. Tokens are parted by
-- spaces, tabs, CR and LF.
abbrev pub IsTokensOf : List ℕ → List Event → Type 0
IsTokensOf text events = Stand IsPieceOf (pieces BlanksAndLineEnds text) events × (length events ≤ MAX_EVENTS)

-- each event is of a hart that a machine may have
abbrev pub OfHarts : List Event → Type 0
OfHarts events = All (λ event. hart_of_event event < MAX_HARTS) events

-- A line ends here: by LF (10), by CR (13) and LF, or since nothing follows.
abbrev pub EndsLine : List ℕ → Type 0
EndsLine [] = Unit {0}
EndsLine (c ∷ []) = c ≡ 10
EndsLine (c ∷ d ∷ rest) = (c ≡ 10) ⊎ ((c ≡ 13) × (d ≡ 10))

-- The text is this head line, and then a body of this value.
abbrev pub IsHeaded : {V : Type 0} → (head : List ℕ) → (List ℕ → V → Type 0) → List ℕ → V → Type 0
IsHeaded head IsBody text value = (body : List ℕ) × (text ≡ head ++ body) × EndsLine body × IsBody body value

-- The text is a schedule of these events alone: the head line, and then tokens.
abbrev pub IsPlainOf : List ℕ → List Event → Type 0
IsPlainOf text events = IsHeaded (codes "ztso-schedule 1") IsTokensOf text events
