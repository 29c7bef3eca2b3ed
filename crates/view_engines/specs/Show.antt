-- The command `show`: what the test of a litmus text is.
use Rattle.std.specs.Prelude.{ℕ, ◌≡◌, ◌<◌, ◌≤◌, List, length, Option, Result, Ok, Err}
use Rattle.litmus.specs.LitmusTests.{LitmusTest}
use Rattle.litmus_reader.specs.Headings.{HeadingOf, IsHeading}
use Rattle.litmus_reader.specs.Listings.{ListedRowOf, listing_at}
use Rattle.engine_support.specs.declared.fault.Refusal.{Refusal}
use Rattle.engine_support.specs.declared.input.TheConstants.{INPUT_BYTES}
use Rattle.engine_support.specs.Engines.{Output}
use Rattle.engine_support.specs.Faults.{too_large}
use Rattle.engine_support.specs.Inputs.{After, tests_with}
use Rattle.engine_support.specs.OpeningTexts.{steps_text}
use Rattle.view_engines.specs.TestLines.{test_lines}
use Rattle.view_engines.specs.declared.showing.Form.{Form}
use Rattle.view_engines.specs.declared.showing.Form.TheVariants.{Table, Steps}

-- the lines of the text's test
abbrev pub IsShown : (file : List ℕ) → LitmusTest → (out : List ℕ) → Type 0
IsShown file test out = (heading : HeadingOf) × (rows : List ListedRowOf) × IsHeading file heading
    × (listing_at file ≡ Ok rows) × (out ≡ test_lines heading rows test)

-- The steps text of where the test opens. It is refused as too large where it is longer than an input may be, so that
-- `steps` would refuse it so.
abbrev pub IsSteps : LitmusTest → Result Output Refusal → Type 0
IsSteps test (Ok answer) = (answer.0 ≡ steps_text test.opening) × (length (steps_text test.opening) ≤ INPUT_BYTES)
IsSteps test (Err refusal) = (refusal ≡ too_large) × (INPUT_BYTES < length (steps_text test.opening))

-- each text that has a test is shown, or where it opens
abbrev pub IsShow : Form → (file : List ℕ) → LitmusTest → Result Output Refusal → Type 0
IsShow Table file test (Ok answer) = IsShown file test answer.0
IsShow Table file test (Err refusal) = ⊥
IsShow Steps file test answer = IsSteps test answer

-- what answers a litmus text
abbrev pub IsShowAnswer : Form → (file : Option (List ℕ)) → Result Output Refusal → Type 0
IsShowAnswer form file = After (tests_with (λ text same. same ≡ text)) file (λ read. IsShow form read.1 read.0)
