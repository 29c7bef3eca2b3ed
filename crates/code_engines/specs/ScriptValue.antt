-- Scripts: what steps texts stand for, an opening and the events to run from it. A text is read line by line from the
-- empty script (`no_script`). Each line is a statement: `MayCome` says when it is allowed, `with_statement` what it
-- adds. StepsText defines which text stands for which script.
use Rattle.std.specs.Prelude.{ℕ, ◌+◌, ◌/◌, ◌<◌, ◌≤◌, zero, suc, List, [], ◌∷◌, ◌++◌, length, replicate, slice_set}
use Rattle.memory.specs.Words.{IsAddress, opened_words}
use Rattle.step_machine.specs.History.{HartOpeningValue, OpeningValue}
use Rattle.step_machine.specs.declared.events.Event.{Event}
use Rattle.step_machine.specs.declared.opening.TheConstants.{MAX_HARTS}
use Rattle.code_engines.specs.declared.steps.script.Script.{Script}
use Rattle.rv_decode.specs.declared.instruction.TheConstants.{MAX_CODE}
use Rattle.recorder.specs.declared.reading.TheConstants.{MAX_EVENTS}

-- the harts and all words of an opening, and the events
pub record ScriptValue : Type 0 where
  pub harts : List HartOpeningValue
  pub words : List ℕ
  pub events : List Event

-- what the program's script stands for
abbrev pub script_value : Script → ScriptValue
script_value s = record { harts = s.harts.items; words = s.words.items; events = s.events.items }

-- no hart, M words that are 0, no event
abbrev pub no_script : ℕ → ScriptValue
no_script M = record { harts = []; words = replicate M 0; events = [] }

abbrev pub opening_of_script : ScriptValue → OpeningValue
opening_of_script t = record { harts = t.harts; words = t.words }

-- these events from this opening, on a machine with M words
abbrev pub script_from : (M : ℕ) → OpeningValue → List Event → ScriptValue
script_from M opening events = record { harts = opening.harts; words = opened_words M opening.words; events = events }

-- what one line stands for
pub data Statement : Type 0 where
  -- one more hart, with this code
  hart : (code : List ℕ) → Statement
  -- hart h opens with v in register n
  reg : (h n v : ℕ) → Statement
  -- the word at address a opens as v
  word : (a v : ℕ) → Statement
  -- these events come next
  steps : (events : List Event) → Statement

-- a hart of this code, its registers 0 and its inbox empty
abbrev pub fresh : List ℕ → HartOpeningValue
fresh code = record { code = code; registers = replicate 32 0; inbox = [] }

-- the harts, where hart h has v in register n
abbrev pub register_set : List HartOpeningValue → (h n v : ℕ) → List HartOpeningValue
register_set [] h n v = []
register_set (first ∷ others) zero n v = record first { registers = slice_set first.registers n v } ∷ others
register_set (first ∷ others) (suc h) n v = first ∷ register_set others h n v

-- the script with one more line, so that a later line for the same place wins
abbrev pub with_statement : ScriptValue → Statement → ScriptValue
with_statement t (hart code) = record t { harts = t.harts ++ fresh code ∷ [] }
with_statement t (reg h n v) = record t { harts = register_set t.harts h n v }
with_statement t (word a v) = record t { words = slice_set t.words (a / 4) v }
with_statement t (steps events) = record t { events = t.events ++ events }

-- the line may come after this script: at most MAX_HARTS harts of at most MAX_CODE instructions, registers x1 to x31
-- of a hart above, words of the memory, and at most MAX_EVENTS events in all
abbrev pub MayCome : ScriptValue → Statement → Type 0
MayCome t (hart code) = (length t.harts < MAX_HARTS) × (length code ≤ MAX_CODE)
MayCome t (reg h n v) = (h < length t.harts) × (1 ≤ n) × (n < 32)
MayCome t (word a v) = IsAddress (length t.words) a
MayCome t (steps events) = length t.events + length events ≤ MAX_EVENTS
