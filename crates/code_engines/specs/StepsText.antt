-- The steps text: which text stands for which script.
use Rattle.std.specs.Prelude.{ℕ, ◌≡◌, ◌≤◌, ◌⊎◌, List, [], ◌∷◌, length, Some, codes}
use Rattle.std.specs.List.{AllZip}
use Rattle.std.specs.Str.Lines.{lines}
use Rattle.texts.specs.Numbers.{SaysWord, IsHexWord}
use Rattle.step_machine.specs.declared.events.Event.{Event}
use Rattle.recorder.specs.Schedule.{IsTokensOf}
use Rattle.texts.specs.Cutting.{tokens, first_cut}
use Rattle.code_engines.specs.ScriptValue.{ScriptValue, no_script, Statement, hart, reg, word, steps, with_statement, MayCome}

-- The line says this, by its words; after `steps` the rest of the line is a text of tokens.
abbrev pub LineSays : List ℕ → Statement → Type 0
LineSays line (hart code) = (numbers : List (List ℕ)) × (tokens line ≡ codes "hart" ∷ numbers) × AllZip IsHexWord numbers code
LineSays line (reg h n v) = (H N V : List ℕ) × (tokens line ≡ codes "reg" ∷ H ∷ N ∷ V ∷ []) × SaysWord H h × SaysWord N n × SaysWord V v
LineSays line (word a v) = (A V : List ℕ) × (tokens line ≡ codes "word" ∷ A ∷ V ∷ []) × SaysWord A a × SaysWord V v
LineSays line (steps events) = (tokens : List ℕ) × (first_cut line ≡ Some (codes "steps", tokens)) × IsTokensOf tokens events

-- The text is one line, which says these events.
abbrev pub IsStepsLine : List ℕ → List Event → Type 0
IsStepsLine text events = (line : List ℕ) × (lines text ≡ line ∷ []) × LineSays line (steps events)

-- From the top, each line says what may come there, or has no word and says nothing.
abbrev pub LinesDescribe : ScriptValue → List (List ℕ) → ScriptValue → Type 0
LinesDescribe before [] script = script ≡ before
LinesDescribe before (line ∷ others) script = ((tokens line ≡ []) × LinesDescribe before others script)
    ⊎ ((s : Statement) × LineSays line s × MayCome before s × LinesDescribe (with_statement before s) others script)

-- The text stands for this script for a machine with M words: its lines do, and there is a hart.
pub record Describes (M : ℕ) (text : List ℕ) (script : ScriptValue) : Type 0 where
  pub lines_describe : LinesDescribe (no_script M) (lines text) script
  pub some_hart : 1 ≤ length script.harts
