-- A machine's history: where it began, and what was done since. All other definitions read it.
use Rattle.std.specs.Prelude.{ℕ, ◌≤◌, List, [], ◌∷◌, ◌++◌, length, take, All}
use Rattle.step_machine.specs.declared.events.Entry.{Entry}
use Rattle.step_machine.specs.declared.opening.TheConstants.{MAX_HARTS}
use Rattle.rv_decode.specs.declared.instruction.TheConstants.{MAX_CODE}

-- one hart's beginning
pub record HartOpeningValue : Type 0 where
  pub code : List ℕ
  pub registers : List ℕ
  pub inbox : List ℕ

-- a machine's beginning; words that are missing are 0
pub record OpeningValue : Type 0 where
  pub harts : List HartOpeningValue
  pub words : List ℕ

-- a beginning, and the entries since, oldest first
pub record History : Type 0 where
  pub opening : OpeningValue
  pub entries : List Entry

-- these entries since this beginning
abbrev pub history_of : OpeningValue → List Entry → History
history_of o es = record { opening = o; entries = es }

-- what a contract sees of a machine: its history, and for how many more steps room is reserved
pub record HistoryWithRoom : Type 0 where
  pub history : History
  pub room : ℕ

-- the same up to its n-th entry
abbrev pub up_to : ℕ → History → History
up_to n t = history_of t.opening (take n t.entries)

-- nothing was done yet
abbrev pub at_opening : OpeningValue → History
at_opening o = record { opening = o; entries = [] }

abbrev pub with_entry : History → Entry → History
with_entry t e = record { opening = t.opening; entries = t.entries ++ e ∷ [] }

-- a hart's code has no more instructions than it may
abbrev pub IsShort : HartOpeningValue → Type 0
IsShort o = length o.code ≤ MAX_CODE

-- the limits of an opening over a memory of M words: a hart or more and at most
-- MAX_HARTS, each of at most MAX_CODE instructions, and at most M words
pub record FitsIn (M : ℕ) (o : OpeningValue) : Type 0 where
  pub some_hart : 1 ≤ length o.harts
  pub harts : length o.harts ≤ MAX_HARTS
  pub code : All IsShort o.harts
  pub words : length o.words ≤ M
