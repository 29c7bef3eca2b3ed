-- What private functions say of themselves. No public clause names it.
use Rattle.std.specs.Prelude.{ℕ, ◌≡◌, List, map, Bool, if◌then◌else◌, nat_lt, All, Option, Some, None, MatchOption, [], ◌∷◌, ◌++◌, Result, Ok, Err, ◌+◌, ◌≤◌}
use Rattle.std.specs.Prelude.{◌⊎◌, true, false, length, IsSomeAnd}
use Rattle.step_machine.specs.declared.events.Event.{Event}
use Rattle.step_machine.specs.History.{History}
use Rattle.step_machine.specs.Runs.{IsOwnRun, event_of}
use Rattle.step_machine.specs.declared.events.Entry.{Entry}
use Rattle.step_machine.specs.Entries.{is_own}
use Rattle.step_machine.specs.Access.{memory_of}
use Rattle.hart_threads.specs.Seats.{SeatView, AsksBank, Continues, state_in, may_wait}
use Rattle.hart_threads.specs.Parts.{is_landing_of, IsLeast}
use Rattle.hart.specs.State.{HartView, HartState}
use Rattle.step_machine.specs.Paths.{after_entries, MakesEntries, entry_of}
use Rattle.step_machine.specs.Placing.{IsOwn}
use Rattle.step_machine.specs.declared.events.Outcome.{Outcome}
use Rattle.step_machine.specs.declared.events.Outcome.TheVariants as outcome
use Rattle.hart_threads.specs.declared.local.Local.{Local}
use Rattle.hart_threads.specs.declared.local.Local.TheVariants as local
use Rattle.hart.specs.Steps.{need_of}
use Rattle.hart.specs.declared.status.Status.TheVariants as status
use Rattle.step_machine.specs.Banks.{asks_memory, is_over}
use Rattle.hart_threads.specs.declared.turns.Ending.{Ending}
use Rattle.hart_threads.specs.declared.turns.Ending.TheVariants as ending
use Rattle.hart_threads.specs.declared.turns.Calls.{Calls}

-- a machine whose history is now has run these events, and they are those of the entries of t
pub record IsRunAgain (B M : ℕ) (t : History) (events : List Event) (now : History) : Type 0 where
  pub stands : now ≡ t
  pub each : events ≡ map event_of t.entries
  pub own : IsOwnRun B M now

-- ---- what a search through seats has found so far, and the test by which a diary is read

-- the lesser of a number that was found and another
abbrev pub lesser : Option ℕ → ℕ → ℕ
lesser None h = h
lesser (Some k) h = if nat_lt h k then h else k

-- all are good, or this is the least hart of a bad one
abbrev pub Found : {A : Type 0} → (A → ℕ) → (A → Type 0) → (A → Type 0) → List A → Option ℕ → Type 0
Found hart Good Bad xs o = MatchOption o (All Good xs) (IsLeast hart Good Bad xs)

-- what counts of a seat's diary: of an acting seat's the memory entries, of a landing one's all
abbrev pub counting_entries : Bool → List Entry → List Entry
counting_entries acts d = if acts then memory_of d else d

-- the entry is of the seat's part
abbrev pub keeps : SeatView → Entry → Bool
keeps s e = if s.acts then is_own s.hart e else is_landing_of s.hart e

-- ---- what a seat keeps of its hart
-- No public clause names it.

-- the diary is a path of hart h from its opening to its state, over a memory of M words
pub record IsOnPath (M h : ℕ) (v : HartView) (d : List Entry) : Type 0 where
  pub mine : All (IsOwn h) d
  pub makes : MakesEntries v.first d
  pub state : v.state ≡ after_entries v.first d
  pub words : v.state.words ≡ M

abbrev pub Seated : ℕ → ℕ → Option HartView → List Entry → Type 0
Seated M h None d = Unit {0}
Seated M h (Some v) d = IsOnPath M h v d

-- a diary after an answer
abbrev pub entries_noted : List Entry → Outcome → List Entry
entries_noted es (outcome.Did e) = es ++ e ∷ []
entries_noted es o = es

abbrev pub NotesEntries : {E : Type 0} → List Entry → Result Outcome E → List Entry → Type 0
NotesEntries es (Ok o) new = new ≡ entries_noted es o
NotesEntries es (Err e) new = new ≡ es

abbrev pub entries_noted_locally : List Entry → Local → List Entry
entries_noted_locally es (local.Did e) = es ++ e ∷ []
entries_noted_locally es local.NeedsMemory = es
entries_noted_locally es local.Over = es

abbrev pub NotesEntriesLocally : {E : Type 0} → List Entry → Result Local E → List Entry → Type 0
NotesEntriesLocally es (Ok o) new = new ≡ entries_noted_locally es o
NotesEntriesLocally es (Err e) new = new ≡ es

-- ---- what a thread makes of its seat, and how it ends

-- ---- calls

abbrev pub no_calls : Calls
no_calls = record { made = 0; last = None }

-- what a call answered, if it found memory
abbrev pub last_answer : {E : Type 0} → Result Outcome E → Option Outcome
last_answer (Ok o) = Some o
last_answer (Err e) = None

-- how a thread ends by what its last call answered, if it does
abbrev pub ending_by : Option Outcome → Option Ending
ending_by (Some outcome.Over) = Some ending.Over
ending_by (Some outcome.NoHart) = Some ending.NoHart
ending_by None = Some ending.NoMemory
ending_by other = None

abbrev pub ending_of : {E : Type 0} → Result Outcome E → Option Ending
ending_of answer = ending_by (last_answer answer)

-- a thread that was to make n calls ends so after these
abbrev pub IsEnding : ℕ → Ending → Calls → Type 0
IsEnding n ending.HeldBack calls = calls.made + 1 ≤ n
IsEnding n ending.Over calls = calls.last ≡ Some outcome.Over
IsEnding n ending.TurnsDone calls = calls.made ≡ n
IsEnding n ending.NoHart calls = calls.last ≡ Some outcome.NoHart
IsEnding n ending.NoMemory calls = (1 ≤ calls.made) × (calls.last ≡ None)

-- a running hart whose next instruction asks for no memory does it, whatever the bank is
abbrev pub ActsAlone : ℕ → HartState → Outcome → Type 0
ActsAlone h s o = s.status ≡ status.Running → asks_memory (need_of s) ≡ false → o ≡ outcome.Did (entry_of h (need_of s) 0)

-- ---- the seat

-- the seat's hart has ended or stopped
abbrev pub IsOver : SeatView → Type 0
IsOver t = IsSomeAnd (state_in t) (λ x. is_over x.status ≡ true)

-- somewhere on its path from seat s to seat t the hart comes to a store, an AMO or a full fence
pub record MayHaveWaited (s t : SeatView) : Type 0 where
  pub more : List Entry
  pub rest : List Entry
  pub whole : t.diary ≡ s.diary ++ more ++ rest
  pub there : IsSomeAnd (state_in (record t { diary = s.diary ++ more })) (λ x. (x.status ≡ status.Running) × (may_wait (need_of x) ≡ true))

-- n entries more, or the hart may have waited
abbrev pub Goes : ℕ → SeatView → SeatView → Type 0
Goes n s t = (length s.diary + n ≤ length t.diary) ⊎ MayHaveWaited s t

-- n turns
abbrev pub GotOn : ℕ → SeatView → SeatView → Type 0
GotOn n s t = IsOver t ⊎ Goes n s t

-- where a thread had what it needs, a hart in the bank and memory
abbrev pub WhereDone : Ending → Type 0 → Type 0
WhereDone ending.NoHart P = Unit {0}
WhereDone ending.NoMemory P = Unit {0}
WhereDone e P = P

-- what n turns make of a seat, by its calls and how it ended, where the gate is open if unheld holds
pub record Ran (unheld : Type 0) (n : ℕ) (s : SeatView) (e : Ending) (calls : Calls) (t : SeatView) : Type 0 where
  pub on : Continues n s t
  pub ends : IsEnding n e calls
  pub free : s.acts ≡ false → e ≡ ending.HeldBack → ⊥
  pub got_on : s.acts ≡ true → unheld → WhereDone e (GotOn n s t)
  pub asks : s.acts ≡ true → e ≡ ending.NoHart → IsSomeAnd (state_in t) AsksBank
