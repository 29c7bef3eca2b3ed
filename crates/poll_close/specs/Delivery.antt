-- What a channel delivers: the reports of the run of its events, and they are clean.
use Rattle.std.specs.Prelude.{ℕ, ◌≡◌, ◌<◌, true, List, [], length}
use Rattle.std.specs.List.{slice_index_or}
use Rattle.hart.specs.declared.need.Report.{Report}
use Rattle.step_machine.specs.declared.events.Event.{Event}
use Rattle.step_machine.specs.History.{OpeningValue, History}
use Rattle.step_machine.specs.Entries.{reported}
use Rattle.step_machine.specs.Runs.{Run, RunFrom}
use Rattle.poll_close.specs.Layout.{Layout}
use Rattle.poll_close.specs.Laws.{Ring, AcceptedAt, opening_over}
use Rattle.poll_close.specs.Reports.{taken, Clean}
use Rattle.poll_close.specs.Plans.{is_closed, is_done}

-- these are hart 0's reports in the run of the events from this opening, and they are clean
pub record Delivers (B M : ℕ) (o : OpeningValue) (lists : List (List ℕ)) (events : List Event) (reports : List Report) : Type 0 where
  pub history : History
  pub run : Run B M o events history
  pub answer : reports ≡ reported 0 history.entries
  pub clean : Clean reports lists

-- after the events a plan ran, which has none where it is not needed: these are hart 0's reports at its
-- end, they are clean, each list is taken whole and each sender is reported closed
pub record DeliversWhole (B M : ℕ) (o : OpeningValue) (lists : List (List ℕ)) (events : List Event) (reports : List Report) : Type 0 where
  pub plan : List Event
  pub middle : History
  pub history : History
  pub run : Run B M o events middle
  pub finish : RunFrom B M middle plan history
  pub none : is_done middle ≡ true → plan ≡ []
  pub answer : reports ≡ reported 0 history.entries
  pub clean : Clean reports lists
  pub closed : (i : ℕ) → i < length lists → is_closed reports i ≡ true
  pub whole : (i : ℕ) → i < length lists → taken reports i ≡ slice_index_or lists i []

-- the same of a channel of this kind in a layout: the lists are those of its opening
abbrev pub DeliversOver : Ring → ℕ → ℕ → List (List ℕ) → Layout → List Event → List Report → Type 0
DeliversOver ring B M lists l events reports = Delivers B M (opening_over ring lists l) lists events reports

abbrev pub DeliversWholeOver : Ring → ℕ → ℕ → List (List ℕ) → Layout → List Event → List Report → Type 0
DeliversWholeOver ring B M lists l events reports = DeliversWhole B M (opening_over ring lists l) lists events reports

-- this holds of each channel of this kind, and of all events, whose run is this history
abbrev pub ForEachRun : Ring → ℕ → ℕ → History → (List (List ℕ) → Layout → List Event → Type 0) → Type 0
ForEachRun ring B M t Holds = (lists : List (List ℕ)) (l : Layout) (events : List Event) → AcceptedAt ring M lists l
    → Run B M (opening_over ring lists l) events t → Holds lists l events
