-- A plan that finishes a channel.
use Rattle.std.specs.Prelude.{ℕ, ◌≡◌, ◌-◌, ◌<◌, ◌==◌, true, false, Bool, ◌&&◌, ◌||◌, List, [], ◌∷◌, length, zero, suc}
use Rattle.std.specs.List.{slice_index_or}
use Rattle.hart.specs.declared.need.Report.{Report}
use Rattle.hart.specs.declared.need.Report.TheVariants as report
use Rattle.step_machine.specs.declared.events.Event.{Event}
use Rattle.step_machine.specs.History.{History}
use Rattle.step_machine.specs.Entries.{pending, reported}
use Rattle.step_machine.specs.Runs.{RunFrom}
use Rattle.poll_close.specs.Reports.{taken}
use Rattle.poll_close.specs.Standing.{opening_lists}

-- sender i is reported closed
abbrev pub is_closed : List Report → ℕ → Bool
is_closed [] i = false
is_closed (report.Took j w ∷ rs) i = is_closed rs i
is_closed (report.Closed j ∷ rs) i = (j == i) || is_closed rs i

-- the first i senders are
abbrev pub all_closed : List Report → ℕ → Bool
all_closed rs zero = true
all_closed rs (suc i) = is_closed rs i && all_closed rs i

abbrev pub is_word : Report → Bool
is_word (report.Took j w) = true
is_word (report.Closed j) = false

-- the last report is of a word
abbrev pub ends_in_word : List Report → Bool
ends_in_word [] = false
ends_in_word (report.Took j w ∷ []) = true
ends_in_word (report.Closed j ∷ []) = false
ends_in_word (r ∷ s ∷ rs) = ends_in_word (s ∷ rs)

abbrev pub senders_of : History → ℕ
senders_of t = length t.opening.harts - 1

abbrev pub is_done : History → Bool
is_done t = all_closed (reported 0 t.entries) (senders_of t)

-- every sender is reported closed, and its whole list is taken
pub record Finished (t : History) : Type 0 where
  pub closed : (i : ℕ) → i < senders_of t → is_closed (reported 0 t.entries) i ≡ true
  pub whole : (i : ℕ) → i < senders_of t → taken (reported 0 t.entries) i ≡ slice_index_or (opening_lists t.opening) i []

-- these events run, and after them the channel is finished
pub record Finishes (B M : ℕ) (t : History) (evs : List Event) : Type 0 where
  pub history : History
  pub run : RunFrom B M t evs history
  pub finished : Finished history

-- there are such events
pub record CanFinish (B M : ℕ) (t : History) : Type 0 where
  pub events : List Event
  pub finishes : Finishes B M t events

abbrev pub AllLanded : History → Type 0
AllLanded t = (h : ℕ) → h < length t.opening.harts → pending h t.entries ≡ []
