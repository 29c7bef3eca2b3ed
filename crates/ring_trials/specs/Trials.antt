-- Runs of a channel, by schedules that a generator draws, and their totals.
use Rattle.std.specs.Prelude.{ℕ, ◌≡◌, ◌+◌, ◌^◌, ◌<◌, max, List, [], ◌∷◌, ◌++◌, length, if◌then◌else◌, Option, Some, None}
use Rattle.std.specs.List.{slice_get}
use Rattle.step_machine.specs.declared.events.Event.{Event}
use Rattle.step_machine.specs.declared.events.Entry.{Entry}
use Rattle.step_machine.specs.declared.events.Outcome.{Outcome}
use Rattle.step_machine.specs.declared.events.Outcome.TheVariants as outcome
use Rattle.step_machine.specs.History.{History, OpeningValue}
use Rattle.step_machine.specs.Entries.{reported}
use Rattle.step_machine.specs.Runs.{Run}
use Rattle.step_machine.specs.Standing.{RepresentsHistory, RepresentsRunFrom}
use Rattle.step_machine.specs.inner.Config.{Config}
use Rattle.drawn_runs.specs.Samples.{DrawnRuns, schedule_in}
use Rattle.poll_close.specs.Layout.{base_of}
use Rattle.poll_close.specs.Reports.{taken}
use Rattle.poll_close.specs.Plans.{is_closed}
use Rattle.poll_close.specs.Violations.{first_violation, AreNotes, IsKept}
use Rattle.poll_close.specs.declared.clean.Violation.{Violation}
use Rattle.poll_close.specs.declared.clean.Share.{Share}
use Rattle.judged_runs.specs.Telling.{AreRuns}
use Rattle.ring_trials.specs.UserChannel.{lists_of, layout_from, start_of}
use Rattle.ring_trials.specs.declared.user_channel.UserChannel.{UserChannel}
use Rattle.ring_trials.specs.declared.runs.Total.{Total}

-- what is noted of a run after these entries: the first violation, if there is one, and where there is none of each
-- sender what it takes to find the next
pub record AreNoted (channel : UserChannel) (es : List Entry) (found : Option Violation) (shares : List Share) : Type 0 where
  pub violation : found ≡ first_violation (layout_from channel) (lists_of channel) es
  pub notes : found ≡ None → AreNotes (reported 0 es) shares
  pub count : length shares ≡ length (lists_of channel)

-- the entries after an event with this outcome
abbrev pub entries_with : List Entry → Outcome → List Entry
entries_with es (outcome.Did e) = es ++ e ∷ []
entries_with es outcome.Waited = es
entries_with es outcome.NothingToLand = es
entries_with es outcome.Over = es
entries_with es outcome.NoHart = es

-- These events run from the opening of this channel, and their first violation is this one. Where there is none, this
-- is noted of each sender.
pub record IsChannelJudged (B M : ℕ) (channel : UserChannel) (events : List Event) (found : Option Violation) (shares : List Share) : Type 0 where
  pub history : History
  pub run : Run B M (start_of channel) events history
  pub noted : AreNoted channel history.entries found shares

-- the same where a machine stands after them
pub record IsChannelJudgedAt (B M : ℕ) (channel : UserChannel) (events : List Event) (c : Config)
    (found : Option Violation) (shares : List Share) : Type 0 where
  pub history : History
  pub run : Run B M (start_of channel) events history
  pub opening : history.opening ≡ start_of channel
  pub stands : RepresentsHistory B M history c
  pub noted : AreNoted channel history.entries found shares

-- the schedules of drawn runs of a channel
abbrev pub channel_schedule : DrawnRuns → UserChannel → (number : ℕ) → List Event
channel_schedule d channel = schedule_in d (length (start_of channel).harts)

-- the run keeps what a ring must
abbrev pub KeepsAll : UserChannel → History → Type 0
KeepsAll channel t = IsKept (layout_from channel) (lists_of channel) t.entries

-- a run of these events that does
pub record IsClean (B M : ℕ) (channel : UserChannel) (events : List Event) : Type 0 where
  pub history : History
  pub run : Run B M (start_of channel) events history
  pub kept : KeepsAll channel history

-- a run of these events whose first violation is this one
pub record HasViolation (B M : ℕ) (channel : UserChannel) (events : List Event) (violation : Violation) : Type 0 where
  pub history : History
  pub run : Run B M (start_of channel) events history
  pub breaks : first_violation (layout_from channel) (lists_of channel) history.entries ≡ Some violation

-- how many words of sender i were taken at most
abbrev pub most_of : (i : ℕ) → List History → ℕ
most_of i [] = 0
most_of i (t ∷ ts) = max (length (taken (reported 0 t.entries) i)) (most_of i ts)

-- in how many runs it was closed
abbrev pub closed_in : (i : ℕ) → List History → ℕ
closed_in i [] = 0
closed_in i (t ∷ ts) = (if is_closed (reported 0 t.entries) i then 1 else 0) + closed_in i ts

-- these are the totals of the senders, from sender 0 on
pub record AreTotals (ts : List History) (totals : List Total) : Type 0 where
  pub most : (i : ℕ) (s : Total) → slice_get totals i ≡ Some s → s.most ≡ most_of i ts
  pub closed : (i : ℕ) (s : Total) → slice_get totals i ≡ Some s → s.closed ≡ closed_in i ts

-- the totals of the runs of these lists of events, one for each sender
pub record AreTotalsOf (B M : ℕ) (channel : UserChannel) (all : List (List Event)) (totals : List Total) : Type 0 where
  pub histories : List History
  pub runs : AreRuns B M (start_of channel) all histories
  pub totals_are : AreTotals histories totals
  pub count : length totals ≡ length (lists_of channel)

-- the machine stands at the end of some run of this channel, whose blocks end within 32 bits, and each sender has a share
pub record IsBenchOf (B M : ℕ) (channel : UserChannel) (machine : Config) (shares : List Share) : Type 0 where
  pub stands : RepresentsRunFrom B M (start_of channel) machine
  pub ends : base_of (layout_from channel) (length (lists_of channel)) < 2 ^ 32
  pub count : length shares ≡ length (lists_of channel)
