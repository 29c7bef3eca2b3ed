-- A machine that keeps no history stands at the end of histories, and goes on from each of them.
use Rattle.std.specs.Prelude.{ℕ, ◌≡◌, List}
use Rattle.step_machine.specs.History.{History, OpeningValue, at_opening}
use Rattle.step_machine.specs.Runs.{Happens, RunFrom}
use Rattle.step_machine.specs.inner.Config.{Config}
use Rattle.step_machine.specs.inner.Representation.{IsMachineAt}
use Rattle.step_machine.specs.declared.events.Event.{Event}
use Rattle.step_machine.specs.declared.events.Outcome.{Outcome}

-- its harts, store buffers and memory are what the history, which is kept, leaves of its opening
abbrev pub RepresentsHistory : ℕ → ℕ → History → Config → Type 0
RepresentsHistory B M t c = IsMachineAt B M t c 0

-- it stands at the end of a history from this opening
abbrev pub RepresentsRunFrom : ℕ → ℕ → OpeningValue → Config → Type 0
RepresentsRunFrom B M o c = (t : History) × RepresentsHistory B M t c × (t.opening ≡ o)

-- this holds of each history at whose end it stands
abbrev pub ForEachHistory : ℕ → ℕ → Config → (History → Type 0) → Type 0
ForEachHistory B M c Property = (t : History) → RepresentsHistory B M t c → Property t

-- an event with this outcome: it makes a history of each, at whose end the machine then stands
abbrev pub MovesBy : ℕ → ℕ → Event → Outcome → Config → Config → Type 0
MovesBy B M ev o old new = ForEachHistory B M old (λ t. (u : History) × Happens B M t ev o u × RepresentsHistory B M u new)

-- these events, one after the other
abbrev pub RunsBy : ℕ → ℕ → List Event → Config → Config → Type 0
RunsBy B M evs old new = ForEachHistory B M old (λ t. (u : History) × RunFrom B M t evs u × RepresentsHistory B M u new)

-- back to where the history began
abbrev pub BeginsAnew : ℕ → ℕ → Config → Config → Type 0
BeginsAnew B M old new = ForEachHistory B M old (λ t. RepresentsHistory B M (at_opening t.opening) new)
