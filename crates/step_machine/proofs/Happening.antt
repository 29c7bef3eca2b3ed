-- What a machine that holds what its history says does is what happens to the history.
use Rattle.std.proofs.Common.{◌≡◌, ℕ, ◌<◌, List, [], length, Option, Some, None, refl, sym, ap, arith}
use Rattle.std.specs.Prelude.{option_map}
use Rattle.std.specs.List.{slice_get}
use Rattle.std.proofs.lemmas.Option.{slice_get_within}
use Rattle.hart.specs.{HartState, HartView, need_of}
use Rattle.hart.specs.declared.status.Status.{Status}
use Rattle.hart.specs.declared.status.Status.TheVariants as status
use Rattle.step_machine.specs.Names.{Event, Entry, Outcome, History, hart_of, pending, state_of, WellFormed, is_over, CanFollow, NoEntry, idle_in, Happens}
use Rattle.step_machine.specs.Names.{IsInRange, outcome_for, land_in, Config, entries_after, act_in, act_outcome, land_outcome, outcome_of, view_state}
use Rattle.step_machine.specs.Names.{Represents}
use Rattle.step_machine.specs.declared.events.Event.TheVariants as event
use Rattle.step_machine.specs.declared.events.Outcome.TheVariants as outcome
use Rattle.step_machine.proofs.Follows.{state_after, follows, act_only, land_follows, Path-hart, Legal-last}
use Rattle.step_machine.proofs.Decides.{need_of-in_range, Decided, StoresRepresent-sees, outcome_for-decided}
use Rattle.memory.specs.declared.writes.Write.{Write}

-- the history after an outcome
abbrev pub history_after : History → Outcome → History
history_after t o = record { opening = t.opening; entries = entries_after t.entries o }

-- what is known of a machine between two steps
pub record Stands (B M : ℕ) (t : History) (c : Config) : Type 0 where
  pub kept : WellFormed B M t
  pub tied : Represents M t c

pub no_hart : {X Y : Type 0} (f : X → Y) (o : Option X) → option_map f o ≡ None → o ≡ None
no_hart f o e = grind arith

-- no entry of a hart that isn't there can follow
pub none-no_hart : (B M : ℕ) (t : History) (h : ℕ) (d : Entry) → state_of M t h ≡ None → hart_of d ≡ h → CanFollow B M t d → ⊥
none-no_hart B M t h d none mine f = grind (arith, Path-hart, no_hart, state_after)

-- a hart with a state is one of the opening's, and keeps its path
pub state_of-hart : (M : ℕ) (t : History) (h : ℕ) (s : HartState) → state_of M t h ≡ Some s → h < length t.opening.harts
state_of-hart M t h s is = grind (arith, state_after, slice_get_within)

running_happens : (B M : ℕ) (t : History) (h : ℕ) (s : HartState) (o : Outcome) → WellFormed B M t
    → state_of M t h ≡ Some s → s.status ≡ status.Running → Decided B t h (need_of s) o
    → Happens B M t (event.Act h) o (history_after t o)
running_happens B M t h s o kept is run d = grind (arith, state_of-hart, follows, act_only)

-- a hart that doesn't run does nothing more
pub over_happens : (B M : ℕ) (t : History) (h : ℕ) (s : HartState) → state_of M t h ≡ Some s
    → (s.status ≡ status.Running → ⊥) → idle_in s.status outcome.Waited ≡ outcome.Over
    → Happens B M t (event.Act h) outcome.Over t
over_happens B M t h s is over idles = grind (arith, act_only B M t h s)

status_happens : (B M : ℕ) (t : History) (h : ℕ) (s : HartState) (st : Status) (o : Outcome) → WellFormed B M t
    → state_of M t h ≡ Some s → s.status ≡ st → Decided B t h (need_of s) o
    → Happens B M t (event.Act h) (act_in st o) (history_after t (act_in st o))
status_happens B M t h s status.Running o kept is run d = running_happens B M t h s o kept is run d
status_happens B M t h s other o kept is run d = over_happens B M t h s is (λ r. cc) (ap (λ x. idle_in x outcome.Waited) run)

act_happens : (B M : ℕ) (t : History) (c : Config) (h : ℕ) (so : Option HartView) → Stands B M t c
    → ((v : HartView) → so ≡ Some v → v.state.words ≡ M) → option_map view_state so ≡ state_of M t h
    → Happens B M t (event.Act h) (act_outcome B c h so) (history_after t (act_outcome B c h so))
act_happens B M t c h None stands words is = grind (arith, none-no_hart)
act_happens B M t c h (Some v) stands words is =
    let range : IsInRange M (need_of v.state) = need_of-in_range M v.state (words v refl) in
    status_happens B M t h v.state v.state.status (outcome_for B c.stored h (need_of v.state)) stands.kept (sym is) refl
    (outcome_for-decided B M t c.stored h (need_of v.state) (StoresRepresent-sees M t c.stored h stands.tied.holds) range)

land_none : (B M : ℕ) (t : History) (h : ℕ) → pending h t.entries ≡ [] → NoEntry B M t (event.Land h)
land_none B M t h empty d is f = grind (arith, Legal-last)

idle_land : (B M : ℕ) (t : History) (h : ℕ) (s : HartState) (st : Status) → state_of M t h ≡ Some s → s.status ≡ st
    → pending h t.entries ≡ []
    → Happens B M t (event.Land h) (land_in [] h (is_over st)) (history_after t (land_in [] h (is_over st)))
idle_land B M t h s st is run empty = grind (arith, land_none)

-- a landing where this is pending
pub some_land : (B M : ℕ) (t : History) (h : ℕ) (s : HartState) (ps : List Write) → WellFormed B M t
    → state_of M t h ≡ Some s → ps ≡ pending h t.entries
    → Happens B M t (event.Land h) (land_in ps h (is_over s.status)) (history_after t (land_in ps h (is_over s.status)))
some_land B M t h s ps kept is ps8 = grind (arith, idle_land, follows, land_follows, state_of-hart)

land_happens : (B M : ℕ) (t : History) (c : Config) (h : ℕ) (so : Option HartView) → Stands B M t c
    → option_map view_state so ≡ state_of M t h
    → Happens B M t (event.Land h) (land_outcome c h so) (history_after t (land_outcome c h so))
land_happens B M t c h so stands is = grind (arith, none-no_hart, some_land)

-- the outcome of an event is the one that the history allows, and the history goes on by it
pub outcome_of-happens : (B M : ℕ) (t : History) (c : Config) (ev : Event) → Stands B M t c
    → ((h : ℕ) (v : HartView) → slice_get c.harts h ≡ Some v → v.state.words ≡ M)
    → Happens B M t ev (outcome_of B c ev) (history_after t (outcome_of B c ev))
outcome_of-happens B M t c ev stands words = grind (arith, act_happens, land_happens)
