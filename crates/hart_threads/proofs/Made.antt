-- A kept history's entries come about one by one, each by its own event.
use Rattle.std.proofs.Common.{arith, ◌≡◌, ℕ, ◌+◌, ◌<◌, List, [], ◌∷◌, ◌++◌, length, get_or, take, drop, sym, subst}
use Rattle.std.proofs.lemmas.List.{take-append-drop, take_more}
use Rattle.step_machine.specs.declared.events.Entry.{Entry}
use Rattle.step_machine.specs.declared.events.Event.{Event}
use Rattle.step_machine.specs.declared.events.Outcome.{Outcome}
use Rattle.step_machine.specs.declared.events.Outcome.TheVariants as outcome
use Rattle.step_machine.specs.Names.{OpeningValue, History, history_of, hart_of, WellFormed, CanFollow, Happens, event_of, Run}
use Rattle.step_machine.proofs.{kept-front, added, happens-one}
use Rattle.poll_close.specs.Layout.{Layout}
use Rattle.poll_close.specs.Laws.{Ring, opening_over, AcceptedAt}
use Rattle.hart_threads.specs.{ChannelFault, Record, IsRecord, channel_fault_at, RecordFails, ChannelFailsAt}

-- each of its entries can follow those before it
follows : (B M : ℕ) (o : OpeningValue) (es : List Entry) (i : ℕ) (d : Entry) → i < length es
    → WellFormed B M (history_of o es) → CanFollow B M (history_of o (take i es)) (get_or es i d)
follows B M o es i d within kept =
    let front : WellFormed B M (history_of o (take (i + 1) es)) =
    kept-front B M o (take (i + 1) es) (drop (i + 1) es)
    (subst (λ (xs : List Entry). WellFormed B M (history_of o xs)) (sym (take-append-drop (i + 1) es)) kept) in
    let here : WellFormed B M (history_of o (take i es ++ get_or es i d ∷ [])) =
    subst (λ (xs : List Entry). WellFormed B M (history_of o xs)) (take_more es i d within) front in
    record { legal = here.legal; path = here.paths (hart_of (get_or es i d)) (kept.of_harts i d within) }

-- so an event that makes another one, or none, is of no kept history
pub other_made : (B M : ℕ) (o : OpeningValue) (es : List Entry) (i : ℕ) (d : Entry) (t new : History) (ev : Event)
    (out : Outcome) → i < length es → t ≡ history_of o (take i es) → ev ≡ event_of (get_or es i d)
    → Happens B M t ev out new → (out ≡ outcome.Did (get_or es i d) → ⊥) → WellFormed B M (history_of o es) → ⊥
other_made B M o es i d t new ev out within is next happens other kept = grind (arith, get_or, happens-one, added, follows)

-- ---- a record of a channel's opening is a run of it, so that the laws of channels speak of it

pub run_of : (B M : ℕ) (o p : OpeningValue) (r : Record B M) → o ≡ p → IsRecord B M o r → Run B M p r.events.items r.trace
run_of B M o p r is made = subst (λ (q : OpeningValue). Run B M q r.events.items r.trace) is made.run

-- a channel that opens and gives no record has a fault of threads, or memory ran out
pub channel_fails_at : (ring : Ring) (B M n : ℕ) (l : Layout) (lists : List (List ℕ)) (o : OpeningValue) (e : ChannelFault)
    → o ≡ opening_over ring lists l → AcceptedAt ring M lists l → RecordFails B M n o e
    → ChannelFailsAt ring B M n lists l (channel_fault_at e)
channel_fails_at ring B M n l lists o e is accepted fails = grind arith
