-- A sound machine stays sound, whatever the event.
use Rattle.std.proofs.Common.{◌≡◌, ℕ, ◌-◌, ◌≤◌, List, [], length, get_or, Option, Some, None, sym, ◌∙◌, ap, subst, arith}
use Rattle.std.specs.Prelude.{map, option_map, All}
use Rattle.std.specs.List.{slice_get}
use Rattle.std.proofs.lemmas.List.{length-map}
use Rattle.std.proofs.lemmas.Option.{slice_get_within, slice_get-get_or, get_or_from_slice_get, slice_get-map}
use Rattle.hart.specs.{HartState, HartView, stepped}
use Rattle.hart.specs.declared.need.Report.{Report}
use Rattle.step_machine.specs.Names.{Event, Entry, Outcome, OpeningValue, History, at_opening, FitsIn, Happens, Stored, FitStored, Config, Fit, AllHaveRoom}
use Rattle.step_machine.specs.Names.{SameButRoom, without_room, beginning, step_at, view_state, after_entry, after_outcome, entries_after, outcome_of}
use Rattle.step_machine.specs.Names.{opened_config, Represents, IsMachineAt}
use Rattle.step_machine.proofs.Carried.{carried}
use Rattle.step_machine.proofs.Fitting.{length-step_at}
use Rattle.step_machine.proofs.Happening.{history_after, outcome_of-happens}
use Rattle.step_machine.proofs.Opens.{fit_opened, tied_opened}
use Rattle.step_machine.proofs.Rooms.{written_at_place, same-length}
use Rattle.step_machine.proofs.Running.{kept-at_opening, kept_after}
use Rattle.step_machine.proofs.Stays.{first_same}

-- room is no part of what a history says

without_room-at : (c : Config) (h : ℕ) → option_map without_room (slice_get c.harts h) ≡ slice_get (map without_room c.harts) h
without_room-at c h = sym (slice_get-map without_room c.harts h)

same_without_room : (c d : Config) (h : ℕ) → SameButRoom c d → option_map without_room (slice_get d.harts h) ≡ option_map without_room (slice_get c.harts h)
same_without_room c d h same = without_room-at d h ∙ ap (λ (ts : List (HartState × List Report)). slice_get ts h) same.harts ∙ sym (without_room-at c h)

same_states : (so to : Option HartView) → option_map without_room so ≡ option_map without_room to → option_map view_state so ≡ option_map view_state to
same_states so to is = grind arith

-- what is so of a hart is so of another that looks the same
same_at : {X : Type 0} (f : HartView → X) (P : X → Type 0) (so : Option HartView) (v : HartView)
    → option_map f so ≡ Some (f v) → ((w : HartView) → so ≡ Some w → P (f w)) → P (f v)
same_at f P so v is all = grind arith

pub tied_same : (M : ℕ) (t : History) (c d : Config) → Represents M t c → SameButRoom c d → Represents M t d
tied_same M t c d tied same = grind (arith, same_states, same_without_room c d, first_same c.harts d.harts, same_at without_room)

-- room after a step

step_room : (hs : List HartView) (h v n : ℕ) (so : Option HartView) → slice_get hs h ≡ so → AllHaveRoom n hs → AllHaveRoom (n - 1) (step_at hs h v so)
step_room hs h v n None is all = λ k w got. (let some : n ≤ w.room = all k w got in omega arith)
step_room hs h v n (Some x) is all = λ k w got.
    (let here : n ≤ x.room = all h x is in
    let stepped_room : n - 1 ≤ (stepped x v).room = omega arith in
    written_at_place (λ (y : HartView). n - 1 ≤ y.room) hs h k (stepped x v) w (slice_get_within hs h x is) stepped_room
    (λ y other. (let some : n ≤ y.room = all k y other in omega arith)) got)

less_room : (hs : List HartView) (n : ℕ) → AllHaveRoom n hs → AllHaveRoom (n - 1) hs
less_room hs n all h v is = let some : n ≤ v.room = all h v is in omega arith

entry_room : (c : Config) (e : Entry) (n : ℕ) → AllHaveRoom n c.harts → AllHaveRoom (n - 1) (after_entry c e).harts
entry_room c e n all = grind (arith, less_room, step_room)

pub entry_count : (c : Config) (e : Entry) → length (after_entry c e).harts ≡ length c.harts
entry_count c e = grind (arith, length-step_at)

-- openings

pub sound_opened : (B M : ℕ) (o : OpeningValue) → FitsIn M o → IsMachineAt B M (at_opening o) (opened_config M o) 0
sound_opened B M o fits = record {
  fits = fits;
  kept = kept-at_opening B M o;
  tied = tied_opened M o;
  fit = fit_opened M o fits;
  count = length-map o.harts _;
  room = λ h v is. omega arith;
}

-- a machine with other room is as fit, and as sound

pub hart_at : (P : HartView → Type 0) (hs : List HartView) → All P hs → (h : ℕ) (v : HartView) → slice_get hs h ≡ Some v → P v
hart_at P hs all h v is = subst P (get_or_from_slice_get hs h v v is) (all h v (slice_get_within hs h v is))

words_of : (M : ℕ) (c : Config) → Fit M c → (h : ℕ) (v : HartView) → slice_get c.harts h ≡ Some v → v.state.words ≡ M
words_of M c fit = hart_at (λ v. v.state.words ≡ M) c.harts fit.harts

pub fit_same : (M : ℕ) (c d : Config) → Fit M c → SameButRoom c d → Fit M d
fit_same M c d fit same = record {
  buffers = ap (λ (s : Stored). length s.buffers) same.stored ∙ fit.buffers ∙ sym (same-length c d same);
  harts = λ h x lt. (let here : slice_get d.harts h ≡ Some (get_or d.harts h x) = slice_get-get_or d.harts h x lt in
      same_at without_room (λ p. p.0.words ≡ M) (slice_get c.harts h) (get_or d.harts h x)
      (sym (same_without_room c d h same) ∙ ap (option_map without_room) here)
      (words_of M c fit h));
  firsts = λ h x lt. (let here : slice_get d.harts h ≡ Some (get_or d.harts h x) = slice_get-get_or d.harts h x lt in
      same_at beginning (λ s. s.words ≡ M) (slice_get c.harts h) (get_or d.harts h x)
      (sym (first_same c.harts d.harts h same.firsts) ∙ ap (option_map beginning) here)
      (hart_at (λ v. v.first.words ≡ M) c.harts fit.firsts h));
  stored = subst (FitStored M) (sym same.stored) fit.stored;
}

pub sound_same : (B M n m : ℕ) (t : History) (c d : Config) → IsMachineAt B M t c n → SameButRoom c d → AllHaveRoom m d.harts → IsMachineAt B M t d m
sound_same B M n m t c d sound same room = grind (arith, tied_same, fit_same, same-length)

-- steps

pub sound_happens : (B M n : ℕ) (t : History) (c : Config) (ev : Event) → IsMachineAt B M t c n
    → Happens B M t ev (outcome_of B c ev) (history_after t (outcome_of B c ev))
sound_happens B M n t c ev sound = outcome_of-happens B M t c ev (record { kept = sound.kept; tied = sound.tied }) (words_of M c sound.fit)

still : (B M n : ℕ) (t : History) (c : Config) → IsMachineAt B M t c n → IsMachineAt B M t c (n - 1)
still B M n t c sound = record {
  fits = sound.fits;
  kept = sound.kept;
  tied = sound.tied;
  fit = sound.fit;
  count = sound.count;
  room = less_room c.harts n sound.room;
}

sound_outcome : (B M n : ℕ) (t : History) (c : Config) (ev : Event) (o : Outcome) → IsMachineAt B M t c n
    → Happens B M t ev o (history_after t o) → Fit M (after_outcome c o)
    → IsMachineAt B M (history_after t o) (after_outcome c o) (n - 1)
sound_outcome B M n t c ev o sound adds fit = grind (arith, kept_after, carried, entry_count, entry_room, still)

pub sound_held : (B M : ℕ) (o : OpeningValue) (es : List Entry) (c : Config) → FitsIn M o → es ≡ []
    → c ≡ opened_config M o → IsMachineAt B M (record { opening = o; entries = es }) c 0
sound_held B M o es c fits none is = grind (arith, sound_opened B M o fits)

-- the same entries and the same machine except for room
pub sound_moved : (B M n m : ℕ) (o : OpeningValue) (es moved : List Entry) (c d : Config)
    → IsMachineAt B M (record { opening = o; entries = es }) c n → moved ≡ es → SameButRoom c d → AllHaveRoom m d.harts
    → IsMachineAt B M (record { opening = o; entries = moved }) d m
sound_moved B M n m o es moved c d sound is same room = grind (arith, sound_same B M n m (record { opening = o; entries = es }) c d sound same room)

-- a step of a sound machine, and what it leaves
pub happens_stepped : (B M n : ℕ) (t : History) (c : Config) (ev : Event) (o : Outcome) (es : List Entry)
    → IsMachineAt B M t c n → o ≡ outcome_of B c ev → es ≡ entries_after t.entries o
    → Happens B M t ev o (record { opening = t.opening; entries = es })
happens_stepped B M n t c ev o es sound is added = grind (arith, history_after t, sound_happens B M n t c ev sound)

pub sound_stepped : (B M n : ℕ) (t : History) (c d : Config) (ev : Event) (o : Outcome) (es : List Entry)
    → IsMachineAt B M t c n → o ≡ outcome_of B c ev → d ≡ after_outcome c o → Fit M d → es ≡ entries_after t.entries o
    → IsMachineAt B M (record { opening = t.opening; entries = es }) d (n - 1)
sound_stepped B M n t c d ev o es sound is after fit added =
    subst (λ (k : Config). IsMachineAt B M (record { opening = t.opening; entries = es }) k (n - 1)) (sym after)
    (subst (λ (xs : List Entry). IsMachineAt B M (record { opening = t.opening; entries = xs }) (after_outcome c o) (n - 1)) (sym added)
    (sound_outcome B M n t c ev o sound
    (subst (λ (p : Outcome). Happens B M t ev p (history_after t p)) (sym is) (sound_happens B M n t c ev sound))
    (subst (Fit M) after fit)))
