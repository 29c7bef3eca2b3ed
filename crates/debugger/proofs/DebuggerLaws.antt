-- The debugger's state: what came from the schedule is the schedule's up to its place.
use Rattle.std.proofs.Common.{◌≡◌, ℕ, suc, ◌+◌, ◌-◌, ◌≤◌, ◌<◌, List, [], ◌∷◌, ◌++◌, length, take, drop, min, get_or, Some, refl, sym, ap, ◌∙◌, arith}
use Rattle.std.proofs.Common.{length-append, length-drop, take_all}
use Rattle.std.specs.List.{slice_get}
use Rattle.std.proofs.lemmas.List.{take_more, take-take, length-take, append-nil}
use Rattle.std.proofs.lemmas.List.Sums.{sum_by-append, sum_by-take-drop}
use Rattle.std.proofs.lemmas.Option.{slice_get_within, get_or_from_slice_get}
use Rattle.step_machine.specs.declared.events.Event.{Event}
use Rattle.debugger.specs.{Source, Schedule, User, Past, GoesBack, DebuggerState, IsWellFormed, GoesBackBy, scheduled, of_schedule}

pub scheduled-append : (xs ys : List Source) → scheduled (xs ++ ys) ≡ scheduled xs + scheduled ys
scheduled-append xs ys = sum_by-append _ xs ys

-- a list's front and end, counted apart
pub scheduled-split : (k : ℕ) (xs : List Source) → scheduled (take k xs) + scheduled (drop k xs) ≡ scheduled xs
scheduled-split k xs = sum_by-take-drop _ xs k

of_schedule-append : (ss more : List Source) (es others : List Event) → length ss ≡ length es
    → of_schedule (ss ++ more) (es ++ others) ≡ of_schedule ss es ++ of_schedule more others
of_schedule-append [] more [] others same = refl
of_schedule-append (Schedule ∷ ss) more (e ∷ es) others same = ap (λ (xs : List Event). e ∷ xs) (of_schedule-append ss more es others (omega arith))
of_schedule-append (User ∷ ss) more (e ∷ es) others same = of_schedule-append ss more es others (omega arith)
of_schedule-append x more y others same = absurd (omega arith)

counted_first : (s : Source) (ss : List Source) → scheduled (s ∷ ss) ≡ scheduled (s ∷ []) + scheduled ss
counted_first s ss = scheduled-append (s ∷ []) ss

-- of the first events those came from the schedule that it gave first
of_schedule-take : (k : ℕ) (ss : List Source) (es : List Event) → length ss ≡ length es
    → of_schedule (take k ss) (take k es) ≡ take (scheduled (take k ss)) (of_schedule ss es)
of_schedule-take (suc k) [] (e ∷ es) same = absurd (omega arith)
of_schedule-take (suc k) (s ∷ ss) [] same = absurd (omega arith)
of_schedule-take (suc k) (Schedule ∷ ss) (e ∷ es) same =
    let count : scheduled (Schedule ∷ take k ss) ≡ suc (scheduled (take k ss)) = counted_first Schedule (take k ss)
    ∙ (let one : 0 + 1 + scheduled (take k ss) ≡ suc (scheduled (take k ss)) = omega arith in one) in
    ap (λ (xs : List Event). e ∷ xs) (of_schedule-take k ss es (omega arith)) ∙ ap (λ (n : ℕ). take n (e ∷ of_schedule ss es)) (sym count)
of_schedule-take (suc k) (User ∷ ss) (e ∷ es) same =
    let count : scheduled (User ∷ take k ss) ≡ scheduled (take k ss) = counted_first User (take k ss)
    ∙ (let none : 0 + 0 + scheduled (take k ss) ≡ scheduled (take k ss) = omega arith in none) in
    of_schedule-take k ss es (omega arith) ∙ ap (λ (n : ℕ). take n (of_schedule ss es)) (sym count)
of_schedule-take x y z same = refl

-- what came from the schedule, with one event more
done_more : (w : DebuggerState) (ev : Event) (source : Source) → w.place ≤ length w.schedule → (source ≡ Schedule → slice_get w.schedule w.place ≡ Some ev)
    → (w.place + scheduled (source ∷ []) ≤ length w.schedule) × (take w.place w.schedule
    ++ of_schedule (source ∷ []) (ev ∷ []) ≡ take (w.place + scheduled (source ∷ [])) w.schedule)
done_more w ev Schedule within next =
    let less : w.place < length w.schedule = slice_get_within w.schedule w.place ev (next refl) in
    let is : get_or w.schedule w.place ev ≡ ev = get_or_from_slice_get w.schedule w.place ev ev (next refl) in
    (omega arith, ap (λ (e : Event). take w.place w.schedule ++ e ∷ []) (sym is) ∙ sym (take_more w.schedule w.place ev less))
done_more w ev User within next =
    let none : w.place ≡ w.place + 0 = omega arith in
    (omega arith, append-nil (take w.place w.schedule) ∙ ap (λ (n : ℕ). take n w.schedule) none)

-- an event from this source was done
pub kept_taken : (w : DebuggerState) (past : Past) (ev : Event) (source : Source) → IsWellFormed w
    → past.events ≡ w.past.events ++ ev ∷ [] → (source ≡ Schedule → slice_get w.schedule w.place ≡ Some ev)
    → IsWellFormed (record { past = past; schedule = w.schedule; sources = w.sources ++ source ∷ []; place = w.place + scheduled (source ∷ []) })
kept_taken w past ev source kept events next =
    let more = done_more w ev source kept.within next in
    record {
      each = length-append w.sources (source ∷ []) ∙ ap (λ (n : ℕ). n + 1) kept.each ∙ sym (ap length events ∙ length-append w.past.events (ev ∷ []));
      place = ap (λ (n : ℕ). n + scheduled (source ∷ [])) kept.place ∙ sym (scheduled-append w.sources (source ∷ []));
      within = more.0;
      done = ap (of_schedule (w.sources ++ source ∷ [])) events ∙ of_schedule-append w.sources (source ∷ []) w.past.events (ev ∷ []) kept.each
          ∙ ap (λ (xs : List Event). xs ++ of_schedule (source ∷ []) (ev ∷ [])) kept.done ∙ more.1;
    }

-- what the sources count that are dropped, as a slice has them
pub undone_of : (xs : List Source) (given : List Source) (left undone : ℕ) → given ≡ xs
    → undone ≡ scheduled (take (length given - left) (drop left given)) → undone ≡ scheduled (drop left xs)
undone_of xs given left undone same is = grind (arith, take_all, length-drop)

-- and the schedule's place has at least this number before it
pub undone_within : (w : DebuggerState) (left undone : ℕ) → IsWellFormed w → undone ≡ scheduled (drop left w.sources) → undone ≤ w.place
undone_within w left undone kept is = omega (arith, is, scheduled-split left w.sources, kept.place)

-- what is left of a debugger where a session went back
abbrev pub left_of : (w : DebuggerState) (past : Past) (left undone : ℕ) → DebuggerState
left_of w past left undone = record { past = past; schedule = w.schedule; sources = take left w.sources; place = w.place - undone }

-- the last k events were undone, and `left` remain
pub gone_back : (B M : ℕ) (w : DebuggerState) (past : Past) (k left undone : ℕ) → IsWellFormed w → GoesBack B M w.past k past → left ≡ length w.sources - k
    → undone ≡ scheduled (drop left w.sources) → IsWellFormed (left_of w past left undone) × GoesBackBy B M w k (left_of w past left undone)
gone_back B M w past k left undone kept back is gone =
    let split = scheduled-split left w.sources in
    let below : scheduled (take left w.sources) ≤ w.place = omega (arith, split, kept.place) in
    let place : w.place - undone ≡ scheduled (take left w.sources) = omega (arith, gone, split, kept.place) in
    let same : length w.past.events - k ≡ left = ap (λ (n : ℕ). n - k) (sym kept.each) ∙ sym is in
    let events : past.events ≡ take left w.past.events = back.events ∙ ap (λ (n : ℕ). take n w.past.events) same in (
      record {
        each = length-take left w.sources ∙ ap (min left) kept.each ∙ sym (ap length events ∙ length-take left w.past.events);
        place = place;
        within = omega (arith, below, kept.within);
        done = ap (of_schedule (take left w.sources)) events ∙ of_schedule-take left w.sources w.past.events kept.each
            ∙ ap (take (scheduled (take left w.sources))) kept.done ∙ take-take (scheduled (take left w.sources)) w.place w.schedule below
            ∙ ap (λ (n : ℕ). take n w.schedule) (sym place);
      },
      record {
        past = back;
        schedule = refl;
        sources = ap (λ (n : ℕ). take n w.sources) is;
        place = rw (← is) (omega (arith, gone, split, kept.place));
      },
    )
