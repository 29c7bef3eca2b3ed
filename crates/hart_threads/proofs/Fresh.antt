-- The seats of an opening, which have done nothing: what running them says of a record.
use Rattle.std.proofs.Common.{◌⊎◌, inl, inr, ◌≡◌, ℕ, zero, suc, ◌<◌, ◌≤◌, List, [], ◌∷◌, length, refl, sym, ap, subst, arith}
use Rattle.std.specs.Prelude.{All}
use Rattle.std.specs.List.{Contains}
use Rattle.std.proofs.lemmas.Bool.{cases_lt}
use Rattle.std.proofs.lemmas.List.Elements.{All-nil, All-cons, All-append, All-contains, Contains-append_left, Contains-append_right}
use Rattle.step_machine.specs.declared.events.Entry.{Entry}
use Rattle.step_machine.specs.History.{OpeningValue, History}
use Rattle.hart_threads.specs.{SeatView, acting_seat, landing_seat, seats_below, seats_of, part_of, OpensAs, AtMost, SeatGetsOn, AllGetOn, GrowsInto, IsMerged}

-- ---- each hart's seats are among them

later : (h n : ℕ) → h < suc n → (h < n) ⊎ (h ≡ n)
later h n lt = grind (arith, cases_lt)

acting_below : (M : ℕ) (o : OpeningValue) (n h : ℕ) → h < n → Contains (seats_below M o n) (acting_seat M o h)
acting_below M o zero h lt = absurd (omega arith)
acting_below M o (suc n) h lt = elim (later h n lt) [
  | inl less ↦ Contains-append_left (seats_below M o n) (acting_seat M o n ∷ landing_seat n ∷ []) (acting_seat M o h) (acting_below M o n h less)
  | inr is ↦ Contains-append_right (seats_below M o n) (acting_seat M o n ∷ landing_seat n ∷ []) (acting_seat M o h)
      (0, omega arith, ap (acting_seat M o) (sym is))
]

landing_below : (M : ℕ) (o : OpeningValue) (n h : ℕ) → h < n → Contains (seats_below M o n) (landing_seat h)
landing_below M o zero h lt = absurd (omega arith)
landing_below M o (suc n) h lt = elim (later h n lt) [
  | inl less ↦ Contains-append_left (seats_below M o n) (acting_seat M o n ∷ landing_seat n ∷ []) (landing_seat h) (landing_below M o n h less)
  | inr is ↦ Contains-append_right (seats_below M o n) (acting_seat M o n ∷ landing_seat n ∷ []) (landing_seat h) (1, omega arith, ap landing_seat (sym is))
]

-- ---- each hart makes at most n entries, and at most n of its stores land

short : (n : ℕ) (es : List Entry) (s : SeatView) → s.diary ≡ [] → GrowsInto n es s → length (part_of s es) ≤ n
short n es s none grows = grind arith

pub fresh_few : (n M : ℕ) (o : OpeningValue) (seats : List SeatView) (t : History) → seats ≡ seats_of M o
    → t.opening ≡ o → IsMerged n o t.entries seats → AtMost n t
fresh_few n M o seats t fresh opening merge h lt =
    let low : h < length o.harts = subst (λ (x : OpeningValue). h < length x.harts) opening lt in
    let all : All (GrowsInto n t.entries) (seats_of M o) = subst (All (GrowsInto n t.entries)) fresh merge.parts in (
      short n t.entries (acting_seat M o h) refl
          (All-contains (GrowsInto n t.entries) (seats_of M o) (acting_seat M o h) all
          (acting_below M o (length o.harts) h low)),
      short n t.entries (landing_seat h) refl
          (All-contains (GrowsInto n t.entries) (seats_of M o) (landing_seat h) all
          (landing_below M o (length o.harts) h low)),
    )

-- ---- and each acting one opens as its hart

opens_below : (M : ℕ) (o : OpeningValue) (n : ℕ) → All (OpensAs M o) (seats_below M o n)
opens_below M o zero = All-nil (OpensAs M o)
opens_below M o (suc n) =
    All-append (OpensAs M o) (seats_below M o n) (acting_seat M o n ∷ landing_seat n ∷ []) (opens_below M o n)
    (All-cons (OpensAs M o) (acting_seat M o n) (landing_seat n ∷ []) (λ acts. refl)
    (All-cons (OpensAs M o) (landing_seat n) [] (λ acts. absurd (cc)) (All-nil (OpensAs M o))))

pub fresh_opens : (M : ℕ) (o : OpeningValue) (seats : List SeatView) → seats ≡ seats_of M o → All (OpensAs M o) seats
fresh_opens M o seats fresh = subst (All (OpensAs M o)) (sym fresh) (opens_below M o (length o.harts))

-- ---- so each hart gets on where each seat's does

pub fresh_get_on : (n M : ℕ) (o : OpeningValue) (seats : List SeatView) (t : History) → seats ≡ seats_of M o
    → t.opening ≡ o → All (SeatGetsOn n M t) seats → AllGetOn n M t
fresh_get_on n M o seats t fresh opening all h lt =
    All-contains (SeatGetsOn n M t) (seats_of M o) (acting_seat M o h) (subst (All (SeatGetsOn n M t)) fresh all)
    (acting_below M o (length o.harts) h (subst (λ (x : OpeningValue). h < length x.harts) opening lt)) refl
