-- What the entries of a trace perform: of each hart its stores in order, as many as it has landings,
-- and each load and AMO at its place.
use Rattle.std.proofs.Common.{◌≡◌, ℕ, zero, suc, ◌+◌, ◌≤◌, ◌<◌, ◌==◌, Bool, true, false, not, ◌||◌, if◌then◌else◌, nat_lt, List, [], ◌∷◌, ◌++◌, length, take}
use Rattle.std.proofs.Common.{drop, Some, refl, sym, ◌∙◌, ap, arith, append-nil, append_assoc, length-append}
use Rattle.std.specs.Prelude.{filter, option_to_list}
use Rattle.std.specs.List.{AllPass, slice_get}
use Rattle.std.proofs.lemmas.Bool.{eqb-true, eqb-false, ne_eqb, and_parts, ltb-true, ltb-false}
use Rattle.std.proofs.Math.Seq.{drop-nil, take-nil}
use Rattle.std.proofs.lemmas.List.{take-append-drop}
use Rattle.std.proofs.lemmas.List.Elements.{All-append, All-cons, All-drop, All-nil, All-weaker, filter-append}
use Rattle.step_machine.specs.Entries.{hart_of, land_of, lands}
use Rattle.step_machine.specs.declared.events.Entry.{Entry}
use Rattle.step_machine.specs.declared.events.Entry.TheVariants as entry
use Rattle.step_machine.proofs.Appended.{entry_there}
use Rattle.ztso_axioms.specs.Operations.{is_load, is_amo, is_operation, passes, is_at}
use Rattle.ztso_axioms.specs.Performed.{places_of, is_store_of, store_places, performed_by, performed_after, left_places, left_below, hart_bound}
use Rattle.ztso_axioms.proofs.Members.{IsPassed, places_of-cons, place_of, lands-last, AllPass-get, AllPass-places, filter-every, filter-none}
use Rattle.ztso_axioms.proofs.Walks.{no_stores, hart_below}

-- an entry that reads memory
abbrev pub is_reader : Entry → Bool
is_reader e = is_load e || is_amo e

-- the place holds a store of hart h
abbrev pub stores_at : List Entry → ℕ → ℕ → Bool
stores_at es h p = is_at (is_store_of h) es p

abbrev pub reads_at : List Entry → ℕ → Bool
reads_at es p = is_at is_reader es p

at_here : (test : Entry → Bool) (all us : List Entry) (e : Entry) (ws : List Entry) → all ≡ us ++ e ∷ ws → is_at test all (length us) ≡ test e
at_here test all us e ws split = ap (λ es. passes test (slice_get es (length us))) split ∙ ap (passes test) (entry_there us e ws)

-- take one more
take_next : (xs : List ℕ) (k n : ℕ) → option_to_list (slice_get xs k) ++ take n (drop (k + 1) xs) ≡ take (1 + n) (drop k xs)
take_next [] k n = ap (take n) (drop-nil (k + 1)) ∙ take-nil n ∙ sym (ap (take (1 + n)) (drop-nil k) ∙ take-nil (1 + n))
take_next (x ∷ xs) zero n = let one : 1 + n ≡ suc n = omega arith in ap (λ m. take m (x ∷ xs)) (sym one)
take_next (x ∷ xs) (suc k) n = let one : suc k + 1 ≡ suc (k + 1) = omega arith in
    ap (λ m. option_to_list (slice_get xs k) ++ take n (drop m (x ∷ xs))) one ∙ take_next xs k n

-- a store of one hart is none of another's
others_not : (all : List Entry) (h g : ℕ) → (g ≡ h → ⊥) → (x : ℕ) → stores_at all g x ≡ true → not (stores_at all h x) ≡ true
others_not all h g ne x is = grind (arith, and_parts, eqb-true)

-- a list of one hart's stores has none of another's
pub filter_others : (all : List Entry) (h g : ℕ) (xs : List ℕ) → (g ≡ h → ⊥) → AllPass (stores_at all g) xs → filter (stores_at all h) xs ≡ []
filter_others all h g xs ne each = grind (arith, filter-none, All-weaker, IsPassed, others_not)

-- the store that a landing of hart h performs after the entries us
abbrev landed_store : List Entry → List Entry → ℕ → List ℕ
landed_store all us h = option_to_list (slice_get (store_places h all) (lands h us))

landed_own : (all us : List Entry) (h : ℕ) → AllPass (stores_at all h) (landed_store all us h)
landed_own all us h = AllPass-get (stores_at all h) (store_places h all) (lands h us) (AllPass-places (is_store_of h) all)

left_own : (all : List Entry) (h : ℕ) → AllPass (stores_at all h) (left_places h all)
left_own all h = All-drop (IsPassed (stores_at all h)) (lands h all) (store_places h all) (AllPass-places (is_store_of h) all)

-- what one entry performs of hart h's stores
stores_by : (all us : List Entry) (e : Entry) (ws : List Entry) (h : ℕ) → all ≡ us ++ e ∷ ws → (n : ℕ)
    → filter (stores_at all h) (performed_by all us e) ++ take n (drop (lands h us + land_of h e) (store_places h all))
    ≡ take (land_of h e + n) (drop (lands h us) (store_places h all))
stores_by all us e ws h split n = at e (at_here (is_store_of h) all us e ws split)
  where
    still : take n (drop (lands h us + 0) (store_places h all)) ≡ take (0 + n) (drop (lands h us) (store_places h all))
    still = let a : lands h us + 0 ≡ lands h us = omega arith in
        let b : n ≡ 0 + n = omega arith in
        ap (λ k. take n (drop k (store_places h all))) a ∙ ap (λ m. take m (drop (lands h us) (store_places h all))) b

    alone : stores_at all h (length us) ≡ false → filter (stores_at all h) (length us ∷ [])
        ++ take n (drop (lands h us + 0) (store_places h all)) ≡ take (0 + n) (drop (lands h us) (store_places h all))
    alone off = ap (λ b. (if b then length us ∷ [] else []) ++ take n (drop (lands h us + 0) (store_places h all))) off ∙ still

    landing : (g : ℕ) (b : Bool) → (g == h) ≡ b
        → filter (stores_at all h) (landed_store all us g) ++ take n (drop (lands h us + (if b then 1 else 0)) (store_places h all))
        ≡ take ((if b then 1 else 0) + n) (drop (lands h us) (store_places h all))
    landing g true is =
        let mine : g ≡ h = eqb-true g h is in
        ap (λ k. filter (stores_at all h) (option_to_list (slice_get (store_places k all) (lands k us)))
        ++ take n (drop (lands h us + 1) (store_places h all))) mine
        ∙ ap (λ zs. zs ++ take n (drop (lands h us + 1) (store_places h all))) (filter-every (stores_at all h) (landed_store all us h) (landed_own all us h))
        ∙ take_next (store_places h all) (lands h us) n
    landing g false is =
        ap (λ zs. zs ++ take n (drop (lands h us + 0) (store_places h all)))
        (filter_others all h g (landed_store all us g) (eqb-false g h is) (landed_own all us g))
        ∙ still

    at : (d : Entry) → stores_at all h (length us) ≡ is_store_of h d
        → filter (stores_at all h) (performed_by all us d)
        ++ take n (drop (lands h us + land_of h d) (store_places h all))
        ≡ take (land_of h d + n) (drop (lands h us) (store_places h all))
    at (entry.Load g a width v) here = alone here
    at (entry.Amo g a old new) here = alone here
    at (entry.Land g) here = landing g (g == h) refl
    at other here = still

-- of a hart's stores, those are performed that its landings number
pub stores_performed : (all us es ws : List Entry) (h : ℕ) → all ≡ us ++ (es ++ ws)
    → filter (stores_at all h) (performed_after all us es) ≡ take (lands h es) (drop (lands h us) (store_places h all))
stores_performed all us [] ws h split = refl
stores_performed all us (e ∷ es) ws h split = grind (arith, filter-append, append_assoc, lands-last, stores_by, stores_performed all (us ++ e ∷ []) es ws h)

-- what is left of hart h's stores
left_of : (all : List Entry) (h m : ℕ) (b : Bool) → (m == h) ≡ b → filter (stores_at all h) (left_places m all) ≡ (if b then left_places h all else [])
left_of all h m true is = grind (arith, eqb-true, filter-every, left_own)
left_of all h m false is = filter_others all h m (left_places m all) (eqb-false m h is) (left_own all m)

left_past : (all : List Entry) (h n : ℕ) → n ≤ h → filter (stores_at all h) (left_below n all) ≡ []
left_past all h zero le = refl
left_past all h (suc n) le = grind (arith, ne_eqb, filter-append, left_of, left_past all h n)

pub stores_left : (all : List Entry) (h n : ℕ) → h < n → filter (stores_at all h) (left_below n all) ≡ left_places h all
stores_left all h zero lt = absurd (omega arith)
stores_left all h (suc n) lt = grind (arith, filter-append, eqb-true, left_past, left_of, eqb-false, append-nil, stores_left all h n)

-- a store is no reader, and is an operation
store_kinds : (all : List Entry) (h x : ℕ) → stores_at all h x ≡ true → (not (reads_at all x) ≡ true) × (is_at is_operation all x ≡ true)
store_kinds all h x is = grind arith

no_reads : (all : List Entry) (h : ℕ) (xs : List ℕ) → AllPass (stores_at all h) xs → filter (reads_at all) xs ≡ []
no_reads all h xs each = grind (arith, filter-none, All-weaker, IsPassed, store_kinds)

reads_by : (all us : List Entry) (e : Entry) (ws : List Entry) → all ≡ us ++ e ∷ ws
    → filter (reads_at all) (performed_by all us e) ≡ place_of is_reader (length us) e
reads_by all us e ws split = at e (at_here is_reader all us e ws split)
  where
    at : (d : Entry) → reads_at all (length us) ≡ is_reader d → filter (reads_at all) (performed_by all us d) ≡ place_of is_reader (length us) d
    at (entry.Load g a width v) here = ap (λ b. if b then length us ∷ [] else []) here
    at (entry.Amo g a old new) here = ap (λ b. if b then length us ∷ [] else []) here
    at (entry.Land g) here = no_reads all g (landed_store all us g) (landed_own all us g)
    at other here = refl

-- the loads and AMOs are performed at their places
pub reads_performed : (all us es ws : List Entry) → all ≡ us ++ (es ++ ws)
    → filter (reads_at all) (performed_after all us es) ≡ places_of is_reader (length us) es
reads_performed all us [] ws split = refl
reads_performed all us (e ∷ es) ws split =
    grind (arith, length-append, filter-append, reads_by, place_of, append_assoc, places_of-cons, reads_performed all (us ++ e ∷ []) es ws)

pub reads_left : (all : List Entry) (n : ℕ) → filter (reads_at all) (left_below n all) ≡ []
reads_left all zero = refl
reads_left all (suc n) =
    filter-append (reads_at all) (left_below n all) (left_places n all)
    ∙ ap (λ zs. zs ++ filter (reads_at all) (left_places n all)) (reads_left all n)
    ∙ no_reads all n (left_places n all) (left_own all n)

-- nothing but operations is performed or left

stores_operate : (all : List Entry) (h : ℕ) (xs : List ℕ) → AllPass (stores_at all h) xs → AllPass (is_at is_operation all) xs
stores_operate all h xs each = All-weaker (IsPassed (stores_at all h)) (IsPassed (is_at is_operation all)) (λ x is. (store_kinds all h x is).1) xs each

operations_by : (all us : List Entry) (e : Entry) (ws : List Entry) → all ≡ us ++ e ∷ ws → AllPass (is_at is_operation all) (performed_by all us e)
operations_by all us e ws split = at e (at_here is_operation all us e ws split)
  where
    none : AllPass (is_at is_operation all) []
    none = All-nil (IsPassed (is_at is_operation all))

    at : (d : Entry) → is_at is_operation all (length us) ≡ is_operation d → AllPass (is_at is_operation all) (performed_by all us d)
    at (entry.Load g a width v) here = All-cons (IsPassed (is_at is_operation all)) (length us) [] here (All-nil (IsPassed (is_at is_operation all)))
    at (entry.Amo g a old new) here = All-cons (IsPassed (is_at is_operation all)) (length us) [] here (All-nil (IsPassed (is_at is_operation all)))
    at (entry.Land g) here = stores_operate all g (landed_store all us g) (landed_own all us g)
    at other here = none

pub operations_performed : (all us es ws : List Entry) → all ≡ us ++ (es ++ ws) → AllPass (is_at is_operation all) (performed_after all us es)
operations_performed all us [] ws split = All-nil (IsPassed (is_at is_operation all))
operations_performed all us (e ∷ es) ws split =
    All-append (IsPassed (is_at is_operation all)) (performed_by all us e) (performed_after all (us ++ e ∷ []) es) (operations_by all us e (es ++ ws) split)
    (operations_performed all (us ++ e ∷ []) es ws (split ∙ sym (append_assoc us (e ∷ []) (es ++ ws))))

pub operations_left : (all : List Entry) (n : ℕ) → AllPass (is_at is_operation all) (left_below n all)
operations_left all zero = All-nil (IsPassed (is_at is_operation all))
operations_left all (suc n) =
    All-append (IsPassed (is_at is_operation all)) (left_below n all) (left_places n all) (operations_left all n)
    (stores_operate all n (left_places n all) (left_own all n))

-- the whole order

whole_split : (es : List Entry) → es ≡ [] ++ (es ++ [])
whole_split es = sym (append-nil es)

-- a hart past the bound has no stores
pub stores_past : (es : List Entry) (h : ℕ) → hart_bound es ≤ h → store_places h es ≡ []
stores_past es h le = no_stores h 0 es (λ i e is mine. let lt : hart_of e < hart_bound es = hart_below es i e is in absurd (omega arith))

pub order-stores : (es : List Entry) (h : ℕ) → filter (stores_at es h) (performed_after es [] es ++ left_below (hart_bound es) es) ≡ store_places h es
order-stores es h =
    filter-append (stores_at es h) (performed_after es [] es) (left_below (hart_bound es) es)
    ∙ ap (λ zs. zs ++ filter (stores_at es h) (left_below (hart_bound es) es)) (stores_performed es [] es [] h (whole_split es))
    ∙ at (nat_lt h (hart_bound es)) refl
  where
    at : (b : Bool) → nat_lt h (hart_bound es) ≡ b → take (lands h es) (store_places h es)
        ++ filter (stores_at es h) (left_below (hart_bound es) es) ≡ store_places h es
    at true is = ap (λ zs. take (lands h es) (store_places h es) ++ zs)
        (stores_left es h (hart_bound es) (ltb-true h (hart_bound es) is))
        ∙ take-append-drop (lands h es) (store_places h es)
    at false is =
        let none : store_places h es ≡ [] = stores_past es h (ltb-false h (hart_bound es) is) in
        ap (λ zs. take (lands h es) (store_places h es) ++ zs) (left_past es h (hart_bound es) (ltb-false h (hart_bound es) is))
        ∙ append-nil (take (lands h es) (store_places h es))
        ∙ ap (take (lands h es)) none ∙ take-nil (lands h es) ∙ sym none

pub order-reads : (es : List Entry) → filter (reads_at es) (performed_after es [] es ++ left_below (hart_bound es) es) ≡ places_of is_reader 0 es
order-reads es =
    filter-append (reads_at es) (performed_after es [] es) (left_below (hart_bound es) es)
    ∙ ap (λ zs. zs ++ filter (reads_at es) (left_below (hart_bound es) es)) (reads_performed es [] es [] (whole_split es))
    ∙ ap (λ zs. places_of is_reader 0 es ++ zs) (reads_left es (hart_bound es))
    ∙ append-nil (places_of is_reader 0 es)

pub order-operations : (es : List Entry) → AllPass (is_at is_operation es) (performed_after es [] es ++ left_below (hart_bound es) es)
order-operations es =
    All-append (IsPassed (is_at is_operation es)) (performed_after es [] es) (left_below (hart_bound es) es)
    (operations_performed es [] es [] (whole_split es)) (operations_left es (hart_bound es))
