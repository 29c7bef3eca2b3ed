-- The order of performing names each operation once and keeps the preserved program order.
use Rattle.std.proofs.Common.{◌≡◌, ℕ, suc, ◌+◌, ◌≤◌, ◌<◌, ◌==◌, Bool, true, false, not, ◌&&◌, ◌||◌, if◌then◌else◌, nat_lt, ◌⊎◌, inl, inr, List, [], ◌∷◌, ◌++◌}
use Rattle.std.proofs.Common.{length, take, drop, Some, refl, sym, ◌∙◌, ap, subst, arith, append_assoc, length-append}
use Rattle.std.specs.List.{slice_get, list_any}
use Rattle.std.specs.Option.{option_map_or}
use Rattle.std.proofs.lemmas.Bool.{eqb-true, eq-eqb, and_parts, or_cases, ltb-true, not-true, not-false, false_from_ne_true}
use Rattle.std.proofs.lemmas.List.{take-append-drop, length-take-le}
use Rattle.std.proofs.lemmas.Option.{slice_get_within}
use Rattle.step_machine.specs.Names.{OpeningValue, hart_of, LegalAfter}
use Rattle.step_machine.specs.declared.events.Entry.{Entry}
use Rattle.ztso_axioms.specs.Operations.{is_load, is_store, is_amo, is_full_fence, is_operation, is_at, hart_at}
use Rattle.ztso_axioms.specs.Axioms.{times_named, is_named, is_before, is_barrier, is_fenced, may_be_reordered, NamesEachOnce, KeepsProgramOrder}
use Rattle.ztso_axioms.specs.Performed.{places_of, is_store_of, store_places, performed_after, left_below, hart_bound}
use Rattle.ztso_axioms.proofs.Listing.{times-none}
use Rattle.ztso_axioms.proofs.Members.{named_passes, times-filter, times-all_places, named-places, before-split, is_before-filter}
use Rattle.ztso_axioms.proofs.Performs.{is_reader, stores_at, reads_at, order-stores, order-reads, order-operations}
use Rattle.ztso_axioms.proofs.Fronts.{some_at, split_entry, at_front, at_past, order-front, read_in_front, front_stores, front_allows, store_performed}
use Rattle.ztso_axioms.proofs.Fronts.{store_not_yet, barrier_waits}

-- the operations of entries in the order of performing
abbrev pub performed_order : List Entry → List ℕ
performed_order es = performed_after es [] es ++ left_below (hart_bound es) es

-- an operation reads memory, or is a store of its hart
pub kind_at : (es : List Entry) (p : ℕ) → is_at is_operation es p ≡ true → (reads_at es p ≡ true) ⊎ (stores_at es (hart_at es p) p ≡ true)
kind_at es p op = grind (arith, is_reader, eq-eqb)

load_or_amo : (es : List Entry) (q : ℕ) → reads_at es q ≡ true → (is_at is_load es q ≡ true) ⊎ (is_at is_amo es q ≡ true)
load_or_amo es q reads = grind (arith, is_reader, or_cases)

store_plain : (es : List Entry) (h p : ℕ) → stores_at es h p ≡ true → is_at is_store es p ≡ true
store_plain es h p own = grind (arith, some_at, and_parts)

-- each operation is named once, and nothing else is
pub order-once : (es : List Entry) → NamesEachOnce es (performed_order es)
order-once es p = at (is_at is_operation es p) refl
  where
    once : (reads_at es p ≡ true) ⊎ (stores_at es (hart_at es p) p ≡ true) → times_named p (performed_order es) ≡ 1
    once (inl reads) =
        sym (times-filter (reads_at es) p (performed_order es) reads) ∙ ap (times_named p) (order-reads es)
        ∙ times-all_places is_reader p es ∙ ap (λ b. if b then 1 else 0) reads
    once (inr own) =
        sym (times-filter (stores_at es (hart_at es p)) p (performed_order es) own)
        ∙ ap (times_named p) (order-stores es (hart_at es p)) ∙ times-all_places (is_store_of (hart_at es p)) p es
        ∙ ap (λ b. if b then 1 else 0) own

    at : (b : Bool) → is_at is_operation es p ≡ b → times_named p (performed_order es) ≡ (if b then 1 else 0)
    at true op = once (kind_at es p op)
    at false none = times-none p (performed_order es) (false_from_ne_true _ (λ named.
        let op : is_at is_operation es p ≡ true = named_passes (is_at is_operation es) (performed_order es) p (order-operations es) named in
        (cc)))

-- what the front has performed stands before what it has not
by_front : (es us ws : List Entry) (p q : ℕ) → es ≡ us ++ ws → is_named p (performed_after es [] us) ≡ true
    → is_named q (performed_after es [] us) ≡ false → is_before (performed_order es) p q ≡ true
by_front es us ws p q split some none =
    ap (λ gs. is_before gs p q) (order-front es us ws split)
    ∙ before-split (performed_after es [] us) (performed_after es us ws ++ left_below (hart_bound es) es) p q some none

pub read_performed : (es us ws : List Entry) (p : ℕ) → es ≡ us ++ ws → reads_at es p ≡ true → p < length us → is_named p (performed_after es [] us) ≡ true
read_performed es us ws p split reads lt = read_in_front es us ws p split reads ∙ at_front is_reader es us ws p split lt ∙ reads

pub read_not_yet : (es us ws : List Entry) (q : ℕ) → es ≡ us ++ ws → reads_at es q ≡ true → length us ≤ q → is_named q (performed_after es [] us) ≡ false
read_not_yet es us ws q split reads le = read_in_front es us ws q split reads ∙ at_past is_reader us q le

-- the entries before a place
front_of : (es : List Entry) (q : ℕ) → es ≡ take q es ++ drop q es
front_of es q = sym (take-append-drop q es)

-- a store and a later read with a barrier of their hart between them
by_barrier : (B : ℕ) (o : OpeningValue) (es us : List Entry) (e : Entry) (ws : List Entry) (h p q : ℕ)
    → LegalAfter B o [] es → es ≡ us ++ e ∷ ws → is_barrier h e ≡ true → stores_at es h p ≡ true → p < length us
    → reads_at es q ≡ true → length us ≤ q → is_before (performed_order es) p q ≡ true
by_barrier B o es us e ws h p q legal split barrier own lt reads le = grind (arith, by_front, store_performed, barrier_waits, front_allows, read_not_yet)

any_split : (test : Entry → Bool) (xs : List Entry) → list_any test xs ≡ true
    → (ys : List Entry) × (e : Entry) × (zs : List Entry) × (xs ≡ ys ++ e ∷ zs) × (test e ≡ true)
any_split test [] some = cc
any_split test (x ∷ xs) some = at (test x) refl some (any_split test xs)
  where
    at : (b : Bool) → test x ≡ b → (b || list_any test xs) ≡ true → (list_any test xs ≡ true
        → (ys : List Entry) × (e : Entry) × (zs : List Entry) × (xs ≡ ys ++ e ∷ zs) × (test e ≡ true))
        → (ys : List Entry) × (e : Entry) × (zs : List Entry) × (x ∷ xs ≡ ys ++ e ∷ zs) × (test e ≡ true)
    at true is so more = ([], x, xs, refl, is)
    at false is so more = let rest = more so in (x ∷ rest.0, rest.1, rest.2, ap (λ zs. x ∷ zs) rest.3, rest.4)

by_fence : (B : ℕ) (o : OpeningValue) (es : List Entry) (h p q : ℕ) → LegalAfter B o [] es
    → is_fenced es h p q ≡ true → stores_at es h p ≡ true → p < q → q < length es → reads_at es q ≡ true
    → is_before (performed_order es) p q ≡ true
by_fence B o es h p q legal fenced own lt within reads = at (any_split (is_barrier h) (drop (suc p) (take q es)) fenced)
  where
    at : (ys : List Entry) × (e : Entry) × (zs : List Entry) × (drop (suc p) (take q es) ≡ ys ++ e ∷ zs)
        × (is_barrier h e ≡ true) → is_before (performed_order es) p q ≡ true
    at found =
        let us : List Entry = take (suc p) (take q es) ++ found.0 in
        let front : take q es ≡ us ++ found.1 ∷ found.2
        = sym (take-append-drop (suc p) (take q es)) ∙ ap (λ zs. take (suc p) (take q es) ++ zs) found.3
        ∙ sym (append_assoc (take (suc p) (take q es)) found.0 (found.1 ∷ found.2)) in
        let split : es ≡ us ++ found.1 ∷ (found.2 ++ drop q es)
        = front_of es q ∙ ap (λ zs. zs ++ drop q es) front ∙ append_assoc us (found.1 ∷ found.2) (drop q es) in
        let len_q : length (take q es) ≡ q = length-take-le q es (omega arith) in
        let len_p : length (take (suc p) (take q es)) ≡ suc p = length-take-le (suc p) (take q es) (omega arith) in
        let len_us : length us ≡ suc p + length found.0 = length-append (take (suc p) (take q es)) found.0 ∙ ap (λ n. n + length found.0) len_p in
        let len_front : q ≡ length us + suc (length found.2) = sym len_q ∙ ap length front ∙ length-append us (found.1 ∷ found.2) in
        by_barrier B o es us found.1 (found.2 ++ drop q es) h p q legal split found.4 own (omega arith) reads (omega arith)

-- two stores of a hart
by_stores : (es : List Entry) (h p q : ℕ) → stores_at es h p ≡ true → stores_at es h q ≡ true → p < q
    → q < length es → is_before (performed_order es) p q ≡ true
by_stores es h p q own_p own_q lt within =
    let us : List Entry = take (suc p) es in
    let ws : List Entry = drop (suc p) es in
    let split : es ≡ us ++ ws = front_of es (suc p) in
    let len : length us ≡ suc p = length-take-le (suc p) es (omega arith) in
    let some : is_named p (store_places h us) ≡ true = named-places (is_store_of h) p us ∙ at_front (is_store_of h) es us ws p split (omega arith) ∙ own_p in
    let none : is_named q (store_places h us) ≡ false = named-places (is_store_of h) q us ∙ at_past (is_store_of h) us q (omega arith) in
    sym (is_before-filter (stores_at es h) p q (performed_order es) own_p own_q)
    ∙ ap (λ gs. is_before gs p q) (order-stores es h ∙ front_stores es us ws h split)
    ∙ before-split (store_places h us) (places_of (is_store_of h) (length us) ws) p q some none

-- a read, and a later operation
by_read : (B : ℕ) (o : OpeningValue) (es : List Entry) (p q : ℕ) → LegalAfter B o [] es → reads_at es p ≡ true
    → (reads_at es q ≡ true) ⊎ (stores_at es (hart_at es q) q ≡ true) → p < q → q < length es
    → is_before (performed_order es) p q ≡ true
by_read B o es p q legal reads kind lt within =
    by_front es (take (suc p) es) (drop (suc p) es) p q (front_of es (suc p))
    (read_performed es (take (suc p) es) (drop (suc p) es) p (front_of es (suc p)) reads (omega (arith, length-take-le (suc p) es)))
    (later kind)
  where
    len : length (take (suc p) es) ≡ suc p
    len = length-take-le (suc p) es (omega arith)

    later : (reads_at es q ≡ true) ⊎ (stores_at es (hart_at es q) q ≡ true) → is_named q (performed_after es [] (take (suc p) es)) ≡ false
    later (inl r) = read_not_yet es (take (suc p) es) (drop (suc p) es) q (front_of es (suc p)) r (omega (arith, len))
    later (inr s) = store_not_yet B o es (take (suc p) es) (drop (suc p) es) (hart_at es q) q legal (front_of es (suc p)) s (omega (arith, len))

-- a store, and a later read that may not pass it
by_store : (B : ℕ) (o : OpeningValue) (es : List Entry) (h p q : ℕ) → LegalAfter B o [] es → stores_at es h p ≡ true
    → h ≡ hart_at es q → may_be_reordered es p q ≡ false → p < q → q < length es → reads_at es q ≡ true
    → is_before (performed_order es) p q ≡ true
by_store B o es h p q legal own hart held lt within reads = at (load_or_amo es q reads)
  where
    amo_barrier : (e : Entry) → slice_get es q ≡ Some e → is_amo e ≡ true → is_barrier h e ≡ true
    amo_barrier e here amo =
        let mine : hart_of e ≡ h = sym (hart ∙ ap (λ so. option_map_or hart_of so 0) here) in
        let same : (hart_of e == h) ≡ true = eq-eqb (hart_of e) h mine in
        ap (λ b. (b || is_full_fence e) && (hart_of e == h)) amo ∙ same

    at : (is_at is_load es q ≡ true) ⊎ (is_at is_amo es q ≡ true) → is_before (performed_order es) p q ≡ true
    at (inl load) =
        let plain : is_at is_store es p ≡ true = store_plain es h p own in
        let unfenced : not (is_fenced es (hart_at es q) p q) ≡ false =
        sym (ap (λ b. b && is_at is_load es q && not (is_fenced es (hart_at es q) p q)) plain
        ∙ ap (λ b. b && not (is_fenced es (hart_at es q) p q)) load) ∙ held in
        let fenced : is_fenced es (hart_at es q) p q ≡ true = not-false (is_fenced es (hart_at es q) p q) unfenced in
        by_fence B o es h p q legal (subst (λ (k : ℕ). is_fenced es k p q ≡ true) (sym hart) fenced) own lt within reads
    at (inr amo) =
        let found : (e : Entry) × (slice_get es q ≡ Some e) × (is_amo e ≡ true) = some_at is_amo es q amo in
        let len : length (take q es) ≡ q = length-take-le q es (omega arith) in
        by_barrier B o es (take q es) found.0 (drop (suc q) es) h p q legal (split_entry es q found.0 found.1)
        (amo_barrier found.0 found.1 found.2) own (omega arith) reads (omega arith)

pub order-program : (B : ℕ) (o : OpeningValue) (es : List Entry) → LegalAfter B o [] es → KeepsProgramOrder es (performed_order es)
order-program B o es legal p q is =
    grind (arith, and_parts, nat_lt, eqb-true, ltb-true, some_at, slice_get_within, not-true, kind_at, reads_at, stores_at, by_read, by_store, by_stores)
