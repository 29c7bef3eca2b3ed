-- The front of a trace, and what it has performed.
use Rattle.std.proofs.Common.{◌≡◌, ℕ, zero, suc, ◌≤◌, ◌<◌, Bool, true, false, List, [], ◌∷◌, ◌++◌, length, take, drop, Some, refl, sym, ◌∙◌, ap, subst, arith}
use Rattle.std.proofs.Common.{append_assoc, length-append, length-drop}
use Rattle.std.specs.List.{slice_get, AllZip}
use Rattle.std.proofs.lemmas.Bool.{eqb-true, and_parts, or_left, false_from_ne_true}
use Rattle.std.proofs.lemmas.List.{take-append-drop, take-append-le, take_all}
use Rattle.std.proofs.lemmas.Option.{slice_get_past}
use Rattle.step_machine.specs.Names.{OpeningValue, own_store, own_stores, lands, pending, Allowed, LegalAfter}
use Rattle.step_machine.specs.declared.events.Entry.{Entry}
use Rattle.step_machine.proofs.{LegalAfter-front, LegalAfter-back, entry_there, balanced-after}
use Rattle.ztso_axioms.specs.Operations.{passes, is_at, byte_in, written_at}
use Rattle.ztso_axioms.specs.Axioms.{is_named, is_barrier}
use Rattle.ztso_axioms.specs.Performed.{places_of, is_store_of, store_places, performed_after, left_below, hart_bound}
use Rattle.ztso_axioms.proofs.Listing.{named-append}
use Rattle.ztso_axioms.proofs.Members.{places_of-cons, places_of-split, place_of, performed_after-append, named-filter, named-places}
use Rattle.ztso_axioms.proofs.Performs.{is_reader, stores_at, reads_at, stores_performed, reads_performed}
use Rattle.memory.specs.declared.writes.Write.{Write}

-- entries by place

pub some_at : (test : Entry → Bool) (es : List Entry) (p : ℕ) → is_at test es p ≡ true → (e : Entry) × (slice_get es p ≡ Some e) × (test e ≡ true)
some_at test es p is = grind arith

pub split_entry : (es : List Entry) (p : ℕ) (e : Entry) → slice_get es p ≡ Some e → es ≡ take p es ++ e ∷ drop (suc p) es
split_entry [] p e is = cc
split_entry (d ∷ es) zero e is = let same : d ≡ e = cc in ap (λ x. x ∷ es) same
split_entry (d ∷ es) (suc p) e is = ap (λ zs. d ∷ zs) (split_entry es p e is)

get_front : (us ws : List Entry) (p : ℕ) → p < length us → slice_get (us ++ ws) p ≡ slice_get us p
get_front [] ws p lt = absurd (omega arith)
get_front (u ∷ us) ws zero lt = refl
get_front (u ∷ us) ws (suc p) lt = get_front us ws p (omega arith)

pub at_front : (test : Entry → Bool) (es us ws : List Entry) (p : ℕ) → es ≡ us ++ ws → p < length us → is_at test us p ≡ is_at test es p
at_front test es us ws p split lt = sym (ap (λ zs. passes test (slice_get zs p)) split ∙ ap (passes test) (get_front us ws p lt))

pub at_past : (test : Entry → Bool) (us : List Entry) (p : ℕ) → length us ≤ p → is_at test us p ≡ false
at_past test us p le = ap (passes test) (slice_get_past us p le)

-- what the front performed stands before all else

pub order-front : (es us ws : List Entry) → es ≡ us ++ ws
    → performed_after es [] es ++ left_below (hart_bound es) es ≡ performed_after es [] us
    ++ (performed_after es us ws ++ left_below (hart_bound es) es)
order-front es us ws split = grind (arith, performed_after-append, append_assoc)

-- a load or an AMO is performed by the front that holds it
pub read_in_front : (es us ws : List Entry) (p : ℕ) → es ≡ us ++ ws → reads_at es p ≡ true → is_named p (performed_after es [] us) ≡ is_at is_reader us p
read_in_front es us ws p split reads =
    sym (named-filter (reads_at es) p (performed_after es [] us) reads)
    ∙ ap (is_named p) (reads_performed es [] us ws split)
    ∙ named-places is_reader p us

store_in_front : (es us ws : List Entry) (h p : ℕ) → es ≡ us ++ ws → stores_at es h p ≡ true
    → is_named p (performed_after es [] us) ≡ is_named p (take (lands h us) (store_places h es))
store_in_front es us ws h p split own =
    sym (named-filter (stores_at es h) p (performed_after es [] us) own)
    ∙ ap (is_named p) (stores_performed es [] us ws h split)

-- a hart's stores, as places and as pairs

-- each place holds a store of the pair beside it
abbrev pub AreWritten : List Entry → List ℕ → List Write → Type 0
AreWritten all gs ps = AllZip (λ (g : ℕ) (w : Write). (a : ℕ) → written_at all a g ≡ byte_in w a) gs ps

pub AreWritten-length : (all : List Entry) (gs : List ℕ) (ps : List Write) → AreWritten all gs ps → length gs ≡ length ps
AreWritten-length all [] [] written = refl
AreWritten-length all (g ∷ gs) (p ∷ ps) written = ap suc (AreWritten-length all gs ps written.1)
AreWritten-length all gs ps written = absurd written

pub AreWritten-drop : (all : List Entry) (n : ℕ) (gs : List ℕ) (ps : List Write) → AreWritten all gs ps → AreWritten all (drop n gs) (drop n ps)
AreWritten-drop all zero gs ps written = written
AreWritten-drop all (suc n) [] [] written = written
AreWritten-drop all (suc n) (g ∷ gs) (p ∷ ps) written = AreWritten-drop all n gs ps written.1
AreWritten-drop all (suc n) gs ps written = absurd written

written_before : (all us : List Entry) (e : Entry) (ws : List Entry) (h : ℕ) (rest : List Entry)
    → all ≡ us ++ e ∷ ws → (gs : List ℕ) → AreWritten all gs (own_stores h rest)
    → AreWritten all (place_of (is_store_of h) (length us) e ++ gs) (own_store h e ++ own_stores h rest)
written_before all us e ws h rest split gs written = grind (arith, place_of, entry_there)

pub written_stores : (all us es ws : List Entry) (h : ℕ) → all ≡ us ++ (es ++ ws) → AreWritten all (places_of (is_store_of h) (length us) es) (own_stores h es)
written_stores all us [] ws h split = tt
written_stores all us (e ∷ es) ws h split =
    let len : length (us ++ e ∷ []) ≡ suc (length us) = omega (arith, length-append us (e ∷ [])) in
    let rest : AreWritten all (places_of (is_store_of h) (suc (length us)) es) (own_stores h es)
    = subst (λ (n : ℕ). AreWritten all (places_of (is_store_of h) n es) (own_stores h es)) len
    (written_stores all (us ++ e ∷ []) es ws h (split ∙ sym (append_assoc us (e ∷ []) (es ++ ws)))) in
    subst (λ (zs : List ℕ). AreWritten all zs (own_store h e ++ own_stores h es)) (sym (places_of-cons (is_store_of h) (length us) e es))
    (written_before all us e (es ++ ws) h es split (places_of (is_store_of h) (suc (length us)) es) rest)

-- the front of a legal trace

pub front_written : (es us ws : List Entry) (h : ℕ) → es ≡ us ++ ws → AreWritten es (store_places h us) (own_stores h us)
front_written es us ws h split = written_stores es [] us ws h split

pub front_balanced : (B : ℕ) (o : OpeningValue) (es us ws : List Entry) (h : ℕ) → LegalAfter B o [] es → es ≡ us ++ ws → lands h us ≤ length (store_places h us)
front_balanced B o es us ws h legal split =
    let front : LegalAfter B o [] us = LegalAfter-front B o [] us ws (subst (λ (zs : List Entry). LegalAfter B o [] zs) split legal) in
    let le : lands h us ≤ length (own_stores h us) = balanced-after B o [] us h front (omega arith) in
    let same : length (store_places h us) ≡ length (own_stores h us) =
    AreWritten-length es (store_places h us) (own_stores h us) (front_written es us ws h split) in
    omega arith

pub front_stores : (es us ws : List Entry) (h : ℕ) → es ≡ us ++ ws → store_places h es ≡ store_places h us ++ places_of (is_store_of h) (length us) ws
front_stores es us ws h split = ap (store_places h) split ∙ places_of-split (is_store_of h) us ws

pub front_landed : (B : ℕ) (o : OpeningValue) (es us ws : List Entry) (h : ℕ) → LegalAfter B o [] es → es ≡ us ++ ws
    → take (lands h us) (store_places h es) ≡ take (lands h us) (store_places h us)
front_landed B o es us ws h legal split =
    ap (take (lands h us)) (front_stores es us ws h split)
    ∙ take-append-le (lands h us) (store_places h us) (places_of (is_store_of h) (length us) ws) (front_balanced B o es us ws h legal split)

pub front_allows : (B : ℕ) (o : OpeningValue) (es us : List Entry) (e : Entry) (ws : List Entry) → LegalAfter B o [] es → es ≡ us ++ e ∷ ws → Allowed B o us e
front_allows B o es us e ws legal split = (LegalAfter-back B o [] us (e ∷ ws) (subst (λ (zs : List Entry). LegalAfter B o [] zs) split legal)).0

-- where nothing is pending of a hart, its stores have been performed
pub store_performed : (B : ℕ) (o : OpeningValue) (es us ws : List Entry) (h p : ℕ) → LegalAfter B o [] es
    → es ≡ us ++ ws → pending h us ≡ [] → stores_at es h p ≡ true → p < length us
    → is_named p (performed_after es [] us) ≡ true
store_performed B o es us ws h p legal split none own lt =
    let same : length (store_places h us) ≡ length (own_stores h us) =
    AreWritten-length es (store_places h us) (own_stores h us) (front_written es us ws h split) in
    let left : length (drop (lands h us) (own_stores h us)) ≡ 0 = ap length none in
    let all_landed : length (store_places h us) ≤ lands h us = omega (arith, length-drop (lands h us) (own_stores h us)) in
    store_in_front es us ws h p split own
    ∙ ap (is_named p) (front_landed B o es us ws h legal split ∙ take_all (lands h us) (store_places h us) all_landed)
    ∙ named-places (is_store_of h) p us
    ∙ at_front (is_store_of h) es us ws p split lt
    ∙ own

-- a store that the front does not hold has not been performed by it
pub store_not_yet : (B : ℕ) (o : OpeningValue) (es us ws : List Entry) (h q : ℕ) → LegalAfter B o [] es
    → es ≡ us ++ ws → stores_at es h q ≡ true → length us ≤ q → is_named q (performed_after es [] us) ≡ false
store_not_yet B o es us ws h q legal split own le =
    store_in_front es us ws h q split own
    ∙ ap (is_named q) (front_landed B o es us ws h legal split)
    ∙ false_from_ne_true _ (λ is.
    let whole : is_named q (store_places h us) ≡ true
    = ap (is_named q) (sym (take-append-drop (lands h us) (store_places h us)))
    ∙ named-append q (take (lands h us) (store_places h us)) (drop (lands h us) (store_places h us)) ∙ or_left _ _ is in
    let here : is_at (is_store_of h) us q ≡ true = sym (named-places (is_store_of h) q us) ∙ whole in
    let past : is_at (is_store_of h) us q ≡ false = at_past (is_store_of h) us q le in
    (cc))

-- an AMO or a full fence finds nothing pending of its hart
pub barrier_waits : (B : ℕ) (o : OpeningValue) (us : List Entry) (h : ℕ) (e : Entry) → is_barrier h e ≡ true → Allowed B o us e → pending h us ≡ []
barrier_waits B o us h e is may = grind (arith, eqb-true, and_parts)
