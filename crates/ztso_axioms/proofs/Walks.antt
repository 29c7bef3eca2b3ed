-- The walks over a trace that find its order: what each has found by an entry, and by one more.
use Rattle.std.proofs.Common.{◌≡◌, ℕ, zero, suc, ◌+◌, ◌-◌, ◌≤◌, ◌<◌, ◌==◌, Bool, true, false, ◌&&◌, if◌then◌else◌, nat_lt, nat_le, List, [], ◌∷◌, ◌++◌, length}
use Rattle.std.proofs.Common.{take, drop, get_or, set, Option, Some, None, refl, sym, ◌∙◌, ap, subst, arith, append-nil, length-set, get_or-set_same}
use Rattle.std.proofs.Common.{get_or-set_other}
use Rattle.std.specs.Prelude.{All, max, option_to_list, MatchOption}
use Rattle.std.specs.List.{slice_get}
use Rattle.std.proofs.lemmas.Bool.{eqb-true, eqb-false, eq-eqb, ne_eqb, and_right, ltb-true, ltb-false, leb-true, leb-false, true_from_ne_false}
use Rattle.std.proofs.Math.Seq.{drop-nil}
use Rattle.std.proofs.lemmas.List.{take_more, length-take-le, get_or_read}
use Rattle.std.proofs.lemmas.List.Elements.{All-push}
use Rattle.std.proofs.lemmas.Option.{slice_get-get_or, slice_get_within, get_or_from_slice_get}
use Rattle.step_machine.specs.Entries.{hart_of, land_of, lands}
use Rattle.step_machine.specs.declared.events.Entry.{Entry}
use Rattle.step_machine.specs.declared.events.Entry.TheVariants as entry
use Rattle.ztso_axioms.specs.Operations.{is_store}
use Rattle.ztso_axioms.specs.Performed.{places_of, is_store_of, store_places, performed_by, performed_after, left_places, left_below, hart_bound}
use Rattle.ztso_axioms.specs.inner.Landings.{landed_at, NamesLandings, AddsLandings, IsNextHart, nearer_of, performed_there}
use Rattle.ztso_axioms.proofs.Members.{place_of, places_of-split, performed-last, lands-last}

-- hart bounds

pub hart_below : (es : List Entry) (i : ℕ) (e : Entry) → slice_get es i ≡ Some e → hart_of e < hart_bound es
hart_below [] i e is = cc
hart_below (d ∷ es) zero e is = let same : d ≡ e = cc in
    let lt : hart_of d < max (suc (hart_of d)) (hart_bound es) = omega arith in
    subst (λ (x : Entry). hart_of x < max (suc (hart_of d)) (hart_bound es)) same lt
hart_below (d ∷ es) (suc i) e is = let lt : hart_of e < hart_bound es = hart_below es i e is in omega arith

pub hart_bound-le : (es : List Entry) (n : ℕ) → ((i : ℕ) (e : Entry) → slice_get es i ≡ Some e → hart_of e < n) → hart_bound es ≤ n
hart_bound-le [] n below = omega arith
hart_bound-le (d ∷ es) n below =
    let here : hart_of d < n = below 0 d refl in
    let rest : hart_bound es ≤ n = hart_bound-le es n (λ i e is. below (suc i) e is) in
    omega arith

pub hart_bound-last : (es : List Entry) (e : Entry) → hart_bound (es ++ e ∷ []) ≡ max (hart_bound es) (suc (hart_of e))
hart_bound-last [] e = omega arith
hart_bound-last (d ∷ es) e = let rest : hart_bound (es ++ e ∷ []) ≡ max (hart_bound es) (suc (hart_of e)) = hart_bound-last es e in omega arith

-- a hart without an entry has no stores

pub no_stores : (h n : ℕ) (es : List Entry) → ((i : ℕ) (e : Entry) → slice_get es i ≡ Some e → hart_of e ≡ h → ⊥) → places_of (is_store_of h) n es ≡ []
no_stores h n [] none = refl
no_stores h n (e ∷ es) none =
    let other : (hart_of e == h) ≡ false = ne_eqb (hart_of e) h (none 0 e refl) in
    let rest : places_of (is_store_of h) (suc n) es ≡ [] = no_stores h (suc n) es (λ i d is. none (suc i) d is) in
    ap (λ b. if b then n ∷ places_of (is_store_of h) (suc n) es else places_of (is_store_of h) (suc n) es) (and_right (is_store e) _ other) ∙ rest

pub left_none : (h : ℕ) (es : List Entry) → ((i : ℕ) (e : Entry) → slice_get es i ≡ Some e → hart_of e ≡ h → ⊥) → left_places h es ≡ []
left_none h es none = ap (drop (lands h es)) (no_stores h 0 es none) ∙ drop-nil (lands h es)

-- harts between n and n + k without an entry leave nothing
pub left_gap : (es : List Entry) (n k : ℕ)
    → ((h : ℕ) → n ≤ h → h < n + k → (i : ℕ) (e : Entry) → slice_get es i ≡ Some e → hart_of e ≡ h → ⊥)
    → left_below (n + k) es ≡ left_below n es
left_gap es n zero none = let same : n + 0 ≡ n = omega arith in ap (λ m. left_below m es) same
left_gap es n (suc k) none =
    let same : n + suc k ≡ suc (n + k) = omega arith in
    ap (λ m. left_below m es) same
    ∙ ap (λ zs. left_below (n + k) es ++ zs) (left_none (n + k) es (none (n + k) (omega arith) (omega arith)))
    ∙ append-nil (left_below (n + k) es)
    ∙ left_gap es n k (λ h le lt. none h le (omega arith))

-- the entries of a list that pass a fact at each index
at_entry : (P : Entry → Type 0) (es : List Entry) (i : ℕ) (e : Entry) → All P es → slice_get es i ≡ Some e → P e
at_entry P es i e all is = subst P (get_or_from_slice_get es i e e is) (all i e (slice_get_within es i e is))

gap_empty : (es : List Entry) (n h : ℕ) → IsNextHart es n h → (g : ℕ) → n ≤ g → g < h → (i : ℕ) (e : Entry) → slice_get es i ≡ Some e → hart_of e ≡ g → ⊥
gap_empty es n h next g le lt i e is mine =
    let least : n ≤ hart_of e → h ≤ hart_of e = at_entry (λ (d : Entry). n ≤ hart_of d → h ≤ hart_of d) es i e next.least is in
    let from : n ≤ hart_of e = omega arith in
    let above : h ≤ hart_of e = least from in
    absurd (omega arith)

-- the next hart's stores join what is left
pub left_more : (es : List Entry) (n h : ℕ) → IsNextHart es n h → left_below (h + 1) es ≡ left_below n es ++ left_places h es
left_more es n h next =
    let from : n ≤ h = next.from in
    let gap : n + (h - n) ≡ h = omega arith in
    let one : h + 1 ≡ suc h = omega arith in
    ap (λ m. left_below m es) one
    ∙ ap (λ zs. zs ++ left_places h es) (ap (λ m. left_below m es) (sym gap) ∙ left_gap es n (h - n) (λ g le lt. gap_empty es n h next g le (omega arith)))

pub bound_reached : (es : List Entry) (n : ℕ) → n ≤ hart_bound es → All (λ (e : Entry). hart_of e < n) es → n ≡ hart_bound es
bound_reached es n le all = let ge : hart_bound es ≤ n = hart_bound-le es n (λ i e is. at_entry (λ (d : Entry). hart_of d < n) es i e all is) in omega arith

-- the next hart's landings are named too
pub names_more : (es : List Entry) (n h : ℕ) (old new : List (Option ℕ)) → IsNextHart es n h
    → NamesLandings es n old → AddsLandings es h old new → NamesLandings es (h + 1) new
names_more es n h old new next named adds i g lt is = at (g == h) refl
  where
    before_n : (g ≡ h → ⊥) → g < n
    before_n ne = ltb-true g n (true_from_ne_false _ (λ is_ge.
        let le : n ≤ g = ltb-false g n is_ge in
        let least : n ≤ g → h ≤ g = at_entry (λ (d : Entry). n ≤ hart_of d → h ≤ hart_of d) es i (entry.Land g) next.least is in
        let above : h ≤ g = least le in
        ne (omega arith)))

    at : (b : Bool) → (g == h) ≡ b → get_or new i None ≡ landed_at es g i
    at true same =
        let g_is : g ≡ h = eqb-true g h same in
        subst (λ (k : ℕ). get_or new i None ≡ landed_at es k i) (sym g_is) (adds.added i (subst (λ (k : ℕ). slice_get es i ≡ Some (entry.Land k)) g_is is))
    at false other =
        let ne : g ≡ h → ⊥ = eqb-false g h other in
        let below : g < n = before_n ne in
        adds.others i (λ so. ne (cc)) ∙ named i g below is

-- one more entry walked over

pub stores_more : (h : ℕ) (es : List Entry) (i : ℕ) (d : Entry) (b : Bool) → i < length es
    → (is_store (get_or es i d) && (hart_of (get_or es i d) == h)) ≡ b
    → store_places h (take (i + 1) es) ≡ store_places h (take i es) ++ (if b then i ∷ [] else [])
stores_more h es i d b lt is =
    let len : length (take i es) ≡ i = length-take-le i es (omega arith) in
    ap (store_places h) (take_more es i d lt)
    ∙ places_of-split (is_store_of h) (take i es) (get_or es i d ∷ [])
    ∙ ap (λ n. store_places h (take i es) ++ place_of (is_store_of h) n (get_or es i d)) len
    ∙ ap (λ c. store_places h (take i es) ++ (if c then i ∷ [] else [])) is

pub lands-more : (h : ℕ) (es : List Entry) (i : ℕ) (d : Entry) → i < length es → lands h (take (i + 1) es) ≡ lands h (take i es) + land_of h (get_or es i d)
lands-more h es i d lt = ap (lands h) (take_more es i d lt) ∙ lands-last h (take i es) (get_or es i d)

-- what an entry performs, by the list of landings
pub performed_by-there : (es : List Entry) (i : ℕ) (e : Entry) (landed : List (Option ℕ)) (stands : Option ℕ)
    → NamesLandings es (hart_bound es) landed → slice_get es i ≡ Some e → i ≡ length (take i es)
    → stands ≡ get_or landed i None → performed_by es (take i es) e ≡ option_to_list (performed_there e i stands)
performed_by-there es i e landed stands named is len read = grind (arith, hart_below)

pub performed_more : (es : List Entry) (i : ℕ) (d : Entry) → i < length es
    → performed_after es [] (take (i + 1) es) ≡ performed_after es [] (take i es)
    ++ performed_by es (take i es) (get_or es i d)
performed_more es i d lt = ap (performed_after es []) (take_more es i d lt) ∙ performed-last es (take i es) (get_or es i d)

-- the least hart from n on, by one more entry
abbrev pub NextFound : List Entry → ℕ → Option ℕ → Type 0
NextFound es n next = MatchOption next (All (λ (e : Entry). hart_of e < n) es) (λ (h : ℕ). IsNextHart es n h)

next_kept : (es : List Entry) (n h : ℕ) (e : Entry) → IsNextHart es n h → (n ≤ hart_of e → h ≤ hart_of e) → IsNextHart (es ++ e ∷ []) n h
next_kept es n h e next above =
    let bound : h < hart_bound es = next.bound in
    let whole : hart_bound (es ++ e ∷ []) ≡ max (hart_bound es) (suc (hart_of e)) = hart_bound-last es e in
    record {
      from = next.from;
      least = All-push (λ (d : Entry). n ≤ hart_of d → h ≤ hart_of d) es e next.least above;
      bound = omega arith;
    }

next_here : (es : List Entry) (n : ℕ) (e : Entry) → n ≤ hart_of e
    → All (λ (d : Entry). n ≤ hart_of d → hart_of e ≤ hart_of d) es → IsNextHart (es ++ e ∷ []) n (hart_of e)
next_here es n e from least =
    let whole : hart_bound (es ++ e ∷ []) ≡ max (hart_bound es) (suc (hart_of e)) = hart_bound-last es e in
    record {
      from = from;
      least = All-push (λ (d : Entry). n ≤ hart_of d → hart_of e ≤ hart_of d) es e least (λ le. omega arith);
      bound = omega arith;
    }

pub next_more : (es : List Entry) (n : ℕ) (next : Option ℕ) (e : Entry) → NextFound es n next → NextFound (es ++ e ∷ []) n (nearer_of n next (hart_of e))
next_more es n None e found = at (nat_le n (hart_of e)) refl
  where
    at : (b : Bool) → nat_le n (hart_of e) ≡ b → NextFound (es ++ e ∷ []) n (if b then Some (hart_of e) else None)
    at true is = next_here es n e (leb-true n (hart_of e) is) (λ k d lt le. let below : hart_of (get_or es k d) < n = found k d lt in absurd (omega arith))
    at false is = All-push (λ (d : Entry). hart_of d < n) es e found (let lt : hart_of e < n = leb-false n (hart_of e) is in lt)
next_more es n (Some h) e found = at (nat_le n (hart_of e)) (nat_lt (hart_of e) h) refl refl
  where
    at : (b c : Bool) → nat_le n (hart_of e) ≡ b → nat_lt (hart_of e) h ≡ c → NextFound (es ++ e ∷ []) n (if b && c then Some (hart_of e) else Some h)
    at true true from less =
        let lt : hart_of e < h = ltb-true (hart_of e) h less in
        next_here es n e (leb-true n (hart_of e) from) (λ k d within le. let above : h ≤ hart_of (get_or es k d) = found.least k d within le in omega arith)
    at true false from less = next_kept es n h e found (λ le. ltb-false (hart_of e) h less)
    at false c from less = next_kept es n h e found (λ le. let lt : hart_of e < n = leb-false n (hart_of e) from in absurd (omega arith))

pub next_step : (es : List Entry) (n i : ℕ) (next : Option ℕ) (d : Entry) → i < length es
    → NextFound (take i es) n next → NextFound (take (i + 1) es) n (nearer_of n next (hart_of (get_or es i d)))
next_step es n i next d lt found =
    subst (λ (xs : List Entry). NextFound xs n (nearer_of n next (hart_of (get_or es i d)))) (sym (take_more es i d lt))
    (next_more (take i es) n next (get_or es i d) found)

-- what a walk has named of hart h's landings before place i, and how many it has met
pub record Naming (es : List Entry) (h i count : ℕ) (old landed : List (Option ℕ)) : Type 0 where
  pub few : count ≤ i
  pub counted : count ≡ lands h (take i es)
  pub len : length landed ≡ length es
  pub added : (k : ℕ) → k < i → slice_get es k ≡ Some (entry.Land h) → get_or landed k None ≡ landed_at es h k
  pub others : (k : ℕ) → (slice_get es k ≡ Some (entry.Land h) → ⊥) → get_or landed k None ≡ get_or old k None

land_of-land : (h : ℕ) → land_of h (entry.Land h) ≡ 1
land_of-land h = ap (λ b. if b then 1 else 0) (eq-eqb h h refl)

land_of-else : (h : ℕ) (e : Entry) → (e ≡ entry.Land h → ⊥) → land_of h e ≡ 0
land_of-else h e ne = grind (arith, ne_eqb)

pub naming_none : (es : List Entry) (h : ℕ) (old : List (Option ℕ)) → length old ≡ length es → Naming es h 0 0 old old
naming_none es h old len = record { few = omega arith; counted = refl; len = len; added = λ k lt is. absurd (omega arith); others = λ k no. refl }

pub naming_hit : (es : List Entry) (h i count : ℕ) (old landed : List (Option ℕ)) (d : Entry) (stands : Option ℕ)
    → Naming es h i count old landed → i < length es → get_or es i d ≡ entry.Land h → stands ≡ landed_at es h i
    → Naming es h (i + 1) (count + 1) old (set landed i stands)
naming_hit es h i count old landed d stands n lt is stands_is =
    let here : slice_get es i ≡ Some (entry.Land h) = slice_get-get_or es i d lt ∙ ap Some is in
    let few : count ≤ i = n.few in
    let len : length landed ≡ length es = n.len in
    record {
      few = omega arith;
      counted =
          ap (λ m. m + 1) n.counted ∙ sym (lands-more h es i d lt ∙ ap (λ e. lands h (take i es) + land_of h e) is
          ∙ ap (λ m. lands h (take i es) + m) (land_of-land h));
      len = length-set landed i stands ∙ n.len;
      added = λ k below is_k. at k (k == i) refl below is_k (omega arith);
      others = λ k no. get_or-set_other landed i k stands None (λ same. no (ap (slice_get es) same ∙ here)) ∙ n.others k no;
    }
  where
    lt_of : (k : ℕ) → (k ≡ i → ⊥) → k < i + 1 → k < i
    lt_of k ne below = omega arith

    at : (k : ℕ) (b : Bool) → (k == i) ≡ b → k < i + 1 → slice_get es k ≡ Some (entry.Land h) → i < length landed
        → get_or (set landed i stands) k None ≡ landed_at es h k
    at k true same below is_k within =
        let k_is : k ≡ i = eqb-true k i same in
        subst (λ (m : ℕ). get_or (set landed i stands) m None ≡ landed_at es h m) (sym k_is) (get_or-set_same landed i stands None within ∙ stands_is)
    at k false other below is_k within =
        let ne : k ≡ i → ⊥ = eqb-false k i other in
        get_or-set_other landed i k stands None ne ∙ n.added k (lt_of k ne below) is_k

pub naming_missed : (es : List Entry) (h i count : ℕ) (old landed : List (Option ℕ)) (d : Entry)
    → Naming es h i count old landed → i < length es → (get_or es i d ≡ entry.Land h → ⊥)
    → Naming es h (i + 1) count old landed
naming_missed es h i count old landed d n lt not_is =
    let few : count ≤ i = n.few in
    let none : lands h (take i es) + land_of h (get_or es i d) ≡ lands h (take i es) =
    let zero_is : land_of h (get_or es i d) ≡ 0 = land_of-else h (get_or es i d) not_is in
    omega arith in
    record {
      few = omega arith;
      counted = n.counted ∙ sym (lands-more h es i d lt ∙ none);
      len = n.len;
      added = λ k below is_k. n.added k (lt_of k below is_k) is_k;
      others = n.others;
    }
  where
    lt_of : (k : ℕ) → k < i + 1 → slice_get es k ≡ Some (entry.Land h) → k < i
    lt_of k below is_k = ltb-true k i (true_from_ne_false _ (λ is.
        let ge : i ≤ k = ltb-false k i is in
        let same : k ≡ i = omega arith in
        not_is (get_or_from_slice_get es i (entry.Land h) d (ap (slice_get es) (sym same) ∙ is_k))))

-- what the entries before place i performed, by one more
pub performed_step : (es : List Entry) (i : ℕ) (d : Entry) (landed : List (Option ℕ)) (stands out : Option ℕ)
    (ops : List ℕ) → NamesLandings es (hart_bound es) landed → length landed ≡ length es → i < length es
    → stands ≡ get_or landed i stands → out ≡ performed_there (get_or es i d) i stands
    → ops ≡ performed_after es [] (take i es) → ops ++ option_to_list out ≡ performed_after es [] (take (i + 1) es)
performed_step es i d landed stands out ops named len lt read out_is before_it =
    let within : i < length landed = omega arith in
    let place : i ≡ length (take i es) = sym (length-take-le i es (omega arith)) in
    ap (λ zs. zs ++ option_to_list out) before_it
    ∙ ap (λ o. performed_after es [] (take i es) ++ option_to_list o) out_is
    ∙ ap (λ zs. performed_after es [] (take i es) ++ zs)
    (sym (performed_by-there es i (get_or es i d) landed stands named (slice_get-get_or es i d lt) place
    (get_or_read landed i stands within read None)))
    ∙ sym (performed_more es i d lt)
