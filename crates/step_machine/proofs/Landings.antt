-- On a legal list the k-th landing of a hart writes its k-th store, counted over the whole list.
use Rattle.std.proofs.Common.{◌≡◌, ℕ, zero, suc, ◌<◌, List, [], ◌∷◌, ◌++◌, length, take, drop, refl, ◌∙◌, ap, arith, append_assoc, length-drop, ◌≤◌, ◌==◌, Bool}
use Rattle.std.proofs.Common.{if◌then◌else◌, length-append, append-nil}
use Rattle.std.specs.Prelude.{option_to_list}
use Rattle.std.specs.List.{slice_get}
use Rattle.step_machine.specs.Names.{Entry, OpeningValue, History, write_of, landed_after, landed, write_by_count, landed_by_count_after, landed_by_count}
use Rattle.step_machine.specs.Names.{own_stores, land_of, lands, pending, Allowed, LegalAfter, Legal}
use Rattle.step_machine.proofs.Appended.{stores-append, lands-append}
use Rattle.memory.specs.declared.writes.Write.{Write}
use Rattle.std.proofs.lemmas.Bool.{eqb-true}

-- the element at a place within the first part of a list, as a list
element : (xs ys : List Write) (k : ℕ) → k < length xs → take 1 (drop k xs) ≡ option_to_list (slice_get (xs ++ ys) k)
element [] ys k lt = absurd (omega arith)
element (x ∷ xs) ys zero lt = refl
element (x ∷ xs) ys (suc k) lt = element xs ys k (omega arith)

write_counted : (B : ℕ) (o : OpeningValue) (before : List Entry) (e : Entry) (es : List Entry)
    → Allowed B o before e → write_of before e ≡ write_by_count (before ++ e ∷ es) before e
write_counted B o before e es a = grind (arith, length-drop, element, stores-append)

counted_after : (B : ℕ) (o : OpeningValue) (before es : List Entry) → LegalAfter B o before es
    → landed_after before es ≡ landed_by_count_after (before ++ es) before es
counted_after B o before [] l = refl
counted_after B o before (e ∷ es) l =
    ap (λ (ps : List Write). ps ++ landed_after (before ++ e ∷ []) es) (write_counted B o before e es l.0)
    ∙ ap (λ (ps : List Write). write_by_count (before ++ e ∷ es) before e ++ ps)
    (counted_after B o (before ++ e ∷ []) es l.1
    ∙ ap (λ (whole : List Entry). landed_by_count_after whole (before ++ e ∷ []) es) (append_assoc before (e ∷ []) es))

pub landed-counted : (B : ℕ) (t : History) → Legal B t → landed t.entries ≡ landed_by_count t.entries
landed-counted B t l = counted_after B t.opening [] t.entries l

-- ---- on a legal list no hart has more landings than stores, and none more than B pending

land_of_allowed : (B : ℕ) (o : OpeningValue) (before : List Entry) (h g : ℕ) (b : Bool) → (g == h) ≡ b
    → 0 < length (pending g before) → (if b then 1 else 0) ≤ length (pending h before)
land_of_allowed B o before h g b is some = grind (arith, eqb-true)

-- an entry lands no more of a hart than is pending
pub land_of-allowed : (B : ℕ) (o : OpeningValue) (before : List Entry) (h : ℕ) (e : Entry) → Allowed B o before e → land_of h e ≤ length (pending h before)
land_of-allowed B o before h e a = grind (arith, land_of_allowed)

pub balanced-last : (B : ℕ) (o : OpeningValue) (before : List Entry) (h : ℕ) (e : Entry) → Allowed B o before e
    → lands h before ≤ length (own_stores h before) → lands h (before ++ e ∷ []) ≤ length (own_stores h (before ++ e ∷ []))
balanced-last B o before h e a le = grind (arith, land_of-allowed, length-drop, lands-append, stores-append, length-append)

pub balanced-after : (B : ℕ) (o : OpeningValue) (before es : List Entry) (h : ℕ) → LegalAfter B o before es
    → lands h before ≤ length (own_stores h before) → lands h (before ++ es) ≤ length (own_stores h (before ++ es))
balanced-after B o before [] h l le = rw append-nil le
balanced-after B o before (e ∷ es) h l le =
    rw (← append_assoc before (e ∷ []) es) (balanced-after B o (before ++ e ∷ []) es h l.1 (balanced-last B o before h e l.0 le))

pub balanced : (B : ℕ) (t : History) (h : ℕ) → Legal B t → lands h t.entries ≤ length (own_stores h t.entries)
balanced B t h l = balanced-after B t.opening [] t.entries h l (omega arith)

-- and at most B of its stores are pending
