-- What one more entry at the end does to a hart's own entries, its stores and landings, its pending
-- stores, what landed, and its path.
use Rattle.std.proofs.Common.{◌≡◌, ℕ, ◌+◌, ◌≤◌, List, [], ◌∷◌, ◌++◌, length, drop, Some, refl, sym, ◌∙◌, ap, append_assoc, add_assoc, zero-add, arith}
use Rattle.std.proofs.Common.{append-nil}
use Rattle.std.specs.List.{slice_get}
use Rattle.std.proofs.lemmas.List.{drop-append-le, drop-drop}
use Rattle.hart.specs.{HartState, advanced}
use Rattle.step_machine.specs.Names.{Entry, OpeningValue, own, own_store, own_stores, land_of, lands, pending, write_of, landed_after, landed, report_of}
use Rattle.step_machine.specs.Names.{reported, number_read, after_entries, MakesEntries, LegalAfter}

-- the entry after others is at the place of their number
pub entry_there : (before : List Entry) (e : Entry) (es : List Entry) → slice_get (before ++ e ∷ es) (length before) ≡ Some e
entry_there [] e es = refl
entry_there (b ∷ before) e es = entry_there before e es

pub own-append : (h : ℕ) (es fs : List Entry) → own h (es ++ fs) ≡ own h es ++ own h fs
own-append h [] fs = refl
own-append h (e ∷ es) fs = grind (arith, own-append h es fs)

pub stores-append : (h : ℕ) (es fs : List Entry) → own_stores h (es ++ fs) ≡ own_stores h es ++ own_stores h fs
stores-append h [] fs = refl
stores-append h (e ∷ es) fs = ap (λ t. own_store h e ++ t) (stores-append h es fs) ∙ sym (append_assoc (own_store h e) (own_stores h es) (own_stores h fs))

pub lands-append : (h : ℕ) (es fs : List Entry) → lands h (es ++ fs) ≡ lands h es + lands h fs
lands-append h [] fs = sym (zero-add (lands h fs))
lands-append h (e ∷ es) fs = ap (λ n. land_of h e + n) (lands-append h es fs) ∙ sym (add_assoc (land_of h e) (lands h es) (lands h fs))

pub reported-append : (h : ℕ) (es fs : List Entry) → reported h (es ++ fs) ≡ reported h es ++ reported h fs
reported-append h [] fs = refl
reported-append h (e ∷ es) fs = ap (λ t. report_of h e ++ t) (reported-append h es fs) ∙ sym (append_assoc (report_of h e) (reported h es) (reported h fs))

pub reported-last : (h : ℕ) (es : List Entry) (e : Entry) → reported h (es ++ e ∷ []) ≡ reported h es ++ report_of h e
reported-last h es e = reported-append h es (e ∷ []) ∙ ap (λ t. reported h es ++ t) (append-nil (report_of h e))

pub landed_after-append : (before es fs : List Entry) → landed_after before (es ++ fs) ≡ landed_after before es ++ landed_after (before ++ es) fs
landed_after-append before [] fs = ap (λ b. landed_after b fs) (sym (append-nil before))
landed_after-append before (e ∷ es) fs = grind (arith, append_assoc, landed_after-append (before ++ e ∷ []) es fs)

pub landed-last : (es : List Entry) (e : Entry) → landed (es ++ e ∷ []) ≡ landed es ++ write_of es e
landed-last es e = landed_after-append [] es (e ∷ []) ∙ ap (λ t. landed es ++ t) (append-nil (write_of es e))

pub after_entries-append : (s : HartState) (es fs : List Entry) → after_entries s (es ++ fs) ≡ after_entries (after_entries s es) fs
after_entries-append s [] fs = refl
after_entries-append s (e ∷ es) fs = after_entries-append (advanced s (number_read e)) es fs

-- a path goes on by entries that the state after it makes
pub Makes-append : (s : HartState) (es fs : List Entry) → MakesEntries s es → MakesEntries (after_entries s es) fs → MakesEntries s (es ++ fs)
Makes-append s [] fs m n = n
Makes-append s (e ∷ es) fs m n = (m.0, Makes-append (advanced s (number_read e)) es fs m.1 n)

pub Makes-front : (s : HartState) (es fs : List Entry) → MakesEntries s (es ++ fs) → MakesEntries s es
Makes-front s [] fs m = tt
Makes-front s (e ∷ es) fs m = (m.0, Makes-front (advanced s (number_read e)) es fs m.1)

pub Makes-back : (s : HartState) (es fs : List Entry) → MakesEntries s (es ++ fs) → MakesEntries (after_entries s es) fs
Makes-back s [] fs m = m
Makes-back s (e ∷ es) fs m = Makes-back (advanced s (number_read e)) es fs m.1

pub LegalAfter-append : (B : ℕ) (o : OpeningValue) (before es fs : List Entry) → LegalAfter B o before es
    → LegalAfter B o (before ++ es) fs → LegalAfter B o before (es ++ fs)
LegalAfter-append B o before [] fs l m = rw append-nil at m
LegalAfter-append B o before (e ∷ es) fs l m = (l.0, LegalAfter-append B o (before ++ e ∷ []) es fs l.1 (rw append_assoc m))

pub LegalAfter-front : (B : ℕ) (o : OpeningValue) (before es fs : List Entry) → LegalAfter B o before (es ++ fs) → LegalAfter B o before es
LegalAfter-front B o before [] fs l = tt
LegalAfter-front B o before (e ∷ es) fs l = (l.0, LegalAfter-front B o (before ++ e ∷ []) es fs l.1)

pub LegalAfter-back : (B : ℕ) (o : OpeningValue) (before es fs : List Entry) → LegalAfter B o before (es ++ fs) → LegalAfter B o (before ++ es) fs
LegalAfter-back B o before [] fs l = rw append-nil l
LegalAfter-back B o before (e ∷ es) fs l = rw (← append_assoc before (e ∷ []) es) (LegalAfter-back B o (before ++ e ∷ []) es fs l.1)

-- the hart's pending stores after one more entry
pub pending-last : (h : ℕ) (es : List Entry) (e : Entry) → lands h es ≤ length (own_stores h es)
    → pending h (es ++ e ∷ []) ≡ drop (land_of h e) (pending h es ++ own_store h e)
pending-last h es e le = grind (arith, stores-append, append-nil, lands-append, drop-drop, drop-append-le)
