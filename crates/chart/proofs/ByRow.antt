-- Writes with their rows are the writes, and each row named has made its write.
use Rattle.std.proofs.Common.{◌≡◌, ℕ, ◌+◌, ◌-◌, ◌<◌, ◌==◌, min, get_or, Bool, true, false, if◌then◌else◌, List, [], ◌∷◌, ◌++◌, length, take, drop, map, Option}
use Rattle.std.proofs.Common.{Some, None, All, refl, sym, ◌∙◌, ap, subst, arith, append_assoc, append-nil}
use Rattle.std.specs.Prelude.{option_map, option_to_list, IfSome}
use Rattle.std.specs.Int.{byte_at}
use Rattle.std.specs.List.{slice_get}
use Rattle.std.proofs.lemmas.List.{map-append, drop-map, drop_min, length-append, length-drop, length-take, take_all, take_more}
use Rattle.std.proofs.lemmas.List.Elements.{All-nil, All-cons, All-head, All-tail, All-append, All-drop}
use Rattle.memory.specs.declared.writes.Write.{Write}
use Rattle.memory.specs.Writes.{covers, newest_of}
use Rattle.step_machine.specs.declared.events.Entry.{Entry}
use Rattle.step_machine.specs.Names.{Access, access_of, hart_of, stored_by, written_by, own_store, own_stores, lands, pending, write_of, landed_after, landed}
use Rattle.step_machine.proofs.Appended.{entry_there, lands-append}
use Rattle.chart.specs.{RowWrite, at_row, stores_by_row, pending_by_row, landed_by_row_after, landed_by_row, newest_from, stored_at, written_in_row}

abbrev pub write_in : RowWrite → Write
write_in w = w.write

abbrev pub writes : List RowWrite → List Write
writes ws = map write_in ws

writes-at_row : (n : ℕ) (ws : List Write) → writes (at_row n ws) ≡ ws
writes-at_row n [] = refl
writes-at_row n (w ∷ ws) = ap (λ (vs : List Write). w ∷ vs) (writes-at_row n ws)

writes-stores : (h n : ℕ) (es : List Entry) → writes (stores_by_row h n es) ≡ own_stores h es
writes-stores h n [] = refl
writes-stores h n (e ∷ es) = grind (arith, map-append, writes-at_row, writes-stores h (n + 1) es)

pub writes-pending : (h : ℕ) (es : List Entry) → writes (pending_by_row h es) ≡ pending h es
writes-pending h es = sym (drop-map write_in (lands h es) (stores_by_row h 0 es)) ∙ ap (λ (ws : List Write). drop (lands h es) ws) (writes-stores h 0 es)

writes-landed_after : (before : List Entry) (n : ℕ) (es : List Entry) → writes (landed_by_row_after before n es) ≡ landed_after before es
writes-landed_after before n [] = refl
writes-landed_after before n (e ∷ es) = grind (arith, map-append, writes-at_row, writes-landed_after (before ++ e ∷ []) (n + 1) es)

pub writes-landed : (es : List Entry) → writes (landed_by_row es) ≡ landed es
writes-landed es = writes-landed_after [] 0 es

-- ---- the newest one

abbrev pub byte_by : ℕ → RowWrite → ℕ
byte_by a w = byte_at (a - w.write.addr) w.write.value

pub newest-bytes : (a : ℕ) (found : Option RowWrite) (ws : List RowWrite)
    → newest_of a (option_map (byte_by a) found) (writes ws) ≡ option_map (byte_by a) (newest_from a found ws)
newest-bytes a found [] = refl
newest-bytes a found (w ∷ ws) = grind (arith, newest-bytes a (Some w) ws, newest-bytes a found ws)

pub newest-is : (P : RowWrite → Type 0) (a : ℕ) (found : Option RowWrite) (ws : List RowWrite) → IfSome found P → All P ws → IfSome (newest_from a found ws) P
newest-is P a found [] was all = was
newest-is P a found (w ∷ ws) was all =
    elim (covers w.write a) as (λ b. IfSome (newest_from a (if b then Some w else found) ws) P)
    [ true ↦ newest-is P a (Some w) ws (All-head P w ws all) (All-tail P w ws all) | false ↦ newest-is P a found ws was (All-tail P w ws all) ]

-- ---- each row has made its write

entries_before : (before : List Entry) (e : Entry) (es : List Entry) → take (length before) (before ++ e ∷ es) ≡ before
entries_before [] e es = refl
entries_before (b ∷ before) e es = ap (λ (bs : List Entry). b ∷ bs) (entries_before before e es)

-- a list of one write at most
one_stored : (P : RowWrite → Type 0) (n : ℕ) (b : Bool) (x : Access)
    → ((w : Write) → stored_by b x ≡ w ∷ [] → P (record { row = n; write = w })) → All P (at_row n (stored_by b x))
one_stored P n b x holds = grind (arith, All-cons, All-nil)

one_oldest : (P : RowWrite → Type 0) (n : ℕ) (ws : List Write)
    → ((w : Write) → take 1 ws ≡ w ∷ [] → P (record { row = n; write = w })) → All P (at_row n (take 1 ws))
one_oldest P n ws holds = grind (arith, All-nil, All-cons)

one_written : (P : RowWrite → Type 0) (n : ℕ) (ws : List Write) (x : Access)
    → ((w : Write) → written_by (take 1 ws) x ≡ w ∷ [] → P (record { row = n; write = w }))
    → All P (at_row n (written_by (take 1 ws) x))
one_written P n ws x holds = grind (arith, All-cons, All-nil, one_oldest)

-- the row has stored this, or written it to memory
abbrev pub HasStored : ℕ → List Entry → RowWrite → Type 0
HasStored h whole w = stored_at h whole w.row ≡ w.write ∷ []

abbrev pub HasWritten : List Entry → RowWrite → Type 0
HasWritten whole w = written_in_row whole w.row ≡ w.write ∷ []

stored_from : (h : ℕ) (before es : List Entry) (n : ℕ) → n ≡ length before → All (HasStored h (before ++ es)) (stores_by_row h n es)
stored_from h before [] n here = All-nil (HasStored h (before ++ []))
stored_from h before (e ∷ es) n here =
    All-append (HasStored h (before ++ e ∷ es)) (at_row n (own_store h e)) (stores_by_row h (n + 1) es)
    (one_stored (HasStored h (before ++ e ∷ es)) n (hart_of e == h) (access_of e) (λ w is. rw (here, entry_there before e es) is))
    (subst (λ (whole : List Entry). All (HasStored h whole) (stores_by_row h (n + 1) es))
    (append_assoc before (e ∷ []) es)
    (stored_from h (before ++ e ∷ []) es (n + 1) (rw (here, length-append before (e ∷ [])) refl)))

written_from : (before es : List Entry) (n : ℕ) → n ≡ length before → All (HasWritten (before ++ es)) (landed_by_row_after before n es)
written_from before [] n here = All-nil (HasWritten (before ++ []))
written_from before (e ∷ es) n here =
    All-append (HasWritten (before ++ e ∷ es)) (at_row n (write_of before e)) (landed_by_row_after (before ++ e ∷ []) (n + 1) es)
    (one_written (HasWritten (before ++ e ∷ es)) n (pending (hart_of e) before) (access_of e)
    (λ w is. rw (here, entry_there before e es, entries_before before e es) is))
    (subst (λ (whole : List Entry). All (HasWritten whole) (landed_by_row_after (before ++ e ∷ []) (n + 1) es))
    (append_assoc before (e ∷ []) es)
    (written_from (before ++ e ∷ []) es (n + 1) (rw (here, length-append before (e ∷ [])) refl)))

pub pending_stored : (h : ℕ) (es : List Entry) → All (HasStored h es) (pending_by_row h es)
pending_stored h es = All-drop (HasStored h es) (lands h es) (stores_by_row h 0 es) (stored_from h [] es 0 refl)

pub landed_written : (es : List Entry) → All (HasWritten es) (landed_by_row es)
landed_written es = written_from [] es 0 refl

-- ---- one more entry, and one more write

pub stores_by_row-last : (h n : ℕ) (es : List Entry) (e : Entry)
    → stores_by_row h n (es ++ e ∷ []) ≡ stores_by_row h n es ++ at_row (n + length es) (own_store h e)
stores_by_row-last h n [] e = let here : n + 0 ≡ n = omega arith in rw here (append-nil (at_row n (own_store h e)))
stores_by_row-last h n (x ∷ es) e = grind (arith, append_assoc, stores_by_row-last h (n + 1) es e)

landed_after-last : (before : List Entry) (n : ℕ) (es : List Entry) (e : Entry)
    → landed_by_row_after before n (es ++ e ∷ []) ≡ landed_by_row_after before n es
    ++ at_row (n + length es) (write_of (before ++ es) e)
landed_after-last before n [] e = let here : n + 0 ≡ n = omega arith in rw (here, append-nil before) (append-nil (at_row n (write_of before e)))
landed_after-last before n (x ∷ es) e = grind (arith, append_assoc, landed_after-last (before ++ x ∷ []) (n + 1) es e)

pub landed_by_row-last : (es : List Entry) (e : Entry) → landed_by_row (es ++ e ∷ []) ≡ landed_by_row es ++ at_row (length es) (write_of es e)
landed_by_row-last es e = let here : 0 + length es ≡ length es = omega arith in rw (← here) (landed_after-last [] 0 es e)

-- the same of the front of a list
pub stores_next : (h i : ℕ) (es : List Entry) (d : Entry) → i < length es
    → stores_by_row h 0 (take (i + 1) es) ≡ stores_by_row h 0 (take i es) ++ at_row i (own_store h (get_or es i d))
stores_next h i es d within = grind (arith, length-take i es, take_more es i d within, stores_by_row-last h 0 (take i es) (get_or es i d), get_or es i d)

pub landed_next : (i : ℕ) (es : List Entry) (d : Entry) → i < length es
    → landed_by_row (take (i + 1) es) ≡ landed_by_row (take i es) ++ at_row i (write_of (take i es) (get_or es i d))
landed_next i es d within = grind (arith, length-take i es, take_more es i d within, landed_by_row-last (take i es) (get_or es i d), get_or es i d)

pub lands_next : (h i : ℕ) (es : List Entry) (d : Entry) → i < length es → lands h (take (i + 1) es) ≡ lands h (take i es) + lands h (get_or es i d ∷ [])
lands_next h i es d within = rw (take_more es i d within) (lands-append h (take i es) (get_or es i d ∷ []))

newest_from-last : (a : ℕ) (found : Option RowWrite) (ws : List RowWrite) (w : RowWrite)
    → newest_from a found (ws ++ w ∷ []) ≡ (if covers w.write a then Some w else newest_from a found ws)
newest_from-last a found [] w = refl
newest_from-last a found (x ∷ ws) w = newest_from-last a (if covers x.write a then Some x else found) ws w

pub newest_next : (a i : ℕ) (ws : List RowWrite) (d : RowWrite) → i < length ws
    → newest_from a None (take (i + 1) ws)
    ≡ (if covers (get_or ws i d).write a then Some (get_or ws i d) else newest_from a None (take i ws))
newest_next a i ws d within = rw (take_more ws i d within) (newest_from-last a None (take i ws) (get_or ws i d))

-- the oldest of a list, with its row and without
pub oldest_written : (h : ℕ) (es : List Entry) → take 1 (pending h es) ≡ option_to_list (option_map write_in (slice_get (pending_by_row h es) 0))
oldest_written h es = rw (← writes-pending h es) (at (pending_by_row h es))
  where
    at : (ws : List RowWrite) → take 1 (writes ws) ≡ option_to_list (option_map write_in (slice_get ws 0))
    at [] = refl
    at (w ∷ ws) = refl

-- what is left of a list of stores without its first n
pub left_over : (n m : ℕ) (ws all : List RowWrite) → ws ≡ all → m ≡ min n (length ws) → take (length ws - m) (drop m ws) ≡ drop n all
left_over n m ws all same cut = grind (arith, drop_min, take_all, length-drop)
