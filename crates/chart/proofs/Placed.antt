-- Each line of a row stands in a column and a lane that the picture has, and a row's own line in its hart's column.
use Rattle.std.proofs.Common.{◌≡◌, ℕ, zero, suc, ◌+◌, ◌<◌, ◌≤◌, ◌==◌, max, Bool, false, not, List, [], ◌∷◌, ◌++◌, length, Option, Some, None, All, refl, ◌∙◌}
use Rattle.std.proofs.Common.{subst, arith}
use Rattle.std.specs.Prelude.{option_to_list, IfSome}
use Rattle.std.specs.List.{slice_get}
use Rattle.std.proofs.lemmas.Bool.{cases_Bool, cases_eq, eqb-true, ne_eqb}
use Rattle.std.proofs.lemmas.List.{length-append}
use Rattle.std.proofs.lemmas.List.Elements.{All-nil, All-cons, All-head, All-tail, All-append, All-filter, All-weaker}
use Rattle.std.proofs.lemmas.Option.{IfSome_then}
use Rattle.memory.specs.declared.writes.Write.{Write}
use Rattle.step_machine.specs.declared.events.Entry.{Entry}
use Rattle.step_machine.specs.declared.events.Entry.TheVariants as entry
use Rattle.step_machine.specs.Names.{Access, hart_of, stored_by, own_store}
use Rattle.step_machine.proofs.Appended.{entry_there}
use Rattle.chart.specs.{Held, Shape, RowWrite, pending_by_row, row_number, landed_store, stored_at, RowOf, row_after, rows_after, LanedOf, hart_column}
use Rattle.chart.specs.{first_free, in_lane, held_by, own_line, passing_lines, laned_row, held_after_entry, held_after, lanes_from, rank, columns, lanes_to}
use Rattle.chart.specs.{lanes_at, used_after}
use Rattle.chart.specs.declared.places.Places.{Places}
use Rattle.chart.proofs.ByRow.{HasStored, pending_stored}
use Rattle.chart.proofs.Clear.{Placed, IsPlacedIn}
use Rattle.chart.proofs.LaneLaws.{first_free-is}

-- ---- what is held

-- the entry of the row is of a hart with this column
abbrev InItsColumn : Shape → List Entry → Held → Type 0
InItsColumn shape before h = (e : Entry) × (slice_get before h.row ≡ Some e) × (h.column ≡ hart_column shape (hart_of e))

record Kept (p : Places) (shape : Shape) (before : List Entry) (h : Held) : Type 0 where
  placed : Placed p h
  column : InItsColumn shape before h

slice_get-more : (y : Entry) (xs : List Entry) (i : ℕ) (x : Entry) → slice_get xs i ≡ Some x → slice_get (xs ++ y ∷ []) i ≡ Some x
slice_get-more y [] i x is = cc
slice_get-more y (z ∷ xs) zero x is = is
slice_get-more y (z ∷ xs) (suc i) x is = slice_get-more y xs i x is

kept_more : (p : Places) (shape : Shape) (before : List Entry) (e : Entry) (hs : List Held) → All (Kept p shape before) hs →
    All (Kept p shape (before ++ e ∷ [])) hs
kept_more p shape before e = All-weaker (Kept p shape before) (Kept p shape (before ++ e ∷ []))
    (λ h kept. record { placed = kept.placed; column = (kept.column.0, slice_get-more e before h.row kept.column.0 kept.column.1, kept.column.2) })

all_placed : (p : Places) (shape : Shape) (before : List Entry) (hs : List Held) → All (Kept p shape before) hs → All (Placed p) hs
all_placed p shape before = All-weaker (Kept p shape before) (Placed p) (λ h kept. kept.placed)

one_held : (P : Held → Type 0) (o : Option Held) → IfSome o P → All P (option_to_list o)
one_held P o holds = grind (arith, All-nil, All-cons)

-- ---- the line of a store

record Taken (p : Places) (row column : ℕ) (h : Held) : Type 0 where
  placed : Placed p h
  in_column : h.column ≡ column
  of_row : h.row ≡ row

in_lane-placed : (p : Places) (row column most : ℕ) (o : Option ℕ) → rank p column < columns p → most ≤ 254 →
    lanes_to (in_lane row column o) ≤ p.lanes → ((j : ℕ) → o ≡ Some j → j < most) → IfSome (in_lane row column o) (Taken p row column)
in_lane-placed p row column most o shown few used free = grind arith

taken_placed : (p : Places) (shape : Shape) (row column : ℕ) (held : List Held) → rank p column < columns p → shape.lanes ≤ 254 →
    lanes_to (in_lane row column (first_free held column 0 shape.lanes)) ≤ p.lanes →
    IfSome (in_lane row column (first_free held column 0 shape.lanes)) (Taken p row column)
taken_placed p shape row column held shown few used = in_lane-placed p row column shape.lanes (first_free held column 0 shape.lanes) shown few used
    (λ j is. let free = first_free-is held column 0 shape.lanes j is in omega (free.0, arith))

-- ---- the line of a landing

found_held : (P : Held → Type 0) (row : ℕ) (hs : List Held) → All P hs → IfSome (held_by row hs) (λ h. P h × (h.row ≡ row))
found_held P row [] all = tt
found_held P row (x ∷ hs) all = grind (arith, cases_Bool, All-head, eqb-true, All-tail, found_held P row hs (All-tail P x hs all))

not_stored : (x : Access) → stored_by false x ≡ []
not_stored x = grind arith

hart_stored : (h : ℕ) (e : Entry) (w : Write) → own_store h e ≡ w ∷ [] → hart_of e ≡ h
hart_stored h e w is = grind (arith, cases_eq, ne_eqb, not_stored)

oldest_stored : (h : ℕ) (before : List Entry) (ws : List RowWrite) (row : ℕ) → All (HasStored h before) ws → row_number (slice_get ws 0) ≡ Some row →
    (w : Write) × (stored_at h before row ≡ w ∷ [])
oldest_stored h before [] row all is = cc
oldest_stored h before (w ∷ ws) row all is =
    let here : Some w.row ≡ Some row = is in
    let same : w.row ≡ row = cc in
    (w.write, subst (λ (n : ℕ). stored_at h before n ≡ w.write ∷ []) same (All-head (HasStored h before) w ws all))

column_same : (shape : Shape) (before : List Entry) (h row : ℕ) (w : Write) (k : Held) → stored_at h before row ≡ w ∷ [] → k.row ≡ row →
    InItsColumn shape before k → k.column ≡ hart_column shape h
column_same shape before h row w k stored same its = grind (arith, hart_stored)

landed_placed : (p : Places) (shape : Shape) (before : List Entry) (h row : ℕ) (held : List Held) →
    landed_store before (entry.Land h) ≡ Some row → All (Kept p shape before) held →
    IfSome (held_by row held) (λ k. Placed p k × (k.column ≡ hart_column shape h))
landed_placed p shape before h row held landed all =
    let stored = oldest_stored h before (pending_by_row h before) row (pending_stored h before) landed in
    IfSome_then (held_by row held) {P = λ k. Kept p shape before k × (k.row ≡ row)} {Q = λ k. Placed p k × (k.column ≡ hart_column shape h)}
    (found_held (Kept p shape before) row held all)
    (λ k found. (found.0.placed, column_same shape before h row stored.0 k stored.1 found.1 found.0.column))

-- ---- rows

row-placed : (p : Places) (shape : Shape) (before : List Entry) (row : ℕ) (held : List Held) (landed : Option ℕ) (e : Entry) →
    landed_store before e ≡ landed → All (Kept p shape before) held → rank p (hart_column shape (hart_of e)) < columns p → shape.lanes ≤ 254 →
    lanes_to (own_line shape row held landed e) ≤ p.lanes →
    IfSome (own_line shape row held landed e) (λ h. Placed p h × (h.column ≡ hart_column shape (hart_of e))) × All (Placed p) (passing_lines held landed e)
row-placed p shape before row held landed (entry.Store h a width v) is all shown few used = (
  IfSome_then (in_lane row (hart_column shape h) (first_free held (hart_column shape h) 0 shape.lanes))
      {P = Taken p row (hart_column shape h)} {Q = λ k. Placed p k × (k.column ≡ hart_column shape h)}
      (taken_placed p shape row (hart_column shape h) held shown few used) (λ k taken. (taken.placed, taken.in_column)),
  all_placed p shape before held all,
)
row-placed p shape before row held None (entry.Land h) is all shown few used = (tt, all_placed p shape before held all)
row-placed p shape before row held (Some made) (entry.Land h) is all shown few used = (
  landed_placed p shape before h made held is all,
  All-filter (λ k. not (k.row == made)) (Placed p) held (all_placed p shape before held all),
)
row-placed p shape before row held landed other is all shown few used = (tt, all_placed p shape before held all)

next_kept : (p : Places) (shape : Shape) (before : List Entry) (row : ℕ) (held : List Held) (landed : Option ℕ) (e : Entry) →
    row ≡ length before → All (Kept p shape before) held → rank p (hart_column shape (hart_of e)) < columns p → shape.lanes ≤ 254 →
    lanes_to (own_line shape row held landed e) ≤ p.lanes →
    All (Kept p shape (before ++ e ∷ [])) (held_after_entry shape row held landed e)
next_kept p shape before row held landed (entry.Store h a width v) here all shown few used =
    let own = in_lane row (hart_column shape h) (first_free held (hart_column shape h) 0 shape.lanes) in
    let P = Kept p shape (before ++ entry.Store h a width v ∷ []) in
    All-append P held (option_to_list own) (kept_more p shape before (entry.Store h a width v) held all)
    (one_held P own (IfSome_then own {P = Taken p row (hart_column shape h)} {Q = P} (taken_placed p shape row (hart_column shape h) held shown few used)
    (λ k taken. let there : k.row ≡ length before = taken.of_row ∙ here in record {
      placed = taken.placed;
      column = (entry.Store h a width v, rw there (entry_there before (entry.Store h a width v) []), taken.in_column);
    })))
next_kept p shape before row held None (entry.Land h) here all shown few used = kept_more p shape before (entry.Land h) held all
next_kept p shape before row held (Some made) (entry.Land h) here all shown few used =
    All-filter (λ k. not (k.row == made)) (Kept p shape (before ++ entry.Land h ∷ [])) held (kept_more p shape before (entry.Land h) held all)
next_kept p shape before row held landed other here all shown few used = kept_more p shape before other held all

-- a row with its lines, which stand in columns and lanes of the picture
abbrev pub RowFits : Places → Shape → Option RowOf → Option LanedOf → Type 0
RowFits p shape None l = Unit {0}
RowFits p shape (Some r) None = Unit {0}
RowFits p shape (Some r) (Some l) = (rank p (hart_column shape (hart_of r.entry)) < columns p) × IsPlacedIn p (hart_column shape (hart_of r.entry)) l

abbrev pub HasColumn : Places → Shape → Entry → Type 0
HasColumn p shape e = rank p (hart_column shape (hart_of e)) < columns p

abbrev pub UsesLanes : Places → LanedOf → Type 0
UsesLanes p l = lanes_at l ≤ p.lanes

rows-fit : (p : Places) (shape : Shape) (before es : List Entry) (held : List Held) (n i : ℕ) → n ≡ length before →
    All (Kept p shape before) held → All (HasColumn p shape) es → shape.lanes ≤ 254 →
    All (UsesLanes p) (lanes_from shape n held (rows_after before es)) →
    RowFits p shape (slice_get (rows_after before es) i) (slice_get (lanes_from shape n held (rows_after before es)) i)
rows-fit p shape before [] held n i here all shown few used = tt
rows-fit p shape before (e ∷ es) held n zero here all shown few used =
    let there = All-head (HasColumn p shape) e es shown in (
      there,
      row-placed p shape before n held (landed_store before e) e refl all there few
          (All-head (UsesLanes p) (laned_row shape n held (row_after before e))
          (lanes_from shape (n + 1) (held_after shape n held (row_after before e)) (rows_after (before ++ e ∷ []) es)) used),
    )
rows-fit p shape before (e ∷ es) held n (suc i) here all shown few used =
    let row = row_after before e in
    let rest = lanes_from shape (n + 1) (held_after shape n held row) (rows_after (before ++ e ∷ []) es) in
    let longer : n + 1 ≡ length (before ++ e ∷ []) = omega (here, length-append before (e ∷ []), arith) in
    rows-fit p shape (before ++ e ∷ []) es (held_after shape n held row) (n + 1) i longer
    (next_kept p shape before n held (landed_store before e) e here all (All-head (HasColumn p shape) e es shown) few
    (All-head (UsesLanes p) (laned_row shape n held row) rest used))
    (All-tail (HasColumn p shape) e es shown) few (All-tail (UsesLanes p) (laned_row shape n held row) rest used)

used_least : (used : ℕ) (ls : List LanedOf) → used ≤ used_after used ls
used_least used [] = omega arith
used_least used (l ∷ ls) = grind (arith, used_least (max used (lanes_at l)) ls)

used_all : (used : ℕ) (ls : List LanedOf) → All (λ l. lanes_at l ≤ used_after used ls) ls
used_all used [] = All-nil (λ l. lanes_at l ≤ used)
used_all used (l ∷ ls) = grind (arith, used_least, All-cons, used_all (max used (lanes_at l)) ls)

pub row_fits : (p : Places) (shape : Shape) (es : List Entry) (least i : ℕ) → p.lanes ≡ used_after least (lanes_from shape 0 [] (rows_after [] es)) →
    All (HasColumn p shape) es → shape.lanes ≤ 254 →
    RowFits p shape (slice_get (rows_after [] es) i) (slice_get (lanes_from shape 0 [] (rows_after [] es)) i)
row_fits p shape es least i lanes shown few = grind (arith, rows-fit, All-nil, used_all)

-- ---- columns

column_there : (listed : Bool) (harts text lanes most h : ℕ) → harts ≤ 255 → h < harts →
    rank (record { listed = listed; harts = harts; text = text; lanes = lanes }) (hart_column (record { listed = listed; lanes = most }) h)
    < columns (record { listed = listed; harts = harts; text = text; lanes = lanes })
column_there listed harts text lanes most h few below = grind arith

pub columns_there : (es : List Entry) (harts : ℕ) (listed : Bool) (text lanes most : ℕ) → harts ≤ 255 → All (λ e. hart_of e < harts) es →
    All (HasColumn (record { listed = listed; harts = harts; text = text; lanes = lanes }) (record { listed = listed; lanes = most })) es
columns_there es harts listed text lanes most few =
    All-weaker (λ e. hart_of e < harts)
    (HasColumn (record { listed = listed; harts = harts; text = text; lanes = lanes }) (record { listed = listed; lanes = most }))
    (λ e below. column_there listed harts text lanes most (hart_of e) few below) es
