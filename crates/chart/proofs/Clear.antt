-- No text of a picture's row stands on another text or on a stroke.
use Rattle.std.proofs.Common.{◌≡◌, ℕ, ◌+◌, ◌-◌, ◌*◌, ◌<◌, ◌≤◌, ◌^◌, Bool, true, cond, if◌then◌else◌, ◌⊎◌, inl, inr, List, [], ◌∷◌, ◌++◌, length, map, Option}
use Rattle.std.proofs.Common.{Some, None, All, refl, ap, arith}
use Rattle.std.specs.Prelude.{nat_lt, nat_le, ◌&&◌, option_map, IfSome}
use Rattle.std.specs.List.{slice_index_or, flat_map, list_any, AllByRecursion}
use Rattle.std.specs.Fmt.{decimal}
use Rattle.std.proofs.Math.Nat.{mul-le-mul, suc-mul}
use Rattle.std.proofs.lemmas.Bool.{cases_Bool, cases_lt, and_parts, leb-true, ltb-true}
use Rattle.std.proofs.lemmas.Fmt.{length-decimal-le}
use Rattle.std.proofs.lemmas.List.Concat.{flat_map-cons}
use Rattle.std.proofs.lemmas.List.Elements.{All-nil, All-cons, All-head, All-tail, All-append, All-from_recursion}
use Rattle.step_machine.specs.declared.events.Entry.{Entry}
use Rattle.chart.specs.{Held, Sign, Down, To, Joins, Stroke, Loud, Source, RowOf, LanedOf, MarkOf, strikes, stands_in, IsClear, rank, columns, pitch}
use Rattle.chart.specs.{first_cell, lane_cell, memory_cell, sign_at, across, own_strokes, is_read, read_strokes, passing_stroke, row_strokes, text_at}
use Rattle.chart.specs.{number_mark, row_line}
use Rattle.chart.specs.declared.places.Places.{Places}

-- ---- cells of strokes

-- right of the rows' numbers, left of memory, and beside a text from one cell on and before another
abbrev Outside : (from following memory cell : ℕ) → Type 0
Outside from following memory cell = (7 ≤ cell) × (cell < memory) × ((cell < from) ⊎ (following ≤ cell))

abbrev Avoids : (from following memory : ℕ) → Stroke → Type 0
Avoids from following memory s = (cell : ℕ) → strikes s cell ≡ true → Outside from following memory cell

pub struck_at : (at count cell : ℕ) → (nat_le at cell && nat_lt (cell - at) count) ≡ true → (at ≤ cell) × (cell < at + count)
struck_at at count cell is = grind (arith, and_parts, leb-true, ltb-true)

sign_avoids : (from following memory : ℕ) (sign : Sign) (cell column : ℕ) → Outside from following memory cell →
    Avoids from following memory (sign_at sign cell column)
sign_avoids from following memory sign cell column there other is = grind (arith, struck_at)

across-avoids : (from following memory : ℕ) (sign : Sign) (first to column : ℕ) → 7 ≤ first → following ≤ first → to ≤ memory →
    Avoids from following memory (across sign first to column)
across-avoids from following memory sign first to column low right high cell is = grind (arith, struck_at)

to_memory : (from following memory column : ℕ) → 7 ≤ from → from ≤ following → following + 6 ≤ memory
    → Avoids from following memory (sign_at To (memory - 2) column)
to_memory from following memory column low right high = grind (arith, sign_avoids)

own_avoids : (from following memory column : ℕ) (lane : Option ℕ) (e : Entry) → 7 ≤ from → from ≤ following → following + 6 ≤ memory →
    IfSome lane (λ l. (following ≤ l) × (l < memory)) → AllByRecursion (Avoids from following memory) (own_strokes column following memory lane e)
own_avoids from following memory column lane e low right high placed = grind (arith, sign_avoids, across-avoids, to_memory)

-- ---- a row

-- whether a pending store's line stands in a column and lane that the picture has
abbrev pub Placed : Places → Held → Type 0
Placed p h = (rank p h.column < columns p) × (h.lane < p.lanes)

read_avoids : (p : Places) (from following column : ℕ) (sources : List Source) (h : Held) → 7 ≤ from → from ≤ following →
    following + 6 ≤ memory_cell p → lane_cell p h < memory_cell p →
    AllByRecursion (Avoids from following (memory_cell p)) (read_strokes p sources column following h)
read_avoids p from following column sources h low right high placed = grind (arith, sign_avoids, across-avoids)

reads_avoid : (p : Places) (from following column : ℕ) (sources : List Source) (hs : List Held) → 7 ≤ from → from ≤ following →
    following + 6 ≤ memory_cell p → All (λ h. Outside from following (memory_cell p) (lane_cell p h)) hs →
    All (Avoids from following (memory_cell p)) (flat_map (read_strokes p sources column following) hs)
reads_avoid p from following column sources [] low right high all = All-nil (Avoids from following (memory_cell p))
reads_avoid p from following column sources (h ∷ hs) low right high all =
    rw (flat_map-cons (read_strokes p sources column following) h hs)
    (All-append (Avoids from following (memory_cell p)) (read_strokes p sources column following h) (flat_map (read_strokes p sources column following) hs)
    (All-from_recursion (Avoids from following (memory_cell p)) (read_strokes p sources column following h)
    (read_avoids p from following column sources h low right high (All-head (λ h. Outside from following (memory_cell p) (lane_cell p h)) h hs all).1))
    (reads_avoid p from following column sources hs low right high (All-tail (λ h. Outside from following (memory_cell p) (lane_cell p h)) h hs all)))

passing_avoid : (p : Places) (from following : ℕ) (sources : List Source) (hs : List Held) →
    All (λ h. Outside from following (memory_cell p) (lane_cell p h)) hs →
    All (Avoids from following (memory_cell p)) (map (passing_stroke p sources) hs)
passing_avoid p from following sources [] all = All-nil (Avoids from following (memory_cell p))
passing_avoid p from following sources (h ∷ hs) all =
    All-cons (Avoids from following (memory_cell p)) (passing_stroke p sources h) (map (passing_stroke p sources) hs)
    (sign_avoids from following (memory_cell p) (if is_read sources h then Joins else Down) (lane_cell p h) h.column
    (All-head (λ h. Outside from following (memory_cell p) (lane_cell p h)) h hs all))
    (passing_avoid p from following sources hs (All-tail (λ h. Outside from following (memory_cell p) (lane_cell p h)) h hs all))

any_avoids : (from following memory cell : ℕ) (ss : List Stroke) → All (Avoids from following memory) ss →
    list_any (λ s. strikes s cell) ss ≡ true → Outside from following memory cell
any_avoids from following memory cell [] all is = cc
any_avoids from following memory cell (s ∷ ss) all is =
    elim (cases_Bool (strikes s cell)) [
      | inl here ↦ All-head (Avoids from following memory) s ss all cell here
      | inr other ↦ any_avoids from following memory cell ss (All-tail (Avoids from following memory) s ss all) (rw other at is)
    ]

-- at most one of four, where no two of them are at once
pub one_of : (a b c d : Bool) → (a ≡ true → b ≡ true → ⊥) → (a ≡ true → c ≡ true → ⊥) → (a ≡ true → d ≡ true → ⊥) → (b ≡ true → c ≡ true → ⊥) →
    (b ≡ true → d ≡ true → ⊥) → (c ≡ true → d ≡ true → ⊥) →
    0 + cond a 1 0 + cond b 1 0 + cond c 1 0 + (if d then 1 else 0) ≤ 1
one_of a b c d ab ac ad bc bd cd = grind arith

-- a number that ends before cell 7, a text, one in memory, and strokes beside them
pub pieces_clear : (number label kept : MarkOf) (ss : List Stroke) → number.at + length number.text ≤ 7 → 7 ≤ label.at →
    label.at + length label.text ≤ kept.at → All (Avoids label.at (label.at + length label.text) kept.at) ss →
    IsClear (record { marks = number ∷ label ∷ kept ∷ []; strokes = ss })
pieces_clear number label kept ss left low right all cell = grind (
  arith,
  struck_at number.at (length number.text) cell,
  struck_at label.at (length label.text) cell,
  struck_at kept.at (length kept.text) cell,
  any_avoids label.at (label.at + length label.text) kept.at cell ss all,
  one_of (stands_in cell number) (stands_in cell label) (stands_in cell kept),
)

-- ---- cells of lanes

room_left : (a n w : ℕ) → a < n → a * w + w ≤ n * w
room_left a n w below = grind (arith, mul-le-mul, suc-mul)

-- the lane of a column, beside the text of this column or another one
lane_beside : (w text lanes lane a b n : ℕ) → w ≡ text + 2 * lanes + 4 → a < n → b < n → lane < lanes →
    Outside (7 + b * w) (7 + b * w + text + 2) (9 + n * w) (7 + a * w + text + 2 * (lanes - lane))
lane_beside w text lanes lane a b n is first second below = grind (arith, room_left, cases_lt, mul-le-mul)

lane_outside : (p : Places) (column : ℕ) (h : Held) → rank p column < columns p → Placed p h →
    Outside (first_cell p column) (first_cell p column + p.text + 2) (memory_cell p) (lane_cell p h)
lane_outside p column h shown placed =
    lane_beside (pitch p) p.text p.lanes h.lane (rank p h.column) (rank p column) (columns p) refl placed.0 shown placed.1

-- ---- a row's line

abbrev pub IsPlacedIn : Places → (column : ℕ) → LanedOf → Type 0
IsPlacedIn p column l = IfSome l.own (λ h. Placed p h × (h.column ≡ column)) × All (Placed p) l.passing

own-beside : (p : Places) (column cells : ℕ) (own : Option Held) → rank p column < columns p → cells ≤ p.text →
    IfSome own (λ h. Placed p h × (h.column ≡ column)) →
    IfSome (option_map (lane_cell p) own) (λ l. (first_cell p column + cells ≤ l) × (l < memory_cell p))
own-beside p column cells None shown short placed = tt
own-beside p column cells (Some h) shown short placed =
    let there = lane_outside p column h shown placed.0 in
    let here : first_cell p h.column ≡ first_cell p column = ap (first_cell p) placed.1 in
    (omega (here, short, arith), there.1)

strokes_avoid : (p : Places) (column cells : ℕ) (r : RowOf) (l : LanedOf) → rank p column < columns p → cells ≤ p.text → IsPlacedIn p column l →
    All (Avoids (first_cell p column) (first_cell p column + cells) (memory_cell p)) (row_strokes p column (first_cell p column + cells) r l)
strokes_avoid p column cells r l shown short placed =
    let from = first_cell p column in
    let following = first_cell p column + cells in
    let memory = memory_cell p in
    let room : rank p column * pitch p + pitch p ≤ columns p * pitch p = room_left (rank p column) (columns p) (pitch p) shown in
    let low : 7 ≤ from = omega arith in
    let right : from ≤ following = omega arith in
    let high : following + 6 ≤ memory = omega (room, short, arith) in
    let P = Avoids from following memory in
    let beside : All (λ h. Outside from following memory (lane_cell p h)) l.passing =
    (λ k d below. let there = lane_outside p column (slice_index_or l.passing k d) shown (placed.1 k d below) in
    (there.0, there.1, elim there.2 [ inl before ↦ inl before | inr after ↦ inr (omega (after, short, arith)) ])) in
    let own = own_strokes column following memory (option_map (lane_cell p) l.own) r.entry in
    let reads = flat_map (read_strokes p r.sources column following) l.passing in
    All-append P (own ++ reads) (map (passing_stroke p r.sources) l.passing)
    (All-append P own reads
    (All-from_recursion P own (own_avoids from following memory column (option_map (lane_cell p) l.own) r.entry low right high
    (own-beside p column cells l.own shown short placed.0)))
    (reads_avoid p from following column r.sources l.passing low right high beside))
    (passing_avoid p from following r.sources l.passing beside)

pub row_clear : (p : Places) (i column : ℕ) (label kept : List ℕ) (r : RowOf) (l : LanedOf) → i + 1 < 10 ^ 7 → rank p column < columns p →
    length label ≤ p.text → IsPlacedIn p column l → IsClear (row_line p i column label kept r l)
row_clear p i column label kept r l few shown short placed =
    let digits : length (decimal (i + 1)) ≤ 7 = length-decimal-le 7 (i + 1) (omega arith) few (omega (few, arith)) in
    let room : rank p column * pitch p + pitch p ≤ columns p * pitch p = room_left (rank p column) (columns p) (pitch p) shown in
    pieces_clear (number_mark i) (text_at (first_cell p column) Loud label) (text_at (memory_cell p) Loud kept)
    (row_strokes p column (first_cell p column + length label) r l)
    (omega (digits, arith)) (omega arith) (omega (room, short, arith))
    (strokes_avoid p column (length label) r l shown short placed)
