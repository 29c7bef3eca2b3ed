-- No two lines that stand at one row have one lane.
use Rattle.std.proofs.Common.{arith, ◌≡◌, ℕ, ◌+◌, ◌==◌, false, List, [], ◌∷◌, ◌++◌, Option, Some, All, refl, sym, ◌∙◌, inl, inr, eq-eqb, append-nil}
use Rattle.std.specs.Prelude.{option_to_list}
use Rattle.std.proofs.lemmas.Bool.{cases_Bool, cases_eq, ne_eqb, or_parts, or_from}
use Rattle.std.proofs.lemmas.List.Folds.{list_any-append}
use Rattle.std.proofs.lemmas.List.Elements.{All-nil, All-cons}
use Rattle.step_machine.specs.declared.events.Entry.{Entry}
use Rattle.chart.specs.{Held, Shape, RowOf, holds, is_held, in_lane, held_by, others, own_line, passing_lines, held_after_entry, laned_row, held_after}
use Rattle.chart.specs.{lanes_from, lanes_of, AreLanesApart, IsApart}
use Rattle.chart.proofs.LaneLaws.{first_free-is}

eqb-swap : (a b : ℕ) → (a == b) ≡ (b == a)
eqb-swap a b = elim (cases_eq a b) [ inl e ↦ eq-eqb a b e ∙ sym (eq-eqb b a (sym e)) | inr n ↦ ne_eqb a b n ∙ sym (ne_eqb b a (λ e. n (sym e))) ]

holds-swap : (a b : Held) → holds a.column a.lane b ≡ holds b.column b.lane a
holds-swap a b = rw (eqb-swap b.column a.column, eqb-swap b.lane a.lane) refl

-- what nobody holds, nobody of the others holds
free_others : (row column lane : ℕ) (hs : List Held) → is_held hs column lane ≡ false → is_held (others row hs) column lane ≡ false
free_others row column lane [] free = refl
free_others row column lane (x ∷ hs) free = grind (arith, or_parts, or_from, free_others row column lane hs)

apart_others : (row : ℕ) (hs : List Held) → AreLanesApart hs → AreLanesApart (others row hs)
apart_others row [] apart = tt
apart_others row (x ∷ hs) apart = grind (arith, free_others, apart_others row hs apart.1)

apart_last : (hs : List Held) (h : Held) → AreLanesApart hs → is_held hs h.column h.lane ≡ false → AreLanesApart (hs ++ h ∷ [])
apart_last [] h apart free = (refl, tt)
apart_last (x ∷ hs) h apart free = grind (arith, or_parts, or_from, holds-swap, list_any-append, apart_last hs h apart.1)

apart_in_lane : (row column : ℕ) (held : List Held) (o : Option ℕ) → AreLanesApart held → ((j : ℕ) → o ≡ Some j → is_held held column j ≡ false) →
    AreLanesApart (held ++ option_to_list (in_lane row column o))
apart_in_lane row column held o apart free = grind (arith, append-nil, apart_last)

in_lane-apart : (row column : ℕ) (held : List Held) (o : Option ℕ) → AreLanesApart held → ((j : ℕ) → o ≡ Some j → is_held held column j ≡ false) →
    AreLanesApart (option_to_list (in_lane row column o) ++ held)
in_lane-apart row column held o apart free = grind arith

-- ---- the line of a store that lands

found_free : (row column lane : ℕ) (hs : List Held) (h : Held) → held_by row hs ≡ Some h → is_held hs column lane ≡ false → holds column lane h ≡ false
found_free row column lane [] h is free = cc
found_free row column lane (x ∷ hs) h is free = grind (arith, or_parts, cases_Bool, found_free row column lane hs h)

found_apart : (row : ℕ) (hs : List Held) (h : Held) → held_by row hs ≡ Some h → AreLanesApart hs → is_held (others row hs) h.column h.lane ≡ false
found_apart row [] h is apart = refl
found_apart row (x ∷ hs) h is apart = grind (arith, cases_Bool, free_others, or_from, holds-swap, found_free, found_apart row hs h)

landed_apart : (row : ℕ) (held : List Held) (o : Option Held) → held_by row held ≡ o → AreLanesApart held → AreLanesApart (option_to_list o ++ others row held)
landed_apart row held o is apart = grind (arith, apart_others, found_apart)

-- ---- rows

row-apart : (shape : Shape) (row : ℕ) (held : List Held) (landed : Option ℕ) (e : Entry) → AreLanesApart held →
    AreLanesApart (option_to_list (own_line shape row held landed e) ++ passing_lines held landed e)
row-apart shape row held landed e apart = grind (arith, in_lane-apart, first_free-is, landed_apart)

next_apart : (shape : Shape) (row : ℕ) (held : List Held) (landed : Option ℕ) (e : Entry) → AreLanesApart held →
    AreLanesApart (held_after_entry shape row held landed e)
next_apart shape row held landed e apart = grind (arith, apart_in_lane, first_free-is, apart_others)

rows_apart : (shape : Shape) (row : ℕ) (held : List Held) (rs : List RowOf) → AreLanesApart held → All IsApart (lanes_from shape row held rs)
rows_apart shape row held [] apart = All-nil IsApart
rows_apart shape row held (r ∷ rs) apart =
    All-cons IsApart (laned_row shape row held r) (lanes_from shape (row + 1) (held_after shape row held r) rs)
    (row-apart shape row held r.landed r.entry apart)
    (rows_apart shape (row + 1) (held_after shape row held r) rs (next_apart shape row held r.landed r.entry apart))

pub lanes_apart : (shape : Shape) (rs : List RowOf) → All IsApart (lanes_of shape rs)
lanes_apart shape rs = rows_apart shape 0 [] rs tt
