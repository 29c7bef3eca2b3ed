-- A diary against its part of the entries, entry by entry.
use Rattle.std.proofs.Common.{◌≡◌, ℕ, ◌+◌, ◌<◌, Bool, true, false, not, cond, List, [], ◌∷◌, ◌++◌, length, get_or, take, drop, Option, Some, None, refl, sym}
use Rattle.std.proofs.Common.{◌∙◌, ap, arith, append-nil, append_assoc}
use Rattle.std.specs.Prelude.{MatchBool, All, is_some}
use Rattle.std.specs.List.{filter, slice_get}
use Rattle.std.proofs.Math.Seq.{get_or-append_seam, take-length}
use Rattle.std.proofs.lemmas.List.{take-append-drop, length-append}
use Rattle.std.proofs.lemmas.List.Elements.{filter-append, filter_more}
use Rattle.step_machine.specs.declared.events.Entry.{Entry}
use Rattle.step_machine.specs.Names.{own, is_own, IsOwn}
use Rattle.hart_threads.specs.{SeatView, HoldsPart, HasPart, part_of, counting_entries, keeps}

own-filter : (h : ℕ) (es : List Entry) → own h es ≡ filter (is_own h) es
own-filter h [] = refl
own-filter h (e ∷ es) = ap (λ (xs : List Entry). cond (is_own h e) (e ∷ xs) xs) (own-filter h es)

pub part-filter : (s : SeatView) (es : List Entry) → part_of s es ≡ filter (keeps s) es
part-filter s es = grind (arith, own-filter)

-- what passes, at a place where the entry passes
filter_at : (p : Entry → Bool) (es : List Entry) (i : ℕ) (d : Entry) → i < length es → p (get_or es i d) ≡ true
    → filter p es ≡ filter p (take i es) ++ get_or es i d ∷ filter p (drop (i + 1) es)
filter_at p es i d within passes =
    ap (filter p) (sym (take-append-drop (i + 1) es)) ∙ filter-append p (take (i + 1) es) (drop (i + 1) es)
    ∙ ap (λ (xs : List Entry). xs ++ filter p (drop (i + 1) es))
    (filter_more p es i d within ∙ ap (λ (b : Bool). filter p (take i es) ++ cond b (get_or es i d ∷ []) []) passes)
    ∙ append_assoc (filter p (take i es)) (get_or es i d ∷ []) (filter p (drop (i + 1) es))

none_left : (xs : List Entry) → slice_get xs 0 ≡ None → length xs ≡ 0
none_left [] is = refl
none_left (x ∷ xs) is = absurd (cc)

pub first_left : (xs : List Entry) (x : Entry) → slice_get xs 0 ≡ Some x → xs ≡ x ∷ drop 1 xs
first_left xs x is = grind arith

-- the diary is at its end and an entry more passes
pub too_short : (s : SeatView) (es : List Entry) (i : ℕ) (d : Entry) (rest : List Entry) → i < length es
    → keeps s (get_or es i d) ≡ true → slice_get rest 0 ≡ None → s.diary ≡ filter (keeps s) (take i es) ++ rest
    → HoldsPart es s → ⊥
too_short s es i d rest within passes none so_far fits =
    let whole : s.diary ≡ filter (keeps s) (take i es) ++ get_or es i d ∷ filter (keeps s) (drop (i + 1) es) =
    fits ∙ part-filter s es ∙ filter_at (keeps s) es i d within passes in
    let nothing : length rest ≡ 0 = none_left rest none in
    let a : length s.diary ≡ length (filter (keeps s) (take i es)) + length rest = ap length so_far ∙ length-append (filter (keeps s) (take i es)) rest in
    let b : length s.diary
    ≡ length (filter (keeps s) (take i es)) + length (get_or es i d ∷ filter (keeps s) (drop (i + 1) es)) =
    ap length whole
    ∙ length-append (filter (keeps s) (take i es)) (get_or es i d ∷ filter (keeps s) (drop (i + 1) es)) in
    omega arith

-- the diary has another entry where one passes
pub another : (s : SeatView) (es : List Entry) (i : ℕ) (d first : Entry) (later : List Entry) → i < length es
    → keeps s (get_or es i d) ≡ true → (first ≡ get_or es i d → ⊥)
    → s.diary ≡ filter (keeps s) (take i es) ++ first ∷ later → HoldsPart es s → ⊥
another s es i d first later within passes differs so_far fits =
    let whole : s.diary ≡ filter (keeps s) (take i es) ++ get_or es i d ∷ filter (keeps s) (drop (i + 1) es) =
    fits ∙ part-filter s es ∙ filter_at (keeps s) es i d within passes in
    differs (
    sym (get_or-append_seam (filter (keeps s) (take i es)) first later d)
    ∙ ap (λ (xs : List Entry). get_or xs (length (filter (keeps s) (take i es))) d) (sym so_far ∙ whole)
    ∙ get_or-append_seam (filter (keeps s) (take i es)) (get_or es i d) (filter (keeps s) (drop (i + 1) es)) d)

pub at_the_end : (s : SeatView) (es : List Entry) (i : ℕ) (rest : List Entry) (o : Option Entry) (b : Bool)
    → i ≡ length es → o ≡ slice_get rest 0 → is_some o ≡ not b → s.diary ≡ filter (keeps s) (take i es) ++ rest
    → MatchBool b (HoldsPart es s) (HoldsPart es s → ⊥)
at_the_end s es i rest o b end first some so_far =
    at rest b
    (so_far ∙ ap (λ (xs : List Entry). filter (keeps s) xs ++ rest) (ap (λ (n : ℕ). take n es) end ∙ take-length es)
    ∙ ap (λ (xs : List Entry). xs ++ rest) (sym (part-filter s es)))
    (sym (ap is_some first) ∙ some)
  where
    at : (xs : List Entry) (c : Bool) → s.diary ≡ part_of s es ++ xs → is_some (slice_get xs 0) ≡ not c → MatchBool c (HoldsPart es s) (HoldsPart es s → ⊥)
    at [] true all is = all ∙ append-nil (part_of s es)
    at [] false all is = absurd (cc)
    at (x ∷ xs) true all is = absurd (cc)
    at (x ∷ xs) false all is = λ fits. (let a : length s.diary ≡ length (part_of s es) + length (x ∷ xs) =
        ap length all ∙ length-append (part_of s es) (x ∷ xs) in
        let b : length s.diary ≡ length (part_of s es) = ap length fits in
        omega arith)

-- what counts of a seat's diary decides whether it has its part
pub part_has : (us : List Entry) (s : SeatView) (b : Bool) → (s.acts ≡ true → All (IsOwn s.hart) s.diary)
    → MatchBool b (counting_entries s.acts s.diary ≡ part_of s us) (counting_entries s.acts s.diary ≡ part_of s us → ⊥)
    → MatchBool b (HasPart us s) (HasPart us s → ⊥)
part_has us s b mine known = grind arith
