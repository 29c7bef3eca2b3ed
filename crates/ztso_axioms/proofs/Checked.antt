-- What the checks of a list establish.
use Rattle.std.proofs.Common.{◌≡◌, ℕ, ◌+◌, ◌-◌, ◌≤◌, ◌<◌, Bool, true, false, ◌||◌, if◌then◌else◌, nat_lt, List, [], ◌∷◌, ◌++◌, length, take, drop, get_or}
use Rattle.std.proofs.Common.{Option, Some, None, refl, sym, ◌∙◌, ap, subst, arith, length-drop, get_or-drop}
use Rattle.std.specs.Prelude.{All, filter, unwrap_or}
use Rattle.std.proofs.lemmas.Bool.{and_parts, ltb-true, ltb-false, lt-ltb, le-ltb, cond_both, false_from_ne_true, true_from_ne_false}
use Rattle.std.proofs.lemmas.List.{take_rest, get_or_default, get_or_read, drop_more}
use Rattle.std.proofs.lemmas.List.Elements.{filter-append}
use Rattle.std.proofs.lemmas.Option.{slice_get_past}
use Rattle.step_machine.specs.History.{OpeningValue}
use Rattle.step_machine.specs.declared.events.Entry.{Entry}
use Rattle.ztso_axioms.specs.Operations.{is_operation, is_at, read_at, written_at}
use Rattle.ztso_axioms.specs.Axioms.{times_named, is_named, is_before, in_program_order, is_preserved, is_seen, last_written, NamesEachOnce, KeepsProgramOrder}
use Rattle.ztso_axioms.specs.Axioms.{HasLoadValue}
use Rattle.ztso_axioms.proofs.Listing.{Once, times-none, times-some, named-some, named_at, index_of, split_at, is_before-index}

pub once_of : (es : List Entry) (gs : List ℕ) → NamesEachOnce es gs → Once gs
once_of es gs n = grind (arith, cond_both)

-- an operation is named
pub named_op : (es : List Entry) (gs : List ℕ) (p : ℕ) → NamesEachOnce es gs → is_at is_operation es p ≡ true → is_named p gs ≡ true
named_op es gs p n op = grind (arith, named-some)

-- each operation of the trace is named once, and nothing else is
pub names_from : (es : List Entry) (gs : List ℕ) → ((p : ℕ) → p < length es → is_at is_operation es p ≡ true → times_named p gs ≡ 1)
    → All (λ (g : ℕ). is_at is_operation es g ≡ true) gs → NamesEachOnce es gs
names_from es gs once operations p = grind (arith, ltb-true, true_from_ne_false, slice_get_past, ltb-false, times-none, false_from_ne_true, index_of)

pub operations_from : (es : List Entry) (gs : List ℕ) → NamesEachOnce es gs → All (λ (g : ℕ). is_at is_operation es g ≡ true) gs
operations_from es gs n k d lt = grind (arith, true_from_ne_false, times-some, named_at)

preserved_parts : (es : List Entry) (p q : ℕ) → is_preserved es p q ≡ true → (is_at is_operation es p ≡ true) × (is_at is_operation es q ≡ true)
preserved_parts es p q is = grind (arith, and_parts)

-- nothing that stands from the operation at i on has to stand before it
abbrev pub NoneBelongsBefore : List Entry → List ℕ → ℕ → Type 0
NoneBelongsBefore es gs i = All (λ (p : ℕ). is_preserved es p (get_or gs i 0) ≡ false) (drop i gs)

pub keeps_from_indices : (es : List Entry) (gs : List ℕ) → NamesEachOnce es gs → ((i : ℕ) → i < length gs → NoneBelongsBefore es gs i) → KeepsProgramOrder es gs
keeps_from_indices es gs n none p q is =
    let ops : (is_at is_operation es p ≡ true) × (is_at is_operation es q ≡ true) = preserved_parts es p q is in
    let at_p : (i : ℕ) × (i < length gs) × (get_or gs i 0 ≡ p) = index_of p gs (named_op es gs p n ops.0) in
    let at_q : (i : ℕ) × (i < length gs) × (get_or gs i 0 ≡ q) = index_of q gs (named_op es gs q n ops.1) in
    subst (λ (x : ℕ). is_before gs x q ≡ true) at_p.2 (subst (λ (y : ℕ). is_before gs (get_or gs at_p.0 0) y ≡ true) at_q.2
    (is_before-index gs at_p.0 at_q.0 (once_of es gs n) at_p.1 at_q.1 ∙ true_from_ne_false _ (following at_p.0 at_q.0 at_p.1 at_q.1 at_p.2 at_q.2)))
  where
    following : (j i : ℕ) → j < length gs → i < length gs → get_or gs j 0 ≡ p → get_or gs i 0 ≡ q → nat_lt j i ≡ false → ⊥
    following j i lt_j lt_i is_p is_q lt =
        let le : i ≤ j = ltb-false j i lt in
        let there : i + (j - i) ≡ j = omega arith in
        let same : get_or (drop i gs) (j - i) 0 ≡ p = get_or-drop i gs (j - i) 0 ∙ ap (λ k. get_or gs k 0) there ∙ is_p in
        let no : is_preserved es (get_or (drop i gs) (j - i) 0) (get_or gs i 0) ≡ false = none i lt_i (j - i) 0 (omega (arith, length-drop i gs)) in
        (cc)

pub indices_from_keeps : (es : List Entry) (gs : List ℕ) (i : ℕ) → NamesEachOnce es gs → KeepsProgramOrder es gs → i < length gs → NoneBelongsBefore es gs i
indices_from_keeps es gs i n keeps lt k d within = false_from_ne_true _ (λ is.
    let inside : i + k < length gs = omega (arith, length-drop i gs) in
    let same : get_or (drop i gs) k d ≡ get_or gs (i + k) 0 = get_or-drop i gs k d ∙ get_or_default gs (i + k) d 0 inside in
    let before_it : is_before gs (get_or (drop i gs) k d) (get_or gs i 0) ≡ true = keeps (get_or (drop i gs) k d) (get_or gs i 0) is in
    let index : is_before gs (get_or gs (i + k) 0) (get_or gs i 0) ≡ nat_lt (i + k) i = is_before-index gs (i + k) i (once_of es gs n) inside lt in
    let not_lt : nat_lt (i + k) i ≡ false = le-ltb (i + k) i (omega arith) in
    let b : is_before gs (get_or gs (i + k) 0) (get_or gs i 0) ≡ true = subst (λ (x : ℕ). is_before gs x (get_or gs i 0) ≡ true) same before_it in
    (cc))

-- one more operation that is not seen, before those of which none is
pub none_seen_more : (seen : ℕ → Bool) (gs : List ℕ) (j : ℕ) → j < length gs → seen (get_or gs j 0) ≡ false
    → filter seen (drop (j + 1) gs) ≡ [] → filter seen (drop j gs) ≡ []
none_seen_more seen gs j lt is none = grind (arith, drop_more)

-- nothing that is seen among these operations writes to the address
abbrev pub NoneWrites : List Entry → ℕ → (ℕ → Bool) → List ℕ → Type 0
NoneWrites es a seen gs = (w : ℕ) → last_written es a w (filter seen gs) ≡ w

-- the byte that an operation writes to the address, where it is seen
abbrev pub written_if : List Entry → ℕ → (ℕ → Bool) → ℕ → Option ℕ
written_if es a seen p = if seen p then written_at es a p else None

pub last_written-append : (es : List Entry) (a w : ℕ) (xs ys : List ℕ) → last_written es a w (xs ++ ys) ≡ last_written es a (last_written es a w xs) ys
last_written-append es a w [] ys = refl
last_written-append es a w (x ∷ xs) ys = last_written-append es a (unwrap_or (written_at es a x) w) xs ys

-- a first operation, after which none writes to the address
written_first : (es : List Entry) (a w x : ℕ) (seen : ℕ → Bool) (xs : List ℕ) → NoneWrites es a seen xs
    → last_written es a w (filter seen (x ∷ xs)) ≡ unwrap_or (written_if es a seen x) w
written_first es a w x seen xs none = grind (arith, none (unwrap_or (written_at es a x) w), none w)

pub none_more : (es : List Entry) (a j : ℕ) (seen : ℕ → Bool) (gs : List ℕ) → j < length gs
    → written_if es a seen (get_or gs j 0) ≡ None → NoneWrites es a seen (drop (j + 1) gs)
    → NoneWrites es a seen (drop j gs)
none_more es a j seen gs lt is none w = grind (arith, drop_more, written_first)

pub last_found : (es : List Entry) (a w j b : ℕ) (seen : ℕ → Bool) (gs : List ℕ) → j < length gs
    → written_if es a seen (get_or gs j 0) ≡ Some b → NoneWrites es a seen (drop (j + 1) gs)
    → b ≡ last_written es a w (filter seen gs)
last_found es a w j b seen gs lt is none =
    let front : ℕ = last_written es a w (filter seen (take j gs)) in
    sym (ap (λ zs. last_written es a w (filter seen zs)) (split_at gs j lt)
    ∙ ap (last_written es a w) (filter-append seen (take j gs) (get_or gs j 0 ∷ drop (j + 1) gs))
    ∙ last_written-append es a w (filter seen (take j gs)) (filter seen (get_or gs j 0 ∷ drop (j + 1) gs))
    ∙ written_first es a front (get_or gs j 0) seen (drop (j + 1) gs) none
    ∙ ap (λ o. unwrap_or o front) is)

-- a place that is read is an operation's
pub read_op : (es : List Entry) (q : ℕ) (r : ℕ × ℕ × ℕ) → read_at es q ≡ Some r → is_at is_operation es q ≡ true
read_op es q r is = grind arith

pub values_from_indices : (o : OpeningValue) (es : List Entry) (gs : List ℕ) → NamesEachOnce es gs
    → ((i : ℕ) → i < length gs → HasLoadValue o es gs (get_or gs i 0)) → (q : ℕ) → HasLoadValue o es gs q
values_from_indices o es gs n values q a width v is =
    let at_q : (i : ℕ) × (i < length gs) × (get_or gs i 0 ≡ q) = index_of q gs (named_op es gs q n (read_op es q (a, width, v) is)) in
    subst (λ (x : ℕ). HasLoadValue o es gs x) at_q.2 (values at_q.0 at_q.1) a width v is

-- the same of the slice from i on, and the operation as it was read
pub slice_from_none : (es : List Entry) (gs : List ℕ) (i x : ℕ) → i < length gs → x ≡ get_or gs i x
    → NoneBelongsBefore es gs i → All (λ (p : ℕ). is_preserved es p x ≡ false) (take (length gs - i) (drop i gs))
slice_from_none es gs i x lt read none = grind (arith, take_rest, get_or_read)

pub none_from_slice : (es : List Entry) (gs : List ℕ) (i x : ℕ) → i < length gs → x ≡ get_or gs i x
    → All (λ (p : ℕ). is_preserved es p x ≡ false) (take (length gs - i) (drop i gs)) → NoneBelongsBefore es gs i
none_from_slice es gs i x lt read none = grind (arith, get_or_read, take_rest)

-- what the operation at i sees of the one at j, by their indices
pub is_seen-index : (es : List Entry) (gs : List ℕ) (i j x y : ℕ) → Once gs → i < length gs → j < length gs
    → x ≡ get_or gs i x → y ≡ get_or gs j y
    → is_seen es gs (get_or gs i 0) (get_or gs j 0) ≡ (nat_lt j i || in_program_order es y x)
is_seen-index es gs i j x y o lt_i lt_j read_x read_y = grind (arith, is_before-index, nat_lt, get_or_read)

pub seen_in_front : (es : List Entry) (gs : List ℕ) (i j : ℕ) → Once gs → i < length gs → j < length gs → j < i
    → nat_lt j i ≡ is_seen es gs (get_or gs i 0) (get_or gs j 0)
seen_in_front es gs i j o lt_i lt_j front = grind (arith, nat_lt, lt-ltb, is_before-index)

pub seen_after : (es : List Entry) (gs : List ℕ) (i j x y : ℕ) (r : Bool) → Once gs → i < length gs → j < length gs
    → x ≡ get_or gs i x → y ≡ get_or gs j y → i ≤ j → r ≡ in_program_order es y x
    → r ≡ is_seen es gs (get_or gs i 0) (get_or gs j 0)
seen_after es gs i j x y r o lt_i lt_j read_x read_y following is =
    is ∙ ap (λ b. b || in_program_order es y x) (sym (le-ltb j i following)) ∙ sym (is_seen-index es gs i j x y o lt_i lt_j read_x read_y)
