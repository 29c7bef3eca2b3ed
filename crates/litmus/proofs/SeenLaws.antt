-- Places are distinguished by their entries of the table, and each is seen first once.
use Rattle.std.proofs.Common.{◌≡◌, ◌∙◌, ◌<◌, ◌+◌, ◌*◌, ◌/◌, ◌%◌, ◌==◌, ◌&&◌, ap, ℕ, Bool, true, false, not, cond, suc, zero, List, [], ◌∷◌, ◌++◌, length}
use Rattle.std.proofs.Common.{replicate, drop, get_or, slice_set, filter, refl, arith, append_assoc, All, drop-cons, add-one}
use Rattle.std.proofs.lemmas.Bool.{eqb-true, eqb-false, eq-eqb, ne_eqb}
use Rattle.std.proofs.lemmas.List.{get_or-set_same, get_or-set_other, length-set, length-replicate}
use Rattle.std.proofs.lemmas.List.Elements.{All-cons, All-head, All-tail, All-filter}
use Rattle.litmus.specs.{Place, Step, IsThere, is_same, firsts, step_places, AsksThere, index_of, is_seen, after_place, after_seen, left_to_see}
use Rattle.litmus.specs.declared.symbols.Step.TheVariants as step
use Rattle.litmus.proofs.RunLaws.{step_places-AsksThere}

-- two places that are there have one entry exactly where they are the same
index-register : (h n i m : ℕ) (a b : Bool) → n < 32 → m < 32 → h == i ≡ a → n == m ≡ b → (h * 32 + n == i * 32 + m) ≡ (a && b)
index-register h n i m a b small small_too same_hart same_number = grind (arith, eq-eqb, eqb-true, eqb-false, ne_eqb)

index-word : (a b : ℕ) (c : Bool) → a % 4 ≡ 0 → b % 4 ≡ 0 → a == b ≡ c → (2048 + a / 4 == 2048 + b / 4) ≡ c
index-word a b c aligned aligned_too same = grind (arith, eq-eqb, eqb-true, eqb-false, ne_eqb)

pub index-same : (p q : Place) → IsThere 64 1024 p → IsThere 64 1024 q → (index_of p == index_of q) ≡ is_same p q
index-same p q there there_too = grind (arith, index-register, ne_eqb, index-word)

-- seen now: seen before, or the place itself
seen-after : (seen : List Bool) (k j : ℕ) (same : Bool) → k < length seen → (k == j) ≡ same
    → get_or (slice_set seen k true) j false ≡ cond same true (get_or seen j false)
seen-after seen k j same within is = grind (arith, eqb-true, get_or-set_same, eqb-false, get_or-set_other)

abbrev fresh : List Bool → List Place → List Place
fresh seen ps = filter (λ q. not (is_seen seen q)) ps

abbrev others : Place → List Place → List Place
others p ps = filter (λ q. not (is_same p q)) ps

fresh-others : (seen : List Bool) (p q : Place) (ps : List Place) (same before : Bool) → is_same p q ≡ same
    → is_seen seen q ≡ before → is_seen (slice_set seen (index_of p) true) q ≡ cond same true before
    → fresh seen (others p ps) ≡ fresh (slice_set seen (index_of p) true) ps
    → fresh seen (others p (q ∷ ps)) ≡ fresh (slice_set seen (index_of p) true) (q ∷ ps)
fresh-others seen p q ps same before h6 was now rest = grind arith

-- leaving out what was seen, and then the place, is leaving out what was seen after it
pub fresh-after : (seen : List Bool) (p : Place) (ps : List Place) → length seen ≡ 3072 → index_of p < 3072
    → IsThere 64 1024 p → All (IsThere 64 1024) ps
    → fresh seen (others p ps) ≡ fresh (slice_set seen (index_of p) true) ps
fresh-after seen p [] len within there all = refl
fresh-after seen p (q ∷ ps) len within there all =
    fresh-others seen p q ps (is_same p q) (is_seen seen q) refl refl
    (seen-after seen (index_of p) (index_of q) (is_same p q) (omega (arith, len, within)) (index-same p q there (All-head (IsThere 64 1024) q ps all)))
    (fresh-after seen p ps len within there (All-tail (IsThere 64 1024) q ps all))

pub index-within : (p : Place) → IsThere 64 1024 p → index_of p < 3072
index-within p there = grind arith

pub firsts-all : (P : Place → Type 0) (ps : List Place) → All P ps → All P (firsts ps)
firsts-all P [] all = all
firsts-all P (p ∷ ps) all = All-cons P p (others p (firsts ps)) (All-head P p ps all)
    (All-filter (λ q. not (is_same p q)) P (firsts ps) (firsts-all P ps (All-tail P p ps all)))

see-one : (seen : List Bool) (p : Place) (ps : List Place) (before : Bool) → is_seen seen p ≡ before
    → length seen ≡ 3072 → IsThere 64 1024 p → All (IsThere 64 1024) ps
    → fresh seen (p ∷ others p ps) ≡ cond before [] (p ∷ []) ++ fresh (slice_set seen (index_of p) true) ps
see-one seen p ps before was len there all = grind (arith, fresh-after, index-within)

-- one step: what it adds, and what is left after it
pub left_to_see-step : (seen : List Bool) (s : Step) (rest : List Step) → length seen ≡ 3072
    → All (AsksThere 64 1024) (s ∷ rest)
    → left_to_see seen (s ∷ rest) ≡ after_place seen s ++ left_to_see (after_seen seen s) rest
left_to_see-step seen (step.Is p value) rest len all = see-one seen p (firsts (step_places rest)) (is_seen seen p)
    refl len (All-head (AsksThere 64 1024) (step.Is p value) rest all)
    (firsts-all (IsThere 64 1024) (step_places rest)
    (step_places-AsksThere 64 1024 rest (All-tail (AsksThere 64 1024) (step.Is p value) rest all)))
left_to_see-step seen x rest len all = refl

pub length-after_seen : (seen : List Bool) (s : Step) → length (after_seen seen s) ≡ length seen
length-after_seen seen s = grind (arith, length-set)

unseen : (n k : ℕ) → get_or (replicate n false) k false ≡ false
unseen (suc n) (suc k) = unseen n k
unseen x y = refl

pub fresh-none : (n : ℕ) (ps : List Place) → fresh (replicate n false) ps ≡ ps
fresh-none n [] = refl
fresh-none n (p ∷ ps) = rw (unseen n (index_of p)) (ap (λ (xs : List Place). p ∷ xs) (fresh-none n ps))

-- at the beginning of the loop over the steps, and over one step
pub all_left : (seen : List Bool) (n : ℕ) (steps : List Step) → seen ≡ replicate n false → left_to_see seen steps ≡ firsts (step_places steps)
all_left seen n steps same = rw same (fresh-none n (firsts (step_places steps)))

rest-there : (i : ℕ) (steps : List Step) → i < length steps → All (AsksThere 64 1024) steps → (d : Step)
    → All (AsksThere 64 1024) (get_or steps i d ∷ drop (suc i) steps)
rest-there i [] small all d = absurd (omega (arith, small))
rest-there zero (s ∷ steps) small all d = all
rest-there (suc i) (s ∷ steps) small all d = rest-there i steps (omega (arith, small)) (All-tail (AsksThere 64 1024) s steps all) d

pub next_seen : (before places : List Place) (seen new_seen : List Bool) (new : List Place) (i : ℕ)
    (steps : List Step) (d : Step) → i < length steps → All (AsksThere 64 1024) steps → length seen ≡ 3072
    → before ++ left_to_see seen (drop i steps) ≡ places → new ≡ before ++ after_place seen (get_or steps i d)
    → new_seen ≡ after_seen seen (get_or steps i d)
    → (length new_seen ≡ 3072) × (new ++ left_to_see new_seen (drop (i + 1) steps) ≡ places)
next_seen before places seen new_seen new i steps d small all len so_far added marked = grind (
  arith,
  get_or,
  length-after_seen,
  add-one,
  append_assoc,
  left_to_see-step,
  rest-there,
  drop-cons,
)

pub none_seen_yet : (n : ℕ) (seen : List Bool) (places : List Place) (steps : List Step) → seen ≡ replicate n false
    → places ≡ [] → (length seen ≡ n) × (places ++ left_to_see seen steps ≡ firsts (step_places steps))
none_seen_yet n seen places steps same empty = (ap (λ (xs : List Bool). length xs) same ∙ length-replicate n false, rw empty (all_left seen n steps same))
