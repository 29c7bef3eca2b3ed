-- Lists of lists at whose places others are put.
use Rattle.std.proofs.Common.{◌≡◌, ℕ, zero, suc, ◌+◌, ◌-◌, ◌<◌, ◌≤◌, List, [], ◌∷◌, ◌++◌, length, replicate, get_or, refl, ap, ◌∙◌, append_assoc, length-append}
use Rattle.std.proofs.Common.{arith}
use Rattle.std.specs.Prelude.{set}
use Rattle.std.proofs.lemmas.List.{append-nil, length-replicate, replicate_more, get_or-set_same, length-set, set-set, set_at}
use Rattle.certificate_reader.specs.Fields.{reaching, put_in}

-- ---- so that a place is there

pub reaching_there : {A : Type 0} (i : ℕ) (xs : List (List A)) → i < length xs → reaching i xs ≡ xs
reaching_there i xs there = let none : suc i - length xs ≡ 0 = omega arith in rw none (append-nil xs)

pub reaching_pushed : {A : Type 0} (i : ℕ) (xs : List (List A)) → length xs ≤ i → reaching i (xs ++ [] ∷ []) ≡ reaching i xs
reaching_pushed i xs before =
    let less : suc i - length (xs ++ [] ∷ []) ≡ i - length xs = omega (arith, length-append xs ([] ∷ [])) in
    let more : suc i - length xs ≡ suc (i - length xs) = omega arith in
    rw (less, more) (append_assoc xs ([] ∷ []) (replicate (i - length xs) []))

get_empty : {A : Type 0} (i k : ℕ) → get_or {A = List A} (replicate k []) i [] ≡ []
get_empty i zero = refl
get_empty zero (suc k) = refl
get_empty (suc i) (suc k) = get_empty i k

get_more : {A : Type 0} (i k : ℕ) (xs : List (List A)) → get_or (xs ++ replicate k []) i [] ≡ get_or xs i []
get_more i k [] = get_empty i k
get_more zero k (x ∷ xs) = refl
get_more (suc i) k (x ∷ xs) = get_more i k xs

pub get_reaching : {A : Type 0} (i : ℕ) (xs : List (List A)) → get_or (reaching i xs) i [] ≡ get_or xs i []
get_reaching i xs = get_more i (suc i - length xs) xs

pub ruleset puts = (get_reaching, set-set)

-- ---- a place after all, and one that has a list already

pub placed_after : {A : Type 0} (xs : List (List A)) (k : ℕ) (x : List A) → put_in xs (length xs + k) x ≡ xs ++ replicate k [] ++ x ∷ []
placed_after {A = A} xs k x =
    let left : suc (length xs + k) - length xs ≡ k + 1 = omega arith in
    let place : length (xs ++ replicate k []) ≡ length xs + k = omega (arith, length-append xs (replicate k []), length-replicate {A = List A} k []) in
    rw (left, ← replicate_more {X = List A} k [], ← append_assoc xs (replicate k []) ([] ∷ [])) (set_at (xs ++ replicate k []) [] [] x (length xs + k) place)

there_after : {A : Type 0} (xs : List (List A)) (i : ℕ) → i < length (reaching i xs)
there_after {A = A} xs i = omega (arith, length-append xs (replicate (suc i - length xs) []), length-replicate {A = List A} (suc i - length xs) [])

pub get_put : {A : Type 0} (xs : List (List A)) (i : ℕ) (x : List A) → get_or (put_in xs i x) i [] ≡ x
get_put xs i x = get_or-set_same (reaching i xs) i x [] (there_after xs i)

pub put_again : {A : Type 0} (xs : List (List A)) (i : ℕ) (x y : List A) → put_in (put_in xs i x) i y ≡ put_in xs i y
put_again xs i x y =
    let there : i < length (put_in xs i x) = omega (arith, there_after xs i, length-set (reaching i xs) i x) in
    ap (λ ys. set ys i y) (reaching_there i (put_in xs i x) there) ∙ set-set (reaching i xs) i x y
