-- One more line, and one more text.
use Rattle.std.proofs.Common.{◌≡◌, ℕ, ◌+◌, ◌<◌, List, [], ◌∷◌, ◌++◌, length, take, get_or, map, max, refl, sym, ap, ◌∙◌, arith, append_assoc, append-nil}
use Rattle.std.proofs.lemmas.List.{take_more, length-take, length-map, map-append}
use Rattle.chart.specs.Svg.{by_line, widest}

by_line-last : {A : Type 0} (f : ℕ → A → List ℕ) (line : ℕ) (xs : List A) (x : A) →
    by_line f line (xs ++ x ∷ []) ≡ by_line f line xs ++ f (line + length xs) x
by_line-last f line [] x = let here : line + 0 ≡ line = omega arith in rw here (append-nil (f line x))
by_line-last f line (y ∷ xs) x = grind (arith, append_assoc, by_line-last f (line + 1) xs x)

-- what is written after one more element, where t is what is written of it
pub mapped_grown : {A B : Type 0} (f : ℕ → B → List ℕ) (g : A → B) (i : ℕ) (xs : List A) (x : A) (t : B)
    (start before after : List ℕ) → before ≡ start ++ by_line f 0 (map g (take i xs)) → after ≡ before ++ f i t →
    t ≡ g x → x ≡ get_or xs i x → i < length xs → after ≡ start ++ by_line f 0 (map g (take (i + 1) xs))
mapped_grown f g i xs x t start before after was is of at within =
    let so_far : 0 + length (map g (take i xs)) ≡ i =
    omega (arith, length-map (take i xs) g, length-take i xs, within) in
    let more = by_line-last f 0 (map g (take i xs)) (g (get_or xs i x)) in
    let last : f i t ≡ f i (g (get_or xs i x)) = ap (f i) (of ∙ ap g at) in
    rw (is, was, last, take_more xs i x within, map-append g (take i xs) (get_or xs i x ∷ []), more, so_far)
    (append_assoc start (by_line f 0 (map g (take i xs))) (f i (g (get_or xs i x))))

pub lines_grown : {A : Type 0} (f : ℕ → A → List ℕ) (i : ℕ) (xs : List A) (x : A) (start before after : List ℕ) →
    before ≡ start ++ by_line f 0 (take i xs) → after ≡ before ++ f i x → x ≡ get_or xs i x → i < length xs →
    after ≡ start ++ by_line f 0 (take (i + 1) xs)
lines_grown f i xs x start before after was is at within =
    let so_far : 0 + length (take i xs) ≡ i = omega (arith, length-take i xs, within) in
    let last : f i x ≡ f i (get_or xs i x) = ap (f i) at in
    rw (is, was, last, take_more xs i x within, by_line-last f 0 (take i xs) (get_or xs i x), so_far)
    (append_assoc start (by_line f 0 (take i xs)) (f i (get_or xs i x)))

widest-last : (cells : ℕ) (ts : List (List ℕ)) (t : List ℕ) → widest cells (ts ++ t ∷ []) ≡ max (widest cells ts) (length t)
widest-last cells [] t = refl
widest-last cells (x ∷ ts) t = widest-last (max cells (length x)) ts t

pub widest-grown : {A : Type 0} (g : A → List ℕ) (cells i : ℕ) (xs : List A) (x : A) (before n after : ℕ) →
    before ≡ widest cells (map g (take i xs)) → n ≡ length (g x) → x ≡ get_or xs i x → i < length xs →
    after ≡ max before n → after ≡ widest cells (map g (take (i + 1) xs))
widest-grown g cells i xs x before n after was of at within is =
    let last : length (g x) ≡ length (g (get_or xs i x)) = ap (λ y. length (g y)) at in
    rw (is, was, of, last, take_more xs i x within, map-append g (take i xs) (get_or xs i x ∷ []))
    (sym (widest-last cells (map g (take i xs)) (g (get_or xs i x))))
