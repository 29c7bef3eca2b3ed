-- The widths of one more word, name or hart.
use Rattle.std.proofs.Common.{◌≡◌, ℕ, ◌+◌, ◌<◌, min, max, List, [], ◌∷◌, ◌++◌, length, map, take, get_or, sym, ◌∙◌, ap, arith}
use Rattle.std.specs.List.{range_with_len}
use Rattle.std.proofs.lemmas.List.{take_more}
use Rattle.std.proofs.lemmas.List.FromFn.{map-range_with_len_more}
use Rattle.view_engines.specs.LeastWidths.{most}

most-last : {A : Type 0} (f : A → ℕ) (xs : List A) (x : A) → most f (xs ++ x ∷ []) ≡ max (most f xs) (f x)
most-last f [] x = grind arith
most-last f (y ∷ xs) x = grind (arith, most-last f xs x)

capped-max : (a b : ℕ) → min (max a b) 255 ≡ max (min a 255) (min b 255)
capped-max a b = grind arith

most_next : {A : Type 0} (f : A → ℕ) (xs : List A) (i : ℕ) (d : A) → i < length xs →
    min (most f (take (i + 1) xs)) 255 ≡ max (min (most f (take i xs)) 255) (min (f (get_or xs i d)) 255)
most_next f xs i d within =
    rw (take_more xs i d within, most-last f (take i xs) (get_or xs i d)) (capped-max (most f (take i xs)) (f (get_or xs i d)))

-- one more element, for which `new` is as wide as `old` or wider
pub wider : {A : Type 0} (f : A → ℕ) (xs : List A) (i : ℕ) (d : A) (old new : ℕ) → i < length xs →
    old ≡ min (most f (take i xs)) 255 → new ≡ max old (min (f (get_or xs i d)) 255) → new ≡ min (most f (take (i + 1) xs)) 255
wider f xs i d old new within before is =
    is ∙ ap (λ (n : ℕ). max n (min (f (get_or xs i d)) 255)) before ∙ sym (most_next f xs i d within)

pub most_more : {A : Type 0} (f : A → ℕ) (g : ℕ → A) (n : ℕ) →
    min (most f (map g (range_with_len 0 (n + 1)))) 255 ≡ max (min (most f (map g (range_with_len 0 n))) 255) (min (f (g n)) 255)
most_more f g n =
    let before = map g (range_with_len 0 n) in
    rw (map-range_with_len_more g 0 n n (omega arith), most-last f before (g n)) (capped-max (most f before) (f (g n)))
