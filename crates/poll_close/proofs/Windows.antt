-- The stores by a list's words, and parts of one fixed list of stores: the ones that are made and have
-- not landed.
use Rattle.std.proofs.Common.{ℕ, zero, suc, ◌<◌, ◌≤◌, ◌≡◌, ◌≢◌, ◌==◌, false, if◌then◌else◌, List, [], ◌∷◌, ◌++◌, length, take, length-drop, length-take, min}
use Rattle.std.proofs.Common.{Option, Some, None, refl, sym, ◌∙◌, ap, arith, subst, append-nil, eq-eqb, ◌+◌, ◌*◌, ◌⊎◌, inl, inr}
use Rattle.std.specs.List.{slice_get}
use Rattle.std.proofs.Math.ListN.{drop_of_length-le}
use Rattle.std.proofs.lemmas.Bool.Decides.{nat_tests}
use Rattle.poll_close.specs.Invariant.Blocks.{window, singles, pairs, AreNext}
use Rattle.std.specs.Prelude.{slice_index}

one_made : (xs : List (ℕ × ℕ)) (k n : ℕ) (x : ℕ × ℕ) → k ≤ n → slice_get xs n ≡ Some x → window xs k n ++ x ∷ [] ≡ window xs k (suc n)
one_made [] k n x less is = cc
one_made (y ∷ ys) zero zero x less is = let same : y ≡ x = cc in ap (λ z. z ∷ []) (sym same)
one_made (y ∷ ys) zero (suc n) x less is = ap (λ zs. y ∷ zs) (one_made ys zero n x (omega arith) is)
one_made (y ∷ ys) (suc k) zero x less is = absurd (omega arith)
one_made (y ∷ ys) (suc k) (suc n) x less is = one_made ys k n x (omega arith) is

-- the next store is made, or none
pub window-made : (xs : List (ℕ × ℕ)) (k i j : ℕ) (made : List (ℕ × ℕ)) → k ≤ i → AreNext xs i j made → window xs k i ++ made ≡ window xs k j
window-made xs k i j made less next = grind (arith, append-nil, one_made)

-- the head of a window is the store of its number
pub window-head : (xs : List (ℕ × ℕ)) (i j : ℕ) (x : ℕ × ℕ) (rest : List (ℕ × ℕ)) → window xs i j ≡ x ∷ rest
    → (i < j) × (slice_get xs i ≡ Some x) × (window xs (suc i) j ≡ rest)
window-head [] zero zero x rest is = cc
window-head [] zero (suc j) x rest is = cc
window-head [] (suc i) zero x rest is = cc
window-head [] (suc i) (suc j) x rest is = cc
window-head (y ∷ ys) zero zero x rest is = cc
window-head (y ∷ ys) zero (suc j) x rest is = (omega arith, (let same : y ≡ x = cc in ap Some same), (let more : take j ys ≡ rest = cc in more))
window-head (y ∷ ys) (suc i) zero x rest is = cc
window-head (y ∷ ys) (suc i) (suc j) x rest is = let more = window-head ys i j x rest is in ((let less : i < j = more.0 in omega arith), more.1, more.2)

pub window-empty : (xs : List (ℕ × ℕ)) (i j : ℕ) → j ≤ i → window xs i j ≡ []
window-empty xs i j less = drop_of_length-le (take j xs) (let front : length (take j xs) ≡ min j (length xs) = length-take j xs in omega arith)

-- where the window is empty, all that is made has landed
pub none_left : (xs : List (ℕ × ℕ)) (i j : ℕ) → window xs i j ≡ [] → j ≤ length xs → j ≤ i
none_left xs i j none within = grind (arith, length-drop i (take j xs), length-take j xs)

-- what holds of all stores of the list
abbrev pub Each : (ℕ × ℕ → Type 0) → List (ℕ × ℕ) → Type 0
Each P xs = (j : ℕ) (x : ℕ × ℕ) → slice_get xs j ≡ Some x → P x

pub get_end : {X : Type 0} (xs : List X) (x : X) → slice_get (xs ++ x ∷ []) (length xs) ≡ Some x
get_end [] x = refl
get_end (z ∷ xs) x = get_end xs x

-- the newest store of a list to address a
abbrev pub newest_to : ℕ → Option ℕ → List (ℕ × ℕ) → Option ℕ
newest_to a found [] = found
newest_to a found (x ∷ xs) = newest_to a (if x.0 == a then Some x.1 else found) xs

pub newest_to-append : (a : ℕ) (found : Option ℕ) (xs ys : List (ℕ × ℕ)) → newest_to a found (xs ++ ys) ≡ newest_to a (newest_to a found xs) ys
newest_to-append a found [] ys = refl
newest_to-append a found (x ∷ xs) ys = newest_to-append a (if x.0 == a then Some x.1 else found) xs ys

-- where no store goes to it, there is none
pub newest_none : (a : ℕ) (found : Option ℕ) (xs : List (ℕ × ℕ)) → Each (λ x. x.0 ≢ a) xs → newest_to a found xs ≡ found
newest_none a found [] none = refl
newest_none a found (x ∷ xs) none =
    let off : (x.0 == a) ≡ false = let other : x.0 ≢ a = none 0 x refl in grind (arith, nat_tests) in
    rw off (newest_none a found xs (λ j y is. none (suc j) y is))

-- the newest is the last that was made
pub newest_made : (xs : List (ℕ × ℕ)) (i j : ℕ) (a v : ℕ) → i ≤ j → slice_get xs j ≡ Some (a, v) → newest_to a None (window xs i (suc j)) ≡ Some v
newest_made xs i j a v less at = grind (arith, one_made xs i j (a, v) less at, newest_to-append a None (window xs i j) ((a, v) ∷ []), eq-eqb a a refl)

-- what holds of the stores of these numbers holds of those of the window
pub Each-range : (P : ℕ × ℕ → Type 0) (xs : List (ℕ × ℕ)) (i j : ℕ)
    → ((t : ℕ) (x : ℕ × ℕ) → i ≤ t → t < j → slice_get xs t ≡ Some x → P x) → Each P (window xs i j)
Each-range P [] zero zero each t x is = cc
Each-range P [] zero (suc j) each t x is = cc
Each-range P [] (suc i) zero each t x is = cc
Each-range P [] (suc i) (suc j) each t x is = cc
Each-range P (y ∷ ys) zero zero each t x is = cc
Each-range P (y ∷ ys) zero (suc j) each zero x is = each 0 x (omega arith) (omega arith) is
Each-range P (y ∷ ys) zero (suc j) each (suc t) x is =
    Each-range P ys zero j (λ s z from below at. each (suc s) z (omega arith) (omega (arith, below)) at) t x is
Each-range P (y ∷ ys) (suc i) zero each t x is = cc
Each-range P (y ∷ ys) (suc i) (suc j) each t x is =
    Each-range P ys i j (λ s z from below at. each (suc s) z (omega (arith, from)) (omega (arith, below)) at) t x is

window-split : (xs : List (ℕ × ℕ)) (i m j : ℕ) → i ≤ m → m ≤ j → window xs i j ≡ window xs i m ++ window xs m j
window-split [] zero zero zero a b = refl
window-split [] zero zero (suc j) a b = refl
window-split [] zero (suc m) (suc j) a b = refl
window-split [] (suc i) (suc m) (suc j) a b = refl
window-split (y ∷ ys) zero zero j a b = refl
window-split (y ∷ ys) zero (suc m) (suc j) a b = ap (λ zs. y ∷ zs) (window-split ys zero m j (omega arith) (omega arith))
window-split (y ∷ ys) (suc i) (suc m) (suc j) a b = window-split ys i m j (omega arith) (omega arith)
window-split x z other u a b = absurd (omega arith)

-- the newest to an address is store s, where none after it goes there
pub newest_at : (xs : List (ℕ × ℕ)) (i s j a v : ℕ) → i ≤ s → s < j → slice_get xs s ≡ Some (a, v)
    → ((t : ℕ) (x : ℕ × ℕ) → s < t → t < j → slice_get xs t ≡ Some x → x.0 ≢ a)
    → newest_to a None (window xs i j) ≡ Some v
newest_at xs i s j a v from below is none =
    ap (newest_to a None) (window-split xs i (suc s) j (omega arith) (omega arith))
    ∙ newest_to-append a None (window xs i (suc s)) (window xs (suc s) j)
    ∙ ap (λ o. newest_to a o (window xs (suc s) j)) (newest_made xs i s a v from is)
    ∙ newest_none a (Some v) (window xs (suc s) j) (Each-range (λ x. x.0 ≢ a) xs (suc s) j (λ t x more less at. none t x (omega (arith, more)) less at))

-- ---- the stores by a list's words: which one stands at a number

pub single_at : (each : ℕ → ℕ → ℕ × ℕ) (last : ℕ × ℕ) (ws : List ℕ) (k n : ℕ) → k < length ws → n ≡ k
    → slice_get (singles each last ws) n ≡ Some (each k (slice_index ws k))
single_at each last (w ∷ ws) zero zero less at = refl
single_at each last (w ∷ ws) (suc k) (suc n) less at = single_at (λ j v. each (suc j) v) last ws k n (omega arith) (omega arith)
single_at each last ws k n less at = absurd (omega arith)

pub single_last : (each : ℕ → ℕ → ℕ × ℕ) (last : ℕ × ℕ) (ws : List ℕ) (n : ℕ) → n ≡ length ws → slice_get (singles each last ws) n ≡ Some last
single_last each last [] zero at = refl
single_last each last (w ∷ ws) (suc n) at = single_last (λ j v. each (suc j) v) last ws n (omega arith)
single_last each last ws n at = absurd (omega arith)

pub first_at : (f g : ℕ → ℕ → ℕ × ℕ) (last : ℕ × ℕ) (ws : List ℕ) (k n : ℕ) → k < length ws → n ≡ 2 * k
    → slice_get (pairs f g last ws) n ≡ Some (f k (slice_index ws k))
first_at f g last (w ∷ ws) zero zero less at = refl
first_at f g last (w ∷ ws) (suc k) (suc (suc n)) less at = first_at (λ j v. f (suc j) v) (λ j v. g (suc j) v) last ws k n (omega arith) (omega arith)
first_at f g last ws k n less at = absurd (omega arith)

pub second_at : (f g : ℕ → ℕ → ℕ × ℕ) (last : ℕ × ℕ) (ws : List ℕ) (k n : ℕ) → k < length ws → n ≡ 2 * k + 1
    → slice_get (pairs f g last ws) n ≡ Some (g k (slice_index ws k))
second_at f g last (w ∷ ws) zero (suc zero) less at = refl
second_at f g last (w ∷ ws) (suc k) (suc (suc n)) less at = second_at (λ j v. f (suc j) v) (λ j v. g (suc j) v) last ws k n (omega arith) (omega arith)
second_at f g last ws k n less at = absurd (omega arith)

pub pair_last : (f g : ℕ → ℕ → ℕ × ℕ) (last : ℕ × ℕ) (ws : List ℕ) (n : ℕ) → n ≡ 2 * length ws → slice_get (pairs f g last ws) n ≡ Some last
pair_last f g last [] zero at = refl
pair_last f g last (w ∷ ws) (suc (suc n)) at = pair_last (λ j v. f (suc j) v) (λ j v. g (suc j) v) last ws n (omega arith)
pair_last f g last ws n at = absurd (omega arith)

pub singles-length : (each : ℕ → ℕ → ℕ × ℕ) (last : ℕ × ℕ) (ws : List ℕ) → length (singles each last ws) ≡ length ws + 1
singles-length each last [] = refl
singles-length each last (w ∷ ws) = omega (arith, singles-length (λ j v. each (suc j) v) last ws)

pub pairs-length : (f g : ℕ → ℕ → ℕ × ℕ) (last : ℕ × ℕ) (ws : List ℕ) → length (pairs f g last ws) ≡ 2 * length ws + 1
pairs-length f g last [] = refl
pairs-length f g last (w ∷ ws) = omega (arith, pairs-length (λ j v. f (suc j) v) (λ j v. g (suc j) v) last ws)

-- the store of word k, which is at its place
abbrev pub OfWord : (ℕ → ℕ → ℕ × ℕ) → (ℕ → ℕ) → List ℕ → ℕ → ℕ × ℕ → Type 0
OfWord each place ws n x = (k : ℕ) × (k < length ws) × (n ≡ place k) × (x ≡ each k (slice_index ws k))

pub single_is : (each : ℕ → ℕ → ℕ × ℕ) (last : ℕ × ℕ) (ws : List ℕ) (n : ℕ) (x : ℕ × ℕ)
    → slice_get (singles each last ws) n ≡ Some x → OfWord each (λ k. k) ws n x ⊎ ((n ≡ length ws) × (x ≡ last))
single_is each last [] zero x is = inr (refl, let same : x ≡ last = cc in same)
single_is each last [] (suc n) x is = cc
single_is each last (w ∷ ws) zero x is = inl (0, omega arith, refl, let same : x ≡ each 0 w = cc in same)
single_is each last (w ∷ ws) (suc n) x is =
    elim (single_is (λ j v. each (suc j) v) last ws n x is) [
      | inl of ↦ inl (suc of.0, omega (arith, of.1), omega (arith, of.2), of.3)
      | inr over ↦ inr (omega (arith, over.0), over.1)
    ]

pub pair_is : (f g : ℕ → ℕ → ℕ × ℕ) (last : ℕ × ℕ) (ws : List ℕ) (n : ℕ) (x : ℕ × ℕ)
    → slice_get (pairs f g last ws) n ≡ Some x
    → OfWord f (λ k. 2 * k) ws n x ⊎ (OfWord g (λ k. 2 * k + 1) ws n x ⊎ ((n ≡ 2 * length ws) × (x ≡ last)))
pair_is f g last [] zero x is = inr (inr (refl, let same : x ≡ last = cc in same))
pair_is f g last [] (suc n) x is = cc
pair_is f g last (w ∷ ws) zero x is = inl (0, omega arith, refl, let same : x ≡ f 0 w = cc in same)
pair_is f g last (w ∷ ws) (suc zero) x is = inr (inl (0, omega arith, refl, let same : x ≡ g 0 w = cc in same))
pair_is f g last (w ∷ ws) (suc (suc n)) x is =
    elim (pair_is (λ j v. f (suc j) v) (λ j v. g (suc j) v) last ws n x is) [
      | inl of ↦ inl (suc of.0, omega (arith, of.1), omega (arith, of.2), of.3)
      | inr (inl of) ↦ inr (inl (suc of.0, omega (arith, of.1), omega (arith, of.2), of.3))
      | inr (inr over) ↦ inr (inr (omega (arith, over.0), over.1))
    ]

-- what holds of each of them
pub singles-each : (P : ℕ × ℕ → Type 0) (each : ℕ → ℕ → ℕ × ℕ) (last : ℕ × ℕ) (ws : List ℕ)
    → ((k : ℕ) → k < length ws → P (each k (slice_index ws k))) → P last → Each P (singles each last ws)
singles-each P each last ws all end n x is = grind (arith, single_is)

pub pairs-each : (P : ℕ × ℕ → Type 0) (f g : ℕ → ℕ → ℕ × ℕ) (last : ℕ × ℕ) (ws : List ℕ)
    → ((k : ℕ) → k < length ws → P (f k (slice_index ws k)) × P (g k (slice_index ws k))) → P last
    → Each P (pairs f g last ws)
pairs-each P f g last ws all end n x is = grind (arith, pair_is)

-- what holds of each of a list, and of one more
pub each_more : {A : Type 0} (P : A → Type 0) (es : List A) (e : A)
    → ((j : ℕ) (d : A) → slice_get es j ≡ Some d → P d) → P e → (j : ℕ) (d : A)
    → slice_get (es ++ e ∷ []) j ≡ Some d → P d
each_more P [] e all one zero d is = subst P (let same : e ≡ d = cc in same) one
each_more P [] e all one (suc j) d is = cc
each_more P (x ∷ es) e all one zero d is = all 0 d is
each_more P (x ∷ es) e all one (suc j) d is = each_more P es e (λ i c at. all (suc i) c at) one j d is
