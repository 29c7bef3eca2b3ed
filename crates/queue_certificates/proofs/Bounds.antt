-- What forms come to at most, and between which words they lie.
use Rattle.std.proofs.Common.{ℕ, ◌+◌, ◌-◌, ◌*◌, ◌%◌, ◌^◌, ◌<◌, ◌≤◌, ◌≡◌, ◌==◌, ◌&&◌, inl, inr, if◌then◌else◌, Bool, true, false, Option, Some, None, List, []}
use Rattle.std.proofs.Common.{◌∷◌, refl, sym, ◌∙◌, ap, subst, arith}
use Rattle.std.specs.Prelude.{map, nat_le}
use Rattle.std.proofs.lemmas.Bool.{and_parts, eqb-true, leb-true, cases_lt}
use Rattle.std.proofs.lemmas.Nat.{mul-le}
use Rattle.std.proofs.Math.Nat.{mul-zero, mod-mod, mod-eq_of_lt, add-mul, zero-mul, mod-lt, add-mul-mod_self_left}
use Rattle.queue_certificates.specs.Forms.{Form, dot, form_value, IsAtMost, InRanges, most_of_multiple, added, most_of_sum, most, fits_in, are_in, Bounds, kept}
use Rattle.queue_certificates.specs.Forms.{settled, reduced, remainder, risings, fallings, bounds_between, bounds_of, balanced, where_bounded, first_form}
use Rattle.queue_certificates.specs.Forms.{remainder_word}
use Rattle.queue_certificates.proofs.Forms.{values_of, mod-sum, mod-product, round-up}

pub record IsSum (a b : Option ℕ) (n : ℕ) : Type 0 where
  pub left : ℕ
  pub right : ℕ
  pub left_is : a ≡ Some left
  pub right_is : b ≡ Some right
  pub sum : left + right ≡ n

pub added-parts : (a b : Option ℕ) (n : ℕ) → added a b ≡ Some n → IsSum a b n
added-parts None b n is = absurd (cc)
added-parts (Some x) None n is = absurd (cc)
added-parts (Some x) (Some y) n is = record { left = x; right = y; left_is = refl; right_is = refl; sum = (let e : x + y ≡ n = cc in e) }

multiple-below : (r : Option ℕ) (m x b : ℕ) → IsAtMost r x → most_of_multiple r m ≡ Some b → m * x ≤ b
multiple-below (Some n) m x b low is = let e : m * n ≡ b = cc in let le : m * x ≤ m * n = mul-le m x m n (omega arith) low in omega (arith, e, le)
multiple-below None m x b low is = by (m == 0) refl is
  where
    by : (t : Bool) → (m == 0) ≡ t → (if t then Some 0 else None) ≡ Some b → m * x ≤ b
    by true none is = let z : m * x ≡ 0 = ap (λ k. k * x) (eqb-true m 0 none) ∙ zero-mul x in omega (arith, z)
    by false some is = absurd (cc)

pub dot-below : (rs : List (Option ℕ)) (ms xs : List ℕ) (b : ℕ) → InRanges rs xs → most_of_sum rs ms ≡ Some b → dot ms xs ≤ b
dot-below rs [] xs b ranges is = omega arith
dot-below rs (m ∷ ms) [] b ranges is = omega arith
dot-below [] (m ∷ ms) (x ∷ xs) b ranges is = absurd ranges
dot-below (r ∷ rs) (m ∷ ms) (x ∷ xs) b ranges is =
    let s = added-parts (most_of_multiple r m) (most_of_sum rs ms) b is in
    let one : m * x ≤ s.left = multiple-below r m x s.left ranges.0 s.left_is in
    let more : dot ms xs ≤ s.right = dot-below rs ms xs s.right ranges.1 s.right_is in omega (arith, one, more, s.sum)

pub value-below : (rs : List (Option ℕ)) (f : Form) (xs : List ℕ) (b : ℕ) → InRanges rs xs → most rs f ≡ Some b → form_value f xs ≤ b
value-below rs f xs b ranges is = grind (arith, added-parts, dot-below)

pub fits-below : (b r : Option ℕ) (x : ℕ) → fits_in b r ≡ true → ((n : ℕ) → b ≡ Some n → x ≤ n) → IsAtMost r x
fits-below b None x ok below = tt
fits-below None (Some n) x ok below = absurd (cc)
fits-below (Some m) (Some n) x ok below = let le : m ≤ n = leb-true m n ok in let low : x ≤ m = below m refl in omega (arith, le, low)

pub forms-in : (rs : List (Option ℕ)) (gs : List Form) (ts : List (Option ℕ)) (xs : List ℕ) → InRanges rs xs
    → are_in rs gs ts ≡ true → InRanges ts (values_of gs xs)
forms-in rs [] [] xs ranges ok = tt
forms-in rs [] (t ∷ ts) xs ranges ok = absurd (cc)
forms-in rs (g ∷ gs) [] xs ranges ok = absurd (cc)
forms-in rs (g ∷ gs) (t ∷ ts) xs ranges ok =
    let parts = and_parts (fits_in (most rs g) t) (are_in rs gs ts) ok in
    (fits-below (most rs g) t (form_value g xs) parts.0 (λ n is. value-below rs g xs n ranges is), forms-in rs gs ts xs ranges parts.1)

kept-dot : (rs : List (Option ℕ)) (ms xs : List ℕ) → InRanges rs xs → dot (kept rs ms) xs ≡ dot ms xs
kept-dot [] ms xs ranges = refl
kept-dot (r ∷ rs) [] xs ranges = refl
kept-dot (r ∷ rs) (m ∷ ms) [] ranges = refl
kept-dot (None ∷ rs) (m ∷ ms) (x ∷ xs) ranges = ap (λ n. m * x + n) (kept-dot rs ms xs ranges.1)
kept-dot (Some n ∷ rs) (m ∷ ms) (x ∷ xs) ranges = by (n == 0) refl ∙ ap (λ n. m * x + n) (kept-dot rs ms xs ranges.1)
  where
    by : (t : Bool) → (n == 0) ≡ t → (if t then 0 else m) * x + dot (kept rs ms) xs ≡ m * x + dot (kept rs ms) xs
    by false some = refl
    by true none =
        let z : n ≡ 0 = eqb-true n 0 none in let low : x ≤ n = ranges.0 in let zero-x : x ≡ 0 = omega (arith, z, low) in
        ap (λ y. y + dot (kept rs ms) xs) (zero-mul x ∙ sym (ap (λ y. m * y) zero-x ∙ mul-zero m))

pub value-settled : (rs : List (Option ℕ)) (f : Form) (xs : List ℕ) → InRanges rs xs → form_value (settled rs f) xs ≡ form_value f xs
value-settled rs f xs ranges = ap (λ n. f.constant + n) (kept-dot rs f.factors xs ranges)

-- ---- remainders as forms

reduced-dot : (n : ℕ) (ms xs : List ℕ) → dot (map (λ m. m % n) ms) xs % n ≡ dot ms xs % n
reduced-dot n [] xs = refl
reduced-dot n (m ∷ ms) [] = refl
reduced-dot n (m ∷ ms) (x ∷ xs) = mod-sum (m % n * x) (dot (map (λ m. m % n) ms) xs) (m * x) (dot ms xs) n
    (mod-product (m % n) m x n (mod-mod m n)) (reduced-dot n ms xs)

pub value-remainder : (rs : List (Option ℕ)) (f : Form) (n : ℕ) (g : Form) (xs : List ℕ) → InRanges rs xs → remainder rs f n ≡ Some g
    → (form_value g xs ≡ form_value f xs % n) × (1 ≤ n)
value-remainder rs f n g xs ranges is = by (nat_le 1 n && fits_in (most rs (reduced n f)) (Some (n - 1))) refl is
  where
    by : (t : Bool) → (nat_le 1 n && fits_in (most rs (reduced n f)) (Some (n - 1))) ≡ t → (if t then Some (reduced n f) else None) ≡ Some g
        → (form_value g xs ≡ form_value f xs % n) × (1 ≤ n)
    by false more is = absurd (cc)
    by true ok is =
        let parts = and_parts (nat_le 1 n) (fits_in (most rs (reduced n f)) (Some (n - 1))) ok in
        let some : 1 ≤ n = leb-true 1 n parts.0 in
        let low : form_value (reduced n f) xs ≤ n - 1 = fits-below (most rs (reduced n f)) (Some (n - 1))
        (form_value (reduced n f) xs) parts.1 (λ m at. value-below rs (reduced n f) xs m ranges at) in
        let same : form_value (reduced n f) xs % n ≡ form_value f xs % n =
        mod-sum (f.constant % n) (dot (map (λ m. m % n) f.factors) xs) f.constant (dot f.factors xs) n (mod-mod f.constant n) (reduced-dot n f.factors xs) in
        (subst (λ h. form_value h xs ≡ form_value f xs % n) (let e : reduced n f ≡ g = cc in e) (sym (mod-eq_of_lt (omega (arith, low, some))) ∙ same), some)

-- ---- bounds of a remainder

abbrev rising : (n m : ℕ) → ℕ
rising n m = if nat_le (n - m % n) (m % n) then 0 else m % n

abbrev falling : (n m : ℕ) → ℕ
falling n m = if nat_le (n - m % n) (m % n) then n - m % n else 0

evened : (n m : ℕ) → 1 ≤ n → (m + falling n m) % n ≡ rising n m % n
evened n m some = by (nat_le (n - m % n) (m % n))
  where
    by : (t : Bool) → (m + (if t then n - m % n else 0)) % n ≡ (if t then 0 else m % n) % n
    by true = (let e : m + (n - m % n) ≡ 0 + m + (n - m % n) = omega arith in ap (λ y. y % n) e) ∙ round-up n 0 m some
    by false = (let e : m + 0 ≡ m = omega arith in ap (λ y. y % n) e) ∙ sym (mod-mod m n)

all-balanced : (n : ℕ) (ms xs : List ℕ) → 1 ≤ n → (dot ms xs + dot (fallings n ms) xs) % n ≡ dot (risings n ms) xs % n
all-balanced n [] xs some = refl
all-balanced n (m ∷ ms) [] some = refl
all-balanced n (m ∷ ms) (x ∷ xs) some =
    (let turned : m * x + dot ms xs + (falling n m * x + dot (fallings n ms) xs) ≡ (m + falling n m) * x + (dot ms xs + dot (fallings n ms) xs) =
    (let e : (m + falling n m) * x ≡ m * x + falling n m * x = add-mul m (falling n m) x in omega (arith, e)) in ap (λ y. y % n) turned)
    ∙ mod-sum ((m + falling n m) * x) (dot ms xs + dot (fallings n ms) xs) (rising n m * x) (dot (risings n ms) xs) n
    (mod-product (m + falling n m) (rising n m) x n (evened n m some)) (all-balanced n ms xs some)

in-between : (n v c up down rise fall : ℕ) → v < n → (v + fall) % n ≡ (c + rise) % n → fall ≤ down → rise ≤ up → down ≤ c → c + up + 1 ≤ n
    → v + fall ≡ c + rise
in-between n v c up down rise fall small same f r d u = elim (cases_lt (v + fall) n) [
  | inl under ↦ sym (mod-eq_of_lt under) ∙ level
  | inr over ↦ absurd (
      let once : v + fall ≡ v + fall - n + n * 1 = omega (arith, over) in
      let e : v + fall - n ≡ c + rise = sym (ap (λ y. y % n) once ∙ add-mul-mod_self_left (v + fall - n) n 1
      ∙ mod-eq_of_lt (omega (arith, small, f, d, u))) ∙ level in
      omega (arith, e, small, f, d, over))
]
  where
    level : (v + fall) % n ≡ c + rise
    level = same ∙ mod-eq_of_lt (omega (arith, r, u))

-- a form's remainder lies between the bounds, and what falls in it may be added to it
pub record IsBetween (n : ℕ) (f : Form) (xs : List ℕ) (b : Bounds) : Type 0 where
  pub some : 1 ≤ n
  pub low : b.low ≤ form_value f xs % n
  pub high : form_value f xs % n ≤ b.high
  pub level : form_value f xs % n + dot (fallings n f.factors) xs ≡ f.constant % n + dot (risings n f.factors) xs

pub value-between : (n : ℕ) (rs : List (Option ℕ)) (f : Form) (xs : List ℕ) (b : Bounds) → InRanges rs xs → bounds_of n rs f ≡ Some b
    → IsBetween n f xs b
value-between n rs f xs b ranges is = by (most_of_sum rs (risings n f.factors)) (most_of_sum rs (fallings n f.factors)) refl refl is
  where
    level : 1 ≤ n → (form_value f xs % n + dot (fallings n f.factors) xs) % n ≡ (f.constant % n + dot (risings n f.factors) xs) % n
    level some = mod-sum (form_value f xs % n) (dot (fallings n f.factors) xs) (form_value f xs)
        (dot (fallings n f.factors) xs) n (mod-mod (form_value f xs) n) refl
        ∙ (let turned : form_value f xs + dot (fallings n f.factors) xs ≡ f.constant + (dot f.factors xs + dot (fallings n f.factors) xs) =
        omega arith in ap (λ y. y % n) turned)
        ∙ mod-sum f.constant (dot f.factors xs + dot (fallings n f.factors) xs) (f.constant % n) (dot (risings n f.factors) xs) n
        (sym (mod-mod f.constant n)) (all-balanced n f.factors xs some)

    by : (up down : Option ℕ) → most_of_sum rs (risings n f.factors) ≡ up → most_of_sum rs (fallings n f.factors) ≡ down
        → bounds_between n (f.constant % n) up down ≡ Some b
        → IsBetween n f xs b
    by None down u d is = absurd (cc)
    by (Some up) None u d is = absurd (cc)
    by (Some up) (Some down) u d is = at (nat_le down (f.constant % n) && nat_le (f.constant % n + up + 1) n) refl is
      where
        at : (t : Bool) → (nat_le down (f.constant % n) && nat_le (f.constant % n + up + 1) n) ≡ t
            → (if t then Some (record { low = f.constant % n - down; high = f.constant % n + up }) else None) ≡ Some b
            → IsBetween n f xs b
        at false off is = absurd (cc)
        at true ok is =
            let parts = and_parts (nat_le down (f.constant % n)) (nat_le (f.constant % n + up + 1) n) ok in
            let high : f.constant % n + up + 1 ≤ n = leb-true (f.constant % n + up + 1) n parts.1 in
            let some : 1 ≤ n = omega (arith, high) in
            let fall : dot (fallings n f.factors) xs ≤ down = dot-below rs (fallings n f.factors) xs down ranges d in
            let rise : dot (risings n f.factors) xs ≤ up = dot-below rs (risings n f.factors) xs up ranges u in
            let at : form_value f xs % n + dot (fallings n f.factors) xs ≡ f.constant % n + dot (risings n f.factors) xs =
            in-between n (form_value f xs % n) (f.constant % n) up down (dot (risings n f.factors) xs) (dot (fallings n f.factors) xs)
            (mod-lt (form_value f xs) some) (level some) fall rise (leb-true down (f.constant % n) parts.0) high in
            subst (IsBetween n f xs) (let e : record { low = f.constant % n - down; high = f.constant % n + up } ≡ b = cc in e)
            (record { some = some; low = omega (arith, at, fall); high = omega (arith, at, rise); level = at })

balanced-dot : (n : ℕ) (ms xs : List ℕ) → n ≤ 2 ^ 32 → (dot (balanced n ms) xs + dot (fallings n ms) xs) % 2 ^ 32 ≡ dot (risings n ms) xs % 2 ^ 32
balanced-dot n [] xs low = refl
balanced-dot n (m ∷ ms) [] low = refl
balanced-dot n (m ∷ ms) (x ∷ xs) low = by (nat_le (n - m % n) (m % n)) (balanced-dot n ms xs low)
  where
    by : (t : Bool) → (dot (balanced n ms) xs + dot (fallings n ms) xs) % 2 ^ 32 ≡ dot (risings n ms) xs % 2 ^ 32
        → ((if t then 2 ^ 32 - (n - m % n) else m % n) * x + dot (balanced n ms) xs + ((if t then n - m % n else 0) * x + dot (fallings n ms) xs)) % 2 ^ 32
        ≡ ((if t then 0 else m % n) * x + dot (risings n ms) xs) % 2 ^ 32
    by true rest =
        let e : (2 ^ 32 - (n - m % n) + (n - m % n)) * x ≡ (2 ^ 32 - (n - m % n)) * x + (n - m % n) * x = add-mul (2 ^ 32 - (n - m % n)) (n - m % n) x in
        let whole : 2 ^ 32 - (n - m % n) + (n - m % n) ≡ 2 ^ 32 = omega (arith, low) in
        let all : (2 ^ 32 - (n - m % n) + (n - m % n)) * x ≡ 2 ^ 32 * x = ap (λ y. y * x) whole in
        let none : 0 * x ≡ 0 = zero-mul x in
        omega (arith, e, all, none, rest)
    by false rest = let none : 0 * x ≡ 0 = zero-mul x in omega (arith, none, rest)

pub value-word : (rs : List (Option ℕ)) (f : Form) (n : ℕ) (g : Form) (xs : List ℕ) → InRanges rs xs → n ≤ 2 ^ 32 → remainder_word rs f n ≡ Some g
    → form_value f xs % n ≡ form_value g xs % 2 ^ 32
value-word rs f n g xs ranges small is = by (remainder rs f n) refl is
  where
    at : (b : Option Bounds) → bounds_of n rs f ≡ b → where_bounded b (record { constant = f.constant % n; factors = balanced n f.factors }) ≡ Some g
        → form_value f xs % n ≡ form_value g xs % 2 ^ 32
    at None of is = absurd (cc)
    at (Some b) of is =
        let between = value-between n rs f xs b ranges of in
        let level : form_value f xs % n + dot (fallings n f.factors) xs ≡ f.constant % n + dot (risings n f.factors) xs = between.level in
        let turned : (dot (balanced n f.factors) xs + dot (fallings n f.factors) xs) % 2 ^ 32 ≡ dot (risings n f.factors) xs % 2 ^ 32 =
        balanced-dot n f.factors xs small in
        let under : form_value f xs % n < n = mod-lt (form_value f xs) between.some in
        let e : form_value f xs % n ≡ (f.constant % n + dot (balanced n f.factors) xs) % 2 ^ 32 = omega (arith, level, turned, under, small) in
        e ∙ ap (λ k. form_value k xs % 2 ^ 32) (let same : record { constant = f.constant % n; factors = balanced n f.factors } ≡ g = cc in same)

    by : (o : Option Form) → remainder rs f n ≡ o
        → first_form o (where_bounded (bounds_of n rs f) (record { constant = f.constant % n; factors = balanced n f.factors })) ≡ Some g
        → form_value f xs % n ≡ form_value g xs % 2 ^ 32
    by None none is = at (bounds_of n rs f) refl is
    by (Some k) some is = grind (arith, value-remainder, mod-lt, mod-eq_of_lt)
