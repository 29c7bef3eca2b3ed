-- Numbers that depend on a few numbers that aren't known: sums of multiples of them.
use Rattle.std.specs.Prelude.{ℕ, zero, suc, ◌+◌, ◌-◌, ◌*◌, ◌%◌, ◌^◌, ◌≤◌, ◌==◌, ◌&&◌, nat_le, if◌then◌else◌, Bool, true}
use Rattle.std.specs.Prelude.{false, Option, None, Some, List, [], ◌∷◌, map}

-- a constant, and of each variable how often it is taken
pub record Form : Type 0 where
  pub constant : ℕ
  pub factors : List ℕ

abbrev pub dot : List ℕ → List ℕ → ℕ
dot [] xs = 0
dot (m ∷ ms) [] = 0
dot (m ∷ ms) (x ∷ xs) = m * x + dot ms xs

-- its value, where the variables are these numbers
abbrev pub form_value : Form → List ℕ → ℕ
form_value f xs = f.constant + dot f.factors xs

abbrev pub number : ℕ → Form
number n = record { constant = n; factors = [] }

-- the first variable alone
abbrev pub first_variable : Form
first_variable = record { constant = 0; factors = 1 ∷ [] }

abbrev pub sums : List ℕ → List ℕ → List ℕ
sums [] ns = ns
sums (m ∷ ms) [] = m ∷ ms
sums (m ∷ ms) (n ∷ ns) = (m + n) ∷ sums ms ns

abbrev pub plus : Form → Form → Form
plus f g = record { constant = f.constant + g.constant; factors = sums f.factors g.factors }

abbrev pub times : ℕ → Form → Form
times n f = record { constant = n * f.constant; factors = map (λ m. n * m) f.factors }

-- over one variable more, which comes first
abbrev pub lifted : Form → Form
lifted f = record { constant = f.constant; factors = 0 ∷ f.factors }

-- with forms for its variables
abbrev pub combined : List ℕ → List Form → Form
combined [] gs = number 0
combined (m ∷ ms) [] = number 0
combined (m ∷ ms) (g ∷ gs) = plus (times m g) (combined ms gs)

abbrev pub substituted : Form → List Form → Form
substituted f gs = plus (number f.constant) (combined f.factors gs)

abbrev pub differences : List ℕ → List ℕ → List ℕ
differences [] ns = []
differences (m ∷ ms) [] = m ∷ ms
differences (m ∷ ms) (n ∷ ns) = (m - n) ∷ differences ms ns

-- what has to be added to g so that it is f, where there is such a form
abbrev pub minus : Form → Form → Form
minus f g = record { constant = f.constant - g.constant; factors = differences f.factors g.factors }

abbrev pub factor_at : List ℕ → (j : ℕ) → ℕ
factor_at [] j = 0
factor_at (m ∷ ms) zero = m
factor_at (m ∷ ms) (suc j) = factor_at ms j

-- where variable j is `by` more
abbrev pub raised : (j by : ℕ) → Form → Form
raised j by f = record { constant = f.constant + factor_at f.factors j * by; factors = f.factors }

-- ---- the same number, whatever the variables are, as a remainder by n; where n is 0, as it is

abbrev pub vanishes : (n : ℕ) → List ℕ → Bool
vanishes n [] = true
vanishes n (m ∷ ms) = (m % n == 0) && vanishes n ms

abbrev pub agree : (n : ℕ) → List ℕ → List ℕ → Bool
agree n [] ks = vanishes n ks
agree n (m ∷ ms) [] = (m % n == 0) && vanishes n ms
agree n (m ∷ ms) (k ∷ ks) = (m % n == k % n) && agree n ms ks

abbrev pub is_same : (n : ℕ) → Form → Form → Bool
is_same n f g = (f.constant % n == g.constant % n) && agree n f.factors g.factors

-- ---- ranges: each variable is at most a number, or any

abbrev pub IsAtMost : Option ℕ → ℕ → Type 0
IsAtMost None x = Unit {0}
IsAtMost (Some n) x = x ≤ n

abbrev pub InRanges : List (Option ℕ) → List ℕ → Type 0
InRanges [] [] = Unit {0}
InRanges [] (x ∷ xs) = ⊥
InRanges (r ∷ rs) [] = ⊥
InRanges (r ∷ rs) (x ∷ xs) = IsAtMost r x × InRanges rs xs

-- the most that a multiple may be, and the most of a sum, if there is one
abbrev pub most_of_multiple : Option ℕ → (m : ℕ) → Option ℕ
most_of_multiple None m = if m == 0 then Some 0 else None
most_of_multiple (Some n) m = Some (m * n)

abbrev pub added : Option ℕ → Option ℕ → Option ℕ
added None b = None
added (Some a) None = None
added (Some a) (Some b) = Some (a + b)

abbrev pub most_of_sum : List (Option ℕ) → List ℕ → Option ℕ
most_of_sum [] ms = Some 0
most_of_sum (r ∷ rs) [] = Some 0
most_of_sum (r ∷ rs) (m ∷ ms) = added (most_of_multiple r m) (most_of_sum rs ms)

abbrev pub most : List (Option ℕ) → Form → Option ℕ
most rs f = added (Some f.constant) (most_of_sum rs f.factors)

-- a value that is at most b lies in a range
abbrev pub fits_in : Option ℕ → (r : Option ℕ) → Bool
fits_in b None = true
fits_in None (Some n) = false
fits_in (Some b) (Some n) = nat_le b n

-- each of these forms lies in its range, where the variables lie in theirs
abbrev pub are_in : List (Option ℕ) → List Form → (targets : List (Option ℕ)) → Bool
are_in rs [] [] = true
are_in rs [] (t ∷ ts) = false
are_in rs (g ∷ gs) [] = false
are_in rs (g ∷ gs) (t ∷ ts) = fits_in (most rs g) t && are_in rs gs ts

-- without the variables that can only be 0
abbrev pub is_none : Option ℕ → Bool
is_none None = false
is_none (Some n) = n == 0

abbrev pub kept : List (Option ℕ) → List ℕ → List ℕ
kept [] ms = ms
kept (r ∷ rs) [] = []
kept (r ∷ rs) (m ∷ ms) = (if is_none r then 0 else m) ∷ kept rs ms

abbrev pub settled : List (Option ℕ) → Form → Form
settled rs f = record { constant = f.constant; factors = kept rs f.factors }

-- the remainder by n as a form, where each factor's remainder will do: where these come to less than n
abbrev pub reduced : ℕ → Form → Form
reduced n f = record { constant = f.constant % n; factors = map (λ m. m % n) f.factors }

abbrev pub remainder : List (Option ℕ) → Form → (n : ℕ) → Option Form
remainder rs f n = if nat_le 1 n && fits_in (most rs (reduced n f)) (Some (n - 1)) then Some (reduced n f) else None

-- ---- bounds of a form's remainder by n, where it doesn't wrap. A factor that is no farther from n than from 0 counts as negative

pub record Bounds : Type 0 where
  pub low : ℕ
  pub high : ℕ

abbrev pub risings : (n : ℕ) → List ℕ → List ℕ
risings n [] = []
risings n (m ∷ ms) = (if nat_le (n - m % n) (m % n) then 0 else m % n) ∷ risings n ms

abbrev pub fallings : (n : ℕ) → List ℕ → List ℕ
fallings n [] = []
fallings n (m ∷ ms) = (if nat_le (n - m % n) (m % n) then n - m % n else 0) ∷ fallings n ms

abbrev pub bounds_between : (n c : ℕ) → (up down : Option ℕ) → Option Bounds
bounds_between n c None down = None
bounds_between n c (Some up) None = None
bounds_between n c (Some up) (Some down) = if nat_le down c && nat_le (c + up + 1) n then Some (record { low = c - down; high = c + up }) else None

abbrev pub bounds_of : (n : ℕ) → List (Option ℕ) → Form → Option Bounds
bounds_of n rs f = bounds_between n (f.constant % n) (most_of_sum rs (risings n f.factors)) (most_of_sum rs (fallings n f.factors))

-- the remainder by n, which is at most 2 ^ 32, as a word: a remainder as above, or, within bounds, one whose factors may be negative
abbrev pub balanced : (n : ℕ) → List ℕ → List ℕ
balanced n [] = []
balanced n (m ∷ ms) = (if nat_le (n - m % n) (m % n) then 2 ^ 32 - (n - m % n) else m % n) ∷ balanced n ms

abbrev pub where_bounded : Option Bounds → Form → Option Form
where_bounded None f = None
where_bounded (Some b) f = Some f

abbrev pub first_form : Option Form → Option Form → Option Form
first_form None g = g
first_form (Some f) g = Some f

abbrev pub remainder_word : List (Option ℕ) → Form → (n : ℕ) → Option Form
remainder_word rs f n = first_form (remainder rs f n)
    (where_bounded (bounds_of n rs f) (record { constant = f.constant % n; factors = balanced n f.factors }))
