-- A list whose elements are changed one after the other, each by the one at its place in another list.
use Rattle.std.proofs.Common.{◌≡◌, ℕ, zero, suc, ◌+◌, ◌<◌, List, [], ◌∷◌, length, take, set, get_or, Some, refl, sym, ◌∙◌, ap, subst, arith}
use Rattle.std.specs.Prelude.{All}
use Rattle.std.specs.List.{slice_get}
use Rattle.std.proofs.Math.Seq.{take-length}
use Rattle.std.proofs.lemmas.Option.{slice_get_read}
use Rattle.std.proofs.lemmas.List.Elements.{All-cons, All-head, All-tail}
use Rattle.step_machine.specs.inner.Restored.{changed_by}

pub by_none : {X Y : Type 0} (f : X → Y → X) (xs : List X) → changed_by f xs [] ≡ xs
by_none f [] = refl
by_none f (x ∷ xs) = refl

pub length-changed : {X Y : Type 0} (f : X → Y → X) (xs : List X) (ys : List Y) → length (changed_by f xs ys) ≡ length xs
length-changed f (x ∷ xs) (y ∷ ys) = ap suc (length-changed f xs ys)
length-changed f y z = refl

-- what is past the second list isn't changed yet
pub not_yet : {X Y : Type 0} (f : X → Y → X) (xs : List X) (ys : List Y) (i : ℕ) (d : X) → get_or (changed_by f xs (take i ys)) i d ≡ get_or xs i d
not_yet f [] ys i d = refl
not_yet f (x ∷ xs) [] zero d = refl
not_yet f (x ∷ xs) [] (suc i) d = refl
not_yet f (x ∷ xs) (y ∷ ys) zero d = refl
not_yet f (x ∷ xs) (y ∷ ys) (suc i) d = not_yet f xs ys i d

more_at : {X Y : Type 0} (f : X → Y → X) (xs : List X) (ys : List Y) (i : ℕ) (d : X) (e : Y) → i < length ys
    → set (changed_by f xs (take i ys)) i (f (get_or xs i d) (get_or ys i e)) ≡ changed_by f xs (take (suc i) ys)
more_at f xs [] i d e within = let none : ⊥ = omega arith in absurd none
more_at f (x ∷ xs) (y ∷ ys) zero d e within = ap (λ zs. f x y ∷ zs) (sym (by_none f xs))
more_at f (x ∷ xs) (y ∷ ys) (suc i) d e within = ap (λ zs. f x y ∷ zs) (more_at f xs ys i d e (omega arith))
more_at f [] (y ∷ ys) x d e within = refl

-- a loop that changes each element
pub changed_at : {X Y : Type 0} (f : X → Y → X) (xs zs : List X) (ys : List Y) (i : ℕ) (d : X) (e : Y) → i < length ys → zs ≡ changed_by f xs (take i ys)
    → set zs i (f (get_or zs i d) (get_or ys i e)) ≡ changed_by f xs (take (i + 1) ys)
changed_at f xs zs ys i d e within is = grind (arith, set, not_yet, more_at)

pub changed_more : {X Y : Type 0} (f : X → Y → X) (xs zs : List X) (ys : List Y) (i : ℕ) (x : X) (y : Y) → i < length ys → zs ≡ changed_by f xs (take i ys)
    → x ≡ get_or zs i x → y ≡ get_or ys i y → set zs i (f x y) ≡ changed_by f xs (take (i + 1) ys)
changed_more f xs zs ys i x y within is x_is y_is = grind (arith, set, changed_at)

-- and it reads each element as it was
pub still_at : {X Y : Type 0} (f : X → Y → X) (xs zs : List X) (ys : List Y) (i : ℕ) (x : X) → i < length xs → zs ≡ changed_by f xs (take i ys)
    → x ≡ get_or zs i x → slice_get xs i ≡ Some x
still_at f xs zs ys i x within is x_is = slice_get_read xs (length xs) i x refl within (x_is ∙ ap (λ ws. get_or ws i x) is ∙ not_yet f xs ys i x)

pub changed_all : {X Y : Type 0} (f : X → Y → X) (xs zs : List X) (ys : List Y) (i : ℕ) → zs ≡ changed_by f xs (take i ys) → length ys ≡ i
    → zs ≡ changed_by f xs ys
changed_all f xs zs ys i is all = is ∙ ap (λ n. changed_by f xs (take n ys)) (sym all) ∙ ap (changed_by f xs) (take-length ys)

pub all_others : {X : Type 0} (xs ys : List X) → length ys ≡ length xs → changed_by (λ x y. y) xs ys ≡ ys
all_others [] [] same = refl
all_others (x ∷ xs) (y ∷ ys) same = ap (λ zs. y ∷ zs) (all_others xs ys (omega arith))
all_others z other same = cc

-- what each change keeps, all of them keep
pub kept_at : {X Y : Type 0} (f : X → Y → X) (P : X → Type 0) → ((x : X) (y : Y) → P x → P (f x y)) → (xs : List X) (ys : List Y)
    → ((h : ℕ) (v : X) → slice_get xs h ≡ Some v → P v) → (h : ℕ) (v : X) → slice_get (changed_by f xs ys) h ≡ Some v → P v
kept_at f P keeps (x ∷ xs) (y ∷ ys) all zero v got = let v_is : f x y ≡ v = cc in subst P v_is (keeps x y (all zero x refl))
kept_at f P keeps (x ∷ xs) (y ∷ ys) all (suc h) v got = kept_at f P keeps xs ys (λ k w is. all (suc k) w is) h v got
kept_at f P keeps y z all h v got = all h v got

pub all_kept : {X Y : Type 0} (f : X → Y → X) (P : X → Type 0) → ((x : X) (y : Y) → P x → P (f x y)) → (xs : List X) (ys : List Y) → All P xs
    → All P (changed_by f xs ys)
all_kept f P keeps (x ∷ xs) (y ∷ ys) all =
    All-cons P (f x y) (changed_by f xs ys) (keeps x y (All-head P x xs all)) (all_kept f P keeps xs ys (All-tail P x xs all))
all_kept f P keeps y z all = all

-- ---- what any list has

pub some_first : {A : Type 0} (xs : List A) → 0 < length xs → (x : A) × (rest : List A) × (xs ≡ x ∷ rest)
some_first [] some = absurd (omega arith)
some_first (x ∷ xs) some = (x, xs, refl)
