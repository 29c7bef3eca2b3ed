-- One report more keeps reports clean.
use Rattle.std.proofs.Common.{ℕ, zero, suc, ◌+◌, ◌<◌, ◌≡◌, ◌≢◌, ◌==◌, ◌⊎◌, inl, inr, if◌then◌else◌, List, [], ◌∷◌, ◌++◌, length, take, drop, Some, refl, sym}
use Rattle.std.proofs.Common.{◌∙◌, ap, arith, append-nil, length-append, eq-eqb}
use Rattle.std.specs.Prelude.{slice_index}
use Rattle.std.specs.List.{slice_get, slice_index_or}
use Rattle.std.proofs.lemmas.Bool.Decides.{nat_tests}
use Rattle.std.proofs.lemmas.List.{take-append-le, take-append-drop, take_more}
use Rattle.std.proofs.Math.Seq.{take-append_seam}
use Rattle.hart.specs.declared.need.Report.{Report}
use Rattle.hart.specs.declared.need.Report.TheVariants as report
use Rattle.poll_close.specs.{taken, sender_of, IsPrefixOf, Clean, ReportsOf}
use Rattle.poll_close.proofs.Windows.{get_end}

get_last : (xs : List Report) (x y : Report) (k : ℕ) → slice_get (xs ++ x ∷ []) k ≡ Some y
    → ((k < length xs) × (slice_get xs k ≡ Some y)) ⊎ ((k ≡ length xs) × (x ≡ y))
get_last [] x y zero is = inr (refl, (let same : x ≡ y = cc in same))
get_last [] x y (suc k) is = cc
get_last (z ∷ xs) x y zero is = inl (omega arith, is)
get_last (z ∷ xs) x y (suc k) is = grind (arith, get_last xs x y k is)

pub get_front : (xs ys : List Report) (k : ℕ) (x : Report) → slice_get xs k ≡ Some x → slice_get (xs ++ ys) k ≡ Some x
get_front [] ys k x is = cc
get_front (z ∷ xs) ys zero x is = is
get_front (z ∷ xs) ys (suc k) x is = get_front xs ys k x is

pub taken-append : (xs ys : List Report) (i : ℕ) → taken (xs ++ ys) i ≡ taken xs i ++ taken ys i
taken-append [] ys i = refl
taken-append (report.Took j w ∷ xs) ys i = grind (arith, taken-append xs ys i)
taken-append (report.Closed j ∷ xs) ys i = taken-append xs ys i

pub taken-took : (rs : List Report) (j w i : ℕ) → taken (rs ++ report.Took j w ∷ []) i ≡ taken rs i ++ (if j == i then w ∷ [] else [])
taken-took rs j w i = taken-append rs (report.Took j w ∷ []) i

pub taken-closed : (rs : List Report) (j i : ℕ) → taken (rs ++ report.Closed j ∷ []) i ≡ taken rs i
taken-closed rs j i = taken-append rs (report.Closed j ∷ []) i ∙ append-nil (taken rs i)

pub clean_more : (rs : List Report) (lists : List (List ℕ)) (x : Report) → Clean rs lists
    → sender_of x < length lists → ((k : ℕ) → slice_get rs k ≡ Some (report.Closed (sender_of x)) → ⊥)
    → ((i : ℕ) → IsPrefixOf (taken (rs ++ x ∷ []) i) (slice_index_or lists i []))
    → ((i : ℕ) → x ≡ report.Closed i → taken rs i ≡ slice_index_or lists i []) → Clean (rs ++ x ∷ []) lists
clean_more rs lists x clean known unclosed prefix all = grind (arith, get_last, take-append-le, take-append_seam)

-- another sender's report
pub taken-other : (rs : List Report) (i : ℕ) (y : Report) → sender_of y ≢ i → taken (rs ++ y ∷ []) i ≡ taken rs i
taken-other rs i y differ = grind (arith, taken-took, nat_tests, append-nil, taken-closed)

pub reports_other : (rs : List Report) (i : ℕ) (list : List ℕ) (took closings : ℕ) (x : Report) → sender_of x ≢ i
    → ReportsOf rs i list took closings → ReportsOf (rs ++ x ∷ []) i list took closings
reports_other rs i list took closings x other reports = grind (arith, taken-other, get_front, get_last)

-- a word of the sender's own
pub reports_took : (rs : List Report) (i : ℕ) (list : List ℕ) (took closings : ℕ) → took < length list
    → ReportsOf rs i list took closings
    → ReportsOf (rs ++ report.Took i (slice_index list took) ∷ []) i list (took + 1) closings
reports_took rs i list took closings less reports = grind (arith, taken-took, eq-eqb, take_more, get_front, get_last)

-- its closing
pub reports_closed : (rs : List Report) (i : ℕ) (list : List ℕ) (took closings : ℕ) → ReportsOf rs i list took closings
    → ReportsOf (rs ++ report.Closed i ∷ []) i list took 1
reports_closed rs i list took closings reports = grind (arith, taken-closed rs i i, get_end rs (report.Closed i))

pub prefix_take : (list : List ℕ) (xs : List ℕ) (n : ℕ) → xs ≡ take n list → IsPrefixOf xs list
prefix_take list xs n is = (drop n list, ap (λ ys. ys ++ drop n list) is ∙ take-append-drop n list)

pub nothing_left : (xs : List ℕ) → length xs ≡ 0 → xs ≡ []
nothing_left [] none = refl
nothing_left (x ∷ xs) none = absurd (omega arith)

-- of a sender that is reported closed the whole list is taken
pub closed_whole : (rs : List Report) (lists : List (List ℕ)) (i k : ℕ) → Clean rs lists
    → slice_get rs k ≡ Some (report.Closed i) → taken rs i ≡ slice_index_or lists i []
closed_whole rs lists i k clean is =
    let split : taken rs i ≡ taken (take k rs) i ++ taken (drop k rs) i =
    ap (λ ys. taken ys i) (sym (take-append-drop k rs)) ∙ taken-append (take k rs) (drop k rs) i in
    let first : length (taken rs i) ≡ length (taken (take k rs) i) + length (taken (drop k rs) i) =
    ap length split ∙ length-append (taken (take k rs) i) (taken (drop k rs) i) in
    let whole : length (taken (take k rs) i) ≡ length (slice_index_or lists i []) = ap length (clean.whole i k is) in
    let rest : List ℕ = (clean.in_order i).0 in
    let all : length (taken rs i) + length rest ≡ length (slice_index_or lists i []) = sym (length-append (taken rs i) rest) ∙ ap length (clean.in_order i).1 in
    let none : rest ≡ [] = nothing_left rest (omega (arith, first, whole, all)) in
    sym (append-nil (taken rs i)) ∙ ap (λ ys. taken rs i ++ ys) (sym none) ∙ (clean.in_order i).1

pub clean-none : (lists : List (List ℕ)) → Clean [] lists
clean-none lists = record {
  in_order = λ i. (slice_index_or lists i [], refl);
  whole = λ i k is. cc;
  no_more = λ i j k r less first second. cc;
  known = λ k r is. cc;
}
