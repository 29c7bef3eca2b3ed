-- Elements of a list, whose lines are read in turn.
use Rattle.std.proofs.Common.{◌≡◌, ℕ, zero, suc, ◌+◌, ◌-◌, ◌<◌, List, [], ◌∷◌, ◌++◌, length, map, replicate, refl, sym, ap, subst, ◌∙◌, append_assoc}
use Rattle.std.proofs.Common.{length-append, arith}
use Rattle.std.specs.List.{AllByRecursion, flat_map}
use Rattle.std.proofs.lemmas.List.{append-nil, length-replicate, replicate_more}
use Rattle.std.proofs.lemmas.List.Concat.{flat_map_single}
use Rattle.certificate_reader.specs.declared.stages.Stage.{Stage}
use Rattle.certificate_reader.specs.Drafts.{DraftValue}
use Rattle.certificate_reader.specs.Writing.{LineOfWords, lines_at, line_if}
use Rattle.certificate_reader.specs.Written.{AllAt, EndsFull}
use Rattle.certificate_reader.proofs.LinesAgain.{LeadsTo, no_line, then_told, IsHeld, at_stage, from_held}

pub all_at : {A : Type 0} (P : A → Type 0) (place : ℕ) (xs : List A) → AllByRecursion P xs → AllAt (λ j. P) place xs
all_at P place [] all = tt
all_at P place (x ∷ xs) all = (all.0, all_at P (place + 1) xs all.1)

at_flat : {A : Type 0} (lines : A → List LineOfWords) (place : ℕ) (xs : List A) → lines_at (λ j. lines) place xs ≡ flat_map lines xs
at_flat lines place [] = refl
at_flat lines place (x ∷ xs) = ap (λ ls. lines x ++ ls) (at_flat lines (place + 1) xs)

-- Where the lines of each element lead from Q of those before it to Q of those up to it, the lines of all lead to Q of all.
all_told : {A : Type 0} (P : ℕ → A → Type 0) (Q : List A → DraftValue → Type 0) (lines : ℕ → A → List LineOfWords) (all : List A)
    → ((before : List A) (x : A) (after : List A) (d : DraftValue) → before ++ x ∷ after ≡ all → P (length before) x → Q before d
    → LeadsTo (Q (before ++ x ∷ [])) d (lines (length before) x))
    → (before xs : List A) (d : DraftValue) → before ++ xs ≡ all → AllAt P (length before) xs → Q before d
    → LeadsTo (Q all) d (lines_at lines (length before) xs)
all_told P Q lines all one before [] d same fits holds = no_line (Q all) d (subst (λ xs. Q xs d) (sym (append-nil before) ∙ same) holds)
all_told P Q lines all one before (x ∷ xs) d same fits holds =
    let longer : length (before ++ x ∷ []) ≡ length before + 1 = omega (arith, length-append before (x ∷ [])) in
    then_told (Q (before ++ x ∷ [])) (Q all) d (lines (length before) x) (lines_at lines (length before + 1) xs) (one before x xs d same fits.0 holds)
    (λ e held. subst (λ place. LeadsTo (Q all) e (lines_at lines place xs)) longer
    (all_told P Q lines all one (before ++ x ∷ []) xs e (append_assoc before (x ∷ []) xs ∙ same) (subst (λ place. AllAt P place xs) (sym longer) fits.1) held))

-- the same where a place doesn't matter
pub each_told : {A : Type 0} (P : A → Type 0) (Q : List A → DraftValue → Type 0) (lines : A → List LineOfWords) (all : List A)
    → ((before : List A) (x : A) (after : List A) (d : DraftValue) → before ++ x ∷ after ≡ all → P x → Q before d
    → LeadsTo (Q (before ++ x ∷ [])) d (lines x))
    → (d : DraftValue) → AllByRecursion P all → Q [] d → LeadsTo (Q all) d (flat_map lines all)
each_told P Q lines all one d fits holds = subst (LeadsTo (Q all) d) (at_flat lines 0 all)
    (all_told (λ j. P) Q (λ j. lines) all one [] all d refl (all_at P 0 all fits) holds)

-- elements that are added to a list
pub each_added : {A : Type 0} (P : A → Type 0) (S : Stage → Type 0) (held : List A → Stage → DraftValue) (lines : A → List LineOfWords) (all : List A)
    → ((before : List A) (x : A) (s : Stage) → length before < length all → P x → S s → LeadsTo (IsHeld S (held (before ++ x ∷ []))) (held before s) (lines x))
    → (s : Stage) → S s → AllByRecursion P all → LeadsTo (IsHeld S (held all)) (held [] s) (flat_map lines all)
each_added P S held lines all one s stands fits = each_told P (λ xs. IsHeld S (held xs)) lines all
    (λ before x after d same p at. from_held S (held before) (IsHeld S (held (before ++ x ∷ []))) (lines x)
    (λ t. one before x t (omega (arith, ap length same, length-append before (x ∷ after))) p) d at)
    (held [] s) fits (at_stage S (held []) s stands)

-- the same where each has one line
pub each_line : {A : Type 0} (P : A → Type 0) (S : Stage → Type 0) (held : List A → Stage → DraftValue) (line : A → LineOfWords) (all : List A)
    → ((before : List A) (x : A) (s : Stage) → length before < length all → P x → S s
    → LeadsTo (IsHeld S (held (before ++ x ∷ []))) (held before s) (line x ∷ []))
    → (s : Stage) → S s → AllByRecursion P all → LeadsTo (IsHeld S (held all)) (held [] s) (map line all)
each_line P S held line all one s stands fits = subst (LeadsTo (IsHeld S (held all)) (held [] s)) (flat_map_single line all)
    (each_added P S held (λ x. line x ∷ []) all one s stands fits)

-- a line of all of them, if there are any
pub if_told : {A : Type 0} (S : Stage → Type 0) (held : List A → Stage → DraftValue) (name : List ℕ) (word : A → List ℕ) (s : Stage) → S s → (xs : List A)
    → LeadsTo (IsHeld S (held xs)) (held [] s) ((name, map word xs) ∷ []) → LeadsTo (IsHeld S (held xs)) (held [] s) (line_if name (map word xs))
if_told S held name word s stands [] line = no_line (IsHeld S (held [])) (held [] s) (at_stage S (held []) s stands)
if_told S held name word s stands (x ∷ xs) line = line

-- elements that are put in the n places of a list, each by the lines of its place
pub each_placed : {A : Type 0} (P : A → Type 0) (S : Stage → Type 0) (held : List A → Stage → DraftValue) (nothing : A) (lines : ℕ → A → List LineOfWords)
    (n : ℕ) (all : List A) → length all ≡ n
    → ((before : List A) (x : A) (after rest : List A) (s : Stage) → before ++ x ∷ after ≡ all → P x → S s
    → LeadsTo (IsHeld S (held (before ++ x ∷ rest))) (held (before ++ nothing ∷ rest) s) (lines (length before) x))
    → (s : Stage) → S s → AllByRecursion P all → LeadsTo (IsHeld S (held all)) (held (replicate n nothing) s) (lines_at lines 0 all)
each_placed {A = A} P S held nothing lines n all sizes one s stands fits = subst (λ xs. LeadsTo (IsHeld S (held xs)) start (lines_at lines 0 all)) over
    (all_told (λ j. P) (λ xs. IsHeld S (padded xs)) lines all next [] all start refl (all_at P 0 all fits)
    (record { stage = s; stands = stands; same = ap (λ k. held (replicate k nothing) s) all_left }))
  where
    start : DraftValue
    start = held (replicate n nothing) s

    padded : List A → Stage → DraftValue
    padded xs = held (xs ++ replicate (n - length xs) nothing)

    all_left : n ≡ n - 0
    all_left = omega arith

    over : all ++ replicate (n - length all) nothing ≡ all
    over = let none : n - length all ≡ 0 = omega arith in rw none (append-nil all)

    next : (before : List A) (x : A) (after : List A) (d : DraftValue) → before ++ x ∷ after ≡ all → P x → IsHeld S (padded before) d
        → LeadsTo (IsHeld S (padded (before ++ x ∷ []))) d (lines (length before) x)
    next before x after d same p at =
        let rest = replicate (n - length (before ++ x ∷ [])) nothing in
        let left : n - length before ≡ suc (n - length (before ++ x ∷ [])) =
        omega (arith, sizes, ap length same, length-append before (x ∷ after), length-append before (x ∷ [])) in
        from_held S (padded before) (IsHeld S (padded (before ++ x ∷ []))) (lines (length before) x)
        (λ t is. subst (λ k. LeadsTo (IsHeld S (padded (before ++ x ∷ []))) (held (before ++ replicate k nothing) t) (lines (length before) x)) (sym left)
        (subst (λ xs. LeadsTo (IsHeld S (held xs)) (held (before ++ nothing ∷ rest) t) (lines (length before) x))
        (sym (append_assoc before (x ∷ []) rest)) (one before x after rest t same p is))) d at

-- ---- lists of which no line says that one is empty

-- a draft in which these lists have been said, except empty ones at their end
record AreSaid {A : Type 0} (S : Stage → Type 0) (held : List (List A) → Stage → DraftValue) (before : List (List A)) (d : DraftValue) : Type 0 where
  pub full : List (List A)
  pub empty : ℕ
  pub all : before ≡ full ++ replicate empty []
  pub at : IsHeld S (held full) d

not_full : {A : Type 0} (xs : List (List A)) (k : ℕ) → EndsFull (xs ++ replicate (suc k) []) → ⊥
not_full [] zero full = omega arith
not_full [] (suc k) full = not_full [] k full
not_full (x ∷ []) k full = not_full [] k full
not_full (x ∷ y ∷ ys) k full = not_full (y ∷ ys) k full

all_said : {A : Type 0} (xs : List (List A)) (k : ℕ) → EndsFull (xs ++ replicate k []) → xs ++ replicate k [] ≡ xs
all_said xs zero full = append-nil xs
all_said xs (suc k) full = absurd (not_full xs k full)

pub each_full : {A : Type 0} (P : ℕ → List A → Type 0) (S : Stage → Type 0) (held : List (List A) → Stage → DraftValue)
    (lines : ℕ → List A → List LineOfWords) (all : List (List A)) → ((j : ℕ) → lines j [] ≡ [])
    → ((full : List (List A)) (k : ℕ) (x : A) (xs : List A) (s : Stage) → length full + k < length all → P (length full + k) (x ∷ xs) → S s
    → LeadsTo (IsHeld S (held (full ++ replicate k [] ++ (x ∷ xs) ∷ []))) (held full s) (lines (length full + k) (x ∷ xs)))
    → (s : Stage) → S s → EndsFull all → AllAt P 0 all → LeadsTo (IsHeld S (held all)) (held [] s) (lines_at lines 0 all)
each_full {A = A} P S held lines all none one s stands full fits =
    let last = all_told P (AreSaid S held) lines all next [] all (held [] s) refl fits
    (record { full = []; empty = 0; all = refl; at = at_stage S (held []) s stands }) in
    let ends = subst EndsFull last.holds.all full in
    let same = sym (last.holds.all ∙ all_said last.holds.full last.holds.empty ends) in
    record { end = last.end; read = last.read; holds = subst (λ xs. IsHeld S (held xs) last.end) same last.holds.at }
  where
    next : (before : List (List A)) (x : List A) (after : List (List A)) (d : DraftValue) → before ++ x ∷ after ≡ all → P (length before) x
        → AreSaid S held before d → LeadsTo (AreSaid S held (before ++ x ∷ [])) d (lines (length before) x)
    next before [] after d same p said = subst (LeadsTo (AreSaid S held (before ++ [] ∷ [])) d) (sym (none (length before)))
        (no_line (AreSaid S held (before ++ [] ∷ [])) d (record {
          full = said.full;
          empty = said.empty + 1;
          all = ap (λ xs. xs ++ [] ∷ []) said.all ∙ append_assoc said.full (replicate said.empty []) ([] ∷ [])
              ∙ ap (λ xs. said.full ++ xs) (replicate_more said.empty []);
          at = said.at;
        }))
    next before (x ∷ xs) after d same p said =
        let place : length before ≡ length said.full + said.empty = omega (
          arith,
          ap length said.all,
          length-append said.full (replicate said.empty []),
          length-replicate {A = List A} said.empty [],
        ) in
        let longer : length said.full + said.empty < length all = omega (arith, ap length same, length-append before ((x ∷ xs) ∷ after)) in
        let new = said.full ++ replicate said.empty [] ++ (x ∷ xs) ∷ [] in
        let line : LeadsTo (IsHeld S (held new)) d (lines (length said.full + said.empty) (x ∷ xs)) =
        from_held S (held said.full) (IsHeld S (held new)) (lines (length said.full + said.empty) (x ∷ xs))
        (λ t is. one said.full said.empty x xs t longer (subst (λ j. P j (x ∷ xs)) place p) is) d said.at in
        subst (λ j. LeadsTo (AreSaid S held (before ++ (x ∷ xs) ∷ [])) d (lines j (x ∷ xs))) (sym place) (record {
          end = line.end;
          read = line.read;
          holds = record {
            full = new;
            empty = 0;
            all = ap (λ ys. ys ++ (x ∷ xs) ∷ []) said.all ∙ sym (append-nil new);
            at = line.holds;
          };
        })
