-- That the first violation of a run is none exactly where the run keeps what a ring must.
use Rattle.std.proofs.Common.{ℕ, zero, suc, ◌+◌, ◌<◌, ◌≤◌, ◌≡◌, ◌≢◌, ◌==◌, ◌⊎◌, inl, inr, Bool, true, false, ◌||◌, if◌then◌else◌, List, [], ◌∷◌, ◌++◌, length}
use Rattle.std.proofs.Common.{take, Option, Some, None, refl, sym, ◌∙◌, ap, subst, arith, append_assoc, append-nil, length-append}
use Rattle.std.specs.Prelude.{◌↔◌}
use Rattle.std.specs.List.{slice_get, slice_index_or}
use Rattle.std.proofs.lemmas.Bool.Decides.{nat_tests}
use Rattle.std.proofs.lemmas.Option.{slice_get_within}
use Rattle.std.proofs.lemmas.List.{take-append-le}
use Rattle.std.proofs.Math.Seq.{take-append_seam}
use Rattle.hart.specs.declared.need.Report.{Report}
use Rattle.hart.specs.declared.need.Report.TheVariants as report
use Rattle.step_machine.specs.declared.events.Entry.{Entry}
use Rattle.step_machine.specs.declared.events.Entry.TheVariants as entry
use Rattle.step_machine.specs.Entries.{report_of, reported}
use Rattle.step_machine.proofs.Appended.{reported-last}
use Rattle.poll_close.specs.Layout.{block_size, Layout, base_of, StaysWithin, Touches}
use Rattle.poll_close.specs.{taken, sender_of, IsPrefixOf, Clean, is_closed, GoesOn, word_violation, took_violation, closed_violation, report_violation}
use Rattle.poll_close.specs.{stays_within, violation_of, or_later, violation_after, first_violation, IsKept, Violation}
use Rattle.poll_close.specs.Violations.{is_within}
use Rattle.poll_close.proofs.CleanReports.{get_front, taken-append, taken-took, taken-closed, clean_more, taken-other, nothing_left, clean-none}
use Rattle.poll_close.proofs.Planning.{closed_at}
use Rattle.poll_close.proofs.Windows.{get_end, each_more}

-- ---- blocks

is_within-yes : (l : Layout) (h a width block : ℕ) → is_within l h a width block ≡ true
    → ((h ≡ 0) ⊎ (h ≡ block + 1)) × (base_of l block ≤ a) × (a + width ≤ base_of l block + block_size l.size)
is_within-yes l h a width block pass = grind (arith, nat_tests)

pub yes-is_within : (l : Layout) (h a width block : ℕ) → (h ≡ 0) ⊎ (h ≡ block + 1) → base_of l block ≤ a
    → a + width ≤ base_of l block + block_size l.size → is_within l h a width block ≡ true
yes-is_within l h a width block (inl own) from below = grind (arith, nat_tests)
yes-is_within l h a width block (inr own) from below = grind (arith, nat_tests)

stays_one : (l : Layout) (n h a width : ℕ) (b : Bool) → is_within l h a width n ≡ b → (b || stays_within l n h a width) ≡ true
    → (stays_within l n h a width ≡ true → StaysWithin l n h a width) → StaysWithin l (suc n) h a width
stays_one l n h a width true here pass later =
    let parts = is_within-yes l h a width n here in
    record { block = n; known = omega arith; own = parts.0; from = parts.1; below = parts.2 }
stays_one l n h a width false other pass later =
    let before = later pass in
    record { block = before.block; known = omega (arith, before.known); own = before.own; from = before.from; below = before.below }

pub stays-yes : (l : Layout) (n h a width : ℕ) → stays_within l n h a width ≡ true → StaysWithin l n h a width
stays-yes l zero h a width pass = cc
stays-yes l (suc n) h a width pass = stays_one l n h a width (is_within l h a width n) refl pass (stays-yes l n h a width)

pub stays_more : (l : Layout) (n h a width block : ℕ) → block < n → is_within l h a width block ≡ true → stays_within l n h a width ≡ true
stays_more l zero h a width block known here = absurd (omega arith)
stays_more l (suc n) h a width block known here = grind (arith, nat_tests, stays_more l n h a width block)

pub yes-stays : (l : Layout) (n h a width : ℕ) → StaysWithin l n h a width → stays_within l n h a width ≡ true
yes-stays l n h a width stays =
    stays_more l n h a width stays.block stays.known (yes-is_within l h a width stays.block stays.own stays.from stays.below)

-- ---- reports

took-none : (list gone : List ℕ) (closed : Bool) (i w : ℕ) → took_violation list gone closed i w ≡ None
    → (closed ≡ false) × (slice_get list (length gone) ≡ Some w)
took-none list gone true i w none = cc
took-none list gone false i w none = (refl, at (slice_get list (length gone)) refl none)
  where
    at : (next : Option ℕ) → slice_get list (length gone) ≡ next → word_violation i w next ≡ None → slice_get list (length gone) ≡ Some w
    at None is none = cc
    at (Some next) is none = grind (arith, nat_tests)

none-took : (list gone : List ℕ) (closed : Bool) (i w : ℕ) → closed ≡ false → slice_get list (length gone) ≡ Some w
    → took_violation list gone closed i w ≡ None
none-took list gone closed i w unclosed next = grind (arith, nat_tests)

closed-none : (list gone : List ℕ) (closed : Bool) (i : ℕ) → closed_violation list gone closed i ≡ None
    → (closed ≡ false) × (length list ≤ length gone)
closed-none list gone true i none = cc
closed-none list gone false i none = grind (arith, nat_tests)

none-closed : (list gone : List ℕ) (closed : Bool) (i : ℕ) → closed ≡ false → length list ≤ length gone
    → closed_violation list gone closed i ≡ None
none-closed list gone closed i unclosed all = grind (arith, nat_tests)

-- a report of a sender, and that it isn't closed yet
closed_is : (rs : List Report) (i k : ℕ) → slice_get rs k ≡ Some (report.Closed i) → is_closed rs i ≡ true
closed_is [] i k is = cc
closed_is (report.Took j w ∷ rs) i zero is = cc
closed_is (report.Took j w ∷ rs) i (suc k) is = closed_is rs i k is
closed_is (report.Closed j ∷ rs) i zero is = let same : j ≡ i = cc in grind (arith, nat_tests)
closed_is (report.Closed j ∷ rs) i (suc k) is = grind (arith, nat_tests, closed_is rs i k)

unclosed : (rs : List Report) (i : ℕ) → is_closed rs i ≡ false → (k : ℕ) → slice_get rs k ≡ Some (report.Closed i) → ⊥
unclosed rs i none k is = let pass = closed_is rs i k is in cc

still_open : (rs : List Report) (i : ℕ) → ((k : ℕ) → slice_get rs k ≡ Some (report.Closed i) → ⊥) → is_closed rs i ≡ false
still_open rs i none = at (is_closed rs i) refl
  where
    at : (b : Bool) → is_closed rs i ≡ b → is_closed rs i ≡ false
    at false is = is
    at true is = let found = closed_at rs i is in absurd (none found.0 found.1)

-- a prefix goes on with the next word
prefix_next : (xs list : List ℕ) (w : ℕ) → IsPrefixOf xs list → slice_get list (length xs) ≡ Some w → IsPrefixOf (xs ++ w ∷ []) list
prefix_next [] [] w prefix is = cc
prefix_next [] (v ∷ list) w prefix is = (list, (let same : v ≡ w = cc in ap (λ z. z ∷ list) (sym same)))
prefix_next (x ∷ xs) [] w prefix is = cc
prefix_next (x ∷ xs) (v ∷ list) w prefix is =
    let same : x ≡ v = cc in
    let later = prefix_next xs list w (prefix.0, (let rest : xs ++ prefix.0 ≡ list = cc in rest)) is in
    (later.0, (let whole : xs ++ w ∷ [] ++ later.0 ≡ list = later.1 in cc))

next_of_prefix : (xs list : List ℕ) (w : ℕ) → IsPrefixOf (xs ++ w ∷ []) list → slice_get list (length xs) ≡ Some w
next_of_prefix xs list w prefix =
    let front : list ≡ xs ++ (w ∷ [] ++ prefix.0) = sym prefix.1 ∙ append_assoc xs (w ∷ []) prefix.0 in
    ap (λ ys. slice_get ys (length xs)) front ∙ at xs w prefix.0
  where
    at : (ys : List ℕ) (v : ℕ) (rest : List ℕ) → slice_get (ys ++ (v ∷ [] ++ rest)) (length ys) ≡ Some v
    at [] v rest = refl
    at (y ∷ ys) v rest = at ys v rest

prefix_whole : (xs list : List ℕ) → IsPrefixOf xs list → length list ≤ length xs → xs ≡ list
prefix_whole xs list prefix all =
    let sum : length xs + length prefix.0 ≡ length list = sym (length-append xs prefix.0) ∙ ap length prefix.1 in
    let none : prefix.0 ≡ [] = nothing_left prefix.0 (omega arith) in
    sym (append-nil xs) ∙ ap (λ ys. xs ++ ys) (sym none) ∙ prefix.1

own_took : (rs : List Report) (i w : ℕ) → taken (rs ++ report.Took i w ∷ []) i ≡ taken rs i ++ w ∷ []
own_took rs i w = grind (arith, taken-took, nat_tests)

known_took : (lists : List (List ℕ)) (rs : List Report) (i w : ℕ) → report_violation lists rs (report.Took i w) ≡ None
    → (i < length lists) × (took_violation (slice_index_or lists i []) (taken rs i) (is_closed rs i) i w ≡ None)
known_took lists rs i w none = grind (arith, nat_tests)

known_closed : (lists : List (List ℕ)) (rs : List Report) (i : ℕ) → report_violation lists rs (report.Closed i) ≡ None
    → (i < length lists) × (closed_violation (slice_index_or lists i []) (taken rs i) (is_closed rs i) i ≡ None)
known_closed lists rs i none = grind (arith, nat_tests)

took_known : (lists : List (List ℕ)) (rs : List Report) (i w : ℕ) → i < length lists
    → took_violation (slice_index_or lists i []) (taken rs i) (is_closed rs i) i w ≡ None → report_violation lists rs (report.Took i w) ≡ None
took_known lists rs i w known none = grind (arith, nat_tests)

closed_known : (lists : List (List ℕ)) (rs : List Report) (i : ℕ) → i < length lists
    → closed_violation (slice_index_or lists i []) (taken rs i) (is_closed rs i) i ≡ None → report_violation lists rs (report.Closed i) ≡ None
closed_known lists rs i known none = grind (arith, nat_tests)

-- a report that breaks nothing keeps reports clean
pub clean_next : (lists : List (List ℕ)) (rs : List Report) (r : Report) → Clean rs lists → report_violation lists rs r ≡ None → Clean (rs ++ r ∷ []) lists
clean_next lists rs (report.Took i w) clean none =
    let known = known_took lists rs i w none in
    let next = took-none (slice_index_or lists i []) (taken rs i) (is_closed rs i) i w known.1 in
    clean_more rs lists (report.Took i w) clean known.0 (unclosed rs i next.0) (prefixes next.1) (λ j same. cc)
  where
    prefixes : slice_get (slice_index_or lists i []) (length (taken rs i)) ≡ Some w → (j : ℕ) → IsPrefixOf (taken (rs ++ report.Took i w ∷ []) j)
        (slice_index_or lists j [])
    prefixes next j = at (i == j) refl
      where
        at : (b : Bool) → (i == j) ≡ b → IsPrefixOf (taken (rs ++ report.Took i w ∷ []) j) (slice_index_or lists j [])
        at true same =
            let one : i ≡ j = grind (arith, nat_tests) in
            subst (λ (k : ℕ). IsPrefixOf (taken (rs ++ report.Took i w ∷ []) k) (slice_index_or lists k [])) one
            (subst (λ (ys : List ℕ). IsPrefixOf ys (slice_index_or lists i [])) (sym (own_took rs i w)) (prefix_next (taken rs i)
            (slice_index_or lists i []) w (clean.in_order i) next))
        at false other =
            let differ : i ≢ j = grind (arith, nat_tests) in
            subst (λ (ys : List ℕ). IsPrefixOf ys (slice_index_or lists j [])) (sym (taken-other rs j (report.Took i w) differ)) (clean.in_order j)
clean_next lists rs (report.Closed i) clean none =
    let known = known_closed lists rs i none in
    let ended = closed-none (slice_index_or lists i []) (taken rs i) (is_closed rs i) i known.1 in
    clean_more rs lists (report.Closed i) clean known.0 (unclosed rs i ended.0)
    (λ j. subst (λ (ys : List ℕ). IsPrefixOf ys (slice_index_or lists j [])) (sym (taken-closed rs i j)) (clean.in_order j))
    (whole ended.1)
  where
    whole : length (slice_index_or lists i []) ≤ length (taken rs i) → (j : ℕ) → report.Closed i ≡ report.Closed j → taken rs j ≡ slice_index_or lists j []
    whole all j same =
        let one : i ≡ j = cc in
        subst (λ (k : ℕ). taken rs k ≡ slice_index_or lists k []) one (prefix_whole (taken rs i) (slice_index_or lists i []) (clean.in_order i) all)

-- before the last report of clean ones
not_closed : (lists : List (List ℕ)) (rs : List Report) (r : Report) → Clean (rs ++ r ∷ []) lists → (k : ℕ) → slice_get rs k ≡ Some (report.Closed
    (sender_of r)) → ⊥
not_closed lists rs r clean k is =
    clean.no_more (sender_of r) k (length rs) r (slice_get_within rs k (report.Closed (sender_of r)) is)
    (get_front rs (r ∷ []) k (report.Closed (sender_of r)) is) (get_end rs r) refl

last_known : (lists : List (List ℕ)) (rs : List Report) (r : Report) → Clean (rs ++ r ∷ []) lists → sender_of r < length lists
last_known lists rs r clean = clean.known (length rs) r (get_end rs r)

pub next_clean : (lists : List (List ℕ)) (rs : List Report) (r : Report) → Clean (rs ++ r ∷ []) lists → report_violation lists rs r ≡ None
next_clean lists rs (report.Took i w) clean =
    took_known lists rs i w (last_known lists rs (report.Took i w) clean)
    (none-took (slice_index_or lists i []) (taken rs i) (is_closed rs i) i w (still_open rs i (not_closed lists rs (report.Took i w) clean))
    (next_of_prefix (taken rs i) (slice_index_or lists i []) w
    (subst (λ (ys : List ℕ). IsPrefixOf ys (slice_index_or lists i [])) (own_took rs i w) (clean.in_order i))))
next_clean lists rs (report.Closed i) clean =
    let front : take (length rs) (rs ++ report.Closed i ∷ []) ≡ rs = take-append_seam rs (report.Closed i ∷ []) in
    let all : taken rs i ≡ slice_index_or lists i [] =
    ap (λ ys. taken ys i) (sym front) ∙ clean.whole i (length rs) (get_end rs (report.Closed i)) in
    let long : length (taken rs i) ≡ length (slice_index_or lists i []) = ap length all in
    closed_known lists rs i (last_known lists rs (report.Closed i) clean)
    (none-closed (slice_index_or lists i []) (taken rs i) (is_closed rs i) i (still_open rs i (not_closed lists rs (report.Closed i) clean)) (omega arith))

pub clean_front : (lists : List (List ℕ)) (rs : List Report) (r : Report) → Clean (rs ++ r ∷ []) lists → Clean rs lists
clean_front lists rs r clean = record {
  in_order = λ i. shorter (taken rs i) (taken (r ∷ []) i) (slice_index_or lists i [])
      (subst (λ (ys : List ℕ). IsPrefixOf ys (slice_index_or lists i [])) (taken-append rs (r ∷ []) i) (clean.in_order i));
  whole = λ i k is.
      let within : k < length rs = slice_get_within rs k (report.Closed i) is in
      ap (λ ys. taken ys i) (sym (take-append-le k rs (r ∷ []) (omega arith))) ∙ clean.whole i k (get_front rs (r ∷ []) k (report.Closed i) is);
  no_more = λ i j k s before first second.
      clean.no_more i j k s before (get_front rs (r ∷ []) j (report.Closed i) first) (get_front rs (r ∷ []) k s second);
  known = λ k s is. clean.known k s (get_front rs (r ∷ []) k s is);
}
  where
    shorter : (xs ys list : List ℕ) → IsPrefixOf (xs ++ ys) list → IsPrefixOf xs list
    shorter xs ys list prefix = (ys ++ prefix.0, sym (append_assoc xs ys prefix.0) ∙ prefix.1)

-- ---- entries

get_before : (es : List Entry) (e : Entry) (k : ℕ) (d : Entry) → slice_get es k ≡ Some d → slice_get (es ++ e ∷ []) k ≡ Some d
get_before [] e k d is = cc
get_before (x ∷ es) e zero d is = is
get_before (x ∷ es) e (suc k) d is = get_before es e k d is

-- what an entry breaks by its reports, and by all else
record Keeps (l : Layout) (lists : List (List ℕ)) (es : List Entry) (e : Entry) : Type 0 where
  pub clean : Clean (reported 0 es) lists → Clean (reported 0 (es ++ e ∷ [])) lists
  pub goes : GoesOn e
  pub touches : Touches l (length lists) e

quiet : (lists : List (List ℕ)) (es : List Entry) (e : Entry) → report_of 0 e ≡ [] → reported 0 (es ++ e ∷ []) ≡ reported 0 es
quiet lists es e none = reported-last 0 es e ∙ ap (λ rs. reported 0 es ++ rs) none ∙ append-nil (reported 0 es)

keeps_quiet : (l : Layout) (lists : List (List ℕ)) (es : List Entry) (e : Entry) → report_of 0 e ≡ [] → GoesOn e → Touches l (length lists) e
    → Keeps l lists es e
keeps_quiet l lists es e none goes touches = record {
  clean = λ clean. subst (λ (rs : List Report). Clean rs lists) (sym (quiet lists es e none)) clean;
  goes = goes;
  touches = touches;
}

keeps_report : (l : Layout) (lists : List (List ℕ)) (es : List Entry) (e : Entry) (r : Report) → report_of 0 e ≡ r ∷ [] → GoesOn e
    → Touches l (length lists) e → report_violation lists (reported 0 es) r ≡ None → Keeps l lists es e
keeps_report l lists es e r one goes touches none = record {
  clean = λ clean. subst (λ (rs : List Report). Clean rs lists) (sym (reported-last 0 es e ∙ ap (λ rs. reported 0 es ++ rs) one))
      (clean_next lists (reported 0 es) r clean none);
  goes = goes;
  touches = touches;
}

stays_none : (l : Layout) (n h a width : ℕ) (b : Bool) (found : Violation) → stays_within l n h a width ≡ b
    → (if b then None else Some found) ≡ None → StaysWithin l n h a width
stays_none l n h a width true found is none = stays-yes l n h a width is
stays_none l n h a width false found is none = cc

keeps_took : (l : Layout) (lists : List (List ℕ)) (es : List Entry) (h i w : ℕ) (b : Bool) → (h == 0) ≡ b
    → (if b then report_violation lists (reported 0 es) (report.Took i w) else None) ≡ None → Keeps l lists es (entry.Took h i w)
keeps_took l lists es h i w true mine none =
    keeps_report l lists es (entry.Took h i w) (report.Took i w) (ap (λ b. if b then report.Took i w ∷ [] else []) mine) tt tt none
keeps_took l lists es h i w false other none =
    keeps_quiet l lists es (entry.Took h i w) (ap (λ b. if b then report.Took i w ∷ [] else []) other) tt tt

keeps_closed : (l : Layout) (lists : List (List ℕ)) (es : List Entry) (h i : ℕ) (b : Bool) → (h == 0) ≡ b
    → (if b then report_violation lists (reported 0 es) (report.Closed i) else None) ≡ None → Keeps l lists es (entry.Closed h i)
keeps_closed l lists es h i true mine none =
    keeps_report l lists es (entry.Closed h i) (report.Closed i) (ap (λ b. if b then report.Closed i ∷ [] else []) mine) tt tt none
keeps_closed l lists es h i false other none =
    keeps_quiet l lists es (entry.Closed h i) (ap (λ b. if b then report.Closed i ∷ [] else []) other) tt tt

keeps : (l : Layout) (lists : List (List ℕ)) (es : List Entry) (e : Entry) → violation_of l lists es e ≡ None → Keeps l lists es e
keeps l lists es (entry.Took h i w) none = keeps_took l lists es h i w (h == 0) refl none
keeps l lists es (entry.Closed h i) none = keeps_closed l lists es h i (h == 0) refl none
keeps l lists es (entry.Stopped h why) none = cc
keeps l lists es (entry.Load h a width v) none =
    keeps_quiet l lists es (entry.Load h a width v) refl tt (stays_none l (length lists) h a width (stays_within l (length lists) h a width) _ refl none)
keeps l lists es (entry.Store h a width v) none =
    keeps_quiet l lists es (entry.Store h a width v) refl tt (stays_none l (length lists) h a width (stays_within l (length lists) h a width) _ refl none)
keeps l lists es (entry.Amo h a old new) none =
    keeps_quiet l lists es (entry.Amo h a old new) refl tt (stays_none l (length lists) h a 4 (stays_within l (length lists) h a 4) _ refl none)
keeps l lists es (entry.Inner h) none = keeps_quiet l lists es (entry.Inner h) refl tt tt
keeps l lists es (entry.Fence h full) none = keeps_quiet l lists es (entry.Fence h full) refl tt tt
keeps l lists es (entry.Next h w) none = keeps_quiet l lists es (entry.Next h w) refl tt tt
keeps l lists es (entry.Ended h) none = keeps_quiet l lists es (entry.Ended h) refl tt tt
keeps l lists es (entry.Land h) none = keeps_quiet l lists es (entry.Land h) refl tt tt

pub kept_more : (l : Layout) (lists : List (List ℕ)) (es : List Entry) (e : Entry) → IsKept l lists es → violation_of l lists es e ≡ None
    → IsKept l lists (es ++ e ∷ [])
kept_more l lists es e kept none = let more = keeps l lists es e none in record {
  clean = more.clean kept.clean;
  goes = each_more GoesOn es e kept.goes more.goes;
  touches = each_more (Touches l (length lists)) es e kept.touches more.touches;
}

clean_before : (lists : List (List ℕ)) (es : List Entry) (rs qs : List Report) → qs ≡ reported 0 es ++ rs → Clean qs lists
    → length rs ≤ 1 → Clean (reported 0 es) lists
clean_before lists es [] qs is clean few = subst (λ (ps : List Report). Clean ps lists) (is ∙ append-nil (reported 0 es)) clean
clean_before lists es (r ∷ []) qs is clean few = clean_front lists (reported 0 es) r (subst (λ (ps : List Report). Clean ps lists) is clean)
clean_before lists es (r ∷ s ∷ rs) qs is clean few = absurd (omega arith)

few_reports : (e : Entry) → length (report_of 0 e) ≤ 1
few_reports (entry.Took h i w) = grind (arith, nat_tests)
few_reports (entry.Closed h i) = grind (arith, nat_tests)
few_reports (entry.Stopped h why) = omega arith
few_reports (entry.Load h a width v) = omega arith
few_reports (entry.Store h a width v) = omega arith
few_reports (entry.Amo h a old new) = omega arith
few_reports (entry.Inner h) = omega arith
few_reports (entry.Fence h full) = omega arith
few_reports (entry.Next h w) = omega arith
few_reports (entry.Ended h) = omega arith
few_reports (entry.Land h) = omega arith

pub kept_before : (l : Layout) (lists : List (List ℕ)) (es : List Entry) (e : Entry) → IsKept l lists (es ++ e ∷ []) → IsKept l lists es
kept_before l lists es e kept = record {
  clean = clean_before lists es (report_of 0 e) (reported 0 (es ++ e ∷ [])) (reported-last 0 es e) kept.clean (few_reports e);
  goes = λ j d is. kept.goes j d (get_before es e j d is);
  touches = λ j d is. kept.touches j d (get_before es e j d is);
}

stays_by : (b : Bool) (found : Violation) → b ≡ true → (if b then None else Some found) ≡ None
stays_by b found pass = ap (λ (c : Bool). if c then None else Some found) pass

last_took : (lists : List (List ℕ)) (es : List Entry) (h i w : ℕ) (b : Bool) → (h == 0) ≡ b → Clean (reported 0 (es ++ entry.Took h i w ∷ [])) lists
    → (if b then report_violation lists (reported 0 es) (report.Took i w) else None) ≡ None
last_took lists es h i w false other clean = refl
last_took lists es h i w true mine clean =
    next_clean lists (reported 0 es) (report.Took i w)
    (subst (λ (rs : List Report). Clean rs lists)
    (reported-last 0 es (entry.Took h i w) ∙ ap (λ rs. reported 0 es ++ rs) (ap (λ c. if c then report.Took i w ∷ [] else []) mine)) clean)

last_closed : (lists : List (List ℕ)) (es : List Entry) (h i : ℕ) (b : Bool) → (h == 0) ≡ b → Clean (reported 0 (es ++ entry.Closed h i ∷ [])) lists
    → (if b then report_violation lists (reported 0 es) (report.Closed i) else None) ≡ None
last_closed lists es h i false other clean = refl
last_closed lists es h i true mine clean =
    next_clean lists (reported 0 es) (report.Closed i)
    (subst (λ (rs : List Report). Clean rs lists)
    (reported-last 0 es (entry.Closed h i) ∙ ap (λ rs. reported 0 es ++ rs) (ap (λ c. if c then report.Closed i ∷ [] else []) mine)) clean)

pub last_kept : (l : Layout) (lists : List (List ℕ)) (es : List Entry) (e : Entry) → IsKept l lists (es ++ e ∷ []) → violation_of l lists es e ≡ None
last_kept l lists es (entry.Took h i w) kept = last_took lists es h i w (h == 0) refl kept.clean
last_kept l lists es (entry.Closed h i) kept = last_closed lists es h i (h == 0) refl kept.clean
last_kept l lists es (entry.Stopped h why) kept = absurd (kept.goes (length es) (entry.Stopped h why) (get_end es (entry.Stopped h why)))
last_kept l lists es (entry.Load h a width v) kept =
    stays_by (stays_within l (length lists) h a width) _
    (yes-stays l (length lists) h a width (kept.touches (length es) (entry.Load h a width v) (get_end es (entry.Load h a width v))))
last_kept l lists es (entry.Store h a width v) kept =
    stays_by (stays_within l (length lists) h a width) _
    (yes-stays l (length lists) h a width (kept.touches (length es) (entry.Store h a width v) (get_end es (entry.Store h a width v))))
last_kept l lists es (entry.Amo h a old new) kept =
    stays_by (stays_within l (length lists) h a 4) _
    (yes-stays l (length lists) h a 4 (kept.touches (length es) (entry.Amo h a old new) (get_end es (entry.Amo h a old new))))
last_kept l lists es (entry.Inner h) kept = refl
last_kept l lists es (entry.Fence h full) kept = refl
last_kept l lists es (entry.Next h w) kept = refl
last_kept l lists es (entry.Ended h) kept = refl
last_kept l lists es (entry.Land h) kept = refl

pub kept_none : (l : Layout) (lists : List (List ℕ)) → IsKept l lists []
kept_none l lists = record { clean = clean-none lists; goes = λ j d is. cc; touches = λ j d is. cc }

-- ---- lists of entries

after_one : (l : Layout) (lists : List (List ℕ)) (before es : List Entry) (e : Entry) (found later : Option Violation)
    → violation_of l lists before e ≡ found → or_later found later ≡ None → IsKept l lists before
    → (IsKept l lists (before ++ e ∷ []) → later ≡ None → IsKept l lists ((before ++ e ∷ []) ++ es)) → IsKept l lists (before ++ e ∷ es)
after_one l lists before es e (Some found) later is none kept go = cc
after_one l lists before es e None later is none kept go =
    subst (λ (ds : List Entry). IsKept l lists ds) (append_assoc before (e ∷ []) es) (go (kept_more l lists before e kept is) none)

pub kept_after : (l : Layout) (lists : List (List ℕ)) (before es : List Entry) → IsKept l lists before → violation_after l lists before es ≡ None
    → IsKept l lists (before ++ es)
kept_after l lists before [] kept none = subst (λ (ds : List Entry). IsKept l lists ds) (sym (append-nil before)) kept
kept_after l lists before (e ∷ es) kept none =
    after_one l lists before es e (violation_of l lists before e) (violation_after l lists (before ++ e ∷ []) es) refl none kept
    (kept_after l lists (before ++ e ∷ []) es)

pub none_after : (l : Layout) (lists : List (List ℕ)) (before es : List Entry) → IsKept l lists (before ++ es)
    → IsKept l lists before × (violation_after l lists before es ≡ None)
none_after l lists before [] kept = (subst (λ (ds : List Entry). IsKept l lists ds) (append-nil before) kept, refl)
none_after l lists before (e ∷ es) kept =
    let later = none_after l lists (before ++ e ∷ []) es (subst (λ (ds : List Entry). IsKept l lists ds) (sym (append_assoc before (e ∷ []) es)) kept) in (
      kept_before l lists before e later.0,
      ap (λ found. or_later found (violation_after l lists (before ++ e ∷ []) es)) (last_kept l lists before e later.0) ∙ later.1,
    )

pub first_law : (l : Layout) (lists : List (List ℕ)) (es : List Entry) → (first_violation l lists es ≡ None) ↔ IsKept l lists es
first_law l lists es = (λ none. kept_after l lists [] es (kept_none l lists) none, λ kept. (none_after l lists [] es kept).1)
