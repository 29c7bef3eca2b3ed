-- What is noted of senders, report by report.
use Rattle.std.proofs.Common.{ℕ, ◌+◌, ◌<◌, ◌≤◌, ◌≡◌, ◌≢◌, ◌==◌, ◌||◌, Bool, true, false, List, [], ◌∷◌, ◌++◌, length, get_or, Some, None, refl, sym, ◌∙◌, ap}
use Rattle.std.proofs.Common.{subst, arith, append_assoc, append-nil, length-append, take, drop, set, drop_of_length-le}
use Rattle.std.specs.Prelude.{◌↔◌, IsTrue, if◌then◌else◌}
use Rattle.std.specs.List.{slice_get}
use Rattle.std.proofs.lemmas.Bool.Decides.{nat_tests}
use Rattle.std.proofs.lemmas.Option.{slice_get_within, slice_get-get_or, get_or_from_slice_get}
use Rattle.std.proofs.lemmas.List.{take-append-drop, take_more}
use Rattle.std.proofs.Math.Seq.{take-length}
use Rattle.hart.specs.declared.need.Report.{Report}
use Rattle.hart.specs.declared.need.Report.TheVariants as report
use Rattle.step_machine.specs.declared.events.Entry.{Entry}
use Rattle.step_machine.specs.Entries.{report_of, reported}
use Rattle.step_machine.proofs.{reported-last, slice_get-set_same, slice_get-set_other}
use Rattle.poll_close.specs.Layout.{block_size, Layout, base_of}
use Rattle.poll_close.specs.{taken, Clean, is_closed, Violation, Share}
use Rattle.poll_close.specs.Violations.{AreNotes, IsNoted, report_violation, is_within}
use Rattle.poll_close.proofs.CleanReports.{taken-took, taken-closed, clean-none}
use Rattle.poll_close.proofs.ViolationLaws.{clean_front, next_clean, clean_next}

is_closed-took : (rs : List Report) (j w i : ℕ) → is_closed (rs ++ report.Took j w ∷ []) i ≡ is_closed rs i
is_closed-took [] j w i = refl
is_closed-took (report.Took k v ∷ rs) j w i = is_closed-took rs j w i
is_closed-took (report.Closed k ∷ rs) j w i = grind (arith, is_closed-took rs j w i)

is_closed-other : (rs : List Report) (j i : ℕ) → j ≢ i → is_closed (rs ++ report.Closed j ∷ []) i ≡ is_closed rs i
is_closed-other [] j i differ = grind (arith, nat_tests)
is_closed-other (report.Took k v ∷ rs) j i differ = is_closed-other rs j i differ
is_closed-other (report.Closed k ∷ rs) j i differ = grind (arith, is_closed-other rs j i)

is_closed-same : (rs : List Report) (i : ℕ) → is_closed (rs ++ report.Closed i ∷ []) i ≡ true
is_closed-same [] i = grind (arith, nat_tests)
is_closed-same (report.Took k v ∷ rs) i = is_closed-same rs i
is_closed-same (report.Closed k ∷ rs) i = grind (arith, nat_tests, is_closed-same rs i)

length-took : (rs : List Report) (j w i : ℕ) (b : Bool) → (j == i) ≡ b → length (taken (rs ++ report.Took j w ∷ []) i) ≡ (if b then length
    (taken rs i) + 1 else length (taken rs i))
length-took rs j w i true same = grind (arith, taken-took, length-append {A = ℕ})
length-took rs j w i false other = grind (arith, taken-took, append-nil {A = ℕ})

-- a word of sender i is noted
pub notes_word : (rs : List Report) (shares : List Share) (i w : ℕ) (old new : Share) → AreNotes rs shares → slice_get shares i ≡ Some old
    → new.taken ≡ old.taken + 1 → new.closed ≡ old.closed → AreNotes (rs ++ report.Took i w ∷ []) (set shares i new)
notes_word rs shares i w old new notes is more same = record { taken = counts; closed = closings }
  where
    counts : (k : ℕ) (s : Share) → slice_get (set shares i new) k ≡ Some s → s.taken ≡ length (taken (rs ++ report.Took i w ∷ []) k)
    counts k s at = grind (
      arith,
      nat_tests,
      slice_get-set_same shares i new,
      slice_get-set_other shares i k new,
      slice_get_within shares i old is,
      length-took rs i w k (i == k) refl,
      notes.taken k s,
      notes.taken i old is,
    )

    closings : (k : ℕ) (s : Share) → slice_get (set shares i new) k ≡ Some s → s.closed ≡ is_closed (rs ++ report.Took i w ∷ []) k
    closings k s at = grind (
      arith,
      nat_tests,
      slice_get-set_same shares i new,
      slice_get-set_other shares i k new,
      slice_get_within shares i old is,
      is_closed-took rs i w k,
      notes.closed k s,
      notes.closed i old is,
    )

-- and its end
pub notes_end : (rs : List Report) (shares : List Share) (i : ℕ) (old new : Share) → AreNotes rs shares → slice_get shares i ≡ Some old
    → new.taken ≡ old.taken → new.closed ≡ true → AreNotes (rs ++ report.Closed i ∷ []) (set shares i new)
notes_end rs shares i old new notes is same ends = record { taken = counts; closed = closings }
  where
    counts : (k : ℕ) (s : Share) → slice_get (set shares i new) k ≡ Some s → s.taken ≡ length (taken (rs ++ report.Closed i ∷ []) k)
    counts k s at = grind (
      arith,
      nat_tests,
      slice_get-set_same shares i new,
      slice_get-set_other shares i k new,
      slice_get_within shares i old is,
      taken-closed rs i k,
      notes.taken k s,
      notes.taken i old is,
    )

    closings : (k : ℕ) (s : Share) → slice_get (set shares i new) k ≡ Some s → s.closed ≡ is_closed (rs ++ report.Closed i ∷ []) k
    closings k s at = grind (
      arith,
      nat_tests,
      slice_get-set_same shares i new,
      slice_get-set_other shares i k new,
      slice_get_within shares i old is,
      is_closed-other rs i k,
      is_closed-same rs k,
      notes.closed k s,
      notes.closed i old is,
    )

-- what a report breaks makes all reports with it unclean
clean_start : (lists : List (List ℕ)) (rs qs : List Report) → Clean (rs ++ qs) lists → Clean rs lists
clean_start lists rs [] clean = subst (λ (ps : List Report). Clean ps lists) (append-nil rs) clean
clean_start lists rs (r ∷ qs) clean =
    clean_front lists rs r (clean_start lists (rs ++ r ∷ []) qs (subst (λ (ps : List Report). Clean ps lists) (sym (append_assoc rs (r ∷ []) qs)) clean))

pub unclean : (lists : List (List ℕ)) (rs : List Report) (n : ℕ) (r : Report) (violation : Violation) → slice_get rs n ≡ Some r
    → report_violation lists (take n rs) r ≡ Some violation → Clean rs lists → ⊥
unclean lists rs n r violation is breaks clean =
    let next : take (n + 1) rs ≡ take n rs ++ r ∷ [] =
    take_more rs n r (slice_get_within rs n r is) ∙ ap (λ x. take n rs ++ x ∷ []) (get_or_from_slice_get rs n r r is) in
    let front : Clean (take (n + 1) rs) lists =
    clean_start lists (take (n + 1) rs) (drop (n + 1) rs) (subst (λ (ps : List Report). Clean ps lists) (sym (take-append-drop (n + 1) rs)) clean) in
    let none : report_violation lists (take n rs) r ≡ None = next_clean lists (take n rs) r (subst (λ (ps : List Report). Clean ps lists) next front) in
    cc

pub noted_none : (lists : List (List ℕ)) (shares : List Share) → AreNotes [] shares → length shares ≡ length lists → IsNoted lists [] shares
noted_none lists shares notes count = record { clean = clean-none lists; notes = notes; count = count }

pub noted_more : (lists : List (List ℕ)) (rs : List Report) (r : Report) (old new : List Share) → IsNoted lists rs old
    → report_violation lists rs r ≡ None → AreNotes (rs ++ r ∷ []) new → length new ≡ length old → IsNoted lists (rs ++ r ∷ []) new
noted_more lists rs r old new noted none notes count = record {
  clean = clean_next lists rs r noted.clean none;
  notes = notes;
  count = count ∙ noted.count;
}

pub whole_new : (n : ℕ) (new old : List Share) → length new ≡ length old → n ≡ length old → take n (new ++ drop (length new) old) ≡ new
whole_new n new old same whole =
    let none : drop (length new) old ≡ [] = drop_of_length-le old (omega (arith, same)) in
    let all : new ++ drop (length new) old ≡ new = ap (λ xs. new ++ xs) none ∙ append-nil new in
    ap (take n) all ∙ ap (λ k. take k new) (whole ∙ sym same) ∙ take-length new

pub noted_at : (lists : List (List ℕ)) (reports : List Report) (n : ℕ) (r : Report) (old new next : List Share) → n < length reports
    → IsNoted lists (take n reports) old → report_violation lists (take n reports) (get_or reports n r) ≡ None
    → AreNotes (take n reports ++ get_or reports n r ∷ []) new → length new ≡ length old → next ≡ new → IsNoted lists (take (n + 1) reports) next
noted_at lists reports n r old new next within noted none notes count is =
    subst (λ (ps : List Report). IsNoted lists ps next) (sym (take_more reports n r within))
    (subst (IsNoted lists (take n reports ++ get_or reports n r ∷ [])) (sym is) (noted_more lists (take n reports)
    (get_or reports n r) old new noted none notes count))

pub unclean_found : (lists : List (List ℕ)) (reports : List Report) (n : ℕ) (r : Report) (violation : Violation) → n < length reports
    → report_violation lists (take n reports) (get_or reports n r) ≡ Some violation → IsTrue false ↔ Clean reports lists
unclean_found lists reports n r violation within breaks = (
  (λ never. cc),
  (λ clean. absurd (unclean lists reports n (get_or reports n r) violation (slice_get-get_or reports n r within) breaks clean)),
)

-- an address that is found in this block
pub within_here : (l : Layout) (h a width block : ℕ) (own : Bool) → own ≡ (h == 0 || h == block + 1) → own ≡ true → base_of l block ≤ a
    → a + width ≤ base_of l block + block_size l.size → is_within l h a width block ≡ true
within_here l h a width block own is mine from below = grind (arith, nat_tests)

-- ---- entries

-- an entry of the receiver's report
pub entry_report : (es : List Entry) (e : Entry) (r : Report) (shares : List Share) → report_of 0 e ≡ r ∷ [] → AreNotes (reported 0 es ++ r ∷ []) shares
    → AreNotes (reported 0 (es ++ e ∷ [])) shares
entry_report es e r shares one notes =
    subst (λ (rs : List Report). AreNotes rs shares) (sym (reported-last 0 es e ∙ ap (λ rs. reported 0 es ++ rs) one)) notes

-- and one without
pub entry_quiet : (es : List Entry) (e : Entry) (shares : List Share) → report_of 0 e ≡ [] → AreNotes (reported 0 es) shares
    → AreNotes (reported 0 (es ++ e ∷ [])) shares
entry_quiet es e shares none notes =
    subst (λ (rs : List Report). AreNotes rs shares) (sym (reported-last 0 es e ∙ ap (λ rs. reported 0 es ++ rs) none ∙ append-nil (reported 0 es))) notes
