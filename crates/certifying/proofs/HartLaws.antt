-- What is shown of harts, where the certificate is accepted.
use Rattle.std.proofs.Common.{arith, ◌≡◌, ◌==◌, ◌<◌, ◌≤◌, ◌+◌, ℕ, zero, suc, Bool, true, false, not, List, [], ◌∷◌, ◌++◌, length, Some, None, refl, sym, ap}
use Rattle.std.proofs.Common.{subst, ◌∙◌, eqb-true, ◌⊎◌, inl, inr}
use Rattle.std.specs.Prelude.{All, Option, is_some, nat_lt, ◌||◌}
use Rattle.std.proofs.lemmas.Bool.{and_parts, eqb-false, ltb-true, ltb-false, false≢true}
use Rattle.std.proofs.lemmas.List.Elements.{All-append, All-from_recursion, All-nil}
use Rattle.std.proofs.lemmas.List.{get_or_append_left, get_or_push, length-append}
use Rattle.hart.specs.State.{HartState}
use Rattle.hart.specs.declared.status.Stop.{Stop}
use Rattle.hart.specs.declared.status.Status.TheVariants.{Stopped}
use Rattle.step_machine.specs.declared.events.Entry.{Entry}
use Rattle.step_machine.specs.Names.{access_of, hart_of, is_land, OpeningValue, history_of, WellFormed, state_of}
use Rattle.queue_certificates.specs.Certificates.{QueueCertificate, accepts}
use Rattle.queue_certificates.proofs.States.{at-below}
use Rattle.hart_safety.specs.Ends.{first_end}
use Rattle.hart_safety.specs.Regions.{IsInNone}
use Rattle.hart_safety.specs.declared.shared.Place.{Place}
use Rattle.hart_safety.specs.Shared.{shared_of}
use Rattle.hart_safety.specs.Touched.{SparesByte, touched_of}
use Rattle.hart_safety.specs.Stops.{first_stop}
use Rattle.queue_progress.specs.Rows.{Lasts, RunsOrEnds}
use Rattle.certifying.specs.Endings.{all_endings, always_runs, endings_at, endings_below, endings_in, endings_of, never_stops, no_endings}
use Rattle.certifying.specs.Kept.{LineMeans, NeverStops, SharesBy, TouchesBy, TouchesOnly}
use Rattle.certifying.specs.Lines.{AnswerLine, hart_lines, harts_lines, harts_safe, is_safe, it_touches, lines_below, never_ends, stopped_at, they_share}
use Rattle.certifying.specs.Questions.{Questions}
use Rattle.certifying.specs.declared.endings.Endings.{Endings}
use Rattle.certifying.proofs.LineLaws.{all-lines}

-- what `hart_safety` promises where a certificate is accepted
pub record HartLaws : Type 0 where
  pub never_stopped : (B M : ℕ) (o : OpeningValue) (c : QueueCertificate) → accepts o c ≡ true → (h : ℕ) → first_stop M o c h ≡ None
      → (es : List Entry) → WellFormed B M (history_of o es) → (s : HartState) → state_of M (history_of o es) h ≡ Some s → (why : Stop)
      → s.status ≡ Stopped why → ⊥
  pub runs_or_ended : (B M : ℕ) (o : OpeningValue) (c : QueueCertificate) → accepts o c ≡ true → (h : ℕ) → h < length o.harts
      → first_stop M o c h ≡ None → RunsOrEnds B M o h
  pub runs : (B M : ℕ) (o : OpeningValue) (c : QueueCertificate) → accepts o c ≡ true → (h : ℕ) → h < length o.harts
      → first_stop M o c h ≡ None → first_end o c h ≡ None → Lasts B M o h
  pub touched_within : (stores : Bool) (B M : ℕ) (o : OpeningValue) (c : QueueCertificate) → accepts o c ≡ true → (es : List Entry) (e : Entry)
      → WellFormed B M (history_of o (es ++ e ∷ [])) → is_land e ≡ false → (touched_of stores o c (hart_of e)).unbounded ≡ None → (x : ℕ)
      → IsInNone x (touched_of stores o c (hart_of e)).regions → SparesByte stores x (access_of e)
  pub bounded : (o : OpeningValue) (c : QueueCertificate) → (shared_of o c).unbounded ≡ None → (stores : Bool) (h : ℕ) → h < length o.harts
      → (touched_of stores o c h).unbounded ≡ None
  pub not_shared : (o : OpeningValue) (c : QueueCertificate) (x : ℕ) → IsInNone x (shared_of o c).regions → (stores : Bool) (h j : ℕ)
      → h < length o.harts → j < length o.harts → (h ≡ j → ⊥)
      → IsInNone x (touched_of true o c h).regions ⊎ IsInNone x (touched_of stores o c j).regions

-- ---- where harts may be stopped, and where they may end

module _ (M : ℕ) (o : OpeningValue) (c : QueueCertificate) where
  all-below : (n : ℕ) → length (endings_below M o c n) ≡ n
  all-below zero = refl
  all-below (suc n) =
      let before : length (endings_below M o c n) ≡ n = all-below n in
      let one : length (endings_below M o c (suc n)) ≡ length (endings_below M o c n) + 1 =
      length-append (endings_below M o c n) (endings_of M o c n ∷ []) in
      omega (arith, before, one)

  -- of a hart that is one of them
  found-next : (n h : ℕ) → h < suc n → (h < n → endings_at (endings_below M o c n) h ≡ endings_of M o c h) → (last : Bool) → (h == n) ≡ last
      → endings_at (endings_below M o c (suc n)) h ≡ endings_of M o c h
  found-next n h less before true is = let same : h ≡ n = eqb-true h n is in
      subst (λ (k : ℕ). endings_at (endings_below M o c (suc n)) k ≡ endings_of M o c k) (sym same)
      (get_or_push (endings_below M o c n) (endings_of M o c n) no_endings n (all-below n))
  found-next n h less before false is =
      let under : h < n = omega (arith, less, eqb-false h n is) in
      get_or_append_left (endings_below M o c n) (endings_of M o c n ∷ []) no_endings h (subst (λ (k : ℕ). h < k) (sym (all-below n)) under)
      ∙ before under

  found-at : (n h : ℕ) → h < n → endings_at (endings_below M o c n) h ≡ endings_of M o c h
  found-at zero h less = absurd (omega (arith, less))
  found-at (suc n) h less = found-next n h less (found-at n h) (h == n) refl

  -- of another nothing is shown
  none-at : (xs : List Endings) (h : ℕ) → length xs ≤ h → endings_at xs h ≡ no_endings
  none-at [] h past = refl
  none-at (e ∷ xs) zero past = absurd (omega (arith, past))
  none-at (e ∷ xs) (suc h) past = none-at xs h (omega (arith, past))

  -- so one of which something is shown is one of them
  abbrev IsListed : (h : ℕ) → Type 0
  IsListed h = (h < length o.harts) × (endings_in M o c h ≡ endings_of M o c h)

  listed : (h : ℕ) → never_stops (endings_in M o c h) ≡ true → IsListed h
  listed h stops = by (nat_lt h (length o.harts)) refl
    where
      by : (inside : Bool) → nat_lt h (length o.harts) ≡ inside → IsListed h
      by true is = let less = ltb-true h (length o.harts) is in (less, found-at (length o.harts) h less)
      by false is =
          let past : length (endings_below M o c (length o.harts)) ≤ h = omega (arith, all-below (length o.harts), ltb-false h (length o.harts) is) in
          absurd (false≢true (sym (ap never_stops (none-at (endings_below M o c (length o.harts)) h past)) ∙ stops))

-- ---- what is promised

module _ (o : OpeningValue) (c : QueueCertificate) (laws : HartLaws) (accepted : accepts o c ≡ true) where
  nothing-there : {A : Type 0} (x : Option A) → not (is_some x) ≡ true → x ≡ None
  nothing-there None is = refl
  nothing-there (Some a) is = absurd (cc)

  no-other : (ends : List Endings) (h : ℕ) → is_safe o c ends h ≡ true → ((endings_at ends h).stop ≡ None)
      × ((touched_of true o c h).unbounded ≡ None)
  unfolding is_safe
  no-other ends h safe = let both = and_parts _ _ safe in (nothing-there _ both.0, nothing-there _ both.1)

  touched-in : (stores : Bool) (h : ℕ) → (touched_of stores o c h).unbounded ≡ None → TouchesOnly stores o h (touched_of stores o c h).regions
  touched-in stores h none B N es e formed unlanded of_hart =
      subst (λ (g : ℕ). (touched_of stores o c g).unbounded ≡ None → (x : ℕ) → IsInNone x (touched_of stores o c g).regions
      → SparesByte stores x (access_of e)) of_hart (laws.touched_within stores B N o c accepted es e formed unlanded) none

  -- of one of the opening's harts
  pub runs-or-ends : (M h : ℕ) → never_stops (endings_in M o c h) ≡ true → (B : ℕ) → RunsOrEnds B M o h
  runs-or-ends M h stops B =
      let is = listed M o c h stops in
      laws.runs_or_ended B M o c accepted h is.0 (nothing-there _ (subst (λ (e : Endings). never_stops e ≡ true) is.1 stops))

  runs-by : (M h : ℕ) → h < length o.harts → always_runs (endings_of M o c h) ≡ true → (B : ℕ) → Lasts B M o h
  runs-by M h less always B = let both = and_parts _ _ always in
      laws.runs B M o c accepted h less (nothing-there _ both.0) (nothing-there _ both.1)

  pub runs-on : (M h : ℕ) → always_runs (endings_in M o c h) ≡ true → (B : ℕ) → Lasts B M o h
  runs-on M h always B =
      let is = listed M o c h (and_parts _ _ always).0 in
      runs-by M h is.0 (subst (λ (e : Endings). always_runs e ≡ true) is.1 always) B

  -- ---- its lines

  module _ (M : ℕ) (asked : Questions) where
    abbrev Mean : AnswerLine → Type 0
    Mean = LineMeans M asked o c

    stop-means : (h : ℕ) (stop : Option ℕ) → first_stop M o c h ≡ stop → Mean (stopped_at h stop)
    stop-means h None none = λ B es formed. laws.never_stopped B M o c accepted h none es formed
    stop-means h (Some n) is = tt

    end-means : (h : ℕ) → h < length o.harts → (never : Bool) → always_runs (endings_of M o c h) ≡ never → Mean (never_ends h never)
    end-means h less true always = runs-by M h less always
    end-means h less false not = tt

    touches-mean : (stores : Bool) (h : ℕ) (anywhere : Option ℕ) → (touched_of stores o c h).unbounded ≡ anywhere
        → TouchesBy anywhere stores o h (touched_of stores o c h).regions
    touches-mean stores h None none = touched-in stores h none
    touches-mean stores h (Some n) is = tt

    hart-means : (h : ℕ) → h < length o.harts → All Mean (hart_lines o c (all_endings M o c true) h)
    unfolding hart_lines
    hart-means h less = subst (λ (e : Endings). All Mean (stopped_at h e.stop ∷ never_ends h (always_runs e)
        ∷ it_touches true h (touched_of true o c h) ∷ it_touches false h (touched_of false o c h) ∷ []))
        (sym (found-at M o c (length o.harts) h less))
        (All-from_recursion Mean (stopped_at h (first_stop M o c h) ∷ never_ends h (always_runs (endings_of M o c h))
        ∷ it_touches true h (touched_of true o c h) ∷ it_touches false h (touched_of false o c h) ∷ []) (
          stop-means h (first_stop M o c h) refl,
          (
            end-means h less (always_runs (endings_of M o c h)) refl,
            (touches-mean true h (touched_of true o c h).unbounded refl, (touches-mean false h (touched_of false o c h).unbounded refl, tt)),
          ),
        ))

    share-means : (anywhere : Option Place) → (shared_of o c).unbounded ≡ anywhere → SharesBy anywhere o (shared_of o c).regions
    share-means None none = λ x inside h j less-h less-j other stores. elim (laws.not_shared o c x inside stores h j less-h less-j other) [
      | inl out ↦ inl (λ B N es e formed unlanded of. touched-in true h (laws.bounded o c none true h less-h) B N es e formed unlanded of x out)
      | inr out ↦ inr (λ B N es e formed unlanded of. touched-in stores j (laws.bounded o c none stores j less-j) B N es e formed unlanded of x out)
    ]
    share-means (Some place) is = tt

    all-mean : All Mean (harts_lines o c (all_endings M o c true) true)
    all-mean = All-append Mean (lines_below (length o.harts) (hart_lines o c (all_endings M o c true))) (they_share (shared_of o c) ∷ [])
        (all-lines Mean (hart_lines o c (all_endings M o c true)) (length o.harts) hart-means)
        (All-from_recursion Mean (they_share (shared_of o c) ∷ []) (share-means (shared_of o c).unbounded refl, tt))

  -- they are asked for where this is, and where progress is
  pub harts-mean : (M : ℕ) (asked : Questions) (progress harts : Bool)
      → All (LineMeans M asked o c) (harts_lines o c (all_endings M o c (progress || harts)) harts)
  harts-mean M asked progress false = All-nil (LineMeans M asked o c)
  harts-mean M asked true true = all-mean M asked
  harts-mean M asked false true = all-mean M asked

  kept-by : (M : ℕ) → harts_safe o c (all_endings M o c true) true ≡ true → (h : ℕ) → h < length o.harts
      → NeverStops M o h × TouchesOnly true o h (touched_of true o c h).regions
  kept-by M safe h less =
      let none = no-other (all_endings M o c true) h (at-below (length o.harts) (is_safe o c (all_endings M o c true)) safe h less) in
      let stops : first_stop M o c h ≡ None = sym (ap (λ (e : Endings). e.stop) (found-at M o c (length o.harts) h less)) ∙ none.0 in
      ((λ B es formed. laws.never_stopped B M o c accepted h stops es formed), touched-in true h none.1)

  pub keeps-harts : (M : ℕ) (progress harts : Bool) → harts_safe o c (all_endings M o c (progress || harts)) harts ≡ true → harts ≡ true
      → (h : ℕ) → h < length o.harts → NeverStops M o h × TouchesOnly true o h (touched_of true o c h).regions
  keeps-harts M progress false safe is = absurd (false≢true is)
  keeps-harts M false true safe is = kept-by M safe
  keeps-harts M true true safe is = kept-by M safe
