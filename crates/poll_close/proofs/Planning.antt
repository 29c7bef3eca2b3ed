-- What each step of the plan's loop keeps.
use Rattle.std.proofs.Common.{◌≡◌, ◌≢◌, ℕ, zero, suc, ◌+◌, ◌-◌, ◌==◌, ◌≤◌, ◌<◌, inl, inr, ◌⊎◌, Bool, true, false, if◌then◌else◌, ◌||◌, Some, None, List, []}
use Rattle.std.proofs.Common.{◌∷◌, ◌++◌, length, drop, refl, sym, ◌∙◌, ap, subst, arith}
use Rattle.std.proofs.lemmas.Bool.{cases_eq, cases_lt}
use Rattle.std.proofs.lemmas.Bool.Decides.{nat_tests}
use Rattle.step_machine.specs.declared.events.Event.{Event}
use Rattle.step_machine.specs.declared.events.Event.TheVariants as event
use Rattle.step_machine.specs.declared.events.Entry.{Entry}
use Rattle.step_machine.specs.declared.events.Entry.TheVariants as entry
use Rattle.step_machine.specs.declared.events.Outcome.{Outcome}
use Rattle.std.proofs.lemmas.List.{length-map, length-drop}
use Rattle.step_machine.specs.Names.{HartOpeningValue, OpeningValue, History, at_opening, with_entry, hart_of, is_land, pending, reported, own_store, land_of}
use Rattle.step_machine.specs.Names.{WellFormed, Happens, Run, RunFrom, IsOwnRun, event_of}
use Rattle.step_machine.proofs.{shape_of, RunFrom-more, run-one, opening-run, opening_kept, land_follows, happens_some, balanced, pending-last, pending-land}
use Rattle.step_machine.proofs.{pending-other, land_of-other, store_of-other}
use Rattle.memory.specs.declared.writes.Write.{Write}
use Rattle.hart.specs.declared.need.Report.{Report}
use Rattle.hart.specs.declared.need.Report.TheVariants as report
use Rattle.std.specs.Prelude.{map}
use Rattle.std.specs.List.{slice_get}
use Rattle.poll_close.specs.{Ring, opening_over, Meaning, AcceptedAt, Opens, Keeps, Cleans, Clean, DeliversWhole, DeliversWholeOver, Stands, opening_lists}
use Rattle.poll_close.specs.{Nearer, Decreases, AllLanded, Finished, Finishes, CanFinish, is_closed, all_closed, ends_in_word, is_word, is_done, senders_of}
use Rattle.poll_close.proofs.Standing.{inboxes, stands-opens, stands-happens, stands-run, stands-clean}
use Rattle.poll_close.specs.Layout.{Layout}
use Rattle.poll_close.proofs.CleanReports.{closed_whole}

pub record Planned (ring : Ring) (means : Meaning) (B M : ℕ) (start : History) (evs : List Event) (t : History) : Type 0 where
  pub run : RunFrom B M start evs t
  pub stands : Stands ring means B M t
  pub harts : length t.opening.harts ≡ length start.opening.harts

pub closed_at : (rs : List Report) (i : ℕ) → is_closed rs i ≡ true → (k : ℕ) × (slice_get rs k ≡ Some (report.Closed i))
closed_at [] i is = cc
closed_at (report.Took j w ∷ rs) i is = let more = closed_at rs i is in (suc more.0, more.1)
closed_at (report.Closed j ∷ rs) i is = at (j == i) refl is (closed_at rs i)
  where
    at : (b : Bool) → (j == i) ≡ b → (b || is_closed rs i) ≡ true
        → (is_closed rs i ≡ true → (k : ℕ) × (slice_get rs k ≡ Some (report.Closed i)))
        → (k : ℕ) × (slice_get (report.Closed j ∷ rs) k ≡ Some (report.Closed i))
    at true same on later = (0, ap (λ z. Some (report.Closed z)) (let one : j ≡ i = grind (arith, nat_tests) in one))
    at false other on later = let more = later on in (suc more.0, more.1)

pub each_closed : (rs : List Report) (n : ℕ) → all_closed rs n ≡ true → (i : ℕ) → i < n → is_closed rs i ≡ true
each_closed rs zero all i less = absurd (omega arith)
each_closed rs (suc n) all i less = grind (arith, cases_eq, each_closed rs n)

pub open_one : (rs : List Report) (n i : ℕ) → i < n → is_closed rs i ≡ false → all_closed rs n ≡ false
open_one rs n i less open_yet = grind (arith, each_closed)

pub finished : (ring : Ring) (means : Meaning) (B M : ℕ) (t : History) → Cleans ring means → Stands ring means B M t → is_done t ≡ true → Finished t
finished ring means B M t cleans s done = record {
  closed = each_closed (reported 0 t.entries) (senders_of t) done;
  whole = λ i less.
      (let at = closed_at (reported 0 t.entries) i (each_closed (reported 0 t.entries) (senders_of t) done i less) in
      closed_whole (reported 0 t.entries) (opening_lists t.opening) i at.0 (stands-clean ring means B M t cleans s) at.1);
}

same_harts : (B M : ℕ) (t : History) (ev : Event) (o : Outcome) (new : History) → Happens B M t ev o new → length new.opening.harts ≡ length t.opening.harts
same_harts B M t ev o new h = grind (arith, shape_of)

module _ {ring : Ring} {means : Meaning} {B M : ℕ} where
  pub planned-none : {t : History} → Stands ring means B M t → Planned ring means B M t [] t
  planned-none stands = record { run = refl; stands = stands; harts = refl }

  pub planned-more : {start : History} {evs : List Event} {t : History} (ev : Event) (o : Outcome) (new : History)
      → Keeps ring means → Planned ring means B M start evs t → Happens B M t ev o new
      → Planned ring means B M start (evs ++ ev ∷ []) new
  planned-more {start} {evs} {t} ev o new keeps p h = record {
    run = RunFrom-more B M start evs t ev o new p.run h;
    stands = stands-happens ring means B M t ev o new keeps p.stands h;
    harts = same_harts B M t ev o new h ∙ p.harts;
  }

  pub planned-done : {start : History} {evs : List Event} {t : History} → Cleans ring means
      → Planned ring means B M start evs t → is_done t ≡ true → Finishes B M start evs
  planned-done {t = t} cleans p done = record { history = t; run = p.run; finished = finished ring means B M t cleans p.stands done }

drop_one : (ps : List Write) → 0 < length ps → length (drop 1 ps) < length ps
drop_one ps some = grind arith

pub record Less (t new : History) (h : ℕ) : Type 0 where
  pub fewer : length (pending h new.entries) < length (pending h t.entries)
  pub others : (k : ℕ) → k ≢ h → pending k new.entries ≡ pending k t.entries
  pub after : new ≡ with_entry t (entry.Land h)

-- a hart with a pending store lands it
pub lands_one : (B M : ℕ) (t : History) (h : ℕ) (o : Outcome) (new : History) → WellFormed B M t
    → h < length t.opening.harts → 0 < length (pending h t.entries) → Happens B M t (event.Land h) o new → Less t new h
lands_one B M t h o new kept hart some hap = grind (arith, shape_of, pending-land, drop_one, pending-other, land_of-other, land_follows)

pick : (g h : ℕ) (p : Write) (b : Bool) → length (if b then p ∷ [] else []) ≤ 1
pick g h p b = grind arith

few : (h : ℕ) (e : Entry) → is_land e ≡ false → length (drop (land_of h e) (own_store h e)) ≤ 1
few h e act = grind (arith, pick)

elsewhere : (k : ℕ) (e : Entry) → is_land e ≡ false → k ≢ hart_of e → (own_store k e ≡ []) × (land_of k e ≡ 0)
elsewhere k e act other = grind (arith, store_of-other)

pub record Stepped (left : History → ℕ) (t new : History) (h : ℕ) : Type 0 where
  pub less : left new < left t
  pub landing : left (with_entry new (entry.Land h)) ≡ left new
  pub few : length (pending h new.entries) ≤ 1
  pub others : (k : ℕ) → k ≢ h → pending k new.entries ≡ pending k t.entries

-- the chosen hart acts
pub acts_one : (B M : ℕ) (left : History → ℕ) (t : History) (h : ℕ) (o : Outcome) (new : History) → WellFormed B M t
    → AllLanded t → Nearer B M left t h → Happens B M t (event.Act h) o new → Stepped left t new h
acts_one B M left t h o new kept none near hap = grind (arith, shape_of, few, pending-last, balanced, elsewhere, pending-other)

pub no_length : (ps : List Write) → length ps < 1 → ps ≡ []
no_length [] less = refl
no_length (p ∷ ps) less = absurd (omega arith)

pub all_again : (t new : History) (h : ℕ) → length new.opening.harts ≡ length t.opening.harts → AllLanded t
    → ((k : ℕ) → k ≢ h → pending k new.entries ≡ pending k t.entries) → pending h new.entries ≡ [] → AllLanded new
all_again t new h harts all others none k within = grind (arith, cases_eq)

-- one turn: the chosen hart has acted
pub record Turned (ring : Ring) (means : Meaning) (B M : ℕ) (left : History → ℕ) (start : History) (evs : List Event) (t new : History) (h : ℕ) : Type 0 where
  pub hart : h < length new.opening.harts
  pub planned : Planned ring means B M start evs new
  pub stepped : Stepped left t new h
  pub same : length new.opening.harts ≡ length t.opening.harts

pub turned : {ring : Ring} {means : Meaning} (left next : ℕ → History → ℕ) {B M : ℕ} {start : History}
    {evs : List Event} {t : History} (h : ℕ) (o : Outcome) (new : History) → Decreases ring means left next
    → Keeps ring means → 1 ≤ B → Planned ring means B M start evs t → AllLanded t → is_done t ≡ false → h ≡ next M t
    → Happens B M t (event.Act h) o new → Turned ring means B M (left M) start (evs ++ event.Act h ∷ []) t new h
unfolding Decreases
turned {ring} {means} left next {B} {M} {start} {evs} {t} h o new ranking_decreases keeps some p all open_yet chosen hap =
    let near : Nearer B M (left M) t h = subst (Nearer B M (left M) t) (sym chosen) (ranking_decreases B M t some p.stands all open_yet) in
    let after : Planned ring means B M start (evs ++ event.Act h ∷ []) new = planned-more (event.Act h) o new keeps p hap in
    record {
      hart = omega (arith, near.hart, after.harts, p.harts);
      planned = after;
      stepped = acts_one B M (left M) t h o new p.stands.kept all near hap;
      same = after.harts ∙ sym p.harts;
    }

-- and its store has landed
pub record Over (ring : Ring) (means : Meaning) (B M : ℕ) (left : History → ℕ) (start : History) (evs : List Event) (t new : History) : Type 0 where
  pub less : left new < left t
  pub planned : Planned ring means B M start evs new
  pub all : AllLanded new

pub turn_over : {ring : Ring} {means : Meaning} {B M : ℕ} {left : History → ℕ} {start : History}
    {evs : List Event} {t mid : History} {h : ℕ} (o : Outcome) (new : History) → Keeps ring means → AllLanded t
    → Turned ring means B M left start evs t mid h → 0 < length (pending h mid.entries)
    → Happens B M mid (event.Land h) o new → Over ring means B M left start (evs ++ event.Land h ∷ []) t new
turn_over {ring} {means} {B} {M} {left} {start} {evs} {t} {mid} {h} o new keeps all turn some hap =
    let l : Less mid new h = lands_one B M mid h o new turn.planned.stands.kept turn.hart some hap in
    let after : Planned ring means B M start (evs ++ event.Land h ∷ []) new = planned-more (event.Land h) o new keeps turn.planned hap in
    let still : left new ≡ left mid = ap left l.after ∙ turn.stepped.landing in
    record {
      less = omega (arith, still, turn.stepped.less);
      planned = after;
      all = all_again t new h (after.harts ∙ sym turn.planned.harts ∙ turn.same) all
          (λ k other. l.others k other ∙ turn.stepped.others k other)
          (no_length (pending h new.entries) (omega (arith, l.fewer, turn.stepped.few)));
    }

pub turn_quiet : {ring : Ring} {means : Meaning} {B M : ℕ} {left : History → ℕ} {start : History}
    {evs : List Event} {t mid : History} {h : ℕ} → AllLanded t → Turned ring means B M left start evs t mid h
    → length (pending h mid.entries) < 1 → Over ring means B M left start evs t mid
turn_quiet {t = t} {mid} {h} all turn none = grind (arith, all_again, no_length)

-- what ran the events of a history's own entries is that history
pub same_run : (B M : ℕ) (t new : History) (o : OpeningValue) (evs : List Event) → IsOwnRun B M t → o ≡ t.opening
    → evs ≡ map event_of t.entries → RunFrom B M (at_opening o) evs new → new ≡ t
same_run B M t new o evs own opening events run = grind (arith, run-one)

-- the last report, if there is one, tells whether the reports end in a word
last_at : (rs : List Report) (k : ℕ) (x : Report) → suc k ≡ length rs → slice_get rs k ≡ Some x → ends_in_word rs ≡ is_word x
last_at (report.Took j w ∷ []) zero x end is = let same : report.Took j w ≡ x = cc in ap is_word same
last_at (report.Closed j ∷ []) zero x end is = let same : report.Closed j ≡ x = cc in ap is_word same
last_at (r ∷ s ∷ rs) zero x end is = absurd (omega (arith, end))
last_at (r ∷ s ∷ rs) (suc k) x end is = last_at (s ∷ rs) k x (let shorter : suc k ≡ length (s ∷ rs) = omega (arith, end) in shorter) is
last_at y z x end is = cc

pub last_is : (rs : List Report) (x : Report) → slice_get rs (length rs - 1) ≡ Some x → is_word x ≡ ends_in_word rs
last_is [] x is = cc
last_is (r ∷ rs) x is = sym (last_at (r ∷ rs) (length (r ∷ rs) - 1) x (let end : suc (length (r ∷ rs) - 1) ≡ length (r ∷ rs) = omega arith in end) is)

none_at : (rs : List Report) (k : ℕ) → slice_get rs k ≡ None → length rs ≤ k
none_at [] k none = omega arith
none_at (r ∷ rs) zero none = cc
none_at (r ∷ rs) (suc k) none = let rest : length rs ≤ k = none_at rs k none in omega (arith, rest)

pub last_none : (rs : List Report) → slice_get rs (length rs - 1) ≡ None → false ≡ ends_in_word rs
last_none [] none = refl
last_none (r ∷ rs) none = absurd (let past : length (r ∷ rs) ≤ length (r ∷ rs) - 1 = none_at (r ∷ rs) (length (r ∷ rs) - 1) none in omega (arith, past))

-- where the last report is of a word, its sender is open
word_last : (rs : List Report) → ends_in_word rs ≡ true → (k : ℕ) × (i : ℕ) × (w : ℕ) × (k + 1 ≡ length rs) × (slice_get rs k ≡ Some (report.Took i w))
word_last (report.Took j w ∷ []) is = (0, j, w, refl, refl)
word_last (r ∷ s ∷ rs) is = let more = word_last (s ∷ rs) is in (
  suc more.0,
  more.1,
  more.2,
  (let longer : suc more.0 + 1 ≡ length (r ∷ s ∷ rs) = omega (arith, more.3) in longer),
  more.4,
)
word_last x is = cc

get_below : (rs : List Report) (k : ℕ) (x : Report) → slice_get rs k ≡ Some x → k < length rs
get_below [] k x is = cc
get_below (r ∷ rs) zero x is = omega arith
get_below (r ∷ rs) (suc k) x is = let less : k < length rs = get_below rs k x is in omega arith

senders-count : (t : History) → length (opening_lists t.opening) ≡ senders_of t
senders-count t = length-map (drop 1 t.opening.harts) (λ (h : HartOpeningValue). h.inbox) ∙ length-drop 1 t.opening.harts

pub open_where_word : (ring : Ring) (means : Meaning) (B M : ℕ) (t : History) → Cleans ring means
    → Stands ring means B M t → ends_in_word (reported 0 t.entries) ≡ true → is_done t ≡ false
open_where_word ring means B M t cleans s word = at (is_done t) refl
  where
    clean : Clean (reported 0 t.entries) (opening_lists t.opening)
    clean = stands-clean ring means B M t cleans s

    at : (b : Bool) → is_done t ≡ b → is_done t ≡ false
    at false is = is
    at true is =
        let last = word_last (reported 0 t.entries) word in
        let within : last.1 < senders_of t = omega (arith, senders-count t, clean.known last.0 (report.Took last.1 last.2) last.4) in
        let closings = closed_at (reported 0 t.entries) last.1 (each_closed (reported 0 t.entries) (senders_of t) is last.1 within) in
        let below : closings.0 < length (reported 0 t.entries) = get_below (reported 0 t.entries) closings.0 (report.Closed last.1) closings.1 in
        elim (cases_eq closings.0 last.0) [
          | inl same ↦ let both : Some (report.Closed last.1) ≡ Some (report.Took last.1 last.2) =
              sym closings.1 ∙ ap (slice_get (reported 0 t.entries)) same ∙ last.4 in
              cc
          | inr other ↦ absurd (clean.no_more last.1 closings.0 last.0 (report.Took last.1 last.2) (omega (arith, below, last.3, other)) closings.1 last.4 refl)
        ]

-- the reports after the events and the plan
pub whole_delivered : (B M : ℕ) (o : OpeningValue) (events plan : List Event) (mid new : History) (reports : List Report)
    → Run B M o events mid → RunFrom B M mid plan new → Finishes B M mid plan → (is_done mid ≡ true → plan ≡ [])
    → new.opening ≡ o → reports ≡ reported 0 new.entries → Clean reports (opening_lists new.opening) → DeliversWhole B M o (opening_lists o) events reports
whole_delivered B M o events plan mid new reports first second finishes none same answer clean = grind (arith, senders-count, run-one)

-- so of a channel over lists, which its opening was given
pub whole_over : (ring : Ring) (means : Meaning) (B M : ℕ) (lists : List (List ℕ)) (l : Layout) (events plan : List Event) (mid new : History)
    (reports : List Report) → Cleans ring means → Run B M (opening_over ring lists l) events mid → RunFrom B M mid plan new
    → Finishes B M mid plan → (is_done mid ≡ true → plan ≡ []) → Stands ring means B M new → reports ≡ reported 0 new.entries
    → DeliversWholeOver ring B M lists l events reports
whole_over ring means B M lists l events plan mid new reports cleans run ran finishes none stands answer =
    let o : OpeningValue = opening_over ring lists l in
    let whole : DeliversWhole B M o (opening_lists o) events reports = whole_delivered B M o events plan mid new reports run ran finishes none
    (opening-run B M mid plan new ran ∙ opening_kept B M o events mid run) answer (rw answer (stands-clean ring means B M new cleans stands)) in
    subst (λ (given : List (List ℕ)). DeliversWhole B M o given events reports) (inboxes ring.sender l 0 lists) whole

pub whole-as : (B M : ℕ) (o p : OpeningValue) (lists : List (List ℕ)) (events : List Event) (reports : List Report) → o ≡ p
    → DeliversWhole B M o lists events reports → DeliversWhole B M p lists events reports
whole-as B M o p lists events reports is whole = subst (λ (q : OpeningValue). DeliversWhole B M q lists events reports) is whole

-- a list that isn't empty, or is, as its length's test says
pub some_left : {A : Type 0} {seen xs : List A} {b : Bool} → seen ≡ xs → b ≡ (length seen == 0) → b ≡ false → 0 < length xs
some_left same test is = rw (← same) (let apart : (length _ == 0) ≡ false = sym test ∙ is in grind (arith, nat_tests))

pub none_left : {A : Type 0} {seen xs : List A} {b : Bool} → seen ≡ xs → b ≡ (length seen == 0) → b ≡ true → length xs < 1
none_left same test is = rw (← same) (let at : (length _ == 0) ≡ true = sym test ∙ is in grind (arith, nat_tests))

-- nothing is pending of the harts before the next one, and nothing of that
pub landed_more : (es : List Entry) (h : ℕ) → ((k : ℕ) → k < h → pending k es ≡ []) → length (pending h es) < 1 → (k : ℕ) → k < h + 1 → pending k es ≡ []
landed_more es h before none k below = grind (arith, cases_eq, no_length)

-- ---- such a plan exists, whether or not it is computed

done_or : (b : Bool) → (b ≡ true) ⊎ (b ≡ false)
done_or b = grind arith

module _ (ring : Ring) (means : Meaning) (left next : ℕ → History → ℕ) (keeps : Keeps ring means)
    (cleans : Cleans ring means) (ranking_decreases : Decreases ring means left next) (B M : ℕ) (some : 1 ≤ B) (start : History)
  where
    abbrev Reached : (History → Type 0) → Type 0
    Reached P = (evs : List Event) × (t : History) × Planned ring means B M start evs t × P t

    -- all that is pending of hart h lands, which is at most B stores
    land_hart : (h room : ℕ) → h < length start.opening.harts → (evs : List Event) (t : History)
        → Planned ring means B M start evs t → ((k : ℕ) → k < h → pending k t.entries ≡ [])
        → length (pending h t.entries) ≤ room → Reached (λ u. (k : ℕ) → k < h + 1 → pending k u.entries ≡ [])
    land_hart h zero hart evs t p before few = (evs, t, p, landed_more t.entries h before (omega (arith, few)))
    land_hart h (suc room) hart evs t p before few =
        elim (cases_lt 0 (length (pending h t.entries))) [
          | inl more ↦
              let hap = happens_some B M t (event.Land h) p.stands.kept in
              let less : Less t hap.1 h = lands_one B M t h hap.0 hap.1 p.stands.kept (omega (arith, p.harts, hart)) more hap.2 in
              land_hart h room hart (evs ++ event.Land h ∷ []) hap.1
              (planned-more (event.Land h) hap.0 hap.1 keeps p hap.2)
              (λ k below. less.others k (omega (arith, below)) ∙ before k below) (omega (arith, less.fewer, few))
          | inr none ↦ (evs, t, p, landed_more t.entries h before (omega (arith, none)))
        ]

    land_all : Stands ring means B M start → (m : ℕ) → m ≤ length start.opening.harts → Reached (λ u. (k : ℕ) → k < m → pending k u.entries ≡ [])
    land_all stands zero less = ([], start, planned-none stands, λ k below. absurd (omega (arith, below)))
    land_all stands (suc m) less =
        let most = land_all stands m (omega (arith, less)) in
        let all = land_hart m (length (pending m most.1.entries)) (omega (arith, less)) most.0 most.1 most.2 most.3 (omega arith) in
        (all.0, all.1, all.2, λ k below. all.3 k (omega (arith, below)))

    -- the hart that comes next acts, and its store lands
    turn_one : (evs : List Event) (t : History) → Planned ring means B M start evs t → AllLanded t → is_done t ≡ false
        → (more : List Event) × (u : History) × Over ring means B M (left M) start more t u
    turn_one evs t p all open_yet =
        let hap = happens_some B M t (event.Act (next M t)) p.stands.kept in
        let turn = turned left next (next M t) hap.0 hap.1 ranking_decreases keeps some p all open_yet refl hap.2 in
        elim (cases_lt 0 (length (pending (next M t) hap.1.entries))) [
          | inl more ↦
              let land = happens_some B M hap.1 (event.Land (next M t)) turn.planned.stands.kept in (
                (evs ++ event.Act (next M t) ∷ []) ++ event.Land (next M t) ∷ [],
                land.1,
                turn_over land.0 land.1 keeps all turn more land.2,
              )
          | inr none ↦ (evs ++ event.Act (next M t) ∷ [], hap.1, turn_quiet all turn (omega (arith, none)))
        ]

    -- and so on, where so much is left at most
    turns : (most : ℕ) (evs : List Event) (t : History) → Planned ring means B M start evs t → AllLanded t → left M t ≤ most → Reached (λ u. is_done u ≡ true)
    turns zero evs t p all few =
        elim (done_or (is_done t)) [
          | inl done ↦ (evs, t, p, done)
          | inr open_yet ↦ absurd (omega (arith, (turn_one evs t p all open_yet).2.less, few))
        ]
    turns (suc most) evs t p all few =
        elim (done_or (is_done t)) [
          | inl done ↦ (evs, t, p, done)
          | inr open_yet ↦
              let one = turn_one evs t p all open_yet in
              turns most one.0 one.1 one.2.planned one.2.all (omega (arith, one.2.less, few))
        ]

    pub can_finish : Stands ring means B M start → CanFinish B M start
    can_finish stands =
        let quiet = land_all stands (length start.opening.harts) (omega arith) in
        let end = turns (left M quiet.1) quiet.0 quiet.1 quiet.2 (λ k below. quiet.3 k (omega (arith, quiet.2.harts, below))) (omega arith) in
        record { events = end.0; finishes = planned-done cleans end.2 end.3 }

-- so from every state that events lead to
pub run_can_finish : (ring : Ring) (means : Meaning) (left next : ℕ → History → ℕ) → Opens ring means
    → Keeps ring means → Cleans ring means → Decreases ring means left next
    → (B M : ℕ) (lists : List (List ℕ)) (S : Layout) (evs : List Event) (t : History) → 1 ≤ B
    → AcceptedAt ring M lists S → Run B M (opening_over ring lists S) evs t → CanFinish B M t
run_can_finish ring means left next opens keeps cleans ranking_decreases B M lists S evs t some accepted run =
    can_finish ring means left next keeps cleans ranking_decreases B M some t
    (stands-run ring means B M (at_opening (opening_over ring lists S)) evs t keeps
    (stands-opens ring means B M lists S (at_opening (opening_over ring lists S)) opens accepted refl) run)
