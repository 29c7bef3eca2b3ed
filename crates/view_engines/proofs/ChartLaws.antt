-- A test's chart is one text, or one refusal, and no text of its rows stands on another one.
use Rattle.std.proofs.Common.{◌≡◌, ℕ, ◌<◌, ◌≤◌, List, length, map, All, Some, Result, Ok, Err, refl, sym, ap, ◌∙◌, subst, arith}
use Rattle.std.proofs.lemmas.List.{length-map}
use Rattle.step_machine.specs.declared.events.Entry.{Entry}
use Rattle.step_machine.specs.Names.{hart_of, OpeningValue, History, at_opening}
use Rattle.step_machine.proofs.Running.{kept-run, kept-at_opening}
use Rattle.litmus.specs.LitmusTests.{LitmusTest}
use Rattle.litmus.proofs.TestLaws.{one_verdict}
use Rattle.litmus_reader.specs.{IsTestOf, HeadingOf, IsHeading, hart_content}
use Rattle.litmus_reader.proofs.HeadingLaws.{one_heading}
use Rattle.recorder.specs.Versions.{ScheduleValue, events_of_schedule}
use Rattle.chart.specs.declared.scenes.Form.{Form}
use Rattle.chart.specs.declared.scenes.Selection.{Selection}
use Rattle.chart.specs.{AboutOf, FitsColumns, layout, scene_of_run, IsClear}
use Rattle.chart.proofs.ColumnLaws.{same_heads}
use Rattle.chart.proofs.PictureLaws.{picture_clear, heads_of_picture}
use Rattle.engine_support.specs.declared.fault.Fault.{Fault}
use Rattle.engine_support.specs.declared.fault.Fault.TheVariants.{Refused}
use Rattle.engine_support.specs.declared.fault.Refusal.{Refusal}
use Rattle.engine_support.specs.{Output, AreOneAnswer, AnswersAs, too_large, schedules, tests_with}
use Rattle.engine_support.specs.Runs.{Runs}
use Rattle.engine_support.proofs.{one_difference, one_run, opening_stays, runs_events, runs_or_differs, alike_after, one_litmus_with, one_schedule}
use Rattle.view_engines.specs.About.{IsAbout}
use Rattle.view_engines.specs.LeastWidths.{least_widths}
use Rattle.view_engines.specs.Chart.{Drawing, IsChartOf, IsNotCharted, differs, too_long, IsChart, IsChartAnswer}

one_about : (M : ℕ) (q : LitmusTest) (heading : HeadingOf) (t : History) (a b : AboutOf)
    → IsAbout M q heading t a → IsAbout M q heading t b → a ≡ b
one_about M q heading t a b h6 h7 = grind (arith, one_verdict)

module _ (B M : ℕ) (draws : Drawing) (heading : HeadingOf) (q : LitmusTest) (parsed : ScheduleValue) where
  -- a run of too many entries is refused
  pub too_many : {X : Type 0} (view : X → Output) (t : History) (entries : List Entry) (fault : Fault)
      → Runs B M q.opening parsed (Ok t) → entries ≡ t.entries → 10000 < length entries → fault ≡ Refused too_large
      → AnswersAs (IsChart B M draws heading q parsed) view (Err fault)
  too_many view t entries fault ran are many is = rw is (too_long t ran (subst (λ (es : List Entry). 10000 < length es) are many))

  one_history : (t u : History) → Runs B M q.opening parsed (Ok t) → Runs B M q.opening parsed (Ok u) → t ≡ u
  one_history t u ran also = let same = one_run B M q.opening parsed (Ok t) (Ok u) ran also in cc

  one_picture : (a b : Output) → IsChartOf B M draws heading q parsed a → IsChartOf B M draws heading q parsed b → a ≡ b
  one_picture a b is other =
      let same : is.history ≡ other.history = one_history is.history other.history is.ran other.ran in
      let about : is.about ≡ other.about =
      one_about M q heading other.history is.about other.about
      (subst (λ (t : History). IsAbout M q heading t is.about) same is.is_about) other.is_about in
      let texts : a.0 ≡ b.0 =
      is.drawn ∙ ap (λ (x : AboutOf). draws x is.history.entries) about
      ∙ ap (λ (t : History). draws other.about t.entries) same ∙ sym other.drawn in
      λ i. (texts i, tt)

  drawn_or_not : (a : Output) (r : Refusal) → IsChartOf B M draws heading q parsed a → IsNotCharted B M q parsed r → ⊥
  drawn_or_not a r is (differs s differ) = runs_or_differs B M q.opening parsed is.history s is.ran differ
  drawn_or_not a r is (too_long t ran many) =
      let few = subst (λ (u : History). length u.entries ≤ 10000) (one_history is.history t is.ran ran) is.few in
      omega (arith, few, many)

  one_reason : (r s : Refusal) → IsNotCharted B M q parsed r → IsNotCharted B M q parsed s → r ≡ s
  one_reason r s (differs x differ) (differs y other) = one_difference B M q.opening parsed x y differ other
  one_reason r s (differs x differ) (too_long t ran many) = absurd (runs_or_differs B M q.opening parsed t x ran differ)
  one_reason r s (too_long t ran many) (differs y other) = absurd (runs_or_differs B M q.opening parsed t y ran other)
  one_reason r s (too_long t ran many) (too_long u also more) = refl

  one_answer : (a b : Result Output Refusal) → IsChart B M draws heading q parsed a → IsChart B M draws heading q parsed b
      → AreOneAnswer a b
  one_answer (Ok a) (Ok b) is other = one_picture a b is other
  one_answer (Ok a) (Err s) is refusal = absurd (drawn_or_not a s is refusal)
  one_answer (Err r) (Ok b) refusal is = absurd (drawn_or_not b r is refusal)
  one_answer (Err r) (Err s) first other = ap (λ (x : Refusal). x.number) (one_reason r s first other)

pub charts_alike : (B M : ℕ) (draws : Drawing) (file schedule : List ℕ) (a b : Result Output Refusal)
    → IsChartAnswer B M draws (Some file) (Some schedule) a → IsChartAnswer B M draws (Some file) (Some schedule) b → AreOneAnswer a b
charts_alike B M draws file schedule =
    alike_after (tests_with IsHeading) (λ r s. r.number ≡ s.number) (one_litmus_with IsHeading one_heading) AreOneAnswer (λ r s e. e) file _
    (λ headed. alike_after schedules (λ r s. r ≡ s) one_schedule AreOneAnswer (λ r s e. ap (λ (x : Refusal). x.number) e) schedule _
    (λ parsed. one_answer B M draws headed.1 headed.0 parsed))

pub clear_chart : (selection : Selection) (B M : ℕ) (draws : Drawing) (file : List ℕ) (heading : HeadingOf)
    (q : LitmusTest) (parsed : ScheduleValue) (answer : Output)
    → IsTestOf file q → (chart : IsChartOf B M draws heading q parsed answer)
    → All IsClear (layout selection chart.about chart.history.entries).body × IsClear (layout selection chart.about chart.history.entries).heads
unfolding IsTestOf
clear_chart selection B M draws file heading q parsed answer is_test chart =
    let t = chart.history in
    let stays : length t.opening.harts ≡ length q.opening.harts =
    ap (λ (o : OpeningValue). length o.harts) (opening_stays B M q.opening parsed t chart.ran) in
    let harts : chart.about.harts ≡ length t.opening.harts = ap (λ (a : AboutOf). a.harts) chart.is_about.2 in
    let most : length (map hart_content q.opening.harts) ≤ 64 = is_test.0.tabled.few in
    let few : chart.about.harts ≤ 255 = omega (arith, harts, stays, most, length-map q.opening.harts hart_content) in
    let rows : length t.entries ≤ 10000 = chart.few in
    let kept = kept-run B M (at_opening q.opening) (events_of_schedule parsed) t (kept-at_opening B M q.opening)
    (runs_events B M q.opening parsed t chart.ran) in (
      picture_clear selection chart.about t.entries few
          (subst (λ (n : ℕ). All (λ (e : Entry). hart_of e < n) t.entries) (sym harts) kept.of_harts) (omega (arith, rows)),
      heads_of_picture selection chart.about t.entries few,
    )

-- a chart's columns are as wide as the test's opening and names ask for
about_widths : (B M : ℕ) (draws : Drawing) (heading : HeadingOf) (q : LitmusTest) (parsed : ScheduleValue) (answer : Output)
    → (chart : IsChartOf B M draws heading q parsed answer)
    → (chart.about.harts ≡ length q.opening.harts) × (chart.about.least ≡ least_widths q.names q.opening.harts)
about_widths B M draws heading q parsed answer chart =
    let stays : chart.history.opening ≡ q.opening = opening_stays B M q.opening parsed chart.history chart.ran in (
      ap (λ (a : AboutOf). a.harts) chart.is_about.2 ∙ ap (λ (o : OpeningValue). length o.harts) stays,
      ap (λ (a : AboutOf). a.least) chart.is_about.2 ∙ ap (λ (o : OpeningValue). least_widths q.names o.harts) stays,
    )

pub same_columns : (s t : Selection) (B M : ℕ) (draws also_draws : Drawing) (heading : HeadingOf) (q : LitmusTest)
    (parsed more : ScheduleValue) (answer other : Output)
    → (chart : IsChartOf B M draws heading q parsed answer) → (next : IsChartOf B M also_draws heading q more other)
    → ((form : Form) → FitsColumns (scene_of_run s chart.about chart.history.entries) form)
    → ((form : Form) → FitsColumns (scene_of_run t next.about next.history.entries) form)
    → (layout s chart.about chart.history.entries).heads ≡ (layout t next.about next.history.entries).heads
same_columns s t B M draws also_draws heading q parsed more answer other chart next fits also_fits =
    let first = about_widths B M draws heading q parsed answer chart in
    let second = about_widths B M also_draws heading q more other next in
    same_heads s t chart.about next.about chart.history.entries next.history.entries (first.0 ∙ sym second.0) (first.1 ∙ sym second.1)
    fits also_fits
