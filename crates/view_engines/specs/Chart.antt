-- The command `chart`: the picture of a test's run by a schedule.
use Rattle.std.specs.Prelude.{ℕ, ◌≡◌, ◌<◌, ◌≤◌, List, length, Option, Result, Ok, Err}
use Rattle.step_machine.specs.declared.events.Entry.{Entry}
use Rattle.step_machine.specs.History.{History}
use Rattle.litmus.specs.LitmusTests.{LitmusTest}
use Rattle.litmus_reader.specs.Headings.{HeadingOf, IsHeading}
use Rattle.recorder.specs.Versions.{ScheduleValue}
use Rattle.chart.specs.declared.scenes.Selection.{Selection}
use Rattle.chart.specs.Layout.{AboutOf, chart_text}
use Rattle.chart.specs.Svg.{chart_svg}
use Rattle.engine_support.specs.declared.fault.Refusal.{Refusal}
use Rattle.engine_support.specs.Engines.{Output}
use Rattle.engine_support.specs.Faults.{too_large}
use Rattle.engine_support.specs.Inputs.{After, schedules, tests_with}
use Rattle.engine_support.specs.Runs.{Runs}
use Rattle.view_engines.specs.About.{IsAbout}
use Rattle.chart.specs.declared.scenes.Style.{Style}
use Rattle.chart.specs.declared.scenes.Style.TheVariants.{Text, Svg}
use Rattle.view_engines.specs.declared.charting.TheConstants.{MAX_ROWS}

-- how a run is drawn: as text, or as SVG
abbrev pub Drawing : Type 0
Drawing = AboutOf → List Entry → List ℕ

-- of which rows
abbrev pub drawing : Style → Selection → Drawing
drawing Text selection = chart_text selection
drawing Svg selection = chart_svg selection

-- the output is the picture of the schedule's run, which has at most MAX_ROWS entries
pub record IsChartOf (B M : ℕ) (draws : Drawing) (heading : HeadingOf) (test : LitmusTest) (parsed : ScheduleValue) (answer : Output) : Type 0 where
  pub history : History
  pub ran : Runs B M test.opening parsed (Ok history)
  pub few : length history.entries ≤ MAX_ROWS
  pub about : AboutOf
  pub is_about : IsAbout M test heading history about
  pub drawn : answer.0 ≡ draws about history.entries

-- Why a run isn't drawn: a record differs from it, or it has too many entries.
pub data IsNotCharted (B M : ℕ) (test : LitmusTest) (parsed : ScheduleValue) : Refusal → Type 0 where
  differs : (refusal : Refusal) → Runs B M test.opening parsed (Err refusal) → IsNotCharted B M test parsed refusal
  too_long : (history : History) → Runs B M test.opening parsed (Ok history) → MAX_ROWS < length history.entries
      → IsNotCharted B M test parsed too_large

-- what answers a test with this heading and what a schedule says
abbrev pub IsChart : (B M : ℕ) → Drawing → HeadingOf → LitmusTest → ScheduleValue → Result Output Refusal → Type 0
IsChart B M draws heading test parsed (Ok answer) = IsChartOf B M draws heading test parsed answer
IsChart B M draws heading test parsed (Err refusal) = IsNotCharted B M test parsed refusal

-- what answers a litmus text, whose heading the picture has, and a schedule
abbrev pub IsChartAnswer : (B M : ℕ) → Drawing → (file schedule : Option (List ℕ)) → Result Output Refusal → Type 0
IsChartAnswer B M draws file schedule =
    After (tests_with IsHeading) file (λ read. After schedules schedule (IsChart B M draws read.1 read.0))
