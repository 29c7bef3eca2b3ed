use Rattle.std.proofs.Common.{◌∙◌, sym, ap, map, List, ℕ, ◌≡◌, length}
use Rattle.std.specs.String.{string_bytes}
use Rattle.step_machine.specs.History.{History}
use Rattle.litmus.specs.declared.verdict.Verdict.{Verdict}
use Rattle.litmus.specs.LitmusTests.{LitmusTest, left_sides}
use Rattle.litmus_reader.specs.Headings.{heading_of, HeadingOf}
use Rattle.chart.specs.Pictures.{shown_byte}
use Rattle.chart.specs.{shown_byte, AboutOf}
use Rattle.view_engines.specs.About.{row_instructions, last_value, verdict_name, about_of}
use Rattle.view_engines.specs.LeastWidths.{least_widths}
use Rattle.view_engines.proofs.about.about_run.Goals as goal

-- What is known of a run, part by part.

pub about_is : (M : ℕ) (q : LitmusTest) (heading : HeadingOf) (t : History) (verdict : Verdict) (about : AboutOf)
    → about.name ≡ map shown_byte heading.name → about.harts ≡ length t.opening.harts
    → about.least ≡ least_widths q.names t.opening.harts → about.names ≡ q.names → about.instructions ≡ row_instructions M t
    → about.values ≡ map (last_value M q.names t) (left_sides q.condition) → about.verdict ≡ verdict_name verdict
    → about.condition ≡ map shown_byte heading.condition → about ≡ about_of M q heading t verdict
about_is M q heading t verdict about name harts least names instructions values told condition =
    λ i. record {
      name = name i;
      harts = harts i;
      least = least i;
      names = names i;
      instructions = instructions i;
      values = values i;
      verdict = told i;
      condition = condition i;
    }

pub returns : goal.returns
returns g c =
    let t = c.args.machine.now.history in
    let names = ap (map string_bytes) c.deref-3.ensures.value ∙ c.in_ok-names.ensures in (
      c.verdict.result,
      c.verdict.ensures.history _ c.machine_state.ensures.stands,
      about_is g.row.M c.args.test.now (heading_of c.args.heading.now) t c.verdict.result _
          (c.in_ok-name.ensures ∙ ap (map shown_byte) c.deref.ensures.value) c.harts-harts.ensures.value
          (c.in_ok-least.ensures ∙ ap (λ (ns : List (List ℕ)). least_widths ns t.opening.harts) names)
          c.in_ok-names.ensures (c.in_ok-instructions.ensures ∙ ap (row_instructions g.row.M) (sym c.requires.entries))
          c.in_ok-values.ensures c.in_ok-verdict.ensures (c.in_ok-condition.ensures ∙ ap (map shown_byte) c.deref-2.ensures.value),
    )
