use Rattle.std.proofs.Common.{ℕ, ◌++◌, map, List, ap, subst, ◌∙◌}
use Rattle.std.specs.Global.{Vec}
use Rattle.rand_core.specs.Stream.{Stream}
use Rattle.step_machine.specs.declared.events.Event.{Event}
use Rattle.recorder.specs.Writing.{canon}
use Rattle.drawn_runs.specs.Samples.{DrawnRuns, runs_of}
use Rattle.judged_runs.specs.Telling.{IsTold}
use Rattle.judged_runs.specs.declared.telling.Told.{Told}
use Rattle.judged_runs.specs.declared.telling.Told.TheVariants.{Good, Flawed}
use Rattle.poll_close.specs.declared.clean.Violation.{Violation}
use Rattle.ring_trials.specs.Answers.{violation_line, clean_text}
use Rattle.ring_trials.specs.Trials.{channel_schedule, IsClean, HasViolation, AreTotalsOf}
use Rattle.ring_trials.specs.declared.runs.Total.{Total}
use Rattle.ring_trials.specs.declared.user_channel.UserChannel.{UserChannel}
use Rattle.ring_trials.proofs.run_output.output_of.Goals as goal

-- what is told of the runs
abbrev AreTold : DrawnRuns → UserChannel → Told (Vec Total) Violation → Type 0
AreTold d channel = IsTold (IsClean d.B d.M channel) (HasViolation d.B d.M channel) (λ found other. Unit {0})
    (λ all totals. AreTotalsOf d.B d.M channel all totals.items) (channel_schedule d channel) d.number

pub returns-in-Good : goal.returns-in-Good
returns-in-Good g c =
    let channel : UserChannel = c.args.channel.now in
    let d = runs_of g.row.B g.row.M g.G.Rng.stream c.args.sample.now in
    let told = subst (AreTold (record d { stream = g.G.Rng.stream c.in_ok-start.start }) channel) c.in-Good.is c.in_ok-totals.ensures in
    let clean = subst (λ (s : Stream). AreTold (record d { stream = s }) channel (Good c.in-Good.totals)) c.in_ok-start.ensures told in
    record {
      totals = c.in-Good.totals.items;
      clean = record { order = clean.order; good = clean.good; counted = clean.counted };
      text_is = c.in_ok-text-in-Good.ensures
          ∙ ap (λ ts. clean_text d.number ts (map (λ (v : Vec ℕ). v.items) c.deref-in-Good.result.now)) c.deref.ensures.value
          ∙ ap (λ ls. clean_text d.number c.in-Good.totals.items (map (λ (v : Vec ℕ). v.items) ls)) c.deref-in-Good.ensures.value;
    }

pub returns : goal.returns
returns g c =
    let channel : UserChannel = c.args.channel.now in
    let d = runs_of g.row.B g.row.M g.G.Rng.stream c.args.sample.now in
    let told = subst (AreTold (record d { stream = g.G.Rng.stream c.in_ok-start.start }) channel) c.in-Flawed.is c.in_ok-totals.ensures in
    record {
      part = c.in-Flawed.part.items;
      violation = c.in-Flawed.flaw;
      is_told = subst (λ (s : Stream). AreTold (record d { stream = s }) channel (Flawed c.in-Flawed.part c.in-Flawed.flaw)) c.in_ok-start.ensures told;
      text_is = c.in_ok-unclean_text-in-Flawed.ensures ∙ ap (λ (es : List Event). canon es ++ violation_line c.in-Flawed.flaw) c.deref-in-Flawed.ensures.value;
    }
