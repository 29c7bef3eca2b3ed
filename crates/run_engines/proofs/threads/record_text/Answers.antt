use Rattle.std.proofs.Common.{ℕ, ◌≤◌, List, length, sym, ap, subst, ◌∙◌, arith}
use Rattle.std.specs.String.{string_bytes}
use Rattle.step_machine.specs.History.{History}
use Rattle.recorder.specs.{OfHarts, canon}
use Rattle.run_engines.specs.Run.{IsJudged}
use Rattle.run_engines.proofs.SeatsComplete.{of_64, joined}
use Rattle.run_engines.proofs.threads.record_text.Goals as goal

pub write_schedule-requires-clause-harts : goal.write_schedule-requires-clause-harts
write_schedule-requires-clause-harts g c =
    let made = c.args.made.now in
    subst OfHarts (sym c.deref.ensures.value)
    (of_64 c.args.test.now.opening made.events.items made.trace.entries c.requires.runs.each
    (c.laws_of_runs.ensures.harts g.row.B g.row.M _ _ _ c.requires.runs.run) c.requires.harts)

pub returns-clause-given : goal.returns-clause-given
returns-clause-given g c n at_most get_on =
    let made = c.args.made.now in
    let parts = c.in_ok-judged.judged in
    record {
      events = made.events.items;
      few = omega (arith, made.events.ok.0);
      short = subst (λ (bytes : List ℕ). length bytes ≤ 1048576) (c.in_ok-text.ensures.canonical ∙ ap canon c.deref.ensures.value) (omega arith);
      history = made.trace;
      ran = c.requires.runs.run;
      each = c.requires.runs.each;
      at_most = at_most;
      get_on = get_on;
      state = string_bytes parts.0;
      judged = subst (λ (t : History). IsJudged g.row.M c.args.test.now t (string_bytes parts.0, parts.1)) c.requires.runs.stands
          (c.in_ok-judged.ensures _ c.machine_state.ensures.stands);
      written = joined _ _ _ _ _ c.in_ok-push_str.ensures.bytes (c.in_ok-text.ensures.canonical ∙ ap canon c.deref.ensures.value) c.deref-2.ensures;
    }
