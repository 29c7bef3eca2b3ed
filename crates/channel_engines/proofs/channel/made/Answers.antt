use Rattle.std.proofs.Common.{ℕ, List, [], Err, map, ap, subst, ◌∙◌}
use Rattle.std.specs.Global.{Vec}
use Rattle.std.specs.List.{flat_map}
use Rattle.hart.specs.declared.need.Report.{Report}
use Rattle.recorder.specs.Versions.{ScheduleValue, schedule_value}
use Rattle.poll_close.specs.Layout.{layout_of}
use Rattle.engine_support.specs.{AnswersAs, read, schedules, text_and_value}
use Rattle.engine_support.proofs.InputLaws.{read_after, refused_after, unmade}
use Rattle.channel_engines.specs.Channels.{IsChannelRun, report_line}
use Rattle.channel_engines.specs.Lists.{list_texts}
use Rattle.channel_engines.specs.inner.{Reports}
use Rattle.channel_engines.proofs.channel.made.Goals as goal

abbrev reports_in : Vec Report → List Report
reports_in reports = reports.items

pub returns-in_err-parsed-clause-made : goal.returns-in_err-parsed-clause-made
returns-in_err-parsed-clause-made g c =
    refused_after schedules _ _ (λ (parsed : ScheduleValue). parsed) text_and_value c.from_residual.result c.in_err-parsed.field-0.0
    c.from_residual.ensures.1 c.in_err-parsed.ensures.schedule

pub returns-in_err-lists-clause-made : goal.returns-in_err-lists-clause-made
returns-in_err-lists-clause-made g c =
    let result = c.from_residual-in_err-lists.result in
    read_after schedules _ _ text_and_value result (schedule_value c.in_ok-parsed.parsed) c.in_ok-parsed.ensures.schedule
    (refused_after list_texts _ _ (λ (lists : List (List ℕ)). lists) text_and_value result c.in_err-lists.field-0.0
    c.from_residual-in_err-lists.ensures.1 c.in_err-lists.ensures)

pub returns-in_err-reports-clause-made : goal.returns-in_err-reports-clause-made
returns-in_err-reports-clause-made g c =
    let result = c.from_residual-in_err-reports.result in
    let parsed = schedule_value c.in_ok-parsed.parsed in
    let lists = map (λ (list : Vec ℕ). list.items) c.in_ok-lists.lists.items in
    let l = layout_of c.args.place [] in
    let fault = c.in_err-reports.field-0.0 in
    read_after schedules _ _ text_and_value result parsed c.in_ok-parsed.ensures.schedule
    (read_after list_texts _ _ text_and_value result lists c.in_ok-lists.ensures
    (unmade (Reports g.K.RingKind.ring g.row.B g.row.M l c.args.finish parsed lists)
    (IsChannelRun g.K.RingKind.ring g.row.B g.row.M l c.args.finish parsed lists)
    reports_in text_and_value result fault (λ r none. none) c.from_residual-in_err-reports.ensures.1
    (subst (λ (ls : List (List ℕ)). AnswersAs (Reports g.K.RingKind.ring g.row.B g.row.M l c.args.finish parsed ls) reports_in (Err fault))
    (ap (map (λ (list : Vec ℕ). list.items)) c.deref.ensures.value) c.in_err-reports.ensures)))

pub returns-clause-made : goal.returns-clause-made
returns-clause-made g c =
    read (schedule_value c.in_ok-parsed.parsed) _ c.in_ok-parsed.ensures.schedule (read _ _ c.in_ok-lists.ensures (record {
      reports = c.in_ok-reports.reports.items;
      is_reported = rw c.deref.ensures.value at c.in_ok-reports.ensures;
      text = c.in_ok-text.ensures ∙ ap (flat_map report_line) c.deref-2.ensures.value;
    }))
