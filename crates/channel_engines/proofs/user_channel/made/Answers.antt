use Rattle.std.proofs.Common.{ℕ, List, [], map, ap, ◌∙◌}
use Rattle.std.specs.Global.{Vec}
use Rattle.std.specs.List.{flat_map}
use Rattle.hart.specs.declared.need.Report.{Report}
use Rattle.recorder.specs.Versions.{ScheduleValue, schedule_value}
use Rattle.poll_close.specs.Layout.{layout_of}
use Rattle.engine_support.specs.declared.fault.Role.TheVariants.{Sender, Receiver}
use Rattle.engine_support.specs.{read, schedules, text_and_value}
use Rattle.engine_support.proofs.InputLaws.{read_after, refused_after, unmade}
use Rattle.channel_engines.specs.Channels.{report_line}
use Rattle.channel_engines.specs.Lists.{list_texts}
use Rattle.channel_engines.specs.UserChannels.{IsUserRun, ring_over, programs}
use Rattle.channel_engines.specs.inner.{UserReports}
use Rattle.channel_engines.proofs.user_channel.made.Goals as goal

abbrev code_of : Vec ℕ → List ℕ
code_of code = code.items

pub returns-in_err-sender-clause-made : goal.returns-in_err-sender-clause-made
returns-in_err-sender-clause-made g c =
    refused_after (programs Sender) _ _ code_of text_and_value c.from_residual.result c.in_err-sender.field-0.0
    c.from_residual.ensures.1 c.in_err-sender.ensures.program

pub returns-in_err-receiver-clause-made : goal.returns-in_err-receiver-clause-made
returns-in_err-receiver-clause-made g c =
    let result = c.from_residual-in_err-receiver.result in
    read_after (programs Sender) _ _ text_and_value result c.in_ok-sender.sender.items c.in_ok-sender.ensures.program
    (refused_after (programs Receiver) _ _ code_of text_and_value result c.in_err-receiver.field-0.0
    c.from_residual-in_err-receiver.ensures.1 c.in_err-receiver.ensures.program)

pub returns-in_err-parsed-clause-made : goal.returns-in_err-parsed-clause-made
returns-in_err-parsed-clause-made g c =
    let result = c.from_residual-in_err-parsed.result in
    read_after (programs Sender) _ _ text_and_value result c.in_ok-sender.sender.items c.in_ok-sender.ensures.program
    (read_after (programs Receiver) _ _ text_and_value result c.in_ok-receiver.receiver.items c.in_ok-receiver.ensures.program
    (refused_after schedules _ _ (λ (parsed : ScheduleValue). parsed) text_and_value result c.in_err-parsed.field-0.0
    c.from_residual-in_err-parsed.ensures.1 c.in_err-parsed.ensures.schedule))

pub returns-in_err-lists-clause-made : goal.returns-in_err-lists-clause-made
returns-in_err-lists-clause-made g c =
    let result = c.from_residual-in_err-lists.result in
    read_after (programs Sender) _ _ text_and_value result c.in_ok-sender.sender.items c.in_ok-sender.ensures.program
    (read_after (programs Receiver) _ _ text_and_value result c.in_ok-receiver.receiver.items c.in_ok-receiver.ensures.program
    (read_after schedules _ _ text_and_value result (schedule_value c.in_ok-parsed.parsed) c.in_ok-parsed.ensures.schedule
    (refused_after list_texts _ _ (λ (ls : List (List ℕ)). ls) text_and_value result c.in_err-lists.field-0.0
    c.from_residual-in_err-lists.ensures.1 c.in_err-lists.ensures)))

pub returns-in_err-reports-clause-made : goal.returns-in_err-reports-clause-made
returns-in_err-reports-clause-made g c =
    let result = c.from_residual-in_err-reports.result in
    let ring = ring_over c.in_ok-sender.sender.items c.in_ok-receiver.receiver.items in
    let l = layout_of c.args.place [] in
    let parsed = schedule_value c.in_ok-parsed.parsed in
    let words = map (λ (list : Vec ℕ). list.items) c.in_ok-lists.lists.items in
    read_after (programs Sender) _ _ text_and_value result c.in_ok-sender.sender.items c.in_ok-sender.ensures.program
    (read_after (programs Receiver) _ _ text_and_value result c.in_ok-receiver.receiver.items c.in_ok-receiver.ensures.program
    (read_after schedules _ _ text_and_value result (schedule_value c.in_ok-parsed.parsed) c.in_ok-parsed.ensures.schedule
    (read_after list_texts _ _ text_and_value result words c.in_ok-lists.ensures
    (unmade (UserReports ring g.row.B g.row.M l parsed words) (IsUserRun ring g.row.B g.row.M l parsed words) (λ (reports : Vec Report). reports.items)
    text_and_value result c.in_err-reports.field-0.0 (λ r none. none)
    c.from_residual-in_err-reports.ensures.1 c.in_err-reports.ensures))))

pub returns-clause-made : goal.returns-clause-made
returns-clause-made g c =
    read c.in_ok-sender.sender.items _ c.in_ok-sender.ensures.program (read c.in_ok-receiver.receiver.items _ c.in_ok-receiver.ensures.program
    (read (schedule_value c.in_ok-parsed.parsed) _ c.in_ok-parsed.ensures.schedule (read _ _ c.in_ok-lists.ensures (record {
      reports = c.in_ok-reports.reports.items;
      is_reported = c.in_ok-reports.ensures;
      text = c.in_ok-text.ensures ∙ ap (flat_map report_line) c.deref.ensures.value;
    }))))
