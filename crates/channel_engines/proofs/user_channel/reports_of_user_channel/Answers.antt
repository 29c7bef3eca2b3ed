use Rattle.std.proofs.Common.{lit<, ◌∙◌}
use Rattle.std.specs.Global.{Vec}
use Rattle.hart.specs.declared.need.Report.{Report}
use Rattle.step_machine.specs.History.{History}
use Rattle.recorder.specs.Versions.{schedule_value}
use Rattle.poll_close.proofs.Delivering.{channel-fits}
use Rattle.ring_trials.specs.UserChannel.{layout_from, lists_of, ring_of}
use Rattle.channel_engines.specs.inner.{UserReports}
use Rattle.channel_engines.proofs.ChannelLaws.{differs_as, user_reported}
use Rattle.channel_engines.proofs.user_channel.reports_of_user_channel.Goals as goal

pub state_after-requires : goal.state_after-requires
state_after-requires g c =
    let channel = c.args.channel.now in
    let fits = channel-fits (ring_of channel) g.row.M (lists_of channel) (layout_from channel) c.in-Ok.opening c.requires.short c.in-Ok.ensures.accepted
    c.in-Ok.ensures.value in
    (lit< tt, (c.requires.capacity, (c.requires.size, fits)))

pub returns-in_err-machine-in-Ok : goal.returns-in_err-machine-in-Ok
returns-in_err-machine-in-Ok g c =
    let channel = c.args.channel.now in
    differs_as (ring_of channel) g.row.B g.row.M (layout_from channel) (schedule_value c.args.parsed) (lists_of channel) c.in-Ok.opening c.in-Ok.ensures.value
    c.in-Ok.ensures.accepted (UserReports (ring_of channel) g.row.B g.row.M (layout_from channel) (schedule_value c.args.parsed) (lists_of channel))
    (λ (t : History). t) (λ (reports : Vec Report). reports.items) c.from_residual.result c.in_err-machine-in-Ok.field-0.0
    (λ r none. none) c.from_residual.ensures.1 c.in_err-machine-in-Ok.ensures

pub returns-in_ok-from_slice-in-Ok : goal.returns-in_ok-from_slice-in-Ok
returns-in_ok-from_slice-in-Ok g c =
    let channel = c.args.channel.now in
    let ran = c.in_ok-machine-in-Ok.ensures in
    user_reported (ring_of channel) g.row.B g.row.M (layout_from channel) (schedule_value c.args.parsed)
    (lists_of channel) c.in-Ok.opening c.in-Ok.ensures.value
    c.in-Ok.ensures.accepted ran.0 _ ran.1 (c.in_ok-from_slice-in-Ok.ensures.items ∙ c.reports.ensures ran.0 ran.2)
