use Rattle.std.proofs.Common.{◌≡◌, take}
use Rattle.std.specs.List.{flat_map}
use Rattle.std.specs.String.{string_bytes}
use Rattle.channel_engines.specs.Channels.{report_line}
use Rattle.channel_engines.proofs.channel.reports_text.Given as goal

abbrev pub invariant-loop-report : goal.invariant-loop-report
invariant-loop-report l = string_bytes l.text ≡ flat_map report_line (take l.report-index l.reports)
