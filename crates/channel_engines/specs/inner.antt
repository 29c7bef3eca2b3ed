-- What serves the proofs alone, where a private contract names it.
use Rattle.std.specs.Prelude.{ℕ, Bool, List, Result, Ok, Err}
use Rattle.hart.specs.declared.need.Report.{Report}
use Rattle.recorder.specs.Versions.{ScheduleValue}
use Rattle.poll_close.specs.Layout.{Layout}
use Rattle.poll_close.specs.Laws.{Ring}
use Rattle.engine_support.specs.declared.fault.Refusal.{Refusal}
use Rattle.channel_engines.specs.Channels.{IsReported, IsUnreported}
use Rattle.channel_engines.specs.UserChannels.{IsUserReported}

-- the reports, or why there are none
abbrev pub Reports : (ring : Ring) (B M : ℕ) (l : Layout) (finish : Bool) (parsed : ScheduleValue)
    (lists : List (List ℕ)) → Result (List Report) Refusal → Type 0
Reports ring B M l finish parsed lists (Ok reports) = IsReported ring B M l finish parsed lists reports
Reports ring B M l finish parsed lists (Err refusal) = IsUnreported ring B M l parsed lists refusal

-- what the receiver of a user's own channel reports, or why nothing
abbrev pub UserReports : (ring : Ring) (B M : ℕ) (l : Layout) (parsed : ScheduleValue) (lists : List (List ℕ)) → Result (List Report) Refusal → Type 0
UserReports ring B M l parsed lists (Ok reports) = IsUserReported ring B M l parsed lists reports
UserReports ring B M l parsed lists (Err refusal) = IsUnreported ring B M l parsed lists refusal
