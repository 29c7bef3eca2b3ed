pub mod Stays
pub mod Rows
pub mod Harts
pub mod Told
pub mod Falling
pub mod Progress
pub mod Laws
pub use Rattle.queue_progress.specs.Stays.{all_further, code_of, follow_further, is_further, looks, most_owned, moves}
pub use Rattle.queue_progress.specs.Rows.{Arrives, Comes, EachAfter, EachOwn, GoesWithin, HasEnded, HaveLanded, IsBlindStep, IsIdleStep, IsStuckAt, IsStuckStep}
pub use Rattle.queue_progress.specs.Rows.{Lasts, LooksBy, MovesAfter, MovesOn, MovesOnOrEnds, KeepsRunning, RunsOrEnds, all_moved, counts_at}
pub use Rattle.queue_progress.specs.Rows.{executed, moved_at}
pub use Rattle.queue_progress.specs.Harts.{HasMoreWhereItLooks, IsHartBlind, IsHartIdle, IsHartStuck, LeavesCounts, differs, differs_at, each_lacking}
pub use Rattle.queue_progress.specs.Harts.{fewest_owned, has_more, has_more_of_all, is_among, is_side, lesser, moves_some, owns_more, sides}
pub use Rattle.queue_progress.specs.Told.{HasToWait, IsToldStuck, TagsHaveLanded, is_load, learns, may_learn, slots_at}
pub use Rattle.queue_progress.specs.Told.{teller_at, told_counts_at, told_moved_at}
pub use Rattle.queue_progress.specs.Laws.{BothGo, BothTell}
pub use Rattle.queue_progress.specs.Falling.{all_fall, are_below, are_ranks, bound_of, each_ranked, falls, first_level, follow_fall, greater}
pub use Rattle.queue_progress.specs.Falling.{greatest_below, is_less, keeps_looking, keeps_pace, leaf_falls, most_rank, never_cut, not_blind}
pub use Rattle.queue_progress.specs.Falling.{not_hart_blind, not_hart_idle, not_idle, option_or_zero, rank_at, state_falls}
pub use Rattle.queue_progress.specs.Progress.{blind_ranks, goal_of, hart_keeps_going, hart_pace_by, hart_pace_of, idle_ranks, is_few}
pub use Rattle.queue_progress.specs.Progress.{keeps_going, lacking_ranks, pace_owning, progress_of, progress_owning, progress_with, row_bound, row_by}
pub use Rattle.queue_progress.specs.Progress.{together_ranks, told_by, told_progress_of, told_ranks, told_within}
pub use Rattle.queue_progress.specs.declared.pace.Pace.{Pace}
pub use Rattle.queue_progress.specs.declared.pace.Placed.{Placed}
pub use Rattle.queue_progress.specs.declared.pace.ToldProgress.{ToldProgress}
