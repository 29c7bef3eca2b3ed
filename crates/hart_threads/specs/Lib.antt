pub mod Seats
pub mod Missing
pub mod Parts
pub mod Records
pub mod GettingOn
pub mod Returns
pub mod Faults
pub mod inner
pub use Rattle.hart_threads.specs.Seats.{ActsIn, ActsOn, AnswersAct, AsksBank, CanAct, CanLand, Continues, IsBank, Notes, SeatView, acting_seat, landing_seat}
pub use Rattle.hart_threads.specs.Seats.{may_wait, seats_below, seats_of, state_in}
pub use Rattle.hart_threads.specs.Missing.{IsComplete, IsFirst, acts_for, is_seated, lands_for, sits_at}
unfoldable pub use Rattle.hart_threads.specs.Missing.{is_missing}
pub use Rattle.hart_threads.specs.Parts.{ActsAmong, ArePlaced, Belongs, BelongsAs, HasPart, HasPartAs, HoldsPart, IsLeast, Merge, acting_diary, diaries_of}
pub use Rattle.hart_threads.specs.Parts.{is_landing_of, landings, own_lists, part_of}
pub use Rattle.hart_threads.specs.Records.{IsRecord, Refuses}
pub use Rattle.hart_threads.specs.GettingOn.{AllGetOn, AtMost, GetsOn, OpensAs, SeatGetsOn}
pub use Rattle.hart_threads.specs.GettingOn.GetsOn.{goes, over, waits}
pub use Rattle.hart_threads.specs.Returns.{ChannelFailsAt, Fails, GrowsInto, IsLost, IsMerged, RecordFails}
pub use Rattle.hart_threads.specs.Faults.{channel_fault_at, fault_of}
pub use Rattle.hart_threads.specs.inner.{Found, Goes, GotOn, IsOnPath, MayHaveWaited, Ran, WhereDone, counting_entries, ending_by, ending_of, keeps, lesser}
pub use Rattle.hart_threads.specs.declared.fault.ChannelFault.{ChannelFault}
pub use Rattle.hart_threads.specs.declared.record.Gather.{Gather}
pub use Rattle.hart_threads.specs.declared.record.Record.{Record}
pub use Rattle.hart_threads.specs.declared.turns.Calls.{Calls}
pub use Rattle.hart_threads.specs.declared.turns.Ending.{Ending}
