-- The names of this crate that the proofs of a ring cite, passed on from one place. Declares nothing.
pub use Rattle.rv_decode.specs.Listings.{words_of, lines_of}
pub use Rattle.poll_close.specs.Laws.{Ring}
pub use Rattle.poll_close.specs.Rankings.{Decreases, rank_of, next_by, runs}
pub use Rattle.poll_close.specs.Invariant.Blocks.{SenderBlock, offset, slot, slot_store, tail_store, window}
pub use Rattle.poll_close.specs.Invariant.HartStates.{SenderRegisters}
pub use Rattle.poll_close.specs.Invariant.Outlines.{Standing, Reasons, stands, SenderIs}
pub use Rattle.poll_close.specs.Invariant.BlockInvariant.{unsent_of, unread_of}
pub use Rattle.poll_close.specs.Invariant.Channels.{means_by}
pub use Rattle.poll_close.proofs.Windows.{none_left, singles-length, pairs-length}
pub use Rattle.poll_close.proofs.BlockLaws.{in_memory, newest_found}
pub use Rattle.poll_close.proofs.Blocks.{IsBlock, Within, offset_low, base_plus, base_word, word_of, word_from, slot_of, slot_at}
pub use Rattle.poll_close.proofs.BlockLaws.{BlockLaws, Begins, Stepped, opens_with, found_in}
pub use Rattle.poll_close.proofs.Outlines.{Sender, Right, ◌&◌, stands_at, base_is, has_ended, nearer, sends}
pub use Rattle.poll_close.proofs.SenderRows.{Rows, rows}
pub use Rattle.poll_close.proofs.ChannelLaws.{AllLaws, all_laws}
pub use Rattle.poll_close.proofs.Distance.{BlockProgress}
pub use Rattle.poll_close.proofs.Progress.{ranking_decreases}
pub use Rattle.poll_close.proofs.MayLoad.{AllMayLoad, may_load}
