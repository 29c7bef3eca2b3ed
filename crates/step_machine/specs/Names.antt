-- The names of this crate that proofs cite, which import them from here: some are those of files, so Lib can't pass them on.
pub use Rattle.step_machine.specs.Access.{Access, IsInRange, IsPlace, access_of, exchange, fence, is_memory, land, load, memory_of, nothing, store}
pub use Rattle.step_machine.specs.History.{FitsIn, HartOpeningValue, History, HistoryWithRoom, IsShort, OpeningValue, at_opening, history_of, up_to, with_entry}
pub use Rattle.step_machine.specs.Entries.{hart_of, is_land, is_landing, is_own, land_of, landed, landed_after, landed_by, landed_by_count}
pub use Rattle.step_machine.specs.Entries.{landed_by_count_after, lands, memory_byte, memory_word, opening_byte, own, own_store, own_stores, pending, read}
pub use Rattle.step_machine.specs.Entries.{read_byte, report_of, reported, stored_by, write_by_count, write_of, written_by}
pub use Rattle.step_machine.specs.Paths.{CanMake, MakesEntries, Path, PathOf, after_entries, number_read, opens_as, state_of}
pub use Rattle.step_machine.specs.Legal.{Allowed, AllowedBy, IsOfHarts, Legal, LegalAfter, WellFormed}
pub use Rattle.step_machine.specs.Runs.{Adds, CanFollow, Happens, Idles, IsFor, IsOwnRun, NoEntry, Run, RunFrom, event_of, idle, idle_in, idle_of}
pub use Rattle.step_machine.specs.WordReads.{AllWriteWords, OpensWithWords, WritesWord, word_in_memory, word_read}
pub use Rattle.step_machine.specs.inner.Config.{AllHaveRoom, Config, Fit, IsNext, SameButRoom, act_in, act_outcome, after_entry, after_outcome, beginning}
pub use Rattle.step_machine.specs.inner.Config.{entries_after, harts_after, land_outcome, opened_config, opened_hart, outcome_of, restarted_config, step_at}
pub use Rattle.step_machine.specs.inner.Config.{step_hart, view_state, without_room}
pub use Rattle.step_machine.specs.inner.Representation.{IsBankAt, IsMachineAt, Represents, StoresRepresent}
pub use Rattle.step_machine.specs.inner.Restored.{AreWithin, restored_config, restored_harts, restored_stored}
pub use Rattle.step_machine.specs.inner.Stored.{FitStored, HasAddress, InMemory, Stored, buffer_of, found, found_byte, if_waits, is_empty, land_in, no_stores}
pub use Rattle.step_machine.specs.inner.Stored.{opened_stored, outcome_for, restarted_stored, stored_after, stored_after_outcome, word_at, write_first, written}
pub use Rattle.step_machine.specs.Placing.{IsMemoryEntry, IsOwn, Parts, diary_of, in_turn, inner_front, past_memory, placed, shortened}
pub use Rattle.step_machine.specs.Banks.{BankView, Does, IsMet, IsServed, Lands, Serves, asks_memory, banked, is_marked, is_over, opened_bank, with_banked}
pub use Rattle.step_machine.specs.Banks.{words_alone}
pub use Rattle.step_machine.specs.Standing.{BeginsAnew, ForEachHistory, MovesBy, RepresentsHistory, RepresentsRunFrom}
pub use Rattle.step_machine.specs.Positions.{AreOfOneOpening, Change, IsPositionOf, IsSoundHart, IsSoundMachine, Position, act_at, advanced_at, land_at}
pub use Rattle.step_machine.specs.Positions.{next_position, opening_position, outcome_at, packed, packed_buffer, packed_hart, packed_stored, pair_words}
pub use Rattle.step_machine.specs.Positions.{position_after, position_of, put_at, states_after, status_named, status_number, store_words, unless_same}
pub use Rattle.step_machine.specs.Positions.{unpacked_buffer, unpacked_buffers, unpacked_changes, unpacked_hart, unpacked_harts, unpacked_stored}
pub use Rattle.step_machine.specs.Positions.{unpacked_stores, with_store, with_words}
unfoldable pub use Rattle.step_machine.specs.Positions.{changed}
pub use Rattle.step_machine.specs.Snapshots.{AreSaved, IsSavedFrom, IsTakenAt, SnapshotView}
pub use Rattle.step_machine.specs.Parts.{packed_part, packed_part_of}
pub use Rattle.step_machine.specs.declared.events.Entry.{Entry}
pub use Rattle.step_machine.specs.declared.events.Event.{Event}
pub use Rattle.step_machine.specs.declared.events.Outcome.{Outcome}
pub use Rattle.step_machine.specs.declared.packed.Head.{Head}
