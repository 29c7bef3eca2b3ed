pub mod Appended
pub mod Follows
pub mod Decides
pub mod Happening
pub mod Stays
pub mod Carried
pub mod Running
pub mod Fitting
pub mod Rooms
pub mod Opens
pub mod Restarts
pub mod Standings
pub mod Landings
pub mod WordReads
pub mod OwnRuns
pub mod Acts
pub mod States
pub mod MemoryAlone
pub mod Placing
pub mod Banking
pub mod Changed
pub mod Snapshots
pub mod Unpacked
pub mod Packing
pub mod Nexts
pub mod TakingLaws
pub mod PositionLaws
pub mod Lines
pub mod Modulo
pub use Rattle.step_machine.proofs.Appended.{LegalAfter-append, LegalAfter-back, LegalAfter-front, entry_there, landed-last, landed_after-append, lands-append}
pub use Rattle.step_machine.proofs.Appended.{own-append, pending-last, reported-last, stores-append}
pub use Rattle.step_machine.proofs.Follows.{Legal-last, Path-hart, Path-last, act_only, advance_by, land_follows, state_after, state_of-mine, state_of-other}
pub use Rattle.step_machine.proofs.Decides.{need_of-in_range}
pub use Rattle.step_machine.proofs.Happening.{history_after}
pub use Rattle.step_machine.proofs.Stays.{land_of-other, memory_byte-other, memory_byte-write, pending-land, pending-other, report_of-other}
pub use Rattle.step_machine.proofs.Stays.{slice_get-set_other, slice_get-set_same, states_land, store_of-other}
pub use Rattle.step_machine.proofs.Running.{RunFrom-more, happens-one, hart_follows, kept-at_opening, kept-happens, opening-happens, opening-run, opening_kept}
pub use Rattle.step_machine.proofs.Running.{run-one, shape_of}
pub use Rattle.step_machine.proofs.Fitting.{fit_step}
pub use Rattle.step_machine.proofs.Standings.{hart_at, sound_happens, sound_stepped}
pub use Rattle.step_machine.proofs.Landings.{balanced, balanced-after, balanced-last, landed-counted}
pub use Rattle.step_machine.proofs.WordReads.{AllWriteWords-append, memory-word, word_in_memory-other, word_in_memory-write}
pub use Rattle.step_machine.proofs.OwnRuns.{added, kept-front, own_run, state_there}
pub use Rattle.step_machine.proofs.Acts.{HasToWait, decide, does, happens_some}
pub use Rattle.step_machine.proofs.States.{state_keeps}
pub use Rattle.step_machine.proofs.Placing.{land_other}
pub use Rattle.step_machine.proofs.Changed.{some_first}
pub use Rattle.step_machine.proofs.Packing.{HasOwnCode, hart_back, stores-back}
pub use Rattle.step_machine.proofs.Nexts.{next_is, outcome_is}
pub use Rattle.step_machine.proofs.PositionLaws.{end_is, first_after}
pub use Rattle.step_machine.proofs.Lines.{load_line, loads, other_goes_on, same_jumps, sum_line, word-plus}
pub use Rattle.step_machine.proofs.Modulo.{mod_apart, offset_step, offset_wrap, same_offset}
