pub mod State
pub mod Effects
pub mod Steps
pub mod Saved
pub mod inner
pub use Rattle.hart.specs.State.{HartState, HartView}
pub use Rattle.hart.specs.Effects.{address, computed, extended, is_taken, load_width, next_pc, pc_after, register_value, register_written, registers_after}
pub use Rattle.hart.specs.Effects.{shifted, sign_extended, store_width, stored, updated, with_immediate, word, written_at}
pub use Rattle.hart.specs.Steps.{access_need, advanced_by, after_instruction, after_meaning, call_need, called, fetched, first_state, given, is_full, jump_need}
pub use Rattle.hart.specs.Steps.{need_for, need_of_meaning, reports_after, restarted, settled, stepped}
unfoldable pub use Rattle.hart.specs.Steps.{advanced, need_of}
pub use Rattle.hart.specs.Saved.{IsOfItsOpening, IsSavedOf, SavedView, put_back}
pub use Rattle.hart.specs.declared.need.Need.{Need}
pub use Rattle.hart.specs.declared.status.Stop.{Stop}
