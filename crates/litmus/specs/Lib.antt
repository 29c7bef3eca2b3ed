pub mod Formulas
pub mod Grammar
pub mod Drafting
pub mod LitmusTests
pub mod Verdicts
pub mod inner
pub use Rattle.litmus.specs.Formulas.{Formula, both, either, formula_of, is, negation, places, steps_of, truth}
pub use Rattle.litmus.specs.Grammar.{Begins, IsConditionOf, Level, Stands, atom, conjunction, disjunction, joined, negated, one_conjunction, one_operand}
pub use Rattle.litmus.specs.Grammar.{operand, parted, places_in}
pub use Rattle.litmus.specs.Drafting.{Group, Stage, all_taken, awaits, completed, conjoined, conjunction_of, disjoined, disjunction_of, empty_group, fault_of}
pub use Rattle.litmus.specs.Drafting.{formula_at, has, negated_by, next_stage, or_misplaced, taken_from, with_symbol}
unfoldable pub use Rattle.litmus.specs.Drafting.{formula_of_symbols, stage_after, symbol_added}
pub use Rattle.litmus.specs.LitmusTests.{IsTest, IsThere, LitmusTest, firsts, is_same, left_sides, litmus_test_of}
pub use Rattle.litmus.specs.Verdicts.{IsFinished, IsFinishedAt, IsVerdict, IsVerdictAt, final_value, is_satisfied, value_there}
pub use Rattle.litmus.specs.inner.Building.{Build, IsWithin, all_closed, and_closed, and_steps, build_at, build_of, empty_mark, end_of, is_empty, is_finished}
pub use Rattle.litmus.specs.inner.Building.{mark_of, marks_around, or_closed, or_steps, steps_around, with_and, with_close, with_operand, with_or}
unfoldable pub use Rattle.litmus.specs.inner.Building.{built}
pub use Rattle.litmus.specs.inner.Running.{AsksThere, all_done, done, step_places}
pub use Rattle.litmus.specs.inner.Seen.{after_place, after_seen, index_of, is_seen, left_to_see}
pub use Rattle.litmus.specs.inner.StepLaws.{formula_of-steps_of}
pub use Rattle.litmus.specs.declared.draft.ConditionError.{ConditionError}
pub use Rattle.litmus.specs.declared.draft.ConditionError.TheVariants.{Misplaced, NoMemory}
pub use Rattle.litmus.specs.declared.symbols.Frame.{Frame}
pub use Rattle.litmus.specs.declared.symbols.Place.{Place}
pub use Rattle.litmus.specs.declared.symbols.Step.{Step}
pub use Rattle.litmus.specs.declared.symbols.Symbol.{Symbol}
pub use Rattle.litmus.specs.declared.verdict.Verdict.{Verdict}
pub use Rattle.litmus.specs.declared.verdict.Verdict.TheVariants.{Fails, Holds, Unfinished}
