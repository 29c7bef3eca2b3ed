pub mod Trials
pub mod Outcomes
pub mod inner
pub use Rattle.sampling.specs.Trials.{AreDrawnTrials, AreTrials, IsTrial, Trial, are_good, gave, is_fails, is_finished, is_holds}
pub use Rattle.sampling.specs.Outcomes.{IsTried, IsTryAnswer, first_schedule, first_schedule_text, first_unfinished, is_left, last_line, outcome_with_count}
pub use Rattle.sampling.specs.Outcomes.{schedule_text, shown_by, unfinished}
pub use Rattle.sampling.specs.inner.Merging.{AreRunsFrom, IsTallyFrom, Merges, TestSource}
pub use Rattle.sampling.specs.inner.Stops.{MOST_TIMES, first_stopped, is_at, stop_place, stopped_by}
pub use Rattle.sampling.specs.inner.Tallies.{IsTallyOf, Tallies, end_after, good_by, left_name, name_of_run, text_and_good}
pub use Rattle.sampling.specs.inner.Transitions.{AreEndings, AreNumbered, AreOfHarts, AreRows, AreTransitions, EndsAt, Grows, IsEndingAt, IsEndingOf, IsGrown}
pub use Rattle.sampling.specs.inner.Transitions.{IsLedTo, IsOffsetAt, IsReady, LeadsTo, Setup, harts_of, history_at, offset_of, setup, width_of}
pub use Rattle.sampling.specs.declared.stops.Stopped.{Stopped}
pub use Rattle.sampling.specs.declared.trials.outcomes.Unfinished.{Unfinished}
pub use Rattle.sampling.specs.declared.trials.tally.Tally.{Tally}
pub use Rattle.sampling.specs.declared.trials.transitions.Ending.{Ending}
pub use Rattle.sampling.specs.declared.trials.transitions.Transitions.{Transitions}
