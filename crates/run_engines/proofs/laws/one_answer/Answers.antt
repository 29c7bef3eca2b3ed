-- What answers `run`, `replay` and `move` is one answer.
use Rattle.std.proofs.Common.{arith, ◌≡◌, ℕ, List, Some, Result, Ok, Err, sym, ap, ◌∙◌}
use Rattle.step_machine.specs.History.{History}
use Rattle.recorder.specs.{record_text, ScheduleValue}
use Rattle.litmus.specs.LitmusTests.{LitmusTest}
use Rattle.litmus.specs.declared.verdict.Verdict.{Verdict}
use Rattle.litmus.proofs.TestLaws.{one_verdict}
use Rattle.engine_support.specs.declared.fault.Refusal.{Refusal}
use Rattle.engine_support.specs.{Output, AreOneAnswer, AnswersRun}
use Rattle.engine_support.proofs.{alike_by_schedule, equal_alike, one_of_history, same_output, one_record}
use Rattle.run_engines.specs.Run.{IsJudged, IsRunAnswer, IsMoved, IsMoveAnswer, IsReplay, IsReplayAnswer}
use Rattle.run_engines.proofs.laws.one_answer.Goals as goal

one_judged : (M : ℕ) (q : LitmusTest) (t : History) (a b : List ℕ × Verdict) → IsJudged M q t a → IsJudged M q t b → a ≡ b
one_judged M q t a b is other = grind (arith, one_verdict)

one_replayed : (q : LitmusTest) (t : History) (a b : Output) → IsReplay q t a → IsReplay q t b → a ≡ b
one_replayed q t a b is other = same_output a b (is ∙ sym other)

module _ (B M : ℕ) where
  one_moved : (q : LitmusTest) (parsed : ScheduleValue) (a b : Result Output Refusal) → IsMoved B M q parsed a → IsMoved B M q parsed b → AreOneAnswer a b
  one_moved q parsed (Ok a) (Ok b) (steps, records, is, read) (others, also, other, again) =
      let records_same = one_record B M q.opening parsed (Ok steps) (Ok others) records also in
      let same : steps ≡ others = cc in
      same_output a b (is ∙ ap record_text same ∙ sym other)
  one_moved q parsed (Ok a) (Err s) (steps, records, is, read) differs = equal_alike _ _ (one_record B M q.opening parsed (Ok steps) (Err s) records differs)
  one_moved q parsed (Err r) (Ok b) differs (steps, records, is, read) = equal_alike _ _ (one_record B M q.opening parsed (Err r) (Ok steps) differs records)
  one_moved q parsed (Err r) (Err s) differs other = equal_alike _ _ (one_record B M q.opening parsed (Err r) (Err s) differs other)

  one_run : (file schedule : List ℕ) (a b : Result (List ℕ × Verdict) Refusal) → IsRunAnswer B M (Some file) (Some schedule) a
      → IsRunAnswer B M (Some file) (Some schedule) b → AreOneAnswer a b
  one_run = alike_by_schedule AreOneAnswer (λ r s e. e) (AnswersRun B M (IsJudged M)) (one_of_history B M (IsJudged M) (one_judged M))

  one_replay : (file schedule : List ℕ) (a b : Result Output Refusal) → IsReplayAnswer B M (Some file) (Some schedule) a
      → IsReplayAnswer B M (Some file) (Some schedule) b → AreOneAnswer a b
  one_replay = alike_by_schedule AreOneAnswer (λ r s e. e) (AnswersRun B M IsReplay) (one_of_history B M IsReplay one_replayed)

  one_move : (file schedule : List ℕ) (a b : Result Output Refusal)
      → IsMoveAnswer B M (Some file) (Some schedule) a → IsMoveAnswer B M (Some file) (Some schedule) b → AreOneAnswer a b
  one_move = alike_by_schedule AreOneAnswer (λ r s e. e) (IsMoved B M) one_moved

pub returns-clause-run : goal.returns-clause-run
returns-clause-run c = one_run

pub returns-clause-replay : goal.returns-clause-replay
returns-clause-replay c = one_replay

pub returns-clause-moved : goal.returns-clause-moved
returns-clause-moved c = one_move
