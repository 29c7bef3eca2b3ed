use Rattle.std.proofs.Common.{subst}
use Rattle.judged_runs.proofs.telling.StillFlawedQuestion.holds_of.Goals as goal

pub returns-in-Some-clause-holds : goal.returns-in-Some-clause-holds
returns-in-Some-clause-holds g c =
    let judge = c.args.self.now.judge.now in
    let has = c.in_ok-other.ensures.has c.in-Some.other c.in-Some.is in (
      (λ pass. record { other = c.in-Some.other; has = has; alike = c.is_alike.ensures.0 pass }),
      (λ shows. c.is_alike.ensures.1 (subst (g.J.Judge.alike judge c.args.self.now.flaw)
          (c.judge.ensures.one_flaw shows.other c.in-Some.other shows.has has) shows.alike)),
    )

pub returns-in-None-clause-holds : goal.returns-in-None-clause-holds
returns-in-None-clause-holds g c = (
  (λ pass. cc),
  (λ shows. absurd (c.judge.ensures.no_flaw shows.other (c.in_ok-other.ensures.good c.in-None.is) shows.has)),
)
