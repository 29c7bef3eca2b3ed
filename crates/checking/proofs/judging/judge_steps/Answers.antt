use Rattle.std.proofs.Common.{◌∙◌, ap, arith, length}
use Rattle.step_machine.specs.History.{OpeningValue}
use Rattle.checking.specs.Judgements.IsRecordJudged.{of_run}
use Rattle.checking.proofs.Differences.{difference_judged, ok_any, ok_more}
use Rattle.checking.proofs.judging.judge_steps.Goals as goal

pub judge_end-requires : goal.judge_end-requires
judge_end-requires g c =
    let ran = rw c.in-None.is at (c.in_ok-first_difference.ensures.follows c.args.test.now.opening c.requires.stands) in
    (omega arith, (ran.2.count ∙ ap (λ (o : OpeningValue). length o.harts) ran.3, c.requires.names))

pub returns-in-None-clause-judged : goal.returns-in-None-clause-judged
returns-in-None-clause-judged g c =
    let ran = rw c.in-None.is at (c.in_ok-first_difference.ensures.follows c.args.test.now.opening c.requires.stands) in
    ok_more c.judge_end.result _ _ (λ judgement ends. of_run _ (record { history = ran.0; ran = ran.1; ends = ends ran.0 ran.2 })) c.judge_end.ensures

pub returns-in-None-clause-stands : goal.returns-in-None-clause-stands
returns-in-None-clause-stands g c =
    let ran = rw c.in-None.is at (c.in_ok-first_difference.ensures.follows c.args.test.now.opening c.requires.stands) in
    ok_any c.judge_end.result _ (ran.0, ran.2, ran.3)

pub returns-in-Some-clause-judged : goal.returns-in-Some-clause-judged
returns-in-Some-clause-judged g c =
    let found = rw c.in-Some.is at (c.in_ok-first_difference.ensures.follows c.args.test.now.opening c.requires.stands) in
    let within = rw c.in-Some.is at c.in_ok-first_difference.ensures.within in
    difference_judged g.row.B g.row.M c.args.test.now c.args.text.now c.args.steps.now c.in-Some.event c.line_of_event.result _ c.in-Some.found
    found.0 found.1 within c.line_of_event.ensures

pub returns-in-Some-clause-stands : goal.returns-in-Some-clause-stands
returns-in-Some-clause-stands g c =
    let found = rw c.in-Some.is at (c.in_ok-first_difference.ensures.follows c.args.test.now.opening c.requires.stands) in found.2
