use Rattle.std.proofs.Common.{sym, subst, ◌∙◌}
use Rattle.step_machine.specs.Names.{OpeningValue, Run}
use Rattle.callers.specs.{spsc_of, AreCallNotes}
use Rattle.callers.proofs.Judged.{none_or_one, one_violation}
use Rattle.callers.proofs.runs.CallersJudgeJudge.judge.Goals as goal

pub returns-clause-good : goal.returns-clause-good
returns-clause-good g c none =
    let it = c.args.self.now in
    let are = subst (λ (x : OpeningValue). AreCallNotes g.row.M x (spsc_of it.located) c.judge.new.machine.history.entries c.in_ok-notes.notes)
    c.requires.0 c.in_ok-notes.ensures.noted in
    record {
      history = c.judge.new.machine.history;
      run = subst (λ (x : OpeningValue). Run g.row.B g.row.M x c.args.events.now c.judge.new.machine.history) c.requires.0 c.in_ok-notes.ensures.run;
      none = sym are.found ∙ none;
    }

pub returns-clause-has : goal.returns-clause-has
returns-clause-has g c violation some =
    let it = c.args.self.now in
    let are = subst (λ (x : OpeningValue). AreCallNotes g.row.M x (spsc_of it.located) c.judge.new.machine.history.entries c.in_ok-notes.notes)
    c.requires.0 c.in_ok-notes.ensures.noted in
    record {
      history = c.judge.new.machine.history;
      run = subst (λ (x : OpeningValue). Run g.row.B g.row.M x c.args.events.now c.judge.new.machine.history) c.requires.0 c.in_ok-notes.ensures.run;
      first = sym are.found ∙ some;
    }

pub returns-clause-noted : goal.returns-clause-noted
returns-clause-noted g c none =
    let it = c.args.self.now in
    let are = subst (λ (x : OpeningValue). AreCallNotes g.row.M x (spsc_of it.located) c.judge.new.machine.history.entries c.in_ok-notes.notes)
    c.requires.0 c.in_ok-notes.ensures.noted in
    record {
      run = subst (λ (x : OpeningValue). Run g.row.B g.row.M x c.args.events.now c.judge.new.machine.history) c.requires.0 c.in_ok-notes.ensures.run;
      are = are.calls;
    }

pub returns-clause-one_flaw : goal.returns-clause-one_flaw
returns-clause-one_flaw g c = one_violation g.row.B g.row.M c.args.self.now.test.now.opening c.args.self.now.located c.args.events.now

pub returns-clause-no_flaw : goal.returns-clause-no_flaw
returns-clause-no_flaw g c = none_or_one g.row.B g.row.M c.args.self.now.test.now.opening c.args.self.now.located c.args.events.now
