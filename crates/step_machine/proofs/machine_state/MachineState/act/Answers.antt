-- The hart in its place, its status and what it needs.
use Rattle.std.proofs.Common.{◌≡◌, ◌<◌, ◌∙◌, length, get_or, refl, sym, ap, subst, arith, lit<}
use Rattle.hart.specs.declared.status.Status.TheVariants as status
use Rattle.step_machine.specs.Names.{IsInRange, outcome_for, Config, Fit, IsNext}
use Rattle.step_machine.proofs.Fitting.{ready_in_place, act_outcome-status}
use Rattle.step_machine.proofs.machine_state.MachineState.act.Goals as goal

pub meet-requires : goal.meet-requires
meet-requires g c =
    let within : c.args.hart < length c.args.self.now.harts = subst (λ (k : Config). c.args.hart < length k.harts) c.self.view_is (omega arith) in
    let here : c.index-here.result.now ≡ get_or c.args.self.now.harts c.args.hart c.index-here.result.now =
    subst (λ (k : Config). c.index-here.result.now ≡ get_or k.harts c.args.hart c.index-here.result.now)
    c.self.view_is c.index-here.ensures in
    let fit : Fit g.row.M c.args.self.now = subst (Fit g.row.M) c.self.view_is c.self.invariant.1 in
    let ready : IsNext c.args.self.now c.args.hart c.next_need-need.result
    × (c.args.hart < length c.args.self.now.harts) × IsInRange g.row.M c.next_need-need.result =
    ready_in_place g.row.M c.args.self.now c.args.hart c.index-here.result.now c.next_need-need.result within here
    (sym c.in-Running.ensures) c.next_need-need.ensures c.requires.room fit in
    (lit< tt, (ready.0, (ready.1, ready.2)))

pub returns-in-Running-clause-outcome : goal.returns-in-Running-clause-outcome
returns-in-Running-clause-outcome g c =
    let within : c.args.hart < length c.args.self.now.harts = subst (λ (k : Config). c.args.hart < length k.harts) c.self.view_is (omega arith) in
    let here : c.index-here.result.now ≡ get_or c.args.self.now.harts c.args.hart c.index-here.result.now =
    subst (λ (k : Config). c.index-here.result.now ≡ get_or k.harts c.args.hart c.index-here.result.now)
    c.self.view_is c.index-here.ensures in
    c.meet.ensures.outcome
    ∙ ap (outcome_for g.row.B c.args.self.now.stored c.args.hart) c.next_need-need.ensures
    ∙ sym (act_outcome-status g.row.B c.args.self.now c.args.hart c.index-here.result.now status.Running within here (sym c.in-Running.ensures))

pub returns-in-Ended : goal.returns-in-Ended
returns-in-Ended g c =
    let within : c.args.hart < length c.args.self.now.harts = subst (λ (k : Config). c.args.hart < length k.harts) c.self.view_is (omega arith) in
    let here : c.index-here.result.now ≡ get_or c.args.self.now.harts c.args.hart c.index-here.result.now =
    subst (λ (k : Config). c.index-here.result.now ≡ get_or k.harts c.args.hart c.index-here.result.now)
    c.self.view_is c.index-here.ensures in
    record {
      outcome =
          sym (act_outcome-status g.row.B c.args.self.now c.args.hart c.index-here.result.now status.Ended within here
          (sym c.in-Ended.ensures));
      after = refl;
    }

pub returns-in-Stopped : goal.returns-in-Stopped
returns-in-Stopped g c =
    let within : c.args.hart < length c.args.self.now.harts = subst (λ (k : Config). c.args.hart < length k.harts) c.self.view_is (omega arith) in
    let here : c.index-here.result.now ≡ get_or c.args.self.now.harts c.args.hart c.index-here.result.now =
    subst (λ (k : Config). c.index-here.result.now ≡ get_or k.harts c.args.hart c.index-here.result.now)
    c.self.view_is c.index-here.ensures in
    record {
      outcome =
          sym (act_outcome-status g.row.B c.args.self.now c.args.hart c.index-here.result.now (status.Stopped _) within
          here (sym c.in-Stopped.ensures));
      after = refl;
    }
