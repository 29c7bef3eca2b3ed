use Rattle.std.proofs.Common.{get_or, refl, ap, subst, arith}
use Rattle.std.specs.Prelude.{All}
use Rattle.std.proofs.lemmas.List.{take_all}
use Rattle.std.proofs.lemmas.List.Elements.{All-nil}
use Rattle.hart.specs.{IsOfItsOpening, HartView}
use Rattle.step_machine.specs.Positions.{unpacked_hart, unpacked_harts}
use Rattle.step_machine.proofs.TakingLaws.{taken_none, taken_more, taken_all, all_written}
use Rattle.step_machine.proofs.machine_state.packing.take_harts.Goals as goal

pub loop-hart-init : goal.loop-hart-init
loop-hart-init c = record { taken = taken_none unpacked_harts c.args.harts.now c.args.words.now; own = All-nil IsOfItsOpening }

pub loop-hart-preserved : goal.loop-hart-preserved
loop-hart-preserved c =
    let here : HartView = get_or c.loop-hart.harts c.loop-hart.hart-index c.hart-item.result in
    record {
      taken = taken_more unpacked_harts unpacked_hart c.args.harts.now c.loop-hart.harts (λ x xs ws. refl) c.loop-hart.hart-index here c.take_hart-rest.new.hart
          c.args.words.now c.loop-hart.rest.now c.take_hart-rest.result.now (omega arith) (omega arith)
          (ap (get_or c.loop-hart.harts c.loop-hart.hart-index) c.hart-item.is)
          c.take_hart-rest.ensures.hart c.take_hart-rest.ensures.rest c.loop-hart.invariant.taken;
      own = all_written IsOfItsOpening c.loop-hart.harts c.loop-hart.hart-index c.take_hart-rest.new.hart (omega arith)
          c.loop-hart.invariant.own c.take_hart-rest.ensures.own;
    }

pub returns : goal.returns
returns c =
    let all =
    taken_all unpacked_harts unpacked_hart c.args.harts.now c.loop-hart.harts (λ ws. refl) c.loop-hart.hart-index
    c.args.words.now c.loop-hart.rest.now (omega arith) (omega arith) c.loop-hart.invariant.taken in
    record {
      harts = all.0;
      own = subst (All IsOfItsOpening) (take_all c.loop-hart.hart-index c.loop-hart.harts (omega arith)) c.loop-hart.invariant.own;
      rest = all.1;
    }
