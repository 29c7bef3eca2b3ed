use Rattle.std.proofs.Common.{◌≡◌, ℕ, ◌+◌, sym, subst, arith, ◌∙◌}
use Rattle.hart_threads.specs.{Continues, Goes}
use Rattle.hart_threads.proofs.GettingOn.{notes_on, same_role, goes_on}
use Rattle.hart_threads.proofs.turns.acting_turns.Goals as goal

pub loop-calls-preserved : goal.loop-calls-preserved
loop-calls-preserved g c =
    let before = c.loop-calls.invariant in
    let made : c.count.new.self.made ≡ c.loop-calls.calls.made + 1 = c.count.ensures.made in
    let on = notes_on c.loop-calls.calls.made c.args.seat.now c.loop-calls.seat c.turn-answer.new.seat
    c.turn-answer.result before.on c.turn-answer.ensures.diary in
    record {
      few = omega arith;
      acts = same_role _ c.args.seat.now c.turn-answer.new.seat on ∙ c.requires;
      on = subst (λ (n : ℕ). Continues n c.args.seat.now c.turn-answer.new.seat) (sym made) on;
      goes = subst (λ (n : ℕ). Goes n c.args.seat.now c.turn-answer.new.seat) (sym made)
          (goes_on c.loop-calls.calls.made c.args.seat.now c.loop-calls.seat c.turn-answer.new.seat
          c.turn-answer.result before.on before.goes c.turn-answer.ensures.diary c.turn-answer.ensures.answers
          (sym c.count.ensures.ending ∙ c.in_default.is));
    }
