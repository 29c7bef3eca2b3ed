use Rattle.std.proofs.Common.{◌≡◌, List, subst, arith}
use Rattle.std.specs.List.{AllZip}
use Rattle.hart_threads.specs.{SeatView, Ran}
use Rattle.hart_threads.proofs.Coming.{zip_before}
use Rattle.hart_threads.proofs.GettingOn.{same_run}
use Rattle.hart_threads.proofs.harts.fn.run_all.scope.Goals as goal

pub returns : goal.returns
returns g c = record {
  few = omega (arith, c.join_all.ensures.few, c.start_all-handles.ensures.few);
  refused = λ refused. omega (arith, c.join_all.ensures.few, c.start_all-handles.ensures.refused refused);
  ran = λ started.
      subst (λ (xs : List SeatView). AllZip (λ s r. Ran (g.G.Gate.is_open c.captures.gate.now) c.captures.turns s r.1 r.2 r.0.seat) xs c.join_all.result.items)
      (c.start_all-handles.ensures.same started)
      (zip_before (λ h r. Ran (g.G.Gate.is_open h.promise.gate.value) h.promise.turns h.promise.given.value.seat r.1 r.2 r.0.seat)
      (λ s r. Ran (g.G.Gate.is_open c.captures.gate.now) c.captures.turns s r.1 r.2 r.0.seat)
      (λ h. (h.promise.gate.value ≡ c.captures.gate.now) × (h.promise.turns ≡ c.captures.turns))
      (λ h. h.promise.given.value.seat)
      (λ h r ran asked. same_run g.G.Gate.is_open _ _ _ _ _ _ _ _ asked.0 asked.1 ran)
      c.start_all-handles.result.0.items c.join_all.result.items c.join_all.ensures.kept c.start_all-handles.ensures.asked);
}
