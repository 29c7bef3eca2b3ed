use Rattle.std.proofs.Common.{◌≡◌, ℕ, ◌+◌, drop, ◌≤◌, ◌<◌, ◌++◌, List, Option, length, sym, ◌∙◌, ap, subst, arith}
use Rattle.std.proofs.lemmas.List.{with_items_is}
use Rattle.std.specs.Vec.{with_items}
use Rattle.step_machine.specs.Entries.{lands}
use Rattle.ztso_axioms.specs.Performed.{store_places, left_places, left_below, hart_bound}
use Rattle.ztso_axioms.specs.inner.Landings.{NamesLandings, AddsLandings}
use Rattle.ztso_axioms.proofs.Walks.{left_more, names_more, bound_reached}
use Rattle.ztso_axioms.proofs.performing.landings_of.Goals as goal

pub loop-hart-smaller : goal.loop-hart-smaller
loop-hart-smaller c =
    let from : c.loop-hart.from ≤ c.in-Some.hart = c.in-Some.ensures.from in
    let bound : c.in-Some.hart < hart_bound c.args.entries.now = c.in-Some.ensures.bound in
    omega arith

pub loop-hart-preserved : goal.loop-hart-preserved
loop-hart-preserved c =
    let from : c.loop-hart.from ≤ c.in-Some.hart = c.in-Some.ensures.from in
    let bound : c.in-Some.hart < hart_bound c.args.entries.now = c.in-Some.ensures.bound in
    let kept : length c.name_landings-count.new.landed ≡ length c.deref_mut.result.now = c.name_landings-count.auto.landed in
    let lent : c.deref_mut.result.now ≡ c.loop-hart.landed.items = c.deref_mut.ensures.value in
    let len : length c.name_landings-count.new.landed ≡ c.loop-hart.landed.len = kept ∙ c.deref_mut.ensures.len in
    let whole : (with_items c.loop-hart.landed c.name_landings-count.new.landed).items
    ≡ c.name_landings-count.new.landed =
    with_items_is c.loop-hart.landed c.name_landings-count.new.landed len in
    let adds : AddsLandings c.args.entries.now c.in-Some.hart c.deref_mut.result.now c.name_landings-count.new.landed = c.name_landings-count.ensures.landed in
    let named : NamesLandings c.args.entries.now (c.in-Some.hart + 1) c.name_landings-count.new.landed
    = names_more c.args.entries.now c.loop-hart.from c.in-Some.hart c.loop-hart.landed.items
    c.name_landings-count.new.landed c.in-Some.ensures c.loop-hart.invariant.named
    (subst (λ (zs : List (Option ℕ)). AddsLandings c.args.entries.now c.in-Some.hart zs c.name_landings-count.new.landed) lent adds) in
    let count : c.name_landings-count.result ≡ lands c.in-Some.hart c.args.entries.now = c.name_landings-count.ensures.count in
    let places : c.in_ok-places.places.items ≡ store_places c.in-Some.hart c.args.entries.now = c.in_ok-places.ensures in
    record {
      named = subst (NamesLandings c.args.entries.now (c.in-Some.hart + 1)) (sym whole) named;
      len = ap length whole ∙ kept ∙ ap length lent ∙ c.loop-hart.invariant.len;
      left =
          let ext : c.add_rest.new.left.items ≡ c.loop-hart.left.items
          ++ left_places c.in-Some.hart c.args.entries.now =
          c.in_ok-add_rest.ensures ∙ ap (λ zs. c.loop-hart.left.items ++ zs)
          (ap (drop c.name_landings-count.result) (c.deref-in-Some.ensures.value ∙ places)
          ∙ ap (λ n. drop n (store_places c.in-Some.hart c.args.entries.now)) count) in
          ext ∙ ap (λ zs. zs ++ left_places c.in-Some.hart c.args.entries.now) c.loop-hart.invariant.left
          ∙ sym (left_more c.args.entries.now c.loop-hart.from c.in-Some.hart c.in-Some.ensures);
      bound = omega arith;
    }

pub returns-clause-landed : goal.returns-clause-landed
returns-clause-landed c =
    let reached : c.loop-hart.from ≡ hart_bound c.args.entries.now =
    bound_reached c.args.entries.now c.loop-hart.from c.loop-hart.invariant.bound c.in_default.ensures in
    subst (λ (n : ℕ). NamesLandings c.args.entries.now n c.loop-hart.landed.items) reached c.loop-hart.invariant.named

pub returns-clause-left : goal.returns-clause-left
returns-clause-left c =
    let reached : c.loop-hart.from ≡ hart_bound c.args.entries.now =
    bound_reached c.args.entries.now c.loop-hart.from c.loop-hart.invariant.bound c.in_default.ensures in
    c.loop-hart.invariant.left ∙ ap (λ n. left_below n c.args.entries.now) reached
