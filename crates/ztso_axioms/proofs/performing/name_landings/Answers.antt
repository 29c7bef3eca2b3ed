use Rattle.std.proofs.Common.{◌≡◌, ℕ, ◌+◌, ◌<◌, List, Option, length, sym, ◌∙◌, ap, subst, arith}
use Rattle.std.specs.List.{slice_get}
use Rattle.std.proofs.lemmas.List.{take_all}
use Rattle.std.proofs.lemmas.Option.{slice_get_within}
use Rattle.step_machine.specs.Entries.{lands}
use Rattle.ztso_axioms.specs.Performed.{store_places}
use Rattle.ztso_axioms.specs.inner.Landings.{landed_at}
use Rattle.ztso_axioms.proofs.Walks.{Naming, naming_none, naming_hit, naming_missed}
use Rattle.ztso_axioms.proofs.performing.name_landings.Goals as goal
use Rattle.ztso_axioms.proofs.performing.name_landings.Goals.{then-is_landing, else-is_landing}

pub loop-place-init : goal.loop-place-init
loop-place-init c = naming_none c.args.entries.now c.args.hart c.args.landed.now c.requires.len

pub loop-place-preserved : goal.loop-place-preserved
loop-place-preserved c =
    elim c.if-is_landing.branch [
      | then-is_landing w ↦
          let stands : w.store_at.result ≡ landed_at c.args.entries.now c.args.hart c.loop-place.place
          = w.store_at.ensures ∙ ap (λ zs. slice_get zs c.loop-place.count) c.requires.places
          ∙ ap (slice_get (store_places c.args.hart c.args.entries.now)) c.loop-place.invariant.counted in
          subst (λ (n : ℕ). Naming c.args.entries.now c.args.hart (c.loop-place.place + 1) n c.args.landed.now c.if-is_landing.landed) (sym w.count-is)
          (subst (λ (zs : List (Option ℕ)). Naming c.args.entries.now c.args.hart (c.loop-place.place + 1)
          (c.loop-place.count + 1) c.args.landed.now zs) (sym w.landed-is)
          (naming_hit c.args.entries.now c.args.hart c.loop-place.place c.loop-place.count c.args.landed.now
          c.loop-place.landed _ w.store_at.result c.loop-place.invariant c.loop-place-test.true (c.is_landing.ensures.0 w.if-is_landing.true)
          stands))
      | else-is_landing w ↦
          subst (λ (n : ℕ). Naming c.args.entries.now c.args.hart (c.loop-place.place + 1) n c.args.landed.now c.if-is_landing.landed) (sym w.count-is)
          (subst (λ (zs : List (Option ℕ)).
          Naming c.args.entries.now c.args.hart (c.loop-place.place + 1) c.loop-place.count c.args.landed.now zs)
          (sym w.landed-is)
          (naming_missed c.args.entries.now c.args.hart c.loop-place.place c.loop-place.count c.args.landed.now
          c.loop-place.landed _ c.loop-place.invariant c.loop-place-test.true (λ is. let so = c.is_landing.ensures.1 is in cc)))
    ]

pub returns-clause-landed : goal.returns-clause-landed
returns-clause-landed c = record {
  added = λ i is. let within : i < length c.args.entries.now = slice_get_within c.args.entries.now i _ is in c.loop-place.invariant.added i (omega arith) is;
  others = c.loop-place.invariant.others;
}

pub returns-clause-count : goal.returns-clause-count
returns-clause-count c = c.loop-place.invariant.counted ∙ ap (lands c.args.hart) (take_all c.loop-place.place c.args.entries.now (omega arith))
