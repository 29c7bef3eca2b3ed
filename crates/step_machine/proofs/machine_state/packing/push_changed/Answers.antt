use Rattle.std.proofs.Common.{ℕ, List, [], ◌∷◌, ◌++◌, get_or, Vec, Global, sym, ◌∙◌, ap, append-nil, append_assoc}
use Rattle.std.proofs.lemmas.List.{flat_map_more}
use Rattle.std.specs.List.{flat_map}
use Rattle.step_machine.specs.Positions.{changed, pair_words}
use Rattle.step_machine.proofs.TakingLaws.{changed-same, changed-other, none_changed}
use Rattle.step_machine.proofs.machine_state.packing.push_changed.Goals as goal
use Rattle.step_machine.proofs.machine_state.packing.push_changed.Goals.{then-first-number+in_ok-push+in_ok-push-2, else-first-number}

pub loop-number-init : goal.loop-number-init
loop-number-init c = sym
    (ap (λ changes. c.args.out.now.items ++ flat_map pair_words changes) (none_changed c.args.first.now c.args.now.now)
    ∙ append-nil c.args.out.now.items)

pub loop-number-preserved : goal.loop-number-preserved
loop-number-preserved c =
    let first = c.args.first.now in
    let now = c.args.now.now in
    let n = c.loop-number.number in
    elim c.if-first-number.branch [
      | then-first-number+in_ok-push+in_ok-push-2 w ↦ let more = changed-other first now n w.if-first-number.true in
          ap (λ (v : Vec ℕ Global). v.items) w.out-is ∙ w.in_ok-push-2.ensures.items
          ∙ ap (λ (ws : List ℕ). ws ++ get_or now n 0 ∷ []) w.in_ok-push.ensures.items
          ∙ append_assoc c.loop-number.out.items (n ∷ []) (get_or now n 0 ∷ [])
          ∙ ap (λ (ws : List ℕ). ws ++ pair_words (n, get_or now n 0)) c.loop-number.invariant
          ∙ flat_map_more pair_words c.args.out.now.items (changed first now n) (n, get_or now n 0)
          ∙ ap (λ changes. c.args.out.now.items ++ flat_map pair_words changes) (sym more)
      | else-first-number w ↦ let more = changed-same first now n w.if-first-number.false in
          ap (λ (v : Vec ℕ Global). v.items) w.out-is ∙ c.loop-number.invariant ∙ ap (λ changes. c.args.out.now.items ++ flat_map pair_words changes) (sym more)
    ]
