use Rattle.std.proofs.Common.{◌≡◌, ◌∙◌, ◌<◌, ℕ, List, length, map, sym, ap, arith}
use Rattle.surveys.specs.inner.Digits.{numbers_of_key}
use Rattle.surveys.proofs.KeyLaws.{rows_moved}
use Rattle.surveys.proofs.keys.Keys.move_to.Goals as goal

pub returns-clause-rows : goal.returns-clause-rows
returns-clause-rows g c = λ room.
    let all : length c.args.self.now ≡ length c.self.inside.keys.items = ap length (sym c.self.view_is) in
    ap (λ (keys : List (List ℕ)). map (numbers_of_key c.args.new.now) keys) c.fill_table.ensures
    ∙ rows_moved c.args.old.now c.args.new.now c.args.self.now c.loop-index.self-inside.keys.items c.loop-index.invariant.count
    (λ i within. let before : i < c.loop-index.index = omega (arith, within, all) in c.loop-index.invariant.moved i before) room
