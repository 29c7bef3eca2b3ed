-- Each hart is put back as it was, and those that follow stay as they are until then.
use Rattle.std.proofs.Common.{◌≡◌, ◌<◌, ℕ, List, length, take, get_or, set, Some, sym, ◌∙◌, ap, arith}
use Rattle.std.specs.List.{slice_get}
use Rattle.std.proofs.lemmas.Option.{slice_get-get_or}
use Rattle.hart.specs.{HartView, SavedView, put_back}
use Rattle.step_machine.specs.inner.Restored.{restored_harts}
use Rattle.step_machine.proofs.Changed.{by_none, changed_at, changed_all, still_at}
use Rattle.step_machine.proofs.machine_state.restore_harts.Goals as goal

pub loop-index-init : goal.loop-index-init
loop-index-init c = sym (by_none put_back c.args.harts.now)

-- the hart that is put back, as it was
here : (hs gs : List HartView) (ss : List SavedView) (i : ℕ) (x : HartView) → i < length hs → gs ≡ restored_harts hs (take i ss) → x ≡ get_or gs i x
    → slice_get hs i ≡ Some (get_or gs i x)
here hs gs ss i x inside is x_is = still_at put_back hs gs ss i (get_or gs i x) inside is (ap (get_or gs i) x_is)

-- where it stood
there : (ss : List SavedView) (i : ℕ) (x : SavedView) → i < length ss → x ≡ get_or ss i x → slice_get ss i ≡ Some x
there ss i x within is = slice_get-get_or ss i x within ∙ ap Some (sym is)

pub restore-requires-clause-given : goal.restore-requires-clause-given
restore-requires-clause-given c =
    let inside : c.loop-index.index < length c.args.harts.now = omega (arith, c.loop-index-test.true) in
    let within : c.loop-index.index < length c.args.saved.now = omega (arith, c.loop-index-test.true, c.requires.count) in
    c.requires.given c.loop-index.index _ _
    (here c.args.harts.now c.loop-index.harts c.args.saved.now c.loop-index.index c.index-harts-index.result inside
    c.loop-index.invariant c.index-harts-index.is)
    (there c.args.saved.now c.loop-index.index c.index-saved-index.result within c.index-saved-index.is)

pub restore-requires-clause-reports : goal.restore-requires-clause-reports
restore-requires-clause-reports c =
    let inside : c.loop-index.index < length c.args.harts.now = omega (arith, c.loop-index-test.true) in
    let within : c.loop-index.index < length c.args.saved.now = omega (arith, c.loop-index-test.true, c.requires.count) in
    c.requires.reports c.loop-index.index _ _
    (here c.args.harts.now c.loop-index.harts c.args.saved.now c.loop-index.index c.index-harts-index.result inside
    c.loop-index.invariant c.index-harts-index.is)
    (there c.args.saved.now c.loop-index.index c.index-saved-index.result within c.index-saved-index.is)

pub loop-index-preserved : goal.loop-index-preserved
loop-index-preserved c =
    let within : c.loop-index.index < length c.args.saved.now = omega (arith, c.loop-index-test.true, c.requires.count) in
    ap (set c.loop-index.harts c.loop-index.index) c.restore.ensures
    ∙ ap (λ (x : SavedView). set c.loop-index.harts c.loop-index.index
    (put_back (get_or c.loop-index.harts c.loop-index.index c.index-harts-index.result) x)) c.index-saved-index.is
    ∙ changed_at put_back c.args.harts.now c.loop-index.harts c.args.saved.now c.loop-index.index c.index-harts-index.result _ within c.loop-index.invariant

pub returns : goal.returns
returns c =
    changed_all put_back c.args.harts.now c.loop-index.harts c.args.saved.now c.loop-index.index
    c.loop-index.invariant (omega (arith, c.loop-index-test.false, c.loop-index.auto.index-end, c.requires.count))
