use Rattle.std.proofs.Common.{ℕ, ◌==◌, ◌&&◌, ◌||◌, Bool, List, sym, ap, ◌∙◌, take}
use Rattle.std.specs.List.{list_any}
use Rattle.std.proofs.Math.Bool.{and-false, or-false}
use Rattle.std.proofs.lemmas.List.{take_all}
use Rattle.std.proofs.lemmas.List.Folds.{list_any_more}
use Rattle.record_bytes.specs.declared.ranges.ByteRange.{ByteRange}
use Rattle.record_bytes.specs.Ranges.{has_byte}
use Rattle.records_written.specs.{PartyLeaf, ends_at}
use Rattle.records_written.proofs.Again.{answer-same, both-more, from-parts}
use Rattle.records_written.proofs.once.first_twice.Goals as goal

-- a range of the mask begins here, and a leaf's load does, or ends before
abbrev begins : List ByteRange → (b : ℕ) → ByteRange → Bool
begins mask b r = has_byte mask b && (b == r.first)

abbrev ends : (b : ℕ) → List PartyLeaf → Bool
ends b leaves = list_any (λ s. ends_at s.effect b) leaves

pub loop-range-preserved : goal.loop-range-preserved
loop-range-preserved c = answer-same c.args.graph.now _ _
    (λ b. sym (list_any_more (begins c.args.mask.now b) c.args.mask.now c.loop-range.range-index _ c.loop-range-test.true)) c.in_ok-found.found
    (c.in_ok-found.ensures (λ b. list_any (begins c.args.mask.now b) (take c.loop-range.range-index c.args.mask.now)) c.loop-range.invariant)

pub loop-state-init : goal.loop-state-init
loop-state-init c = answer-same c.args.graph.now (λ b. list_any (begins c.args.mask.now b) (take c.loop-range.range-index c.args.mask.now)) _
    (λ b. ap (λ (rs : List ByteRange). list_any (begins c.args.mask.now b) rs) (take_all c.loop-range.range-index c.args.mask.now c.loop-range-test.false)
    ∙ sym (or-false (list_any (begins c.args.mask.now b) c.args.mask.now))
    ∙ ap (λ t. list_any (begins c.args.mask.now b) c.args.mask.now || t) (sym (and-false (has_byte c.args.mask.now b))))
    c.loop-range.found c.loop-range.invariant

pub loop-state-preserved : goal.loop-state-preserved
loop-state-preserved c = answer-same c.args.graph.now
    (λ b. (list_any (begins c.args.mask.now b) c.args.mask.now
    || (has_byte c.args.mask.now b && list_any (ends b) (take c.loop-state.state-index c.args.graph.now)))
    || (has_byte c.args.mask.now b && ends b c.deref.result.now)) _
    (λ b. both-more (list_any (begins c.args.mask.now b) c.args.mask.now) (has_byte c.args.mask.now b)
    (list_any (ends b) (take c.loop-state.state-index c.args.graph.now)) (ends b c.deref.result.now)
    ∙ ap (λ t. list_any (begins c.args.mask.now b) c.args.mask.now || (has_byte c.args.mask.now b && t))
    (ap (λ (ls : List PartyLeaf). list_any (ends b) (take c.loop-state.state-index c.args.graph.now) || ends b ls)
    (c.deref.ensures.value ∙ c.state.view_is ∙ c.state-item.is)
    ∙ sym (list_any_more (ends b) c.args.graph.now c.loop-state.state-index c.state-item.result c.loop-state-test.true)))
    c.in_ok-found-2.found
    (c.in_ok-found-2.ensures (λ b. list_any (begins c.args.mask.now b) c.args.mask.now
    || (has_byte c.args.mask.now b && list_any (ends b) (take c.loop-state.state-index c.args.graph.now))) c.loop-state.invariant)

pub returns : goal.returns
returns c = from-parts c.args.graph.now c.args.mask.now c.loop-state.found (answer-same c.args.graph.now _ _
    (λ b. ap (λ (gs : List (List PartyLeaf)). list_any (begins c.args.mask.now b) c.args.mask.now || (has_byte c.args.mask.now b && list_any (ends b) gs))
    (take_all c.loop-state.state-index c.args.graph.now c.loop-state-test.false)) c.loop-state.found c.loop-state.invariant)
