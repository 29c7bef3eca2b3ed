use Rattle.std.proofs.Common.{◌≡◌, Bool, List, Some, None, ◌++◌, take, sym, ap, ◌∙◌, arith}
use Rattle.std.specs.List.{filter, slice_get}
use Rattle.step_machine.specs.declared.events.Entry.{Entry}
use Rattle.hart_threads.specs.{SeatView, counting_entries, keeps}
use Rattle.hart_threads.proofs.Diaries.{too_short, another, at_the_end, first_left}
use Rattle.hart_threads.proofs.diary.is_part.Goals as goal

pub returns-in_default : goal.returns-in_default
returns-in_default g c =
    let s : SeatView = record c.args.seat.now { diary = counting_entries c.args.seat.now.acts c.args.seat.now.diary } in
    let none : slice_get (counting_entries c.args.seat.now.acts c.loop-entry.rest) 0 ≡ None =
    ap (λ (b : Bool). slice_get (counting_entries b c.loop-entry.rest) 0) (sym c.acts.ensures)
    ∙ sym c.in_default.ensures.value in
    too_short s _ c.loop-entry.entry-index _ _ c.loop-entry-test.true (sym c.keeps.ensures ∙ c.if-keeps.true) none c.loop-entry.invariant

pub returns-then-not-is_same : goal.returns-then-not-is_same
returns-then-not-is_same g c =
    let s : SeatView = record c.args.seat.now { diary = counting_entries c.args.seat.now.acts c.args.seat.now.diary } in
    let some : slice_get (counting_entries c.args.seat.now.acts c.loop-entry.rest) 0 ≡ Some c.in-Some.first =
    ap (λ (b : Bool). slice_get (counting_entries b c.loop-entry.rest) 0) (sym c.acts.ensures)
    ∙ sym c.in-Some.ensures.value in
    another s _ c.loop-entry.entry-index _ _ _ c.loop-entry-test.true (sym c.keeps.ensures ∙ c.if-keeps.true) c.if-not-is_same.ensures
    (c.loop-entry.invariant ∙ ap
    (λ (xs : List Entry). filter (keeps c.args.seat.now) (take c.loop-entry.entry-index c.args.entries.now) ++ xs)
    (first_left _ _ some))

pub returns : goal.returns
returns g c =
    let s : SeatView = record c.args.seat.now { diary = counting_entries c.args.seat.now.acts c.args.seat.now.diary } in
    at_the_end s _ c.loop-entry.entry-index _ _ _ (omega arith)
    (c.next_counted-2.ensures.value ∙ ap (λ (b : Bool). slice_get (counting_entries b c.loop-entry.rest) 0) c.acts-2.ensures)
    c.is_none.ensures c.loop-entry.invariant
