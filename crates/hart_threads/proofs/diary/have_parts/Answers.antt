use Rattle.std.proofs.Common.{◌≡◌, ℕ, length, get_or, take, sym, ap, subst, arith, ◌∙◌}
use Rattle.std.specs.Prelude.{All}
use Rattle.std.proofs.lemmas.Bool.{MatchBool-at_true}
use Rattle.std.proofs.lemmas.List.{take_more}
use Rattle.std.proofs.lemmas.List.Elements.{All-push}
use Rattle.std.proofs.Math.Seq.{take-length}
use Rattle.hart_threads.specs.Parts.{HasPart}
use Rattle.hart_threads.proofs.diary.have_parts.Goals as goal

pub loop-seat-preserved : goal.loop-seat-preserved
loop-seat-preserved g c =
    let us = c.args.memory.now in
    let item = c.seat-item.result in
    let here : HasPart c.args.memory.now c.seat-item.result =
    MatchBool-at_true (HasPart us item) (HasPart us item → ⊥) c.if-not-has_part.false c.has_part.ensures in
    subst (All (HasPart us)) (sym (take_more c.args.seats.now c.loop-seat.seat-index item c.loop-seat-test.true))
    (All-push (HasPart us) (take c.loop-seat.seat-index c.args.seats.now) (get_or c.args.seats.now c.loop-seat.seat-index item)
    c.loop-seat.invariant (subst (HasPart us) c.seat-item.is here))

pub returns : goal.returns
returns g c =
    let end : c.loop-seat.seat-index ≡ length c.args.seats.now = omega arith in
    subst (All (HasPart c.args.memory.now)) (ap (λ (n : ℕ). take n c.args.seats.now) end ∙ take-length c.args.seats.now) c.loop-seat.invariant
