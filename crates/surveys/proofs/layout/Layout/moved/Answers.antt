use Rattle.std.proofs.Common.{◌≡◌, ◌∙◌, ◌^◌, ◌<◌, ℕ, length, sym, ap, subst, arith}
use Rattle.std.specs.Prelude.{IfSome, slice_get, slice_set}
use Rattle.std.proofs.lemmas.List.{length-map}
use Rattle.std.proofs.lemmas.Slice.Zip.{AllZip-long}
use Rattle.surveys.specs.inner.Digits.{Digits, digits_of, numbers_of_key}
use Rattle.surveys.proofs.KeyLaws.{moved_more, room_at, row_length, row_moved}
use Rattle.surveys.proofs.layout.Layout.moved.Goals as goal

pub loop-place-preserved : goal.loop-place-preserved
loop-place-preserved g c = λ room.
    let layout = c.args.other.now in
    let row = numbers_of_key c.args.self.now c.args.key.now in
    let place = c.loop-place.place in
    let few : IfSome (slice_get layout place) (λ digits. c.number.result < 2 ^ digits.width) =
    subst (λ (n : ℕ). IfSome (slice_get layout place) (λ (digits : Digits). n < 2 ^ digits.width)) (sym c.number.ensures) (room_at layout row place room) in
    let same : length (numbers_of_key layout c.loop-place.new) ≡ length row =
    row_length layout c.loop-place.new ∙ sym (AllZip-long (λ (digits : Digits) (number : ℕ). number < 2 ^ digits.width) layout row room) in
    let all : length c.args.self.now ≡ length c.self.inside.fields.items =
    ap length (sym c.self.view_is) ∙ length-map c.self.inside.fields.items digits_of in
    let within : place < length (numbers_of_key layout c.loop-place.new) = omega (arith, same, all, row_length c.args.self.now c.args.key.now) in
    moved_more (numbers_of_key layout c.loop-place.new) (numbers_of_key layout c.set.new.key) row place within
    (c.set.ensures few ∙ ap (slice_set (numbers_of_key layout c.loop-place.new) place) c.number.ensures) (c.loop-place.invariant room)

pub returns : goal.returns
returns g c = λ room.
    let all : length c.args.self.now ≡ length c.self.inside.fields.items =
    ap length (sym c.self.view_is) ∙ length-map c.self.inside.fields.items digits_of in
    row_moved c.args.self.now c.args.other.now c.args.key.now c.loop-place.new room
    (λ i within. let before : i < c.loop-place.place = omega (arith, within, all) in c.loop-place.invariant room i before)
