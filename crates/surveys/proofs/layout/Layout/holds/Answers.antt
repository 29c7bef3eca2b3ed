use Rattle.std.proofs.Common.{◌≡◌, ◌∙◌, ◌≤◌, ◌^◌, ◌↔◌, ℕ, inl, inr, List, length, sym, ap, subst, arith, refl}
use Rattle.std.specs.List.{AllZip}
use Rattle.std.proofs.lemmas.List.{length-map}
use Rattle.surveys.specs.inner.Digits.{Digits, HasRoomBelow, digits_of}
use Rattle.surveys.specs.declared.layout.Field.{Field}
use Rattle.surveys.proofs.LayoutLaws.{fields_room}
use Rattle.surveys.proofs.PartRows.{zipped_more, zipped_none}
use Rattle.surveys.proofs.layout.Layout.holds.Goals as goal

abbrev HasRoom : Field → ℕ → Type 0
HasRoom field count = count ≤ 2 ^ field.width

pub loop-field-init : goal.loop-field-init
loop-field-init g c =
    let all : length c.args.self.now ≡ length c.self.inside.fields.items =
    ap length (sym c.self.view_is) ∙ length-map c.self.inside.fields.items digits_of in
    let fields = c.self.inside.fields.items in
    let gives = c.into_iter-field-iterator.ensures.into_iter_gives in
    let a : c.into_iter-field-iterator.result.a.rest.now ≡ fields =
    grind (arith, gives, c.zip-field-items.ensures.first, c.iter.ensures.rest, c.deref.ensures.value) in
    let b : c.into_iter-field-iterator.result.b.rest.now ≡ c.args.counts.now = grind (arith, gives, c.zip-field-items.ensures.second) in
    record {
      count = λ same. omega (arith, same, all, ap length a, ap length b);
      room = subst (λ (zs : List Field). HasRoomBelow c.args.self.now c.args.counts.now ↔ AllZip HasRoom zs
          c.into_iter-field-iterator.result.b.rest.now) (sym a)
          (subst (λ (ns : List ℕ). HasRoomBelow c.args.self.now c.args.counts.now ↔ AllZip HasRoom fields ns) (sym b)
          (subst (λ (ds : List Digits). HasRoomBelow ds c.args.counts.now ↔ AllZip HasRoom fields c.args.counts.now) c.self.view_is
          (fields_room fields c.args.counts.now)));
    }

pub loop-field-preserved : goal.loop-field-preserved
loop-field-preserved g c =
    let steps = c.in-Some.ensures.steps in
    let more = zipped_more HasRoom c.loop-field.field-iterator.a.rest.now c.next.new.self.a.rest.now c.loop-field.field-iterator.b.rest.now
    c.next.new.self.b.rest.now c.in-Some.field.now c.in-Some.count.now steps.0 steps.1 in
    record {
      count = λ same. omega (arith, c.loop-field.invariant.count same, ap length steps.0, ap length steps.1);
      room = (
        λ all. (more.0 (c.loop-field.invariant.room.0 all)).1,
        λ rest. c.loop-field.invariant.room.1 (more.1 (c.if-not-holds.ensures.0 refl, rest)),
      );
    }

pub returns-then-not-holds : goal.returns-then-not-holds
returns-then-not-holds g c =
    let steps = c.in-Some.ensures.steps in
    let more = zipped_more HasRoom c.loop-field.field-iterator.a.rest.now c.next.new.self.a.rest.now c.loop-field.field-iterator.b.rest.now
    c.next.new.self.b.rest.now c.in-Some.field.now c.in-Some.count.now steps.0 steps.1 in
    λ same. (λ no. cc, λ all. c.if-not-holds.ensures.1 (more.0 (c.loop-field.invariant.room.0 all)).0)

pub returns : goal.returns
returns g c = λ same. (
  λ _. c.loop-field.invariant.room.1 (zipped_none HasRoom c.loop-field.field-iterator.a.rest.now c.loop-field.field-iterator.b.rest.now
      (c.loop-field.invariant.count same) (elim c.in-None.ensures.steps [ inl a ↦ inl a.1.0 | inr b ↦ inr b.1.0 ])),
  λ _. refl,
)
