use Rattle.std.proofs.Common.{◌≡◌, ◌∙◌, List, Some, map, sym, ap, subst, arith}
use Rattle.std.specs.Prelude.{slice_get}
use Rattle.surveys.specs.inner.Digits.{AreOfWords, Digits, digits_of}
use Rattle.surveys.proofs.KeyLaws.{digits_at, row_with, word_within}
use Rattle.surveys.proofs.layout.Layout.set.Goals as goal

pub returns-then-at : goal.returns-then-at
returns-then-at g c = λ small.
    let field = c.in-Some.ensures.lookup in
    let view : map digits_of c.deref.result.now ≡ c.args.self.now = ap (map digits_of) c.deref.ensures.value ∙ c.self.view_is in
    let there : slice_get c.args.self.now c.args.place ≡ Some (digits_of c.in-Some.field.now) =
    ap (λ (ds : List Digits). slice_get ds c.args.place) (sym view)
    ∙ digits_at c.deref.result.now c.args.place c.in-Some.field.now field.3.0 field.1 in
    row_with g.row.N c.args.self.now c.args.key.now c.args.place c.args.number c.with.result (digits_of c.in-Some.field.now)
    (subst (AreOfWords g.row.N) c.self.view_is c.self.invariant) (omega arith) there c.with.ensures small

pub returns-else-at : goal.returns-else-at
returns-else-at g c = λ small.
    let field = c.in-Some.ensures.lookup in
    let view : map digits_of c.deref.result.now ≡ map digits_of c.self.inside.fields.items = ap (map digits_of) c.deref.ensures.value in
    let there : slice_get (map digits_of c.self.inside.fields.items) c.args.place ≡ Some (digits_of c.in-Some.field.now) =
    ap (λ (ds : List Digits). slice_get ds c.args.place) (sym view)
    ∙ digits_at c.deref.result.now c.args.place c.in-Some.field.now field.3.0 field.1 in
    absurd (omega (
      arith,
      c.if-at.false,
      word_within g.row.N (map digits_of c.self.inside.fields.items) c.args.place (digits_of c.in-Some.field.now)
          c.self.invariant.within there,
    ))
