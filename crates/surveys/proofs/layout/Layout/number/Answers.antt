use Rattle.std.proofs.Common.{◌∙◌, List, ap, map, slice_index}
use Rattle.surveys.specs.inner.Digits.{Digits, digits_of, numbers_of_key}
use Rattle.surveys.proofs.KeyLaws.{read_past, read_there}
use Rattle.surveys.proofs.layout.Layout.number.Goals as goal

pub returns-in-Some-get : goal.returns-in-Some-get
returns-in-Some-get g c =
    let field = c.in-Some.ensures.lookup in
    let word = c.in-Some-get.ensures.lookup in
    c.number_in.ensures
    ∙ read_there c.deref.result.now c.args.key.now c.args.place c.in-Some-get.word.now c.in-Some.field.now field.3.0 field.1 word.3.0 word.1
    ∙ ap (λ (ds : List Digits). slice_index (numbers_of_key ds c.args.key.now) c.args.place) (ap (map digits_of) c.deref.ensures.value ∙ c.self.view_is)

pub returns-in-None-get : goal.returns-in-None-get
returns-in-None-get g c =
    let field = c.in-Some.ensures.lookup in
    read_past c.deref.result.now c.args.key.now c.args.place c.in-Some.field.now field.3.0 field.1 c.in-None-get.ensures.lookup.3
    ∙ ap (λ (ds : List Digits). slice_index (numbers_of_key ds c.args.key.now) c.args.place) (ap (map digits_of) c.deref.ensures.value ∙ c.self.view_is)
