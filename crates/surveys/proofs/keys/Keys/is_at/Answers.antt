use Rattle.std.proofs.Common.{◌≡◌, ◌∙◌, List, ℕ, Some, None, sym, ap}
use Rattle.std.specs.List.{slice_get}
use Rattle.std.proofs.lemmas.Option.{slice_get-get_or, slice_get_past}
use Rattle.std.proofs.lemmas.Slice.Eq.{bytes_eq-Decides}
use Rattle.surveys.proofs.keys.Keys.is_at.Goals as goal

pub returns-in-Some : goal.returns-in-Some
returns-in-Some g c =
    let there = c.in-Some.ensures.lookup in
    let decides = bytes_eq-Decides c.in-Some.other.now c.args.key.now in
    let at : slice_get c.args.self.now c.args.number ≡ Some c.in-Some.other.now =
    ap (λ (ks : List (List ℕ)). slice_get ks c.args.number) (sym (c.deref.ensures.value ∙ c.self.view_is))
    ∙ slice_get-get_or c.deref.result.now c.args.number c.in-Some.other.now there.3.0 ∙ ap (λ (k : List ℕ). Some k) (sym there.1) in (
      λ equal. at ∙ ap (λ (k : List ℕ). Some k) (decides.0 (sym c.eq.ensures ∙ equal)),
      λ is. let same : c.in-Some.other.now ≡ c.args.key.now = cc in c.eq.ensures ∙ decides.1 same,
    )

pub returns-in-None : goal.returns-in-None
returns-in-None g c =
    let past : slice_get c.args.self.now c.args.number ≡ None =
    ap (λ (ks : List (List ℕ)). slice_get ks c.args.number) (sym (c.deref.ensures.value ∙ c.self.view_is))
    ∙ slice_get_past c.deref.result.now c.args.number c.in-None.ensures.lookup.3 in (
      λ equal. cc,
      λ is. cc,
    )
