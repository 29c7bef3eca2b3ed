use Rattle.std.proofs.Common.{◌≡◌, ◌∙◌, ℕ, List, Some, None, sym, ap, subst, arith}
use Rattle.std.specs.Prelude.{IfSome}
use Rattle.std.specs.List.{Contains, list_any, slice_get}
use Rattle.surveys.specs.inner.Compact.{bytes_of, words_in}
use Rattle.states.proofs.NumberLaws.{has_items}
use Rattle.surveys.proofs.NumberLaws.{words_found, words_unknown}
use Rattle.surveys.proofs.parts.Parts.find.Goals as goal

written : (c : goal.After-get_index_of) → c.as_slice.result.now ≡ bytes_of c.args.words.now
written c = grind (arith, c.as_slice.ensures.value, c.in_ok-push_bytes.ensures.bytes, c.clear.ensures.items)

pub returns-clause-known : goal.returns-clause-known
returns-clause-known c =
    subst (λ (ps : List (List ℕ)). IfSome c.get_index_of.result (λ number. slice_get ps number ≡ Some c.args.words.now)) c.self.view_is
    (words_found c.get_index_of.result c.self.inside.parts.keys c.push_bytes.new.out c.as_slice.result.now c.args.words.now
    c.get_index_of.ensures.index (ap words_in (written c) ∙ c.in_ok-push_bytes.ensures.back))

pub returns-clause-unknown : goal.returns-clause-unknown
returns-clause-unknown c = λ none contains.
    let no : c.get_index_of.result ≡ None = cc in
    words_unknown c.get_index_of.result c.self.inside.parts.keys c.push_bytes.new.out c.args.words.now c.self.inside.compact
    (c.get_index_of.ensures.found ∙ ap (λ (bs : List ℕ). list_any (has_items bs) c.self.inside.parts.keys) (written c)) no
    (subst (λ (ps : List (List ℕ)). Contains ps c.args.words.now) (sym c.self.view_is) contains)
