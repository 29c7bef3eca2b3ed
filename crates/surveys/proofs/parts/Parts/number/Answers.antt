use Rattle.std.proofs.Common.{◌≡◌, ◌∙◌, ℕ, List, false, inl, inr, Some, sym, ap, subst, arith}
use Rattle.std.specs.List.{list_any, slice_get}
use Rattle.states.proofs.NumberLaws.{has_items, next_is, number_within, words-there}
use Rattle.surveys.specs.inner.Compact.{IsCompact, bytes_of, position_words, words_in}
use Rattle.surveys.proofs.NumberLaws.{own_bytes, stay_compact}
use Rattle.surveys.proofs.parts.Parts.number.Goals as goal

pub returns-in-Some-clause-numbered : goal.returns-in-Some-clause-numbered
returns-in-Some-clause-numbered c =
    let words = c.args.words.now in
    let draft : c.as_slice.result.now ≡ bytes_of words = grind (arith, c.as_slice.ensures.value, c.in_ok-push_bytes.ensures.bytes, c.clear.ensures.items) in
    let read : words_in c.as_slice.result.now ≡ words = ap words_in draft ∙ c.in_ok-push_bytes.ensures.back in
    let there = words-there position_words c.self.inside.parts.keys c.push_bytes.new.out c.as_slice.result.now words c.in-Some.number c.in-Some.ensures.index
    (λ key same. ap words_in (sym same) ∙ read) in
    inl (record {
      known = subst (λ (ps : List (List ℕ)). slice_get ps c.in-Some.number ≡ Some words) c.self.view_is there;
      kept = c.self.view_is;
    })

pub invariant_of-self-inside-2 : goal.invariant_of-self-inside-2
invariant_of-self-inside-2 c =
    let written : c.push_bytes.new.out.items ≡ bytes_of c.args.words.now = grind (arith, c.in_ok-push_bytes.ensures.bytes, c.clear.ensures.items) in
    let its = c.in_ok-part.ensures.items ∙ c.deref.ensures.value ∙ written in
    let is : IsCompact c.in_ok-part.part = ap (λ (bs : List ℕ). bytes_of (words_in bs)) its ∙ ap bytes_of c.in_ok-push_bytes.ensures.back ∙ sym its in (
      stay_compact c.insert.result c.self.inside.parts.keys c.insert.new.self.keys c.in_ok-part.part _ c.self.inside.compact is c.insert.ensures.keys
          c.insert.ensures.err,
      tt,
    )

pub returns-clause-numbered : goal.returns-clause-numbered
returns-clause-numbered c =
    let words = c.args.words.now in
    let keys = c.self.inside.parts.keys in
    let part = c.in_ok-part.part in
    let written : c.push_bytes.new.out.items ≡ bytes_of words = grind (arith, c.in_ok-push_bytes.ensures.bytes, c.clear.ensures.items) in
    let its : part.items ≡ bytes_of words = c.in_ok-part.ensures.items ∙ c.deref.ensures.value ∙ written in
    inr (next_is position_words keys c.insert.new.self.keys part c.args.self.now words c.len-number.result c.self.view_is
    (λ i key within is. its ∙ own_bytes keys words c.self.inside.compact i key within is) (ap words_in its ∙ c.in_ok-push_bytes.ensures.back)
    (subst (λ (bs : List ℕ). false ≡ list_any (has_items bs) keys) (c.as_slice.ensures.value ∙ written ∙ sym its) c.in_default.ensures.found)
    c.in_ok-insert.ensures.keys c.len-number.ensures.len)

pub returns-clause-within : goal.returns-clause-within
returns-clause-within c = number_within c.args.self.now _ c.args.words.now c.len-number.result (returns-clause-numbered c)
