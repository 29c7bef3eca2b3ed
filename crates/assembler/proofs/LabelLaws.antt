-- Labels of lines: which of them are defined twice.
use Rattle.std.proofs.Common.{arith, ◌≡◌, ℕ, ◌+◌, true, false, List, [], ◌∷◌, ◌++◌, Option, Some, None, refl, sym, ap, subst, ◌∙◌, inl, inr}
use Rattle.std.specs.Prelude.{◌≢◌}
use Rattle.std.specs.Option.{is_some}
use Rattle.std.specs.List.{AllByRecursion}
use Rattle.std.proofs.lemmas.Bool.{cases_Bool}
use Rattle.std.proofs.lemmas.Slice.Eq.{bytes_eq-Decides}
use Rattle.assembler.specs.{Line, size_of, is_label, place_from, label_place, is_twice, AreApart, EachOnce}

pub label_is : (name : List ℕ) (label : Option (List ℕ)) → is_label name label ≡ true → label ≡ Some name
label_is name None e = absurd cc
label_is name (Some other) e = ap Some ((bytes_eq-Decides other name).0 e)

pub is_the_label : (name : List ℕ) (label : Option (List ℕ)) → label ≡ Some name → is_label name label ≡ true
is_the_label name label e = subst (λ (l : Option (List ℕ)). is_label name l ≡ true) (sym e) ((bytes_eq-Decides name name).1 refl)

-- the label is defined by none of the lines
abbrev pub Apart : List Line → Option (List ℕ) → Type 0
Apart above label = AllByRecursion (λ other. (name : List ℕ) → other.label ≡ Some name → label ≢ Some name) above

apart_none : (above : List Line) → Apart above None
apart_none [] = tt
apart_none (line ∷ above) = ((λ name e f. absurd cc), apart_none above)

apart_from : (name : List ℕ) (at : ℕ) (above : List Line) → is_some (place_from name at above) ≡ false → Apart above (Some name)
apart_from name at [] e = tt
apart_from name at (line ∷ above) e = elim (cases_Bool (is_label name line.label)) [
  | inl here ↦ absurd (let f = rw here at e in cc)
  | inr other ↦ (
    (λ n is same. (let f : is_label name line.label ≡ true = is_the_label name line.label (is ∙ sym same) in
        let g : false ≡ true = sym other ∙ f in absurd cc)),
    apart_from name (at + size_of line.made) above (rw other at e),
  )
]

pub fresh_apart : (above : List Line) (label : Option (List ℕ)) → is_twice above label ≡ false → Apart above label
unfolding label_place
fresh_apart above label e = grind (arith, apart_none, apart_from)

apart_place : (name : List ℕ) (at : ℕ) (above : List Line) → Apart above (Some name) → place_from name at above ≡ None
apart_place name at [] h = refl
apart_place name at (line ∷ above) h = elim (cases_Bool (is_label name line.label)) [
  | inl here ↦ absurd (h.0 name (label_is name line.label here) refl)
  | inr other ↦ rw other (apart_place name (at + size_of line.made) above h.1)
]

pub apart_fresh : (above : List Line) (label : Option (List ℕ)) → Apart above label → is_twice above label ≡ false
unfolding label_place
apart_fresh above label h = grind (arith, apart_place)

pub apart-append : (above : List Line) (line : Line) (label : Option (List ℕ)) → Apart above label
    → ((name : List ℕ) → line.label ≡ Some name → label ≢ Some name) → Apart (above ++ line ∷ []) label
apart-append [] line label h k = (k, tt)
apart-append (first ∷ above) line label h k = (h.0, apart-append above line label h.1 k)

once_below : (first : Line) (below : List Line) (line : Line) → AllByRecursion (λ other. AreApart first other) below
    → AreApart first line → AllByRecursion (λ other. AreApart first other) (below ++ line ∷ [])
once_below first [] line h k = (k, tt)
once_below first (next ∷ below) line h k = (h.0, once_below first below line h.1 k)

-- a line whose label no line above defines
pub once-push : (all : List Line) (line : Line) → EachOnce all → Apart all line.label → EachOnce (all ++ line ∷ [])
once-push [] line once apart = (tt, tt)
once-push (first ∷ all) line once apart = (once_below first all line once.0 apart.0, once-push all line once.1 apart.1)
