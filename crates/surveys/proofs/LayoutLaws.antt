-- Layouts that are made digits by digits.
use Rattle.std.proofs.Common.{◌≡◌, ℕ, ◌+◌, ◌*◌, ◌/◌, ◌^◌, ◌<◌, ◌≤◌, ◌⊎◌, ◌↔◌, inl, inr, List, [], ◌∷◌, ◌++◌, length, map, get_or, refl, sym, subst, arith}
use Rattle.std.proofs.Common.{length-append}
use Rattle.std.specs.Prelude.{All}
use Rattle.std.specs.List.{AllZip}
use Rattle.std.proofs.lemmas.Bool.{cases_lt}
use Rattle.std.proofs.lemmas.List.Elements.{All-get_or, All-push, All-weaker}
use Rattle.std.proofs.lemmas.List.Quantifiers.{all_pairs_push}
use Rattle.surveys.specs.declared.layout.Field.{Field}
use Rattle.surveys.specs.inner.Digits.{AreApart, AreOfWords, Digits, HasRoomBelow, digits_of}

-- digits of a word before this one, or that stand below this place of it
abbrev pub IsBefore : (word shift : ℕ) → Digits → Type 0
IsBefore word shift digits = (digits.word < word) ⊎ ((digits.word ≡ word) × (digits.shift + digits.width ≤ shift))

-- a layout of keys of N words, as it is made: the next digits stand at this place, or at the beginning of the next word; each
-- word before has two numbers at least
pub record IsBegun (N : ℕ) (layout : List Digits) (word shift : ℕ) : Type 0 where
  pub words : AreOfWords N layout
  pub before : All (IsBefore word shift) layout
  pub few : 64 * word + shift ≤ 32 * length layout

-- where the next digits stand there
pub record IsPlaced (N : ℕ) (layout : List Digits) (word shift width : ℕ) : Type 0 where
  pub begun : IsBegun N layout word shift
  pub in_word : shift + width ≤ 64

-- in the same word
pub in_same_word : (N : ℕ) (layout : List Digits) (word shift width new_word new_shift : ℕ) → IsBegun N layout word shift → shift + width ≤ 64
    → new_word ≡ word → new_shift ≡ shift → IsPlaced N layout new_word new_shift width
in_same_word N layout word shift width new_word new_shift begun within same_word same_shift =
    subst (λ (s : ℕ). IsPlaced N layout new_word s width) (sym same_shift) (subst (λ (w : ℕ). IsPlaced N layout w shift width) (sym same_word)
    (record { begun = begun; in_word = within }))

-- in the next one, where the rest of a word is too small
pub in_next_word : (N : ℕ) (layout : List Digits) (word shift width new_word new_shift : ℕ) → IsBegun N layout word shift → width ≤ 32 → 64 < shift + width
    → new_word ≡ word + 1 → new_shift ≡ 0 → IsPlaced N layout new_word new_shift width
in_next_word N layout word shift width new_word new_shift begun small over next none =
    subst (λ (s : ℕ). IsPlaced N layout new_word s width) (sym none) (subst (λ (w : ℕ). IsPlaced N layout w 0 width) (sym next) (record {
      begun = record {
        words = begun.words;
        before = All-weaker (IsBefore word shift) (IsBefore (word + 1) 0) (λ digits is. elim is [
          | inl less ↦ inl (omega (arith, less))
          | inr same ↦ inl (omega (arith, same.0))
        ]) layout begun.before;
        few = omega (arith, begun.few, small, over);
      };
      in_word = omega (arith, small);
    }))

apart_before : (word shift width : ℕ) (digits : Digits) → IsBefore word shift digits → AreApart digits (record { word = word; shift = shift; width = width })
apart_before word shift width digits (inl less) = inl (λ is. omega (arith, less, is))
apart_before word shift width digits (inr same) = inr (inl same.1)

-- and with digits at this place
pub one_more : (N : ℕ) (layout : List Digits) (word shift width : ℕ) → IsPlaced N layout word shift width → word < N → width ≤ 32
    → IsBegun N (layout ++ record { word = word; shift = shift; width = width } ∷ []) word (shift + width)
one_more N layout word shift width placed within small =
    let begun = placed.begun in
    let digits : Digits = record { word = word; shift = shift; width = width } in
    record {
      words = record {
        apart = all_pairs_push AreApart layout digits begun.words.apart
            (λ k d less. apart_before word shift width (get_or layout k d) (All-get_or (IsBefore word shift) layout k d less begun.before));
        within = All-push (λ d. d.word < N) layout digits begun.words.within within;
      };
      before = All-push (IsBefore word (shift + width)) layout digits
          (All-weaker (IsBefore word shift) (IsBefore word (shift + width)) (λ d is. elim is [
            | inl less ↦ inl less
            | inr same ↦ inr (same.0, omega (arith, same.1))
          ]) layout begun.before) (inr (refl, omega arith));
      few = omega (arith, begun.few, small, length-append layout (digits ∷ []));
    }

-- a count that has 32 binary digits, and the width that is chosen for it
pub small_count : (count width : ℕ) → count ≤ 2 ^ 32 → width ≤ 32 → (width < 32 → count + count / 4 ≤ 2 ^ width) → count ≤ 2 ^ width
small_count count width small few enough = elim (cases_lt width 32) [
  | inl less ↦ omega (arith, enough less)
  | inr more ↦ let all : width ≡ 32 = omega (arith, more, few) in subst (λ (w : ℕ). count ≤ 2 ^ w) (sym all) small
]

-- whether fields have room
pub fields_room : (fields : List Field) (counts : List ℕ)
    → HasRoomBelow (map digits_of fields) counts ↔ AllZip (λ (field : Field) (count : ℕ). count ≤ 2 ^ field.width) fields counts
fields_room [] [] = (λ all. all, λ all. all)
fields_room [] (n ∷ counts) = (λ all. all, λ all. all)
fields_room (f ∷ fields) [] = (λ all. all, λ all. all)
fields_room (f ∷ fields) (n ∷ counts) = let rest = fields_room fields counts in (λ all. (all.0, rest.0 all.1), λ all. (all.0, rest.1 all.1))
