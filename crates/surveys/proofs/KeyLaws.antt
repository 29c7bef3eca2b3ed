-- Numbers in digits of a key's words, and the keys with other numbers there.
use Rattle.std.proofs.Common.{◌≡◌, ℕ, ◌+◌, ◌^◌, ◌<◌, ◌≤◌, ◌⊎◌, inl, inr, zero, suc, List, [], ◌∷◌, length, map, get_or, Option, Some, None, refl, sym, ◌∙◌, ap}
use Rattle.std.proofs.Common.{subst, arith}
use Rattle.std.specs.Prelude.{All, IfSome, option_map, slice_index, slice_set, unwrap_or}
use Rattle.std.proofs.Math.Nat.{zero-div, zero-mod}
use Rattle.std.specs.List.{AllPairs, Contains, slice_get}
use Rattle.std.proofs.lemmas.Bool.{cases_order}
use Rattle.std.proofs.lemmas.Slice.Zip.{AllZip-long}
use Rattle.std.proofs.lemmas.List.{ext_get_or, get_or_read, get_or-set_same, get_or-set_other, length-map}
use Rattle.std.proofs.lemmas.Option.{get_or_from_slice_get, slice_get-map, slice_get_past, slice_get_read, slice_get_within, unwrap_or-slice_get}
use Rattle.step_machine.proofs.Stays.{slice_get-set_same, slice_get-set_other}
use Rattle.states.proofs.EndLaws.{by_places}
use Rattle.surveys.specs.declared.layout.Field.{Field}
use Rattle.std.proofs.lemmas.List.Elements.{All-get_or, All-head, All-tail}
use Rattle.surveys.specs.inner.Digits.{AreApart, AreOfWords, Digits, HasRoomFor, digits_of, number_in, numbers_of_key, with_number}
use Rattle.surveys.specs.inner.Fields.{digits_in, with_field}
use Rattle.surveys.proofs.FieldLaws.{digits_above, digits_below, field_set, small_pow}

-- the number is there
key_set : (digits : Digits) (key : List ℕ) (number : ℕ) → digits.word < length key → number < 2 ^ digits.width
    → number_in digits (with_number digits key number) ≡ number
key_set digits key number within small =
    ap (λ (word : ℕ). digits_in word (2 ^ digits.shift) (2 ^ digits.width))
    (get_or-set_same key digits.word (with_field (slice_index key digits.word) (2 ^ digits.shift) (2 ^ digits.width) number) 0 within)
    ∙ field_set (slice_index key digits.word) (2 ^ digits.shift) (2 ^ digits.width) number (small_pow digits.shift) small

other_word : (digits other : Digits) (key : List ℕ) (number : ℕ) → (other.word ≡ digits.word → ⊥)
    → number_in other (with_number digits key number) ≡ number_in other key
other_word digits other key number words =
    ap (λ (word : ℕ). digits_in word (2 ^ other.shift) (2 ^ other.width))
    (get_or-set_other key digits.word other.word (with_field (slice_index key digits.word) (2 ^ digits.shift) (2 ^ digits.width) number) 0 words)

same_word : (digits other : Digits) (key : List ℕ) (number : ℕ) → digits.word ≡ other.word → digits.word < length key
    → ((word : ℕ) → digits_in (with_field word (2 ^ digits.shift) (2 ^ digits.width) number) (2 ^ other.shift) (2 ^ other.width)
    ≡ digits_in word (2 ^ other.shift) (2 ^ other.width))
    → number_in other (with_number digits key number) ≡ number_in other key
same_word digits other key number is within stays =
    let new = with_field (slice_index key digits.word) (2 ^ digits.shift) (2 ^ digits.width) number in
    ap (λ (word : ℕ). digits_in word (2 ^ other.shift) (2 ^ other.width))
    (ap (λ (i : ℕ). slice_index (slice_set key digits.word new) i) (sym is) ∙ get_or-set_same key digits.word new 0 within)
    ∙ stays (slice_index key digits.word) ∙ ap (λ (i : ℕ). digits_in (slice_index key i) (2 ^ other.shift) (2 ^ other.width)) is

-- what stands apart stays
key_keeps : (digits other : Digits) (key : List ℕ) (number : ℕ) → AreApart digits other → digits.word < length key → number < 2 ^ digits.width
    → number_in other (with_number digits key number) ≡ number_in other key
key_keeps digits other key number (inl words) within small = other_word digits other key number (λ is. words (sym is))
key_keeps digits other key number (inr apart) within small = elim (cases_order digits.word other.word) [
  | inl is ↦ same_word digits other key number is within (λ word. stays word apart)
  | inr words ↦ other_word digits other key number (λ is. elim words [ inl less ↦ omega (arith, is, less) | inr more ↦ omega (arith, is, more) ])
]
  where
    stays : (word : ℕ) → (digits.shift + digits.width ≤ other.shift) ⊎ (other.shift + other.width ≤ digits.shift)
        → digits_in (with_field word (2 ^ digits.shift) (2 ^ digits.width) number) (2 ^ other.shift) (2 ^ other.width)
        ≡ digits_in word (2 ^ other.shift) (2 ^ other.width)
    stays word (inl above) = digits_above word digits.shift digits.width number other.shift (2 ^ other.width) above small
    stays word (inr below) = digits_below word digits.shift digits.width number other.shift other.width below

-- ---- rows

-- the row of a key with another number at one place is the row with that number there
row_set : (layout : List Digits) (key : List ℕ) (place number : ℕ) (digits : Digits) → slice_get layout place ≡ Some digits
    → ((other : ℕ) (apart : Digits) → (other ≡ place → ⊥) → slice_get layout other ≡ Some apart → AreApart digits apart)
    → digits.word < length key → number < 2 ^ digits.width
    → numbers_of_key layout (with_number digits key number) ≡ slice_set (numbers_of_key layout key) place number
row_set layout key place number digits there apart within small =
    by_places (numbers_of_key layout new) (slice_set (numbers_of_key layout key) place number) (λ i. elim (cases_order i place) [
      | inl is ↦ subst (λ (j : ℕ). slice_get (numbers_of_key layout new) j ≡ slice_get (slice_set (numbers_of_key layout key) place number) j) (sym is) here
      | inr other ↦ elsewhere i (λ is. elim other [ inl less ↦ omega (arith, is, less) | inr more ↦ omega (arith, is, more) ])
    ])
  where
    new : List ℕ
    new = with_number digits key number

    here : slice_get (numbers_of_key layout (with_number digits key number)) place ≡ slice_get (slice_set (numbers_of_key layout key) place number) place
    here =
        slice_get-map (λ d. number_in d (with_number digits key number)) layout place ∙ ap (option_map (λ d. number_in d (with_number digits key number))) there
        ∙ ap (λ (n : ℕ). Some n) (key_set digits key number within small)
        ∙ sym (slice_get-set_same (numbers_of_key layout key) place number
        (omega (arith, length-map layout (λ d. number_in d key), slice_get_within layout place digits there)))

    at : (i : ℕ) (so : Option Digits) → slice_get layout i ≡ so → (i ≡ place → ⊥)
        → option_map (λ d. number_in d (with_number digits key number)) so ≡ option_map (λ d. number_in d key) so
    at i None is other = refl
    at i (Some d) is other = ap (λ (n : ℕ). Some n) (key_keeps digits d key number (apart i d other is) within small)

    elsewhere : (i : ℕ) → (i ≡ place → ⊥)
        → slice_get (numbers_of_key layout (with_number digits key number)) i ≡ slice_get (slice_set (numbers_of_key layout key) place number) i
    elsewhere i other =
        slice_get-map (λ d. number_in d (with_number digits key number)) layout i ∙ at i (slice_get layout i) refl other
        ∙ sym (slice_get-map (λ d. number_in d key) layout i) ∙ sym (slice_get-set_other (numbers_of_key layout key) place i number other)

-- ---- the fields of a layout

pub digits_at : (fields : List Field) (place : ℕ) (f : Field) → place < length fields → f ≡ get_or fields place f
    → slice_get (map digits_of fields) place ≡ Some (digits_of f)
digits_at fields place f within is =
    slice_get-map digits_of fields place ∙ ap (option_map digits_of) (slice_get_read fields (length fields) place f refl within is)

-- ---- a number at a place of a row

read_at : (fields : List Field) (key : List ℕ) (place : ℕ) (f : Field) → place < length fields → f ≡ get_or fields place f
    → number_in (digits_of f) key ≡ slice_index (numbers_of_key (map digits_of fields) key) place
read_at fields key place f within is =
    sym (get_or_from_slice_get (numbers_of_key (map digits_of fields) key) place (number_in (digits_of f) key) 0
    (slice_get-map (λ d. number_in d key) (map digits_of fields) place ∙ ap (option_map (λ d. number_in d key)) (digits_at fields place f within is)))

-- in a word of the key
pub read_there : (fields : List Field) (key : List ℕ) (place word : ℕ) (f : Field) → place < length fields → f ≡ get_or fields place f
    → f.word < length key → word ≡ get_or key f.word word
    → digits_in word (2 ^ f.shift) (2 ^ f.width) ≡ slice_index (numbers_of_key (map digits_of fields) key) place
read_there fields key place word f within is there word_is =
    ap (λ (w : ℕ). digits_in w (2 ^ f.shift) (2 ^ f.width)) (get_or_read key f.word word there word_is 0) ∙ read_at fields key place f within is

-- and beyond its words
pub read_past : (fields : List Field) (key : List ℕ) (place : ℕ) (f : Field) → place < length fields → f ≡ get_or fields place f
    → length key ≤ f.word → 0 ≡ slice_index (numbers_of_key (map digits_of fields) key) place
read_past fields key place f within is past =
    let none : slice_index key f.word ≡ 0 = sym (unwrap_or-slice_get key f.word 0) ∙ ap (λ (o : Option ℕ). unwrap_or o 0) (slice_get_past key f.word past) in
    let zero : digits_in 0 (2 ^ f.shift) (2 ^ f.width) ≡ 0 = grind (arith, zero-div, zero-mod) in
    sym zero ∙ ap (λ (w : ℕ). digits_in w (2 ^ f.shift) (2 ^ f.width)) (sym none) ∙ read_at fields key place f within is

-- ---- a number is set

turned : (digits other : Digits) → AreApart digits other → AreApart other digits
turned digits other (inl words) = inl (λ is. words (sym is))
turned digits other (inr (inl above)) = inr (inr above)
turned digits other (inr (inr below)) = inr (inl below)

-- of digits that are apart from each other those at a place are so from all others
apart_from : (layout : List Digits) (place i : ℕ) (digits other : Digits) → AllPairs AreApart layout → (i ≡ place → ⊥)
    → slice_get layout place ≡ Some digits → slice_get layout i ≡ Some other → AreApart digits other
apart_from layout place i digits other apart elsewhere there also =
    let here : get_or layout place digits ≡ digits = get_or_from_slice_get layout place digits digits there in
    let of_other : get_or layout i digits ≡ other = get_or_from_slice_get layout i other digits also in
    elim (cases_order i place) [
      | inl is ↦ absurd (elsewhere is)
      | inr (inl less) ↦ turned other digits
          (subst (λ d. AreApart other d) here (subst (λ d. AreApart d (get_or layout place digits)) of_other
          (apart i place digits less (slice_get_within layout place digits there))))
      | inr (inr more) ↦ subst (AreApart digits) of_other (subst (λ d. AreApart d (get_or layout i digits)) here
          (apart place i digits more (slice_get_within layout i other also)))
    ]

pub word_within : (N : ℕ) (layout : List Digits) (place : ℕ) (digits : Digits) → All (λ d. d.word < N) layout → slice_get layout place ≡ Some digits
    → digits.word < N
word_within N layout place digits all there =
    subst (λ (d : Digits). d.word < N) (get_or_from_slice_get layout place digits digits there)
    (All-get_or (λ (d : Digits). d.word < N) layout place digits (slice_get_within layout place digits there) all)

-- the row of a key with this word is the row with the number that was set in it
pub row_with : (N : ℕ) (layout : List Digits) (key : List ℕ) (place number word : ℕ) (digits : Digits) → AreOfWords N layout → length key ≡ N
    → slice_get layout place ≡ Some digits
    → (number < 2 ^ digits.width → word ≡ with_field (slice_index key digits.word) (2 ^ digits.shift) (2 ^ digits.width) number)
    → IfSome (slice_get layout place) (λ d. number < 2 ^ d.width)
    → numbers_of_key layout (slice_set key digits.word word) ≡ slice_set (numbers_of_key layout key) place number
row_with N layout key place number word digits words size there written small =
    let few : number < 2 ^ digits.width = subst (λ so. IfSome so (λ d. number < 2 ^ d.width)) there small in
    let within : digits.word < length key = omega (arith, size, word_within N layout place digits words.within there) in
    ap (λ (w : ℕ). numbers_of_key layout (slice_set key digits.word w)) (written few)
    ∙ row_set layout key place number digits there (λ i other elsewhere also. apart_from layout place i digits other words.apart elsewhere there also)
    within few

-- ---- a row is moved

-- there is room for the number at a place
pub room_at : (layout : List Digits) (row : List ℕ) (place : ℕ) → HasRoomFor layout row
    → IfSome (slice_get layout place) (λ digits. slice_index row place < 2 ^ digits.width)
room_at [] row place all = tt
room_at (d ∷ layout) [] place all = absurd all
room_at (d ∷ layout) (n ∷ row) zero all = all.0
room_at (d ∷ layout) (n ∷ row) (suc place) all = room_at layout row place all.1

-- the numbers below a place and the one that is set there are the row's
pub moved_more : (old new row : List ℕ) (place : ℕ) → place < length old → new ≡ slice_set old place (slice_index row place)
    → ((i : ℕ) → i < place → slice_index old i ≡ slice_index row i) → (i : ℕ) → i < place + 1 → slice_index new i ≡ slice_index row i
moved_more old new row place within is below i less =
    ap (λ (ns : List ℕ). slice_index ns i) is ∙ elim (cases_order i place) [
      | inl here ↦ subst (λ (j : ℕ). slice_index (slice_set old place (slice_index row place)) j ≡ slice_index row j) (sym here)
          (get_or-set_same old place (slice_index row place) 0 within)
      | inr other ↦
          let before : i < place = omega (arith, less, other) in
          get_or-set_other old place i (slice_index row place) 0 (λ here. omega (arith, before, here)) ∙ below i before
    ]

pub row_length : (layout : List Digits) (key : List ℕ) → length (numbers_of_key layout key) ≡ length layout
row_length layout key = length-map layout (λ d. number_in d key)

pub row_moved : (old new : List Digits) (key moved : List ℕ) → HasRoomFor new (numbers_of_key old key)
    → ((i : ℕ) → i < length old → slice_index (numbers_of_key new moved) i ≡ slice_index (numbers_of_key old key) i)
    → numbers_of_key new moved ≡ numbers_of_key old key
row_moved old new key moved room each =
    let count : length (numbers_of_key new moved) ≡ length (numbers_of_key old key) =
    row_length new moved ∙ sym (AllZip-long (λ digits number. number < 2 ^ digits.width) new (numbers_of_key old key) room) in
    ext_get_or 0 (numbers_of_key new moved) (numbers_of_key old key) count (λ i within. each i (omega (arith, within, count, row_length old key)))

-- the rows of keys that were moved one by one
pub rows_moved : (old new : List Digits) (before after : List (List ℕ)) → length after ≡ length before
    → ((i : ℕ) → i < length before → HasRoomFor new (numbers_of_key old (get_or before i []))
    → numbers_of_key new (get_or after i []) ≡ numbers_of_key old (get_or before i []))
    → All (λ key. HasRoomFor new (numbers_of_key old key)) before → map (numbers_of_key new) after ≡ map (numbers_of_key old) before
rows_moved old new [] [] count each room = refl
rows_moved old new (key ∷ before) (other ∷ after) count each room =
    let first : numbers_of_key new other ≡ numbers_of_key old key =
    each 0 (omega arith) (All-head (λ k. HasRoomFor new (numbers_of_key old k)) key before room) in
    let rest : length after ≡ length before = omega (arith, count) in
    let others : map (numbers_of_key new) after ≡ map (numbers_of_key old) before =
    rows_moved old new before after rest (λ i within. let next : suc i < suc (length before) = omega (arith, within) in each (suc i) next)
    (All-tail (λ k. HasRoomFor new (numbers_of_key old k)) key before room) in
    λ k. first k ∷ others k
rows_moved old new [] (other ∷ after) count each room = absurd (omega (arith, count))
rows_moved old new (key ∷ before) [] count each room = absurd (omega (arith, count))

-- ---- keys that are there

pub contains_there : (keys : List (List ℕ)) (number : ℕ) (key : List ℕ) → slice_get keys number ≡ Some key → Contains keys key
contains_there keys number key there = (number, slice_get_within keys number key there, get_or_from_slice_get keys number key key there)
