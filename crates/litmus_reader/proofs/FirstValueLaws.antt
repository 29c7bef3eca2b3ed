-- First values: registers and words begin with what the items put there last.
use Rattle.std.proofs.Common.{◌≡◌, ℕ, ◌-◌, ◌<◌, ◌≤◌, ◌==◌, ◌&&◌, Bool, true, false, if◌then◌else◌, List, [], ◌∷◌, length, get_or, replicate, slice_index_or}
use Rattle.std.proofs.Common.{Option, Some, None, Ok, All, refl, sym, ap, subst, ◌∙◌, inl, inr, arith, ext_get_or}
use Rattle.std.specs.Bool.{Decides}
use Rattle.std.specs.List.{AllByRecursion}
use Rattle.std.specs.Str.{bytes_eq}
use Rattle.std.proofs.lemmas.Bool.Decides.{Decides-ltb}
use Rattle.std.proofs.lemmas.Bool.{ltb-true, eqb-false, eq-eqb, ne_eqb, cases_Bool, cases_eq, cases_lt, both_ways}
use Rattle.std.proofs.lemmas.Slice.Eq.{bytes_eq-Decides}
use Rattle.std.proofs.lemmas.List.{length-append, get_or_append_left, get_or-append_right, length-set, length-replicate, get_or-replicate, get_or-set_same}
use Rattle.std.proofs.lemmas.List.{get_or-set_other}
use Rattle.std.proofs.lemmas.List.Elements.{All-cons, All-nil, All-head, All-tail, All-replicate, All-set}
use Rattle.texts.proofs.ResultLaws.{bind_ok, ok_is}
use Rattle.litmus_tokens.specs.Assignments.{NamedLocation, NamedValue, AssignmentValue}
use Rattle.litmus_tokens.specs.Assignments.NamedLocation.{in_register, at_location}
use Rattle.litmus_reader.specs.{LitmusFault, Target, Register, Word, Names, InitItem, InitItems, IsAt, IsNamedValue, or_else, last_put, is_register}
use Rattle.litmus_reader.specs.{is_location, IsFirstValue, AreRegisters, AreFirstWords, IsHartThere}
use Rattle.litmus_reader.specs.Values.{Values, zeros, with_register, with_value, is_there, item_put, items_put, values_at, padded}
use Rattle.litmus_reader.proofs.FirstAppearances.{Distinct, met, fewer, one_index, one_name, at_any, at_below, one_named_value}
use Rattle.litmus_reader.proofs.ItemLaws.{IsTarget, AreAssignments, AreRead, assignments_later}

-- ---- where a value may stand

-- a register of a hart, or the word of a location
data Slot : Type 0 where
  in_hart : (hart n : ℕ) → Slot
  in_words : (index : ℕ) → Slot

abbrev slot_of : Target → Slot
slot_of (Register hart register) = in_hart hart register.number
slot_of (Word index) = in_words index

abbrev is_slot : Slot → Slot → Bool
is_slot (in_hart hart n) (in_hart other m) = (hart == other) && (n == m)
is_slot (in_words index) (in_words other) = index == other
is_slot a b = false

abbrev at_slot : Values → Slot → ℕ
at_slot values (in_hart hart n) = slice_index_or (slice_index_or values.registers hart []) n 0
at_slot values (in_words index) = slice_index_or values.words index 0

-- it is there, and isn't x0
abbrev IsSlot : (harts locations : ℕ) → Slot → Type 0
IsSlot harts locations (in_hart hart n) = (hart < harts) × (1 ≤ n) × (n < 32)
IsSlot harts locations (in_words index) = index < locations

-- 32 registers, of which x0 is 0
abbrev IsFile : List ℕ → Type 0
IsFile registers = (length registers ≡ 32) × (slice_index_or registers 0 0 ≡ 0)

record IsShaped (harts locations : ℕ) (values : Values) : Type 0 where
  count : length values.registers ≡ harts
  files : All IsFile values.registers
  words : length values.words ≡ locations

zeros-shaped : (harts locations : ℕ) → IsShaped harts locations (zeros harts locations)
zeros-shaped harts locations = record {
  count = length-replicate harts (replicate {A = ℕ} 32 0);
  files = All-replicate IsFile harts (replicate {A = ℕ} 32 0) (refl, refl);
  words = length-replicate {A = ℕ} locations 0;
}

zeros-at : (harts locations : ℕ) (slot : Slot) → IsSlot harts locations slot → at_slot (zeros harts locations) slot ≡ 0
zeros-at harts locations (in_hart hart n) (here, some, few) = rw (get_or-replicate harts hart (replicate {A = ℕ} 32 0) [] here) (get_or-replicate 32 n 0 0 few)
zeros-at harts locations (in_words index) here = get_or-replicate locations index 0 0 here

-- ---- one item

with_file : (number value : ℕ) (registers : List ℕ) → IsFile registers → IsFile (with_register number value registers)
with_file number value registers is = grind (arith, cases_Bool, length-set, get_or-set_other, eqb-false)

with_at : (number value : ℕ) (registers : List ℕ) (n : ℕ) → 1 ≤ n → n < length registers
    → slice_index_or (with_register number value registers) n 0 ≡ (if number == n then value else slice_index_or registers n 0)
with_at number value registers n some few = grind (arith, cases_eq, cases_Bool, ne_eqb, eq-eqb, eqb-false, get_or-set_same, get_or-set_other)

put_shaped : (harts locations : ℕ) (target : Target) (value : ℕ) (values : Values) → IsShaped harts locations values
    → is_there harts target ≡ true → IsShaped harts locations (with_value target value values)
put_shaped harts locations (Register hart register) value values shaped there =
    let old = slice_index_or values.registers hart [] in
    let here : hart < length values.registers = omega (arith, ltb-true hart harts there, shaped.count) in
    record {
      count = length-set values.registers hart (with_register register.number value old) ∙ shaped.count;
      files = All-set IsFile values.registers hart (with_register register.number value old)
          (with_file register.number value old (shaped.files hart [] here)) shaped.files;
      words = shaped.words;
    }
put_shaped harts locations (Word index) value values shaped there =
    record { count = shaped.count; files = shaped.files; words = length-set values.words index value ∙ shaped.words }

put_at : (harts locations : ℕ) (target : Target) (value : ℕ) (values : Values) (slot : Slot) → IsShaped harts locations values
    → is_there harts target ≡ true → IsSlot harts locations slot
    → at_slot (with_value target value values) slot ≡ (if is_slot (slot_of target) slot then value else at_slot values slot)
put_at harts locations (Register other register) value values (in_hart hart n) shaped there (here, some, few) =
    let inside : other < length values.registers = omega (arith, ltb-true other harts there, shaped.count) in
    let file = shaped.files other [] inside in
    elim (cases_eq hart other) [
      | inl same ↦ rw (
        same,
        eq-eqb other other refl,
        get_or-set_same values.registers other
            (with_register register.number value (slice_index_or values.registers other [])) [] inside,
      )
          (with_at register.number value (slice_index_or values.registers other []) n some (omega (arith, few, file.0)))
      | inr apart ↦ rw (ne_eqb other hart (λ same. apart (sym same))) (ap (λ (registers : List ℕ). slice_index_or registers n 0)
          (get_or-set_other values.registers other hart (with_register register.number value (slice_index_or values.registers other [])) [] apart))
    ]
put_at harts locations (Word index) value values (in_words other) shaped there here = elim (cases_eq other index) [
  | inl same ↦ rw (same, eq-eqb index index refl) (get_or-set_same values.words index value 0 (omega (arith, same, here, shaped.words)))
  | inr apart ↦ rw (ne_eqb index other (λ same. apart (sym same))) (get_or-set_other values.words index other value 0 apart)
]
put_at harts locations target value values slot shaped there is = refl

-- ---- all items

abbrev AreThere : ℕ → List InitItem → Type 0
AreThere harts items = AllByRecursion (λ (item : InitItem). is_there harts item.target ≡ true) items

-- what the items leave at a slot
abbrev last_value : Slot → (start : ℕ) → List InitItem → ℕ
last_value slot start [] = start
last_value slot start (item ∷ items) = last_value slot (if is_slot (slot_of item.target) slot then item.value else start) items

record ArePut (harts locations : ℕ) (items : List InitItem) (values out : Values) : Type 0 where
  shaped : IsShaped harts locations out
  there : AreThere harts items
  slots : (slot : Slot) → IsSlot harts locations slot → at_slot out slot ≡ last_value slot (at_slot values slot) items

one_put : (item : InitItem) (values more : Values) (b : Bool) → is_there (length values.registers) item.target ≡ b → item_put values item ≡ Ok more
    → (is_there (length values.registers) item.target ≡ true) × (with_value item.target item.value values ≡ more)
unfolding item_put
one_put item values more true is e = (is, ok_is LitmusFault (with_value item.target item.value values) more (rw is at e))
one_put item values more false is e = absurd (let never = rw is at e in cc)

all_put : (harts locations : ℕ) (items : List InitItem) (values out : Values) → IsShaped harts locations values
    → items_put values items ≡ Ok out → ArePut harts locations items values out
all_put harts locations [] values out shaped e = subst (ArePut harts locations [] values) (ok_is LitmusFault values out e)
    (record { shaped = shaped; there = tt; slots = λ slot is. refl })
all_put harts locations (item ∷ items) values out shaped e =
    let step = bind_ok (item_put values item) (λ (more : Values). items_put more items) out e in
    let one = one_put item values step.0 (is_there (length values.registers) item.target) refl step.1 in
    let there = subst (λ (n : ℕ). is_there n item.target ≡ true) shaped.count one.0 in
    let more = with_value item.target item.value values in
    let rest = all_put harts locations items more out (put_shaped harts locations item.target item.value values shaped there)
    (subst (λ (v : Values). items_put v items ≡ Ok out) (sym one.1) step.2) in
    record {
      shaped = rest.shaped;
      there = (there, rest.there);
      slots = λ slot is. rest.slots slot is ∙ ap (λ (start : ℕ). last_value slot start items)
          (put_at harts locations item.target item.value values slot shaped there is);
    }

all_there : (harts locations : ℕ) (items : List InitItem) (values : Values) → IsShaped harts locations values → AreThere harts items
    → (out : Values) × (items_put values items ≡ Ok out)
unfolding item_put
all_there harts locations [] values shaped there = (values, refl)
all_there harts locations (item ∷ items) values shaped there =
    let rest = all_there harts locations items (with_value item.target item.value values)
    (put_shaped harts locations item.target item.value values shaped there.0) there.1 in
    (rest.0, rw (shaped.count, there.0) rest.1)

-- ---- what the assignments say of them

hart_there : (names : Names) (harts : ℕ) (assignment : AssignmentValue) (target : Target) → IsTarget names assignment.0 target
    → Decides (is_there harts target) (IsHartThere harts assignment)
hart_there names harts (in_register hart register, value) target is = rw is (Decides-ltb hart harts)
hart_there names harts (at_location name, value) target (index, at, is) = rw is (λ there. tt, λ there. refl)

harts_there : (names : Names) (harts : ℕ) (assignments : List AssignmentValue) (items : List InitItem)
    → AreAssignments names assignments items → (AreThere harts items → All (IsHartThere harts) assignments)
    × (All (IsHartThere harts) assignments → AreThere harts items)
harts_there names harts [] [] are = (λ there. All-nil (IsHartThere harts), λ there. tt)
harts_there names harts (assignment ∷ assignments) (item ∷ items) are =
    let first = hart_there names harts assignment item.target are.0.0 in
    let rest = harts_there names harts assignments items are.1 in (
      λ there. All-cons (IsHartThere harts) assignment assignments (first.0 there.0) (rest.0 there.1),
      λ there. (
        first.1 (All-head (IsHartThere harts) assignment assignments there),
        rest.1 (All-tail (IsHartThere harts) assignment assignments there),
      ),
    )
harts_there names harts x y are = absurd are

-- what an item puts, and what was there where it puts nothing
abbrev IsValueOr : Names → Option NamedValue → (start word : ℕ) → Type 0
IsValueOr names None start word = word ≡ start
IsValueOr names (Some value) start word = IsNamedValue names value word

later_wins : (names : Names) (later this : Option NamedValue) (start between word : ℕ)
    → IsValueOr names later between word → IsValueOr names this start between → IsValueOr names (or_else later this) start word
later_wins names later this start between word same before = grind arith

if_put : (names : Names) (b : Bool) (value : NamedValue) (start word : ℕ) → IsNamedValue names value word
    → IsValueOr names (if b then Some value else None) start (if b then word else start)
if_put names b value start word is = grind arith

-- the test of places picks the items of this slot
abbrev Picks : Names → (NamedLocation → Bool) → Slot → Type 0
Picks names p slot = (place : NamedLocation) (target : Target) → IsTarget names place target → p place ≡ is_slot (slot_of target) slot

put_last : (names : Names) (p : NamedLocation → Bool) (slot : Slot) (assignments : List AssignmentValue) (items : List InitItem) (start : ℕ)
    → Picks names p slot → AreAssignments names assignments items → IsValueOr names (last_put p assignments) start (last_value slot start items)
put_last names p slot [] [] start picks are = refl
put_last names p slot (assignment ∷ assignments) (item ∷ items) start picks are =
    let b = is_slot (slot_of item.target) slot in
    let here = subst (λ (c : Bool). IsValueOr names (if c then Some assignment.1 else None) start (if b then item.value else start))
    (sym (picks assignment.0 item.target are.0.0)) (if_put names b assignment.1 start item.value are.0.1) in
    later_wins names (last_put p assignments) (if p assignment.0 then Some assignment.1 else None) start (if b then item.value else start)
    (last_value slot start (item ∷ items)) (put_last names p slot assignments items (if b then item.value else start) picks are.1) here
put_last names p slot x y start picks are = absurd are

picks_register : (names : Names) (hart n : ℕ) → Picks names (is_register hart n) (in_hart hart n)
picks_register names hart n (in_register other register) target is = rw is refl
picks_register names hart n (at_location name) target (index, at, is) = rw is refl

picks_location : (names : Names) (index : ℕ) (name : List ℕ) → Distinct names → IsAt names name index → Picks names (is_location name) (in_words index)
picks_location names index name distinct at (in_register hart register) target is = rw is refl
picks_location names index name distinct at (at_location other) target (place, here, is) = elim (cases_Bool (bytes_eq other name)) [
  | inl same ↦ (
      let named = (bytes_eq-Decides other name).0 same in
      let one = one_index names name place index distinct (subst (λ (n : List ℕ). IsAt names n place) named here) at in
      rw (same, is, eq-eqb place index one) refl)
  | inr differs ↦ (
      let apart : place ≡ index → ⊥ = λ one. both_ways (bytes_eq other name) differs ((bytes_eq-Decides other name).1
      (one_name names other name index (subst (IsAt names other) one here) at)) in
      rw (differs, is, ne_eqb place index apart) refl)
]

-- no item is for a location that isn't among the names
none_past : (names : Names) (assignments : List AssignmentValue) (items : List InitItem) (index start : ℕ)
    → AreAssignments names assignments items → length names ≤ index → last_value (in_words index) start items ≡ start
none_past names [] [] index start are past = refl
none_past names (assignment ∷ assignments) (item ∷ items) index start are past =
    rw (apart assignment.0 item.target are.0.0) (none_past names assignments items index start are.1 past)
  where
    apart : (place : NamedLocation) (target : Target) → IsTarget names place target → is_slot (slot_of target) (in_words index) ≡ false
    apart (in_register hart register) target is = rw is refl
    apart (at_location name) target (other, at, is) = rw is (ne_eqb other index (omega (arith, at_below names name other at, past)))
none_past names x y index start are past = absurd are

-- ---- the first values of a test

first_value : (names : Names) (put : Option NamedValue) (word : ℕ) → IsValueOr names put 0 word → IsFirstValue names put word
first_value names put word is = grind arith

-- the values of the items, where more names follow theirs
pub record AreFirst (harts : ℕ) (assignments : List AssignmentValue) (names : Names) (values : Values) : Type 0 where
  pub there : All (IsHartThere harts) assignments
  pub count : length values.registers ≡ harts
  pub registers : (hart : ℕ) → hart < harts → AreRegisters names assignments hart (slice_index_or values.registers hart [])
  pub words : AreFirstWords names assignments (padded (length names) values.words)

pub values_found : (harts : ℕ) (assignments : List AssignmentValue) (all : InitItems) (more : Names) (values : Values)
    → AreRead assignments all → Distinct (met all.names more) → values_at harts all ≡ Ok values → AreFirst harts assignments (met all.names more) values
unfolding values_at
values_found harts assignments all more values read distinct e = record {
  there = (harts_there all.names harts assignments all.items read.resolved_items).0 put.there;
  count = put.shaped.count;
  registers = λ hart here.
      let file = put.shaped.files hart [] (omega (arith, here, put.shaped.count)) in
      record {
        count = file.0;
        zero = file.1;
        others = λ n some few. first_value final (last_put (is_register hart n) assignments) _
            (at (in_hart hart n) (is_register hart n) (here, some, few) (picks_register final hart n));
      };
  words = record {
    count = length-append values.words (replicate (length final - length values.words) 0)
        ∙ (rw (length-replicate {A = ℕ} (length final - length values.words) 0) (omega (arith, put.shaped.words, fewer all.names more)));
    values = λ index name named. first_value final (last_put (is_location name) assignments) _ (word index name named);
  };
}
  where
    final : Names
    final = met all.names more

    start : Values
    start = zeros harts (length all.names)

    put : ArePut harts (length all.names) all.items start values
    put = all_put harts (length all.names) all.items start values (zeros-shaped harts (length all.names)) e

    are : AreAssignments final assignments all.items
    are = assignments_later all.names more assignments all.items read.resolved_items

    at : (slot : Slot) (p : NamedLocation → Bool) → IsSlot harts (length all.names) slot → Picks final p slot
        → IsValueOr final (last_put p assignments) 0 (at_slot values slot)
    at slot p is picks = subst (IsValueOr final (last_put p assignments) 0)
        (sym (put.slots slot is ∙ ap (λ (zero : ℕ). last_value slot zero all.items) (zeros-at harts (length all.names) slot is)))
        (put_last final p slot assignments all.items 0 picks are)

    word : (index : ℕ) (name : List ℕ) → IsAt final name index
        → IsValueOr final (last_put (is_location name) assignments) 0 (slice_index_or (padded (length final) values.words) index 0)
    word index name named = elim (cases_lt index (length values.words)) [
      | inl within ↦ subst (IsValueOr final (last_put (is_location name) assignments) 0)
          (sym (get_or_append_left values.words (replicate (length final - length values.words) 0) 0 index within))
          (at (in_words index) (is_location name) (omega (arith, within, put.shaped.words)) (picks_location final index name distinct named))
      | inr past ↦ subst (IsValueOr final (last_put (is_location name) assignments) 0)
          (none_past all.names assignments all.items index 0 read.resolved_items (omega (arith, past, put.shaped.words))
          ∙ sym (get_or-append_right values.words (replicate (length final - length values.words) 0) (length values.words) index 0 refl past
          ∙ get_or-replicate (length final - length values.words) (index - length values.words) 0 0
          (omega (arith, past, at_below final name index named))))
          (put_last final (is_location name) (in_words index) assignments all.items 0 (picks_location final index name distinct named) are)
    ]

pub values_only : (harts : ℕ) (assignments : List AssignmentValue) (all : InitItems) → AreRead assignments all
    → All (IsHartThere harts) assignments → (values : Values) × (values_at harts all ≡ Ok values)
unfolding values_at
values_only harts assignments all read there = all_there harts (length all.names) all.items (zeros harts (length all.names))
    (zeros-shaped harts (length all.names)) ((harts_there all.names harts assignments all.items read.resolved_items).1 there)

-- ---- at most one list of first values

one_first : (names : Names) (put : Option NamedValue) (v w : ℕ) → Distinct names → IsFirstValue names put v → IsFirstValue names put w → v ≡ w
one_first names put v w distinct one other = grind (arith, one_named_value)

pub registers_one : (names : Names) (assignments : List AssignmentValue) (hart : ℕ) (a b : List ℕ) → Distinct names
    → AreRegisters names assignments hart a → AreRegisters names assignments hart b → a ≡ b
registers_one names assignments hart a b distinct one other =
    grind (arith, ext_get_or 0 a b (one.count ∙ sym other.count), get_or a, get_or b, one_first names)

pub words_one : (names : Names) (assignments : List AssignmentValue) (a b : List ℕ) → Distinct names
    → AreFirstWords names assignments a → AreFirstWords names assignments b → a ≡ b
words_one names assignments a b distinct one other = ext_get_or 0 a b (one.count ∙ sym other.count) (λ i within.
    let named = at_any names i (omega (arith, within, one.count)) in
    one_first names (last_put (is_location named.0) assignments) (get_or a i 0) (get_or b i 0) distinct
    (one.values i named.0 named.1) (other.values i named.0 named.1))
