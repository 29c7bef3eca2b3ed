-- Items of the init part: what is read stands there, and what stands there is read.
use Rattle.std.proofs.Common.{◌≡◌, ℕ, ◌≤◌, true, false, List, [], ◌∷◌, ◌++◌, length, Option, Some, None, Ok, refl, sym, ap, subst, ◌∙◌, ◌⊎◌, inl, inr}
use Rattle.std.proofs.Common.{append_assoc, arith}
use Rattle.std.specs.List.{list_all}
use Rattle.std.proofs.lemmas.Bool.{cases_Bool, and_right, false_from_ne_true}
use Rattle.std.proofs.lemmas.List.{append-nil}
use Rattle.std.proofs.lemmas.List.Folds.{list_all-append}
use Rattle.texts.proofs.{bind_ok, ok_is, stripped-all, all_by_test, test_of_all}
use Rattle.texts.specs.{is_gap, AllPass}
use Rattle.litmus_tokens.specs.Names.{core}
use Rattle.litmus_tokens.specs.Assignments.{NamedLocation, AssignmentValue, declared, item as an_item}
use Rattle.litmus_tokens.specs.Assignments.NamedLocation.{in_register, at_location}
use Rattle.litmus_tokens.specs.Assignments.NamedValue.{number, address_of}
use Rattle.litmus_tokens.proofs.AssignmentLaws.{item_settles}
use Rattle.litmus_reader.specs.{LitmusFault, Target, Register, Word, Names, InitItem, InitItems, no_items, target_resolved, item_resolved, item_added}
use Rattle.litmus_reader.specs.{piece_added, pieces_added, AreItems, IsAt, IsNamedValue, each_once, name_of_place, names_of, names_in}
use Rattle.litmus_reader.specs.Openings.AreItems.{none, empty, item}
use Rattle.litmus_reader.proofs.FirstAppearances.{met, met-once, met-append, fewer, IsMet, Resolves, found_by, some_by, resolves_known, resolves_named}
use Rattle.litmus_reader.proofs.FirstAppearances.{resolves_both, value_resolves}

-- ---- items with indices for names

abbrev pub IsTarget : Names → NamedLocation → Target → Type 0
IsTarget names (in_register hart register) target = target ≡ Register hart register
IsTarget names (at_location name) target = (index : ℕ) × IsAt names name index × (target ≡ Word index)

abbrev pub IsAssignmentOf : Names → AssignmentValue → InitItem → Type 0
IsAssignmentOf names assignment resolved_item = IsTarget names assignment.0 resolved_item.target × IsNamedValue names assignment.1 resolved_item.value

abbrev pub AreAssignments : Names → List AssignmentValue → List InitItem → Type 0
AreAssignments names [] [] = Unit {0}
AreAssignments names [] (resolved_item ∷ resolved_items) = ⊥
AreAssignments names (assignment ∷ assignments) [] = ⊥
AreAssignments names (assignment ∷ assignments) (resolved_item ∷ resolved_items) =
    IsAssignmentOf names assignment resolved_item × AreAssignments names assignments resolved_items

pub target_resolves : (place : NamedLocation)
    → Resolves (λ names. target_resolved names place) (name_of_place place)
    (λ names target. IsTarget names place target)
unfolding target_resolved
target_resolves (in_register hart register) = resolves_known (Register hart register)
target_resolves (at_location name) = resolves_named (λ index. Word index) name

abbrev put_there : Target → ℕ → InitItem
put_there target value = record { target = target; value = value }

-- an item as its two parts
abbrev IsPut : AssignmentValue → Names → InitItem → Type 0
IsPut assignment names one = (target : Target) × (value : ℕ) × IsTarget names assignment.0 target
    × IsNamedValue names assignment.1 value × (one ≡ put_there target value)

item_resolves : (assignment : AssignmentValue)
    → Resolves (λ names. item_resolved names assignment) (names_of assignment) (λ names one. IsPut assignment names one)
unfolding item_resolved
item_resolves assignment = resolves_both (λ target value. put_there target value) (target_resolves assignment.0) (value_resolves assignment.1)

assignment_of : (assignment : AssignmentValue) (names : Names) (one : InitItem) → IsPut assignment names one → IsAssignmentOf names assignment one
assignment_of assignment names one (target, value, at, is, same) = subst (IsAssignmentOf names assignment) (sym same) (at, is)

pub assignments_later : (names more : Names) (assignments : List AssignmentValue) (items : List InitItem)
    → AreAssignments names assignments items → AreAssignments (met names more) assignments items
assignments_later names more [] [] are = tt
assignments_later names more (assignment ∷ assignments) (one ∷ items) are = (
  ((target_resolves assignment.0).later names more one.target are.0.0, (value_resolves assignment.1).later names more one.value are.0.1),
  assignments_later names more assignments items are.1,
)
assignments_later names more x y are = absurd are

-- each assignment has an item
some_put : (assignment : AssignmentValue) → (names : Names) × (one : InitItem) × IsPut assignment names one
some_put (in_register hart register, number n) = ([], _, (Register hart register, n, refl, refl, refl))
some_put (in_register hart register, address_of name) = (name ∷ [], _, (Register hart register, 0, refl, (0, ([], [], refl, refl), refl), refl))
some_put (at_location name, number n) = (name ∷ [], _, (Word 0, n, (0, ([], [], refl, refl), refl), refl, refl))
some_put (at_location name, address_of other) =
    (name ∷ other ∷ [], _, (Word 0, 4, (0, ([], other ∷ [], refl, refl), refl), (1, (name ∷ [], [], refl, refl), refl), refl))

-- ---- the items after those so far

record AreAdded (assignments : List AssignmentValue) (so_far whole : InitItems) : Type 0 where
  items : List InitItem
  all : whole.items ≡ so_far.items ++ items
  names : whole.names ≡ met so_far.names (names_in assignments)
  few : length so_far.names ≤ 1024 → length whole.names ≤ 1024
  resolved_items : AreAssignments whole.names assignments items

none_added : (so_far : InitItems) → AreAdded [] so_far so_far
none_added so_far = record { items = []; all = sym (append-nil so_far.items); names = refl; few = λ few. few; resolved_items = tt }

one_added : (so_far more whole : InitItems) (assignment : AssignmentValue) (assignments : List AssignmentValue) (one : InitItem)
    → IsMet (names_of assignment) (λ names item. IsPut assignment names item) so_far.names (one, more.names)
    → more.items ≡ so_far.items ++ one ∷ [] → AreAdded assignments more whole → AreAdded (assignment ∷ assignments) so_far whole
one_added so_far more whole assignment assignments one here joined rest = record {
  items = one ∷ rest.items;
  all = rest.all ∙ ap (λ (xs : List InitItem). xs ++ rest.items) joined ∙ append_assoc so_far.items (one ∷ []) rest.items;
  names = rest.names ∙ ap (λ (ns : Names). met ns (names_in assignments)) here.all
      ∙ sym (met-append so_far.names (names_of assignment) (names_in assignments));
  few = λ few. rest.few (here.few few);
  resolved_items = (
    assignment_of assignment whole.names one (subst (λ (ns : Names). IsPut assignment ns one) (sym rest.names)
        ((item_resolves assignment).later more.names (names_in assignments) one here.is)),
    rest.resolved_items,
  );
}

-- ---- gaps, and texts of items

no_core : (text : List ℕ) → list_all is_gap text ≡ true → core text ≡ []
no_core text e = stripped-all is_gap text (all_by_test is_gap text e)

item_solid : (text : List ℕ) (assignment : AssignmentValue) → an_item.Says text assignment → list_all is_gap text ≡ false
unfolding an_item declared
item_solid text assignment (inl (left, right, whole, at, says)) =
    rw (whole, list_all-append is_gap left (61 ∷ right)) (and_right (list_all is_gap left) false refl)
item_solid text assignment (inr (at, (name, (gap, rest, whole, gap_is, is, inner), same), made)) =
    false_from_ne_true (list_all is_gap text) (λ gaps. let none = no_core text gaps in absurd cc)

-- ---- piece by piece

abbrev with_item : InitItems → InitItem × Names → InitItems
with_item so_far one = record { items = so_far.items ++ one.0 ∷ []; names = one.1 }

piece_found : (so_far more : InitItems) (piece : List ℕ) → piece_added so_far piece ≡ Ok more
    → (AllPass is_gap piece × (so_far ≡ more))
    ⊎ ((assignment : AssignmentValue) × an_item.Says piece assignment × (one : InitItem)
    × (item_resolved so_far.names assignment ≡ Ok (one, more.names)) × (more.items ≡ so_far.items ++ one ∷ []))
unfolding piece_added item_added
piece_found so_far more piece e = elim (cases_Bool (list_all is_gap piece)) [
  | inl gaps ↦ inl (all_by_test is_gap piece gaps, ok_is LitmusFault so_far more (rw gaps at e))
  | inr solid ↦ inr (go (an_item.reads piece) refl (rw solid at e))
]
  where
    go : (o : Option AssignmentValue) → an_item.reads piece ≡ o → item_added so_far o ≡ Ok more
        → (assignment : AssignmentValue) × an_item.Says piece assignment × (one : InitItem)
        × (item_resolved so_far.names assignment ≡ Ok (one, more.names)) × (more.items ≡ so_far.items ++ one ∷ [])
    go None is made = absurd cc
    go (Some assignment) is made =
        let step = bind_ok (item_resolved so_far.names assignment) (λ (one : InitItem × Names). Ok (with_item so_far one)) more made in
        let same : with_item so_far step.0 ≡ more = ok_is LitmusFault (with_item so_far step.0) more step.2 in (
          assignment,
          item_settles.found piece assignment is,
          step.0.0,
          step.1 ∙ ap (λ (m : InitItems). Ok (step.0.0, m.names)) same,
          sym (ap (λ (m : InitItems). m.items) same),
        )

pieces_found : (ps : List (List ℕ)) (so_far whole : InitItems) → pieces_added so_far ps ≡ Ok whole
    → (assignments : List AssignmentValue) × AreItems ps assignments × AreAdded assignments so_far whole
pieces_found [] so_far whole e = ([], none, subst (AreAdded [] so_far) (ok_is LitmusFault so_far whole e) (none_added so_far))
pieces_found (piece ∷ ps) so_far whole e =
    let step = bind_ok (piece_added so_far piece) (λ (more : InitItems). pieces_added more ps) whole e in
    let rest = pieces_found ps step.0 whole step.2 in
    elim (piece_found so_far step.0 piece step.1) [
      | inl gaps ↦
          (rest.0, empty piece ps rest.0 gaps.0 rest.1, subst (λ (start : InitItems). AreAdded rest.0 start whole) (sym gaps.1) rest.2)
      | inr one ↦ (
        one.0 ∷ rest.0,
        item piece ps one.0 rest.0 one.1 rest.1,
        one_added so_far step.0 whole one.0 rest.0 one.2
            (found_by (item_resolves one.0) so_far.names (one.2, step.0.names) one.3) one.4 rest.2,
      )
    ]

pieces_only : (ps : List (List ℕ)) (assignments : List AssignmentValue) (so_far : InitItems) → AreItems ps assignments
    → length (met so_far.names (names_in assignments)) ≤ 1024
    → (whole : InitItems) × (pieces_added so_far ps ≡ Ok whole) × AreAdded assignments so_far whole
unfolding piece_added item_added
pieces_only ps assignments so_far none few = (so_far, refl, none_added so_far)
pieces_only ps assignments so_far (empty piece rest others gaps items) few =
    let next = pieces_only rest others so_far items few in
    (next.0, (rw (test_of_all is_gap piece gaps) next.1), next.2)
pieces_only ps assignments so_far (item piece rest assignment others is items) few =
    let start = met so_far.names (names_of assignment) in
    let all = subst (λ (ns : Names). length ns ≤ 1024) (met-append so_far.names (names_of assignment) (names_in others)) few in
    let some = some_put assignment in
    let one = some_by (item_resolves assignment) so_far.names some.0 some.1 some.2 (omega (arith, all, fewer start (names_in others))) in
    let more = with_item so_far (one.0, start) in
    let next = pieces_only rest others more items all in (
      next.0,
      (rw (item_solid piece assignment is, item_settles.only piece assignment is, one.1) next.1),
      one_added so_far more next.0 assignment others one.0 (found_by (item_resolves assignment) so_far.names (one.0, start) one.1) refl next.2,
    )

-- ---- all items

pub record AreRead (assignments : List AssignmentValue) (all : InitItems) : Type 0 where
  pub names : all.names ≡ each_once (names_in assignments)
  pub few : length all.names ≤ 1024
  pub resolved_items : AreAssignments all.names assignments all.items

all_added : (assignments : List AssignmentValue) (all : InitItems) → AreAdded assignments no_items all → AreRead assignments all
all_added assignments all are = record {
  names = are.names ∙ met-once [] (names_in assignments);
  few = are.few (omega arith);
  resolved_items = subst (AreAssignments all.names assignments) (sym are.all) are.resolved_items;
}

pub items_found : (ps : List (List ℕ)) (all : InitItems) → pieces_added no_items ps ≡ Ok all
    → (assignments : List AssignmentValue) × AreItems ps assignments × AreRead assignments all
items_found ps all e = let found = pieces_found ps no_items all e in (found.0, found.1, all_added found.0 all found.2)

pub items_only : (ps : List (List ℕ)) (assignments : List AssignmentValue) → AreItems ps assignments
    → length (each_once (names_in assignments)) ≤ 1024
    → (all : InitItems) × (pieces_added no_items ps ≡ Ok all) × AreRead assignments all
items_only ps assignments items few =
    let read = pieces_only ps assignments no_items items (rw (met-once [] (names_in assignments)) few) in
    (read.0, read.1, all_added assignments read.0 read.2)
