-- The locations in resolved_items have the shapes of names.
use Rattle.std.proofs.lemmas.Bool.{cases_Bool}
use Rattle.std.proofs.Common.{arith, ◌≡◌, ℕ, List, Option, Some, None, refl, sym, subst, inl, inr}
use Rattle.std.specs.Prelude.{IsTrue}
use Rattle.litmus_tokens.specs.Assignments.{NamedLocation, NamedValue, AssignmentValue, location, place, value, declared, an_assignment, item_place, item}
use Rattle.litmus_tokens.specs.Names.{is_name}
use Rattle.litmus_tokens.specs.Tokens.{Token, Beginning, nothing, begins, no_token, is_mark, after_not, atom_from, negation_or, unmarked, begun, beginning_of}
use Rattle.texts.specs.{before, from_first, without_leading, is_gap}
use Rattle.litmus_tokens.proofs.AssignmentLaws.{assignment_settles}
use Rattle.litmus_reader.specs.{HasLocation, HasName, HasNames, TokenHasNames}

location_names : (text name : List ℕ) → location.Says text name → IsTrue (is_name name)
location_names text name (inl (rest, whole, (inner, closed, (is, same)))) = rw same at is
location_names text name (inr (is, same)) = rw same at is

place_names : (text : List ℕ) (at : NamedLocation) → place.Says text at → HasLocation at
unfolding place
place_names text at (inl (both, parts, is)) = subst HasLocation is tt
place_names text at (inr (name, says, is)) = subst HasLocation is (location_names _ name says)

value_names : (text : List ℕ) (v : NamedValue) → value.Says text v → HasName v
unfolding value
value_names text v (inl (name, (is, same), made)) = subst HasName made (rw same at is)
value_names text v (inr (n, says, made)) = subst HasName made tt

declared_names : (text : List ℕ) (at : NamedLocation) → declared.Says text at → HasLocation at
unfolding declared
declared_names text at (name, (gap, rest, whole, gap_is, is, same), made) = subst HasLocation made (rw same at is)

assignment_names : (text : List ℕ) (assignment : AssignmentValue) → an_assignment.Says text assignment → HasNames assignment
unfolding an_assignment
assignment_names text assignment (left, right, whole, at, says) = (place_names left assignment.0 at, value_names right assignment.1 says)

pub item_names : (text : List ℕ) (assignment : AssignmentValue) → item.Says text assignment → HasNames assignment
unfolding item item_place
item_names text assignment (inl (left, right, whole, inl at, says)) = (declared_names left assignment.0 at, value_names right assignment.1 says)
item_names text assignment (inl (left, right, whole, inr at, says)) = (place_names left assignment.0 at, value_names right assignment.1 says)
item_names text assignment (inr (at, says, made)) = subst HasNames made (declared_names text at says, tt)

-- ---- tokens

abbrev pub Named : Beginning → Type 0
Named nothing = Unit {0}
Named (begins token rest) = TokenHasNames token
Named no_token = Unit {0}

atom_named : (bytes rest : List ℕ) (name : Option (List ℕ)) (o : Option AssignmentValue)
    → an_assignment.reads bytes ≡ o → Named (negation_or name (atom_from o rest))
atom_named bytes rest (Some more) o is = tt
atom_named bytes rest None None is = tt
atom_named bytes rest None (Some assignment) is = assignment_names bytes assignment (assignment_settles.found bytes assignment is)

unmarked-named : (text : List ℕ) → Named (unmarked text)
unfolding unmarked
unmarked-named text = atom_named (before is_mark text) (from_first is_mark text) (after_not text) (an_assignment.reads (before is_mark text)) refl

begun-named : (text : List ℕ) → Named (begun text)
unfolding begun
begun-named text = grind (arith, cases_Bool, unmarked-named)

pub first_named : (text : List ℕ) → Named (beginning_of text)
unfolding beginning_of
first_named text = begun-named (without_leading is_gap text)

pub token_named : (text rest : List ℕ) (token : Token) → begins token rest ≡ beginning_of text → TokenHasNames token
token_named text rest token is = let P : Beginning → Type 0 = λ b. Named b in subst P (sym is) (first_named text)
