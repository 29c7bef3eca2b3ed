-- Assignments and items: what is read is what the text says, and what it says is read.
use Rattle.std.proofs.Common.{arith, ◌≡◌, ℕ, Bool, true, false, ◌==◌, List, [], ◌∷◌, ◌++◌, Option, Some, None, refl, ap, inl, inr}
use Rattle.std.specs.Prelude.{codes, if◌then◌else◌, ◌||◌, IsTrue}
use Rattle.std.specs.Option.{option_and_then}
use Rattle.std.proofs.lemmas.Bool.{eqb-true, and_parts, or_right, cases_Bool}
use Rattle.std.proofs.lemmas.Bool.Decides.{Decides-eqb}
use Rattle.std.proofs.lemmas.Slice.Eq.{starts_is}
use Rattle.texts.specs.{AllPass, stripped, is_gap, mapped, parted, integer, numeral}
use Rattle.texts.proofs.GrammarLaws.{Settles, settles_mapped, settles_parted, settles_begun, settles_ended, settles_padded, settles_filter_mapped}
use Rattle.texts.proofs.GrammarLaws.{integer_settles, all_by_test, all_weaker, settles_either, settles_by_byte, HasByte, apart_by, numeral_settles}
use Rattle.litmus_tokens.specs.Names.{core, goes_on_name, is_name, word_from, a_word}
use Rattle.litmus_tokens.specs.Assignments.{NamedLocation, NamedValue, named_text, begins_with_gap, after_int, IsDeclaration, a_name, a_register, a_declaration}
use Rattle.litmus_tokens.specs.Assignments.{spaced, bracketed, location, register_at, register_place, place, value, declared, an_assignment, item_place, item}
use Rattle.litmus_tokens.specs.Assignments.NamedLocation.{at_location}
use Rattle.litmus_tokens.specs.Assignments.NamedValue.{number, address_of}
use Rattle.litmus_tokens.proofs.Bytes.{name_bytes, register_bytes}
use Rattle.litmus_tokens.proofs.TokenLaws.{word_no_name}

-- ---- the leaves

named_found : (text v : List ℕ) (t : Bool) → is_name text ≡ t → (if t then Some text else None) ≡ Some v → IsTrue (is_name text) × (text ≡ v)
named_found text v true is e = (is, cc)
named_found text v false is e = absurd cc

name_settles : Settles a_name
name_settles = record {
  found = λ text v e. named_found text v (is_name text) refl e;
  only = λ text v says. rw says.0 (ap (λ (t : List ℕ). Some t) says.1);
  bytes = λ text v says. all_by_test goes_on_name text (name_bytes text says.0);
}

register_settles : Settles a_register
register_settles = record {
  found = λ text r e. e;
  only = λ text r e. e;
  bytes = λ text r e. all_by_test goes_on_name text (register_bytes text r e);
}

word_settles : Settles a_word
unfolding a_word
word_settles = settles_filter_mapped integer word_from integer_settles

-- ---- a declaration

gap_no_name : (x : ℕ) → is_gap x ≡ true → goes_on_name x ≡ false
gap_no_name x gap = go (x == 32) refl (x == 9) refl (x == 10) refl
  where
    go : (a : Bool) → (x == 32) ≡ a → (b : Bool) → (x == 9) ≡ b → (d : Bool) → (x == 10) ≡ d → goes_on_name x ≡ false
    go true e b f d g = rw (eqb-true x 32 e) refl
    go false e true f d g = rw (eqb-true x 9 f) refl
    go false e false f true g = rw (eqb-true x 10 g) refl
    go false e false f false g = (let never : false ≡ true = rw (e, f, g) at gap in absurd cc)

core_after : (gap : ℕ) (rest : List ℕ) → is_gap gap ≡ true → core (gap ∷ rest) ≡ core rest
unfolding stripped
core_after gap rest is = rw is refl

int_front : (text rest : List ℕ) → after_int text ≡ Some rest → (text ≡ codes "int" ++ rest) × (begins_with_gap rest ≡ true)
unfolding after_int
int_front text rest e = grind (arith, and_parts, starts_is, Decides-eqb)

declared_found : (text name : List ℕ) (o : Option (List ℕ)) → after_int text ≡ o → option_and_then (λ rest. named_text (core rest)) o ≡ Some name
    → IsDeclaration text name
declared_found text name None is e = absurd cc
declared_found text name (Some []) is e = (let front = int_front text [] is in absurd cc)
declared_found text name (Some (gap ∷ rest)) is e =
    let front = int_front text (gap ∷ rest) is in
    let found = named_found (core rest) name (is_name (core rest)) refl (rw (core_after gap rest front.1) at e) in
    (gap, rest, front.0, front.1, found.0, found.1)

declared_only : (text name : List ℕ) → IsDeclaration text name → a_declaration.reads text ≡ Some name
unfolding after_int
declared_only text name is = grind (arith, core_after)

or_swap : (c : ℕ) → is_gap c || goes_on_name c ≡ true → goes_on_name c || is_gap c ≡ true
or_swap c e = grind (arith, cases_Bool)

declared_bytes : (text name : List ℕ) → IsDeclaration text name → AllPass a_declaration.bytes text
declared_bytes text name (gap, rest, whole, gap_is, name_is, same) =
    let spaced_bytes = (settles_padded is_gap a_name name_settles).bytes rest (core rest) (name_is, refl) in
    rw whole (refl, (refl, (refl, (or_right (goes_on_name gap) (is_gap gap) gap_is, all_weaker _ a_declaration.bytes or_swap rest spaced_bytes))))

declaration_settles : Settles a_declaration
declaration_settles = record { found = λ text v e. declared_found text v (after_int text) refl e; only = declared_only; bytes = declared_bytes }

-- ---- places, values, assignments and items

value_apart : (text : List ℕ) (u v : NamedValue) → (mapped a_name address_of).Says text u → (mapped a_word number).Says text v → ⊥
value_apart text u v (name, is, same) (n, says, other) = (let no = word_no_name text n says in let yes = is.0 in absurd cc)

value_settles : Settles value
unfolding value
value_settles = settles_padded is_gap _ (settles_either _ _ value_apart (settles_mapped a_name address_of name_settles)
    (settles_mapped a_word number word_settles))

has_bracket : HasByte 91 bracketed
has_bracket text name (rest, whole, says) = ([], rest, whole)

location_settles : Settles location
location_settles = settles_either bracketed a_name (apart_by 91 bracketed a_name has_bracket refl name_settles)
    (settles_begun 91 _ (settles_ended 93 _ refl (settles_padded is_gap a_name name_settles))) name_settles

has_colon : HasByte 58 register_place
has_colon text at (both, (l, r, whole, hart, register), is) = (l, r, whole)

place_settles : Settles place
unfolding place
place_settles = settles_by_byte 58 register_place _ has_colon refl
    (settles_mapped (parted 58 (spaced (numeral 10)) (spaced a_register)) register_at (settles_parted 58 _ _ refl
    (settles_padded is_gap (numeral 10) (numeral_settles 10)) (settles_padded is_gap a_register register_settles)))
    (settles_mapped _ at_location (settles_padded is_gap location location_settles))

declared_settles : Settles declared
unfolding declared
declared_settles = settles_mapped _ at_location (settles_padded is_gap a_declaration declaration_settles)

assignment_bytes : ((place.bytes 61) ≡ false) × (declared.bytes 61 ≡ false)
unfolding place declared
assignment_bytes = (refl, refl)

-- a declaration has no mark, and a gap where no name has one
place_apart : (text : List ℕ) (u v : NamedLocation) → declared.Says text u → place.Says text v → ⊥
unfolding declared place
place_apart text u v is (inl register) = apart_by 58 register_place declared has_colon refl declared_settles text v u register is
place_apart text u v (name, is, one) (inr (other, inl within, at)) =
    apart_by 91 bracketed a_declaration has_bracket refl declaration_settles (core text) other name within is
place_apart text u v (name, (gap, rest, whole, gap_is, named, same), one) (inr (other, inr (is, itself), at)) =
    let never : is_name (codes "int" ++ gap ∷ rest) ≡ true = rw whole at is in
    let ends : is_name (codes "int" ++ gap ∷ rest) ≡ false = rw (gap_no_name gap gap_is) refl in
    absurd cc

pub assignment_settles : Settles an_assignment
unfolding an_assignment
assignment_settles = settles_parted 61 place value assignment_bytes.0 place_settles value_settles

pub item_settles : Settles item
unfolding item item_place
item_settles = settles_by_byte 61 _ _ (λ text at (l, r, whole, one, other). (l, r, whole)) assignment_bytes.1
    (settles_parted 61 item_place value (rw (assignment_bytes.0, assignment_bytes.1) refl)
    (settles_either declared place place_apart declared_settles place_settles) value_settles)
    (settles_mapped declared (λ at. (at, number 0)) declared_settles)
