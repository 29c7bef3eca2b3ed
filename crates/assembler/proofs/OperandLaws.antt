-- Operands: the grammar of each kind settles, and what is read of an operand is what its grammar reads.
use Rattle.std.proofs.Common.{◌≡◌, ℕ, ◌<◌, Bool, true, false, List, [], ◌∷◌, length, Option, Some, None, Result, Ok, Err, refl, sym, ap, subst, ◌∙◌, inl, inr}
use Rattle.std.proofs.Common.{◌⊎◌, arith, ℤ, pos, negsuc}
use Rattle.std.specs.Prelude.{neg_ℤ, int_lt, unsigned_abs, ◌≤ℤ◌, ◌<ℤ◌, option_map, if◌then◌else◌}
use Rattle.std.specs.Option.{option_and_then, option_or, option_zip}
use Rattle.std.specs.Result.{result_ok}
use Rattle.std.specs.List.{Contains, list_all}
use Rattle.std.specs.Char.{digit_value}
use Rattle.std.proofs.lemmas.Bool.{and_parts, not-true, cases_Bool, eqb-true, ne_eqb, le-ltb}
use Rattle.std.proofs.lemmas.Str.Parse.{digit_from_value}
use Rattle.std.proofs.lemmas.Int.{ints}
use Rattle.texts.specs.{is_blank, AllPass, before, after, is_byte, trimmed, ◌>>=◌, mapped, filter_mapped, suffixed_at, absent, choice, magnitude, integer}
use Rattle.texts.proofs.{Settles, all_by_test, settles_mapped, settles_filter_mapped, settles_parted, settles_ended, settles_absent, settles_padded}
use Rattle.texts.proofs.{settles_either, integer_settles, integer_first, some_is}
use Rattle.rv_decode.specs.{IsEven, reg_of, register_names, register_named}
use Rattle.rv_decode.proofs.Meanings.{reg_of-number}
use Rattle.rv_decode.proofs.TableLaws.{row_below}
use Rattle.rv_decode.specs.declared.instruction.Reg.{Reg}
use Rattle.assembler.specs.{AsmFault, set_names, set_named, is_label_name, begins_label_name, goes_on_label_name, known_register, in_range, number_in}
use Rattle.assembler.specs.{natural_in, closed, in_parentheses, or_zero, Target, bytes, label, is_reached, in_reach, IsInReach, known_set, OperandKind}
use Rattle.assembler.specs.{register, amount, word, address, pointer, near, far, set, OperandValue, value_in, a_register, a_set, within, number_from}
use Rattle.assembler.specs.{natural_to, displacement, base, based, address_from, a_label, reached, target_within, an_operand}
use Rattle.assembler.specs.Operands.{upper, short}
use Rattle.assembler.proofs.Rows.{found_in, are_apart, row_of_member, member_of_row, all_rows}

-- ---- registers and sets

registers_apart : are_apart register_names ≡ true
registers_apart = refl

register_words : list_all (λ row. list_all goes_on_label_name row.0) register_names ≡ true
register_words = refl

register_found : (t : List ℕ) (r : Reg) → register_named t ≡ Some r → a_register.Says t r
unfolding register_named
register_found t r e = go (found_in register_names t) refl e
  where
    go : (o : Option ℕ) → found_in register_names t ≡ o → option_map reg_of o ≡ Some r → a_register.Says t r
    go None is f = absurd cc
    go (Some n) is f =
        let small : n < 32 = row_below (λ row. row.0) (λ row. row.1) register_names t 32 refl (Some n) (sym is) in
        let same : (reg_of n).number ≡ r.number = ap (λ q. q.number) (some_is (reg_of n) r f) in
        let number : n ≡ r.number = omega arith in
        subst (λ (k : ℕ). Contains register_names (t, k)) number (member_of_row register_names t n is)

register_only : (t : List ℕ) (r : Reg) → a_register.Says t r → register_named t ≡ Some r
unfolding register_named
register_only t r is = rw (row_of_member register_names t r.number registers_apart is) (ap (λ q. Some q) (reg_of-number r))

register_settles : Settles a_register
register_settles = record {
  found = register_found;
  only = register_only;
  bytes = λ t r is. all_by_test goes_on_label_name t
      (all_rows (λ name. list_all goes_on_label_name name) register_names t r.number register_words is);
}

sets_apart : are_apart set_names ≡ true
sets_apart = refl

set_words : list_all (λ row. list_all goes_on_label_name row.0) set_names ≡ true
set_words = refl

set_settles : Settles a_set
unfolding set_named
set_settles = record {
  found = λ t n e. member_of_row set_names t n e;
  only = λ t n is. row_of_member set_names t n sets_apart is;
  bytes = λ t n is. all_by_test goes_on_label_name t (all_rows (λ name. list_all goes_on_label_name name) set_names t n set_words is);
}

-- ---- numbers and addresses

number_settles : (low high : ℤ) → Settles (number_from low high)
number_settles low high = settles_filter_mapped integer (within low high) integer_settles

natural_settles : (most : ℕ) → Settles (natural_to most)
natural_settles most = settles_mapped (number_from (pos 0) (pos most)) unsigned_abs (number_settles (pos 0) (pos most))

some_text : (t rest : List ℕ) (c : ℕ) → t ≡ [] → t ≡ c ∷ rest → ⊥
some_text t rest c none some = cc

offset_settles : (low high : ℤ) → Settles (displacement low high)
offset_settles low high = settles_padded is_blank _ (settles_either (absent (pos 0)) (number_from low high) apart
    (settles_absent (pos 0)) (number_settles low high))
  where
    apart : (t : List ℕ) (u v : ℤ) → (absent (pos 0)).Says t u → (number_from low high).Says t v → ⊥
    apart t u v (none, is) (z, says, ok) = let (c, rest, whole, first) = integer_first t z says in some_text t rest c none whole

no_parenthesis : integer.bytes 40 ≡ false
unfolding integer magnitude
no_parenthesis = refl

address_settles : (low high : ℤ) → Settles (address_from low high)
address_settles low high = settles_mapped _ based (settles_parted 40 (displacement low high) base no_parenthesis (offset_settles low high)
    (settles_ended 41 _ refl (settles_padded is_blank a_register register_settles)))

-- ---- targets

label_settles : Settles a_label
label_settles = record {
  found = λ t name e. label_found t name (is_label_name t) refl e;
  only = λ t name (is, same). rw is (ap (λ (s : List ℕ). Some s) same);
  bytes = λ t name (is, same). named_bytes t is;
}
  where
    label_found : (t name : List ℕ) (b : Bool) → is_label_name t ≡ b → (if b then Some t else None) ≡ Some name → (is_label_name t ≡ true) × (t ≡ name)
    label_found t name true is e = (is, some_is t name e)
    label_found t name false is e = absurd cc

    named_bytes : (t : List ℕ) → is_label_name t ≡ true → AllPass goes_on_label_name t
    named_bytes [] is = tt
    named_bytes (c ∷ t) is = all_by_test goes_on_label_name (c ∷ t) (and_parts (begins_label_name c) (list_all goes_on_label_name (c ∷ t)) is).1

begins_none : (c : ℕ) → (c ≡ 45) ⊎ (digit_value c < 10) → begins_label_name c ≡ false
begins_none c (inl is) = rw is refl
begins_none c (inr digit) = grind (arith, digit_from_value, ne_eqb, le-ltb)

number_no_name : (t : List ℕ) (z : ℤ) → integer.Says t z → is_label_name t ≡ false
number_no_name t z says = let (c, rest, is, first) = integer_first t z says in rw is (rw (begins_none c first) refl)

target_settles : (bound : ℤ) → Settles (target_within bound)
target_settles bound = settles_either (mapped a_label label) (filter_mapped integer (reached bound)) apart
    (settles_mapped a_label label label_settles) (settles_filter_mapped integer (reached bound) integer_settles)
  where
    apart : (t : List ℕ) (u v : Target) → (mapped a_label label).Says t u → (filter_mapped integer (reached bound)).Says t v → ⊥
    apart t u v (name, (is, same), made) (z, says, ok) = let no_name = number_no_name t z says in absurd cc

pub reached_true : (bound z : ℤ) → is_reached bound z ≡ true → IsInReach bound (bytes z)
reached_true bound z passes = grind (arith, and_parts, not-true, ints, eqb-true)

not_less : (a b : ℤ) → b ≤ℤ a → int_lt a b ≡ false
not_less a b le = grind (arith, ints)

less : (a b : ℤ) → a <ℤ b → int_lt a b ≡ true
less a b lt = grind (arith, ints)

pub is_reached-only : (bound z : ℤ) → neg_ℤ bound ≤ℤ z → z <ℤ bound → IsEven z → is_reached bound z ≡ true
is_reached-only bound z low high even = rw (even, not_less z (neg_ℤ bound) low, less z bound high) refl

pub within-only : (low high z : ℤ) → low ≤ℤ z → z ≤ℤ high → within low high z ≡ Some z
within-only low high z above below = rw (not_less z low above, not_less high z below) refl

-- ---- an operand of each kind

pub operand_settles : (kind : OperandKind) → Settles (an_operand kind)
operand_settles register = register_settles
operand_settles upper = natural_settles 1048575
operand_settles amount = natural_settles 31
operand_settles short = number_settles (negsuc 2047) (pos 2047)
operand_settles word = number_settles (negsuc 2147483647) (pos 4294967295)
operand_settles address = address_settles (negsuc 2047) (pos 2047)
operand_settles pointer = address_settles (pos 0) (pos 0)
operand_settles near = target_settles (pos 4096)
operand_settles far = target_settles (pos 1048576)
operand_settles set = set_settles

-- ---- what is read

register_ok : (o : Option Reg) → result_ok (known_register o) ≡ o
register_ok o = grind arith

set_ok : (o : Option ℕ) → result_ok (known_set o) ≡ o
set_ok o = grind arith

number_ok : (low high : ℤ) (o : Option ℤ) → result_ok (in_range low high o) ≡ option_and_then (within low high) o
number_ok low high o = grind (arith, cases_Bool)

natural_ok : (r : Result ℤ AsmFault) → result_ok (r >>= λ n. Ok (unsigned_abs n)) ≡ option_map unsigned_abs (result_ok r)
natural_ok r = grind arith

read_natural : (most : ℕ) (t : List ℕ) → result_ok (natural_in most t) ≡ (natural_to most).reads t
read_natural most t = natural_ok (number_in (pos 0) (pos most) t) ∙ ap (option_map unsigned_abs) (number_ok (pos 0) (pos most) (integer.reads t))

offset_ok : (low high : ℤ) (t : List ℕ) → result_ok (or_zero low high t) ≡ (choice (absent (pos 0)) (number_from low high)).reads t
offset_ok low high [] = refl
offset_ok low high (c ∷ t) = rw (ne_eqb (length (c ∷ t)) 0 (λ e. omega arith)) (number_ok low high (integer.reads (c ∷ t)))

closed_ok : (name : List ℕ) (o : Option (List ℕ)) → result_ok (closed name o) ≡ option_and_then (suffixed_at (register_named (trimmed name))) o
closed_ok name None = refl
closed_ok name (Some []) = register_ok (register_named (trimmed name))
closed_ok name (Some (c ∷ rest)) = rw (ne_eqb (length (c ∷ rest)) 0 (λ e. omega arith)) refl

both_ok : (r : Result Reg AsmFault) (n : Result ℤ AsmFault)
    → result_ok (r >>= λ a. n >>= λ z. Ok (a, z)) ≡ option_map based (option_zip (result_ok n) (result_ok r))
both_ok r n = grind arith

address_ok : (low high : ℤ) (front : List ℕ) (o : Option (List ℕ))
    → result_ok (in_parentheses o >>= λ a. or_zero low high (trimmed front) >>= λ z. Ok (a, z))
    ≡ option_map based (option_and_then (λ r. option_zip ((displacement low high).reads front) (base.reads r)) o)
address_ok low high front None = refl
address_ok low high front (Some inner) = both_ok (in_parentheses (Some inner)) (or_zero low high (trimmed front))
    ∙ rw (offset_ok low high (trimmed front), closed_ok (before (is_byte 41) inner) (after (is_byte 41) inner)) refl

reach_ok : (bound : ℤ) (o : Option ℤ) → result_ok (in_reach bound o) ≡ option_and_then (reached bound) o
reach_ok bound o = grind (arith, cases_Bool)

target_ok : (bound : ℤ) (t : List ℕ) (b : Bool) (o : Option ℤ) → result_ok (if b then Ok (label t) else in_reach bound o)
    ≡ option_or (option_map label (if b then Some t else None)) (option_and_then (reached bound) o)
target_ok bound t true o = refl
target_ok bound t false o = reach_ok bound o

operand_ok : (kind : OperandKind) (t : List ℕ) → result_ok (value_in kind t) ≡ (an_operand kind).reads t
operand_ok register t = register_ok (register_named t)
operand_ok upper t = read_natural 1048575 t
operand_ok amount t = read_natural 31 t
operand_ok short t = number_ok (negsuc 2047) (pos 2047) (integer.reads t)
operand_ok word t = number_ok (negsuc 2147483647) (pos 4294967295) (integer.reads t)
operand_ok address t = address_ok (negsuc 2047) (pos 2047) (before (is_byte 40) t) (after (is_byte 40) t)
operand_ok pointer t = address_ok (pos 0) (pos 0) (before (is_byte 40) t) (after (is_byte 40) t)
operand_ok near t = target_ok (pos 4096) t (is_label_name t) (integer.reads t)
operand_ok far t = target_ok (pos 1048576) t (is_label_name t) (integer.reads t)
operand_ok set t = set_ok (set_named t)

of_ok : {X : Type 0} (r : Result X AsmFault) (x : X) → result_ok r ≡ Some x → r ≡ Ok x
of_ok (Ok y) x e = ap (λ (z : _). Ok z) (some_is y x e)
of_ok (Err fault) x e = absurd cc

pub operand_found : (kind : OperandKind) (t : List ℕ) (x : OperandValue kind) → value_in kind t ≡ Ok x → (an_operand kind).Says t x
operand_found kind t x e = (operand_settles kind).found t x (sym (operand_ok kind t) ∙ ap result_ok e)

pub operand_only : (kind : OperandKind) (t : List ℕ) (x : OperandValue kind) → (an_operand kind).Says t x → value_in kind t ≡ Ok x
operand_only kind t x says = of_ok (value_in kind t) x (operand_ok kind t ∙ (operand_settles kind).only t x says)
