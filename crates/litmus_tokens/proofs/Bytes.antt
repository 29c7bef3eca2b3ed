-- Bytes that stand in no name, and where texts are cut at them.
use Rattle.std.proofs.Common.{◌≡◌, ℕ, ◌<◌, ◌≤◌, Bool, true, false, List, [], ◌∷◌, Option, Some, None, refl, arith}
use Rattle.std.specs.List.{list_all}
use Rattle.std.specs.Char.{digit_value}
use Rattle.std.proofs.lemmas.Bool.{cases_Bool, and_parts, ne_eqb, le-ltb}
use Rattle.rv_decode.specs.{register_named, register_names, row_of, reg_of}
use Rattle.rv_decode.specs.declared.instruction.Reg.{Reg}
use Rattle.std.specs.Prelude.{option_map}
use Rattle.std.proofs.lemmas.Slice.Eq.{bytes_eq-Decides}
use Rattle.litmus_tokens.specs.Names.{begins_name, goes_on_name, is_name}

-- ---- names, digits and registers have a name's bytes

pub name_bytes : (name : List ℕ) → is_name name ≡ true → list_all goes_on_name name ≡ true
name_bytes name is = grind (arith, and_parts)

digit_range : (d : ℕ) → digit_value d < 10 → (48 ≤ d) × (d < 58)
digit_range d h = grind arith

pub digit_begins_none : (d : ℕ) → digit_value d < 10 → begins_name d ≡ false
digit_begins_none d h = grind (arith, digit_range, le-ltb, ne_eqb)

-- what holds of each row's name holds of a text that is one
row-passes : {R V : Type 0} (p : List ℕ → Bool) (name : R → List ℕ) (value : R → V) (rows : List R) (text : List ℕ)
    (v : V) → list_all (λ row. p (name row)) rows ≡ true → row_of name value rows text ≡ Some v → p text ≡ true
row-passes p name value [] text v all e = absurd cc
row-passes p name value (row ∷ rows) text v all e = grind (arith, and_parts, cases_Bool, bytes_eq-Decides, row-passes p name value rows text v)

pub register_bytes : (name : List ℕ) (register : Reg) → register_named name ≡ Some register → list_all goes_on_name name ≡ true
unfolding register_named
register_bytes name register e = go (row_of (λ row. row.0) (λ row. row.1) register_names name) refl
  where
    go : (o : Option ℕ) → row_of (λ row. row.0) (λ row. row.1) register_names name ≡ o → list_all goes_on_name name ≡ true
    go None is = (let never : option_map reg_of None ≡ Some register = rw is at e in absurd cc)
    go (Some n) is = row-passes (list_all goes_on_name) (λ (row : List ℕ × ℕ). row.0) (λ (row : List ℕ × ℕ). row.1) register_names name n refl is
