-- Names looked up in a table.
use Rattle.std.proofs.Common.{◌≡◌, ℕ, true, List, [], ◌∷◌, Option, Some, None, refl, sym, ◌∙◌, ap, subst, inl, inr, ◌<◌}
use Rattle.std.specs.Prelude.{find, option_map, bytes_eq, IfSome, nat_lt}
use Rattle.std.specs.List.{list_all}
use Rattle.std.proofs.lemmas.Bool.{cases_Bool, ltb-true, and_parts}
use Rattle.rv_decode.specs.Registers.{row_of}

pub find_row : {R V : Type 0} (name : R → List ℕ) (value : R → V) (rows : List R) (text : List ℕ)
    → option_map value (find (λ row. bytes_eq (name row) text) rows) ≡ row_of name value rows text
find_row name value [] text = refl
find_row name value (row ∷ rows) text = elim (cases_Bool (bytes_eq (name row) text)) [
  | inl passes ↦ rw passes refl
  | inr other ↦ rw other (find_row name value rows text)
]

pub row_found : {R V : Type 0} (name : R → List ℕ) (value : R → V) (rows : List R) (text : List ℕ) (row : R)
    → Some row ≡ find (λ r. bytes_eq (name r) text) rows → row_of name value rows text ≡ Some (value row)
row_found name value rows text row e = sym (find_row name value rows text) ∙ ap (option_map value) (sym e)

pub row_missing : {R V : Type 0} (name : R → List ℕ) (value : R → V) (rows : List R) (text : List ℕ)
    → None ≡ find (λ r. bytes_eq (name r) text) rows → row_of name value rows text ≡ None
row_missing name value rows text e = sym (find_row name value rows text) ∙ ap (option_map value) (sym e)

-- a bound on every row's number is one on the number that is found
pub row_below : {R : Type 0} (name : R → List ℕ) (value : R → ℕ) (rows : List R) (text : List ℕ) (most : ℕ)
    → list_all (λ row. nat_lt (value row) most) rows ≡ true → (r : Option ℕ) → r ≡ row_of name value rows text
    → IfSome r (λ n. n < most)
row_below name value [] text most all None e = tt
row_below name value [] text most all (Some n) e = absurd cc
row_below name value (row ∷ rows) text most all r e =
    let both = and_parts (nat_lt (value row) most) (list_all (λ other. nat_lt (value other) most) rows) all in
    elim (cases_Bool (bytes_eq (name row) text)) [
      | inl passes ↦ subst (λ (o : Option ℕ). IfSome o (λ n. n < most)) (sym (rw passes at e)) (ltb-true (value row) most both.0)
      | inr other ↦ row_below name value rows text most both.1 r (rw other at e)
    ]
