-- What is made of a text is the statement of the grammar, and what the grammar has is made.
use Rattle.std.proofs.Common.{◌≡◌, ℕ, ◌<◌, true, false, not, eqb, List, [], ◌∷◌, ◌++◌, length, Option, Some, None, Ok, refl, sym, ap, subst, ◌∙◌, inl, inr}
use Rattle.std.proofs.Common.{arith, append-nil}
use Rattle.std.specs.Prelude.{◌==◌}
use Rattle.std.specs.List.{Contains, list_all}
use Rattle.std.proofs.lemmas.Bool.{cases_Bool, eqb-true, ne_eqb, not-true}
use Rattle.texts.specs.{is_blank, before, after, without_front, without_end, trimmed, onto_kept, AreBlanks, IsPadded, NonePass, stripped}
use Rattle.texts.proofs.{ok_is, bind_ok, before-none, after-none, before-stop, after-stop, cut_whole, uncut, all-append, onto_some, stripped-padded}
use Rattle.texts.proofs.{stripped-all, stripped-none, stripped-trailing, padded_stripped, padded_twice, trailing_split, all_by_test, none_of_all}
use Rattle.assembler.specs.{Form, mnemonics, form_named, Made, statement_of, operands_of, made_for, made_in, operands_in, Makes, IsStatement, IsBody, alone}
use Rattle.assembler.specs.{applied}
use Rattle.assembler.specs.Grammar.IsBody.{nothing, statement}
use Rattle.assembler.proofs.Rows.{found_in, are_apart, row_of_member, member_of_row, all_rows}
use Rattle.assembler.proofs.Commas.{split_trimmed}
use Rattle.assembler.proofs.OperandTable.{found_makes, only_makes, makes_of_empty}

-- ---- mnemonics

mnemonics-apart : are_apart mnemonics ≡ true
mnemonics-apart = refl

solid_mnemonics : list_all (λ row. list_all (λ c. not (is_blank c)) row.0) mnemonics ≡ true
solid_mnemonics = refl

some_mnemonics : list_all (λ row. not (length row.0 == 0)) mnemonics ≡ true
some_mnemonics = refl

-- no blank stands in it
mnemonic_solid : (name : List ℕ) (form : Form) → Contains mnemonics (name, form) → NonePass is_blank name
mnemonic_solid name form has = none_of_all (λ c. not (is_blank c)) is_blank (λ c passes. not-true (is_blank c) passes) name
    (all_by_test (λ c. not (is_blank c)) name (all_rows (λ text. list_all (λ c. not (is_blank c)) text) mnemonics name form solid_mnemonics has))

mnemonic_some : (name : List ℕ) (form : Form) → Contains mnemonics (name, form) → eqb (length name) 0 ≡ false
mnemonic_some name form has = not-true (eqb (length name) 0) (all_rows (λ text. not (length text == 0)) mnemonics name form some_mnemonics has)

-- ---- what is made is a statement

empty_text : (t : List ℕ) → eqb (length t) 0 ≡ true → t ≡ []
empty_text [] e = refl
empty_text (x ∷ xs) e = absurd (let f : length (x ∷ xs) ≡ 0 = eqb-true (length (x ∷ xs)) 0 e in omega arith)

blanks_of_trimmed : (t : List ℕ) → trimmed t ≡ [] → AreBlanks t
blanks_of_trimmed t e = grind (arith, padded_stripped is_blank t, all-append is_blank)

pub padded_self : (text : List ℕ) → IsPadded text text
padded_self text = ([], [], tt, tt, sym (append-nil text))

for_found : (o : Option Form) (list : List (List ℕ)) (made : Made) → made_for o list ≡ Ok (Some made)
    → (form : Form) × (o ≡ Some form) × (statement_of form list ≡ Ok made)
for_found o list made e = grind (arith, bind_ok, ok_is)

for_some : (o : Option Form) (list : List (List ℕ)) → made_for o list ≡ Ok None → ⊥
for_some o list e = grind (arith, bind_ok)

-- a statement with blanks round it
pub record Stated (text : List ℕ) (made : Made) : Type 0 where
  pub core : List ℕ
  pub padded : IsPadded core text
  pub is : IsStatement core made

some_operands : (rest : List ℕ) → eqb (length (trimmed rest)) 0 ≡ false → operands_of (Some rest) ≡ operands_in rest
some_operands rest some = rw some (split_trimmed rest)

no_operands : (rest : List ℕ) → eqb (length (trimmed rest)) 0 ≡ true → operands_of (Some rest) ≡ []
no_operands rest none = rw none refl

stated : (text : List ℕ) (form : Form) (made : Made) → Contains mnemonics (before is_blank text, form)
    → (o : Option (List ℕ)) → after is_blank text ≡ o → statement_of form (operands_of o) ≡ Ok made → Stated text made
stated text form made has None whole e =
    let same : before is_blank text ≡ text = uncut is_blank text whole in
    record {
      core = text;
      padded = padded_self text;
      is = subst (λ (name : List ℕ). IsStatement name made) same
          (alone (before is_blank text) form made has (found_makes form [] made e));
    }
stated text form made has (Some rest) cut e =
    let split = cut_whole is_blank text rest cut in
    elim (cases_Bool (eqb (length (trimmed rest)) 0)) [
      | inl none ↦ (
          let blanks : AreBlanks (split.0 ∷ rest) = (split.1, blanks_of_trimmed rest (empty_text (trimmed rest) none)) in
          record {
            core = before is_blank text;
            padded = ([], split.0 ∷ rest, tt, blanks, split.2);
            is = alone (before is_blank text) form made has (found_makes form [] made (rw (no_operands rest none) at e));
          })
      | inr some ↦ record {
        core = text;
        padded = padded_self text;
        is = subst (λ (whole : List ℕ). IsStatement whole made) (sym split.2)
            (applied (before is_blank text) split.0 rest form made has split.1
            (found_makes form (operands_in rest) made (rw (some_operands rest some) at e)));
      }
    ]

made_found : (text : List ℕ) (made : Made) → made_in text ≡ Ok (Some made) → Stated text made
unfolding made_in form_named
made_found text made e = elim (cases_Bool (eqb (length text) 0)) [
  | inl empty ↦ absurd (let f = rw empty at e in cc)
  | inr some ↦ (
      let f : made_for (found_in mnemonics (before is_blank text)) (operands_of (after is_blank text)) ≡ Ok (Some made) = rw some at e in
      let made_by = for_found (found_in mnemonics (before is_blank text)) (operands_of (after is_blank text)) made f in
      stated text made_by.0 made (member_of_row mnemonics (before is_blank text) made_by.0 made_by.1) (after is_blank text) refl made_by.2)
]

pub body_found : (text : List ℕ) (made : Option Made) → made_in (trimmed text) ≡ Ok made → IsBody text made
unfolding made_in
body_found text None e = elim (cases_Bool (eqb (length (trimmed text)) 0)) [
  | inl empty ↦ nothing text (blanks_of_trimmed text (empty_text (trimmed text) empty))
  | inr some ↦ absurd (for_some (form_named (before is_blank (trimmed text))) (operands_of (after is_blank (trimmed text))) (rw some at e))
]
body_found text (Some made) e =
    let said = made_found (trimmed text) made e in
    statement text said.core made (padded_twice is_blank said.core (trimmed text) text said.padded (padded_stripped is_blank text)) said.is

-- ---- what the grammar has is made

-- the operands after a mnemonic are not blank
operands_some : (text : List ℕ) (form : Form) (made : Made) → Makes form (operands_in text) made → trimmed text ≡ [] → ⊥
unfolding stripped
operands_some text form made makes blank =
    let none : operands_in text ≡ [] ∷ [] = sym (split_trimmed text) ∙ ap operands_in blank in
    makes_of_empty form made (subst (λ (list : List (List ℕ)). statement_of form list ≡ Ok made) none (only_makes form (operands_in text) made makes))

some_length : (xs : List ℕ) → (xs ≡ [] → ⊥) → 0 < length xs
some_length [] h = absurd (h refl)
some_length (x ∷ xs) h = omega arith

end_keep : (xs ys : List ℕ) → 0 < length (without_end ys) → without_end (xs ++ ys) ≡ xs ++ without_end ys
end_keep [] ys some = refl
end_keep (x ∷ xs) ys some = ap (onto_kept is_blank x) (end_keep xs ys some) ∙ onto_some is_blank x (xs ++ without_end ys) (long xs)
  where
    long : (zs : List ℕ) → 0 < length (zs ++ without_end ys)
    long [] = some
    long (z ∷ zs) = omega arith

front_keep : (xs ys : List ℕ) → 0 < length xs → NonePass is_blank xs → without_front (xs ++ ys) ≡ xs ++ ys
front_keep [] ys some h = absurd (omega arith)
front_keep (x ∷ xs) ys some h = rw h.0 refl

trimmed-applied : (name : List ℕ) (blank : ℕ) (text : List ℕ) → 0 < length name → NonePass is_blank name
    → 0 < length (without_end text) → trimmed (name ++ blank ∷ text) ≡ name ++ blank ∷ without_end text
unfolding stripped
trimmed-applied name blank text some solid kept = grind (arith, onto_some, front_keep, end_keep)

end_some : (text : List ℕ) → (trimmed text ≡ [] → ⊥) → without_end text ≡ [] → ⊥
end_some text some none = grind (arith, trailing_split is_blank text, stripped-all is_blank text)

applied_only : (name : List ℕ) (blank : ℕ) (text : List ℕ) (form : Form) (made : Made) → Contains mnemonics (name, form)
    → is_blank blank ≡ true → Makes form (operands_in text) made → made_in (trimmed (name ++ blank ∷ text)) ≡ Ok (Some made)
unfolding made_in form_named
applied_only name blank text form made has is makes =
    let kept = without_end text in
    let solid = mnemonic_solid name form has in
    let long : 0 < length name =
    some_length name (λ e. (let f : eqb (length name) 0 ≡ false = mnemonic_some name form has in
    let g : eqb (length name) 0 ≡ true = ap (λ t. eqb (length t) 0) e in (let h = sym f ∙ g in cc))) in
    let some : trimmed text ≡ [] → ⊥ = operands_some text form made makes in
    let core : trimmed (name ++ blank ∷ text) ≡ name ++ blank ∷ kept = trimmed-applied name blank text long solid (some_length kept (end_some text some)) in
    let whole : eqb (length (name ++ blank ∷ kept)) 0 ≡ false = ne_eqb (length (name ++ blank ∷ kept)) 0 (λ e. absurd_length name (blank ∷ kept) long e) in
    let still : eqb (length (trimmed kept)) 0 ≡ false = ne_eqb (length (trimmed kept)) 0
    (λ e. some (sym (stripped-trailing is_blank text) ∙ empty_length (trimmed kept) e)) in
    let read : operands_of (Some kept) ≡ operands_in text = rw still (ap operands_in (stripped-trailing is_blank text) ∙ split_trimmed text) in
    let name_is = before-stop is_blank name blank kept solid is in
    let rest_is = after-stop is_blank name blank kept solid is in
    let found : found_in mnemonics name ≡ Some form = row_of_member mnemonics name form mnemonics-apart has in
    ap made_in core ∙ rw (whole, name_is, rest_is, read, found, only_makes form (operands_in text) made makes) refl
  where
    absurd_length : (xs ys : List ℕ) → 0 < length xs → length (xs ++ ys) ≡ 0 → ⊥
    absurd_length [] ys long e = omega arith
    absurd_length (x ∷ xs) ys long e = omega arith

    empty_length : (xs : List ℕ) → length xs ≡ 0 → xs ≡ []
    empty_length [] e = refl
    empty_length (x ∷ xs) e = absurd (omega arith)

alone_only : (name : List ℕ) (form : Form) (made : Made) → Contains mnemonics (name, form) → Makes form [] made → made_in (trimmed name) ≡ Ok (Some made)
unfolding made_in form_named
alone_only name form made has makes =
    let solid = mnemonic_solid name form has in
    let found : found_in mnemonics name ≡ Some form = row_of_member mnemonics name form mnemonics-apart has in
    ap made_in (stripped-none is_blank name solid) ∙ rw (
      mnemonic_some name form has,
      before-none is_blank name solid,
      after-none is_blank name solid,
      found,
      only_makes form [] made makes,
    ) refl

statement_only : (core : List ℕ) (made : Made) → IsStatement core made → made_in (trimmed core) ≡ Ok (Some made)
statement_only core made (alone name form result has makes) = alone_only name form result has makes
statement_only core made (applied name blank text form result has is makes) = applied_only name blank text form result has is makes

pub body_only : (text : List ℕ) (made : Option Made) → IsBody text made → made_in (trimmed text) ≡ Ok made
unfolding made_in
body_only text made (nothing blanks are) = rw (stripped-all is_blank blanks are) refl
body_only text made (statement whole core result pad is) = ap made_in (stripped-padded is_blank core whole pad) ∙ statement_only core result is
