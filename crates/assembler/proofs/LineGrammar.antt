-- A line's parts are those of the grammar.
use Rattle.std.proofs.Common.{arith, ◌≡◌, ℕ, true, false, List, [], ◌∷◌, ◌++◌, Option, Some, None, Ok, refl, sym, ap, subst, ◌∙◌, inl, inr, ◌⊎◌, append_assoc}
use Rattle.std.specs.List.{list_all}
use Rattle.std.proofs.lemmas.Bool.{cases_Bool, and_parts}
use Rattle.texts.specs.{before, after, is_byte, without_front, trimmed, AreBlanks, NonePass, is_blank}
use Rattle.texts.proofs.{ok_is, none-append, before-none, before-stop, after-stop, before-passes_not, cut_byte, uncut, leading_none, leading_past}
use Rattle.texts.proofs.{leading_split, all_by_test, none_of_all, other_byte}
use Rattle.assembler.specs.{AsmFault, is_label_name, begins_label_name, goes_on_label_name, code_of, label_and_rest, parts_of, label_of, statement_text}
use Rattle.assembler.specs.{made_in, Made, Line, HasNoLabel, IsUncommented, IsLine, bare, labelled, code, commented}
use Rattle.assembler.proofs.StatementGrammar.{body_found, body_only}

-- ---- the parts of what stands before a comment

abbrev line_with : Option (List ℕ) → Option Made → Line
line_with label made = record { label = label; made = made }

-- no blank and no colon stands in a name
name_solid : (name : List ℕ) → is_label_name name ≡ true → NonePass is_blank name × NonePass (is_byte 58) name
name_solid [] is = absurd cc
name_solid (c ∷ name) is =
    let all = all_by_test goes_on_label_name (c ∷ name) (and_parts (begins_label_name c) (list_all goes_on_label_name (c ∷ name)) is).1 in (
      none_of_all goes_on_label_name is_blank no_blank (c ∷ name) all,
      none_of_all goes_on_label_name (is_byte 58)
          (λ d passes. other_byte goes_on_label_name 58 d refl passes) (c ∷ name) all,
    )
  where
    no_blank : (d : ℕ) → goes_on_label_name d ≡ true → is_blank d ≡ false
    no_blank d passes = rw (other_byte goes_on_label_name 32 d refl passes, other_byte goes_on_label_name 9 d refl passes) refl

-- a text in whose front a label stands is cut after it
labelled_cut : (blanks name text : List ℕ) → AreBlanks blanks → is_label_name name ≡ true
    → parts_of (blanks ++ (name ++ 58 ∷ text)) ≡ (Some name, text)
labelled_cut blanks name text are is =
    let (solid, no_colon) = name_solid name is in
    let none : NonePass (is_byte 58) (blanks ++ name) = none-append (is_byte 58) blanks name
    (none_of_all is_blank (is_byte 58) (λ c passes. other_byte is_blank 58 c refl passes) blanks are) no_colon in
    let front : without_front (blanks ++ name) ≡ name = leading_past is_blank blanks name are ∙ leading_none is_blank name solid in
    rw (← append_assoc blanks name (58 ∷ text)) (rw (
      before-stop (is_byte 58) (blanks ++ name) 58 text none refl,
      after-stop (is_byte 58) (blanks ++ name) 58 text none refl,
      front,
      is,
    ) refl)

-- a text is its own code, or a label stands in front
parts_are : (text : List ℕ) → (parts_of text ≡ (None, text))
    ⊎ ((blanks name rest : List ℕ) × AreBlanks blanks × (is_label_name name ≡ true) × (text ≡ blanks ++ (name ++ 58 ∷ rest)))
parts_are text = go (after (is_byte 58) text) refl
  where
    front : List ℕ
    front = without_front (before (is_byte 58) text)

    go : (o : Option (List ℕ)) → after (is_byte 58) text ≡ o → (label_and_rest text front o ≡ (None, text))
        ⊎ ((blanks name rest : List ℕ) × AreBlanks blanks × (is_label_name name ≡ true) × (text ≡ blanks ++ (name ++ 58 ∷ rest)))
    go None none = inl refl
    go (Some rest) cut = elim (cases_Bool (is_label_name front)) [
      | inl name ↦ (
          let split = leading_split is_blank (before (is_byte 58) text) in
          inr (
            split.0,
            front,
            rest,
            split.1,
            name,
            cut_byte 58 text rest cut ∙ (ap (λ b. b ++ 58 ∷ rest) split.2
                ∙ append_assoc split.0 front (58 ∷ rest)),
          ))
      | inr other ↦ inl (rw other refl)
    ]

no_label : (text : List ℕ) → parts_of text ≡ (None, text) → HasNoLabel text
no_label text none blanks name rest are is whole =
    let cut : parts_of text ≡ (Some name, rest) = ap parts_of whole ∙ labelled_cut blanks name rest are is in
    never name (ap (λ p. p.0) (sym none ∙ cut))
  where
    never : (label : List ℕ) → None ≡ Some label → ⊥
    never label e = cc

code_found : (text : List ℕ) (made : Option Made) → made_in (trimmed (parts_of text).1) ≡ Ok made → IsUncommented text (line_with (parts_of text).0 made)
code_found text made e = elim (parts_are text) [
  | inl is ↦ subst (λ p. IsUncommented text (line_with p.0 made)) (sym is) (bare text made (no_label text is) (body_found text made (rw is at e)))
  | inr (blanks, name, rest, are, is, whole) ↦ (
      let cut : parts_of text ≡ (Some name, rest) = ap parts_of whole ∙ labelled_cut blanks name rest are is in
      subst (λ p. IsUncommented text (line_with p.0 made)) (sym cut) (subst (λ t. IsUncommented t (line_with (Some name) made)) (sym whole)
      (labelled blanks name rest made are is (body_found rest made (rw cut at e)))))
]

record Parts (text : List ℕ) (line : Line) : Type 0 where
  label : (parts_of text).0 ≡ line.label
  made : made_in (trimmed (parts_of text).1) ≡ Ok line.made

parts : (text : List ℕ) (line : Line) → IsUncommented text line → Parts text line
parts text line (bare whole made none body) = elim (parts_are whole) [
  | inl is ↦ record { label = ap (λ p. p.0) is; made = rw is (body_only whole made body) }
  | inr (blanks, name, rest, are, is, same) ↦ absurd (none blanks name rest are is same)
]
parts text line (labelled blanks name rest made are is body) =
    let cut = labelled_cut blanks name rest are is in record { label = ap (λ p. p.0) cut; made = rw cut (body_only rest made body) }

-- ---- lines

pub line-found : (text : List ℕ) (made : Option Made) → made_in (statement_text text) ≡ Ok made → IsLine text (line_with (label_of text) made)
unfolding label_of statement_text
line-found text made e = go (after (is_byte 35) text) refl (code_found (code_of text) made e)
  where
    go : (o : Option (List ℕ)) → after (is_byte 35) text ≡ o
        → IsUncommented (code_of text) (line_with (parts_of (code_of text)).0 made)
        → IsLine text (line_with (parts_of (code_of text)).0 made)
    go None none is = subst (λ (t : List ℕ). IsLine t (line_with (parts_of (code_of text)).0 made))
        (uncut (is_byte 35) text none) (code (code_of text) (line_with (parts_of (code_of text)).0 made) (before-passes_not (is_byte 35) text) is)
    go (Some comment) cut is = subst (λ (t : List ℕ). IsLine t (line_with (parts_of (code_of text)).0 made))
        (sym (cut_byte 35 text comment cut))
        (commented (code_of text) comment (line_with (parts_of (code_of text)).0 made) (before-passes_not (is_byte 35) text) is)

pub record Reading (text : List ℕ) (line : Line) : Type 0 where
  pub label : label_of text ≡ line.label
  pub made : made_in (statement_text text) ≡ Ok line.made

reading : (text inner : List ℕ) (line : Line) → code_of text ≡ inner → IsUncommented inner line → Reading text line
unfolding label_of statement_text
reading text inner line same is = grind (arith, parts)

pub line-only : (text : List ℕ) (line : Line) → IsLine text line → Reading text line
line-only text line (code whole said none is) = reading whole whole said (before-none (is_byte 35) whole none) is
line-only text line (commented whole comment said none is) = reading (whole ++ 35 ∷ comment) whole said
    (before-stop (is_byte 35) whole 35 comment none refl) is

same_line : (a b : Line) → a.label ≡ b.label → a.made ≡ b.made → a ≡ b
same_line a b label made = ap (λ l. line_with l a.made) label ∙ ap (λ m. line_with b.label m) made

pub one_line : (text : List ℕ) (a b : Line) → IsLine text a → IsLine text b → a ≡ b
one_line text a b h k =
    let first = line-only text a h in
    let second = line-only text b k in
    same_line a b (sym first.label ∙ second.label) (ok_is AsmFault a.made b.made (sym first.made ∙ second.made))
