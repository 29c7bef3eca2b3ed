-- A text that is cleaned byte by byte is cleaned comment by comment.
use Rattle.std.proofs.Common.{◌≡◌, ℕ, suc, zero, ◌<◌, Bool, true, false, ◌==◌, ◌⊎◌, inl, inr, List, [], ◌∷◌, ◌++◌, length, Some, refl, sym, ap, subst, ◌∙◌}
use Rattle.std.proofs.Common.{length-append, arith}
use Rattle.std.specs.Prelude.{replicate}
use Rattle.std.proofs.lemmas.Bool.{and_parts, eqb-true}
use Rattle.litmus_tokens.specs.declared.cleaning.Part.TheVariants.{Text, Comment}
use Rattle.litmus_tokens.specs.Cleaning.{next_byte, is_next, opens, closes, ends_line, cleaned_from, cleaned_text, NoneCloses, IsCleaned}
use Rattle.litmus_tokens.specs.Cleaning.IsCleaned.{ended, commented, unclosed, line_end, other}

-- ---- bytes that are known by the tests

is_second : (byte : ℕ) (rest : List ℕ) → is_next byte (next_byte rest) ≡ true → (following : List ℕ) × (rest ≡ byte ∷ following)
is_second byte rest e = grind (arith, eqb-true)

-- ---- the inside of a comment

-- A comment ends at the first `*)`, or not at all.
pub record Closed (text : List ℕ) : Type 0 where
  pub inner : List ℕ
  pub rest : List ℕ
  pub whole : text ≡ inner ++ 42 ∷ 41 ∷ rest
  pub first : NoneCloses inner

closed_or_not : (text : List ℕ) → Closed text ⊎ NoneCloses text
closed_or_not [] = inr tt
closed_or_not (c ∷ rest) = go (closes c (next_byte rest)) refl (closed_or_not rest)
  where
    here : closes c (next_byte rest) ≡ true → Closed (c ∷ rest)
    here is =
        let both = and_parts (c == 42) (is_next 41 (next_byte rest)) is in
        let star = eqb-true c 42 both.0 in
        let second = is_second 41 rest both.1 in
        let is_rest = second.1 in
        record { inner = []; rest = second.0; whole = cc; first = tt }

    there : closes c (next_byte rest) ≡ false → Closed rest → Closed (c ∷ rest)
    there isnt closed = record {
      inner = c ∷ closed.inner;
      rest = closed.rest;
      whole = ap (λ (ys : List ℕ). c ∷ ys) closed.whole;
      first = (not_inside closed.inner (subst (λ (ys : List ℕ). closes c (next_byte ys) ≡ false) closed.whole isnt), closed.first);
    }
      where
        not_inside : (ys : List ℕ) → closes c (next_byte (ys ++ 42 ∷ 41 ∷ closed.rest)) ≡ false → closes c (next_byte ys) ≡ false
        not_inside [] h = h
        not_inside (y ∷ ys) h = h

    go : (t : Bool) → closes c (next_byte rest) ≡ t → Closed rest ⊎ NoneCloses rest → Closed (c ∷ rest) ⊎ NoneCloses (c ∷ rest)
    go true is others = inl (here is)
    go false isnt (inl closed) = inl (there isnt closed)
    go false isnt (inr none) = inr (isnt, none)

pub comment_closed : (inner rest : List ℕ) → NoneCloses inner
    → cleaned_from Comment (inner ++ 42 ∷ 41 ∷ rest) ≡ replicate (length inner) 32 ++ 32 ∷ 32 ∷ cleaned_from Text rest
unfolding cleaned_from
comment_closed [] rest none = refl
comment_closed (c ∷ inner) rest none = rw (still inner none.0) (ap (λ (ys : List ℕ). 32 ∷ ys) (comment_closed inner rest none.1))
  where
    never : (c : ℕ) (b : Bool) → (c == 42) ≡ b → closes c (Some 42) ≡ false
    never c true is = rw is refl
    never c false isnt = rw isnt refl

    still : (ys : List ℕ) → closes c (next_byte ys) ≡ false → closes c (next_byte (ys ++ 42 ∷ 41 ∷ rest)) ≡ false
    still [] h = never c (c == 42) refl
    still (y ∷ ys) h = h

pub comment_unclosed : (inner : List ℕ) → NoneCloses inner → cleaned_from Comment inner ≡ replicate (length inner) 32
unfolding cleaned_from
comment_unclosed [] none = refl
comment_unclosed (c ∷ inner) none = rw none.0 (ap (λ (ys : List ℕ). 32 ∷ ys) (comment_unclosed inner none.1))

-- ---- the whole text

text_opened : (rest : List ℕ) → cleaned_from Text (40 ∷ 42 ∷ rest) ≡ 32 ∷ 32 ∷ cleaned_from Comment rest
unfolding cleaned_from
text_opened rest = refl

text_line_end : (rest : List ℕ) → cleaned_from Text (13 ∷ 10 ∷ rest) ≡ 32 ∷ cleaned_from Text (10 ∷ rest)
unfolding cleaned_from
text_line_end rest = refl

text_other : (c : ℕ) (rest : List ℕ) → opens c (next_byte rest) ≡ false → ends_line c (next_byte rest) ≡ false
    → cleaned_from Text (c ∷ rest) ≡ c ∷ cleaned_from Text rest
unfolding cleaned_from
text_other c rest no_comment no_end = rw (no_comment, no_end) refl

opened : (n : ℕ) (following : List ℕ) → length following < n
    → ((text : List ℕ) → length text < n → IsCleaned text (cleaned_from Text text))
    → Closed following ⊎ NoneCloses following
    → IsCleaned (40 ∷ 42 ∷ following) (cleaned_from Text (40 ∷ 42 ∷ following))
opened n following lt smaller (inl closed) =
    let short : length closed.rest < n = omega (arith, ap length closed.whole, length-append closed.inner (42 ∷ 41 ∷ closed.rest)) in
    let is = commented closed.inner closed.rest (cleaned_from Text closed.rest) closed.first (smaller closed.rest short) in
    subst (λ (ys : List ℕ). IsCleaned (40 ∷ 42 ∷ ys) (cleaned_from Text (40 ∷ 42 ∷ ys))) (sym closed.whole)
    (subst (IsCleaned (40 ∷ 42 ∷ (closed.inner ++ 42 ∷ 41 ∷ closed.rest)))
    (sym (text_opened (closed.inner ++ 42 ∷ 41 ∷ closed.rest)
    ∙ ap (λ (ys : List ℕ). 32 ∷ 32 ∷ ys) (comment_closed closed.inner closed.rest closed.first))) is)
opened n following lt smaller (inr none) =
    subst (IsCleaned (40 ∷ 42 ∷ following))
    (sym (text_opened following ∙ ap (λ (ys : List ℕ). 32 ∷ 32 ∷ ys) (comment_unclosed following none)))
    (unclosed following none)

short_cleaned : (n : ℕ) (text : List ℕ) → length text < n → IsCleaned text (cleaned_from Text text)
unfolding cleaned_from
short_cleaned zero text lt = absurd (omega arith)
short_cleaned (suc n) [] lt = ended
short_cleaned (suc n) (c ∷ rest) lt = go (short_cleaned n) (opens c (next_byte rest)) refl (ends_line c (next_byte rest)) refl
  where
    at_opening : ((text : List ℕ) → length text < n → IsCleaned text (cleaned_from Text text))
        → opens c (next_byte rest) ≡ true → IsCleaned (c ∷ rest) (cleaned_from Text (c ∷ rest))
    at_opening smaller is =
        let both = and_parts (c == 40) (is_next 42 (next_byte rest)) is in
        let second = is_second 42 rest both.1 in
        let same : 40 ∷ 42 ∷ second.0 ≡ c ∷ rest = (let one = eqb-true c 40 both.0 in let two = second.1 in cc) in
        let less : length second.0 < n = omega (arith, ap length same) in
        subst (λ (text : List ℕ). IsCleaned text (cleaned_from Text text)) same (opened n second.0 less smaller (closed_or_not second.0))

    at_line_end : ((text : List ℕ) → length text < n → IsCleaned text (cleaned_from Text text))
        → ends_line c (next_byte rest) ≡ true → IsCleaned (c ∷ rest) (cleaned_from Text (c ∷ rest))
    at_line_end smaller is =
        let both = and_parts (c == 13) (is_next 10 (next_byte rest)) is in
        let second = is_second 10 rest both.1 in
        let same : 13 ∷ 10 ∷ second.0 ≡ c ∷ rest = (let one = eqb-true c 13 both.0 in let two = second.1 in cc) in
        let less : length (10 ∷ second.0) < n = omega (arith, ap length same) in
        subst (λ (text : List ℕ). IsCleaned text (cleaned_from Text text)) same
        (subst (IsCleaned (13 ∷ 10 ∷ second.0)) (sym (text_line_end second.0))
        (line_end second.0 (cleaned_from Text (10 ∷ second.0)) (smaller (10 ∷ second.0) less)))

    go : ((text : List ℕ) → length text < n → IsCleaned text (cleaned_from Text text)) → (a : Bool)
        → opens c (next_byte rest) ≡ a → (b : Bool) → ends_line c (next_byte rest) ≡ b
        → IsCleaned (c ∷ rest) (cleaned_from Text (c ∷ rest))
    go smaller true is b e = at_opening smaller is
    go smaller false isnt true is = at_line_end smaller is
    go smaller false isnt false plain = subst (IsCleaned (c ∷ rest)) (sym (text_other c rest isnt plain))
        (other c rest (cleaned_from Text rest) isnt plain (smaller rest (omega arith)))

pub is_cleaned : (text : List ℕ) → IsCleaned text (cleaned_text text)
unfolding cleaned_text
is_cleaned text = short_cleaned (suc (length text)) text (omega arith)

one_cleaned : (text out : List ℕ) → IsCleaned text out → cleaned_from Text text ≡ out
unfolding cleaned_from
one_cleaned text out ended = refl
one_cleaned text out (commented inner rest more none is) =
    text_opened (inner ++ 42 ∷ 41 ∷ rest) ∙ ap (λ (ys : List ℕ). 32 ∷ 32 ∷ ys) (comment_closed inner rest none
    ∙ ap (λ (ys : List ℕ). replicate (length inner) 32 ++ 32 ∷ 32 ∷ ys) (one_cleaned rest more is))
one_cleaned text out (unclosed inner none) = text_opened inner ∙ ap (λ (ys : List ℕ). 32 ∷ 32 ∷ ys) (comment_unclosed inner none)
one_cleaned text out (line_end rest more is) = text_line_end rest ∙ ap (λ (ys : List ℕ). 32 ∷ ys) (one_cleaned (10 ∷ rest) more is)
one_cleaned text out (other c rest more isnt plain is) = text_other c rest isnt plain ∙ ap (λ (ys : List ℕ). c ∷ ys) (one_cleaned rest more is)

pub only_cleaned : (text out : List ℕ) → IsCleaned text out → cleaned_text text ≡ out
unfolding cleaned_text
only_cleaned text out is = one_cleaned text out is
