-- Operands between commas, and the blanks round them.
use Rattle.std.proofs.Common.{◌≡◌, ℕ, ◌<◌, Bool, true, false, ◌||◌, List, [], ◌∷◌, ◌++◌, length, map, Some, refl, sym, ap, subst, ◌∙◌, inl, inr, Option, None}
use Rattle.std.specs.List.{slice_split, onto_first}
use Rattle.std.proofs.lemmas.Bool.{cases_Bool, eqb-true, or_parts}
use Rattle.texts.specs.{is_blank, is_byte, without_front, without_end, trimmed, stripped, NonePass, onto_kept, before, after}
use Rattle.texts.proofs.{split_cut, split_none, split_stop, split_after, stripped-none, stripped-trailing}
use Rattle.assembler.specs.{between_commas, operands_in}

-- a blank, the end of a line, and what begins a comment or ends a label
abbrev pub parts_line : ℕ → Bool
parts_line c = is_blank c || (is_byte 10 c || (is_byte 35 c || is_byte 58 c))

-- these, and a comma
abbrev pub parts_operands : ℕ → Bool
parts_operands c = parts_line c || is_byte 44 c

-- an operand that stands for itself
pub record IsOperand (xs : List ℕ) : Type 0 where
  pub none : NonePass parts_operands xs
  pub some : 0 < length xs

pub none_weaker : (p q : ℕ → Bool) → ((c : ℕ) → p c ≡ false → q c ≡ false) → (xs : List ℕ) → NonePass p xs → NonePass q xs
none_weaker p q weaker [] none = tt
none_weaker p q weaker (x ∷ xs) none = (weaker x none.0, none_weaker p q weaker xs none.1)

pub operand_line : (xs : List ℕ) → NonePass parts_operands xs → NonePass parts_line xs
operand_line xs none = none_weaker parts_operands parts_line (λ c e. (or_parts (parts_line c) (is_byte 44 c) e).0) xs none

no_comma : (xs : List ℕ) → IsOperand xs → NonePass (is_byte 44) xs
no_comma xs h = none_weaker parts_operands (is_byte 44) (λ c e. (or_parts (parts_line c) (is_byte 44 c) e).1) xs h.none

pub no_blank : (xs : List ℕ) → NonePass parts_line xs → NonePass is_blank xs
no_blank xs none = none_weaker parts_line is_blank (λ c e. (or_parts (is_blank c) (is_byte 10 c || (is_byte 35 c || is_byte 58 c)) e).0) xs none

alone : (xs : List ℕ) → IsOperand xs → trimmed xs ≡ xs
alone xs h = stripped-none is_blank xs (no_blank xs (operand_line xs h.none))

pub two_between : (a b : List ℕ) → IsOperand a → IsOperand b → operands_in (a ++ 44 ∷ b) ≡ a ∷ b ∷ []
two_between a b h k = rw (split_stop (is_byte 44) a 44 b (no_comma a h) refl, split_none (is_byte 44) b (no_comma b k), alone a h, alone b k) refl

pub three_between : (a b c : List ℕ) → IsOperand a → IsOperand b → IsOperand c → operands_in (a ++ 44 ∷ (b ++ 44 ∷ c)) ≡ a ∷ b ∷ c ∷ []
three_between a b c h k m = rw (split_stop (is_byte 44) a 44 (b ++ 44 ∷ c) (no_comma a h) refl, alone a h, two_between b c k m) refl

-- ---- blanks round the operands

abbrev pub comma : ℕ → Bool
comma = is_byte 44

blank_is_no_comma : (x : ℕ) → is_blank x ≡ true → comma x ≡ true → ⊥
blank_is_no_comma x blank cut = let f : is_blank 44 ≡ true = subst (λ (c : ℕ). is_blank c ≡ true) (eqb-true x 44 cut) blank in cc

abbrev kept_first : ℕ → List (List ℕ) → List (List ℕ)
kept_first x [] = onto_kept is_blank x [] ∷ []
kept_first x (part ∷ parts) = onto_kept is_blank x part ∷ parts

ends_onto : (x : ℕ) (parts : List (List ℕ)) → map without_end (onto_first x parts) ≡ kept_first x (map without_end parts)
ends_onto x [] = refl
ends_onto x (part ∷ parts) = refl

split_end : (text : List ℕ) → map without_end (slice_split comma (without_end text)) ≡ map without_end (slice_split comma text)
split_end [] = refl
split_end (x ∷ xs) = go (without_end xs) (split_end xs) (is_blank x) refl (comma x) refl
  where
    go : (w : List ℕ) → map without_end (slice_split comma w) ≡ map without_end (slice_split comma xs) → (b : Bool)
        → is_blank x ≡ b → (c : Bool) → comma x ≡ c
        → map without_end (slice_split comma (onto_kept is_blank x w)) ≡ map without_end (slice_split comma (x ∷ xs))
    go w same true blank true cut = absurd (blank_is_no_comma x blank cut)
    go [] same true blank false on = rw (blank, on, ends_onto x (slice_split comma xs), ← same, blank) refl
    go [] same false solid true cut = rw (solid, cut) (ap (λ ps. [] ∷ ps) same)
    go [] same false solid false on = rw (solid, on, ends_onto x (slice_split comma xs), ← same, solid) refl
    go (y ∷ ys) same false solid true cut = rw cut (ap (λ ps. [] ∷ ps) same)
    go (y ∷ ys) same b is false on = rw (on, ends_onto x (slice_split comma (y ∷ ys)), ends_onto x (slice_split comma xs), same) refl

blank_first : (x : ℕ) (part : List ℕ) (parts : List (List ℕ)) → is_blank x ≡ true → map trimmed (part ∷ parts) ≡ map trimmed (onto_first x (part ∷ parts))
unfolding stripped
blank_first x part parts blank = rw blank refl

split_front : (text : List ℕ) → map trimmed (slice_split comma (without_front text)) ≡ map trimmed (slice_split comma text)
split_front [] = refl
split_front (x ∷ xs) = elim (cases_Bool (is_blank x)) [
  | inl blank ↦ elim (cases_Bool (comma x)) [
    | inl cut ↦ absurd (blank_is_no_comma x blank cut)
    | inr on ↦ rw (blank, on) (split_front xs ∙ rw (split_cut comma xs) (blank_first x _ _ blank))
  ]
  | inr solid ↦ rw solid refl
]

trims_ends : (parts : List (List ℕ)) → map trimmed (map without_end parts) ≡ map trimmed parts
trims_ends [] = refl
trims_ends (part ∷ parts) = rw (stripped-trailing is_blank part, trims_ends parts) refl

-- the blanks round a text are round its first and last operand
pub split_trimmed : (text : List ℕ) → operands_in (trimmed text) ≡ operands_in text
unfolding stripped
split_trimmed text =
    let front = without_front text in
    sym (trims_ends (slice_split comma (without_end front))) ∙ (ap (map trimmed) (split_end front) ∙ (trims_ends (slice_split comma front) ∙ split_front text))

-- ---- the operands of a line, one by one

rest_between : (rest : Option (List ℕ)) → map trimmed (split_after (is_byte 44) rest) ≡ between_commas rest
rest_between None = refl
rest_between (Some text) = refl

pub first_between : (text : List ℕ) → between_commas (Some text) ≡ trimmed (before (is_byte 44) text) ∷ between_commas (after (is_byte 44) text)
first_between text = ap (map trimmed) (split_cut (is_byte 44) text)
    ∙ ap (λ others. trimmed (before (is_byte 44) text) ∷ others) (rest_between (after (is_byte 44) text))
