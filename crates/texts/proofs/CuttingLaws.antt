-- Texts cut at bytes: what stands before the first byte that passes, after it, and from it on.
use Rattle.std.proofs.Common.{◌≡◌, ℕ, suc, ◌+◌, ◌%◌, ◌^◌, ◌<◌, ◌≤◌, Bool, true, false, List, [], ◌∷◌, ◌++◌, length, take, drop, Option, Some, None, refl, ap}
use Rattle.std.proofs.Common.{subst, ◌∙◌, inl, inr, add-one, arith}
use Rattle.std.specs.Prelude.{position}
use Rattle.std.specs.List.{position_or_len, slice_split}
use Rattle.std.specs.Fmt.{decimal}
use Rattle.std.specs.Str.Lines.{lines}
use Rattle.std.proofs.lemmas.Bool.{cases_Bool, le-ltb, ne_eqb, eqb-true}
use Rattle.std.proofs.lemmas.Fmt.{decimal_by_steps}
use Rattle.std.proofs.lemmas.List.{drop_all}
use Rattle.texts.specs.{is_blank, before, after, from_first, is_byte, NonePass}
use Rattle.texts.proofs.PieceLaws.{position_is, position_past, lines_whole}

-- ---- by the place of the first byte that passes

before-is : (p : ℕ → Bool) (xs : List ℕ) → before p xs ≡ take (position_or_len p xs) xs
before-is p [] = refl
before-is p (x ∷ xs) = elim (cases_Bool (p x)) [
  | inl passes ↦ rw passes refl
  | inr fails ↦ (let e : 1 + position_or_len p xs ≡ suc (position_or_len p xs) = omega arith in rw (fails, e) (ap (λ ys. x ∷ ys) (before-is p xs)))
]

after-is : (p : ℕ → Bool) (xs : List ℕ) → position_or_len p xs < length xs → after p xs ≡ Some (drop (position_or_len p xs + 1) xs)
after-is p [] lt = absurd (omega arith)
after-is p (x ∷ xs) lt = grind (arith, add-one, after-is p xs)

before-whole : (p : ℕ → Bool) (xs : List ℕ) → length xs ≤ position_or_len p xs → before p xs ≡ xs
before-whole p [] le = refl
before-whole p (x ∷ xs) le = grind (arith, before-whole p xs)

after-past : (p : ℕ → Bool) (xs : List ℕ) → length xs ≤ position_or_len p xs → after p xs ≡ None
after-past p [] le = refl
after-past p (x ∷ xs) le = grind (arith, after-past p xs)

from_is : (p : ℕ → Bool) (xs : List ℕ) → from_first p xs ≡ drop (position_or_len p xs) xs
from_is p [] = refl
from_is p (x ∷ xs) = elim (cases_Bool (p x)) [
  | inl passes ↦ rw passes refl
  | inr fails ↦ (let e : 1 + position_or_len p xs ≡ suc (position_or_len p xs) = omega arith in rw (fails, e) (from_is p xs))
]

pub before_found : (p : ℕ → Bool) (xs : List ℕ) (i : ℕ) → position p xs ≡ Some i → before p xs ≡ take i xs
before_found p xs i e = let at = position_is p xs i e in subst (λ (k : ℕ). before p xs ≡ take k xs) at.1 (before-is p xs)

pub after_found : (p : ℕ → Bool) (xs : List ℕ) (i : ℕ) → position p xs ≡ Some i → after p xs ≡ Some (drop (i + 1) xs)
after_found p xs i e = let at = position_is p xs i e in subst (λ (k : ℕ). after p xs ≡ Some (drop (k + 1) xs)) at.1 (after-is p xs at.0)

pub before_missing : (p : ℕ → Bool) (xs : List ℕ) → position p xs ≡ None → before p xs ≡ xs
before_missing p xs e = before-whole p xs (position_past p xs e)

pub after_missing : (p : ℕ → Bool) (xs : List ℕ) → position p xs ≡ None → after p xs ≡ None
after_missing p xs e = after-past p xs (position_past p xs e)

pub from_found : (p : ℕ → Bool) (xs : List ℕ) (i : ℕ) → position p xs ≡ Some i → from_first p xs ≡ drop i xs
from_found p xs i e = let at = position_is p xs i e in subst (λ (k : ℕ). from_first p xs ≡ drop k xs) at.1 (from_is p xs)

pub from_missing : (p : ℕ → Bool) (xs : List ℕ) → position p xs ≡ None → from_first p xs ≡ []
from_missing p xs e = from_is p xs ∙ drop_all (position_or_len p xs) xs (position_past p xs e)

pub length-from_first : (p : ℕ → Bool) (xs : List ℕ) → length (from_first p xs) ≤ length xs
length-from_first p [] = omega arith
length-from_first p (x ∷ xs) = grind (arith, length-from_first p xs)

-- ---- where no byte passes, and at the first that does

pub none-append : (p : ℕ → Bool) (xs ys : List ℕ) → NonePass p xs → NonePass p ys → NonePass p (xs ++ ys)
none-append p [] ys h k = k
none-append p (x ∷ xs) ys h k = (h.0, none-append p xs ys h.1 k)

pub before-none : (p : ℕ → Bool) (xs : List ℕ) → NonePass p xs → before p xs ≡ xs
before-none p [] h = refl
before-none p (x ∷ xs) h = rw (h.0, before-none p xs h.1) refl

pub after-none : (p : ℕ → Bool) (xs : List ℕ) → NonePass p xs → after p xs ≡ None
after-none p [] h = refl
after-none p (x ∷ xs) h = rw h.0 (after-none p xs h.1)

pub before-stop : (p : ℕ → Bool) (xs : List ℕ) (c : ℕ) (ys : List ℕ) → NonePass p xs → p c ≡ true → before p (xs ++ c ∷ ys) ≡ xs
before-stop p [] c ys h stop = rw stop refl
before-stop p (x ∷ xs) c ys h stop = rw (h.0, before-stop p xs c ys h.1 stop) refl

pub after-stop : (p : ℕ → Bool) (xs : List ℕ) (c : ℕ) (ys : List ℕ) → NonePass p xs → p c ≡ true → after p (xs ++ c ∷ ys) ≡ Some ys
after-stop p [] c ys h stop = rw stop refl
after-stop p (x ∷ xs) c ys h stop = rw h.0 (after-stop p xs c ys h.1 stop)

pub before-passes_not : (p : ℕ → Bool) (xs : List ℕ) → NonePass p (before p xs)
before-passes_not p [] = tt
before-passes_not p (x ∷ xs) = grind (arith, before-passes_not p xs)

-- a text that is cut at a byte
pub cut_whole : (p : ℕ → Bool) (xs ys : List ℕ) → after p xs ≡ Some ys → (c : ℕ) × (p c ≡ true) × (xs ≡ before p xs ++ c ∷ ys)
cut_whole p [] ys e = absurd cc
cut_whole p (x ∷ xs) ys e = grind (arith, cut_whole p xs ys)

pub cut_byte : (byte : ℕ) (xs ys : List ℕ) → after (is_byte byte) xs ≡ Some ys → xs ≡ before (is_byte byte) xs ++ byte ∷ ys
cut_byte byte xs ys e = let cut = cut_whole (is_byte byte) xs ys e in
    subst (λ (c : ℕ). xs ≡ before (is_byte byte) xs ++ c ∷ ys) (eqb-true cut.0 byte cut.1) cut.2

pub uncut : (p : ℕ → Bool) (xs : List ℕ) → after p xs ≡ None → before p xs ≡ xs
uncut p [] e = refl
uncut p (x ∷ xs) e = grind (arith, uncut p xs)

-- ---- a text that is split at bytes, from its first part on

-- the parts of what stands after a cut
abbrev pub split_after : (ℕ → Bool) → Option (List ℕ) → List (List ℕ)
split_after p None = []
split_after p (Some text) = slice_split p text

pub split_cut : (p : ℕ → Bool) (text : List ℕ) → slice_split p text ≡ before p text ∷ split_after p (after p text)
split_cut p [] = refl
split_cut p (x ∷ xs) = grind (arith, split_cut p xs)

pub split_none : (p : ℕ → Bool) (xs : List ℕ) → NonePass p xs → slice_split p xs ≡ xs ∷ []
split_none p xs h = split_cut p xs ∙ rw (before-none p xs h, after-none p xs h) refl

pub split_stop : (p : ℕ → Bool) (xs : List ℕ) (c : ℕ) (ys : List ℕ) → NonePass p xs → p c ≡ true → slice_split p (xs ++ c ∷ ys) ≡ xs ∷ slice_split p ys
split_stop p xs c ys h stop = split_cut p (xs ++ c ∷ ys) ∙ rw (before-stop p xs c ys h stop, after-stop p xs c ys h stop) refl

-- ---- lines

pol_none : (p : ℕ → Bool) (xs : List ℕ) → NonePass p xs → position_or_len p xs ≡ length xs
pol_none p [] h = refl
pol_none p (x ∷ xs) h = let rest = pol_none p xs h.1 in rw h.0 (omega arith)

position_none : (p : ℕ → Bool) (xs : List ℕ) → NonePass p xs → position p xs ≡ None
position_none p xs h = let all = pol_none p xs h in rw (le-ltb (position_or_len p xs) (length xs) (omega arith)) refl

pub one_line : (xs : List ℕ) → 0 < length xs → NonePass (is_byte 10) xs → lines xs ≡ xs ∷ []
one_line xs some h = lines_whole xs (position_none (is_byte 10) xs h) some

-- ---- digits

pub decimal_none : (p : ℕ → Bool) → ((d : ℕ) → d < 10 → p (48 + d) ≡ false) → (n : ℕ) → n < 2 ^ 64 → NonePass p (decimal n)
decimal_none p digit n fits = decimal_by_steps (λ k ds. NonePass p ds) (λ k lt. (digit k lt, tt))
    (λ k ds le rest. none-append p ds ((48 + k % 10) ∷ []) rest (digit (k % 10) (omega arith), tt)) n fits

pub not_byte : (byte d : ℕ) → 58 ≤ byte → d < 10 → is_byte byte (48 + d) ≡ false
not_byte byte d high lt = ne_eqb (48 + d) byte (omega arith)

pub not_low_byte : (byte d : ℕ) → byte < 48 → is_byte byte (48 + d) ≡ false
not_low_byte byte d low = ne_eqb (48 + d) byte (omega arith)

pub digit_no_blank : (d : ℕ) → is_blank (48 + d) ≡ false
digit_no_blank d = rw (ne_eqb (48 + d) 32 (omega arith), ne_eqb (48 + d) 9 (omega arith)) refl
