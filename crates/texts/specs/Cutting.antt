-- Texts cut at bytes that pass a test, and what stands round them.
use Rattle.std.specs.Prelude.{◌≡◌, ℕ, ◌==◌, Bool, true, false, not, List, [], ◌∷◌, ◌++◌, Option, Some, None, unwrap_or, if◌then◌else◌, nat_lt, length, ◌&&◌}
use Rattle.std.specs.Prelude.{◌||◌}
use Rattle.std.specs.List.{AllByRecursion, filter}
use Rattle.texts.specs.declared.pieces.Separators.TheVariants.{Blanks}
use Rattle.texts.specs.Pieces.{is_blank, pieces}

-- ---- cutting

-- what stands before the first byte that passes, which is all where none does
abbrev pub before : (ℕ → Bool) → List ℕ → List ℕ
before p [] = []
before p (x ∷ xs) = if p x then [] else x ∷ before p xs

-- what follows the first byte that passes
abbrev pub after : (ℕ → Bool) → List ℕ → Option (List ℕ)
after p [] = None
after p (x ∷ xs) = if p x then Some xs else after p xs

-- from the first byte that passes on
abbrev pub from_first : (ℕ → Bool) → List ℕ → List ℕ
from_first p [] = []
from_first p (x ∷ xs) = if p x then x ∷ xs else from_first p xs

abbrev pub is_byte : ℕ → ℕ → Bool
is_byte byte x = x == byte

-- ---- trimming

abbrev pub fails : (ℕ → Bool) → ℕ → Bool
fails p x = not (p x)

-- without the bytes at the front that pass
abbrev pub without_leading : (ℕ → Bool) → List ℕ → List ℕ
without_leading p text = from_first (fails p) text

abbrev pub onto_kept : (ℕ → Bool) → ℕ → List ℕ → List ℕ
onto_kept p x [] = if p x then [] else x ∷ []
onto_kept p x (y ∷ ys) = x ∷ y ∷ ys

-- without the bytes at the end that pass
abbrev pub without_trailing : (ℕ → Bool) → List ℕ → List ℕ
without_trailing p [] = []
without_trailing p (x ∷ xs) = onto_kept p x (without_trailing p xs)

-- without the bytes at the front and at the end that pass
unfoldable pub stripped : (ℕ → Bool) → List ℕ → List ℕ
stripped p text = without_trailing p (without_leading p text)

-- ---- what stands round a text

abbrev pub AllPass : (ℕ → Bool) → List ℕ → Type 0
AllPass p text = AllByRecursion (λ byte. p byte ≡ true) text

abbrev pub NonePass : (ℕ → Bool) → List ℕ → Type 0
NonePass p text = AllByRecursion (λ byte. p byte ≡ false) text

-- the core with bytes round it that pass, or none
abbrev pub IsPaddedBy : (ℕ → Bool) → (core text : List ℕ) → Type 0
IsPaddedBy p core text = (front : List ℕ) × (back : List ℕ) × AllPass p front × AllPass p back × (text ≡ front ++ (core ++ back))

-- ---- at blanks

-- spaces and tabs, or none
abbrev pub AreBlanks : List ℕ → Type 0
AreBlanks text = AllPass is_blank text

abbrev pub IsPadded : (core text : List ℕ) → Type 0
IsPadded core text = IsPaddedBy is_blank core text

abbrev pub without_front : List ℕ → List ℕ
without_front text = without_leading is_blank text

abbrev pub without_end : List ℕ → List ℕ
without_end text = without_trailing is_blank text

abbrev pub trimmed : List ℕ → List ℕ
trimmed text = stripped is_blank text

-- ---- tokens

-- a line's tokens: the pieces between its blanks that have a byte
unfoldable pub tokens : List ℕ → List (List ℕ)
tokens line = filter (λ piece. nat_lt 0 (length piece)) (pieces Blanks line)

-- a text cut at its first blank, if there is any text
abbrev pub cut_at_blank : List ℕ → Option (List ℕ × List ℕ)
cut_at_blank [] = None
cut_at_blank (byte ∷ text) = Some (before is_blank (byte ∷ text), unwrap_or (after is_blank (byte ∷ text)) [])

-- a line's first token, if it has one, and what follows the blank after it
unfoldable pub first_cut : List ℕ → Option (List ℕ × List ℕ)
first_cut line = cut_at_blank (without_front line)

-- ---- the bytes that names are made of

abbrev pub is_letter : ℕ → Bool
is_letter c = ((nat_lt 64 c) && (nat_lt c 91)) || ((nat_lt 96 c) && (nat_lt c 123))

abbrev pub is_digit : ℕ → Bool
is_digit c = (nat_lt 47 c) && (nat_lt c 58)
