-- A text of words in hex: what is read is what it says, and what it says is read.
use Rattle.std.proofs.Common.{arith, ◌≡◌, ℕ, ◌+◌, List, [], ◌∷◌, ◌++◌, Ok, refl, sym, ap, subst, ◌∙◌}
use Rattle.std.specs.List.{AllZip, flat_map}
use Rattle.std.specs.Str.Lines.{lines}
use Rattle.texts.specs.{IsHexWord, tokens, SaysWord, hex_word_of, ◌>>=◌, DecidesGrammar}
use Rattle.texts.proofs.{bind_ok, ok_is, settled_found, settled_only}
use Rattle.texts.proofs.FormatLaws.{settles_as, settles_then, settles_ok, settles_word, settles_each, settles_hex_word}
use Rattle.engine_support.specs.declared.fault.Refusal.{Refusal}
use Rattle.engine_support.proofs.LineReading.{at_line-ok}
use Rattle.engine_support.specs.Faults.{bad_line, or_bad}
use Rattle.code_engines.specs.Dis.{SaysCode, code_of_lines, dis_at}
use Rattle.code_engines.specs.Asm.{code_at}
use Rattle.code_engines.specs.StepsReading.{number_at, with_no_more, two_numbers, three_numbers}

-- Words that say numbers: what is read is what they say, and what they say is read.

-- ---- instruction words

pub code_settles : (text : List (List ℕ)) → DecidesGrammar (AllZip IsHexWord text) (code_at text)
unfolding code_at
code_settles text = settles_each IsHexWord (λ digits. or_bad (hex_word_of digits)) (settles_hex_word bad_line) text

-- ---- one number

abbrev Cut : Type 0
Cut = ℕ × List (List ℕ)

abbrev IsCut : List (List ℕ) → Cut → Type 0
IsCut text cut = (N : List ℕ) × (text ≡ N ∷ cut.1) × SaysWord N cut.0

pub number_settles : (text : List (List ℕ)) → DecidesGrammar (IsCut text) (number_at text)
unfolding number_at
number_settles text = grind (arith, settles_as, settles_then, settles_word, settles_ok)

-- ---- two and three numbers

more_settles : {A : Type 0} (x : A) (rest : List (List ℕ)) → DecidesGrammar (λ v. (rest ≡ []) × (v ≡ x)) (with_no_more x rest)
more_settles x rest = grind arith

abbrev pub SayTwo : List (List ℕ) → ℕ × ℕ → Type 0
SayTwo text s = (A B : List ℕ) × (text ≡ A ∷ B ∷ []) × SaysWord A s.0 × SaysWord B s.1

pub two_settles : (text : List (List ℕ)) → DecidesGrammar (SayTwo text) (two_numbers text)
unfolding two_numbers
two_settles text =
    settles_as _ (SayTwo text) (two_numbers text)
    (settles_then (IsCut text) (λ a s. (b : Cut) × IsCut a.1 b × ((b.1 ≡ []) × (s ≡ (a.0, b.0)))) (number_at text)
    (λ a. number_at a.1 >>= λ b. with_no_more (a.0, b.0) b.1) (number_settles text)
    (λ a is. settles_then (IsCut a.1) (λ b s. (b.1 ≡ []) × (s ≡ (a.0, b.0))) (number_at a.1) (λ b. with_no_more (a.0, b.0) b.1)
    (number_settles a.1) (λ b is_b. more_settles (a.0, b.0) b.1)))
    (λ s (a, (A, is_a, p), (b, (B, is_b, q), (end, same))).
    rw same (A, B, is_a ∙ ap (λ (r : List (List ℕ)). A ∷ r) (is_b ∙ ap (λ (r : List (List ℕ)). B ∷ r) end), p, q))
    (λ s (A, B, is, p, q). ((s.0, B ∷ []), (A, is, p), ((s.1, []), (B, refl, q), (refl, refl))))

abbrev pub Three : Type 0
Three = ℕ × ℕ × ℕ

abbrev pub SayThree : List (List ℕ) → Three → Type 0
SayThree text s = (A B C : List ℕ) × (text ≡ A ∷ B ∷ C ∷ []) × SaysWord A s.0 × SaysWord B s.1 × SaysWord C s.2

pub three_settles : (text : List (List ℕ)) → DecidesGrammar (SayThree text) (three_numbers text)
unfolding three_numbers
three_settles text =
    settles_as _ (SayThree text) (three_numbers text)
    (settles_then (IsCut text) (λ a (s : Three). (bc : ℕ × ℕ) × SayTwo a.1 bc × (s ≡ (a.0, bc.0, bc.1))) (number_at text)
    (λ a. two_numbers a.1 >>= λ bc. Ok (a.0, bc.0, bc.1)) (number_settles text)
    (λ a is. settles_then (SayTwo a.1) (λ bc (s : Three). s ≡ (a.0, bc.0, bc.1)) (two_numbers a.1) (λ bc. Ok (a.0, bc.0, bc.1))
    (two_settles a.1) (λ bc both. settles_ok ℕ (a.0, bc.0, bc.1))))
    (λ s (a, (A, is, p), (bc, (B, C, are, q, r), same)). rw same (A, B, C, is ∙ ap (λ (rest : List (List ℕ)). A ∷ rest) are, p, q, r))
    (λ s (A, B, C, is, p, q, r). ((s.0, B ∷ C ∷ []), (A, is, p), ((s.1, s.2), (B, C, refl, q, r), refl)))

-- ---- two lists, element by element, in front of two others

zip_joined : {A B : Type 0} (R : A → B → Type 0) (xs ys : List A) (us vs : List B) → AllZip R xs us → AllZip R ys vs → AllZip R (xs ++ ys) (us ++ vs)
zip_joined R [] ys [] vs front back = back
zip_joined R (x ∷ xs) ys (u ∷ us) vs front back = (front.0, zip_joined R xs ys us vs front.1 back)
zip_joined R y ys z vs front back = absurd front

abbrev Parts : {A B : Type 0} → (A → B → Type 0) → (xs ys : List A) → List B → Type 0
Parts {B = B} R xs ys all = (us vs : List B) × (all ≡ us ++ vs) × AllZip R xs us × AllZip R ys vs

zip_parted : {A B : Type 0} (R : A → B → Type 0) (xs ys : List A) (all : List B) → AllZip R (xs ++ ys) all → Parts R xs ys all
zip_parted R [] ys all zip = ([], all, refl, tt, zip)
zip_parted R (x ∷ xs) ys [] zip = absurd zip
zip_parted {B = B} R (x ∷ xs) ys (u ∷ all) zip =
    let parts = zip_parted R xs ys all zip.1 in
    (u ∷ parts.0, parts.1, ap (λ (us : List B). u ∷ us) parts.2, (zip.0, parts.3), parts.4)

-- ---- the lines

lines_parsed : (number : ℕ) (left : List (List ℕ)) (code : List ℕ) → code_of_lines number left ≡ Ok code → AllZip IsHexWord (flat_map tokens left) code
unfolding code_of_lines
lines_parsed number [] code e = subst (λ (xs : List ℕ). AllZip IsHexWord [] xs) (ok_is Refusal [] code e) tt
lines_parsed number (line ∷ others) code e =
    grind (arith, bind_ok, ok_is, zip_joined, settled_found, code_settles, at_line-ok, lines_parsed (number + 1) others)

lines_read : (number : ℕ) (left : List (List ℕ)) (code : List ℕ) → AllZip IsHexWord (flat_map tokens left) code → code_of_lines number left ≡ Ok code
unfolding code_of_lines
lines_read number [] [] parsed = refl
lines_read number [] (w ∷ code) parsed = absurd parsed
lines_read number (line ∷ others) code parsed = grind (arith, zip_parted, settled_only, code_settles, lines_read (number + 1) others)

-- ---- a text

pub code_found : (text code : List ℕ) → dis_at text ≡ Ok code → SaysCode text code
unfolding dis_at
code_found text code e = lines_parsed 1 (lines text) code e

pub code_read : (text code : List ℕ) → SaysCode text code → dis_at text ≡ Ok code
unfolding dis_at
code_read text code parsed = lines_read 1 (lines text) code parsed

pub one_code : (text a b : List ℕ) → SaysCode text a → SaysCode text b → a ≡ b
one_code text a b p q = ok_is Refusal a b (sym (code_read text a p) ∙ code_read text b q)
