-- The tokens of a text are its first one and those of the rest.
use Rattle.std.proofs.Common.{◌≡◌, ℕ, suc, ◌<◌, ◌≤◌, false, List, ◌∷◌, length, Option, refl, ap, arith, length-drop}
use Rattle.texts.specs.{before, fails, from_first, without_leading, is_gap}
use Rattle.litmus_tokens.specs.Assignments.{AssignmentValue, an_assignment}
use Rattle.litmus_tokens.specs.Tokens.{Token, Beginning, Tokens, is_mark, after_not, paired, atom_from, negation_or, unmarked, begun, beginning_of, tokens_from}
use Rattle.litmus_tokens.specs.Tokens.{tokens_within, tokens_of, LeavesLess}
use Rattle.litmus_tokens.specs.Tokens.Beginning.{nothing, begins, no_token}
use Rattle.litmus_tokens.specs.Tokens.Tokens.{goes_on}
use Rattle.texts.proofs.{length-from_first, integer_first}
use Rattle.litmus_tokens.specs.Names.{is_name, a_word}
use Rattle.litmus_tokens.proofs.Bytes.{digit_begins_none}

-- ---- what follows a token is shorter than the text

not_or_less : (c : ℕ) (rest : List ℕ) (other : Beginning) → LeavesLess (c ∷ rest) other → LeavesLess (c ∷ rest) (negation_or (after_not (c ∷ rest)) other)
unfolding after_not
not_or_less c rest other less = grind (arith, length-drop)

atom_less : (c : ℕ) (rest : List ℕ) (assignment : Option AssignmentValue) → is_mark c ≡ false
    → LeavesLess (c ∷ rest) (atom_from assignment (from_first is_mark (c ∷ rest)))
atom_less c rest assignment other = grind (arith, length-from_first)

unmarked-less : (c : ℕ) (rest : List ℕ) → is_mark c ≡ false → LeavesLess (c ∷ rest) (unmarked (c ∷ rest))
unfolding unmarked
unmarked-less c rest other =
    not_or_less c rest (atom_from (an_assignment.reads (before is_mark (c ∷ rest))) (from_first is_mark (c ∷ rest)))
    (atom_less c rest (an_assignment.reads (before is_mark (c ∷ rest))) other)

paired-less : (c : ℕ) (rest : List ℕ) (token : Token) (second : ℕ) → LeavesLess (c ∷ rest) (paired token second rest)
paired-less c rest token second = grind arith

begun-less : (text : List ℕ) → LeavesLess text (begun text)
unfolding begun
begun-less text = grind (arith, paired-less, unmarked-less)

less_more : (short long : List ℕ) (b : Beginning) → length short ≤ length long → LeavesLess short b → LeavesLess long b
less_more short long b le less = grind arith

pub leaves_less : (text : List ℕ) → LeavesLess text (beginning_of text)
unfolding beginning_of
leaves_less text = less_more (without_leading is_gap text) text (begun (without_leading is_gap text))
    (length-from_first (fails is_gap) text) (begun-less (without_leading is_gap text))

-- ---- this number of tokens is enough

same_tokens : (n : ℕ) (text : List ℕ) (m : ℕ) → length text < n → length text < m → tokens_within n text ≡ tokens_within m text
unfolding tokens_within
same_tokens (suc n) text (suc m) lt lt' = go (same_tokens n) (beginning_of text) (leaves_less text)
  where
    go : ((rest : List ℕ) (m : ℕ) → length rest < n → length rest < m → tokens_within n rest ≡ tokens_within m rest)
        → (b : Beginning) → LeavesLess text b → tokens_from (tokens_within n) b ≡ tokens_from (tokens_within m) b
    go same nothing less = refl
    go same (begins token rest) less = ap (λ (others : Tokens). goes_on token others) (same rest m (omega arith) (omega arith))
    go same no_token less = refl
same_tokens x text y lt lt' = absurd (omega arith)

pub tokens-cut : (text : List ℕ) → tokens_of text ≡ tokens_from tokens_of (beginning_of text)
unfolding tokens_of tokens_within
tokens-cut text = grind (arith, leaves_less, same_tokens)

-- ---- no number is a name

pub word_no_name : (text : List ℕ) (w : ℕ) → a_word.Says text w → is_name text ≡ false
unfolding a_word
word_no_name text w (z, says, is) = grind (arith, integer_first text z says, digit_begins_none)
