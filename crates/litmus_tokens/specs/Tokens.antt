-- The tokens of a condition.
use Rattle.std.specs.Prelude.{◌≡◌, ℕ, suc, zero, ◌<◌, ◌==◌, Bool, true, false, not, ◌&&◌, ◌||◌, nat_eq, List, [], ◌∷◌}
use Rattle.std.specs.Prelude.{◌++◌, length, drop, Option, None, Some, if◌then◌else◌, codes}
use Rattle.std.specs.List.{starts_with}
use Rattle.texts.specs.Cutting.{before, AllPass, NonePass, from_first, without_leading}
use Rattle.texts.specs.Pieces.{is_gap}
use Rattle.litmus_tokens.specs.Names.{goes_on_name}
use Rattle.litmus_tokens.specs.Assignments.{AssignmentValue, an_assignment, assignment_of}
use Rattle.litmus_tokens.specs.declared.tokens.Token as coded
use Rattle.litmus_tokens.specs.declared.tokens.Token.TheVariants as code
use Rattle.litmus_tokens.specs.declared.tokens.Front.{Front}
use Rattle.litmus_tokens.specs.declared.tokens.Front.TheVariants as front

-- an atom, `~` or `not`, `/\`, `\/`, `(` and `)`
pub data Token : Type 0 where
  atom : AssignmentValue → Token
  negation : Token
  conjunction : Token
  disjunction : Token
  opening : Token
  closing : Token

-- what a text begins with: nothing but gaps, a token and what follows it, or no token
pub data Beginning : Type 0 where
  nothing : Beginning
  begins : Token → List ℕ → Beginning
  no_token : Beginning

-- the tokens of a text, up to its end or to the first place where no token begins
pub data Tokens : Type 0 where
  ended : Tokens
  goes_on : Token → Tokens → Tokens
  broken : Tokens

-- `(` 40, `)` 41, `~` 126, `/` 47, `\` 92: the bytes at which an atom ends
abbrev pub is_mark : ℕ → Bool
is_mark c = (c == 40) || (c == 41) || (c == 126) || (c == 47) || (c == 92)

abbrev pub ends_name : List ℕ → Bool
ends_name [] = true
ends_name (c ∷ rest) = not (goes_on_name c)

-- what follows the name at the front, where that is `not`
unfoldable pub after_not : List ℕ → Option (List ℕ)
after_not text = if starts_with nat_eq text (codes "not") && ends_name (drop 3 text) then Some (drop 3 text) else None

-- a token of two bytes, where this one follows
abbrev pub paired : Token → ℕ → List ℕ → Beginning
paired token second [] = no_token
paired token second (c ∷ rest) = if c == second then begins token rest else no_token

abbrev pub atom_from : Option AssignmentValue → List ℕ → Beginning
atom_from None rest = no_token
atom_from (Some assignment) rest = begins (atom assignment) rest

abbrev pub negation_or : Option (List ℕ) → Beginning → Beginning
negation_or None other = other
negation_or (Some rest) other = begins negation rest

-- a token that no mark begins: `not`, or the atom that goes on to the next mark
unfoldable pub unmarked : List ℕ → Beginning
unmarked text = negation_or (after_not text) (atom_from (an_assignment.reads (before is_mark text)) (from_first is_mark text))

unfoldable pub begun : List ℕ → Beginning
begun [] = nothing
begun (c ∷ rest) =
    if c == 40 then begins opening rest else (
    if c == 41 then begins closing rest else (
    if c == 126 then begins negation rest else (
    if c == 47 then paired conjunction 92 rest else (
    if c == 92 then paired disjunction 47 rest else
    unmarked (c ∷ rest)))))

-- what the text begins with, after gaps
unfoldable pub beginning_of : List ℕ → Beginning
beginning_of text = begun (without_leading is_gap text)

abbrev pub tokens_from : (List ℕ → Tokens) → Beginning → Tokens
tokens_from others nothing = ended
tokens_from others (begins token rest) = goes_on token (others rest)
tokens_from others no_token = broken

-- at most this number of tokens
unfoldable pub tokens_within : ℕ → List ℕ → Tokens
tokens_within zero text = broken
tokens_within (suc n) text = tokens_from (tokens_within n) (beginning_of text)

-- All tokens of the text, which are fewer than its bytes and one more.
unfoldable pub tokens_of : List ℕ → Tokens
tokens_of text = tokens_within (suc (length text)) text

-- what follows a token is shorter than the text
abbrev pub LeavesLess : List ℕ → Beginning → Type 0
LeavesLess text nothing = Unit {0}
LeavesLess text (begins token rest) = length rest < length text
LeavesLess text no_token = Unit {0}

-- ---- what the code's values stand for

abbrev pub token_of : coded.Token → Token
token_of (code.Is assignment) = atom (assignment_of assignment)
token_of code.Not = negation
token_of code.And = conjunction
token_of code.Or = disjunction
token_of code.Open = opening
token_of code.Close = closing

abbrev pub seen : Front → Beginning
seen front.End = nothing
seen (front.Token t rest) = begins (token_of t) rest.now
seen front.NoToken = no_token

-- ---- the tokens of a text, as they are spelled

-- an atom ends here: at a mark, or at the text's end
abbrev pub EndsAtom : List ℕ → Type 0
EndsAtom [] = Unit {0}
EndsAtom (c ∷ rest) = is_mark c ≡ true

-- The bytes spell a token, where the rest follows them. A name at the front that is `not` is no atom's.
pub data Spells : Token → (bytes rest : List ℕ) → Type 0 where
  opens : (rest : List ℕ) → Spells opening (40 ∷ []) rest
  closes : (rest : List ℕ) → Spells closing (41 ∷ []) rest
  tilde : (rest : List ℕ) → Spells negation (126 ∷ []) rest
  named_not : (rest : List ℕ) → ends_name rest ≡ true → Spells negation (codes "not") rest
  both : (rest : List ℕ) → Spells conjunction (47 ∷ 92 ∷ []) rest
  either : (rest : List ℕ) → Spells disjunction (92 ∷ 47 ∷ []) rest
  says : (first : ℕ) (others rest : List ℕ) (assignment : AssignmentValue) → is_gap first ≡ false
      → NonePass is_mark (first ∷ others) → EndsAtom rest → after_not (first ∷ (others ++ rest)) ≡ None
      → an_assignment.Says (first ∷ others) assignment → Spells (atom assignment) (first ∷ others) rest

-- The text is these tokens, with gaps before, between and after them.
pub data AreTokens : List ℕ → List Token → Type 0 where
  no_more : (gaps : List ℕ) → AllPass is_gap gaps → AreTokens gaps []
  one_more : (gaps bytes rest : List ℕ) (token : Token) (tokens : List Token) → AllPass is_gap gaps
      → Spells token bytes rest → AreTokens rest tokens → AreTokens (gaps ++ (bytes ++ rest)) (token ∷ tokens)

-- the tokens, with the text's end after them
abbrev pub listed : List Token → Tokens
listed [] = ended
listed (token ∷ tokens) = goes_on token (listed tokens)
