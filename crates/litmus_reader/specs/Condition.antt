-- The condition: a quantifier, and tokens up to the end of the text.
use Rattle.std.specs.Prelude.{ℕ, ◌*◌, nat_lt, List, [], drop, Option, None, Some, Result, Ok, Err, if◌then◌else◌, codes}
use Rattle.texts.specs.Results.{◌>>=◌, map_err}
use Rattle.texts.specs.Cutting.{without_front}
use Rattle.litmus.specs.declared.verdict.Quantifier.{Quantifier}
use Rattle.litmus.specs.declared.verdict.Quantifier.TheVariants.{Exists, NotExists, ForAll}
use Rattle.litmus.specs.declared.symbols.Place.{Place}
use Rattle.litmus.specs.declared.symbols.Place.TheVariants as place
use Rattle.litmus.specs.declared.symbols.Symbol.{Symbol}
use Rattle.litmus.specs.declared.symbols.Symbol.TheVariants as symbol
use Rattle.litmus.specs.Formulas.{Formula}
use Rattle.litmus.specs.Drafting.{symbol_added, formula_of_symbols}
use Rattle.litmus_tokens.specs.Assignments as assigned
use Rattle.litmus_tokens.specs.Tokens as token
use Rattle.litmus_tokens.specs.Tokens.{Tokens, tokens_of}
use Rattle.litmus_reader.specs.declared.condition.Quantified as code
use Rattle.litmus_reader.specs.declared.condition.FinalCondition as final_condition
use Rattle.litmus_reader.specs.declared.faults.LitmusFault.{LitmusFault}
use Rattle.litmus_reader.specs.declared.faults.LitmusFault.TheVariants.{BadCondition}
use Rattle.litmus_reader.specs.declared.marks.Mark.TheVariants.{Unread}
use Rattle.litmus_reader.specs.Marks.{has_token, before_line, from_line}
use Rattle.litmus_reader.specs.Locations.{Names, resolved, value_resolved, HasNames}

-- the quantifier and what follows it
abbrev pub Quantified : Type 0
Quantified = Quantifier × List ℕ

abbrev pub quantifier_of : List ℕ → Option Quantified
quantifier_of line =
    if has_token (codes "exists") line then Some (Exists, drop 6 line) else (
    if has_token (codes "~exists") line then Some (NotExists, drop 7 line) else (
    if has_token (codes "forall") line then Some (ForAll, drop 6 line) else
    None))

-- the quantifier that the text's first letters are
unfoldable pub quantifier_in : List ℕ → Option Quantified
quantifier_in text = quantifier_of (without_front text)

-- the place that an atom asks for; its hart has to be there
unfoldable pub place_resolved : (harts : ℕ) → Names → assigned.NamedLocation → Result (Place × Names) LitmusFault
place_resolved harts names (assigned.NamedLocation.in_register hart register) =
    if nat_lt hart harts then Ok (place.Register hart register.number, names) else Err BadCondition
place_resolved harts names (assigned.NamedLocation.at_location name) = do
  found ← resolved names name
  Ok (place.Word (4 * found.0), found.1)

unfoldable pub atom_resolved : (harts : ℕ) → Names → assigned.AssignmentValue → Result (Symbol × Names) LitmusFault
atom_resolved harts names assignment = do
  location ← place_resolved harts names assignment.0
  value ← value_resolved location.1 assignment.1
  Ok (symbol.Is location.0 value.0, value.1)

-- the token with its place known, a symbol
unfoldable pub token_resolved : (harts : ℕ) → Names → token.Token → Result (Symbol × Names) LitmusFault
token_resolved harts names (token.Token.atom assignment) = atom_resolved harts names assignment
token_resolved harts names token.Token.negation = Ok (symbol.Not, names)
token_resolved harts names token.Token.conjunction = Ok (symbol.And, names)
token_resolved harts names token.Token.disjunction = Ok (symbol.Or, names)
token_resolved harts names token.Token.opening = Ok (symbol.Open, names)
token_resolved harts names token.Token.closing = Ok (symbol.Close, names)

-- what the condition's own reader refuses
abbrev pub as_condition : {A : Type 0} → Result A (Unit {0}) → Result A LitmusFault
as_condition result = map_err (λ misplaced. BadCondition) result

-- the symbols so far, and the names in them and in the init part
abbrev pub ConditionSoFar : Type 0
ConditionSoFar = List Symbol × Names

-- all tokens of a text, after those so far
abbrev pub tokens_added : (harts : ℕ) → ConditionSoFar → Tokens → Result ConditionSoFar LitmusFault
tokens_added harts so_far token.Tokens.ended = Ok so_far
tokens_added harts so_far token.Tokens.broken = Err BadCondition
tokens_added harts so_far (token.Tokens.goes_on first others) = do
  known ← token_resolved harts so_far.1 first
  more ← as_condition (symbol_added so_far.0 known.0)
  tokens_added harts (more, known.1) others

abbrev pub none_unread : Option (List ℕ) → Result (Unit {0}) LitmusFault
none_unread None = Ok tt
none_unread (Some rest) = Err BadCondition

-- what a test asks, and the names of all its locations
pub record Condition : Type 0 where
  pub quantifier : Quantifier
  pub formula : Formula
  pub names : Names

abbrev pub after_quantifier : (harts : ℕ) → Names → List ℕ → Option Quantified → Result Condition LitmusFault
after_quantifier harts names text None = Err BadCondition
after_quantifier harts names text (Some quantified) = do
  gathered ← tokens_added harts ([], names) (tokens_of quantified.1)
  end ← none_unread (from_line Unread text)
  formula ← as_condition (formula_of_symbols gathered.0)
  Ok (record { quantifier = quantified.0; formula = formula; names = gathered.1 })

-- the condition in a text, where the init part has these names; no line of it may be one of a part that
-- isn't read
unfoldable pub condition_in : (harts : ℕ) → Names → List ℕ → Result Condition LitmusFault
condition_in harts names text = after_quantifier harts names text (quantifier_in (before_line Unread text))

-- the condition from its first line on, which may be missing
abbrev pub condition_at : (harts : ℕ) → Names → Option (List ℕ) → Result Condition LitmusFault
condition_at harts names None = Err BadCondition
condition_at harts names (Some text) = condition_in harts names text

-- ---- what the code's values stand for

abbrev pub quantified_of : Option code.Quantified → Option Quantified
quantified_of None = None
quantified_of (Some quantified) = Some (quantified.quantifier, quantified.tokens.now)

abbrev pub condition_of : Names → final_condition.FinalCondition → Condition
condition_of names final = record { quantifier = final.quantifier; formula = final.condition; names = names }

-- the locations in a token have the shapes of names
abbrev pub TokenHasNames : token.Token → Type 0
TokenHasNames (token.Token.atom assignment) = HasNames assignment
TokenHasNames t = Unit {0}
