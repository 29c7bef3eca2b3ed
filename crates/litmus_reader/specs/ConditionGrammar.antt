-- The condition: its quantifier and its tokens.
use Rattle.std.specs.Prelude.{◌≡◌, ℕ, ◌*◌, ◌<◌, List, [], ◌∷◌, ◌++◌, codes}
use Rattle.texts.specs.Cutting.{AreBlanks}
use Rattle.litmus.specs.declared.verdict.Quantifier.{Quantifier}
use Rattle.litmus.specs.declared.verdict.Quantifier.TheVariants.{Exists, NotExists, ForAll}
use Rattle.litmus.specs.declared.symbols.Place.{Place}
use Rattle.litmus.specs.declared.symbols.Place.TheVariants as place
use Rattle.litmus.specs.declared.symbols.Symbol.{Symbol}
use Rattle.litmus.specs.declared.symbols.Symbol.TheVariants as symbol
use Rattle.litmus_tokens.specs.Assignments as assigned
use Rattle.litmus_tokens.specs.Assignments.{AssignmentValue}
use Rattle.litmus_tokens.specs.Tokens as token
use Rattle.litmus_tokens.specs.Tokens.{AreTokens}
use Rattle.litmus_reader.specs.Locations.{Names}
use Rattle.litmus_reader.specs.Layout.{NoneBegins, BeginsUnread}
use Rattle.litmus_reader.specs.Openings.{IsAt, IsNamedValue}

abbrev pub token_for : Quantifier → List ℕ
token_for Exists = codes "exists"
token_for NotExists = codes "~exists"
token_for ForAll = codes "forall"

-- the quantifier, and tokens up to the text's end; none of its lines is one of a part that isn't read
abbrev pub IsFinalCondition : List ℕ → Quantifier → List token.Token → Type 0
IsFinalCondition text quantifier tokens = (blanks rest : List ℕ) × AreBlanks blanks
    × (text ≡ blanks ++ (token_for quantifier ++ rest)) × AreTokens rest tokens × NoneBegins BeginsUnread text

-- the atoms among the tokens
abbrev pub atoms_in : List token.Token → List AssignmentValue
atoms_in [] = []
atoms_in (token.Token.atom assignment ∷ tokens) = assignment ∷ atoms_in tokens
atoms_in (other ∷ tokens) = atoms_in tokens

-- where an atom looks: a register of a hart of the table, or a location's word
abbrev pub IsPlaceOf : (harts : ℕ) → Names → assigned.NamedLocation → Place → Type 0
IsPlaceOf harts names (assigned.NamedLocation.in_register hart register) at = (hart < harts) × (at ≡ place.Register hart register.number)
IsPlaceOf harts names (assigned.NamedLocation.at_location name) at = (index : ℕ) × IsAt names name index × (at ≡ place.Word (4 * index))

-- the token, with places and numbers for names
abbrev pub IsKnown : (harts : ℕ) → Names → token.Token → Symbol → Type 0
IsKnown harts names (token.Token.atom assignment) known = (at : Place) × (value : ℕ)
    × IsPlaceOf harts names assignment.0 at × IsNamedValue names assignment.1 value × (known ≡ symbol.Is at value)
IsKnown harts names token.Token.negation known = known ≡ symbol.Not
IsKnown harts names token.Token.conjunction known = known ≡ symbol.And
IsKnown harts names token.Token.disjunction known = known ≡ symbol.Or
IsKnown harts names token.Token.opening known = known ≡ symbol.Open
IsKnown harts names token.Token.closing known = known ≡ symbol.Close

abbrev pub AreKnown : (harts : ℕ) → Names → List token.Token → List Symbol → Type 0
AreKnown harts names [] known = known ≡ []
AreKnown harts names (first ∷ tokens) known = (token : Symbol) × (others : List Symbol) × (known ≡ token ∷ others)
    × IsKnown harts names first token × AreKnown harts names tokens others
