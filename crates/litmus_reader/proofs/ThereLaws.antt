-- What a condition asks for is there.
use Rattle.std.proofs.Common.{ℕ, ◌≤◌, List, [], ◌∷◌, length, Result, Ok, Err, All, subst, sym, ap, arith}
use Rattle.std.specs.Prelude.{IfOk}
use Rattle.std.proofs.lemmas.List.Elements.{All-cons, All-nil}
use Rattle.texts.specs.Results.{GivesUpToMemory}
use Rattle.texts.specs.declared.errors.TextError.{TextError}
use Rattle.litmus.specs.declared.symbols.Place.{Place}
use Rattle.litmus.specs.declared.symbols.Symbol.{Symbol}
use Rattle.litmus.specs.{places, disjunction, places_in, IsThere}
use Rattle.litmus.proofs.PlaceLaws.{places-symbols}
use Rattle.litmus_tokens.specs.Assignments as assigned
use Rattle.litmus_tokens.specs.Tokens as token
use Rattle.litmus_reader.specs.{FinalCondition, AtLeft, fault_in, Names, names_in, atoms_in, IsPlaceOf, IsKnown, AreKnown}
use Rattle.litmus_reader.specs.Condition.{condition_in, condition_of}
use Rattle.litmus_reader.proofs.FirstAppearances.{fewer, at_below}
use Rattle.litmus_reader.proofs.ConditionLaws.{condition_found}

place_there : (harts : ℕ) (names : Names) (location : assigned.NamedLocation) (at : Place) → IsPlaceOf harts names location at → IsThere harts (length names) at
place_there harts names (assigned.NamedLocation.in_register hart register) at is = subst (IsThere harts (length names)) (sym is.1) (is.0, omega arith)
place_there harts names (assigned.NamedLocation.at_location name) at (index, named, is) =
    let here = at_below names name index named in
    subst (IsThere harts (length names)) (sym is) (omega arith, omega (arith, here))

abbrev AreThere : ℕ → Names → List Symbol → Type 0
AreThere harts names known = All (IsThere harts (length names)) (places_in known)

known_there : (harts : ℕ) (names : Names) (first : token.Token) (one : Symbol) (others : List Symbol) → IsKnown harts names first one
    → AreThere harts names others → AreThere harts names (one ∷ others)
known_there harts names (token.Token.atom assignment) one others (at, value, placed, is, same) there =
    subst (λ (s : Symbol). AreThere harts names (s ∷ others)) (sym same)
    (All-cons (IsThere harts (length names)) at (places_in others) (place_there harts names assignment.0 at placed) there)
known_there harts names other one others is there = rw is there

all_there : (harts : ℕ) (names : Names) (words : List token.Token) (known : List Symbol) → AreKnown harts names words known → AreThere harts names known
all_there harts names [] known none = rw none (All-nil (IsThere harts (length names)))
all_there harts names (first ∷ words) known (one, others, whole, is, are) =
    rw whole (known_there harts names first one others is (all_there harts names words others are))

pub answered_there : (harts : ℕ) (old new : Names) (text : List ℕ) (result : Result FinalCondition (TextError AtLeft))
    → GivesUpToMemory fault_in (condition_of new) result (condition_in harts old text)
    → IfOk result (λ condition. All (IsThere harts (length new)) (places condition.condition))
answered_there harts old new text (Ok final) read =
    let c = condition_found harts old text (condition_of new final) read in
    rw (places-symbols disjunction c.known final.condition c.stands) (all_there harts new c.words c.known c.all)
answered_there harts old new text (Err e) read = tt

pub answered_more : (harts : ℕ) (old new : Names) (text : List ℕ) (result : Result FinalCondition (TextError AtLeft))
    → GivesUpToMemory fault_in (condition_of new) result (condition_in harts old text)
    → IfOk result (λ condition. length old ≤ length new)
answered_more harts old new text (Ok final) read =
    let c = condition_found harts old text (condition_of new final) read in
    omega (arith, ap length c.named, fewer old (names_in (atoms_in c.words)))
answered_more harts old new text (Err e) read = tt
