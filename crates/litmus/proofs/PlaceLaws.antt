-- A formula asks for the places of its symbols.
use Rattle.std.proofs.Common.{◌≡◌, ◌∙◌, sym, ap, List, [], ◌∷◌, ◌++◌, refl}
use Rattle.std.proofs.lemmas.List.{append-nil}
use Rattle.litmus.specs.{Place, Symbol, Formula, places}
use Rattle.litmus.specs.declared.symbols.Symbol.TheVariants as symbol
use Rattle.litmus.specs.Grammar.{Level, Stands, atom, negated, enclosed, one_operand, joined, one_conjunction, parted, places_in}

pub places_in-append : (left right : List Symbol) → places_in (left ++ right) ≡ places_in left ++ places_in right
places_in-append [] right = refl
places_in-append (symbol.Is p value ∷ left) right = ap (λ (ps : List Place). p ∷ ps) (places_in-append left right)
places_in-append (symbol.Not ∷ left) right = places_in-append left right
places_in-append (symbol.And ∷ left) right = places_in-append left right
places_in-append (symbol.Or ∷ left) right = places_in-append left right
places_in-append (symbol.Open ∷ left) right = places_in-append left right
places_in-append (symbol.Close ∷ left) right = places_in-append left right

both-sides : (left right : List Symbol) (f g : Formula) → places f ≡ places_in left → places g ≡ places_in right
    → places f ++ places g ≡ places_in left ++ places_in right
both-sides left right f g same same_too = ap (λ (ps : List Place). ps ++ places g) same ∙ ap (λ (ps : List Place). places_in left ++ ps) same_too

pub places-symbols : (level : Level) (symbols : List Symbol) (f : Formula) → Stands level symbols f → places f ≡ places_in symbols
places-symbols level symbols f (atom p value) = refl
places-symbols level symbols f (negated inner g stands) = places-symbols _ inner g stands
places-symbols level symbols f (enclosed inner g stands) =
    places-symbols _ inner g stands ∙ sym (places_in-append inner (symbol.Close ∷ []) ∙ append-nil (places_in inner))
places-symbols level symbols f (one_operand inner g stands) = places-symbols _ inner g stands
places-symbols level symbols f (joined left right g h stands stands_too) =
    both-sides left right g h (places-symbols _ left g stands) (places-symbols _ right h stands_too)
    ∙ sym (places_in-append left (symbol.And ∷ right))
places-symbols level symbols f (one_conjunction inner g stands) = places-symbols _ inner g stands
places-symbols level symbols f (parted left right g h stands stands_too) =
    both-sides left right g h (places-symbols _ left g stands) (places-symbols _ right h stands_too)
    ∙ sym (places_in-append left (symbol.Or ∷ right))
