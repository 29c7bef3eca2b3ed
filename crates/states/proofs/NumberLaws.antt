-- Words among those that were numbered. Keys stand for them: `says` gives the words of a key.
use Rattle.std.proofs.Common.{◌≡◌, ℕ, ◌<◌, Bool, false, List, [], ◌∷◌, ◌++◌, length, get_or, inl, inr, Option, Some, sym, ◌∙◌, ap, subst, arith, length-append}
use Rattle.std.specs.Global.{Vec}
use Rattle.std.specs.Prelude.{All, map, option_map, position, if◌then◌else◌}
use Rattle.std.specs.List.{slice_get, list_any}
use Rattle.std.specs.Str.{bytes_eq}
use Rattle.std.proofs.lemmas.Bool.{false≢true}
use Rattle.std.proofs.lemmas.List.{length-map, map-append}
use Rattle.std.proofs.lemmas.List.Folds.{list_any_at}
use Rattle.std.proofs.lemmas.List.Quantifiers.{position-Some}
use Rattle.std.proofs.lemmas.Option.{slice_get-map, slice_get-get_or, slice_get_within}
use Rattle.std.proofs.lemmas.Slice.Eq.{bytes_eq-Decides}
use Rattle.states.specs.States.{GetsNextNumber, IsNumbered}

-- whether a key has these items
abbrev pub has_items : List ℕ → Vec ℕ → Bool
has_items items key = bytes_eq items key.items

-- `d` is any key
module _ (says : Vec ℕ → List ℕ) (keys : List (Vec ℕ)) (d : Vec ℕ) (items words : List ℕ) where
  said : (i : ℕ) → i < length keys → slice_get (map says keys) i ≡ Some (says (get_or keys i d))
  said i within = slice_get-map says keys i ∙ ap (λ (o : Option (Vec ℕ)). option_map says o) (slice_get-get_or keys i d within)

  -- the place of a key with these items is the number of its words
  pub words-there : (i : ℕ) → Some i ≡ position (has_items items) keys → ((key : Vec ℕ) → items ≡ key.items → says key ≡ words)
      → slice_get (map says keys) i ≡ Some words
  words-there i is back =
      let found = position-Some (has_items items) keys i d (sym is) in
      let its = get_or keys i d in
      said i found.0 ∙ ap (λ (ws : List ℕ). Some ws) (back its ((bytes_eq-Decides items its.items).0 found.1))

  -- where no key has them, and no others say the words, these have no number
  pub words-absent : (i : ℕ) → All (λ key. says key ≡ words → items ≡ key.items) keys → false ≡ list_any (has_items items) keys
      → slice_get (map says keys) i ≡ Some words → ⊥
  words-absent i all none is =
      let within : i < length keys = omega (arith, slice_get_within (map says keys) i words is, length-map keys says) in
      let its = get_or keys i d in
      let same : Some (says its) ≡ Some words = sym (said i within) ∙ is in
      let own : says its ≡ words = cc in
      false≢true (none ∙ list_any_at (has_items items) keys i d within ((bytes_eq-Decides items its.items).1 (all i d within own)))

-- a key whose words are new gets the next number
pub next_is : (says : Vec ℕ → List ℕ) (keys new : List (Vec ℕ)) (key : Vec ℕ) (old : List (List ℕ)) (words : List ℕ) (n : ℕ) → map says keys ≡ old
    → All (λ other. says other ≡ words → key.items ≡ other.items) keys → says key ≡ words → false ≡ list_any (has_items key.items) keys
    → new ≡ (if list_any (has_items key.items) keys then keys else keys ++ key ∷ []) → n ≡ length keys → GetsNextNumber old words (map says new) n
next_is says keys new key old words n view all said none inserted n_is =
    let added : new ≡ keys ++ key ∷ [] = inserted ∙ ap (λ (b : Bool). if b then keys else keys ++ key ∷ []) (sym none) in
    record {
      unknown = λ i is. words-absent says keys key key.items words i all none (subst (λ (ps : List (List ℕ)). slice_get ps i ≡ Some words) (sym view) is);
      is_next = n_is ∙ sym (length-map keys says) ∙ ap length view;
      appended = ap (map says) added ∙ map-append says keys (key ∷ []) ∙ (λ k. view k ++ said k ∷ []);
    }

-- a number is one of those that are given
pub number_within : (old new : List (List ℕ)) (words : List ℕ) (n : ℕ) → IsNumbered old words new n → n < length new
number_within old new words n (inl keeps) = subst (λ (ps : List (List ℕ)). n < length ps) (sym keeps.kept) (slice_get_within old n words keeps.known)
number_within old new words n (inr next) = omega (arith, next.is_next, ap length next.appended, length-append old (words ∷ []))
