-- Trees of words, and nodes that are added.
use Rattle.std.proofs.Common.{◌≡◌, ℕ, suc, ◌+◌, ◌<◌, ◌≤◌, List, [], ◌∷◌, ◌++◌, length, take, refl, sym, ap, subst, ◌∙◌, arith, get_or, inl, inr, Result, Ok}
use Rattle.std.proofs.Common.{Err, IfOk, OnErr}
use Rattle.std.specs.Prelude.{map, option_map, Some}
use Rattle.std.specs.List.{flat_map, slice_get}
use Rattle.std.proofs.lemmas.List.{take_more, flat_map_more, take-append-le, length-append, length-map, map-append}
use Rattle.std.proofs.lemmas.List.Elements.{All-append, All-cons, All-nil}
use Rattle.std.proofs.lemmas.Option.{slice_get-map}
use Rattle.surveys.specs.inner.Trees.{Grew, HasNodes, IsNumberedAgain, NumbersTree, tree_lists, node_at, tree_of, words_below, tree_words}

-- ---- a level of nodes

-- the numbers of one node more
pub level_more : (f : ℕ → List ℕ) (numbers below new : List ℕ) (i : ℕ) → i < length numbers → below ≡ flat_map f (take i numbers)
    → new ≡ below ++ f (get_or numbers i 0) → new ≡ flat_map f (take (i + 1) numbers)
level_more f numbers below new i within so is =
    is ∙ ap (λ (ns : List ℕ). ns ++ f (get_or numbers i 0)) so ∙ flat_map_more f [] (take i numbers) (get_or numbers i 0)
    ∙ sym (ap (flat_map f) (take_more numbers i 0 within))

-- below the numbers of a level there is one level less
pub level_less : (nodes : List (List ℕ)) (levels left : ℕ) (numbers below : List ℕ) → levels ≡ suc left → below ≡ flat_map (node_at nodes) numbers
    → words_below nodes left below ≡ words_below nodes levels numbers
level_less nodes levels left numbers below more is = rw (more, is) refl

-- ---- nodes that are added

-- a tree has the words that it had
same_words : (old new : List (List ℕ)) (key : List ℕ) → Grew old new → (tree_of key).nodes ≤ length old
    → tree_words new (tree_of key) ≡ tree_words old (tree_of key)
same_words old new key grew few =
    let tree = tree_of key in
    let first = ap (take tree.nodes) grew.1 ∙ take-append-le tree.nodes old grew.0 few in
    ap (λ (ns : List (List ℕ)). take tree.count (words_below ns tree.levels (tree.top ∷ []))) first

pub same_lists : (old new trees : List (List ℕ)) → Grew old new → HasNodes old trees → tree_lists new trees ≡ tree_lists old trees
same_lists old new [] grew few = refl
same_lists old new (key ∷ trees) grew few =
    (λ i. same_words old new key grew (few 0 key (omega arith)) i ∷ same_lists old new trees grew (λ k x within. few (suc k) x (omega (arith, within))) i)

pub still_named : (old new trees : List (List ℕ)) → Grew old new → HasNodes old trees → HasNodes new trees
still_named old new trees grew few =
    λ k x within. let before = few k x within in omega (arith, before, ap length grew.1, length-append old grew.0)

-- ---- trees that are numbered

-- the list has a tree's number
pub list_numbered : (old nodes trees : List (List ℕ)) (words : List ℕ) (new : List (List ℕ)) (number : ℕ) → Grew old nodes → HasNodes old trees
    → NumbersTree nodes trees words new number → IsNumberedAgain (tree_lists old trees) words (tree_lists nodes new) number
list_numbered old nodes trees words new number grew few numbers =
    let list : List ℕ → List ℕ = λ key. tree_words nodes (tree_of key) in
    let same = same_lists old nodes trees grew few in
    elim numbers.at as (λ at. IsNumberedAgain (tree_lists old trees) words (tree_lists nodes new) number) [
      | inl known ↦ inl (record {
        known = ap (λ (xs : List (List ℕ)). slice_get xs number) (sym same) ∙ slice_get-map list trees number ∙ ap (option_map list) known.0
            ∙ ap (λ (ws : List ℕ). Some ws) numbers.is;
        kept = ap (map list) known.1 ∙ same;
      })
      | inr next ↦ inr (
        next.0 ∙ sym (length-map trees (λ key. tree_words old (tree_of key))),
        ap (map list) next.1 ∙ map-append list trees (numbers.key ∷ []) ∙ (λ i. same i ++ numbers.is i ∷ []),
      )
    ]

-- and there are as many nodes as all trees name
pub named_after : (old nodes trees : List (List ℕ)) (words : List ℕ) (new : List (List ℕ)) (number : ℕ) → Grew old nodes → HasNodes old trees
    → NumbersTree nodes trees words new number → HasNodes nodes new
named_after old nodes trees words new number grew few numbers =
    let P : List ℕ → Type 0 = λ key. (tree_of key).nodes ≤ length nodes in
    let before = still_named old nodes trees grew few in
    elim numbers.at as (λ at. HasNodes nodes new) [
      | inl known ↦ subst (HasNodes nodes) (sym known.1) before
      | inr next ↦ subst (HasNodes nodes) (sym next.1) (All-append P trees (numbers.key ∷ []) before (All-cons P numbers.key [] numbers.few (All-nil P)))
    ]

-- ---- what comes of numbering a list, whether memory runs out or not

module _ {E : Type 0} (r : Result ℕ E) (old nodes trees new view : List (List ℕ)) (words : List ℕ) (grew : Grew old nodes) (few : HasNodes old trees)
    (seen : tree_lists old trees ≡ view) (numbers : IfOk r (NumbersTree nodes trees words new)) (failed : OnErr r (new ≡ trees)) where
  pub all_named : HasNodes nodes new
  all_named = by_result r numbers failed
    where
      by_result : (s : Result ℕ E) → IfOk s (NumbersTree nodes trees words new) → OnErr s (new ≡ trees) → HasNodes nodes new
      by_result (Ok number) is lost = named_after old nodes trees words new number grew few is
      by_result (Err e) is lost = subst (HasNodes nodes) (sym lost) (still_named old nodes trees grew few)

  pub is_numbered : IfOk r (IsNumberedAgain view words (tree_lists nodes new))
  is_numbered = by_result r numbers
    where
      by_result : (s : Result ℕ E) → IfOk s (NumbersTree nodes trees words new) → IfOk s (IsNumberedAgain view words (tree_lists nodes new))
      by_result (Ok number) is =
          subst (λ (xs : List (List ℕ)). IsNumberedAgain xs words (tree_lists nodes new) number) seen
          (list_numbered old nodes trees words new number grew few is)
      by_result (Err e) is = tt

  pub is_kept : OnErr r (tree_lists nodes new ≡ view)
  is_kept = by_result r failed
    where
      by_result : (s : Result ℕ E) → OnErr s (new ≡ trees) → OnErr s (tree_lists nodes new ≡ view)
      by_result (Ok number) lost = tt
      by_result (Err e) lost = ap (tree_lists nodes) lost ∙ same_lists old nodes trees grew few ∙ seen

-- only nodes were added
pub lists_kept : {X E : Type 0} (r : Result X E) (old nodes trees view : List (List ℕ)) → Grew old nodes → HasNodes old trees → tree_lists old trees ≡ view
    → OnErr r (tree_lists nodes trees ≡ view)
lists_kept (Ok x) old nodes trees view grew few seen = tt
lists_kept (Err e) old nodes trees view grew few seen = same_lists old nodes trees grew few ∙ seen
