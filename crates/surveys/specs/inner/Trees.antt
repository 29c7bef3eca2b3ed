-- Lists of words as trees of nodes. A node has four numbers: words at the lowest level, and of nodes at any other. So lists that
-- differ in few words have most nodes in common.
use Rattle.std.specs.Prelude.{ℕ, ◌≡◌, map, ◌/◌, ◌%◌, ◌≤◌, ◌⊎◌, zero, suc, List, [], ◌∷◌, ◌++◌, length, replicate, slice_index, take, All, Some}
use Rattle.std.specs.List.{flat_map, slice_get, slice_index_or}
use Rattle.states.specs.States.{KeepsNumber}
use Rattle.surveys.specs.declared.trees.Tree.{Tree}

-- the four numbers of 32 bits that two words have
abbrev pub four_numbers : (key : List ℕ) → List ℕ
four_numbers key =
    (slice_index key 0 % 4294967296) ∷ (slice_index key 0 / 4294967296) ∷ (slice_index key 1 % 4294967296) ∷ (slice_index key 1 / 4294967296) ∷ []

-- those of the node of this number, and zeros where there is none
abbrev pub node_at : (nodes : List (List ℕ)) → (number : ℕ) → List ℕ
node_at nodes number = four_numbers (slice_index_or nodes number (replicate 2 0))

-- the words below these numbers, where this is how many levels of nodes are below them
abbrev pub words_below : (nodes : List (List ℕ)) → (levels : ℕ) → (numbers : List ℕ) → List ℕ
words_below nodes zero numbers = numbers
words_below nodes (suc levels) numbers = words_below nodes levels (flat_map (node_at nodes) numbers)

-- A tree's words: of those below its top this many, by the first nodes alone, which have all that it names. So further nodes change nothing.
abbrev pub tree_words : (nodes : List (List ℕ)) → Tree → List ℕ
tree_words nodes tree = take tree.count (words_below (take tree.nodes nodes) tree.levels (tree.top ∷ []))

-- the tree that two words say
abbrev pub tree_of : (key : List ℕ) → Tree
tree_of key = record {
  top = slice_index key 0 % 4294967296;
  levels = slice_index key 0 / 4294967296;
  count = slice_index key 1 % 4294967296;
  nodes = slice_index key 1 / 4294967296;
}

-- the lists that trees are of
abbrev pub tree_lists : (nodes trees : List (List ℕ)) → List (List ℕ)
tree_lists nodes trees = map (λ key. tree_words nodes (tree_of key)) trees

-- there are as many nodes as the trees name
abbrev pub HasNodes : (nodes trees : List (List ℕ)) → Type 0
HasNodes nodes trees = All (λ key. (tree_of key).nodes ≤ length nodes) trees

-- some nodes were added, or none
abbrev pub Grew : (old new : List (List ℕ)) → Type 0
Grew old new = (more : List (List ℕ)) × (new ≡ old ++ more)

-- a tree of the words has this number among the trees: one that it had before, or the next
pub record NumbersTree (nodes old : List (List ℕ)) (words : List ℕ) (new : List (List ℕ)) (number : ℕ) : Type 0 where
  pub key : List ℕ
  pub few : (tree_of key).nodes ≤ length nodes
  pub is : tree_words nodes (tree_of key) ≡ words
  pub at : ((slice_get old number ≡ Some key) × (new ≡ old)) ⊎ ((number ≡ length old) × (new ≡ old ++ key ∷ []))

-- the words have this number: one that they had before, or the next, which may be a second one
abbrev pub IsNumberedAgain : (old : List (List ℕ)) → (words : List ℕ) → (new : List (List ℕ)) → (number : ℕ) → Type 0
IsNumberedAgain old words new number = KeepsNumber old words new number ⊎ ((number ≡ length old) × (new ≡ old ++ words ∷ []))
