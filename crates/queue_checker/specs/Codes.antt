-- How the logic stores a tree of cases: its nodes, each before those below it.
use Rattle.std.specs.Prelude.{ℕ, ◌≡◌, ◌⊎◌, List, [], ◌∷◌, ◌++◌, refl}
use Rattle.std.specs.Coded.{Coded, code_by, coded_list, coded_ℕ, coded×, coded⊎}
use Rattle.std.proofs.Common.{inl, inr, ap, ◌∙◌, append_assoc}
use Rattle.queue_certificates.specs.Forms.{Form}
use Rattle.queue_certificates.specs.Cases.{Arrow, Cases, leaf, split}

abbrev pub form_code : Coded Form
form_code = code_by (ℕ × List ℕ) (coded× coded_ℕ (coded_list coded_ℕ)) (λ f. (f.constant, f.factors))
    (λ p. record { constant = p.0; factors = p.1 }) (λ _. refl)

abbrev pub arrow_code : Coded Arrow
arrow_code = code_by (ℕ × List Form) (coded× coded_ℕ (coded_list form_code)) (λ a. (a.to, a.forms)) (λ p. record { to = p.0; forms = p.1 }) (λ _. refl)

-- a leaf, or where it splits
abbrev pub Node : Type 0
Node = (Form × List Arrow) ⊎ (ℕ × ℕ)

abbrev pub nodes_of : Cases → List Node
nodes_of (leaf d arrows) = inl (d, arrows) ∷ []
nodes_of (split j v low high) = inr (j, v) ∷ nodes_of low ++ nodes_of high

-- the last two trees become one
abbrev pub joined_by : (j v : ℕ) → List Cases → List Cases
joined_by j v [] = []
joined_by j v (low ∷ []) = []
joined_by j v (low ∷ high ∷ trees) = split j v low high ∷ trees

abbrev pub trees_of : List Node → List Cases
trees_of [] = []
trees_of (inl given ∷ nodes) = leaf given.0 given.1 ∷ trees_of nodes
trees_of (inr at ∷ nodes) = joined_by at.0 at.1 (trees_of nodes)

abbrev pub first_tree : List Cases → Cases
first_tree [] = leaf (record { constant = 0; factors = [] }) []
first_tree (tree ∷ trees) = tree

pub trees_of-nodes_of : (c : Cases) (nodes : List Node) → trees_of (nodes_of c ++ nodes) ≡ c ∷ trees_of nodes
trees_of-nodes_of (leaf d arrows) nodes = refl
trees_of-nodes_of (split j v low high) nodes = ap (λ trees. joined_by j v (trees_of trees)) (append_assoc (nodes_of low) (nodes_of high) nodes)
    ∙ ap (joined_by j v) (trees_of-nodes_of low (nodes_of high ++ nodes)) ∙ ap (λ trees. joined_by j v (low ∷ trees)) (trees_of-nodes_of high nodes)

pub first_tree-nodes_of : (c : Cases) → first_tree (trees_of (nodes_of c ++ [])) ≡ c
first_tree-nodes_of c = ap first_tree (trees_of-nodes_of c [])

abbrev pub cases_code : Coded Cases
cases_code = code_by (List Node) (coded_list (coded⊎ (coded× form_code (coded_list arrow_code)) (coded× coded_ℕ coded_ℕ)))
    (λ c. nodes_of c ++ []) (λ nodes. first_tree (trees_of nodes)) first_tree-nodes_of
