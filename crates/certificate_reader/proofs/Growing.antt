-- Lists that the code holds with the newest element last, and trees made of lines from the last one up.
use Rattle.std.proofs.Common.{◌≡◌, ℕ, List, [], ◌∷◌, ◌++◌, reverse, length, refl, ap, ◌∙◌, arith}
use Rattle.std.proofs.lemmas.List.{reverse-append}
use Rattle.queue_certificates.specs.Cases.{Arrow, Cases, leaf, split}
use Rattle.certificate_reader.specs.declared.cases.Node.{Node}
use Rattle.certificate_reader.specs.declared.cases.Node.TheVariants.{Split, Leaf, To}
use Rattle.queue_checker.specs.Codes.{joined_by, first_tree}
use Rattle.certificate_reader.specs.CaseTexts.{Grown, with_node, grown_onto, cases_of, arrow_lines, case_lines}

pub reverse_pushed : {A : Type 0} (xs : List A) (x : A) → reverse (xs ++ x ∷ []) ≡ x ∷ reverse xs
reverse_pushed xs x = reverse-append xs (x ∷ [])

-- ---- the lines of a tree

abbrev grown_trees : List Cases → Grown
grown_trees trees = record { arrows = []; trees = trees }

grown_append : (g : Grown) (xs ys : List Node) → grown_onto g (xs ++ ys) ≡ grown_onto (grown_onto g xs) ys
unfolding grown_onto
grown_append g [] ys = refl
grown_append g (x ∷ xs) ys = grown_append (with_node x g) xs ys

-- the first of the lines is taken last
grown_first : (g : Grown) (x : Node) (xs : List Node) → grown_onto g (reverse (x ∷ xs)) ≡ with_node x (grown_onto g (reverse xs))
unfolding grown_onto
grown_first g x xs = ap (grown_onto g) (reverse-append (x ∷ []) xs) ∙ grown_append g (reverse xs) (x ∷ [])

grown_arrows : (arrows : List Arrow) (trees : List Cases)
    → grown_onto (grown_trees trees) (reverse (arrow_lines arrows)) ≡ record { arrows = arrows; trees = trees }
unfolding grown_onto
grown_arrows [] trees = refl
grown_arrows (arrow ∷ arrows) trees = grown_first (grown_trees trees) (To arrow) (arrow_lines arrows) ∙ ap (with_node (To arrow)) (grown_arrows arrows trees)

grown_cases : (cases : Cases) (trees : List Cases) → grown_onto (grown_trees trees) (reverse (case_lines cases)) ≡ grown_trees (cases ∷ trees)
grown_cases (leaf d arrows) trees = grown_first (grown_trees trees) (Leaf d) (arrow_lines arrows) ∙ ap (with_node (Leaf d)) (grown_arrows arrows trees)
grown_cases (split j v low high) trees =
    grown_first (grown_trees trees) (Split j v) (case_lines low ++ case_lines high)
    ∙ ap (with_node (Split j v)) (
    ap (grown_onto (grown_trees trees)) (reverse-append (case_lines low) (case_lines high))
    ∙ grown_append (grown_trees trees) (reverse (case_lines high)) (reverse (case_lines low))
    ∙ ap (λ g. grown_onto g (reverse (case_lines low))) (grown_cases high trees)
    ∙ grown_cases low (high ∷ trees)
    )

pub cases_again : (cases : Cases) → cases_of (reverse (case_lines cases)) ≡ cases
cases_again cases = ap (λ g. first_tree g.trees) (grown_cases cases [])
