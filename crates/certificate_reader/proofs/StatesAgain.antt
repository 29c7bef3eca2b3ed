-- What is known in a state, and its cases, as they are written, are read again.
use Rattle.std.proofs.Common.{◌≡◌, ℕ, suc, ◌+◌, ◌-◌, ◌^◌, ◌<◌, ◌≤◌, List, [], ◌∷◌, ◌++◌, length, map, replicate, reverse, get_or, Option, Some, Ok, refl, sym}
use Rattle.std.proofs.Common.{ap, subst, ◌∙◌, inl, inr, append_assoc, length-append, arith}
use Rattle.std.specs.Prelude.{codes}
use Rattle.std.specs.List.{AllByRecursion}
use Rattle.std.specs.Fmt.{decimal}
use Rattle.std.proofs.lemmas.Bool.{cases_lt, le-ltb, lt-leb}
use Rattle.std.proofs.lemmas.List.{reverse-append, map-append}
use Rattle.std.proofs.Math.Dec.{eqb-suc-zero}
use Rattle.std.proofs.Math.Seq.{set-append_seam, get_or-append_seam}
use Rattle.queue_certificates.specs.{Form, KnownValue, any, linear, index_for, signed_for, ends_as, has_bits, Share, no_share}
use Rattle.queue_certificates.specs.Cases.{Arrow, Cases, leaf, split}
use Rattle.queue_checker.specs.Trees.{height}
use Rattle.certificate_reader.specs.declared.cases.Node.{Node}
use Rattle.certificate_reader.specs.declared.cases.Node.TheVariants as node
use Rattle.certificate_reader.specs.declared.stages.Keyword.TheVariants as keyword
use Rattle.certificate_reader.specs.declared.stages.Stage.{Stage}
use Rattle.certificate_reader.specs.declared.stages.Stage.TheVariants as stage
use Rattle.certificate_reader.specs.CaseTexts.{arrow_lines, case_lines}
use Rattle.certificate_reader.specs.Stages.{keyword_named, stage_after, wanted}
use Rattle.certificate_reader.specs.FormTexts.{known_value_in}
use Rattle.certificate_reader.specs.Drafts.{DraftValue, by_words, with_value, share_of, with_share, ranges_of, split_of, with_split, leaf_of, arrow_of}
use Rattle.certificate_reader.specs.Writing.{form_text, marked_text, bits_text, value_text, value_line, value_lines, share_line, share_lines, range_text}
use Rattle.certificate_reader.specs.Writing.{line_if, node_line, tree_lines}
use Rattle.certificate_reader.specs.Written.{FitsForm, FitsValue, FitsShare, FitsRange, FitsArrow, FitsCases}
use Rattle.certificate_reader.proofs.NumbersAgain.{first_word_again, first_count_again, ranges_again}
use Rattle.certificate_reader.proofs.FormsAgain.{form_again, forms_again, linear_again, index_again, signed_again, ends_again, bits_again}
use Rattle.certificate_reader.proofs.LinesAgain.{told, told-append, by_name, line_told, LeadsTo, no_line, IsHeld, at_stage}
use Rattle.certificate_reader.proofs.Turns.{if_told, each_placed}
use Rattle.certificate_reader.proofs.FieldsAgain.{IsDescribed}

-- ---- ranges

abbrev pub with_ranges : DraftValue → List (Option ℕ) → Stage → DraftValue
with_ranges d ranges s = record d { ranges = ranges; stage = s }

pub ranges_told : (d : DraftValue) (ranges : List (Option ℕ)) → length ranges ≤ 64 → AllByRecursion FitsRange ranges
    → LeadsTo (IsHeld IsDescribed (with_ranges d ranges)) (with_ranges d [] stage.State) (line_if (codes "most") (map range_text ranges))
unfolding keyword_named stage_after ranges_of
ranges_told d ranges few all = if_told IsDescribed (with_ranges d) (codes "most") range_text stage.State refl ranges
    (line_told (IsHeld IsDescribed (with_ranges d ranges)) (with_ranges d [] stage.State) (with_ranges d ranges stage.State) (codes "most")
    (map range_text ranges) keyword.Most stage.Known refl refl (rw (ranges_again ranges all, le-ltb 64 (length ranges) few) refl)
    (at_stage IsDescribed (with_ranges d ranges) stage.Known refl))

-- ---- values

value_set : (least N n : ℕ) (before after : List KnownValue) (value : KnownValue) (text : List ℕ) → least ≤ length before → length before < 2 ^ 32
    → known_value_in N n text ≡ Ok value
    → with_value least N n (before ++ any ∷ after) (decimal (length before) ∷ text ∷ []) ≡ Ok (before ++ value ∷ after)
unfolding with_value
value_set least N n before after value text enough small known =
    let inside : length before < length (before ++ any ∷ after) = omega (arith, length-append before (any ∷ after)) in
    rw (
      first_word_again (length before) (text ∷ []) small,
      known,
      le-ltb (length before) least enough,
      lt-leb (length (before ++ any ∷ after)) (length before) inside,
      set-append_seam before any after value,
    ) refl

-- where values are held by a draft, and a line of this name sets one
module _ (N n least : ℕ) (name : List ℕ) (held : List KnownValue → Stage → DraftValue) (N_small : N ≤ 2 ^ 32) (n_small : n ≤ 2 ^ 32)
    (line : (values new : List KnownValue) (s : Stage) (words : List (List ℕ)) → with_value least N n values words ≡ Ok new → IsDescribed s
    → LeadsTo (IsHeld IsDescribed (held new)) (held values s) ((name, words) ∷ [])) where
  value_told : (before rest : List KnownValue) (value : KnownValue) (s : Stage) → length before < 2 ^ 32 → (length before < least → value ≡ any)
      → FitsValue N n value → IsDescribed s
      → LeadsTo (IsHeld IsDescribed (held (before ++ value ∷ rest))) (held (before ++ any ∷ rest) s) (value_line name (length before) (value_text value))
  value_told before rest value s small first fits is = by_value value first fits
    where
      said : (other : KnownValue) (text : List ℕ) → (length before < least → ⊥) → known_value_in N n text ≡ Ok other
          → LeadsTo (IsHeld IsDescribed (held (before ++ other ∷ rest))) (held (before ++ any ∷ rest) s) ((name, decimal (length before) ∷ text ∷ []) ∷ [])
      said other text never known =
          let enough : least ≤ length before = elim (cases_lt (length before) least) [ inl low ↦ absurd (never low) | inr enough ↦ enough ] in
          line (before ++ any ∷ rest) (before ++ other ∷ rest) s (decimal (length before) ∷ text ∷ [])
          (value_set least N n before rest other text enough small known) is

      by_value : (other : KnownValue) → (length before < least → other ≡ any) → FitsValue N n other
          → LeadsTo (IsHeld IsDescribed (held (before ++ other ∷ rest))) (held (before ++ any ∷ rest) s) (value_line name (length before) (value_text other))
      by_value any none fits_v =
          no_line (IsHeld IsDescribed (held (before ++ any ∷ rest))) (held (before ++ any ∷ rest) s) (at_stage IsDescribed (held (before ++ any ∷ rest)) s is)
      by_value (linear f) none fits_v =
          said (linear f) (form_text f) (λ low. let e : linear f ≡ any = none low in cc) (linear_again N n f n_small fits_v)
      by_value (index_for i f) none fits_v =
          said (index_for i f) (marked_text 64 i f) (λ low. let e : index_for i f ≡ any = none low in cc)
          (index_again N n i f n_small N_small fits_v.0 fits_v.1)
      by_value (signed_for i f) none fits_v = said (signed_for i f) (marked_text 126 i f) (λ low. let e : signed_for i f ≡ any = none low in cc)
          (signed_again N n i f n_small N_small fits_v.0 fits_v.1)
      by_value (ends_as b f) none fits_v = said (ends_as b f) (marked_text 94 b f) (λ low. let e : ends_as b f ≡ any = none low in cc)
          (ends_again N n b f n_small N_small fits_v.0 fits_v.1)
      by_value (has_bits m b) none fits_v = said (has_bits m b) (bits_text m b) (λ low. let e : has_bits m b ≡ any = none low in cc)
          (bits_again N n m b fits_v.0 fits_v.1)

  pub values_told : (m : ℕ) (values : List KnownValue) (s : Stage) → m ≤ 2 ^ 32 → length values ≡ m → least ≤ 1 → (1 ≤ least → get_or values 0 any ≡ any)
      → AllByRecursion (FitsValue N n) values → IsDescribed s
      → LeadsTo (IsHeld IsDescribed (held values)) (held (replicate m any) s) (value_lines name 0 values)
  values_told m values s small sizes one first all is =
      each_placed (FitsValue N n) IsDescribed held any (λ j value. value_line name j (value_text value)) m values sizes
      (λ before value after rest t same fits is_t. value_told before rest value t
      (omega (arith, ap length same, length-append before (value ∷ after)))
      (λ low. (
      let none : length before ≡ 0 = omega (arith, low, one) in
      sym (get_or-append_seam before value after any) ∙ ap (λ vs. get_or vs (length before) any) same ∙ ap (λ j. get_or values j any) none
      ∙ first (omega arith)
      )) fits is_t) s is all

-- ---- shares

share_again : (n : ℕ) (s : Share) → n ≤ 2 ^ 32 → FitsShare n s → share_of n (form_text s.own ∷ form_text s.owned ∷ []) ≡ Ok s
unfolding share_of
share_again n s small fits = rw (form_again n s.own small fits.own, form_again n s.owned small fits.owned) refl

share_set : (n : ℕ) (before after : List Share) (s : Share) → n ≤ 2 ^ 32 → length before < 2 ^ 32 → FitsShare n s
    → with_share n (before ++ no_share ∷ after) (decimal (length before) ∷ form_text s.own ∷ form_text s.owned ∷ []) ≡ Ok (before ++ s ∷ after)
unfolding with_share
share_set n before after s n_small small fits =
    let inside : length before < length (before ++ no_share ∷ after) = omega (arith, length-append before (no_share ∷ after)) in
    rw (
      first_word_again (length before) (form_text s.own ∷ form_text s.owned ∷ []) small,
      share_again n s n_small fits,
      lt-leb (length (before ++ no_share ∷ after)) (length before) inside,
      set-append_seam before no_share after s,
    ) refl

abbrev pub with_shares : DraftValue → List Share → Stage → DraftValue
with_shares d shares s = record d { shares = shares; stage = s }

share_told : (d : DraftValue) (before rest : List Share) (share : Share) (s : Stage) → length d.ranges ≤ 2 ^ 32 → length before < 2 ^ 32
    → FitsShare (length d.ranges) share → IsDescribed s
    → LeadsTo (IsHeld IsDescribed (with_shares d (before ++ share ∷ rest))) (with_shares d (before ++ no_share ∷ rest) s)
    (share_line (length before) share ∷ [])
unfolding keyword_named stage_after
share_told d before rest share s n_small small fits is =
    let new = with_shares d (before ++ share ∷ rest) in
    line_told (IsHeld IsDescribed new) (with_shares d (before ++ no_share ∷ rest) s) (new s) (codes "share")
    (decimal (length before) ∷ form_text share.own ∷ form_text share.owned ∷ []) keyword.Share stage.Known refl (rw is refl)
    (rw (share_set (length d.ranges) before rest share n_small small fits) refl) (at_stage IsDescribed new stage.Known refl)

pub shares_told : (d : DraftValue) (m : ℕ) (shares : List Share) (s : Stage) → length d.ranges ≤ 2 ^ 32 → m ≤ 2 ^ 32 → length shares ≡ m
    → AllByRecursion (FitsShare (length d.ranges)) shares → IsDescribed s
    → LeadsTo (IsHeld IsDescribed (with_shares d shares)) (with_shares d (replicate m no_share) s) (share_lines 0 shares)
shares_told d m shares s n_small small sizes all is =
    each_placed (FitsShare (length d.ranges)) IsDescribed (with_shares d) no_share (λ j share. share_line j share ∷ []) m shares sizes
    (λ before share after rest t same fits is_t. share_told d before rest share t n_small (omega (arith, ap length same, length-append before (share ∷ after)))
    fits is_t) s is all

-- ---- cases

-- a draft after these lines of cases
abbrev after_nodes : DraftValue → List Node → (splits : ℕ) → DraftValue
after_nodes d nodes splits = record d { nodes = reverse nodes ++ d.nodes; splits = splits }

abbrev AreNodesRead : DraftValue → (nodes : List Node) (splits : ℕ) → (s t : Stage) → Type 0
AreNodesRead d nodes splits s t = told (record d { stage = s }) (tree_lines nodes) ≡ Ok (record (after_nodes d nodes splits) { stage = t })

node_told : (d : DraftValue) (x : Node) (splits : ℕ) (s t : Stage)
    → by_words (record d { stage = s }) (node_line x).0 (node_line x).1 ≡ Ok (record d { nodes = x ∷ d.nodes; splits = splits; stage = t })
    → AreNodesRead d (x ∷ []) splits s t
node_told d x splits s t line = rw line refl

nodes_then : (d : DraftValue) (xs ys : List Node) (m n : ℕ) (s t u : Stage) → AreNodesRead d xs m s t → AreNodesRead (after_nodes d xs m) ys n t u
    → AreNodesRead d (xs ++ ys) n s u
nodes_then d xs ys m n s t u first rest =
    ap (told (record d { stage = s })) (map-append node_line xs ys)
    ∙ told-append (record d { stage = s }) (record (after_nodes d xs m) { stage = t }) (tree_lines xs) (tree_lines ys) first ∙ rest
    ∙ ap (λ nodes. Ok (record d { nodes = nodes; splits = n; stage = u }))
    (sym (append_assoc (reverse ys) (reverse xs) d.nodes) ∙ ap (λ zs. zs ++ d.nodes) (sym (reverse-append xs ys)))

arrow_told : (d : DraftValue) (a : Arrow) (k : ℕ) → length d.ranges + 1 ≤ 2 ^ 32 → FitsArrow (length d.ranges) a
    → AreNodesRead d (node.To a ∷ []) d.splits (stage.Leaf k) (stage.Leaf k)
unfolding keyword_named stage_after arrow_of
arrow_told d a k small fits = node_told d (node.To a) d.splits (stage.Leaf k) (stage.Leaf k)
    (by_name (record d { stage = stage.Leaf k }) (record d { nodes = node.To a ∷ d.nodes; stage = stage.Leaf k }) (codes "to")
    (decimal a.to ∷ map form_text a.forms) keyword.To (stage.Leaf k) refl refl (rw (
      first_word_again a.to (map form_text a.forms) fits.to,
      forms_again (length d.ranges + 1) a.forms small fits.forms,
      le-ltb 64 (length a.forms) fits.few,
    ) refl))

arrows_told : (d : DraftValue) (arrows : List Arrow) (k : ℕ) → length d.ranges + 1 ≤ 2 ^ 32 → AllByRecursion (FitsArrow (length d.ranges)) arrows
    → AreNodesRead d (arrow_lines arrows) d.splits (stage.Leaf k) (stage.Leaf k)
arrows_told d [] k small all = refl
arrows_told d (a ∷ arrows) k small all =
    nodes_then d (node.To a ∷ []) (arrow_lines arrows) d.splits d.splits (stage.Leaf k) (stage.Leaf k) (stage.Leaf k) (arrow_told d a k small all.0)
    (arrows_told (record d { nodes = node.To a ∷ d.nodes }) arrows k small all.1)

leaf_told : (d : DraftValue) (handed : Form) (s : Stage) (k : ℕ) → wanted s ≡ suc k → length d.ranges ≤ 2 ^ 32 → FitsForm (length d.ranges) handed
    → AreNodesRead d (node.Leaf handed ∷ []) d.splits s (stage.Leaf k)
unfolding keyword_named stage_after leaf_of
leaf_told d handed s k is small fits = node_told d (node.Leaf handed) d.splits s (stage.Leaf k)
    (by_name (record d { stage = s }) (record d { nodes = node.Leaf handed ∷ d.nodes; stage = s }) (codes "leaf") (form_text handed ∷ []) keyword.Leaf
    (stage.Leaf k) refl (rw is (let one : suc k - 1 ≡ k = omega arith in rw (one, eqb-suc-zero k) refl))
    (rw (form_again (length d.ranges) handed small fits) refl))

split_told : (d : DraftValue) (j v : ℕ) (s : Stage) (k : ℕ) → wanted s ≡ suc k → k ≤ 1024 → d.splits < 1024 → length d.ranges ≤ 2 ^ 32
    → j < length d.ranges → v ≤ 2 ^ 32 → AreNodesRead d (node.Split j v ∷ []) (d.splits + 1) s (stage.Split (suc (suc k)))
unfolding keyword_named stage_after split_of with_split
split_told d j v s k is few below_most small below count = node_told d (node.Split j v) (d.splits + 1) s (stage.Split (suc (suc k)))
    (by_name (record d { stage = s }) (record d { nodes = node.Split j v ∷ d.nodes; splits = d.splits + 1; stage = s }) (codes "split")
    (decimal j ∷ decimal v ∷ []) keyword.Split (stage.Split (suc (suc k))) refl staged (rw (
      first_word_again j (decimal v ∷ []) (omega arith),
      first_count_again v [] count,
      lt-leb (length d.ranges) j below,
      lt-leb 1024 d.splits below_most,
    ) refl))
  where
    staged : stage_after s keyword.Split ≡ Some (stage.Split (suc (suc k)))
    staged =
        let one : suc k - 1 ≡ k = omega arith in
        let more : suc k + 1 ≡ suc (suc k) = omega arith in
        rw (is, one, more, eqb-suc-zero k, le-ltb 1024 k few) refl

-- the lines of a tree, where k cases are wanted besides it
pub cases_told : (d : DraftValue) (cases : Cases) (s : Stage) (k : ℕ) → wanted s ≡ suc k → k ≤ d.splits → d.splits + height cases ≤ 1024
    → length d.ranges + 1 ≤ 2 ^ 32 → FitsCases (length d.ranges) cases → AreNodesRead d (case_lines cases) (d.splits + height cases) s (stage.Leaf k)
cases_told d (leaf handed arrows) s k is few total small fits =
    let same : d.splits ≡ d.splits + 0 = omega arith in
    subst (λ n. AreNodesRead d (node.Leaf handed ∷ arrow_lines arrows) n s (stage.Leaf k)) same
    (nodes_then d (node.Leaf handed ∷ []) (arrow_lines arrows) d.splits d.splits s (stage.Leaf k) (stage.Leaf k)
    (leaf_told d handed s k is (omega arith) fits.0) (arrows_told (record d { nodes = node.Leaf handed ∷ d.nodes }) arrows k small fits.1))
cases_told d (split j v low high) s k is few total small fits =
    let next = record d { nodes = node.Split j v ∷ d.nodes; splits = d.splits + 1 } in
    let lows = d.splits + 1 + height low in
    let same : lows + height high ≡ d.splits + (height low + height high + 1) = omega arith in
    subst (λ n. AreNodesRead d (node.Split j v ∷ (case_lines low ++ case_lines high)) n s (stage.Leaf k)) same
    (nodes_then d (node.Split j v ∷ []) (case_lines low ++ case_lines high) (d.splits + 1) (lows + height high) s (stage.Split (suc (suc k))) (stage.Leaf k)
    (split_told d j v s k is (omega arith) (omega arith) (omega arith) fits.0 fits.1)
    (nodes_then next (case_lines low) (case_lines high) lows (lows + height high) (stage.Split (suc (suc k))) (stage.Leaf (suc k)) (stage.Leaf k)
    (cases_told next low (stage.Split (suc (suc k))) (suc k) refl (omega arith) (omega arith) small fits.2)
    (cases_told (after_nodes next (case_lines low) lows) high (stage.Leaf (suc k)) k refl (omega arith) (omega arith) small fits.3)))
