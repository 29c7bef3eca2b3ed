-- Texts, piece by piece and line by line.
use Rattle.std.proofs.Common.{ℕ, suc, ◌≡◌, ◌+◌, ◌<◌, List, [], ◌∷◌, ◌++◌, length, take, get_or, map, Result, Vec, Global, sym, ap, ◌∙◌, arith, append_assoc}
use Rattle.std.proofs.Common.{append-nil}
use Rattle.std.specs.Prelude.{OnOk, codes}
use Rattle.std.specs.Fmt.{decimal}
use Rattle.std.proofs.lemmas.Result.{on_ok_weaker}
use Rattle.std.proofs.lemmas.List.{take_more, map-append, length-map, length-take-le}
use Rattle.poll_close.proofs.Opened.{items_of}
use Rattle.ring_trials.specs.declared.runs.Total.{Total}
use Rattle.ring_trials.specs.Answers.{sender_line, sender_lines, clean_text}

-- ---- the pieces of a text, which are written from the right

three_pieces : (a b c : List ℕ) → a ++ (b ++ c) ≡ a ++ b ++ c
three_pieces a b c = sym (append_assoc a b c)

pub four_pieces : (a b c d : List ℕ) → a ++ (b ++ (c ++ d)) ≡ a ++ b ++ c ++ d
four_pieces a b c d = three_pieces a b (c ++ d) ∙ three_pieces (a ++ b) c d

module _ {E : Type 0} (written : Result (Unit {0}) E) (old new a b c : List ℕ) where
  pub three_written : OnOk written (new ≡ old ++ (a ++ (b ++ c))) → OnOk written (new ≡ old ++ (a ++ b ++ c))
  three_written put = on_ok_weaker written (λ is. is ∙ ap (λ xs. old ++ xs) (three_pieces a b c)) put

  pub five_written : (d e : List ℕ) → OnOk written (new ≡ old ++ (a ++ (b ++ (c ++ (d ++ e))))) → OnOk written (new ≡ old ++ (a ++ b ++ c ++ d ++ e))
  five_written d e put = on_ok_weaker written (λ is. is ∙ ap (λ xs. old ++ xs) (four_pieces a b c (d ++ e) ∙ three_pieces (a ++ b ++ c) d e)) put

  pub seven_written : (d e f g : List ℕ) → OnOk written (new ≡ old ++ (a ++ (b ++ (c ++ (d ++ (e ++ (f ++ g)))))))
      → OnOk written (new ≡ old ++ (a ++ b ++ c ++ d ++ e ++ f ++ g))
  seven_written d e f g put = on_ok_weaker written
      (λ is. is ∙ ap (λ xs. old ++ xs) (four_pieces a b c (d ++ (e ++ (f ++ g))) ∙ four_pieces (a ++ b ++ c) d e (f ++ g)
      ∙ three_pieces (a ++ b ++ c ++ d ++ e) f g)) put

  pub eight_written : (d e f g h : List ℕ) → OnOk written (new ≡ old ++ (a ++ (b ++ (c ++ (d ++ (e ++ (f ++ (g ++ h))))))))
      → OnOk written (new ≡ old ++ (a ++ b ++ c ++ d ++ e ++ f ++ g ++ h))
  eight_written d e f g h put = on_ok_weaker written
      (λ is. is ∙ ap (λ xs. old ++ xs) (four_pieces a b c (d ++ (e ++ (f ++ (g ++ h)))) ∙ four_pieces (a ++ b ++ c) d e (f ++ (g ++ h))
      ∙ four_pieces (a ++ b ++ c ++ d ++ e) f g h)) put

  pub ten_written : (d e f g h i j : List ℕ)
      → OnOk written (new ≡ old ++ (a ++ (b ++ (c ++ (d ++ (e ++ (f ++ (g ++ (h ++ (i ++ j))))))))))
      → OnOk written (new ≡ old ++ (a ++ b ++ c ++ d ++ e ++ f ++ g ++ h ++ i ++ j))
  ten_written d e f g h i j put = on_ok_weaker written
      (λ is. is ∙ ap (λ xs. old ++ xs) (four_pieces a b c (d ++ (e ++ (f ++ (g ++ (h ++ (i ++ j))))))
      ∙ four_pieces (a ++ b ++ c) d e (f ++ (g ++ (h ++ (i ++ j)))) ∙ four_pieces (a ++ b ++ c ++ d ++ e) f g (h ++ (i ++ j))
      ∙ four_pieces (a ++ b ++ c ++ d ++ e ++ f ++ g) h i j)) put

-- ---- the lines of senders, one more at the end

lines_last : (i : ℕ) (totals : List Total) (lists : List (List ℕ)) (total : Total) (list : List ℕ) → length totals ≡ length lists
    → sender_lines i (totals ++ total ∷ []) (lists ++ list ∷ []) ≡ sender_lines i totals lists ++ sender_line (i + length totals) total (length list)
lines_last i [] [] total list same =
    append-nil (sender_line i total (length list)) ∙ ap (λ (k : ℕ). sender_line k total (length list)) (omega arith)
lines_last i [] (l ∷ lists) total list same = absurd (omega arith)
lines_last i (t ∷ totals) [] total list same = absurd (omega arith)
lines_last i (t ∷ totals) (l ∷ lists) total list same =
    let next : (i + 1) + length totals ≡ i + suc (length totals) = omega arith in
    ap (λ xs. sender_line i t (length l) ++ xs)
    (lines_last (i + 1) totals lists total list (omega arith) ∙ ap (λ (k : ℕ). sender_lines (i + 1) totals lists ++ sender_line k total (length list)) next)
    ∙ sym (append_assoc (sender_line i t (length l)) (sender_lines (i + 1) totals lists) (sender_line (i + suc (length totals)) total (length list)))

pub lines_more : (totals : List Total) (lists : List (Vec ℕ Global)) (i : ℕ) (d : Total) (e : Vec ℕ Global) → i < length totals → length totals ≡ length lists
    → sender_lines 0 (take (i + 1) totals) (map items_of (take (i + 1) lists))
    ≡ sender_lines 0 (take i totals) (map items_of (take i lists)) ++ sender_line i (get_or totals i d) (length (get_or lists i e).items)
lines_more totals lists i d e within same =
    let gone : length (take i totals) ≡ i = length-take-le i totals (omega arith) in
    let both : length (take i totals) ≡ length (map items_of (take i lists)) =
    omega (arith, gone, length-map (take i lists) items_of, length-take-le i lists (omega arith)) in
    let at : 0 + length (take i totals) ≡ i = omega (arith, gone) in
    ap (λ ts. sender_lines 0 ts (map items_of (take (i + 1) lists))) (take_more totals i d within)
    ∙ ap (λ ls. sender_lines 0 (take i totals ++ get_or totals i d ∷ []) ls)
    (ap (map items_of) (take_more lists i e (omega arith)) ∙ map-append items_of (take i lists) (get_or lists i e ∷ []))
    ∙ lines_last 0 (take i totals) (map items_of (take i lists)) (get_or totals i d) (get_or lists i e).items both
    ∙ ap (λ (k : ℕ). sender_lines 0 (take i totals) (map items_of (take i lists)) ++ sender_line k (get_or totals i d) (length (get_or lists i e).items)) at

-- and the text of them all, so far
pub clean_more : (runs : ℕ) (totals : List Total) (lists : List (Vec ℕ Global)) (i : ℕ) (d : Total) (e : Vec ℕ Global) → i < length totals
    → length totals ≡ length lists → clean_text runs (take i totals) (map items_of (take i lists))
    ++ sender_line i (get_or totals i d) (length (get_or lists i e).items)
    ≡ clean_text runs (take (i + 1) totals) (map items_of (take (i + 1) lists))
clean_more runs totals lists i d e within same =
    append_assoc (codes "clean " ++ decimal runs ++ codes " runs") (10 ∷ sender_lines 0 (take i totals) (map items_of (take i lists)))
    (sender_line i (get_or totals i d) (length (get_or lists i e).items))
    ∙ ap (λ xs. codes "clean " ++ decimal runs ++ codes " runs" ++ 10 ∷ xs) (sym (lines_more totals lists i d e within same))
