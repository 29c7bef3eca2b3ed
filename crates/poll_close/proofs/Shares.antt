-- How much is left for the plan to do: each sender's share, their sum, and what acts and reports make of
-- them.
use Rattle.std.proofs.Common.{ℕ, zero, suc, ◌+◌, ◌-◌, ◌*◌, ◌<◌, ◌≤◌, ◌≡◌, ◌≢◌, ◌==◌, inl, inr, Bool, true, false, ◌||◌, List, [], ◌∷◌, ◌++◌, length}
use Rattle.std.proofs.Common.{length-append, Option, Some, None, refl, sym, ◌∙◌, ap, arith, eq-eqb}
use Rattle.std.specs.List.{slice_get, slice_index_or}
use Rattle.std.proofs.Math.Bool.{or-false}
use Rattle.std.proofs.lemmas.Bool.{cases_eq, cases_lt}
use Rattle.std.proofs.lemmas.Bool.Decides.{nat_tests}
use Rattle.std.proofs.lemmas.Nat.{row_fits}
use Rattle.std.proofs.lemmas.Option.{slice_get_past}
use Rattle.hart.specs.State.{HartState}
use Rattle.hart.specs.declared.need.Report.{Report}
use Rattle.hart.specs.declared.need.Report.TheVariants as report
use Rattle.poll_close.specs.{taken, sender_of, Clean, Ranking, some_open, receiver_rank_if, sender_if, one_if, share, total, round, rank_by_states, Around}
use Rattle.poll_close.specs.{is_closed, all_closed, BlockInvariant, Count, all_closings}
use Rattle.poll_close.proofs.Windows.{get_end}
use Rattle.poll_close.proofs.CleanReports.{taken-took, taken-closed, get_front}
use Rattle.poll_close.proofs.ReceiverActs.{shuts_most}
use Rattle.poll_close.proofs.Planning.{closed_at}
use Rattle.poll_close.proofs.Distance.{not_far}

-- sums over the senders
pub total-same : (f g : ℕ → ℕ) (n : ℕ) → ((i : ℕ) → i < n → g i ≡ f i) → total g n ≡ total f n
total-same f g zero same = refl
total-same f g (suc i) same = omega (arith, same i (omega arith), total-same f g i (λ j less. same j (omega arith)))

pub total-less : (f g : ℕ → ℕ) (n j : ℕ) → j < n → ((i : ℕ) → i < n → i ≢ j → g i ≡ f i) → g j < f j → total g n < total f n
total-less f g zero j less same fall = absurd (omega arith)
total-less f g (suc i) j less same fall = grind (arith, cases_eq, total-same, total-less f g i j)

-- what is left, by what an act changes of it
module _ (p : Ranking) (n size : ℕ) (lists : List (List ℕ)) where
  pub share_same : (rs new : List Report) (states after : ℕ → Option HartState) (i : ℕ) → taken new i ≡ taken rs i
      → is_closed new i ≡ is_closed rs i → after (i + 1) ≡ states (i + 1)
      → share p lists new after i ≡ share p lists rs states i
  share_same rs new states after i words closed state = rw (words, closed, state) refl

  -- the sender itself has acted
  pub share_acts : (rs new : List Report) (states after : ℕ → Option HartState) (i : ℕ) (s next : HartState)
      → new ≡ rs → states (i + 1) ≡ Some s → after (i + 1) ≡ Some next → p.sender next < p.sender s
      → share p lists new after i < share p lists rs states i
  share_acts rs new states after i s next reporting state new_state less = rw (reporting, state, new_state) (omega arith)

  pub sum_decreases : (rs new : List Report) (states after : ℕ → Option HartState) (j : ℕ) → j < n
      → ((i : ℕ) → i < n → i ≢ j → share p lists new after i ≡ share p lists rs states i)
      → share p lists new after j < share p lists rs states j → receiver_rank_if p n size new after (after 0) < round n
      → rank_by_states p n size lists new after < rank_by_states p n size lists rs states
  sum_decreases rs new states after j within same fall near =
      let a : ℕ = total (share p lists new after) n in
      let b : ℕ = total (share p lists rs states) n in
      let less : total (share p lists new after) n < total (share p lists rs states) n =
      total-less (share p lists rs states) (share p lists new after) n j within same fall in
      added (total (share p lists new after) n) (total (share p lists rs states) n)
      (receiver_rank_if p n size new after (after 0)) (receiver_rank_if p n size rs states (states 0)) less near
    where
      added : (a b c d : ℕ) → a < b → c < round n → a * round n + c < b * round n + d
      added a b c d less near =
          let fits : a * round n + round n ≤ b * round n = row_fits a (round n) b (round n) less (omega arith) in
          omega (arith, fits, near)

  pub receiver_rank_decreases : (rs new : List Report) (states after : ℕ → Option HartState) → new ≡ rs
      → ((i : ℕ) → i < n → after (i + 1) ≡ states (i + 1))
      → receiver_rank_if p n size rs after (after 0) < receiver_rank_if p n size rs states (states 0)
      → rank_by_states p n size lists new after < rank_by_states p n size lists rs states
  receiver_rank_decreases rs new states after reporting state fall = grind (arith, total-same, share_same)

  receiver_rank_same : (rs : List Report) (states after : ℕ → Option HartState) (o : Option HartState)
      → ((h : ℕ) → after h ≡ states h) → receiver_rank_if p n size rs after o ≡ receiver_rank_if p n size rs states o
  receiver_rank_same rs states after o same = grind arith

  pub rank_same : (rs new : List Report) (states after : ℕ → Option HartState) → new ≡ rs
      → ((h : ℕ) → after h ≡ states h)
      → rank_by_states p n size lists new after ≡ rank_by_states p n size lists rs states
  rank_same rs new states after reporting same = grind (arith, total-same, share_same, receiver_rank_same)

  -- it is never further away than a round
  pub receiver_rank_small : ((a : Around) (s : HartState) → p.receiver a s ≤ 22 + a.rest + a.start)
      → (rs : List Report) (states : ℕ → Option HartState) (s : HartState) → states 0 ≡ Some s
      → receiver_rank_if p n size rs states (states 0) < round n
  receiver_rank_small most rs states s is = grind (arith, not_far)

-- reports
pub closed_more : (rs : List Report) (x : Report) (i : ℕ) → is_closed (rs ++ x ∷ []) i ≡ (is_closed rs i || is_closed (x ∷ []) i)
closed_more [] x i = refl
closed_more (report.Took j w ∷ rs) x i = closed_more rs x i
closed_more (report.Closed j ∷ rs) x i = grind (arith, closed_more rs x i)

pub closed_from : (rs : List Report) (k i : ℕ) → slice_get rs k ≡ Some (report.Closed i) → is_closed rs i ≡ true
closed_from [] k i is = cc
closed_from (x ∷ rs) zero i is = grind (arith, eq-eqb)
closed_from (report.Took j w ∷ rs) (suc k) i is = closed_from rs k i is
closed_from (report.Closed j ∷ rs) (suc k) i is = grind (arith, closed_from rs k i is)

one_most : (b : Bool) → one_if b ≤ 1
one_most b = grind arith

pub closed_other : (rs : List Report) (x : Report) (i : ℕ) → sender_of x ≢ i → is_closed (rs ++ x ∷ []) i ≡ is_closed rs i
closed_other rs x i other = grind (arith, closed_more, or-false, nat_tests)

-- one report of a sender more, and less is left of it
module _ (p : Ranking) (lists : List (List ℕ)) (rs : List Report) (states after : ℕ → Option HartState) (j : ℕ) (same : after (j + 1) ≡ states (j + 1)) where
  bound : (xs : List Report) → Clean xs lists → length (taken xs j) ≤ length (slice_index_or lists j [])
  bound xs clean =
      let all : length (taken xs j) + length (clean.in_order j).0 ≡ length (slice_index_or lists j []) =
      sym (length-append (taken xs j) (clean.in_order j).0) ∙ ap length (clean.in_order j).1 in
      omega (arith, all)

  fewer : (L a b c d x y : ℕ) → b ≤ L → d ≤ 1 → a + c + 1 ≡ b + d → x ≡ y → L + 1 - (b + d) + x < L + 1 - (a + c) + y
  fewer L a b c d x y most bit more state = omega arith

  pub report_decreases : (x : Report) → sender_of x ≡ j → Clean (rs ++ x ∷ []) lists → share p lists (rs ++ x ∷ []) after j < share p lists rs states j
  report_decreases (report.Took i w) from clean = grind (arith, nat_tests, taken-took, length-append, closed_more, or-false, fewer, bound, one_most)
  report_decreases (report.Closed i) from clean =
      let on : (i == j) ≡ true = grind (arith, nat_tests, from) in
      let words : length (taken (rs ++ report.Closed i ∷ []) j) ≡ length (taken rs j) = ap length (taken-closed rs i j) in
      let now : is_closed (rs ++ report.Closed i ∷ []) j ≡ true =
      closed_more rs (report.Closed i) j ∙ ap (λ b. is_closed rs j || (b || false)) on ∙ or_true (is_closed rs j) in
      let was : is_closed rs j ≡ false = at (is_closed rs j) refl in
      fewer (length (slice_index_or lists j [])) (length (taken rs j))
      (length (taken (rs ++ report.Closed i ∷ []) j)) (one_if (is_closed rs j))
      (one_if (is_closed (rs ++ report.Closed i ∷ []) j)) (sender_if p (after (j + 1)))
      (sender_if p (states (j + 1))) (bound (rs ++ report.Closed i ∷ []) clean)
      (one_most (is_closed (rs ++ report.Closed i ∷ []) j)) (omega (arith, words, ap one_if now, ap one_if was))
      (ap (sender_if p) same)
    where
      or_true : (b : Bool) → (b || true) ≡ true
      or_true true = refl
      or_true false = refl

      before : (k : ℕ) → slice_get rs k ≡ Some (report.Closed j) → k < length rs
      before k is = elim (cases_lt k (length rs)) [
        | inl less ↦ less
        | inr past ↦ let none : slice_get rs k ≡ None = slice_get_past rs k (omega arith) in cc
      ]

      at : (b : Bool) → is_closed rs j ≡ b → is_closed rs j ≡ false
      at false is = is
      at true is =
          let old = closed_at rs j is in
          absurd (clean.no_more j old.0 (length rs) (report.Closed i) (before old.0 old.1)
          (get_front rs (report.Closed i ∷ []) old.0 (report.Closed j) old.1) (get_end rs (report.Closed i)) from)

-- some sender is open
pub open_from : (rs : List Report) (n : ℕ) → all_closed rs n ≡ false → (i : ℕ) × (i < n) × (is_closed rs i ≡ false)
open_from rs zero open_yet = cc
open_from rs (suc n) open_yet = grind (arith, open_from rs n)

pub some_from : (rs : List Report) (j n i : ℕ) → i < n → is_closed rs (j + i) ≡ false → some_open rs j n ≡ true
some_from rs j zero i less is = absurd (omega arith)
some_from rs j (suc n) zero less is = let here : is_closed rs j ≡ false = ap (is_closed rs) (let same : j ≡ j + 0 = omega arith in same) ∙ is in rw here refl
some_from rs j (suc n) (suc i) less is = grind (arith, some_from rs (suc j) n i)

pub shuts_less : (m : BlockInvariant) (f : ℕ → Count m) (count i : ℕ)
    → ((j : ℕ) → j < count → (f j).receiver.closings ≤ 1) → i < count → (f i).receiver.closings ≡ 0
    → all_closings m f count < count
shuts_less m f zero i each less none = absurd (omega arith)
shuts_less m f (suc c) i each less none = grind (arith, cases_eq i c, shuts_most m f c, shuts_less m f c i)
