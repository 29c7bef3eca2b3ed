-- How far the receiver is from its next report: the lemmas by which each line's reason shows that it comes nearer,
-- and what a ring shows of one block for the plan.
use Rattle.std.proofs.Common.{ℕ, suc, ◌+◌, ◌-◌, ◌*◌, ◌<◌, ◌≤◌, ◌≡◌, ◌==◌, Bool, true, false, not, ◌&&◌, ◌||◌, if◌then◌else◌, List, [], ◌∷◌, Some, refl, sym}
use Rattle.std.proofs.Common.{◌∙◌, ap, arith, add-one}
use Rattle.std.specs.Prelude.{nat_lt}
use Rattle.std.proofs.lemmas.Bool.{and_parts}
use Rattle.std.proofs.lemmas.Bool.Decides.{nat_tests}
use Rattle.hart.specs.{HartState, need_of, advanced}
use Rattle.hart.specs.declared.status.Status.TheVariants as status
use Rattle.hart.specs.declared.need.Report.{Report}
use Rattle.poll_close.specs.{Around, some_open, rest_from, runs, is_closed, SenderBlock, BlockInvariant, Count, unsent_of, unread_of, DistanceToReport, Near}
use Rattle.poll_close.specs.{Round, Over, Visit, length_of, opened_rows}
use Rattle.poll_close.specs.Invariant.Outlines.{OutlineRow, Standing, rank_in, left_of}
use Rattle.step_machine.proofs.Lines.{loads}
use Rattle.poll_close.proofs.Blocks.{IsBlock, IsWordOf}

-- the receiver is never further away than this
abbrev is_short : DistanceToReport → Bool
is_short (Near n) = nat_lt n 23
is_short (Round n) = nat_lt n 23
is_short (Over n) = nat_lt n 23
is_short (Visit stale n other) = nat_lt n 23 && nat_lt other 23

abbrev pub are_short : {Held : Type 1} → List (OutlineRow DistanceToReport Held) → Bool
are_short [] = true
are_short (row ∷ rows) = is_short row.rank && are_short rows

module _ (a : Around) (x : List ℕ) where
  length_short : (w : DistanceToReport) → is_short w ≡ true → length_of a x w ≤ 22 + a.rest + a.start
  length_short w short = grind (arith, nat_tests, and_parts)

  pub rank_short : {Held : Type 1} (rows : List (OutlineRow DistanceToReport Held)) → are_short rows ≡ true → (here : ℕ)
      → rank_in (length_of a x) rows here ≤ 22 + a.rest + a.start
  rank_short [] short here = omega arith
  rank_short (row ∷ rows) short here = grind (arith, and_parts, length_short, rank_short rows)

-- what a ring shows of one block for the plan. The least size of a ring is known here.
pub record BlockProgress (m : BlockInvariant) (least : ℕ) : Type 0 where
  pub short : are_short (opened_rows m m.rows) ≡ true
  -- with nothing pending, an act of a sender that does not wait brings it nearer to its end; one that
  -- waits has a word ready; one that has ended has its mark landed
  pub nearer : (k : SenderBlock) (n : Count m) (s : HartState) (word : ℕ → ℕ) (v : ℕ) → IsBlock k → m.CounterInvariant k n
      → m.Words k n.landed word → Standing m.sender k n.sender s → s.status ≡ status.Running → unsent_of m k n ≡ []
      → unread_of m k n ≡ [] → ((a : ℕ) → IsWordOf k a → need_of s ≡ loads a → v ≡ word a) → m.waits s word ≡ false
      → left_of m.sender (advanced s v) < left_of m.sender s
  pub ready : (k : SenderBlock) (n : Count m) (s : HartState) (word : ℕ → ℕ) → IsBlock k → least ≤ k.size → m.CounterInvariant k n
      → m.Words k n.landed word → Standing m.sender k n.sender s → s.status ≡ status.Running → unsent_of m k n ≡ []
      → unread_of m k n ≡ [] → m.waits s word ≡ true → m.Ready k n
  pub marked : (k : SenderBlock) (n : Count m) (s : HartState) → IsBlock k → m.CounterInvariant k n
      → Standing m.sender k n.sender s → runs (Some s) ≡ false → unsent_of m k n ≡ [] → m.marks n.landed ≡ 1

-- from a visit that may find nothing to one that may so too, or that finds something
pub flags : {rest : ℕ} (a b c d : ℕ) (new old : Bool) → (a < b) × (c < d) × (c ≤ 40) → 40 ≤ rest
    → (new ≡ true → old ≡ true) → (if new then a + rest else c) < (if old then b + rest else d)
flags a b c d new old less off same = grind arith

-- it finds what is there once the mark is read, or where the sender runs
pub not_stale : (mark : ℕ) (ended : Bool) → (ended ≡ true → mark ≡ 1) → ((mark == 0) && ended) ≡ false
not_stale mark ended some = grind (arith, nat_tests)

-- the round: some block is open, so it comes nearer on its way to one
module _ (rs : List Report) (n : ℕ) where
  abbrev wrap : Bool → ℕ
  wrap b = if b then 0 else 40 * (n + 2)

  pub far_off : (j : ℕ) → 40 ≤ rest_from rs n j
  far_off j = grind arith

  pub not_far : (j : ℕ) → rest_from rs n j ≤ 40 * n + 40 * (n + 2)
  not_far j = grind arith

  pub arrives : (j : ℕ) → j < n → (if is_closed rs j then 17 + rest_from rs n (j + 1) else 22) < 1 + rest_from rs n j
  arrives j less = at (n - (j + 1)) refl (omega arith) (is_closed rs j) refl
    where
      at : (c : ℕ) → n - (j + 1) ≡ c → n - j ≡ suc c → (b : Bool) → is_closed rs j ≡ b → (if b then 17 + rest_from rs n (j + 1) else 22) < 1 + rest_from rs n j
      at c one two true is =
          let same : some_open rs j (n - j) ≡ some_open rs (j + 1) (n - (j + 1)) =
          ap (some_open rs j) two ∙ ap (λ b. not b || some_open rs (suc j) c) is
          ∙ ap (λ i. some_open rs i c) (sym (add-one j)) ∙ ap (some_open rs (j + 1)) (sym one) in
          let wraps : wrap (some_open rs j (n - j)) ≡ wrap (some_open rs (j + 1) (n - (j + 1))) = ap wrap same in
          omega (arith, wraps, one, two)
      at c one two false is = omega (arith, far_off j)

  pub wraps : some_open rs 0 n ≡ true → rest_from rs n 0 ≤ rest_from rs n n
  wraps open_one = grind arith
