-- A sender's program as a proof outline: a row for each line, with how far its hart is from its end and
-- what holds there.
use Rattle.std.specs.Prelude.{ℕ, ◌≡◌, ◌+◌, ◌-◌, ◌*◌, ◌==◌, Bool, true, false, if◌then◌else◌, List, [], ◌∷◌, length, drop}
use Rattle.hart.specs.State.{HartState}
use Rattle.poll_close.specs.Rankings.{is_running}
use Rattle.poll_close.specs.Invariant.Blocks.{SenderBlock}
use Rattle.poll_close.specs.Invariant.HartStates.{SenderRegisters, fixed, running, ended}

-- the line at this offset: how far from the end, and what holds there
pub record OutlineRow (Rank : Type 0) (Held : Type 1) : Type 1 where
  pub at : ℕ
  pub rank : Rank
  pub holds : Held

-- a sender's: by the registers, and of the sender's own numbers and the registers that it writes
abbrev pub SenderRow : Type 0 → Type 1
SenderRow Own = OutlineRow (List ℕ → ℕ) (SenderBlock → Own → SenderRegisters → Type 0)

pub record Outline : Type 1 where
  -- the numbers of a block that are the sender's own: no one else's act and no landing changes them
  pub Own : Type 0
  -- of these, how many words of its list it has asked for
  pub asked : Own → ℕ
  pub code : List ℕ
  pub rows : List (SenderRow Own)
  -- the offset after the last line, where it has ended, and what holds there
  pub over : ℕ
  pub done : SenderBlock → Own → Type 0

abbrev pub sender_row : {Own : Type 0} → ℕ → (List ℕ → ℕ) → (SenderBlock → Own → SenderRegisters → Type 0) → SenderRow Own
sender_row at rank holds = record { at = at; rank = rank; holds = holds }

-- the state at an offset
abbrev pub stands : (o : Outline) → SenderBlock → ℕ → o.Own → SenderRegisters → HartState
stands o k here n r = if here == o.over then ended o.code (fixed k) (here - 4) r (drop (o.asked n) k.list)
    else running o.code (fixed k) here r (drop (o.asked n) k.list)

-- what holds at an offset
abbrev pub either : Bool → Type 0 → Type 0 → Type 0
either true a b = a
either false a b = b

abbrev pub HoldsIn : {Rank : Type 0} {Held : Type 1} → (Held → Type 0) → List (OutlineRow Rank Held) → ℕ → Type 0
HoldsIn f [] here = ⊥
HoldsIn f (row ∷ rows) here = either (row.at == here) (f row.holds) (HoldsIn f rows here)

abbrev pub rank_in : {Rank : Type 0} {Held : Type 1} → (Rank → ℕ) → List (OutlineRow Rank Held) → ℕ → ℕ
rank_in f [] here = 0
rank_in f (row ∷ rows) here = if row.at == here then f row.rank else rank_in f rows here

-- a reason for each row
abbrev pub Reasons : {Rank : Type 0} {Held : Type 1} → (OutlineRow Rank Held → Type 0) → List (OutlineRow Rank Held) → Type 0
Reasons P [] = Unit {0}
Reasons P (row ∷ rows) = P row × Reasons P rows

-- what holds of the sender at an offset, by its row or after the last line; `ReceiverIs` is the receiver's
abbrev pub SenderIs : (o : Outline) → ℕ → SenderBlock → o.Own → SenderRegisters → Type 0
SenderIs o here k n r = either (here == o.over) (o.done k n) (HoldsIn (λ (H : SenderBlock → o.Own → SenderRegisters → Type 0). H k n r) o.rows here)

-- the sender may be in this state
pub record Standing (o : Outline) (k : SenderBlock) (n : o.Own) (s : HartState) : Type 0 where
  pub place : ℕ
  pub written : SenderRegisters
  pub is : s ≡ stands o k place n written
  pub holds : SenderIs o place k n written

-- how far it is from its end: the words in its inbox, then its line
abbrev pub left_of : Outline → HartState → ℕ
left_of o s = 32 * length s.inbox + (if is_running s.status then rank_in (λ (f : List ℕ → ℕ). f s.registers) o.rows s.pc else 0)
