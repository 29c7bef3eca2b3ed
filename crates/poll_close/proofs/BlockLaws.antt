-- What a ring has to prove of one block. Nothing here speaks of a history or of another block: a sender is
-- its state, memory a function from addresses to words.
use Rattle.std.proofs.Common.{ℕ, suc, ◌+◌, ◌*◌, ◌<◌, ◌≤◌, ◌≡◌, ◌≢◌, ◌⊎◌, true, false, not, List, [], ◌∷◌, length, Option, Some, None, ap, arith}
use Rattle.std.specs.Prelude.{slice_index, unwrap_or, map}
use Rattle.std.specs.List.{slice_get}
use Rattle.rv_decode.specs.{meaning, lines_of}
use Rattle.hart.specs.{HartState, need_of, advanced, first_state}
use Rattle.hart.specs.declared.status.Status.TheVariants as status
use Rattle.hart.specs.declared.need.Need.{Need}
use Rattle.hart.specs.declared.need.Report.{Report}
use Rattle.hart.specs.declared.need.Report.TheVariants as report
use Rattle.poll_close.specs.{RingLines, receiver_with, taken, is_closed, runs, some_open, receiver_rank, SenderBlock, offset, AreNext, window}
use Rattle.poll_close.specs.{ReceiverRegisters, receiver_of, whole_of, receives, closings_due, BlockInvariant, ReceiverCounts, Count, unsent_of, unread_of}
use Rattle.poll_close.specs.{AllReported, ReceiverRow, ReceiverIs, opened_rows, ranking_of}
use Rattle.poll_close.specs.Invariant.Outlines.{Standing, Reasons}
use Rattle.poll_close.proofs.Acts.{stored_by, reports_of_need, IsNoAmo}
use Rattle.step_machine.proofs.Lines.{loads}
use Rattle.poll_close.proofs.Windows.{Each, newest_to, Each-range, window-empty, newest_none, newest_made, newest_at}
use Rattle.poll_close.proofs.Blocks.{IsWrite, IsBlock, Within, IsWordOf, IsStore}

-- what a hart with these pending stores reads, and so the receiver, in the block
abbrev pub found_in : List (ℕ × ℕ) → (ℕ → ℕ) → ℕ → ℕ
found_in ps word a = unwrap_or (newest_to a None ps) (word a)

abbrev pub seen_at : (m : BlockInvariant) → SenderBlock → Count m → (ℕ → ℕ) → ℕ → ℕ
seen_at m k n word a = found_in (unread_of m k n) word a

-- a sender acted in state s, and read v
pub record Sends (m : BlockInvariant) (k : SenderBlock) (n : Count m) (s : HartState) (v : ℕ) : Type 0 where
  pub after : m.sender.Own
  pub plain : IsNoAmo (IsWordOf k) (need_of s)
  pub stands : Standing m.sender k after (advanced s v)
  pub order : m.CounterInvariant k (record n { sender = after })
  pub stores : AreNext (m.sender_stores k) (m.sent n.sender) (m.sent after) (stored_by (need_of s))

-- the receiver stored these to the block, or reported
pub record Changes (m : BlockInvariant) (k : SenderBlock) (n : Count m) (after : ReceiverCounts m.Own) (stored : List (ℕ × ℕ)) : Type 0 where
  pub order : m.CounterInvariant k (record n { receiver = after })
  pub stores : AreNext (m.receiver_stores k) (m.taken n.receiver) (m.taken after) stored

-- a store landed: memory is new, and these are the numbers of the sender's and of the receiver's that have landed
pub record Lands (m : BlockInvariant) (k : SenderBlock) (n : Count m) (new : ℕ → ℕ) (gone freed : ℕ) : Type 0 where
  pub after : m.Landed
  pub order : m.CounterInvariant k (record n { landed = after })
  pub words : m.Words k after new
  pub mine : m.gone after ≡ gone
  pub theirs : m.freed after ≡ freed

-- what is reported, by the numbers before and after
abbrev pub Says : (m : BlockInvariant) → SenderBlock → ℕ → ReceiverCounts m.Own → ReceiverCounts m.Own → List Report → Type 0
Says m k i n after rs =
    ((rs ≡ []) × (after.took ≡ n.took) × (after.closings ≡ n.closings))
    ⊎ (((rs ≡ report.Took i (slice_index k.list n.took) ∷ []) × (after.took ≡ n.took + 1)
    × (after.closings ≡ n.closings) × (n.took < length k.list) × (n.closings ≡ 0))
    ⊎ ((rs ≡ report.Closed i ∷ []) × (after.took ≡ n.took) × (after.closings ≡ 1) × (n.took ≡ length k.list) × (n.closings ≡ 0)))

-- the receiver comes to a block: its own assertion there is that all is quiet
pub record Comes (m : BlockInvariant) (k : SenderBlock) (count : ℕ) (there : ℕ) (n : ReceiverCounts m.Own) (r : ReceiverRegisters) : Type 0 where
  pub block : ℕ
  pub known : block < count
  pub quiet : AllReported m n
  pub here : there ≡ 0x08
  pub index : r.x22 ≡ block
  pub base : r.x8 ≡ k.first + block * k.stride

-- what is known of the block that it visits where every sender waits or has ended, by the reports and states
pub record Idle (m : BlockInvariant) (k : SenderBlock) (i count here : ℕ) (n : Count m) (r : ReceiverRegisters)
    (rs : List Report) (states : ℕ → Option HartState) : Type 0 where
  pub took : r.x22 ≡ i → n.receiver.took ≡ n.receiver.tails → length (taken rs r.x22) ≡ n.receiver.took
  pub closings : r.x22 ≡ i → n.receiver.closings ≢ 0 → is_closed rs r.x22 ≡ true
  pub marked : r.x22 ≡ i → not (runs (states (r.x22 + 1))) ≡ true → m.marks n.landed ≡ 1
  pub ready : r.x22 ≡ i → not (runs (states (r.x22 + 1))) ≡ false → m.Ready k n
  -- some sender is owed
  pub open_yet : some_open rs 0 count ≡ true
  pub owing : closings_due here < r.x20

abbrev pub Nearer : (m : BlockInvariant) → SenderBlock → ℕ → ℕ → ℕ → ℕ → Count m → ReceiverRegisters → ReceiverRegisters → Type 0
Nearer m k i count here there n r noted =
    (rs : List Report) (states : ℕ → Option HartState) → Idle m k i count here n r rs states
    → receiver_rank (ranking_of m) count k.size rs states (receives m.ring_lines (whole_of k count) there noted)
    < receiver_rank (ranking_of m) count k.size rs states (receives m.ring_lines (whole_of k count) here r)

-- one act of the receiver, which visits or visited this block, and read v
pub record Receives (m : BlockInvariant) (k : SenderBlock) (i count : ℕ) (here : ℕ) (n : Count m) (r : ReceiverRegisters) (v : ℕ) : Type 0 where
  pub wanted : Need
  pub there : ℕ
  pub noted : ReceiverRegisters
  pub after : ReceiverCounts m.Own
  pub plain : IsNoAmo (IsWordOf k) wanted
  pub needs : need_of (receives m.ring_lines (whole_of k count) here r) ≡ wanted
  pub leaves : advanced (receives m.ring_lines (whole_of k count) here r) v ≡ receives m.ring_lines (whole_of k count) there noted
  pub changes : Changes m k n after (stored_by wanted)
  pub holds : ReceiverIs m k i there after noted ⊎ Comes m k count there after noted
  pub says : Says m k i n.receiver after (reports_of_need wanted)
  -- what it does to the receiver's count
  pub counts : noted.x20 + after.closings + closings_due here ≡ r.x20 + n.receiver.closings + closings_due there
  -- where every sender waits or has ended, it comes nearer to its next report
  pub nearer : reports_of_need wanted ≡ [] → Nearer m k i count here there n r noted

-- what a load at this place reads in the block
abbrev pub Finds : (m : BlockInvariant) → SenderBlock → ℕ → ℕ → Count m → (ℕ → ℕ) → ReceiverRegisters → ℕ → Type 0
Finds m k count here n word r v = (a : ℕ) → IsWordOf k a → need_of (receives m.ring_lines (whole_of k count) here r) ≡ loads a → v ≡ seen_at m k n word a

-- it runs, and v is what a load reads; nor is its count wrong
pub record Runs (m : BlockInvariant) (k : SenderBlock) (count here : ℕ) (n : Count m) (word : ℕ → ℕ) (r : ReceiverRegisters) (v : ℕ) : Type 0 where
  pub runs : (receives m.ring_lines (whole_of k count) here r).status ≡ status.Running
  pub find : Finds m k count here n word r v
  pub owed : closings_due here ≤ r.x20
  pub small : r.x20 ≤ 64

-- the reason why a row is right: from what holds there the receiver goes on as the rows say
abbrev pub Right : (m : BlockInvariant) → SenderBlock → ℕ → ℕ → Count m → (ℕ → ℕ) → ReceiverRegisters → ℕ → ReceiverRow m → Type 0
Right m k i count n word r v row = row.holds k i n.receiver r → Runs m k count row.at n word r v → Receives m k i count row.at n r v

abbrev pub Right_at : (m : BlockInvariant) → SenderBlock → ℕ → ℕ → Count m → (ℕ → ℕ) → ReceiverRegisters → ℕ → ℕ → Type 0
Right_at m k i count n word r v here = ReceiverIs m k i here n.receiver r → Runs m k count here n word r v → Receives m k i count here n r v

-- the receiver stored a tail or a done word, or reported, and has no step half done
pub record Stepped (m : BlockInvariant) (k : SenderBlock) (n : Count m) (after : ReceiverCounts m.Own) (stored : List (ℕ × ℕ)) : Type 0 where
  pub changes : Changes m k n after stored
  pub level : m.Level after

-- the state in which the sender of a block opens
abbrev pub opens_with : List ℕ → SenderBlock → HartState
opens_with code k = first_state code
    (0 ∷ 0 ∷ 0 ∷ 0 ∷ 0 ∷ 0 ∷ 0 ∷ 0 ∷ k.base ∷ 4 * k.size ∷ 0 ∷ 0 ∷ 0 ∷ 0 ∷ 0 ∷ 0 ∷ 0 ∷ 0 ∷ 0 ∷ 0 ∷ 0 ∷ 0 ∷ 0 ∷ 0 ∷ 0 ∷ 0
    ∷ 0 ∷ 0 ∷ 0 ∷ 0 ∷ 0 ∷ 0 ∷ []) k.list k.words

-- the numbers with which a block opens
pub record Begins (m : BlockInvariant) (none : Count m) (k : SenderBlock) (first : HartState) : Type 0 where
  pub order : m.CounterInvariant k none
  pub words : m.Words k none.landed (λ a. 0)
  pub stands : Standing m.sender k none.sender first
  pub unsent : unsent_of m k none ≡ []
  pub unread : unread_of m k none ≡ []
  pub quiet : AllReported m none.receiver
  pub took : none.receiver.took ≡ 0
  pub closings : none.receiver.closings ≡ 0

-- the decoder finds the listing's lines in the words of the receiver
abbrev pub Decodes : RingLines → Type 0
Decodes m = map meaning (receiver_of m) ≡ map Some (lines_of (receiver_with m))

pub record BlockLaws (m : BlockInvariant) : Type 0 where
  pub decodes : Decodes m.ring_lines
  -- the opening
  pub none : Count m
  pub begins : (k : SenderBlock) → IsBlock k → Begins m none k (opens_with m.sender.code k)
  -- bounds of the numbers
  pub tails_all : (k : SenderBlock) (n : Count m) → m.CounterInvariant k n → n.receiver.tails ≤ length k.list
  pub shut_done : (k : SenderBlock) (n : Count m) → m.CounterInvariant k n → n.receiver.closings ≤ n.receiver.done
  pub dones_one : (k : SenderBlock) (n : Count m) → m.CounterInvariant k n → n.receiver.done ≤ 1
  pub marks_one : (k : SenderBlock) (n : Count m) → m.CounterInvariant k n → m.marks n.landed ≤ 1
  pub filled_more : (k : SenderBlock) (n : Count m) → m.CounterInvariant k n → m.Filled n.receiver → n.receiver.tails < length k.list
  pub gone_sent : (k : SenderBlock) (n : Count m) → m.CounterInvariant k n → m.gone n.landed ≤ m.sent n.sender
  pub freed_taken : (k : SenderBlock) (n : Count m) → m.CounterInvariant k n → m.freed n.landed ≤ m.taken n.receiver
  -- each store is one of a whole word to the block
  pub sender_stores_are : (k : SenderBlock) → IsBlock k → Each (IsStore k) (m.sender_stores k)
  pub receiver_stores_are : (k : SenderBlock) → IsBlock k → Each (IsStore k) (m.receiver_stores k)
  -- the words speak of this block's addresses alone
  pub words_same : (k : SenderBlock) (n : m.Landed) (word new : ℕ → ℕ) → IsBlock k
      → ((a : ℕ) → Within k a → new a ≡ word a) → m.Words k n word → m.Words k n new
  -- the sender acts
  pub sends : (k : SenderBlock) (n : Count m) (s : HartState) (word : ℕ → ℕ) (v : ℕ) → IsBlock k → m.CounterInvariant k n
      → m.Words k n.landed word → Standing m.sender k n.sender s → s.status ≡ status.Running
      → ((a : ℕ) → IsWordOf k a → need_of s ≡ loads a → v ≡ found_in (unsent_of m k n) word a) → Sends m k n s v
  -- the oldest pending store lands
  pub sender_lands : (k : SenderBlock) (n : Count m) (word new : ℕ → ℕ) (x : ℕ × ℕ) → IsBlock k → m.CounterInvariant k n
      → m.Words k n.landed word → m.gone n.landed < m.sent n.sender
      → slice_get (m.sender_stores k) (m.gone n.landed) ≡ Some x → IsWrite word new x
      → Lands m k n new (suc (m.gone n.landed)) (m.freed n.landed)
  pub receiver_lands : (k : SenderBlock) (n : Count m) (word new : ℕ → ℕ) (x : ℕ × ℕ) → IsBlock k → m.CounterInvariant k n
      → m.Words k n.landed word → m.freed n.landed < m.taken n.receiver
      → slice_get (m.receiver_stores k) (m.freed n.landed) ≡ Some x → IsWrite word new x
      → Lands m k n new (m.gone n.landed) (suc (m.freed n.landed))
  -- the receiver's front and end
  pub sees_done : (k : SenderBlock) (n : Count m) (word : ℕ → ℕ) → m.CounterInvariant k n → m.Words k n.landed word
      → seen_at m k n word (k.base + 12) ≡ n.receiver.done
  pub sees_mark : (k : SenderBlock) (n : Count m) (word : ℕ → ℕ) → m.CounterInvariant k n → m.Words k n.landed word
      → seen_at m k n word (k.base + 4) ≡ m.marks n.landed
  pub stores_tail : (k : SenderBlock) (n : Count m) → m.CounterInvariant k n → m.Filled n.receiver → n.receiver.done ≡ 0
      → Stepped m k n (record n.receiver { tails = n.receiver.tails + 1; mark = m.marks n.landed })
      ((k.base + 8, offset k (n.receiver.tails + 1)) ∷ [])
  pub stores_done : (k : SenderBlock) (n : Count m) → m.CounterInvariant k n → m.Level n.receiver
      → n.receiver.tails ≡ length k.list → n.receiver.done ≡ 0
      → Stepped m k n (record n.receiver { done = 1; mark = m.marks n.landed }) ((k.base + 12, 1) ∷ [])
  pub reports : (k : SenderBlock) (n : Count m) (took closings : ℕ) → m.CounterInvariant k n → m.Level n.receiver
      → closings ≤ n.receiver.done
      → Stepped m k n (record n.receiver { took = took; closings = closings; mark = m.marks n.landed }) []
  -- the receiver's lines between: the first, and the ring's rows
  pub moves_14 : (k : SenderBlock) (i count : ℕ) (n : Count m) (word : ℕ → ℕ) (r : ReceiverRegisters) (v : ℕ) → IsBlock k
      → m.CounterInvariant k n → m.Words k n.landed word → Right_at m k i count n word r v 0x14
  pub moves : (k : SenderBlock) (i count : ℕ) (n : Count m) (word : ℕ → ℕ) (r : ReceiverRegisters) (v : ℕ) → IsBlock k
      → m.CounterInvariant k n → m.Words k n.landed word → Reasons (Right m k i count n word r v) (opened_rows m m.rows)

-- ---- what a hart finds at an address where the stores of a window are pending: the newest of them there, else the word of memory

module _ (xs : List (ℕ × ℕ)) (i j : ℕ) (word : ℕ → ℕ) (a : ℕ) where
  -- where none of them goes to the address, the word of memory
  pub in_memory : ((t : ℕ) (x : ℕ × ℕ) → i ≤ t → t < j → slice_get xs t ≡ Some x → x.0 ≢ a) → found_in (window xs i j) word a ≡ word a
  in_memory none = ap (λ o. unwrap_or o (word a)) (newest_none a None (window xs i j) (Each-range (λ x. x.0 ≢ a) xs i j none))

  pub none_pending : j ≤ i → found_in (window xs i j) word a ≡ word a
  none_pending all = ap (λ ps. found_in ps word a) (window-empty xs i j all)

  -- where store s goes there, and none after it
  pub newest_found : (v s : ℕ) → i ≤ s → s < j → slice_get xs s ≡ Some (a, v)
      → ((t : ℕ) (x : ℕ × ℕ) → s < t → t < j → slice_get xs t ≡ Some x → x.0 ≢ a) → found_in (window xs i j) word a ≡ v
  newest_found v s pending made store none = ap (λ o. unwrap_or o (word a)) (newest_at xs i s j a v pending made store none)

  -- where the last one goes there
  pub last_found : (v s : ℕ) → j ≡ suc s → i ≤ s → slice_get xs s ≡ Some (a, v) → found_in (window xs i j) word a ≡ v
  last_found v s last pending store = grind (arith, found_in, newest_made)
