-- The reasons of the receiver's rows, whatever the ring: from what holds at each line to what holds where it goes
-- on, and nearer to its next report.
use Rattle.std.proofs.Common.{ℕ, ◌+◌, ◌*◌, ◌≡◌, ◌⊎◌, inl, [], ◌∷◌, Some, refl, ◌∙◌, ap, ◌-◌, ◌<◌, ◌≤◌, ◌≢◌, ◌==◌, inr, true, false, not, ◌&&◌, length, sym}
use Rattle.std.proofs.Common.{subst, add-zero, arith, lit<}
use Rattle.std.specs.Prelude.{map, slice_index}
use Rattle.std.specs.List.{slice_get}
use Rattle.rv_decode.specs.declared.instruction.Instr.{Instr}
use Rattle.hart.specs.State.{HartState}
use Rattle.hart.specs.declared.need.Need.{Need}
use Rattle.hart.specs.declared.need.Need.TheVariants as need
use Rattle.hart.proofs.Instructions.{IsAt, took_need, took_after, closed_need, closed_after, exit_need, exit_after}
use Rattle.rv_decode.specs.Listings.{lines_of}
use Rattle.poll_close.specs.{RingLines, receiver_with, SenderBlock, offset, ReceiverRegisters, ReceiverConstants, whole_of, receiving, receives, closings_due}
use Rattle.poll_close.specs.{BlockInvariant, ReceiverCounts, Count, ReceiverIs, Flag, rows_of, rest_from, runs, is_closed}
use Rattle.poll_close.proofs.Acts.{stored_by, reports_of_need, IsNoAmo}
use Rattle.step_machine.proofs.Lines.{Line, loads, at_line, stores, word-plus, word-minus, add_line, sum_line, load_line, store_line, jump_line, same_jumps}
use Rattle.step_machine.proofs.Lines.{other_goes_on, other_jumps, same_goes_on}
use Rattle.poll_close.proofs.BlockLaws.{Changes, Comes, Says, Nearer, Receives, Decodes, BlockLaws, Runs, Right_at}
use Rattle.std.proofs.lemmas.Bool.{cases_eq, cases_lt}
use Rattle.std.proofs.lemmas.Bool.Decides.{nat_tests}
use Rattle.std.proofs.lemmas.Nat.{row_fits}
use Rattle.hart.specs.declared.status.Status.TheVariants as status
use Rattle.hart.specs.declared.need.Report.TheVariants as report
use Rattle.step_machine.proofs.Modulo.{offset_step, offset_wrap}
use Rattle.poll_close.proofs.Blocks.{IsBlock, IsWordOf, offset_low, word_of, word_from}
use Rattle.poll_close.proofs.Outlines.{◌&◌, found}
use Rattle.poll_close.proofs.Distance.{flags, not_stale, far_off, arrives, wraps}

-- where a line is that instruction, whatever the ring's own lines
pub at_of : (m : RingLines) → Decodes m → (c : ReceiverConstants) (r : ReceiverRegisters) (j : ℕ) {instr : Instr}
    → slice_get (map Some (lines_of (receiver_with m))) j ≡ Some (Some instr) → IsAt (receiving m c (4 * j) r) instr
at_of m decodes c r j is = at_line (receiving m c (4 * j) r) j refl (ap (λ xs. slice_get xs j) decodes ∙ is)

module _ (m : BlockInvariant) (k : SenderBlock) (i count : ℕ) (n : Count m) (order : m.CounterInvariant k n) (r : ReceiverRegisters) (v : ℕ) where
  abbrev pub now : ℕ → ReceiverRegisters → HartState
  now here noted = receives m.ring_lines (whole_of k count) here noted

  abbrev pub Counts : ℕ → ℕ → ReceiverRegisters → ReceiverCounts m.Own → Type 0
  Counts here there noted after = noted.x20 + after.closings + closings_due here ≡ r.x20 + n.receiver.closings + closings_due there

  pub unchanged : Changes m k n n.receiver []
  unchanged = record { order = order; stores = refl }

  -- an act by a line
  pub acts : (here there : ℕ) (wanted : Need) (noted : ℕ → ReceiverRegisters) (after : ReceiverCounts m.Own)
      → IsNoAmo (IsWordOf k) wanted → Line (now here r) wanted (λ w. now there (noted w))
      → Changes m k n after (stored_by wanted)
      → ReceiverIs m k i there after (noted v) ⊎ Comes m k count there after (noted v)
      → Says m k i n.receiver after (reports_of_need wanted) → Counts here there (noted v) after
      → (reports_of_need wanted ≡ [] → Nearer m k i count here there n r (noted v)) → Receives m k i count here n r v
  acts here there wanted noted after plain line changes holds says counts nearer = record {
    wanted = wanted;
    there = there;
    noted = noted v;
    after = after;
    plain = plain;
    needs = line.needs;
    leaves = line.leaves v;
    changes = changes;
    holds = holds;
    says = says;
    counts = counts;
    nearer = nearer;
  }

  -- one inside itself
  pub still : (here there : ℕ) (noted : ReceiverRegisters) → Counts here there noted n.receiver
      → Line (now here r) need.Inner (λ w. now there noted) → ReceiverIs m k i there n.receiver noted
      → Nearer m k i count here there n r noted → Receives m k i count here n r v
  still here there noted counts line holds nearer = acts here there need.Inner (λ w. noted) n.receiver tt line
      unchanged (inl holds) (inl (refl, refl, refl)) counts (λ none. nearer)

  -- a load
  pub reads : (here there a : ℕ) (noted : ℕ → ReceiverRegisters) → Counts here there (noted v) n.receiver
      → IsWordOf k a → Line (now here r) (loads a) (λ w. now there (noted w))
      → ReceiverIs m k i there n.receiver (noted v) → Nearer m k i count here there n r (noted v)
      → Receives m k i count here n r v
  reads here there a noted counts word line holds nearer = acts here there (loads a) noted n.receiver (tt, word)
      line unchanged (inl holds) (inl (refl, refl, refl)) counts (λ none. nearer)

  module _ (laws : BlockLaws m) (is : IsBlock k) (base : k.base ≡ k.first + i * k.stride) (known : i < count)
      (few : count ≤ 63) (word_at : ℕ → ℕ) (words : m.Words k n.landed word_at) where
    abbrev Right_here : ℕ → Type 0
    Right_here here = Right_at m k i count n word_at r v here

    abbrev o : ReceiverCounts m.Own
    o = n.receiver

    at : (j : ℕ) {instr : Instr} → slice_get (map Some (lines_of (receiver_with m.ring_lines))) j ≡ Some (Some instr)
        → IsAt (receiving m.ring_lines (whole_of k count) (4 * j) r) instr
    at j is = at_of m.ring_lines laws.decodes (whole_of k count) r j is

    keeps_at_00 : Right_here 0x00  -- round: addi x8,x21,0
    keeps_at_00 h z = still 0x00 0x04 (record r { x8 = k.first }) refl
        (add_line (at 0 refl) (word-plus k.first 0 (omega (arith, is.first, is.next)) ∙ add-zero k.first)) (h, refl)
        (λ rs states idle. omega arith)

    keeps_at_04 : Right_here 0x04  -- addi x22,x0,0
    keeps_at_04 h z =
        acts 0x04 0x08 need.Inner (λ w. record r { x22 = 0 }) o tt (add_line (at 1 refl) (word-plus 0 0 (lit< tt))) unchanged
        (inr (record { block = 0; known = omega arith; quiet = h.0; here = refl; index = refl; base = omega (arith, h.1) }))
        (inl (refl, refl, refl)) refl
        (λ none rs states idle. arrives rs count 0 (omega arith))

    keeps_at_08 : Right_here 0x08  -- visit: lw x5,12(x8)
    keeps_at_08 h z =
        let line = load_line (at 2 refl) (omega (arith, is.even, h.1.base)) refl (omega (arith, is.inside, is.some_slot, h.1.base)) is.small in
        let found = z.find (k.base + 12) (word_of k is 12 (omega arith) refl) (line.needs ∙ ap (λ b. loads (b + 12)) h.1.base) in
        reads 0x08 0x0C (r.x8 + 12) (λ w. record r { x5 = w }) refl (word_from k is r.x8 12 h.1.base (omega arith) refl) line
        (h.0, h.1, found ∙ laws.sees_done k n word_at order words)
        (λ rs states idle. flags 16 17 21 22 (is_closed rs r.x22) (is_closed rs r.x22) (omega arith) (far_off rs count (r.x22 + 1)) (λ on. on))

    keeps_at_0C : Right_here 0x0C  -- bne x5,x0,step
    keeps_at_0C h z =
        elim (cases_eq r.x5 0) [
          | inl none ↦ still 0x0C 0x10 r refl (same_goes_on (at 3 refl) none) (record { visits = h.1; quiet = h.0; open_yet = sym h.2 ∙ none })
              (λ rs states idle. flags 0 16 20 21 false (is_closed rs r.x22) (omega arith) (far_off rs count (r.x22 + 1)) (λ on. cc))
          | inr some ↦ still 0x0C 0x68 r refl (other_jumps (at 3 refl) some refl) (h.0, h.1)
              (λ rs states idle.
              flags 10 16 20 21 true (is_closed rs r.x22) (omega arith) (far_off rs count (r.x22 + 1))
              (λ on. idle.closings h.1.index (λ zero_is. some (h.2 ∙ sym h.0.closed ∙ zero_is))))
        ]

    -- it notes the mark that it reads
    keeps_at_10 : Right_here 0x10  -- lw x30,4(x8)
    keeps_at_10 h z =
        let line = load_line (at 4 refl) (omega (arith, is.even, h.visits.base)) refl (omega (arith, is.inside, is.some_slot, h.visits.base)) is.small in
        let read : v ≡ m.marks n.landed = z.find (k.base + 4) (word_of k is 4 (omega arith) refl)
        (line.needs ∙ ap (λ b. loads (b + 4)) h.visits.base) ∙ laws.sees_mark k n word_at order words in
        let made = laws.reports k n o.took o.closings order h.quiet.level (laws.shut_done k n order) in
        acts 0x10 0x14 (loads (r.x8 + 4)) (λ w. record r { x30 = w }) (record o { mark = m.marks n.landed })
        (tt, word_from k is r.x8 4 h.visits.base (omega arith) refl) line made.changes
        (inl (
          record {
            visits = h.visits;
            quiet = record { words = h.quiet.words; closed = h.quiet.closed; level = made.level };
            open_yet = h.open_yet;
          },
          flag read (cases_eq (m.marks n.landed) 0),
        ))
        (inl (refl, refl, refl)) refl
        (λ none rs states idle. (let fresh = not_stale v (not (runs (states (r.x22 + 1)))) (λ ended. read ∙ idle.marked h.visits.index ended) in
        flags 16 17 19 20 ((v == 0) && not (runs (states (r.x22 + 1)))) false (omega arith) (far_off rs count (r.x22 + 1)) (λ on. sym fresh ∙ on)))
      where
        flag : v ≡ m.marks n.landed → (m.marks n.landed ≡ 0) ⊎ (m.marks n.landed ≢ 0) → Flag (record o { mark = m.marks n.landed }) v
        flag read (inl none) = inl (read ∙ none)
        flag read (inr some) = let one : m.marks n.landed ≡ 1 = omega (arith, laws.marks_one k n order) in inr (read ∙ one, one)

    keeps_at_28 : Right_here 0x28  -- addi x7,x7,4
    keeps_at_28 h z =
        still 0x28 0x2C (record r { x7 = r.x7 + 4 }) refl (add_line (at 10 refl)
        (word-plus r.x7 4 (omega (arith, is.inside, is.small, h.1, offset_low k is o.tails))))
        (h.0, (let same : r.x7 + 4 ≡ offset k o.tails + 4 = omega (arith, h.1) in same))
        (λ rs states idle. omega arith)

    keeps_at_2C : Right_here 0x2C  -- bne x7,x9,keep
    keeps_at_2C h z =
        elim (cases_eq r.x7 (4 * k.size)) [
          | inl same ↦ still 0x2C 0x30 r refl (same_goes_on (at 11 refl) same) (h.0, sym h.1 ∙ same) (λ rs states idle. omega arith)
          | inr other ↦ still 0x2C 0x34 r refl (other_jumps (at 11 refl) other refl)
              (h.0, h.1 ∙ offset_step k.size o.tails (omega (arith, is.some_slot)) (λ full. other (h.1 ∙ full)))
              (λ rs states idle. omega arith)
        ]

    keeps_at_30 : Right_here 0x30  -- addi x7,x0,0
    keeps_at_30 h z = still 0x30 0x34 (record r { x7 = 0 }) refl (add_line (at 12 refl) (word-plus 0 0 (lit< tt)))
        (h.0, sym (offset_wrap k.size o.tails (omega (arith, is.some_slot)) h.1)) (λ rs states idle. omega arith)

    keeps_at_34 : Right_here 0x34  -- keep: sw x7,8(x8)
    keeps_at_34 h z =
        let line = store_line (at 13 refl) (omega (arith, is.even, h.0.visits.base)) refl (omega (arith, is.inside, is.some_slot, h.0.visits.base)) is.small in
        let made = laws.stores_tail k n order h.0.filled h.0.open_yet in
        let after : ReceiverCounts m.Own = record o { tails = o.tails + 1; mark = m.marks n.landed } in
        acts 0x34 0x38 (stores (r.x8 + 8) r.x7) (λ w. r) after (tt, word_from k is r.x8 8 h.0.visits.base (omega arith) refl) line
        (subst (λ (x : ℕ × ℕ). Changes m k n after (x ∷ []))
        (ap (λ b. (b + 8, offset k (o.tails + 1))) (sym h.0.visits.base) ∙ ap (λ j. (r.x8 + 8, j)) (sym h.1))
        made.changes)
        (inl (record {
          visits = h.0.visits;
          level = made.level;
          ahead = ap (λ j. j + 1) (sym h.0.ahead);
          closed = h.0.closed;
          open_yet = h.0.open_yet;
          word = h.0.word ∙ ap (slice_index k.list) (sym h.0.ahead);
        }))
        (inl (refl, refl, refl)) refl (λ none rs states idle. omega arith)

    keeps_at_38 : Right_here 0x38  -- addi x10,x22,0
    keeps_at_38 h z = still 0x38 0x3C (record r { x10 = r.x22 }) refl
        (add_line (at 14 refl) (word-plus r.x22 0 (omega (arith, h.visits.index, known, few)) ∙ add-zero r.x22))
        (h, h.visits.index) (λ rs states idle. omega arith)

    keeps_at_3C : Right_here 0x3C  -- addi x17,x0,2
    keeps_at_3C h z = still 0x3C 0x40 (record r { x17 = 2 }) refl (add_line (at 15 refl) (word-plus 0 2 (lit< tt)))
        (h.0, h.1, refl) (λ rs states idle. omega arith)

    keeps_at_40 : Right_here 0x40  -- ecall
    keeps_at_40 h z =
        let made = laws.reports k n (o.took + 1) o.closings order h.0.level (laws.shut_done k n order) in
        acts 0x40 0x44 (need.Report (report.Took r.x10 r.x11)) (λ w. r) (record o { took = o.took + 1; mark = m.marks n.landed }) tt
        (record { needs = took_need (at 16 refl) h.2; leaves = λ w. took_after (at 16 refl) h.2 w }) made.changes
        (inl (record { words = sym h.0.ahead; closed = h.0.closed; level = made.level }, h.0.visits))
        (inr (inl (rw (h.1, h.0.word) refl, refl, refl, omega (arith, h.0.ahead, laws.tails_all k n order), h.0.closed ∙ h.0.open_yet)))
        refl (λ none rs states idle. cc)

    keeps_at_44 : Right_here 0x44  -- jal x0,step
    keeps_at_44 h z = still 0x44 0x68 r refl (jump_line (at 17 refl) refl) h (λ rs states idle. omega arith)

    keeps_at_48 : Right_here 0x48  -- empty: beq x30,x0,step
    keeps_at_48 h z =
        elim (cases_eq r.x30 0) [
          | inl none ↦ still 0x48 0x68 r refl (same_jumps (at 18 refl) none refl) (h.0.quiet, h.0.visits)
              (λ rs states idle. flags 10 11 13 14 true (r.x30 == 0) (omega arith) (far_off rs count (r.x22 + 1)) (λ on. grind (arith, nat_tests)))
          | inr some ↦ still 0x48 0x4C r refl (other_goes_on (at 18 refl) some) (h.0, all some h.1)
              (λ rs states idle. flags 0 11 13 14 false (r.x30 == 0) (omega arith) (far_off rs count (r.x22 + 1)) (λ on. cc))
        ]
      where
        all : r.x30 ≢ 0 → (r.x30 ≡ 0) ⊎ (o.tails ≡ length k.list) → o.tails ≡ length k.list
        all some (inl none) = absurd (some none)
        all some (inr whole) = whole

    keeps_at_4C : Right_here 0x4C  -- addi x5,x0,1
    keeps_at_4C h z = still 0x4C 0x50 (record r { x5 = 1 }) refl (add_line (at 19 refl) (word-plus 0 1 (lit< tt)))
        (h.0, h.1, refl) (λ rs states idle. omega arith)

    keeps_at_50 : Right_here 0x50  -- sw x5,12(x8)
    keeps_at_50 h z =
        let line = store_line (at 20 refl) (omega (arith, is.even, h.0.visits.base)) refl (omega (arith, is.inside, is.some_slot, h.0.visits.base)) is.small in
        let made = laws.stores_done k n order h.0.quiet.level h.1 h.0.open_yet in
        let after : ReceiverCounts m.Own = record o { done = 1; mark = m.marks n.landed } in
        acts 0x50 0x54 (stores (r.x8 + 12) r.x5) (λ w. r) after (tt, word_from k is r.x8 12 h.0.visits.base (omega arith) refl) line
        (subst (λ (x : ℕ × ℕ). Changes m k n after (x ∷ []))
        (ap (λ b. (b + 12, 1)) (sym h.0.visits.base) ∙ ap (λ j. (r.x8 + 12, j)) (sym h.2)) made.changes)
        (inl (record {
          visits = h.0.visits;
          level = made.level;
          words = h.0.quiet.words;
          all = h.1;
          done = refl;
          unclosed = h.0.quiet.closed ∙ h.0.open_yet;
        }))
        (inl (refl, refl, refl)) refl (λ none rs states idle. omega arith)

    keeps_at_54 : Right_here 0x54  -- addi x10,x22,0
    keeps_at_54 h z = still 0x54 0x58 (record r { x10 = r.x22 }) refl
        (add_line (at 21 refl) (word-plus r.x22 0 (omega (arith, h.visits.index, known, few)) ∙ add-zero r.x22))
        (h, h.visits.index) (λ rs states idle. omega arith)

    keeps_at_58 : Right_here 0x58  -- addi x17,x0,3
    keeps_at_58 h z = still 0x58 0x5C (record r { x17 = 3 }) refl (add_line (at 22 refl) (word-plus 0 3 (lit< tt)))
        (h.0, h.1, refl) (λ rs states idle. omega arith)

    keeps_at_5C : Right_here 0x5C  -- ecall
    keeps_at_5C h z =
        let made = laws.reports k n o.took 1 order h.0.level (omega (arith, h.0.done)) in
        acts 0x5C 0x60 (need.Report (report.Closed r.x10)) (λ w. r) (record o { closings = 1; mark = m.marks n.landed }) tt
        (record { needs = closed_need (at 23 refl) h.2; leaves = λ w. closed_after (at 23 refl) h.2 w }) made.changes
        (inl (record { words = h.0.words; closed = sym h.0.done; level = made.level }, h.0.visits))
        (inr (inr (rw h.1 refl, refl, refl, h.0.words ∙ h.0.all, h.0.unclosed)))
        (omega (arith, h.0.unclosed)) (λ none rs states idle. cc)

    keeps_at_60 : Right_here 0x60  -- addi x20,x20,-1
    keeps_at_60 h z =
        let one : r.x20 ≡ r.x20 - 1 + 1 = omega (arith, z.owed) in
        still 0x60 0x64 (record r { x20 = r.x20 - 1 }) (omega (arith, one))
        (add_line (at 24 refl) (word-minus r.x20 (r.x20 - 1) one (omega (arith, one, z.small)))) (h.0, h.1)
        (λ rs states idle. omega arith)

    keeps_at_64 : Right_here 0x64  -- beq x20,x0,quit
    keeps_at_64 h z =
        elim (cases_eq r.x20 0) [
          | inl none ↦ still 0x64 0x78 r refl (same_jumps (at 25 refl) none refl) (h.0, none) (λ rs states idle. omega arith)
          | inr some ↦ still 0x64 0x68 r refl (other_goes_on (at 25 refl) some) h (λ rs states idle. omega arith)
        ]

    keeps_at_68 : Right_here 0x68  -- step: add x8,x8,x18
    keeps_at_68 h z =
        still 0x68 0x6C (record r { x8 = r.x8 + k.stride }) refl (sum_line (at 26 refl) (omega (arith, h.1.base, is.next)))
        (h.0, h.1.index, (let same : r.x8 + k.stride ≡ k.base + k.stride = omega (arith, h.1.base) in same))
        (λ rs states idle. omega arith)

    keeps_at_6C : Right_here 0x6C  -- addi x22,x22,1
    keeps_at_6C h z =
        still 0x6C 0x70 (record r { x22 = r.x22 + 1 }) refl (add_line (at 27 refl) (word-plus r.x22 1 (omega (arith, h.1, known, few))))
        (h.0, (let same : r.x22 + 1 ≡ i + 1 = omega (arith, h.1) in same), h.2)
        (λ rs states idle. (let rest : rest_from rs count (r.x22 + 1 - 1 + 1) ≡ rest_from rs count (r.x22 + 1) =
        ap (λ j. rest_from rs count (j + 1)) {x = r.x22 + 1 - 1} (omega arith) in
        omega (arith, rest)))

    keeps_at_70 : Right_here 0x70  -- bne x8,x19,visit
    keeps_at_70 h z =
        elim (cases_eq r.x8 (k.first + count * k.stride)) [
          | inl same ↦ still 0x70 0x74 r refl (same_goes_on (at 28 refl) same) h.0
              (λ rs states idle. (let over : rest_from rs count (r.x22 - 1 + 1) ≡ rest_from rs count count =
              ap (rest_from rs count) {x = r.x22 - 1 + 1} (omega (arith, at_end same, h.1)) in
              omega (arith, over, wraps rs count idle.open_yet)))
          | inr other ↦ acts 0x70 0x08 need.Inner (λ w. r) o tt (other_jumps (at 28 refl) other refl) unchanged
              (inr (record { block = i + 1; known = more other (cases_eq (i + 1) count); quiet = h.0; here = refl; index = h.1; base = h.2 ∙ next }))
              (inl (refl, refl, refl)) refl
              (λ none rs states idle. (let rest : rest_from rs count (r.x22 - 1 + 1) ≡ rest_from rs count r.x22 =
              ap (rest_from rs count) {x = r.x22 - 1 + 1} (omega (arith, h.1)) in
              omega (arith, rest, arrives rs count r.x22 (omega (arith, h.1, more other (cases_eq (i + 1) count))))))
        ]
      where
        next : k.base + k.stride ≡ k.first + (i + 1) * k.stride
        next = omega (arith, base)

        at_end : r.x8 ≡ k.first + count * k.stride → i + 1 ≡ count
        at_end same =
            elim (cases_lt (i + 1) count) [
              | inl less ↦ let below : (i + 1) * k.stride + k.stride ≤ count * k.stride =
                  row_fits (i + 1) k.stride count k.stride less (omega arith) in
                  absurd (omega (arith, below, same, h.2, next, is.room))
              | inr past ↦ omega (arith, known)
            ]

        more : r.x8 ≢ k.first + count * k.stride → (i + 1 ≡ count) ⊎ (i + 1 ≢ count) → i + 1 < count
        more other (inl last) = absurd (other (h.2 ∙ next ∙ ap (λ j. k.first + j * k.stride) last))
        more other (inr less) = omega (arith, known)

    keeps_at_74 : Right_here 0x74  -- jal x0,round
    keeps_at_74 h z = still 0x74 0x00 r refl (jump_line (at 29 refl) refl) h (λ rs states idle. omega arith)

    keeps_at_78 : Right_here 0x78  -- quit: addi x17,x0,93
    keeps_at_78 h z = still 0x78 0x7C (record r { x17 = 93 }) refl (add_line (at 30 refl) (word-plus 0 93 (lit< tt)))
        (h.0, refl, h.1) (λ rs states idle. omega arith)

    keeps_at_7C : Right_here 0x7C  -- ecall
    keeps_at_7C h z =
        acts 0x7C 0x80 need.Exit (λ w. r) o tt (record { needs = exit_need (at 31 refl) h.1; leaves = λ w. exit_after (at 31 refl) h.1 w }) unchanged
        (inl (h.0, h.2)) (inl (refl, refl, refl)) refl (λ none rs states idle. omega arith)

    keeps_at_80 : Right_here 0x80
    keeps_at_80 h z = let bad : status.Ended ≡ status.Running = z.runs in cc

    -- wherever it runs, it moves, by what it finds in the block that it visits
    pub receives_on : (here : ℕ) → Right_here here
    receives_on here h =
        let last = keeps_at_68 & keeps_at_6C & keeps_at_70 & keeps_at_74 & keeps_at_78 & keeps_at_7C & keeps_at_80
        & laws.moves k i count n word_at r v is order words in
        let close = keeps_at_48 & keeps_at_4C & keeps_at_50 & keeps_at_54 & keeps_at_58 & keeps_at_5C & keeps_at_60 & keeps_at_64 & last in
        let take = keeps_at_28 & keeps_at_2C & keeps_at_30 & keeps_at_34 & keeps_at_38 & keeps_at_3C & keeps_at_40 & keeps_at_44 & close in
        found (λ (H : SenderBlock → ℕ → ReceiverCounts m.Own → ReceiverRegisters → Type 0). H k i o r)
        (λ at. Runs m k count at n word_at r v → Receives m k i count at n r v) (rows_of m)
        (keeps_at_00 & keeps_at_04 & keeps_at_08 & keeps_at_0C & keeps_at_10 & laws.moves_14 k i count n word_at r v is order words & take) here h
