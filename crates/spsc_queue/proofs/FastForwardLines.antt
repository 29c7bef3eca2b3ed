-- FastForward's functions, line by line: what each line does keeps the protocol, and leads to the next line of the outline.
use Rattle.std.proofs.Common.{not}
use Rattle.spsc_queue.proofs.Common.{ℕ, pos, ◌+◌, ◌*◌, ◌%◌, ◌^◌, ◌<◌, ◌≤◌, ◌≡◌, ◌≢◌, ◌==◌, ◌⊎◌, inl, inr, true, false, if◌then◌else◌, None, List, [], ◌∷◌, ◌++◌}
use Rattle.spsc_queue.proofs.Common.{refl, sym, ◌∙◌, ap, subst, arith, slice_index, cases_eq, eq-eqb, ne_eqb, reg_of, Write, write, HartState, next_pc, address}
use Rattle.spsc_queue.proofs.Common.{IsAt, load, store, fastforward, RingBuffer, next, overlaps, placed, roomy, asked, holding, ProtocolState, next_by}
use Rattle.spsc_queue.proofs.Common.{IsSendable, IsReceiverStore, Block, IsBlock, copy_in, listing_of, ring_at, sees_full, take_accesses, receive_accesses}
use Rattle.spsc_queue.proofs.Common.{load_line, other_jumps, same_goes_on, goes_to, leaves_in}
use Rattle.rv_decode.specs.declared.instruction.Instr.TheVariants.{Register}
use Rattle.spsc_queue.specs.Protocol.{receives}
use Rattle.spsc_queue.specs.FastForward.{fastforward_send, fastforward_receive}
use Rattle.spsc_queue.specs.Calls.{Party, the_sender, the_receiver}
use Rattle.step_machine.proofs.Lines.{sum_line, same_jumps, other_goes_on}
use Rattle.spsc_queue.proofs.Registers.{set-same, set-other}
use Rattle.spsc_queue.proofs.Courses.{At, at_04, at_08, at_0C, at_10, at_14, at_18, at_1C, at_20, at_2C, number, Equipped, Course, free_6, free_11}
use Rattle.spsc_queue.proofs.Outline.{part, IsOffset, Near, first_look, Stored, IsStore, OwnRow, Row, Moves}
use Rattle.spsc_queue.proofs.Parts.{slot-taken, knows-offset, looked-offset}
use Rattle.spsc_queue.proofs.AllLines.{Spot, spot, to_line, to_ready, loads_to, line_at, on, over, indexed_7, to_seen, to_no, word_set, if_false, found_room}
use Rattle.spsc_queue.proofs.AllLines.{looked_once}
use Rattle.spsc_queue.proofs.CommonLines.{bumps, zeroes, tests, slot_stores, index_stores, sender_puts, sender_publishes, send_whole}
use Rattle.rv_decode.specs.declared.instruction.RegisterOp.TheVariants as register

module _ (M n a b : ℕ) (k : Block) (is : IsBlock M k) (h : ℕ) (s : HartState) (t : ProtocolState) (v : ℕ) where
  abbrev r : RingBuffer
  r = ring_at k a b

  abbrev x : List ℕ
  x = s.registers

  -- add x7,x10,x5
  at-04 : (p : Party) (has : Equipped M n (listing_of fastforward k.caches p) s) → Near k (part p t) → (c : Course) (ws : List ℕ)
      → IsAt s (Register register.Add (reg_of 7) (reg_of 10) (reg_of 5)) → s.pc ≡ 4 * (n + 1)
      → Row n p fastforward k r c ws at_04 x (part p t) → Moves n p fastforward k r true ws c h s t v
  at-04 p has near c ws here place row =
      let bound : IsOffset k (slice_index x 5) = knows-offset k p (slice_index x 5) (part p t) row.knows near in
      let sum : ℕ = slice_index x 10 + slice_index x 5 in
      to_line (spot M n a b p fastforward k is h s t v has c ws) at_08 (leaves_in s (reg_of 7) sum)
      (sum_line here (omega (arith, row.frame.block, bound.0, is.inside, is.small)))
      (on (spot M n a b p fastforward k is h s t v has c ws) 1 place (omega arith)) (
        indexed_7 (spot M n a b p fastforward k is h s t v has c ws) sum row,
        set-same x 7 sum (omega (arith, has.size)) ∙ ap (λ q. q + slice_index x 5) row.frame.block
            ∙ ap (λ q. k.base + q) (sym (set-other x 7 5 sum (λ e. omega arith))),
      )

  -- where x7 leads to the slot
  slot_below : (p : Party) (has : Equipped M n (listing_of fastforward k.caches p) s) → Near k (part p t) → (c : Course) (ws : List ℕ)
      → Row n p fastforward k r c ws at_08 x (part p t) → (slice_index x 7 % 4 ≡ 0) × (slice_index x 7 + 128 < 4 * s.words) × (4 * s.words ≤ 2 ^ 32)
  slot_below p has near c ws row =
      let bound : IsOffset k (slice_index x 5) = knows-offset k p (slice_index x 5) (part p t) row.0.knows near in
      (omega (arith, row.1, is.aligned, bound.1), omega (arith, row.1, bound.0, is.inside, has.words), omega (arith, has.words, is.small))

  -- ---- fastforward_send

  module _ (kind : k.kind ≡ fastforward) (has : Equipped M n fastforward_send s) (near : Near k (part the_sender t)) (c : Course) (ws : List ℕ) where
    no_copy : r.copy ≡ None
    no_copy = ap (λ q. copy_in q k.caches k.base) kind

    abbrev sending : Spot the_sender fastforward
    sending = spot M n a b the_sender fastforward k is h s t v has c ws

    abbrev Sends : At → Type 0
    Sends line = s.pc ≡ 4 * (n + number line) → Row n the_sender fastforward k r c ws line x (part the_sender t)
        → Moves n the_sender fastforward k r true ws c h s t v

    look : (d : ℕ) → d ≡ r.slots + slice_index x 5 → d ≡ first_look r.copy (r.slots + slice_index x 5)
    look d here = here ∙ sym (ap (λ q. first_look q (r.slots + slice_index x 5)) no_copy)

    sends_08 : Sends at_08  -- lw x6,128(x7)
    sends_08 place row =
        let low = slot_below the_sender has near c ws row in
        loads_to sending at_0C (slice_index x 7 + 128) (reg_of 6) (load_line (line_at sending 2 place refl) low.0 refl low.1 low.2)
        (on sending 2 place (omega arith)) (
          to_seen sending (slice_index x 7 + 128) 6 free_6 (λ e. omega arith) (λ e. omega arith) (omega arith)
              (word_set sending 6 v (λ e. omega arith) row.0.word) (λ e. omega (arith, row.1)) (look (slice_index x 7 + 128) (omega (arith, row.1))) row.0,
          set-other x 6 7 v (λ e. omega arith) ∙ row.1 ∙ ap (λ q. k.base + q) (sym (set-other x 6 5 v (λ e. omega arith))),
        )

    sends_0C : Sends at_0C  -- bne x6,x0,2C
    sends_0C place row = at (cases_eq (slice_index x 6) (slice_index x 0))
      where
        at : (slice_index x 6 ≡ slice_index x 0) ⊎ (slice_index x 6 ≢ slice_index x 0) → Moves n the_sender fastforward k r true ws c h s t v
        at (inl equal) =
            let some : not (slice_index x 6 == 0) ≡ false = ap not (eq-eqb (slice_index x 6) 0 (equal ∙ has.zero)) in
            to_line sending at_10 (goes_to s (next_pc s.pc)) (same_goes_on (line_at sending 3 place refl) equal) (on sending 3 place (omega arith))
            (to_ready sending (λ u. k.base + u) 4 (omega arith) (found_room r.copy fastforward r (slice_index x 5) (slice_index x 6) some) tt
            (row.0.knows ∙ ap (λ q. if q then placed (slice_index x 5) else roomy (slice_index x 5)) some) row.1
            (looked_once fastforward r (slice_index x 5) (slice_index x 6) some) row.0)
        at (inr other) =
            let full : not (slice_index x 6 == 0) ≡ true = ap not (ne_eqb (slice_index x 6) 0 (λ e. other (e ∙ sym has.zero))) in
            to_line sending at_2C (goes_to s (address s.pc (pos 32))) (other_jumps (line_at sending 3 place refl) other
            (omega (arith, over sending 3 8 place (omega arith)))) (over sending 3 8 place (omega arith)) (to_no sending (omega arith) (λ e. no_copy)
            (ap (λ q. sees_full q fastforward r (slice_index x 5) (slice_index x 6) (slice_index x 6)) no_copy ∙ full) tt
            (looked-offset k the_sender fastforward r (slice_index x 5) (slice_index x 6) (part the_sender t) row.0.knows near) row.0)

    pub sends_at : (line : At) → s.pc ≡ 4 * (n + number line)
        → OwnRow n the_sender fastforward k r c ws line x (part the_sender t)
        → Moves n the_sender fastforward k r true ws c h s t v
    sends_at at_04 place row = at-04 the_sender has near c ws (line_at sending 1 place refl) place row
    sends_at at_08 place row = sends_08 place row
    sends_at at_0C place row = sends_0C place row
    sends_at at_10 place row = bumps sending near 4 place (omega arith) at_14 (λ u. k.base + u) refl (line_at sending 4 place refl) row (λ q. q)
    sends_at at_14 place row =
        tests sending near 5 place (omega arith) at_18 at_1C (λ u. k.base + u) (omega arith) refl refl
        (line_at sending 5 place refl) row (λ q. q) (λ q. q)
    sends_at at_18 place row = zeroes sending near 6 place (omega arith) at_1C (λ u. k.base + u) refl (line_at sending 6 place refl) row.0 row.1 (λ q. q)
    sends_at at_1C place row = slot_stores sending near 7 place (omega arith) at_20 8 (omega arith) (λ u. next r u) (λ u. k.base + u)
        (reg_of 7) (reg_of 11) 5 refl (line_at sending 7 place refl) row row.x7 refl row.x5
        (sender_puts fastforward r t row.place (slice_index x 11) row.knows (omega (arith, row.word, row.frame.left.args.word))
        (subst (IsSendable fastforward) (sym row.word) (subst (λ q. IsSendable q (slice_index c.entry.registers 11)) kind row.frame.left.args.sendable)))
        (λ made q. q)
    sends_at at_20 place row = index_stores sending near 8 place (omega arith) (reg_of 5) refl (omega arith)
        (line_at sending 8 place refl) row refl (sender_publishes fastforward r t row.place row.knows)
        (send_whole fastforward r t row.place row.copy row.seen (slice_index x 11) row.says)
    sends_at line place row = absurd row

  -- ---- fastforward_receive

  module _ (has : Equipped M n fastforward_receive s) (near : Near k (part the_receiver t)) (c : Course) (ws : List ℕ) where
    abbrev taking : Spot the_receiver fastforward
    taking = spot M n a b the_receiver fastforward k is h s t v has c ws

    abbrev Takes : At → Type 0
    Takes line = s.pc ≡ 4 * (n + number line) → Row n the_receiver fastforward k r c ws line x (part the_receiver t)
        → Moves n the_receiver fastforward k r true ws c h s t v

    takes_08 : Takes at_08  -- lw x11,128(x7)
    takes_08 place row =
        let low = slot_below the_receiver has near c ws row in
        loads_to taking at_0C (slice_index x 7 + 128) (reg_of 11) (load_line (line_at taking 2 place refl) low.0 refl low.1 low.2)
        (on taking 2 place (omega arith)) (
          to_seen taking (slice_index x 7 + 128) 11 free_11 (λ e. omega arith) (λ e. omega arith) (omega arith)
              tt (λ e. omega (arith, row.1)) (omega (arith, row.1)) row.0,
          set-other x 11 7 v (λ e. omega arith) ∙ row.1 ∙ ap (λ q. k.base + q) (sym (set-other x 11 5 v (λ e. omega arith))),
        )

    takes_0C : Takes at_0C  -- beq x11,x0,2C
    takes_0C place row = at (cases_eq (slice_index x 11) (slice_index x 0))
      where
        at : (slice_index x 11 ≡ slice_index x 0) ⊎ (slice_index x 11 ≢ slice_index x 0) → Moves n the_receiver fastforward k r true ws c h s t v
        at (inl equal) =
            to_line taking at_2C (goes_to s (address s.pc (pos 32))) (same_jumps (line_at taking 3 place refl) equal
            (omega (arith, over taking 3 8 place (omega arith)))) (over taking 3 8 place (omega arith))
            (to_no taking (omega arith) (λ e. cc) (eq-eqb (slice_index x 11) 0 (equal ∙ has.zero)) refl
            (looked-offset k the_receiver fastforward r (slice_index x 5) (slice_index x 11) (part the_receiver t) row.0.knows near) row.0)
        at (inr other) =
            let some : (slice_index x 11 == 0) ≡ false = ne_eqb (slice_index x 11) 0 (λ e. other (e ∙ sym has.zero)) in
            to_line taking at_10 (goes_to s (next_pc s.pc)) (other_goes_on (line_at taking 3 place refl) other) (on taking 3 place (omega arith))
            (to_ready taking (λ u. k.base + u) 4 (omega arith) some refl
            (row.0.knows ∙ ap (λ q. if q then asked (slice_index x 5) else holding (slice_index x 5) (slice_index x 11)) some) row.1 refl row.0)

    -- the 0 goes to the slot, of which the word is taken
    receiver_puts : (u w : ℕ) → t.receiving ≡ holding u w → (made : Write) → overlaps r made ≡ true → made ≡ write (r.slots + u) 4 0
        → IsStore the_receiver fastforward r t made × Stored the_receiver u (part the_receiver (next_by fastforward r receives t (store made)))
        × ((part the_receiver (next_by fastforward r receives t (store made))).words ≡ t.received ++ w ∷ [])
    receiver_puts u w knows made hits is_made = grind (arith, slot-taken, fastforward)

    receive_whole : (u v w : ℕ) → (v == 0) ≡ false
        → load r.tail 4 u ∷ load (r.slots + u) 4 v ∷ take_accesses fastforward r w u ≡ receive_accesses fastforward r w u v
    receive_whole u v w some = ap (λ ys. load r.tail 4 u ∷ load (r.slots + u) 4 v ∷ ys) (if_false (v == 0) [] (take_accesses fastforward r w u) some)

    pub takes_at : (line : At) → s.pc ≡ 4 * (n + number line)
        → OwnRow n the_receiver fastforward k r c ws line x (part the_receiver t)
        → Moves n the_receiver fastforward k r true ws c h s t v
    takes_at at_04 place row = at-04 the_receiver has near c ws (line_at taking 1 place refl) place row
    takes_at at_08 place row = takes_08 place row
    takes_at at_0C place row = takes_0C place row
    takes_at at_10 place row = bumps taking near 4 place (omega arith) at_14 (λ u. k.base + u) refl (line_at taking 4 place refl) row (λ q. q)
    takes_at at_14 place row =
        tests taking near 5 place (omega arith) at_18 at_1C (λ u. k.base + u) (omega arith) refl refl
        (line_at taking 5 place refl) row (λ q. q) (λ q. q)
    takes_at at_18 place row = zeroes taking near 6 place (omega arith) at_1C (λ u. k.base + u) refl (line_at taking 6 place refl) row.0 row.1 (λ q. q)
    takes_at at_1C place row = slot_stores taking near 7 place (omega arith) at_20 8 (omega arith) (λ u. next r u) (λ u. k.base + u)
        (reg_of 7) (reg_of 0) 5 refl (line_at taking 7 place refl) row row.x7 has.zero row.x5
        (receiver_puts row.place (slice_index x 11) row.knows) (λ made q. q)
    takes_at at_20 place row = index_stores taking near 8 place (omega arith) (reg_of 5) refl (omega arith) (line_at taking 8 place refl) row refl
        (λ made word value. subst (λ q. IsReceiverStore fastforward r q made) (sym row.knows) (word, value))
        (receive_whole row.place row.seen (slice_index x 11) row.says)
    takes_at line place row = absurd row
