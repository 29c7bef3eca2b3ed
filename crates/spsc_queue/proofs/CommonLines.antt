-- Lines that several of the functions have: each leads to a line `to`, whose row is what the line makes of its own.
use Rattle.spsc_queue.proofs.Common.{ℕ, pos, ◌+◌, ◌*◌, ◌%◌, ◌^◌, ◌<◌, ◌≤◌, ◌≡◌, ◌≢◌, ◌⊎◌, inl, inr, true, false, Some, List, [], ◌∷◌, ◌++◌, refl, Bool, Option}
use Rattle.spsc_queue.proofs.Common.{sym, ◌∙◌, ap, subst, arith, slice_index, slice_set, map, slice_get, cases_eq, reg_of, Immediate, Instr, Write, write}
use Rattle.spsc_queue.proofs.Common.{next_pc, address, IsAt, nothing, load, store, Kind, lamport, fastforward, RingBuffer, IsWordIn, next, overlaps, roomy}
use Rattle.spsc_queue.proofs.Common.{filled, ProtocolState, next_by, IsWordAt, IsSendable, IsSenderStore, lines_of, Block, copy_in, listing_of, ring_at}
use Rattle.spsc_queue.proofs.Common.{sees_full, look_accesses, send_accesses, word-plus, add_line, load_line, other_jumps, same_goes_on, goes_to, leaves_in}
use Rattle.rv_decode.specs.Meaning.{meaning}
use Rattle.rv_decode.specs.declared.instruction.Reg.{Reg}
use Rattle.rv_decode.specs.declared.instruction.Instr.TheVariants.{Jalr, Branch, Load, Store}
use Rattle.hart.specs.Effects.{register_value}
use Rattle.spsc_queue.specs.Protocol.{sends}
use Rattle.spsc_queue.specs.Calls.{Party, the_sender, the_receiver}
use Rattle.step_machine.proofs.Lines.{store_line}
use Rattle.spsc_queue.proofs.Courses.{At, at_00, at_04, at_24, at_28, at_2C, at_30, number, went, bytes_of}
use Rattle.spsc_queue.proofs.Numbers.{word_overlaps}
use Rattle.spsc_queue.proofs.Outline.{part, role, IsOffset, Near, index_at, ready, put, all_accesses, Ready, Half, Row, IsStore, Moves, Stored, more}
use Rattle.spsc_queue.proofs.Parts.{copied, ready-offset, stored-offset, slot-sent}
use Rattle.spsc_queue.proofs.AllLines.{Spot, to_line, loads_to, stores_to, line_at, on, over, wraps_not, wraps, to_indexed, ready_5, ready_on, to_half}
use Rattle.spsc_queue.proofs.AllLines.{to_finished, if_false, short, Answered, none, returns_1, returns_0, answers_1, answers_0}
use Rattle.rv_decode.specs.declared.instruction.BranchOp.TheVariants as branch
use Rattle.rv_decode.specs.declared.instruction.ImmediateOp.TheVariants as immediate
use Rattle.rv_decode.specs.declared.instruction.LoadOp.TheVariants as load_op
use Rattle.rv_decode.specs.declared.instruction.StoreOp.TheVariants as store_op

-- where a party's index lies in the block
abbrev pub gap : Party → ℕ
gap the_sender = 0
gap the_receiver = 64

index_is : (k : Block) (a b : ℕ) (p : Party) → index_at p (ring_at k a b) ≡ k.base + gap p
index_is k a b the_sender = omega arith
index_is k a b the_receiver = refl

off_index : (k : Block) (a b : ℕ) (p : Party) (c : ℕ) → copy_in k.kind k.caches k.base ≡ Some c
    → (c + 4 ≤ index_at p (ring_at k a b)) ⊎ (index_at p (ring_at k a b) + 4 ≤ c)
off_index k a b the_sender c at = inr (omega (arith, copied k c at))
off_index k a b the_receiver c at = inl (omega (arith, copied k c at))

gap_low : (p : Party) → (gap p ≤ 64) × (gap p % 4 ≡ 0)
gap_low the_sender = (omega arith, refl)
gap_low the_receiver = (omega arith, refl)

module _ {p : Party} {K : Kind} (g : Spot p K) (near : Near g.k (part p g.t)) (j : ℕ) (place : g.s.pc ≡ 4 * (g.n + j)) (below : j ≤ 11) where
  open g use {M, n, a, b, k, is, h, s, t, v, has, c, ws}

  abbrev r : RingBuffer
  r = ring_at k a b

  abbrev x : List ℕ
  x = s.registers

  -- the next line, and the one after it
  ahead : (m : ℕ) → m ≡ j + 1 → next_pc s.pc ≡ 4 * (n + m)
  ahead m is_next = on g j place (omega (arith, below)) ∙ ap (λ i. 4 * (n + i)) (sym is_next)

  beyond : (m : ℕ) → j ≤ 10 → m ≡ j + 2 → address s.pc (pos 8) ≡ 4 * (n + m)
  beyond m low is_next = over g j 2 place (omega (arith, low)) ∙ ap (λ i. 4 * (n + i)) (sym is_next)

  module _ (to : At) where
    -- addi x5,x5,4
    pub bumps : {m : ℕ} (seven : ℕ → ℕ) → number to ≡ j + 1 → IsAt s (Immediate immediate.Add (reg_of 5) (reg_of 5) (pos 4))
        → Ready n p K k r c m ws x (part p t) (λ u. u) seven
        → ((q : Ready n p K k r (went c nothing) (m + 1) ws (slice_set x 5 (slice_index x 5 + 4)) (part p t) (λ u. u + 4) seven)
        → Row n p K k r (went c nothing) ws to (slice_set x 5 (slice_index x 5 + 4)) (part p t)) → Moves n p K k r true ws c h s t v
    bumps seven is_next here row so =
        let bound : IsOffset k row.place = ready-offset k p row.place (slice_index x 11) (part p t) row.knows near in
        to_line g to (leaves_in s (reg_of 5) (slice_index x 5 + 4))
        (add_line here (word-plus (slice_index x 5) 4 (omega (arith, row.x5, bound.0, is.inside, is.small)))) (ahead (number to) is_next)
        (so (ready_5 g (λ u. u) seven (λ u. u + 4) (slice_index x 5 + 4) row (ap (λ q. q + 4) row.x5)))

    -- addi x5,x0,0
    pub zeroes : {m : ℕ} (seven : ℕ → ℕ) → number to ≡ j + 1 → IsAt s (Immediate immediate.Add (reg_of 5) (reg_of 0) (pos 0))
        → Ready n p K k r c m ws x (part p t) (λ u. u + 4) seven → slice_index x 5 ≡ 4 * k.size
        → ((q : Ready n p K k r (went c nothing) (m + 1) ws (slice_set x 5 0) (part p t) (λ u. next r u) seven)
        → Row n p K k r (went c nothing) ws to (slice_set x 5 0) (part p t)) → Moves n p K k r true ws c h s t v
    zeroes seven is_next here row full so = to_line g to (leaves_in s (reg_of 5) 0)
        (add_line here (word-plus (slice_index x 0) 0 (omega (arith, has.zero)) ∙ omega (arith, has.zero))) (ahead (number to) is_next)
        (so (ready_5 g (λ u. u + 4) seven (λ u. next r u) 0 row (wraps g row.place (sym row.x5 ∙ full))))

    -- bne x5,x12,8: on to this line, or to the one after it
    pub tests : {m : ℕ} (after : At) (seven : ℕ → ℕ) → j ≤ 10 → number to ≡ j + 1 → number after ≡ j + 2
        → IsAt s (Branch branch.NotEqual (reg_of 5) (reg_of 12) (pos 8)) → Ready n p K k r c m ws x (part p t) (λ u. u + 4) seven
        → (Ready n p K k r (went c nothing) (m + 1) ws x (part p t) (λ u. u + 4) seven × (slice_index x 5 ≡ 4 * k.size)
        → Row n p K k r (went c nothing) ws to x (part p t))
        → (Ready n p K k r (went c nothing) (m + 2) ws x (part p t) (λ u. next r u) seven → Row n p K k r (went c nothing) ws after x (part p t))
        → Moves n p K k r true ws c h s t v
    tests {m} after seven low is_next is_after here row so other_so = at (cases_eq (slice_index x 5) (slice_index x 12))
      where
        at : (slice_index x 5 ≡ slice_index x 12) ⊎ (slice_index x 5 ≢ slice_index x 12) → Moves n p K k r true ws c h s t v
        at (inl equal) = to_line g to (goes_to s (next_pc s.pc)) (same_goes_on here equal) (ahead (number to) is_next)
            (so (ready_on g (λ u. u + 4) seven (λ u. u + 4) (omega arith) row refl, equal ∙ bytes_of row.frame.left))
        at (inr other) = to_line g after (goes_to s (address s.pc (pos 8)))
            (other_jumps here other (omega (arith, beyond (number after) low is_after))) (beyond (number after) low is_after)
            (other_so (ready_on g (λ u. u + 4) seven (λ u. next r u) (omega arith) row
            (wraps_not g row.place (λ e. other (row.x5 ∙ e ∙ sym (bytes_of row.frame.left))))))

    -- sw of register `from` to the slot, 128 bytes after what register `rs` holds
    pub slot_stores : {m : ℕ} (l : ℕ) → m + 1 ≤ l → (five seven : ℕ → ℕ) (rs from : Reg) (i : ℕ) → number to ≡ j + 1
        → IsAt s (Store store_op.Word rs from (pos 128))
        → (row : Ready n p K k r c m ws x (part p t) five seven) → register_value x rs ≡ k.base + row.place → register_value x from ≡ put p (slice_index x 11)
        → slice_index x i ≡ next r row.place
        → ((made : Write) → overlaps r made ≡ true → made ≡ write (r.slots + row.place) 4 (put p (slice_index x 11)) → IsStore p K r t made
        × Stored p row.place (part p (next_by K r (role p) t (store made)))
        × ((part p (next_by K r (role p) t (store made))).words ≡ (part p t).words ++ slice_index x 11 ∷ []))
        → ((made : Write) → Half n p K k r (went c (store made)) l i ws x (part p (next_by K r (role p) t (store made)))
        → Row n p K k r (went c (store made)) ws to x (part p (next_by K r (role p) t (store made)))) → Moves n p K k r true ws c h s t v
    slot_stores l le five seven rs from i is_next here row base value after makes so =
        let u : ℕ = row.place in
        let bound : IsOffset k u = ready-offset k p u (slice_index x 11) (part p t) row.knows near in
        let made : Write = write (register_value x rs + 128) 4 (register_value x from) in
        let is_made : made ≡ write (r.slots + u) 4 (put p (slice_index x 11)) =
        ap (λ y. write y 4 (register_value x from)) (omega (arith, base)) ∙ ap (write (r.slots + u) 4) value in
        let inside : IsWordIn r (r.slots + u) = record {
          above = omega arith;
          below = omega (arith, bound.0);
          aligned = omega (arith, is.aligned, bound.1);
          no_copy = λ d at. inl (omega (arith, copied k d at));
        } in
        let hits : overlaps r made ≡ true = word_overlaps r made (r.slots + u) inside (record { place = omega (arith, base); width = refl }) in
        let made_so = makes made hits is_made in
        stores_to g to (register_value x rs + 128) (register_value x from) (store_line here (omega (arith, base, is.aligned, bound.1)) refl
        (omega (arith, base, bound.0, is.inside, has.words)) (omega (arith, has.words, is.small)))
        (ahead (number to) is_next) made_so.0 (so made (to_half g l le made i five seven row is_made after made_so.1 made_so.2))

  -- sw of register i to the index
  pub index_stores : {m i : ℕ} (from : Reg) → j ≡ 8 → m + 1 ≤ 9 + more p r → IsAt s (Store store_op.Word (reg_of 10) from (pos (gap p)))
      → (row : Half n p K k r c m i ws x (part p t)) → register_value x from ≡ slice_index x i
      → ((made : Write) → IsWordAt made (index_at p r) → made.value ≡ next r row.place → IsStore p K r t made)
      → ready p K r row.place row.copy row.seen (slice_index x 11) ++ store (write (r.slots + row.place) 4 (put p (slice_index x 11))) ∷
      store (write (index_at p r) 4 (next r row.place)) ∷ [] ≡ all_accesses p K r (slice_index x 11) row.place row.copy row.seen
      → Moves n p K k r true ws c h s t v
  index_stores from is_8 le here row from_is rule whole =
      let bound : IsOffset k row.place = stored-offset k p row.place (part p t) row.knows near in
      let made : Write = write (slice_index x 10 + gap p) 4 (register_value x from) in
      let at : slice_index x 10 + gap p ≡ index_at p r = ap (λ y. y + gap p) row.frame.block ∙ sym (index_is k a b p) in
      let value : register_value x from ≡ next r row.place = from_is ∙ row.after in
      let word : IsWordAt made (index_at p r) = record { place = at; width = refl } in
      let inside : IsWordIn r (index_at p r) = record {
        above = omega (arith, index_is k a b p);
        below = omega (arith, index_is k a b p, (gap_low p).0);
        aligned = omega (arith, index_is k a b p, is.aligned, (gap_low p).1);
        no_copy = λ d at. off_index k a b p d at;
      } in
      stores_to g at_24 (slice_index x 10 + gap p) (register_value x from) (store_line here (omega (arith, row.frame.block, is.aligned)) (gap_low p).1
      (omega (arith, row.frame.block, is.inside, has.words, (gap_low p).0)) (omega (arith, has.words, is.small)))
      (ahead 9 (omega (arith, is_8))) (rule made word value) (to_finished g (9 + more p r) le made (word_overlaps r made (index_at p r) inside word) row
      (ap (λ y. write y 4 (register_value x from)) at ∙ ap (write (index_at p r) 4) value) bound whole)

-- ---- the lines that all functions have in the same place: the first loads a party's own index, the last ones answer and return

abbrev Ends : (gap : ℕ) → List (Option Instr) → Type 0
Ends gap is = (slice_get is 0 ≡ Some (Some (Load load_op.Word (reg_of 5) (reg_of 10) (pos gap))))
    × (slice_get is 9 ≡ Some (Some (Immediate immediate.Add (reg_of 10) (reg_of 0) (pos 1))))
    × (slice_get is 10 ≡ Some (Some (Jalr (reg_of 0) (reg_of 1) (pos 0))))
    × (slice_get is 11 ≡ Some (Some (Immediate immediate.Add (reg_of 10) (reg_of 0) (pos 0))))
    × (slice_get is 12 ≡ Some (Some (Jalr (reg_of 0) (reg_of 1) (pos 0))))

ends : (K : Kind) (caches : Bool) (p : Party) (rest : List (Option Instr)) → Ends (gap p) (map Some (lines_of (listing_of K caches p)) ++ rest)
ends lamport false the_sender rest = (refl, refl, refl, refl, refl)
ends lamport true the_sender rest = (refl, refl, refl, refl, refl)
ends lamport caches the_receiver rest = (refl, refl, refl, refl, refl)
ends fastforward caches the_sender rest = (refl, refl, refl, refl, refl)
ends fastforward caches the_receiver rest = (refl, refl, refl, refl, refl)

module _ {p : Party} {K : Kind} (g : Spot p K) where
  open g use {M, n, a, b, k, is, h, s, t, v, has, c, ws}

  abbrev Common : At → Type 0
  Common line = s.pc ≡ 4 * (n + number line) → Row n p K k (ring_at k a b) c ws line s.registers (part p t) → Answered g

  all_ends : Ends (gap p) (map Some (lines_of (listing_of K k.caches p)) ++ map meaning has.code.back)
  all_ends = ends K k.caches p (map meaning has.code.back)

  pub common_00 : Common at_00
  common_00 place row = none g at_00 place (λ e. omega arith) (λ e. omega arith) (loads_to g at_04 (slice_index s.registers 10 + gap p) (reg_of 5)
      (load_line (line_at g 0 place all_ends.0) (omega (arith, row.frame.block, is.aligned)) (gap_low p).1
      (omega (arith, row.frame.block, is.inside, has.words, (gap_low p).0)) (omega (arith, has.words, is.small)))
      (on g 0 place (omega arith)) (to_indexed g (slice_index s.registers 10 + gap p) (ap (λ y. y + gap p) row.frame.block ∙ sym (index_is k a b p)) row))

  pub common_24 : Common at_24
  common_24 place row = answers_1 g place (line_at g 9 place all_ends.1) row

  pub common_28 : Common at_28
  common_28 place row = returns_1 g (short p (ring_at k a b)) place (line_at g 10 place all_ends.2) row

  pub common_2C : Common at_2C
  common_2C place row = answers_0 g place (line_at g 11 place all_ends.3) row

  pub common_30 : Common at_30
  common_30 place row = returns_0 g (omega (arith, short p (ring_at k a b))) place (line_at g 12 place all_ends.4) row

-- ---- the sender's stores, of each kind

module _ (K : Kind) (r : RingBuffer) (t : ProtocolState) (u : ℕ) where
  pub sender_puts : (w : ℕ) → t.sending ≡ roomy u → w < 2 ^ 32 → IsSendable K w → (made : Write) → overlaps r made ≡ true → made ≡ write (r.slots + u) 4 w
      → IsStore the_sender K r t made × Stored the_sender u (part the_sender (next_by K r sends t (store made)))
      × ((part the_sender (next_by K r sends t (store made))).words ≡ t.sent ++ w ∷ [])
  sender_puts w knows small some made hits is_made = grind (arith, slot-sent)

  pub sender_publishes : t.sending ≡ filled u → (made : Write) → IsWordAt made r.head → made.value ≡ next r u → IsStore the_sender K r t made
  sender_publishes knows made word value = subst (λ q. IsSenderStore K r q made) (sym knows) (word, value)

  pub send_whole : (d v w : ℕ) → sees_full r.copy K r u d v ≡ false
      → ready the_sender K r u d v w ++ store (write (r.slots + u) 4 w) ∷ store (write r.head 4 (next r u)) ∷ [] ≡ send_accesses K r w u d v
  send_whole d v w some = ap (λ ys. load r.head 4 u ∷ (look_accesses r.copy K r u d v ++ ys))
      (if_false (sees_full r.copy K r u d v) [] (store (write (r.slots + u) 4 w) ∷ store (write r.head 4 (next r u)) ∷ []) some)
