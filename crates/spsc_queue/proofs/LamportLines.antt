-- Lamport's functions, line by line: what each line does keeps the protocol, and leads to the next line of the outline.
use Rattle.std.proofs.Common.{negsuc}
use Rattle.spsc_queue.proofs.Common.{ℕ, pos, ◌+◌, ◌*◌, ◌%◌, ◌^◌, ◌<◌, ◌≤◌, ◌≡◌, ◌≢◌, ◌==◌, ◌&&◌, ◌⊎◌, inl, inr, true, false, if◌then◌else◌, List, [], ◌∷◌, ◌++◌}
use Rattle.spsc_queue.proofs.Common.{Some, None, refl, sym, ◌∙◌, ap, subst, arith, append-nil, slice_index, slice_set, map, slice_get, cases_eq, eq-eqb, ne_eqb}
use Rattle.spsc_queue.proofs.Common.{nat_tests, reg_of, Instr, Immediate, Write, write, HartState, next_pc, address, IsAt, Access, nothing, load, store, Kind}
use Rattle.spsc_queue.proofs.Common.{lamport, fastforward, RingBuffer, IsWordIn, next, overlaps, SenderState, placed, renewing, roomy, asked, waiting, holding}
use Rattle.spsc_queue.proofs.Common.{ProtocolState, says_full, looks_past_copy, IsWordAt, IsCopyStore, IsSenderStore, IsReceiverStore, lines_of, Block, IsBlock}
use Rattle.spsc_queue.proofs.Common.{copy_in, listing_of, ring_at, sees_full, look_accesses, take_accesses, word-plus, add_line, load_line, other_jumps}
use Rattle.spsc_queue.proofs.Common.{same_goes_on, goes_to, leaves_in}
use Rattle.rv_decode.specs.Meaning.{meaning}
use Rattle.rv_decode.specs.declared.instruction.Instr.TheVariants.{Branch, Load, Store, Register}
use Rattle.spsc_queue.specs.Listings.{try_send, try_receive}
use Rattle.spsc_queue.specs.Cached.{cached_send}
use Rattle.spsc_queue.specs.Calls.{the_sender, the_receiver}
use Rattle.step_machine.proofs.Lines.{sum_line, store_line, jump_line, same_jumps, other_goes_on}
use Rattle.spsc_queue.proofs.Numbers.{word_overlaps}
use Rattle.spsc_queue.proofs.Registers.{set-same, set-other, decoded, code_room, next_line, line_on, line_back}
use Rattle.spsc_queue.proofs.Courses.{At, at_04, at_08, at_0C, at_10, at_14, at_18, at_1C, at_20, at_24, at_2C, at_34, at_38, at_3C, at_40, number, Equipped}
use Rattle.spsc_queue.proofs.Courses.{Course, went, left_on, frame_on, frame_set, more_left, more_frame, bytes_of, free_6, free_7, free_11}
use Rattle.spsc_queue.proofs.Outline.{Part, part, Level, IsOffset, IsNear, IsFit, Near, first_look, Looked, looked, Seen, Past, Ready, Finished, detour, OwnRow}
use Rattle.spsc_queue.proofs.Outline.{Row, Moves}
use Rattle.spsc_queue.proofs.Parts.{copied, level-next, past-load, word-load, copy-stored, tail-taken, looked-offset, ready-offset}
use Rattle.spsc_queue.proofs.AllLines.{Spot, spot, to_line, to_ready, loads_to, stores_to, line_at, line_of, on, over, wraps_not, wraps, to_seen, to_no}
use Rattle.spsc_queue.proofs.AllLines.{ready_5, ready_on, word_set, if_false, found_room, looked_once}
use Rattle.spsc_queue.proofs.CommonLines.{bumps, zeroes, tests, slot_stores, index_stores, sender_puts, sender_publishes, send_whole}
use Rattle.rv_decode.specs.declared.instruction.BranchOp.TheVariants as branch
use Rattle.rv_decode.specs.declared.instruction.ImmediateOp.TheVariants as immediate
use Rattle.rv_decode.specs.declared.instruction.RegisterOp.TheVariants as register
use Rattle.rv_decode.specs.declared.instruction.LoadOp.TheVariants as load_op
use Rattle.rv_decode.specs.declared.instruction.StoreOp.TheVariants as store_op

abbrev stores_of : RingBuffer → (w u : ℕ) → List Access
stores_of r w u = store (write (r.slots + u) 4 w) ∷ store (write r.head 4 (next r u)) ∷ []

-- a block whose sender keeps no copy
without_copy : (K : Kind) (base : ℕ) → copy_in K false base ≡ None
without_copy lamport base = refl
without_copy fastforward base = refl

module _ (M n a b : ℕ) (k : Block) (is : IsBlock M k) (h : ℕ) (s : HartState) (t : ProtocolState) (v : ℕ) where
  abbrev r : RingBuffer
  r = ring_at k a b

  abbrev x : List ℕ
  x = s.registers

  -- ---- the functions that send, with a copy of the tail and without one

  module _ (has : Equipped M n (listing_of lamport k.caches the_sender) s) (near : Near k (part the_sender t)) (c : Course) (ws : List ℕ) where
    abbrev sending : Spot the_sender lamport
    sending = spot M n a b the_sender lamport k is h s t v has c ws

    abbrev Sends : At → Type 0
    Sends line = s.pc ≡ 4 * (n + number line) → Row n the_sender lamport k r c ws line x (part the_sender t) → Moves n the_sender lamport k r true ws c h s t v

    -- lw x6,d(x10), of the tail or of its copy
    sends_04 : (d : ℕ) → IsAt s (Load load_op.Word (reg_of 6) (reg_of 10) (pos d)) → d % 4 ≡ 0 → 4 ≤ d → d ≤ 64
        → k.base + d ≡ first_look r.copy r.tail → Sends at_04
    sends_04 d here even from upto looks place row =
        loads_to sending at_08 (slice_index x 10 + d) (reg_of 6) (load_line here (omega (arith, row.frame.block, is.aligned)) even
        (omega (arith, row.frame.block, is.inside, has.words, upto)) (omega (arith, has.words, is.small))) (on sending 1 place (omega arith))
        (to_seen sending (slice_index x 10 + d) 6 free_6 (λ e. omega arith) (λ e. omega arith) (omega arith) (word_set sending 6 v (λ e. omega arith) row.word)
        (λ e. omega (arith, row.frame.block, from)) (ap (λ y. y + d) row.frame.block ∙ looks) row)

    -- x7 is written, or nothing
    still : {m : ℕ} (y : ℕ) → Seen n the_sender lamport k r c m 6 ws x (part the_sender t)
        → Seen n the_sender lamport k r (went c nothing) (m + 1) 6 ws (slice_set x 7 y) (part the_sender t)
    still y f =
        let six : slice_index x 6 ≡ slice_index (slice_set x 7 y) 6 = sym (set-other x 7 6 y (λ e. omega arith)) in
        let five : slice_index x 5 ≡ slice_index (slice_set x 7 y) 5 = sym (set-other x 7 5 y (λ e. omega arith)) in
        record {
          frame = frame_set nothing 7 y free_7 (λ e. omega arith) f.frame;
          word = word_set sending 7 y (λ e. omega arith) f.word;
          knows = subst (λ q. Looked the_sender lamport r q (slice_index (slice_set x 7 y) 6) (part the_sender t)) five
              (subst (λ q. Looked the_sender lamport r (slice_index x 5) q (part the_sender t)) six f.knows);
          level = f.level;
          words = f.words;
          did = append-nil c.did ∙ f.did ∙ ap (λ q. looked the_sender lamport r (slice_index x 5) q) six
              ∙ ap (λ q. looked the_sender lamport r q (slice_index (slice_set x 7 y) 6)) five;
        }

    same : {m l : ℕ} → m + 1 ≤ l → Seen n the_sender lamport k r c m 6 ws x (part the_sender t)
        → Seen n the_sender lamport k r (went c nothing) l 6 ws x (part the_sender t)
    same le f = record {
      frame = more_frame le (frame_on nothing f.frame);
      word = f.word;
      knows = f.knows;
      level = f.level;
      words = f.words;
      did = append-nil c.did ∙ f.did;
    }

    sends_08 : IsAt s (Immediate immediate.Add (reg_of 7) (reg_of 5) (pos 4)) → Sends at_08  -- addi x7,x5,4
    sends_08 here place row =
        let up : ℕ = slice_index x 5 + 4 in
        let bound : IsOffset k (slice_index x 5) = looked-offset k the_sender lamport r (slice_index x 5)
        (slice_index x 6) (part the_sender t) row.knows near in
        to_line sending at_0C (leaves_in s (reg_of 7) up) (add_line here (word-plus (slice_index x 5) 4 (omega (arith, bound.0, is.inside, is.small))))
        (on sending 2 place (omega arith)) (
          still up row,
          set-same x 7 up (omega (arith, has.size)) ∙ ap (λ q. q + 4) (sym (set-other x 7 5 up (λ e. omega arith))),
        )

    sends_0C : IsAt s (Branch branch.NotEqual (reg_of 7) (reg_of 12) (pos 8)) → Sends at_0C  -- bne x7,x12,14
    sends_0C here place row = at (cases_eq (slice_index x 7) (slice_index x 12))
      where
        at : (slice_index x 7 ≡ slice_index x 12) ⊎ (slice_index x 7 ≢ slice_index x 12) → Moves n the_sender lamport k r true ws c h s t v
        at (inl equal) =
            to_line sending at_10 (goes_to s (next_pc s.pc)) (same_goes_on here equal) (on sending 3 place (omega arith))
            (same (omega arith) row.0, omega (arith, equal, row.1, bytes_of row.0.frame.left))
        at (inr other) =
            to_line sending at_14 (goes_to s (address s.pc (pos 8))) (other_jumps here other (omega (arith, over sending 3 2 place (omega arith))))
            (over sending 3 2 place (omega arith)) (
              same (omega arith) row.0,
              row.1 ∙ wraps_not sending (slice_index x 5) (λ e. other (omega (arith, row.1, e, bytes_of row.0.frame.left))),
            )

    sends_10 : IsAt s (Immediate immediate.Add (reg_of 7) (reg_of 0) (pos 0)) → Sends at_10  -- addi x7,x0,0
    sends_10 here place row =
        to_line sending at_14 (leaves_in s (reg_of 7) 0) (add_line here (word-plus (slice_index x 0) 0 (omega (arith, has.zero)) ∙ omega (arith, has.zero)))
        (on sending 4 place (omega arith)) (
          still 0 row.0,
          set-same x 7 0 (omega (arith, has.size)) ∙ wraps sending (slice_index x 5) row.1 ∙ ap (next r) (sym (set-other x 7 5 0 (λ e. omega arith))),
        )

    -- beq x6,x7,further: if there is room on, or else to this line
    sends_14 : (m : ℕ) (to : At) → address s.pc (pos m) ≡ 4 * (n + number to) → IsAt s (Branch branch.Equal (reg_of 6) (reg_of 7) (pos m))
        → (Seen n the_sender lamport k r c 5 6 ws x (part the_sender t) → slice_index x 7 ≡ next r (slice_index x 5)
        → says_full lamport r (slice_index x 5) (slice_index x 6) ≡ true
        → Row n the_sender lamport k r (went c nothing) ws to x (part the_sender t)) → Sends at_14
    sends_14 m to there here full place row = by (cases_eq (slice_index x 6) (slice_index x 7))
      where
        by : (slice_index x 6 ≡ slice_index x 7) ⊎ (slice_index x 6 ≢ slice_index x 7) → Moves n the_sender lamport k r true ws c h s t v
        by (inl equal) =
            to_line sending to (goes_to s (address s.pc (pos m))) (same_jumps here equal (omega (arith, there))) there
            (full row.0 row.1 (eq-eqb (slice_index x 6) (next r (slice_index x 5)) (equal ∙ row.1)))
        by (inr other) =
            let some : (slice_index x 6 == next r (slice_index x 5)) ≡ false =
            ne_eqb (slice_index x 6) (next r (slice_index x 5)) (λ e. other (e ∙ sym row.1)) in
            to_line sending at_18 (goes_to s (next_pc s.pc)) (other_goes_on here other) (on sending 5 place (omega arith))
            (to_ready sending (λ u. next r u) (6 + detour r.copy) (omega arith) (found_room r.copy lamport r (slice_index x 5) (slice_index x 6) some) tt
            (row.0.knows ∙ ap (λ q. if q then placed (slice_index x 5) else roomy (slice_index x 5)) some) row.1
            (looked_once lamport r (slice_index x 5) (slice_index x 6) some) row.0)

    sends_18 : IsAt s (Register register.Add (reg_of 5) (reg_of 10) (reg_of 5)) → Sends at_18  -- add x5,x10,x5
    sends_18 here place row =
        let bound : IsOffset k row.place = ready-offset k the_sender row.place (slice_index x 11) (part the_sender t) row.knows near in
        to_line sending at_1C (leaves_in s (reg_of 5) (slice_index x 10 + slice_index x 5))
        (sum_line here (omega (arith, row.frame.block, row.x5, bound.0, is.inside, is.small))) (on sending 6 place (omega arith))
        (subst (λ m. Ready n the_sender lamport k r (went c nothing) m ws (slice_set x 5 (slice_index x 10 + slice_index x 5)) (part the_sender t)
        (λ u. k.base + u) (λ u. next r u)) (omega arith) (ready_5 sending (λ u. u) (λ u. next r u) (λ u. k.base + u) (slice_index x 10 + slice_index x 5) row
        (ap (λ q. q + slice_index x 5) row.frame.block ∙ ap (λ q. k.base + q) row.x5)))

    sends_1C : IsAt s (Store store_op.Word (reg_of 5) (reg_of 11) (pos 128)) → Sends at_1C
    sends_1C here place row =
        slot_stores sending near 7 place (omega arith) at_20 (8 + detour r.copy) (omega arith) (λ u. k.base + u)
        (λ u. next r u) (reg_of 5) (reg_of 11) 7 refl here row row.x5 refl row.x7
        (sender_puts lamport r t row.place (slice_index x 11) row.knows (omega (arith, row.word, row.frame.left.args.word)) tt) (λ made q. q)

    sends_20 : IsAt s (Store store_op.Word (reg_of 10) (reg_of 7) (pos 0)) → Sends at_20
    sends_20 here place row =
        index_stores sending near 8 place (omega arith) (reg_of 7) refl (omega arith) here row refl
        (sender_publishes lamport r t row.place row.knows) (send_whole lamport r t row.place row.copy row.seen (slice_index x 11) row.says)

    -- try_send
    pub sends_at : k.caches ≡ false → (line : At) → s.pc ≡ 4 * (n + number line) → OwnRow n the_sender lamport k r c ws line x (part the_sender t)
        → Moves n the_sender lamport k r true ws c h s t v
    sends_at plain = plain_at
      where
        own : Equipped M n try_send s
        own = subst (λ q. Equipped M n (listing_of lamport q the_sender) s) plain has

        no_copy : r.copy ≡ None
        no_copy = ap (λ q. copy_in k.kind q k.base) plain ∙ without_copy k.kind k.base

        line_here : (j : ℕ) → s.pc ≡ 4 * (n + j) → {i : Instr}
            → slice_get (map Some (lines_of try_send) ++ map meaning own.code.back) j ≡ Some (Some i) → IsAt s i
        line_here j place found = line_of M n try_send s own (decoded lamport false the_sender) j place found

        none_past : {m : ℕ} {q : SenderState} {more : List Access} → Past n k r c m ws x (part the_sender t) q more → ⊥
        none_past row = absurd (let no : Some (k.base + 4) ≡ None = sym row.copies ∙ no_copy in cc)

        plain_at : (line : At) → s.pc ≡ 4 * (n + number line)
            → OwnRow n the_sender lamport k r c ws line x (part the_sender t)
            → Moves n the_sender lamport k r true ws c h s t v
        plain_at at_04 place row = sends_04 64 (line_here 1 place refl) refl (omega arith) (omega arith)
            (sym (ap (λ q. first_look q r.tail) no_copy)) place row
        plain_at at_08 place row = sends_08 (line_here 2 place refl) place row
        plain_at at_0C place row = sends_0C (line_here 3 place refl) place row
        plain_at at_10 place row = sends_10 (line_here 4 place refl) place row
        plain_at at_14 place row =
            sends_14 24 at_2C (over sending 5 6 place (omega arith)) (line_here 5 place refl)
            (λ f after full. to_no sending (omega arith) (λ e. no_copy)
            (ap (λ q. sees_full q lamport r (slice_index x 5) (slice_index x 6) (slice_index x 6)) no_copy ∙ full) tt
            (looked-offset k the_sender lamport r (slice_index x 5) (slice_index x 6) (part the_sender t) f.knows near) f) place row
        plain_at at_18 place row = sends_18 (line_here 6 place refl) place row
        plain_at at_1C place row = sends_1C (line_here 7 place refl) place row
        plain_at at_20 place row = sends_20 (line_here 8 place refl) place row
        plain_at at_34 place row = absurd (none_past row)
        plain_at at_38 place row = absurd (none_past row)
        plain_at at_3C place row = absurd (none_past row.0)
        plain_at at_40 place row = absurd (let no : Some (k.base + 4) ≡ None = sym row.1 ∙ no_copy in cc)
        plain_at line place row = absurd row

    -- cached_send
    pub caches_at : k.caches ≡ true → k.kind ≡ lamport → (line : At) → s.pc ≡ 4 * (n + number line)
        → OwnRow n the_sender lamport k r c ws line x (part the_sender t) → Moves n the_sender lamport k r true ws c h s t v
    caches_at keeps kind = cached_at
      where
        own : Equipped M n cached_send s
        own = subst (λ q. Equipped M n (listing_of lamport q the_sender) s) keeps has

        copies : r.copy ≡ Some (k.base + 4)
        copies = ap (λ q. copy_in k.kind q k.base) keeps ∙ ap (λ q. copy_in q true k.base) kind

        line_here : (j : ℕ) → s.pc ≡ 4 * (n + j) → {i : Instr}
            → slice_get (map Some (lines_of cached_send) ++ map meaning own.code.back) j ≡ Some (Some i) → IsAt s i
        line_here j place found = line_of M n cached_send s own (decoded lamport true the_sender) j place found

        room : 4 * (n + 17) < 2 ^ 32
        room = omega (arith, code_room s.code n cached_send own.code, own.code.small)

        ahead : (j : ℕ) → s.pc ≡ 4 * (n + j) → j ≤ 15 → next_pc s.pc ≡ 4 * (n + (j + 1))
        ahead j place le = next_line s.pc (n + j) place (omega (arith, room, le)) ∙ omega arith

        -- the tail says so too
        full_too : {m : ℕ} → Past n k r c m ws x (part the_sender t) (looks_past_copy lamport r (slice_index x 5) (slice_index x 6))
            (load r.tail 4 (slice_index x 6) ∷ []) → m ≤ 7 → says_full lamport r (slice_index x 5) (slice_index x 6) ≡ true
            → Finished n the_sender lamport k r (went c nothing) 8 ws x (part the_sender t) 0
        full_too row le full =
            let knows : t.sending ≡ placed (slice_index x 5) =
            row.knows ∙ ap (λ q. if q then placed (slice_index x 5) else renewing (slice_index x 5) (slice_index x 6)) full in
            let both_full : sees_full (Some (k.base + 4)) lamport r (slice_index x 5) row.copy (slice_index x 6) ≡ true =
            ap (λ q. q && says_full lamport r (slice_index x 5) (slice_index x 6)) row.full ∙ full in
            let found : sees_full r.copy lamport r (slice_index x 5) row.copy (slice_index x 6) ≡ true =
            ap (λ q. sees_full q lamport r (slice_index x 5) row.copy (slice_index x 6)) copies ∙ both_full in
            record {
              no = true;
              choice = record { place = slice_index x 5; copy = row.copy; seen = slice_index x 6; says = found };
              left = more_left (omega (arith, le)) (left_on nothing row.frame.left);
              word = row.word;
              found = tt;
              level = row.level;
              among = subst (IsNear k) knows near.sending;
              words = row.words;
              did = append-nil c.did ∙ row.did
                  ∙ sym (ap (λ q. load r.head 4 (slice_index x 5) ∷ (look_accesses q lamport r (slice_index x 5) row.copy (slice_index x 6)
                  ++ (if sees_full q lamport r (slice_index x 5) row.copy (slice_index x 6) then []
                  else stores_of r (slice_index x 11) (slice_index x 5)))) copies ∙ ap (λ q. load r.head 4 (slice_index x 5) ∷ (load (k.base + 4) 4 row.copy
                  ∷ (if q then load r.tail 4 (slice_index x 6) ∷ (if says_full lamport r (slice_index x 5) (slice_index x 6) then []
                  else store (write (k.base + 4) 4 (slice_index x 6)) ∷ []) else [])
                  ++ (if q && says_full lamport r (slice_index x 5) (slice_index x 6) then [] else stores_of r (slice_index x 11) (slice_index x 5)))) row.full
                  ∙ ap (λ q. load r.head 4 (slice_index x 5) ∷ load (k.base + 4) 4 row.copy ∷ load r.tail 4 (slice_index x 6)
                  ∷ ((if q then [] else store (write (k.base + 4) 4 (slice_index x 6)) ∷ [])
                  ++ (if q then [] else stores_of r (slice_index x 11) (slice_index x 5)))) full);
              answers = refl;
            }

        cached_at : (line : At) → s.pc ≡ 4 * (n + number line)
            → OwnRow n the_sender lamport k r c ws line x (part the_sender t)
            → Moves n the_sender lamport k r true ws c h s t v
        cached_at at_04 place row = sends_04 4 (line_here 1 place refl) refl (omega arith) (omega arith)
            (sym (ap (λ q. first_look q r.tail) copies)) place row
        cached_at at_08 place row = sends_08 (line_here 2 place refl) place row
        cached_at at_0C place row = sends_0C (line_here 3 place refl) place row
        cached_at at_10 place row = sends_10 (line_here 4 place refl) place row
        cached_at at_14 place row =
            sends_14 32 at_34 (line_on s.pc (n + 5) 8 place (omega (arith, room)) ∙ omega arith)
            (line_here 5 place refl) (λ f after full. record {
              copy = slice_index x 6;
              copies = copies;
              frame = frame_on nothing f.frame;
              word = f.word;
              knows = f.knows ∙ ap (λ q. if q then placed (slice_index x 5) else roomy (slice_index x 5)) full;
              level = f.level;
              full = full;
              after = after;
              words = f.words;
              did = append-nil c.did ∙ f.did ∙ ap (λ q. load r.head 4 (slice_index x 5) ∷ load (first_look q r.tail) 4 (slice_index x 6) ∷ []) copies;
            }) place row
        cached_at at_18 place row = sends_18 (line_here 6 place refl) place row
        cached_at at_1C place row = sends_1C (line_here 7 place refl) place row
        cached_at at_20 place row = sends_20 (line_here 8 place refl) place row
        -- lw x6,64(x10)
        cached_at at_34 place row =
            let got : v ≡ slice_index (slice_set x 6 v) 6 = sym (set-same x 6 v (omega (arith, has.size))) in
            let five : slice_index x 5 ≡ slice_index (slice_set x 6 v) 5 = sym (set-other x 6 5 v (λ e. omega arith)) in
            let tail : slice_index x 10 + 64 ≡ r.tail = ap (λ y. y + 64) row.frame.block in
            let does : Access = load (slice_index x 10 + 64) 4 v in
            (loads_to sending at_38 (slice_index x 10 + 64) (reg_of 6) (load_line (line_here 13 place refl) (omega (arith, row.frame.block, is.aligned)) refl
            (omega (arith, row.frame.block, is.inside, has.words)) (omega (arith, has.words, is.small))) (ahead 13 place (omega arith)) (record {
              copy = row.copy;
              copies = copies;
              frame = frame_set does 6 v free_6 (λ e. omega arith) row.frame;
              word = word_set sending 6 v (λ e. omega arith) row.word;
              knows = past-load lamport r t (slice_index x 10 + 64) v (slice_index x 5) (k.base + 4) row.knows copies (λ e. omega (arith, tail, e))
                  (λ e. omega (arith, tail, e)) tail
                  ∙ ap (λ q. looks_past_copy lamport r q v) five ∙ ap (λ q. looks_past_copy lamport r (slice_index (slice_set x 6 v) 5) q) got;
              level = (level-next lamport r the_sender t does tt row.level).0;
              full = subst (λ q. says_full lamport r q row.copy ≡ true) five row.full;
              after = set-other x 6 7 v (λ e. omega arith) ∙ row.after ∙ ap (next r) five;
              words = row.words;
              did = ap (λ zs. zs ++ does ∷ []) row.did ∙ ap (λ q. load r.head 4 (slice_index x 5) ∷ load (k.base + 4) 4 row.copy ∷ load q 4 v ∷ []) tail
                  ∙ ap (λ q. load r.head 4 q ∷ load (k.base + 4) 4 row.copy ∷ load r.tail 4 v ∷ []) five
                  ∙ ap (λ q. load r.head 4 (slice_index (slice_set x 6 v) 5) ∷ load (k.base + 4) 4 row.copy ∷ load r.tail 4 q ∷ []) got;
            }))
        -- beq x6,x7,2C
        cached_at at_38 place row = by (cases_eq (slice_index x 6) (slice_index x 7))
          where
            by : (slice_index x 6 ≡ slice_index x 7) ⊎ (slice_index x 6 ≢ slice_index x 7) → Moves n the_sender lamport k r true ws c h s t v
            by (inl equal) =
                let there : address s.pc (negsuc 11) ≡ 4 * (n + 11) =
                line_back s.pc (n + 14) 3 11 place (omega (arith, room)) refl (omega arith) ∙ omega arith in
                to_line sending at_2C (goes_to s (address s.pc (negsuc 11))) (same_jumps (line_here 14 place refl) equal (omega (arith, there))) there
                (full_too row (omega arith) (eq-eqb (slice_index x 6) (next r (slice_index x 5)) (equal ∙ row.after)))
            by (inr other) =
                let some : (slice_index x 6 == next r (slice_index x 5)) ≡ false =
                ne_eqb (slice_index x 6) (next r (slice_index x 5)) (λ e. other (e ∙ sym row.after)) in
                to_line sending at_3C (goes_to s (next_pc s.pc)) (other_goes_on (line_here 14 place refl) other) (ahead 14 place (omega arith)) (
                  record {
                    copy = row.copy;
                    copies = copies;
                    frame = frame_on nothing row.frame;
                    word = row.word;
                    knows = row.knows ∙ ap (λ q. if q then placed (slice_index x 5) else renewing (slice_index x 5) (slice_index x 6)) some;
                    level = row.level;
                    full = row.full;
                    after = row.after;
                    words = row.words;
                    did = append-nil c.did ∙ row.did;
                  },
                  some,
                )
        -- sw x6,4(x10)
        cached_at at_3C place row =
            let made : Write = write (slice_index x 10 + 4) 4 (slice_index x 6) in
            let here : slice_index x 10 + 4 ≡ k.base + 4 = ap (λ y. y + 4) row.0.frame.block in
            let hits : overlaps r made ≡ true = grind (arith, nat_tests, row.0.frame.block) in
            let becomes = copy-stored lamport r made hits t (slice_index x 5) (slice_index x 6) row.0.knows in
            let some : sees_full r.copy lamport r (slice_index x 5) row.0.copy (slice_index x 6) ≡ false =
            ap (λ q. sees_full q lamport r (slice_index x 5) row.0.copy (slice_index x 6)) copies
            ∙ ap (λ q. q && says_full lamport r (slice_index x 5) (slice_index x 6)) row.0.full ∙ row.1 in
            (stores_to sending at_40 (slice_index x 10 + 4) (slice_index x 6)
            (store_line (line_here 15 place refl) (omega (arith, row.0.frame.block, is.aligned)) refl
            (omega (arith, row.0.frame.block, is.inside, has.words)) (omega (arith, has.words, is.small))) (ahead 15 place (omega arith))
            (subst (λ q. IsSenderStore lamport r q made) (sym row.0.knows)
            (subst (λ q. IsCopyStore q (slice_index x 6) made) (sym copies) (record { place = here; width = refl }, refl))) (
              record {
                choice = record { place = slice_index x 5; copy = row.0.copy; seen = slice_index x 6; says = some };
                frame = frame_on (store made) row.0.frame;
                word = row.0.word;
                found = tt;
                knows = ap (λ (y : Part). y.sending) becomes;
                level = subst Level (sym becomes) (record { sending = tt; receiving = tt });
                x5 = refl;
                x7 = row.0.after;
                words = ap (λ (y : Part). y.words) becomes ∙ row.0.words;
                did = ap (λ zs. zs ++ store made ∷ []) row.0.did
                    ∙ ap (λ q. load r.head 4 (slice_index x 5) ∷ load (k.base + 4) 4 row.0.copy ∷ load r.tail 4 (slice_index x 6)
                    ∷ store (write q 4 (slice_index x 6)) ∷ []) here
                    ∙ sym (ap (λ q. load r.head 4 (slice_index x 5) ∷ look_accesses q lamport r (slice_index x 5) row.0.copy (slice_index x 6)) copies
                    ∙ ap (λ q. load r.head 4 (slice_index x 5) ∷ load (k.base + 4) 4 row.0.copy ∷ (if q then load r.tail 4 (slice_index x 6)
                    ∷ (if says_full lamport r (slice_index x 5) (slice_index x 6) then []
                    else store (write (k.base + 4) 4 (slice_index x 6)) ∷ []) else [])) row.0.full
                    ∙ ap (λ q. load r.head 4 (slice_index x 5) ∷ load (k.base + 4) 4 row.0.copy ∷ load r.tail 4 (slice_index x 6)
                    ∷ (if q then [] else store (write (k.base + 4) 4 (slice_index x 6)) ∷ [])) row.1);
              },
              copies,
            ))
        -- jal x0,18
        cached_at at_40 place row =
            let there : address s.pc (negsuc 39) ≡ 4 * (n + 6) = line_back s.pc (n + 16) 10 39 place (omega (arith, room)) refl (omega arith) ∙ omega arith in
            (to_line sending at_18 (goes_to s (address s.pc (negsuc 39))) (jump_line (line_here 16 place refl) (omega (arith, there))) there
            (ready_on sending (λ u. u) (λ u. next r u) (λ u. u) (omega (arith, ap detour copies)) row.0 refl))
        cached_at line place row = absurd row

  -- ---- try_receive

  module _ (has : Equipped M n try_receive s) (near : Near k (part the_receiver t)) (c : Course) (ws : List ℕ) where
    abbrev taking : Spot the_receiver lamport
    taking = spot M n a b the_receiver lamport k is h s t v has c ws

    abbrev Takes : At → Type 0
    Takes line = s.pc ≡ 4 * (n + number line) → Row n the_receiver lamport k r c ws line x (part the_receiver t)
        → Moves n the_receiver lamport k r true ws c h s t v

    takes_04 : Takes at_04  -- lw x6,0(x10)
    takes_04 place row =
        loads_to taking at_08 (slice_index x 10 + 0) (reg_of 6) (load_line (line_at taking 1 place refl) (omega (arith, row.frame.block, is.aligned)) refl
        (omega (arith, row.frame.block, is.inside, has.words)) (omega (arith, has.words, is.small))) (on taking 1 place (omega arith))
        (to_seen taking (slice_index x 10 + 0) 6 free_6 (λ e. omega arith) (λ e. omega arith) (omega arith)
        tt (λ e. omega (arith, row.frame.block)) (omega (arith, row.frame.block)) row)

    takes_08 : Takes at_08  -- beq x5,x6,2C
    takes_08 place row = at (cases_eq (slice_index x 5) (slice_index x 6))
      where
        at : (slice_index x 5 ≡ slice_index x 6) ⊎ (slice_index x 5 ≢ slice_index x 6) → Moves n the_receiver lamport k r true ws c h s t v
        at (inl equal) =
            to_line taking at_2C (goes_to s (address s.pc (pos 36))) (same_jumps (line_at taking 2 place refl) equal
            (omega (arith, over taking 2 9 place (omega arith)))) (over taking 2 9 place (omega arith))
            (to_no taking (omega arith) (λ e. cc) (eq-eqb (slice_index x 6) (slice_index x 5) (sym equal)) tt
            (looked-offset k the_receiver lamport r (slice_index x 5) (slice_index x 6) (part the_receiver t) row.knows near) row)
        at (inr other) =
            let some : (slice_index x 6 == slice_index x 5) ≡ false = ne_eqb (slice_index x 6) (slice_index x 5) (λ e. other (sym e)) in
            to_line taking at_0C (goes_to s (next_pc s.pc)) (other_goes_on (line_at taking 2 place refl) other) (on taking 2 place (omega arith)) (record {
              seen = slice_index x 6;
              frame = frame_on nothing row.frame;
              knows = row.knows ∙ ap (λ q. if q then asked (slice_index x 5) else waiting (slice_index x 5)) some;
              level = row.level;
              some = some;
              words = row.words;
              did = append-nil c.did ∙ row.did;
            })

    takes_0C : Takes at_0C  -- add x7,x10,x5
    takes_0C place row =
        let bound : IsOffset k (slice_index x 5) = subst (IsFit k) row.knows near.receiving in
        let sum : ℕ = slice_index x 10 + slice_index x 5 in
        let five : slice_index x 5 ≡ slice_index (slice_set x 7 sum) 5 = sym (set-other x 7 5 sum (λ e. omega arith)) in
        to_line taking at_10 (leaves_in s (reg_of 7) sum)
        (sum_line (line_at taking 3 place refl) (omega (arith, row.frame.block, bound.0, is.inside, is.small))) (on taking 3 place (omega arith)) (
          record {
            seen = row.seen;
            frame = frame_set nothing 7 sum free_7 (λ e. omega arith) row.frame;
            knows = row.knows ∙ ap waiting five;
            level = row.level;
            some = subst (λ y. (row.seen == y) ≡ false) five row.some;
            words = row.words;
            did = append-nil c.did ∙ row.did ∙ ap (λ y. looked the_receiver lamport r y row.seen) five;
          },
          set-same x 7 sum (omega (arith, has.size)) ∙ ap (λ q. q + slice_index x 5) row.frame.block ∙ ap (λ q. k.base + q) five,
        )

    takes_10 : Takes at_10  -- lw x11,128(x7)
    takes_10 place row =
        let u : ℕ = slice_index x 5 in
        let bound : IsOffset k u = subst (IsFit k) row.0.knows near.receiving in
        let eleven : v ≡ slice_index (slice_set x 11 v) 11 = sym (set-same x 11 v (omega (arith, has.size))) in
        loads_to taking at_14 (slice_index x 7 + 128) (reg_of 11) (load_line (line_at taking 4 place refl) (omega (arith, row.1, is.aligned, bound.1)) refl
        (omega (arith, row.1, bound.0, is.inside, has.words)) (omega (arith, has.words, is.small))) (on taking 4 place (omega arith)) (record {
          choice = record { place = u; copy = row.0.seen; seen = row.0.seen; says = row.0.some };
          frame = frame_set (load (slice_index x 7 + 128) 4 v) 11 v free_11 (λ e. omega arith) row.0.frame;
          word = tt;
          found = tt;
          knows = word-load lamport r t (slice_index x 7 + 128) v u row.0.knows (λ e. omega (arith, row.1)) (omega (arith, row.1)) ∙ ap (holding u) eleven;
          level = (level-next lamport r the_receiver t (load (slice_index x 7 + 128) 4 v) tt row.0.level).0;
          x5 = set-other x 11 5 v (λ e. omega arith);
          x7 = set-other x 11 7 v (λ e. omega arith) ∙ row.1;
          words = row.0.words;
          did = ap (λ zs. zs ++ load (slice_index x 7 + 128) 4 v ∷ []) row.0.did
              ∙ ap (λ y. looked the_receiver lamport r u row.0.seen ++ load y 4 v ∷ []) (omega (arith, row.1))
              ∙ ap (λ y. looked the_receiver lamport r u row.0.seen ++ load (r.slots + u) 4 y ∷ []) eleven;
        })

    takes_20 : Takes at_20  -- sw x5,64(x10)
    takes_20 place row =
        let u : ℕ = row.place in
        let bound : IsOffset k u = ready-offset k the_receiver u (slice_index x 11) (part the_receiver t) row.knows near in
        let made : Write = write (slice_index x 10 + 64) 4 (slice_index x 5) in
        let here : IsWordAt made r.tail = record { place = omega (arith, row.frame.block); width = refl } in
        let is_made : made ≡ write r.tail 4 (next r u) = ap (λ y. write y 4 (slice_index x 5)) here.place ∙ ap (write r.tail 4) row.x5 in
        let inside : IsWordIn r r.tail = record {
          above = omega arith;
          below = omega arith;
          aligned = omega (arith, is.aligned);
          no_copy = λ d at. inl (omega (arith, copied k d at));
        } in
        let becomes = tail-taken lamport r made (word_overlaps r made r.tail inside here) t u (slice_index x 11) row.knows in
        stores_to taking at_24 (slice_index x 10 + 64) (slice_index x 5)
        (store_line (line_at taking 8 place refl) (omega (arith, row.frame.block, is.aligned)) refl
        (omega (arith, row.frame.block, is.inside, has.words)) (omega (arith, has.words, is.small))) (on taking 8 place (omega arith))
        (subst (λ q. IsReceiverStore lamport r q made) (sym row.knows) (here, row.x5)) (record {
          no = false;
          choice = row.choice;
          left = left_on (store made) row.frame.left;
          word = tt;
          found = tt;
          level = subst Level (sym becomes) (record { sending = tt; receiving = tt });
          among = bound;
          words = ap (λ (y : Part). y.words) becomes ∙ ap (λ zs. zs ++ slice_index x 11 ∷ []) row.words;
          did = ap (λ zs. zs ++ store made ∷ []) row.did
              ∙ ap (λ y. looked the_receiver lamport r u row.seen ++ load (r.slots + u) 4 (slice_index x 11) ∷ store y ∷ []) is_made
              ∙ ap (λ zs. looked the_receiver lamport r u row.seen ++ zs) (if_false (row.seen == u) [] (take_accesses lamport r (slice_index x 11) u) row.says);
          answers = refl;
        })

    pub takes_at : (line : At) → s.pc ≡ 4 * (n + number line)
        → OwnRow n the_receiver lamport k r c ws line x (part the_receiver t)
        → Moves n the_receiver lamport k r true ws c h s t v
    takes_at at_04 place row = takes_04 place row
    takes_at at_08 place row = takes_08 place row
    takes_at at_0C place row = takes_0C place row
    takes_at at_10 place row = takes_10 place row
    takes_at at_14 place row = bumps taking near 5 place (omega arith) at_18 (λ u. k.base + u) refl (line_at taking 5 place refl) row (λ q. q)
    takes_at at_18 place row =
        tests taking near 6 place (omega arith) at_1C at_20 (λ u. k.base + u) (omega arith) refl refl
        (line_at taking 6 place refl) row (λ q. q) (λ q. q)
    takes_at at_1C place row = zeroes taking near 7 place (omega arith) at_20 (λ u. k.base + u) refl (line_at taking 7 place refl) row.0 row.1 (λ q. q)
    takes_at at_20 place row = takes_20 place row
    takes_at line place row = absurd row
