-- What an instruction of a queue's sender does to its count and to its slots: its effect.
use Rattle.std.proofs.Common.{ℕ, ℤ, ◌+◌, ◌*◌, ◌^◌, ◌<◌, ◌≤◌, ◌≡◌, ◌==◌, ◌&&◌, ◌||◌, ◌⊎◌, inl, inr, if◌then◌else◌, Bool, true, false, Option, Some, None, List}
use Rattle.std.proofs.Common.{length, get_or, refl, sym, ◌∙◌, ap, subst, arith}
use Rattle.std.proofs.lemmas.Bool.{and_parts, or_cases, ltb-true}
use Rattle.rv_decode.specs.declared.instruction.Reg.{Reg}
use Rattle.rv_decode.specs.declared.instruction.StoreOp.{StoreOp}
use Rattle.rv_decode.specs.declared.instruction.StoreOp.TheVariants as store_op
use Rattle.rv_decode.specs.declared.instruction.AmoOp.{AmoOp}
use Rattle.rv_decode.specs.declared.instruction.Instr.{Instr}
use Rattle.rv_decode.specs.declared.instruction.Instr.TheVariants.{Load, Store, Amo}
use Rattle.hart.specs.{HartState, advanced, register_value, address, stored, load_width, store_width, updated}
use Rattle.memory.specs.Writes.{write, covers, byte_after}
use Rattle.memory.proofs.Bytes.{covers-from, covers-yes}
use Rattle.step_machine.specs.declared.events.Entry.{Entry}
use Rattle.step_machine.specs.Names.{OpeningValue, load, store, exchange, access_of, number_read}
use Rattle.slot_queue.specs.{Queue, IsQueue, TellsFull, KeepsOff, least_count, slot_of, index, party_of, after_access}
use Rattle.queue_parties.specs.{IsInBytes, the_sender, the_receiver, QueueCounts, known, with_known}
use Rattle.queue_certificates.specs.{OwnWord, View, AllCounts, ReadsFrom, ActsByCounts, view_then, Field, Form, form_value, most, Bounds, KnownValue, any}
use Rattle.queue_certificates.specs.{linear, index_for, signed_for, ends_as, has_bits, no_share, KnownState, Has, HasShare, MeansAt, bounds, all_below}
use Rattle.queue_certificates.specs.{last_below, is_just, anywhere, misses, is_off, is_owned, position_at, offset_at, register_at, operand, address_value}
use Rattle.queue_certificates.specs.{addresses, is_own_index, value_loaded, updated_value, may_move, may_fill, may_store, leaves_words, shares_moved}
use Rattle.queue_certificates.specs.{moved_share, store_by, exchange_by, exchanging, follow, instruction_at, last_number, published_by, filled_by, moves_head}
use Rattle.queue_certificates.specs.{effect_at, effect_of, value_stored, is_number_of, Effect, Leaves, Fills, Publishes, PublishesSome}
use Rattle.queue_certificates.proofs.Values.{has-bounds}
use Rattle.queue_certificates.proofs.Forms.{value-plus}
use Rattle.queue_certificates.proofs.States.{at-below}
use Rattle.queue_certificates.proofs.Accesses.{just-is, hart-party}
use Rattle.queue_certificates.proofs.Stores.{keeps-off, stored-whole, placed-at}
use Rattle.queue_certificates.proofs.Steps.{nobody_told, nothing_sent, IsQuiet, quiet-counts, quiet-view}
use Rattle.queue_certificates.proofs.Steps as steps
use Rattle.queue_certificates.proofs.NextAccess.{Stops, Makes, next-access}
use Rattle.queue_certificates.proofs.Filled.{IsNumberOf, known-number}
use Rattle.queue_certificates.proofs.Effects.{published_then, LeavesSlots, Does, does-leave, does-move, does-exchange, store-leaves}
use Rattle.std.proofs.lemmas.Nat.{mul-le}

loaded-same : (q : Queue) (c : QueueCounts) (a width v : ℕ) → published_then q c (load a width v) ≡ c.published
loaded-same q c a width v = by (a == index q the_receiver && width == q.index_width)
  where
    by : (t : Bool) → (if t then with_known the_sender (least_count q (known the_sender c) v) c else c).published ≡ c.published
    by true = refl
    by false = refl

chosen : {A : Type 0} (t : Bool) (x y : A) → (if t then Some x else None) ≡ Some y → t ≡ true
chosen true x y is = refl
chosen false x y is = absurd (cc)

module _ (M : ℕ) (o : OpeningValue) (queues : ℕ → Queue) (N : ℕ) (own_of : ℕ → List OwnWord) (H i : ℕ) (less : i < N) (xs : List ℕ)
    (k : KnownState) (s : HartState) (m : View) (cs : AllCounts) (e : Entry)
    (acts : ActsByCounts M o N queues nobody_told nothing_sent (queues i).sender s m cs e) (size : 32 ≤ length s.registers)
    (fine : (j : ℕ) → j < N → IsQueue (queues j) × TellsFull (queues j) × ((queues j).index_width ≤ 4))
    (means : MeansAt queues N (own_of (queues i).sender) (queues i).sender xs k s m cs)
    (past : (g : ℕ) → H ≤ g → length (own_of g) ≡ 0) where
  abbrev h : ℕ
  h = (queues i).sender

  has : HasShare (queues i) the_sender (cs i) xs (get_or k.shares i no_share)
  has = means.shares i less the_sender refl

  -- what is known of a register, where an address points, which index is stored to, and what an AMO stores
  abbrev held : Reg → KnownValue
  held r = operand queues k r

  abbrev place-of : Reg → ℤ → KnownValue
  place-of r offset = address_value queues k r offset

  abbrev around : Reg → ℤ → Bounds
  around r offset = addresses queues k r offset

  abbrev index-at : Bounds → (width : ℕ) → Option ℕ
  index-at b width = last_below N (is_own_index queues h b width)

  abbrev updates : AmoOp → Bounds → Reg → KnownValue
  updates op b r = updated_value queues k.ranges op (value_loaded queues N own_of h k b 4) (register_at k r)

  operand-has : (r : Reg) → Has queues xs (held r) (register_value s.registers r)
  operand-has = steps.operand-has M o queues N own_of H h xs k s m cs e acts size fine means

  -- ---- a store, of an instruction or of an AMO

  module _ (d : Form) (op : StoreOp) (a x : ℕ) (vx place : KnownValue) (b : Bounds) (at : Has queues xs place a) (low : b.low ≤ a)
      (high : a ≤ b.high) (has-x : Has queues xs vx x)
      (may : all_below N (may_store queues h k d vx place b (store_width op) (index-at b (store_width op))) ≡ true)
      (apart : all_below H (leaves_words own_of h b (store_width op)) ≡ true) (u : KnownValue) (has-u : Has queues xs u x) where
    share : HasShare (queues i) the_sender (after_access (queues i) (Some the_sender) (store (write a (store_width op) (stored op x))) (cs i)) xs
        (get_or (shares_moved k.shares d (index-at b (store_width op))) i no_share)
    share =
        (steps.party-store M o queues N own_of H h xs k s m cs e acts size fine
        means d op a x vx place b (index-at b (store_width op)) at low high
        has-x refl may apart past i less the_sender refl).share

    -- the number that is stored
    number-stored : (f : Field) → f.width ≡ store_width op → last_number f < 256 ^ f.width → is_number_of k.ranges u f ≡ true → IsNumberOf f (stored op x)
    number-stored f wide small ok =
        let n = known-number queues k.ranges xs means.ranges u f x has-u ok in
        let upto : f.step * n.0 ≤ f.step * f.count = mul-le f.step n.0 f.step f.count (omega arith) n.1 in
        let low : x < 256 ^ f.width = omega (arith, n.2, upto, small) in
        (n.0, n.1, stored-whole op x (subst (λ w. x < 256 ^ w) wide low) ∙ n.2)

    stored-does : (f : Effect) (z : HartState) → effect_at queues N i k d place b (store_width op) ≡ Some f
        → Does (queues i) (cs i) k.ranges u m f (store (write a (store_width op) (stored op x))) z
    stored-does f z effect = by (moves_head queues N i b (store_width op)) refl
        (at-below N (may_store queues h k d vx place b (store_width op) (index-at b (store_width op))) may i less) effect
      where
        moved : is_just (index-at b (store_width op)) i ≡ true → i < length k.shares
            → get_or (shares_moved k.shares d (index-at b (store_width op))) i no_share ≡ moved_share (get_or k.shares i no_share) d
        moved moves short = ap (λ j. get_or (shares_moved k.shares d j) i no_share) (just-is (index-at b (store_width op)) i moves)
            ∙ steps.set-share M o queues N own_of H h xs k s m cs e acts size fine means k.shares d i short

        -- the head is none of the slots
        off-head : is_just (index-at b (store_width op)) i ≡ true → LeavesSlots (queues i) m (store (write a (store_width op) (stored op x)))
        off-head moves = store-leaves (queues i) m (write a (store_width op) (stored op x)) (λ y in-slots.
            at-byte y in-slots (covers (write a (store_width op) (stored op x)) y) refl)
          where
            there : (b.low ≡ b.high) × (a ≡ index (queues i) the_sender) × (store_width op ≡ (queues i).index_width)
            there = steps.moved-here M o queues N own_of H h xs k s m cs e acts size fine means d op a x vx place b (index-at b (store_width op)) at low high
                has-x refl may apart past i moves the_sender refl less

            at-byte : (y : ℕ) → IsInBytes (queues i).slots ((queues i).size * (queues i).width) y → (t : Bool)
                → covers (write a (store_width op) (stored op x)) y ≡ t → t ≡ false
            at-byte y in-slots false is = refl
            at-byte y in-slots true on = absurd (
                let on-bytes = covers-from (write a (store_width op) (stored op x)) y on in
                elim (fine i less).0.head_apart [
                  | inl below ↦ omega (arith, below, in-slots.0, on-bytes.1, there.1, there.2)
                  | inr above ↦ omega (arith, above, in-slots.1, on-bytes.0, there.1)
                ])

        bounded : (bound : Option ℕ) → most k.ranges d ≡ bound → is_just (index-at b (store_width op)) i ≡ true → i < length k.shares
            → published_by d bound ≡ Some f → Does (queues i) (cs i) k.ranges u m f (store (write a (store_width op) (stored op x))) z
        bounded None bound moves short effect = absurd (cc)
        bounded (Some n) bound moves short effect =
            subst (λ g. Does (queues i) (cs i) k.ranges u m g (store (write a (store_width op) (stored op x))) z)
            (let same : (if n == d.constant then Publishes n else PublishesSome n) ≡ f = cc in same)
            (does-move (queues i) (cs i) k.ranges xs means.ranges u m d (store (write a (store_width op) (stored op x))) z
            (share.own ∙ ap (λ t. form_value t.own xs) (moved moves short) ∙ value-plus (get_or k.shares i no_share).own d xs
            ∙ ap (λ n. n + form_value d xs) (sym has.own)) (off-head moves) n bound)

        -- beside the queue, or in an owned slot
        fills : is_just (index-at b (store_width op)) i ≡ false → (pl : KnownValue) → Has queues xs pl a
            → (is_off (queues i) b (store_width op) ≡ true) ⊎ (is_owned k.ranges (queues i) (get_or k.shares i no_share) pl (store_width op) ≡ true)
            → Does (queues i) (cs i) k.ranges u m (filled_by k.ranges (queues i) (get_or k.shares i no_share) pl (store_width op))
            (store (write a (store_width op) (stored op x))) z
        fills other pl at-pl or = by-place pl at-pl or
          where
            same : published_then (queues i) (cs i) (store (write a (store_width op) (stored op x))) ≡ (cs i).published
            same = share.own ∙ ap (λ t. form_value t.own xs) (steps.left-share M o queues N own_of H h xs k s m cs e acts
                size fine means k.shares d (index-at b (store_width op)) i other) ∙ sym has.own

            beside : is_off (queues i) b (store_width op) ≡ true
                → Does (queues i) (cs i) k.ranges u m Leaves (store (write a (store_width op) (stored op x))) z
            beside off = does-leave (queues i) (cs i) k.ranges u m (store (write a (store_width op) (stored op x))) z same
                (store-leaves (queues i) m (write a (store_width op) (stored op x)) (λ y in-slots.
                off-byte y in-slots (covers (write a (store_width op) (stored op x)) y) refl))
              where
                keeps : KeepsOff (queues i) (write a (store_width op) (stored op x))
                keeps = keeps-off (queues i) b (store_width op) a (stored op x) off low high

                off-byte : (y : ℕ) → IsInBytes (queues i).slots ((queues i).size * (queues i).width) y → (t : Bool)
                    → covers (write a (store_width op) (stored op x)) y ≡ t → t ≡ false
                off-byte y in-slots false is = refl
                off-byte y in-slots true on = absurd ((keeps y on).slots in-slots)

            owned-or : (g : Form) → Has queues xs (linear g) a → (t : Bool)
                → is_owned k.ranges (queues i) (get_or k.shares i no_share) (linear g) (store_width op) ≡ t
                → (is_off (queues i) b (store_width op) ≡ true) ⊎ (t ≡ true)
                → Does (queues i) (cs i) k.ranges u m
                (if t then Fills (position_at (queues i) (get_or k.shares i no_share).own.constant g.constant)
                (offset_at (queues i) g.constant) (store_width op)
                else Leaves) (store (write a (store_width op) (stored op x))) z
            owned-or g at-g false not (inl off) = beside off
            owned-or g at-g false not (inr owned) = absurd (cc)
            owned-or g at-g true owned or =
                let there = placed-at (queues i) (fine i less).0 the_sender (cs i) xs (get_or k.shares i no_share) has queues k.ranges means.ranges
                g a (store_width op) at-g owned in
                record {
                  upto = omega (arith, same);
                  done = λ runs. (
                    same,
                    record {
                      written = record {
                        value = stored op x;
                        near = there.near;
                        fits = there.fits;
                        after = λ y. ap (λ n. byte_after (write n (store_width op) (stored op x)) y (m y)) there.place;
                      };
                      number = number-stored;
                      bytes = λ n from below. covers-yes (write a (store_width op) (stored op x)) (slot_of (queues i) ((cs i).published
                          + position_at (queues i) (get_or k.shares i no_share).own.constant g.constant) + n)
                          (omega (arith, there.place, from)) (omega (arith, there.place, below));
                    },
                  );
                }

            by-place : (pl : KnownValue) → Has queues xs pl a
                → (is_off (queues i) b (store_width op) ≡ true) ⊎ (is_owned k.ranges (queues i) (get_or k.shares i no_share) pl (store_width op) ≡ true)
                → Does (queues i) (cs i) k.ranges u m (filled_by k.ranges (queues i) (get_or k.shares i no_share) pl (store_width op))
                (store (write a (store_width op) (stored op x))) z
            by-place any at-pl (inr owned) = absurd (cc)
            by-place (index_for j g) at-pl (inr owned) = absurd (cc)
            by-place (signed_for j g) at-pl (inr owned) = absurd (cc)
            by-place (ends_as n g) at-pl (inr owned) = absurd (cc)
            by-place (has_bits n c) at-pl (inr owned) = absurd (cc)
            by-place (linear g) at-pl or = owned-or g at-pl (is_owned k.ranges (queues i) (get_or k.shares i no_share) (linear g) (store_width op)) refl or
            by-place other at-pl (inl off) = beside off

        by : (t : Bool) → moves_head queues N i b (store_width op) ≡ t
            → (if t then may_move queues k d vx i (get_or k.shares i no_share)
            else (is_off (queues i) b (store_width op) || may_fill queues k (party_of (queues i) h) place (store_width op) i)) ≡ true
            → (if t then published_by d (most k.ranges d)
            else Some (filled_by k.ranges (queues i) (get_or k.shares i no_share) place (store_width op))) ≡ Some f
            → Does (queues i) (cs i) k.ranges u m f (store (write a (store_width op) (stored op x))) z
        by true moves ok effect = bounded (most k.ranges d) refl moves (ltb-true i (length k.shares) (and_parts _ _ ok).1) effect
        by false other ok effect = subst (λ g. Does (queues i) (cs i) k.ranges u m g (store (write a (store_width op) (stored op x))) z)
            (let same : filled_by k.ranges (queues i) (get_or k.shares i no_share) place (store_width op) ≡ f = cc in same)
            (fills other place at (elim (or_cases (is_off (queues i) b (store_width op))
            (may_fill queues k (party_of (queues i) h) place (store_width op) i) ok) [
              | inl off ↦ inl off
              | inr fill ↦ inr (subst (λ t. may_fill queues k t place (store_width op) i ≡ true)
                  (hart-party (queues i) (fine i less).0 h the_sender refl) fill)
            ]))

  -- ---- instructions

  abbrev DoesIt : KnownValue → Effect → Type 0
  DoesIt u f = Does (queues i) (cs i) k.ranges u m f (access_of e) (advanced s (number_read e))

  quiet-same : IsQuiet (access_of e) → published_then (queues i) (cs i) (access_of e) ≡ (cs i).published
  quiet-same quiet = ap (λ c. c.published) (quiet-counts (queues i) (Some the_sender) (access_of e) (cs i) quiet)

  stop-does : (u : KnownValue) (f : Effect) → Stops (access_of e) (advanced s (number_read e)) → DoesIt u f
  stop-does u f stops =
      let same = quiet-same stops.quiet in record {
        upto = omega (arith, same);
        done = λ runs. absurd (stops.ends runs);
      }

  leaving-does : (u : KnownValue) (f : Effect) → published_then (queues i) (cs i) (access_of e) ≡ (cs i).published
      → LeavesSlots (queues i) m (access_of e) → ◌≡◌ {A = Option Effect} (Some Leaves) (Some f) → DoesIt u f
  leaving-does u f same leaves effect = subst (λ g. DoesIt u g) (let is : Leaves ≡ f = cc in is)
      (does-leave (queues i) (cs i) k.ranges u m (access_of e) (advanced s (number_read e)) same leaves)

  store-does : (d : Form) (f : Effect) (op : StoreOp) (rs1 rs2 : Reg) (offset : ℤ) (ks : List KnownState)
      → access_of e ≡ store (write (address (register_value s.registers rs1) offset) (store_width op) (stored op (register_value s.registers rs2)))
      → store_by queues N own_of H h k d (store_width op)
      (register_at k rs2) (place-of rs1 offset) (around rs1 offset) (index-at (around rs1 offset) (store_width op)) ≡ Some ks
      → effect_at queues N i k d (place-of rs1 offset) (around rs1 offset) (store_width op) ≡ Some f → DoesIt (held rs2) f
  store-does d f op rs1 rs2 offset ks access found effect =
      let p = steps.points M o queues N own_of H h xs k s m cs e acts size fine means rs1 offset in
      subst (λ y. Does (queues i) (cs i) k.ranges (held rs2) m f y (advanced s (number_read e))) (sym access)
      (stored-does d op (address (register_value s.registers rs1) offset) (register_value s.registers rs2) (register_at k rs2)
      (place-of rs1 offset) (around rs1 offset)
      (steps.address-has M o queues N own_of H h xs k s m cs e acts size fine means rs1 offset) p.0 p.1
      (steps.register-has M o queues N own_of H h xs k s m cs e acts size fine means rs2)
      (and_parts _ _ (chosen _ _ ks found)).0 (and_parts _ _ (chosen _ _ ks found)).1 (held rs2) (operand-has rs2) f
      (advanced s (number_read e)) effect)

  -- what is checked of an AMO
  exchange-checks : (d : Form) (rd : ℕ) (vx place : KnownValue) (b : Bounds) (move : Option ℕ) (ks : List KnownState)
      → exchange_by queues N own_of H h k d rd vx place b move ≡ Some ks
      → (all_below N (may_store queues h k d vx place b 4 move) ≡ true)
      × (all_below H (leaves_words own_of h b 4) ≡ true)
      × (all_below N (λ j. misses (queues j) (party_of (queues j) h) b 4) ≡ true)
  exchange-checks d rd vx place b move ks found = grind (arith, and_parts, chosen)

  amo-does : (d : Form) (f : Effect) (op : AmoOp) (rd rs1 rs2 : Reg) (ks : List KnownState)
      → access_of e ≡ exchange (register_value s.registers rs1) (number_read e) (updated op (number_read e) (register_value s.registers rs2))
      → exchanging queues N own_of H h k d op rd.number (register_at k rs2) (held rs1) (bounds k.ranges (held rs1)) ≡ Some ks
      → effect_at queues N i k d (held rs1) (anywhere (bounds k.ranges (held rs1))) 4 ≡ Some f → DoesIt any f
  amo-does d f op rd rs1 rs2 ks access found effect = by (bounds k.ranges (held rs1)) refl found effect
    where
      go : (b : Bounds) → bounds k.ranges (held rs1) ≡ Some b
          → exchange_by queues N own_of H h k d rd.number (updates op b rs2) (held rs1) b (index-at b 4) ≡ Some ks
          → effect_at queues N i k d (held rs1) b 4 ≡ Some f → DoesIt any f
      go b is-b found effect =
          let p = has-bounds queues k.ranges xs (held rs1) (register_value s.registers rs1) b means.ranges is-b (operand-has rs1) in
          let checks = exchange-checks d rd.number (updates op b rs2) (held rs1) b (index-at b 4) ks found in
          let old : Has queues xs (value_loaded queues N own_of h k b 4) (number_read e) =
          steps.value-loaded M o queues N own_of H h xs k s m cs e acts
          size fine means b 4 (register_value s.registers rs1) (number_read e) p.0 p.1
          (subst (ReadsFrom m) access acts.reads) in
          subst (λ y. Does (queues i) (cs i) k.ranges any m f y (advanced s (number_read e))) (sym access)
          (does-exchange (queues i) (cs i) k.ranges any m f b (register_value s.registers rs1) (number_read e)
          (updated op (number_read e) (register_value s.registers rs2)) (advanced s (number_read e))
          (subst (λ t. misses (queues i) t b 4 ≡ true) (hart-party (queues i) (fine i less).0 h the_sender refl)
          (at-below N (λ j. misses (queues j) (party_of (queues j) h) b 4) checks.2 i less)) p.0 p.1
          (stored-does d store_op.Word (register_value s.registers rs1) (updated op (number_read e) (register_value s.registers rs2)) (updates op b rs2)
          (held rs1) b (operand-has rs1) p.0 p.1
          (steps.updated-has M o queues N own_of H h xs k s m cs e acts
          size fine means op (value_loaded queues N own_of h k b 4) (register_at k rs2) (number_read e) (register_value s.registers rs2) old
          (steps.register-has M o queues N own_of H h xs k s m cs e acts size fine means rs2))
          checks.0 checks.1 any tt f (advanced s (number_read e)) effect))

      by : (bs : Option Bounds) → bounds k.ranges (held rs1) ≡ bs
          → exchanging queues N own_of H h k d op rd.number (register_at k rs2) (held rs1) bs ≡ Some ks
          → effect_at queues N i k d (held rs1) (anywhere bs) 4 ≡ Some f → DoesIt any f
      by None is-b found effect = absurd (cc)
      by (Some b) is-b found effect = go b is-b found effect

  -- whatever the pc says
  pub state-does : (d : Form) (f : Effect) (ks : List KnownState)
      → follow queues N own_of H h k d (instruction_at s.code k.pc) ≡ Some ks
      → effect_of queues N i k d (instruction_at s.code k.pc) ≡ Some f → DoesIt (value_stored queues k (instruction_at s.code k.pc)) f
  state-does d f ks found effect = subst (λ n. DoesIt (value_stored queues k (instruction_at s.code n)) f) means.pc
      (by (instruction_at s.code s.pc) (next-access s e acts.can)
      (subst (λ n. follow queues N own_of H h k d (instruction_at s.code n) ≡ Some ks) (sym means.pc) found)
      (subst (λ n. effect_of queues N i k d (instruction_at s.code n) ≡ Some f) (sym means.pc) effect))
    where
      by : (j : Option Instr) → Makes s (number_read e) j (access_of e) (advanced s (number_read e)) → follow queues N own_of H h k d j ≡ Some ks
          → effect_of queues N i k d j ≡ Some f → DoesIt (value_stored queues k j) f
      by (Some (Store op rs1 rs2 offset)) made found effect = elim made [
        | inl stops ↦ stop-does (held rs2) f stops
        | inr access ↦ store-does d f op rs1 rs2 offset ks access found effect
      ]
      by (Some (Amo op rd rs1 rs2 aq rl)) made found effect = elim made [
        | inl stops ↦ stop-does any f stops
        | inr access ↦ amo-does d f op rd rs1 rs2 ks access found effect
      ]
      by (Some (Load op rd rs1 offset)) made found effect = elim made [
        | inl stops ↦ stop-does any f stops
        | inr access ↦ leaving-does any f (ap (published_then (queues i) (cs i)) access
            ∙ loaded-same (queues i) (cs i) (address (register_value s.registers rs1) offset) (load_width op) (number_read e))
            (λ x at. ap (λ y. view_then y m x) access) effect
      ]
      by j made found effect = leaving-does any f (quiet-same made) (λ x at. quiet-view m (access_of e) x made) effect
