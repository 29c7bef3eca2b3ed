-- What an instruction of a receiver comes to, of a queue with indices: what it takes, and the bytes of owned slots that it reads.
use Rattle.std.proofs.Common.{ℕ, ℤ, ◌+◌, ◌<◌, ◌≤◌, ◌≡◌, ◌==◌, ◌&&◌, ◌||◌, inl, inr, if◌then◌else◌, Bool, true, false, Option, Some, None, List, length, get_or}
use Rattle.std.proofs.Common.{refl, sym, ◌∙◌, ap, subst, arith}
use Rattle.std.proofs.lemmas.Bool.{and_parts, ltb-true}
use Rattle.rv_decode.specs.declared.instruction.Reg.{Reg}
use Rattle.rv_decode.specs.declared.instruction.LoadOp.{LoadOp}
use Rattle.rv_decode.specs.declared.instruction.StoreOp.{StoreOp}
use Rattle.rv_decode.specs.declared.instruction.StoreOp.TheVariants as store_op
use Rattle.rv_decode.specs.declared.instruction.AmoOp.{AmoOp}
use Rattle.rv_decode.specs.declared.instruction.Instr.{Instr}
use Rattle.rv_decode.specs.declared.instruction.Instr.TheVariants.{Load, Store, Amo}
use Rattle.hart.specs.{HartState, advanced, register_value, address, stored, load_width, store_width, updated}
use Rattle.memory.specs.declared.writes.Write.{Write}
use Rattle.memory.specs.Writes.{write}
use Rattle.step_machine.specs.declared.events.Entry.{Entry}
use Rattle.step_machine.specs.Names.{OpeningValue, Access, load, store, exchange, access_of, number_read}
use Rattle.queue_parties.specs.{IsInBytes, the_sender, the_receiver, QueueCounts, known, with_known}
use Rattle.certified_runs.specs.Views.{LoadsByte}
use Rattle.slot_queue.specs.{Queue, IsQueue, TellsFull, least_count, slot_of, index, end, party_of, after_access}
use Rattle.queue_certificates.specs.{View, AllCounts, ReadsFrom, ActsByCounts, Form, form_value, most, Bounds, KnownValue, no_share, KnownState, Has, HasShare}
use Rattle.queue_certificates.specs.{MeansAt, bounds, all_below, last_below, is_just, anywhere, misses, register_at, operand, share_at, address_value}
use Rattle.queue_certificates.specs.{addresses, is_own_index, value_loaded, updated_value, may_move, may_store, leaves_words, is_off, may_fill, shares_moved}
use Rattle.queue_certificates.specs.{exchange_by, exchanging, follow, instruction_at, storing, published_by, filled_by, QueueCertificate, queue_at, own_of}
use Rattle.queue_certificates.specs.declared.effect.Effect.{Effect}
use Rattle.queue_certificates.specs.declared.effect.Effect.TheVariants.{Leaves}
use Rattle.queue_certificates.proofs.{has-bounds, value-plus, at-below, just-is, hart-party, missed, nobody_told, nothing_sent, IsQuiet, quiet-counts, Stops}
use Rattle.queue_certificates.proofs.{Makes, next-access}
use Rattle.queue_certificates.proofs.Steps as steps
use Rattle.records_written.specs.{receipt_of, Indexed}
use Rattle.records_written.proofs.Acted.{Acted, DoesByte, acted, stopped, left, moved-by}
use Rattle.records_written.proofs.Acted.{bytes-act}

loaded-taken : (q : Queue) (c : QueueCounts) (a width v : ℕ) → (after_access q (Some the_receiver) (load a width v) c).taken ≡ c.taken
loaded-taken q c a width v = by (a == index q the_sender && width == q.index_width)
  where
    by : (t : Bool) → (if t then with_known the_receiver (least_count q (known the_receiver c) v) c else c).taken ≡ c.taken
    by true = refl
    by false = refl

pub when-some : {A : Type 0} (t : Bool) (x y : A) → (if t then Some x else None) ≡ Some y → t ≡ true
when-some true x y is = refl
when-some false x y is = absurd (cc)

module _ (M : ℕ) (o : OpeningValue) (c : QueueCertificate) (i : ℕ) (less : i < length c.queues) (xs : List ℕ)
    (k : KnownState) (s : HartState) (m : View) (cs us : AllCounts) (e : Entry)
    (acts : ActsByCounts M o (length c.queues) (queue_at c) nobody_told nothing_sent (queue_at c i).receiver s m cs e) (size : 32 ≤ length s.registers)
    (fine : (j : ℕ) → j < length c.queues → IsQueue (queue_at c j) × TellsFull (queue_at c j) × ((queue_at c j).index_width ≤ 4))
    (means : MeansAt (queue_at c) (length c.queues) (own_of c (queue_at c i).receiver) (queue_at c i).receiver xs k s m cs)
    (past : (g : ℕ) → length c.harts ≤ g → length (own_of c g) ≡ 0) where
  abbrev queues : ℕ → Queue
  queues = queue_at c

  abbrev N : ℕ
  N = length c.queues

  abbrev H : ℕ
  H = length c.harts

  abbrev h : ℕ
  h = (queue_at c i).receiver

  abbrev z : HartState
  z = advanced s (number_read e)

  has : HasShare (queue_at c i) the_receiver (cs i) xs (get_or k.shares i no_share)
  has = means.shares i less the_receiver refl

  -- what is known of a register, where an address points, which index is stored to, and what an AMO stores
  abbrev held : Reg → KnownValue
  held r = operand queues k r

  abbrev index-at : Bounds → (width : ℕ) → Option ℕ
  index-at b width = last_below N (is_own_index queues h b width)

  abbrev updates : AmoOp → Bounds → Reg → KnownValue
  updates op b r = updated_value queues k.ranges op (value_loaded queues N (own_of c) h k b 4) (register_at k r)

  operand-has : (r : Reg) → Has queues xs (held r) (register_value s.registers r)
  operand-has = steps.operand-has M o queues N (own_of c) H h xs k s m cs e acts size fine means

  -- how many positions are taken after an access
  abbrev taken : Access → ℕ
  taken y = (after_access (queue_at c i) (party_of (queue_at c i) h) y (cs i)).taken

  taken-is : (y : Access) → taken y ≡ (after_access (queue_at c i) (Some the_receiver) y (cs i)).taken
  taken-is y = ap (λ r. (after_access (queue_at c i) r y (cs i)).taken) (hart-party (queue_at c i) (fine i less).0 h the_receiver refl)

  abbrev Comes : Effect → Access → Type 0
  Comes f y = Acted (DoesByte c (Indexed i) the_receiver cs us y) (cs i).taken (taken y) f z

  -- one that leaves them, and loads bytes from a place on
  reads : (place : KnownValue) (a width : ℕ) (y : Access) → Has queues xs place a → taken y ≡ (cs i).taken
      → ((x : ℕ) → IsInBytes a width x → LoadsByte y x) → Comes (filled_by k.ranges (queue_at c i) (share_at k i) place width) y
  reads place a width y at same loads =
      bytes-act queues k.ranges xs means.ranges (queue_at c i) (share_at k i) (cs i).taken (end (queue_at c i) the_receiver (cs i)) has.own
      (let upto : end (queue_at c i) the_receiver (cs i) ≡ form_value (share_at k i).own xs + form_value (share_at k i).owned xs = has.upto in
      omega (arith, upto)) (DoesByte c (Indexed i) the_receiver cs us y) (taken y) z place a width at same
      (λ j b before from below. (before, loads (slot_of (queue_at c i) ((cs i).taken + j) + b) (from, below)))

  -- ---- a store, of an instruction or of an AMO

  module _ (d : Form) (op : StoreOp) (a x : ℕ) (vx place : KnownValue) (b : Bounds) (at : Has queues xs place a) (low : b.low ≤ a)
      (high : a ≤ b.high) (has-x : Has queues xs vx x)
      (may : all_below N (may_store queues h k d vx place b (store_width op) (index-at b (store_width op))) ≡ true)
      (apart : all_below H (leaves_words (own_of c) h b (store_width op)) ≡ true) where
    abbrev w : Write
    w = write a (store_width op) (stored op x)

    share : HasShare (queue_at c i) the_receiver (after_access (queue_at c i) (Some the_receiver) (store w) (cs i)) xs
        (get_or (shares_moved k.shares d (index-at b (store_width op))) i no_share)
    share = (steps.party-store M o queues N (own_of c) H h xs k s m cs e acts size fine means d op a x vx place b
        (index-at b (store_width op)) at low high has-x refl may apart past i less the_receiver refl).share

    listed : is_just (index-at b (store_width op)) i ≡ true → i < length k.shares
    listed just = by (is_just (index-at b (store_width op)) i) just
        (at-below N (may_store queues h k d vx place b (store_width op) (index-at b (store_width op))) may i less)
      where
        by : (t : Bool) → t ≡ true
            → (if t then may_move queues k d vx i (get_or k.shares i no_share)
            else (is_off (queue_at c i) b (store_width op) || may_fill queues k (party_of (queue_at c i) h) place (store_width op) i)) ≡ true
            → i < length k.shares
        by false unlike ok = absurd (cc)
        by true same ok = ltb-true i (length k.shares) (and_parts _ _ ok).1

    moves : is_just (index-at b (store_width op)) i ≡ true
        → (after_access (queue_at c i) (Some the_receiver) (store w) (cs i)).taken ≡ (cs i).taken + form_value d xs
    moves just = share.own ∙ ap (λ t. form_value t.own xs)
        (ap (λ j. get_or (shares_moved k.shares d j) i no_share) (just-is (index-at b (store_width op)) i just)
        ∙ steps.set-share M o queues N (own_of c) H h xs k s m cs e acts size fine means k.shares d i (listed just))
        ∙ value-plus (get_or k.shares i no_share).own d xs ∙ ap (λ n. n + form_value d xs) (sym has.own)

    stays : is_just (index-at b (store_width op)) i ≡ false
        → (after_access (queue_at c i) (Some the_receiver) (store w) (cs i)).taken ≡ (cs i).taken
    stays off = share.own ∙ ap (λ t. form_value t.own xs)
        (steps.left-share M o queues N (own_of c) H h xs k s m cs e acts size fine means k.shares d (index-at b (store_width op)) i off) ∙ sym has.own

    -- an access that makes of the count what the store does, and reads
    stored-comes : (y : Access) (f rest : Effect) → taken y ≡ (after_access (queue_at c i) (Some the_receiver) (store w) (cs i)).taken
        → (taken y ≡ (cs i).taken → Comes rest y)
        → (if is_just (index-at b (store_width op)) i then published_by d (most k.ranges d) else Some rest) ≡ Some f → Comes f y
    stored-comes y f rest same reads effect = by (is_just (index-at b (store_width op)) i) refl effect
      where
        by : (t : Bool) → is_just (index-at b (store_width op)) i ≡ t
            → (if t then published_by d (most k.ranges d) else Some rest) ≡ Some f → Comes f y
        by true just effect = moved-by (DoesByte c (Indexed i) the_receiver cs us y) (cs i).taken (taken y) k.ranges xs means.ranges d f z
            (same ∙ moves just) effect
        by false off effect = subst (λ g. Comes g y) (let is : rest ≡ f = cc in is) (reads (same ∙ stays off))

  -- ---- instructions

  store-comes : (d : Form) (f : Effect) (op : StoreOp) (rs1 rs2 : Reg) (offset : ℤ) (ks : List KnownState)
      → access_of e ≡ store (write (address (register_value s.registers rs1) offset) (store_width op) (stored op (register_value s.registers rs2)))
      → storing queues N (own_of c) H h k d (store_width op) (register_at k rs2) (address_value queues k rs1 offset) (addresses queues k rs1 offset) ≡ Some ks
      → receipt_of c i k d (Some (Store op rs1 rs2 offset)) ≡ Some f → Comes f (access_of e)
  store-comes d f op rs1 rs2 offset ks access found effect =
      let p = steps.points M o queues N (own_of c) H h xs k s m cs e acts size fine means rs1 offset in
      let checks = and_parts _ _ (when-some _ _ ks found) in
      let y : Access = store (write (address (register_value s.registers rs1) offset) (store_width op) (stored op (register_value s.registers rs2))) in
      subst (Comes f) (sym access)
      (stored-comes d op (address (register_value s.registers rs1) offset) (register_value s.registers rs2) (register_at k rs2)
      (address_value queues k rs1 offset) (addresses queues k rs1 offset)
      (steps.address-has M o queues N (own_of c) H h xs k s m cs e acts size fine means rs1 offset) p.0 p.1
      (steps.register-has M o queues N (own_of c) H h xs k s m cs e acts size fine means rs2) checks.0 checks.1 y f Leaves
      (taken-is y) (λ same. acted (DoesByte c (Indexed i) the_receiver cs us y) (cs i).taken (taken y) Leaves z same) effect)

  amo-comes : (d : Form) (f : Effect) (op : AmoOp) (rd rs1 rs2 : Reg) (aq rl : Bool) (ks : List KnownState)
      → access_of e ≡ exchange (register_value s.registers rs1) (number_read e) (updated op (number_read e) (register_value s.registers rs2))
      → exchanging queues N (own_of c) H h k d op rd.number (register_at k rs2) (held rs1) (bounds k.ranges (held rs1)) ≡ Some ks
      → receipt_of c i k d (Some (Amo op rd rs1 rs2 aq rl)) ≡ Some f → Comes f (access_of e)
  amo-comes d f op rd rs1 rs2 aq rl ks access found effect = by (bounds k.ranges (held rs1)) refl found effect
    where
      a : ℕ
      a = register_value s.registers rs1

      old : ℕ
      old = number_read e

      new : ℕ
      new = updated op (number_read e) (register_value s.registers rs2)

      go : (b : Bounds) → bounds k.ranges (held rs1) ≡ Some b
          → exchange_by queues N (own_of c) H h k d rd.number (updates op b rs2) (held rs1) b (index-at b 4) ≡ Some ks
          → (if is_just (index-at b 4) i then published_by d (most k.ranges d)
          else Some (filled_by k.ranges (queue_at c i) (share_at k i) (held rs1) 4)) ≡ Some f → Comes f (exchange a old new)
      go b is-b found effect =
          let p = has-bounds queues k.ranges xs (held rs1) a b means.ranges is-b (operand-has rs1) in
          let checks = and_parts _ _ (when-some _ _ ks found) in
          let stores = and_parts _ _ checks.0 in
          let value : Has queues xs (value_loaded queues N (own_of c) h k b 4) old =
          steps.value-loaded M o queues N (own_of c) H h xs k s m cs e acts size fine means b 4 a old p.0 p.1 (subst (ReadsFrom m) access acts.reads) in
          let off : misses (queue_at c i) (Some the_receiver) b 4 ≡ true =
          subst (λ t. misses (queue_at c i) t b 4 ≡ true) (hart-party (queue_at c i) (fine i less).0 h the_receiver refl)
          (at-below N (λ j. misses (queues j) (party_of (queues j) h) b 4) checks.1 i less) in
          stored-comes d store_op.Word a new (updates op b rs2) (held rs1) b (operand-has rs1) p.0 p.1
          (steps.updated-has M o queues N (own_of c) H h xs k s m cs e acts size fine means op (value_loaded queues N (own_of c) h k b 4)
          (register_at k rs2) old (register_value s.registers rs2) value
          (steps.register-has M o queues N (own_of c) H h xs k s m cs e acts size fine means rs2))
          stores.0 stores.1 (exchange a old new) f (filled_by k.ranges (queue_at c i) (share_at k i) (held rs1) 4)
          (taken-is (exchange a old new) ∙ ap (λ d. (after_access (queue_at c i) (Some the_receiver) (store (write a 4 new)) d).taken)
          (missed (queue_at c i) (Some the_receiver) b a 4 old (cs i) off p.0 p.1))
          (λ same. reads (held rs1) a 4 (exchange a old new) (operand-has rs1) same (λ x within. within)) effect

      by : (bs : Option Bounds) → bounds k.ranges (held rs1) ≡ bs
          → exchanging queues N (own_of c) H h k d op rd.number (register_at k rs2) (held rs1) bs ≡ Some ks
          → (if is_just (index-at (anywhere bs) 4) i then published_by d (most k.ranges d)
          else Some (filled_by k.ranges (queue_at c i) (share_at k i) (held rs1) 4)) ≡ Some f → Comes f (access_of e)
      by None is-b found effect = absurd (cc)
      by (Some b) is-b found effect = subst (Comes f) (sym access) (go b is-b found effect)

  load-comes : (d : Form) (f : Effect) (op : LoadOp) (rd rs1 : Reg) (offset : ℤ)
      → access_of e ≡ load (address (register_value s.registers rs1) offset) (load_width op) (number_read e)
      → receipt_of c i k d (Some (Load op rd rs1 offset)) ≡ Some f → Comes f (access_of e)
  load-comes d f op rd rs1 offset access effect =
      let a : ℕ = address (register_value s.registers rs1) offset in
      let y : Access = load (address (register_value s.registers rs1) offset) (load_width op) (number_read e) in
      subst (Comes f) (sym access)
      (subst (λ g. Comes g y)
      (let is : filled_by k.ranges (queue_at c i) (share_at k i) (address_value queues k rs1 offset) (load_width op) ≡ f = cc in is)
      (reads (address_value queues k rs1 offset) a (load_width op) y
      (steps.address-has M o queues N (own_of c) H h xs k s m cs e acts size fine means rs1 offset)
      (taken-is y ∙ loaded-taken (queue_at c i) (cs i) a (load_width op) (number_read e)) (λ x within. within)))

  quiet-taken : IsQuiet (access_of e) → taken (access_of e) ≡ (cs i).taken
  quiet-taken quiet = ap (λ c. c.taken) (quiet-counts (queue_at c i) (party_of (queue_at c i) h) (access_of e) (cs i) quiet)

  stops-comes : (f : Effect) → Stops (access_of e) z → Comes f (access_of e)
  stops-comes f stops = stopped (DoesByte c (Indexed i) the_receiver cs us (access_of e)) (cs i).taken (taken (access_of e)) f z
      (quiet-taken stops.quiet) stops.ends

  -- whatever the pc says
  pub receipt-comes : (d : Form) (f : Effect) (ks : List KnownState)
      → follow queues N (own_of c) H h k d (instruction_at s.code k.pc) ≡ Some ks
      → receipt_of c i k d (instruction_at s.code k.pc) ≡ Some f → Comes f (access_of e)
  receipt-comes d f ks found effect = by (instruction_at s.code s.pc) (next-access s e acts.can)
      (subst (λ n. follow queues N (own_of c) H h k d (instruction_at s.code n) ≡ Some ks) (sym means.pc) found)
      (subst (λ n. receipt_of c i k d (instruction_at s.code n) ≡ Some f) (sym means.pc) effect)
    where
      by : (j : Option Instr) → Makes s (number_read e) j (access_of e) z → follow queues N (own_of c) H h k d j ≡ Some ks
          → receipt_of c i k d j ≡ Some f → Comes f (access_of e)
      by (Some (Store op rs1 rs2 offset)) made found effect = elim made [
        | inl stops ↦ stops-comes f stops
        | inr access ↦ store-comes d f op rs1 rs2 offset ks access found effect
      ]
      by (Some (Amo op rd rs1 rs2 aq rl)) made found effect = elim made [
        | inl stops ↦ stops-comes f stops
        | inr access ↦ amo-comes d f op rd rs1 rs2 aq rl ks access found effect
      ]
      by (Some (Load op rd rs1 offset)) made found effect = elim made [
        | inl stops ↦ stops-comes f stops
        | inr access ↦ load-comes d f op rd rs1 offset access effect
      ]
      by j made found effect = left (DoesByte c (Indexed i) the_receiver cs us (access_of e)) (cs i).taken (taken (access_of e)) f z (quiet-taken made) effect
