-- What an instruction of a receiver comes to, of a queue with tags: whether it hands its own position back, and the bytes of owned slots
-- that it reads.
use Rattle.std.proofs.Common.{ℕ, ℤ, ◌+◌, ◌<◌, ◌≤◌, ◌≡◌, inl, inr, if◌then◌else◌, Bool, true, false, Option, Some, None, List, length, refl, sym, ◌∙◌, ap, subst}
use Rattle.rv_decode.specs.declared.instruction.Reg.{Reg}
use Rattle.rv_decode.specs.declared.instruction.LoadOp.{LoadOp}
use Rattle.rv_decode.specs.declared.instruction.StoreOp.{StoreOp}
use Rattle.rv_decode.specs.declared.instruction.StoreOp.TheVariants as store_op
use Rattle.rv_decode.specs.declared.instruction.AmoOp.{AmoOp}
use Rattle.rv_decode.specs.declared.instruction.Instr.{Instr}
use Rattle.rv_decode.specs.declared.instruction.Instr.TheVariants.{Load, Store, Amo}
use Rattle.hart.specs.{HartState, advanced, register_value, address, stored, load_width, store_width, updated}
use Rattle.memory.specs.Writes.{write}
use Rattle.step_machine.specs.declared.events.Entry.{Entry}
use Rattle.step_machine.specs.Names.{OpeningValue, Access, nothing, load, store, exchange, fence, land, access_of, number_read}
use Rattle.queue_parties.specs.{IsInBytes, Party, the_receiver, QueueCounts}
use Rattle.certified_runs.specs.Views.{LoadsByte}
use Rattle.slot_queue.specs.Queues.{Queue, IsQueue, TellsFull}
use Rattle.slots_that_tell.specs.Slots.{Slots, IsSlots, tagged_slot}
use Rattle.slots_that_tell.specs.Telling.{owned_end, moved, told_access}
use Rattle.slots_that_tell.proofs.Owned.{loaded-count}
use Rattle.queue_layouts.specs.Tagged.{slots_of}
use Rattle.queue_layouts.specs.declared.tagged.TaggedQueue.{TaggedQueue}
use Rattle.queue_certificates.specs.{View, AllCounts, ActsByCounts, Form, Bounds, KnownValue, any, Share, KnownState, Has, MeansAt, bounds, is_just, anywhere}
use Rattle.queue_certificates.specs.{register_at, operand, share_at, address_value, addresses, updated_value, exchanging, follow, instruction_at, bare}
use Rattle.queue_certificates.specs.{party_in, is_tagged, HasAtLeast, moved_tag, may_store_all, told_by_store, next_told, filled_by, QueueCertificate, queue_at}
use Rattle.queue_certificates.specs.{tagged_at, own_of, SharesTold}
use Rattle.queue_certificates.specs.declared.effect.Effect.{Effect}
use Rattle.queue_certificates.specs.declared.effect.Effect.TheVariants.{Leaves, Publishes}
use Rattle.queue_certificates.proofs.{has-bounds, nobody_told, nothing_sent, IsQuiet, tagged-fine, teller-is, Stops, Makes, next-access}
use Rattle.queue_certificates.proofs.TagStores.{store-counts}
use Rattle.queue_certificates.proofs.Steps as steps
use Rattle.records_written.specs.{tag_receipt_of, Tagged}
use Rattle.records_written.proofs.Acted.{Acted, DoesByte, acted, stopped}
use Rattle.records_written.proofs.Acted.{bytes-act}
use Rattle.records_written.proofs.ReceivedIndices.{when-some}

-- ---- accesses that are none of memory

quiet-same : (q : Slots) (p : Party) (c : QueueCounts) (y : Access) → IsQuiet y → told_access q (Some p) y c ≡ c
quiet-same q p c nothing quiet = refl
quiet-same q p c (fence full) quiet = refl
quiet-same q p c (load a width v) quiet = absurd quiet
quiet-same q p c (store w) quiet = absurd quiet
quiet-same q p c (exchange a old new) quiet = absurd quiet
quiet-same q p c land quiet = absurd quiet

-- ---- an instruction

module _ (M : ℕ) (o : OpeningValue) (c : QueueCertificate) (t : ℕ) (less : t < length c.tagged) (xs : List ℕ)
    (k : KnownState) (s : HartState) (m : View) (cs us : AllCounts) (e : Entry)
    (acts : ActsByCounts M o (length c.queues) (queue_at c) nobody_told nothing_sent (tagged_at c t).receiver s m cs e) (size : 32 ≤ length s.registers)
    (fine : (j : ℕ) → j < length c.queues → IsQueue (queue_at c j) × TellsFull (queue_at c j) × ((queue_at c j).index_width ≤ 4))
    (means : MeansAt (queue_at c) (length c.queues) (own_of c (tagged_at c t).receiver) (tagged_at c t).receiver xs k s m cs)
    (are : (i : ℕ) → i < length c.tagged → is_tagged (tagged_at c i) ≡ true) (told : SharesTold c (tagged_at c t).receiver xs k us) where
  abbrev queues : ℕ → Queue
  queues = queue_at c

  abbrev N : ℕ
  N = length c.queues

  abbrev T : ℕ
  T = length c.tagged

  abbrev H : ℕ
  H = length c.harts

  abbrev h : ℕ
  h = (tagged_at c t).receiver

  abbrev z : HartState
  z = advanced s (number_read e)

  abbrev q : TaggedQueue
  q = tagged_at c t

  abbrev its : Share
  its = share_at k (length c.queues + t)

  slots : IsSlots (slots_of (tagged_at c t))
  slots = tagged-fine (tagged_at c t) (are t less)

  has : HasAtLeast (tagged_at c t) the_receiver (us t) xs (share_at k (length c.queues + t))
  has = told t less the_receiver refl

  party : party_in (tagged_at c t) (tagged_at c t).receiver ≡ Some the_receiver
  party = teller-is (slots_of (tagged_at c t)) slots h the_receiver refl

  -- how many positions are taken after an access
  abbrev taken : Access → ℕ
  taken y = (told_access (slots_of (tagged_at c t)) (party_in (tagged_at c t) (tagged_at c t).receiver) y (us t)).taken

  taken-is : (y : Access) → taken y ≡ (told_access (slots_of (tagged_at c t)) (Some the_receiver) y (us t)).taken
  taken-is y = ap (λ r. (told_access (slots_of (tagged_at c t)) r y (us t)).taken) party

  abbrev Comes : Effect → Access → Type 0
  Comes f y = Acted (DoesByte c (Tagged t) the_receiver cs us y) (us t).taken (taken y) f z

  abbrev bytes-at : KnownValue → (width : ℕ) → Effect
  bytes-at place width = filled_by k.ranges (bare (tagged_at c t)) its place width

  -- one that leaves them, and loads bytes from a place on
  reads : (place : KnownValue) (a width : ℕ) (y : Access) → Has queues xs place a → taken y ≡ (us t).taken
      → ((x : ℕ) → IsInBytes a width x → LoadsByte y x) → Comes (bytes-at place width) y
  reads place a width y at same loads = bytes-act queues k.ranges xs means.ranges (bare (tagged_at c t)) its (us t).taken
      (owned_end (slots_of (tagged_at c t)) the_receiver (us t)) has.own has.upto (DoesByte c (Tagged t) the_receiver cs us y) (taken y) z place a width at
      same (λ j b before from below. (before, loads (tagged_slot (slots_of (tagged_at c t)) ((us t).taken + j) + b) (from, below)))

  -- ---- a store, of an instruction or of an AMO

  module _ (op : StoreOp) (place u : KnownValue) (b : Bounds) (a x : ℕ) (at : Has queues xs place a) (low : b.low ≤ a) (high : a ≤ b.high)
      (has-x : Has queues xs u x)
      (may : may_store_all (tagged_at c) T N h k u place b (store_width op) (moved_tag (tagged_at c) T N h k place (store_width op)) ≡ true) where
    abbrev move : Option ℕ
    move = moved_tag (tagged_at c) T N h k place (store_width op)

    -- an access that makes of the count what the store does, and reads
    stored-comes : (y : Access) (rest : Effect) → taken y ≡ moved (slots_of (tagged_at c t)) (us t).taken (write a (store_width op) (stored op x))
        → (taken y ≡ (us t).taken → Comes rest y) → Comes (if is_just move t then Publishes 1 else rest) y
    stored-comes y rest same reads = by (is_just move t) refl
      where
        counts : (r : Bool) → is_just move t ≡ r → taken y ≡ (if r then (us t).taken + 1 else (us t).taken)
        counts r is = same ∙ store-counts (tagged_at c) T queues N (own_of c) H h xs k us are told means.ranges op place u b a x at low high has-x move refl
            may t less the_receiver refl r is

        by : (r : Bool) → is_just move t ≡ r → Comes (if r then Publishes 1 else rest) y
        by true is = acted (DoesByte c (Tagged t) the_receiver cs us y) (us t).taken (taken y) (Publishes 1) z (counts true is)
        by false is = reads (counts false is)

  -- ---- instructions

  store-comes : (op : StoreOp) (rs1 rs2 : Reg) (offset : ℤ) (next : Option (List KnownState)) (ts : List KnownState)
      → access_of e ≡ store (write (address (register_value s.registers rs1) offset) (store_width op) (stored op (register_value s.registers rs2)))
      → next_told (tagged_at c) T queues N (own_of c) H h k (Some (Store op rs1 rs2 offset)) next ≡ Some ts
      → Comes (tag_receipt_of c t k (Some (Store op rs1 rs2 offset))) (access_of e)
  unfolding told_by_store
  store-comes op rs1 rs2 offset None ts access told = absurd (cc)
  store-comes op rs1 rs2 offset (Some ks) ts access told =
      let p = steps.points M o queues N (own_of c) H h xs k s m cs e acts size fine means rs1 offset in
      let y : Access = store (write (address (register_value s.registers rs1) offset) (store_width op) (stored op (register_value s.registers rs2))) in
      subst (Comes (tag_receipt_of c t k (Some (Store op rs1 rs2 offset)))) (sym access)
      (stored-comes op (address_value queues k rs1 offset) (operand queues k rs2) (addresses queues k rs1 offset)
      (address (register_value s.registers rs1) offset) (register_value s.registers rs2)
      (steps.address-has M o queues N (own_of c) H h xs k s m cs e acts size fine means rs1 offset) p.0 p.1
      (steps.operand-has M o queues N (own_of c) H h xs k s m cs e acts size fine means rs2) (when-some _ _ ts told)
      y Leaves (taken-is y) (λ same. acted (DoesByte c (Tagged t) the_receiver cs us y) (us t).taken (taken y) Leaves z same))

  amo-comes : (d : Form) (op : AmoOp) (rd rs1 rs2 : Reg) (aq rl : Bool) (next : Option (List KnownState)) (ks ts : List KnownState)
      → access_of e ≡ exchange (register_value s.registers rs1) (number_read e) (updated op (number_read e) (register_value s.registers rs2))
      → exchanging queues N (own_of c) H h k d op rd.number (register_at k rs2) (operand queues k rs1) (bounds k.ranges (operand queues k rs1)) ≡ Some ks
      → next_told (tagged_at c) T queues N (own_of c) H h k (Some (Amo op rd rs1 rs2 aq rl)) next ≡ Some ts
      → Comes (tag_receipt_of c t k (Some (Amo op rd rs1 rs2 aq rl))) (access_of e)
  amo-comes d op rd rs1 rs2 aq rl None ks ts access found told = absurd (cc)
  amo-comes d op rd rs1 rs2 aq rl (Some js) ks ts access found told = by (bounds k.ranges held) refl found (when-some _ _ ts told)
    where
      held : KnownValue
      held = operand queues k rs1

      a : ℕ
      a = register_value s.registers rs1

      old : ℕ
      old = number_read e

      new : ℕ
      new = updated op (number_read e) (register_value s.registers rs2)

      has-a : Has queues xs (operand queues k rs1) (register_value s.registers rs1)
      has-a = steps.operand-has M o queues N (own_of c) H h xs k s m cs e acts size fine means rs1

      has-new : Has queues xs (updated_value queues k.ranges op any (operand queues k rs2))
          (updated op (number_read e) (register_value s.registers rs2))
      has-new = steps.updated-has M o queues N (own_of c) H h xs k s m cs e acts size fine means op any (operand queues k rs2) (number_read e)
          (register_value s.registers rs2) tt (steps.operand-has M o queues N (own_of c) H h xs k s m cs e acts size fine means rs2)

      -- its load leaves what is taken
      loaded : taken (exchange a old new) ≡ moved (slots_of (tagged_at c t)) (us t).taken (write a 4 new)
      loaded = taken-is (exchange a old new) ∙ ap (λ n. moved (slots_of (tagged_at c t)) n (write a 4 new))
          (loaded-count (slots_of (tagged_at c t)) the_receiver the_receiver a 4 old (us t))

      by : (bs : Option Bounds) → bounds k.ranges (operand queues k rs1) ≡ bs
          → exchanging queues N (own_of c) H h k d op rd.number (register_at k rs2) (operand queues k rs1) bs ≡ Some ks
          → may_store_all (tagged_at c) T N h k (updated_value queues k.ranges op any (operand queues k rs2)) (operand queues k rs1)
          (anywhere (bounds k.ranges (operand queues k rs1))) 4 (moved_tag (tagged_at c) T N h k (operand queues k rs1) 4) ≡ true
          → Comes (tag_receipt_of c t k (Some (Amo op rd rs1 rs2 aq rl))) (access_of e)
      by None is-b found may = absurd (cc)
      by (Some b) is-b found may =
          let p = has-bounds queues k.ranges xs (operand queues k rs1) a b means.ranges is-b has-a in
          subst (Comes (tag_receipt_of c t k (Some (Amo op rd rs1 rs2 aq rl)))) (sym access)
          (stored-comes store_op.Word (operand queues k rs1) (updated_value queues k.ranges op any (operand queues k rs2)) b a new has-a p.0 p.1 has-new
          (subst (λ bs. may_store_all (tagged_at c) T N h k (updated_value queues k.ranges op any (operand queues k rs2)) (operand queues k rs1)
          (anywhere bs) 4 (moved_tag (tagged_at c) T N h k (operand queues k rs1) 4) ≡ true) is-b may)
          (exchange a old new) (bytes-at (operand queues k rs1) 4) loaded
          (λ same. reads (operand queues k rs1) a 4 (exchange a old new) has-a same (λ x within. within)))

  load-comes : (op : LoadOp) (rd rs1 : Reg) (offset : ℤ)
      → access_of e ≡ load (address (register_value s.registers rs1) offset) (load_width op) (number_read e)
      → Comes (tag_receipt_of c t k (Some (Load op rd rs1 offset))) (access_of e)
  load-comes op rd rs1 offset access =
      let a : ℕ = address (register_value s.registers rs1) offset in
      let y : Access = load (address (register_value s.registers rs1) offset) (load_width op) (number_read e) in
      subst (Comes (tag_receipt_of c t k (Some (Load op rd rs1 offset)))) (sym access)
      (reads (address_value queues k rs1 offset) a (load_width op) y
      (steps.address-has M o queues N (own_of c) H h xs k s m cs e acts size fine means rs1 offset)
      (taken-is y ∙ loaded-count (slots_of (tagged_at c t)) the_receiver the_receiver a (load_width op) (number_read e) (us t)) (λ x within. within))

  quiet-taken : IsQuiet (access_of e) → taken (access_of e) ≡ (us t).taken
  quiet-taken quiet = taken-is (access_of e) ∙ ap (λ d. d.taken) (quiet-same (slots_of (tagged_at c t)) the_receiver (us t) (access_of e) quiet)

  stops-comes : (f : Effect) → Stops (access_of e) z → Comes f (access_of e)
  stops-comes f stops = stopped (DoesByte c (Tagged t) the_receiver cs us (access_of e)) (us t).taken (taken (access_of e)) f z
      (quiet-taken stops.quiet) stops.ends

  -- whatever the pc says
  pub tag-receipt-comes : (d : Form) (next : Option (List KnownState)) (ks ts : List KnownState)
      → follow queues N (own_of c) H h k d (instruction_at s.code k.pc) ≡ Some ks
      → next_told (tagged_at c) T queues N (own_of c) H h k (instruction_at s.code k.pc) next ≡ Some ts
      → Comes (tag_receipt_of c t k (instruction_at s.code k.pc)) (access_of e)
  tag-receipt-comes d next ks ts found told = subst (λ n. Comes (tag_receipt_of c t k (instruction_at s.code n)) (access_of e)) means.pc
      (by (instruction_at s.code s.pc) (next-access s e acts.can)
      (subst (λ n. follow queues N (own_of c) H h k d (instruction_at s.code n) ≡ Some ks) (sym means.pc) found)
      (subst (λ n. next_told (tagged_at c) T queues N (own_of c) H h k (instruction_at s.code n) next ≡ Some ts) (sym means.pc) told))
    where
      by : (j : Option Instr) → Makes s (number_read e) j (access_of e) z → follow queues N (own_of c) H h k d j ≡ Some ks
          → next_told (tagged_at c) T queues N (own_of c) H h k j next ≡ Some ts → Comes (tag_receipt_of c t k j) (access_of e)
      by (Some (Store op rs1 rs2 offset)) made found told = elim made [
        | inl stops ↦ stops-comes (tag_receipt_of c t k (Some (Store op rs1 rs2 offset))) stops
        | inr access ↦ store-comes op rs1 rs2 offset next ts access told
      ]
      by (Some (Amo op rd rs1 rs2 aq rl)) made found told = elim made [
        | inl stops ↦ stops-comes (tag_receipt_of c t k (Some (Amo op rd rs1 rs2 aq rl))) stops
        | inr access ↦ amo-comes d op rd rs1 rs2 aq rl next ks ts access found told
      ]
      by (Some (Load op rd rs1 offset)) made found told = elim made [
        | inl stops ↦ stops-comes (tag_receipt_of c t k (Some (Load op rd rs1 offset))) stops
        | inr access ↦ load-comes op rd rs1 offset access
      ]
      by j made found told = acted (DoesByte c (Tagged t) the_receiver cs us (access_of e)) (us t).taken (taken (access_of e)) Leaves z (quiet-taken made)
