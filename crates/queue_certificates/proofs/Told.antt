-- What an instruction comes to where there are queues with tags: one of the states that may follow, and allowed accesses.
use Rattle.std.proofs.Common.{ℕ, ℤ, ◌+◌, ◌<◌, ◌≤◌, ◌≡◌, ◌≢◌, inl, inr, if◌then◌else◌, Bool, true, false, Option, Some, None, List, length, get_or, refl, sym}
use Rattle.std.proofs.Common.{◌∙◌, ap, subst, arith}
use Rattle.std.specs.Prelude.{All}
use Rattle.rv_decode.specs.declared.instruction.Reg.{Reg}
use Rattle.rv_decode.specs.declared.instruction.LoadOp.{LoadOp}
use Rattle.rv_decode.specs.declared.instruction.StoreOp.{StoreOp}
use Rattle.rv_decode.specs.declared.instruction.StoreOp.TheVariants as store_op
use Rattle.rv_decode.specs.declared.instruction.AmoOp.{AmoOp}
use Rattle.rv_decode.specs.declared.instruction.Instr.{Instr}
use Rattle.rv_decode.specs.declared.instruction.Instr.TheVariants.{Load, Store, Amo}
use Rattle.memory.specs.declared.writes.Write.{Write}
use Rattle.memory.specs.Writes.{write}
use Rattle.hart.specs.{HartState, advanced, register_value, address, load_width, stored, store_width, updated}
use Rattle.hart.specs.declared.status.Status.TheVariants as status
use Rattle.step_machine.specs.declared.events.Entry.{Entry}
use Rattle.step_machine.specs.Names.{OpeningValue, Access, nothing, load, store, exchange, fence, land, access_of, number_read}
use Rattle.store_buffers.specs.StoreBuffers.{LeavesByteBy}
use Rattle.slot_queue.specs.{Queue, IsQueue, TellsFull, hart, party_of, after_access, KeepsAccess}
use Rattle.queue_parties.specs.Parties.{Party, the_sender, QueueCounts}
use Rattle.slots_that_tell.specs.Slots.{Slots, IsSlots, tagged_slot}
use Rattle.slots_that_tell.specs.Telling.{teller_hart, told_access, TellsAccess}
use Rattle.slots_that_tell.proofs.Owned.{loaded-count}
use Rattle.queue_certificates.specs.{OwnWord, SeesTags, LoadsRestOwned, View, AllCounts, view_then, ActsByCounts, LoadsOwned, Field, MeetsField, Form, Bounds}
use Rattle.queue_certificates.specs.{KnownValue, any, no_share, KnownState, Has, MeansAt, own_at, bounds, anywhere, operand, address_value, addresses}
use Rattle.queue_certificates.specs.{updated_value, exchanging, register_at, follow, instruction_at, share_at, loads_owned, next_received, party_in, is_tagged}
use Rattle.queue_certificates.specs.{AreTold, told_by_store, next_told, loads_rest, looked_tag, moved_tag, may_store_all, all_handed, store_tells, reads_rest}
use Rattle.queue_certificates.specs.{WritesByte, tag_effect_at, tag_effect_of, Effect, Leaves}
use Rattle.queue_layouts.specs.Tagged.{slots_of}
use Rattle.queue_layouts.specs.declared.tagged.TaggedQueue.{TaggedQueue}
use Rattle.queue_certificates.proofs.Steps.{nobody_told, nothing_sent, IsQuiet, Goes}
use Rattle.queue_certificates.proofs.Steps as steps
use Rattle.queue_certificates.proofs.TagPlaces.{reads-rest}
use Rattle.queue_certificates.proofs.Effects.{Sends, sent-sends, sends-as}
use Rattle.queue_certificates.proofs.TagCounts.{exchange-tells, exchange-counts}
use Rattle.queue_certificates.proofs.TagShares.{tagged-fine, teller-is}
use Rattle.queue_certificates.proofs.TagKept.{AllKeep, received-keeps}
pub use Rattle.queue_certificates.proofs.TagNext.{IsAmongTold}
use Rattle.queue_certificates.proofs.TagNext.{told_by, among-kept, among-same, same-stays, load-told-all}
use Rattle.queue_certificates.proofs.Values.{has-bounds}
use Rattle.queue_certificates.proofs.Received.{next-goes}
use Rattle.queue_certificates.proofs.TagLoads.{load-next, load-rest}
use Rattle.queue_certificates.proofs.TagStores.{store-may, store-among, store-sends}
use Rattle.queue_certificates.proofs.NextAccess.{Stops, Makes, next-access}

module _ (tagged : ℕ → TaggedQueue) (T : ℕ) (queues : ℕ → Queue) (N : ℕ) (own_of : ℕ → List OwnWord) (H h : ℕ) where
  -- what an access of the hart comes to, after which it is in state z
  pub record GoesTold (owns rests : ℕ → Bool) (effects : ℕ → Effect) (xs : List ℕ) (ks : List KnownState) (m : View)
      (cs us : AllCounts) (y : Access) (z : HartState) : Type 0 where
    pub next : z.status ≡ status.Running → IsAmongTold tagged T queues N own_of H h xs ks z (view_then y m)
        (λ i. after_access (queues i) (party_of (queues i) h) y (cs i)) (λ t. told_access (slots_of (tagged t)) (party_in (tagged t) h) y (us t))
    pub keeps : (i : ℕ) → i < N → KeepsAccess (queues i) (party_of (queues i) h) (cs i) y
    pub apart : (g x : ℕ) → g ≢ h → (j : ℕ) → j < length (own_of g) → (own_at (own_of g) j).at ≤ x
        → x < (own_at (own_of g) j).at + (own_at (own_of g) j).width → LeavesByteBy x y
    pub loads : (i : ℕ) → i < N → owns i ≡ true → (p : Party) → h ≡ hart (queues i) p → LoadsOwned (queues i) p (cs i) y
    pub tells : (t : ℕ) → t < T → TellsAccess (slots_of (tagged t)) (party_in (tagged t) h) (us t) y
    -- where `rests` says so, its loads of the queue's slots are of tags and of owned ones
    pub rest : (t : ℕ) → t < T → rests t ≡ true → (p : Party) → h ≡ teller_hart (slots_of (tagged t)) p
        → LoadsRestOwned (slots_of (tagged t)) p (us t) y
    -- of each queue whose sender it is
    pub sends : (t : ℕ) → t < T → h ≡ (tagged t).sender → Sends (tagged t).size (tagged_slot (slots_of (tagged t))) (us t).published
        (told_access (slots_of (tagged t)) (party_in (tagged t) h) y (us t)).published (effects t) y z

  pub none-told : (k : KnownState) (i : Option Instr) (ts : List KnownState) → next_told tagged T queues N own_of H h k i None ≡ Some ts → ⊥
  none-told k i ts is = absurd (cc)

-- ---- accesses that are none of memory

quiet-tells : (q : Slots) (t : Option Party) (c : QueueCounts) (y : Access) → IsQuiet y → TellsAccess q t c y
quiet-tells q None c nothing quiet = tt
quiet-tells q (Some p) c nothing quiet = tt
quiet-tells q None c (fence full) quiet = tt
quiet-tells q (Some p) c (fence full) quiet = tt
quiet-tells q t c (load a width v) quiet = absurd quiet
quiet-tells q t c (store w) quiet = absurd quiet
quiet-tells q t c (exchange a old new) quiet = absurd quiet
quiet-tells q t c land quiet = absurd quiet

quiet-rest : (q : Slots) (p : Party) (c : QueueCounts) (y : Access) → IsQuiet y → LoadsRestOwned q p c y
quiet-rest q p c nothing quiet = tt
quiet-rest q p c (fence full) quiet = tt
quiet-rest q p c other quiet = absurd quiet

quiet-same : (q : Slots) (p : Party) (c : QueueCounts) (y : Access) → IsQuiet y → told_access q (Some p) y c ≡ c
quiet-same q p c nothing quiet = refl
quiet-same q p c (fence full) quiet = refl
quiet-same q p c other quiet = absurd quiet

-- ---- an instruction

module _ (M : ℕ) (o : OpeningValue) (queues : ℕ → Queue) (N : ℕ) (own_of : ℕ → List OwnWord) (H h : ℕ) (xs : List ℕ)
    (k : KnownState) (s : HartState) (m : View) (cs : AllCounts) (e : Entry)
    (acts : ActsByCounts M o N queues nobody_told nothing_sent h s m cs e) (size : 32 ≤ length s.registers)
    (fine : (i : ℕ) → i < N → IsQueue (queues i) × TellsFull (queues i) × ((queues i).index_width ≤ 4))
    (means : MeansAt queues N (own_of h) h xs k s m cs) (fields : ℕ → List Field)
    (got : (i : ℕ) → i < N → h ≡ (queues i).receiver → (p : ℕ) → (cs i).taken ≤ p → p < (cs i).known_published
    → All (MeetsField (queues i) p m) (fields i))
    (tagged : ℕ → TaggedQueue) (T : ℕ) (us : AllCounts) (are : (t : ℕ) → t < T → is_tagged (tagged t) ≡ true)
    (sees : (t : ℕ) → t < T → (p : Party) → h ≡ teller_hart (slots_of (tagged t)) p → SeesTags (slots_of (tagged t)) p (us t) m)
    (told : AreTold tagged T N h xs k us) where
  abbrev pub owns : ℕ → Bool
  owns i = loads_owned queues k i (instruction_at s.code s.pc)

  abbrev pub rests : ℕ → Bool
  rests t = loads_rest tagged queues N k t (instruction_at s.code s.pc)

  abbrev pub effects : ℕ → Effect
  effects t = tag_effect_of tagged T queues N h t k (instruction_at s.code s.pc)

  abbrev Does : List KnownState → Type 0
  Does ts = GoesTold tagged T queues N own_of H h owns rests effects xs ts m cs us (access_of e) (advanced s (number_read e))

  abbrev Plain : List KnownState → Type 0
  Plain ks = Goes queues N own_of h owns xs ks m cs (access_of e) (advanced s (number_read e))

  is-slots : (t : ℕ) → t < T → IsSlots (slots_of (tagged t))
  is-slots t less = tagged-fine (tagged t) (are t less)

  -- what follows of the queues with tags
  abbrev Next : List KnownState → Type 0
  Next ts = (advanced s (number_read e)).status ≡ status.Running → IsAmongTold tagged T queues N own_of H h xs ts (advanced s (number_read e))
      (view_then (access_of e) m) (λ i. after_access (queues i) (party_of (queues i) h) (access_of e) (cs i))
      (told_by tagged T queues N own_of H h (access_of e) us)

  abbrev Tells : Access → Type 0
  Tells y = (t : ℕ) → t < T → TellsAccess (slots_of (tagged t)) (party_in (tagged t) h) (us t) y

  abbrev Rest : Access → Type 0
  Rest y = (t : ℕ) → t < T → rests t ≡ true → (p : Party) → h ≡ teller_hart (slots_of (tagged t)) p → LoadsRestOwned (slots_of (tagged t)) p (us t) y

  -- what it sends, by an access of this effect
  abbrev SendsBy : (t : ℕ) → Effect → Access → Type 0
  SendsBy t f y = Sends (tagged t).size (tagged_slot (slots_of (tagged t))) (us t).published
      (told_access (slots_of (tagged t)) (party_in (tagged t) h) y (us t)).published f y (advanced s (number_read e))

  abbrev SendsAll : Access → Type 0
  SendsAll y = (t : ℕ) → t < T → h ≡ (tagged t).sender → SendsBy t (effects t) y

  does : (ks ts : List KnownState) (y : Access) → access_of e ≡ y → Plain ks → Next ts → Tells y → Rest y → SendsAll y → Does ts
  does ks ts y is g next tells rest sends = record {
    next = next;
    keeps = g.keeps;
    apart = g.apart;
    loads = g.loads;
    tells = λ t less. subst (TellsAccess (slots_of (tagged t)) (party_in (tagged t) h) (us t)) (sym is) (tells t less);
    rest = λ t less ok p at. subst (LoadsRestOwned (slots_of (tagged t)) p (us t)) (sym is) (rest t less ok p at);
    sends = λ t less mine. subst (SendsBy t (effects t)) (sym is) (sends t less mine);
  }

  -- the count of a sender after an access of its own
  sent-count : (t : ℕ) → t < T → h ≡ (tagged t).sender → (y : Access) → (told_access (slots_of (tagged t)) (party_in (tagged t) h) y (us t)).published
      ≡ (told_access (slots_of (tagged t)) (Some the_sender) y (us t)).published
  sent-count t less mine y = ap (λ r. (told_access (slots_of (tagged t)) r y (us t)).published)
      (teller-is (slots_of (tagged t)) (is-slots t less) h the_sender mine)

  -- one that leaves it
  sends-none : (t : ℕ) (y : Access) → effects t ≡ Leaves
      → (told_access (slots_of (tagged t)) (party_in (tagged t) h) y (us t)).published ≡ (us t).published → SendsBy t (effects t) y
  sends-none t y leaves same = subst (λ f. SendsBy t f y) (sym leaves) (sent-sends (tagged t).size (tagged_slot (slots_of (tagged t))) (us t).published
      (told_access (slots_of (tagged t)) (party_in (tagged t) h) y (us t)).published Leaves y (advanced s (number_read e)) same)

  quiet-count : IsQuiet (access_of e) → (t : ℕ) → t < T → h ≡ (tagged t).sender
      → (told_access (slots_of (tagged t)) (party_in (tagged t) h) (access_of e) (us t)).published ≡ (us t).published
  quiet-count quiet t less mine = sent-count t less mine (access_of e)
      ∙ ap (λ c. c.published) (quiet-same (slots_of (tagged t)) the_sender (us t) (access_of e) quiet)

  quiet-does : (ks ts : List KnownState) → IsQuiet (access_of e) → Plain ks → Next ts → SendsAll (access_of e) → Does ts
  quiet-does ks ts quiet g next = does ks ts (access_of e) refl g next
      (λ t less. quiet-tells (slots_of (tagged t)) (party_in (tagged t) h) (us t) (access_of e) quiet)
      (λ t less ok p at. quiet-rest (slots_of (tagged t)) p (us t) (access_of e) quiet)

  stops-does : (ks ts : List KnownState) → Stops (access_of e) (advanced s (number_read e)) → Plain ks → Does ts
  stops-does ks ts stops g = quiet-does ks ts stops.quiet g (λ runs. absurd (stops.ends runs))
      (λ t less mine. (let same = quiet-count stops.quiet t less mine in record {
        upto = omega (arith, same);
        done = λ runs. absurd (stops.ends runs);
      }))

  -- an instruction that loads and stores nothing leaves what is said
  plain-does : (ks : List KnownState) → IsQuiet (access_of e) → Plain ks → AllKeep N k ks → ((t : ℕ) → effects t ≡ Leaves) → Does ks
  plain-does ks quiet g keeps leaves = quiet-does ks ks quiet g (λ runs.
      among-kept tagged T queues N own_of H h xs k ks (advanced s (number_read e)) (view_then (access_of e) m)
      (λ i. after_access (queues i) (party_of (queues i) h) (access_of e) (cs i)) (told_by tagged T queues N own_of H h (access_of e) us)
      (λ t less. same-stays tagged T queues N own_of H h xs k us are told (access_of e) t less
      (λ p at. quiet-same (slots_of (tagged t)) p (us t) (access_of e) quiet)) keeps (g.next runs))
      (λ t less mine. sends-none t (access_of e) (leaves t) (quiet-count quiet t less mine))

  -- ---- loads

  load-does : (op : LoadOp) (rd rs1 : Reg) (offset : ℤ) → instruction_at s.code s.pc ≡ Some (Load op rd rs1 offset) → (ks ts : List KnownState)
      → access_of e ≡ load (address (register_value s.registers rs1) offset) (load_width op) (number_read e) → Plain ks → AllKeep N k ks
      → next_told tagged T queues N own_of H h k (Some (Load op rd rs1 offset)) (Some ks) ≡ Some ts → Does ts
  load-does op rd rs1 offset here ks ts is g keeps found =
      does ks ts (load (address (register_value s.registers rs1) offset) (load_width op) (number_read e)) is g
      (load-next M o queues N own_of H h xs k s m cs e acts size fine means tagged T us are sees told op rd rs1 offset here ks ts g keeps is
      (looked_tag tagged T N h k (address_value queues k rs1 offset) (load_width op)) refl found)
      (λ t less. load-tells (slots_of (tagged t)) (party_in (tagged t) h) (us t))
      (λ t less ok p at. load-rest M o queues N own_of H h xs k s m cs e acts size fine means tagged T us are sees told op rd rs1 offset here t less
      (subst (λ i. loads_rest tagged queues N k t i ≡ true) here ok) p at)
      (λ t less mine. sends-none t (load (address (register_value s.registers rs1) offset) (load_width op) (number_read e))
      (ap (tag_effect_of tagged T queues N h t k) here)
      (sent-count t less mine (load (address (register_value s.registers rs1) offset) (load_width op) (number_read e))
      ∙ loaded-count (slots_of (tagged t)) the_sender the_sender (address (register_value s.registers rs1) offset) (load_width op) (number_read e) (us t)))
    where
      load-tells : (q : Slots) (r : Option Party) (c : QueueCounts)
          → TellsAccess q r c (load (address (register_value s.registers rs1) offset) (load_width op) (number_read e))
      load-tells q None c = tt
      load-tells q (Some p) c = tt

  -- ---- stores, and those of AMOs: over the counts before the store

  module _ (op : StoreOp) (place u : KnownValue) (b : Bounds) (a x : ℕ) (at : Has queues xs place a) (low : b.low ≤ a) (high : a ≤ b.high)
      (has : Has queues xs u x) (ls : AllCounts) (told-then : AreTold tagged T N h xs k ls) where
    abbrev w : Write
    w = write a (store_width op) (stored op x)

    abbrev move : Option ℕ
    move = moved_tag tagged T N h k place (store_width op)

    stored-does : (ks ts : List KnownState) (y : Access) → access_of e ≡ y → Plain ks → AllKeep N k ks
        → ((t : ℕ) → told_by tagged T queues N own_of H h (store w) ls t ≡ told_by tagged T queues N own_of H h y us t)
        → ((t : ℕ) → TellsAccess (slots_of (tagged t)) (party_in (tagged t) h) (ls t) (store w)
        → TellsAccess (slots_of (tagged t)) (party_in (tagged t) h) (us t) y)
        → Rest y → ((x : ℕ) → WritesByte (store w) x → WritesByte y x)
        → ((t : ℕ) → t < T → h ≡ (tagged t).sender → (ls t).published ≡ (us t).published)
        → ((t : ℕ) → effects t ≡ tag_effect_at tagged T N h t k place (store_width op))
        → store_tells tagged T N h k u place b (store_width op) move ks ≡ Some ts → Does ts
    stored-does ks ts y is g keeps counts tells rest writes same effect found =
        by (may_store_all tagged T N h k u place b (store_width op) move) refl found
      where
        by : (t : Bool) → may_store_all tagged T N h k u place b (store_width op) move ≡ t
            → (if t then Some (all_handed N k move ks) else None) ≡ Some ts → Does ts
        by false off found = absurd (cc)
        by true ok found = subst Does (let same : all_handed N k move ks ≡ ts = cc in same)
            (does ks (all_handed N k move ks) y is g
            (λ runs. among-same tagged T queues N own_of H h xs k (all_handed N k move ks) (advanced s (number_read e))
            (view_then (access_of e) m) (λ i. after_access (queues i) (party_of (queues i) h) (access_of e) (cs i))
            (told_by tagged T queues N own_of H h (store w) ls) (told_by tagged T queues N own_of H h (access_of e) us)
            (λ t. counts t ∙ ap (λ y. told_by tagged T queues N own_of H h y us t) (sym is))
            (store-among tagged T queues N own_of H h xs k ls are told-then means.ranges op place u b a x at low high has move refl ok ks
            (advanced s (number_read e)) (view_then (access_of e) m) (λ i. after_access (queues i) (party_of (queues i) h) (access_of e) (cs i)) keeps
            (g.next runs)))
            (λ t less. tells t
            (store-may tagged T queues N own_of H h xs k ls are told-then means.ranges op place u b a x at low high has move refl ok t less)) rest
            (λ t less mine. sends t less mine ok))
          where
            sends : (t : ℕ) → t < T → h ≡ (tagged t).sender → may_store_all tagged T N h k u place b (store_width op) move ≡ true → SendsBy t (effects t) y
            sends t less mine ok =
                let z : HartState = advanced s (number_read e) in
                let size : ℕ = (tagged t).size in
                let slot : (ℕ → ℕ) = tagged_slot (slots_of (tagged t)) in
                let after : ℕ = (told_access (slots_of (tagged t)) (party_in (tagged t) h) y (us t)).published in
                subst (λ f. SendsBy t f y) (sym (effect t))
                (sends-as size slot (us t).published after (tag_effect_at tagged T N h t k place (store_width op)) (store w) y z writes
                (subst (λ n. Sends size slot n after (tag_effect_at tagged T N h t k place (store_width op)) (store w) z) (same t less mine)
                (subst (λ n. Sends size slot (ls t).published n (tag_effect_at tagged T N h t k place (store_width op)) (store w) z)
                (ap (λ c. c.published) (counts t))
                (store-sends tagged T queues N own_of H h xs k ls are told-then means.ranges op place u b a x at low high has move refl ok t less mine z))))

  store-does : (op : StoreOp) (rs1 rs2 : Reg) (offset : ℤ) → instruction_at s.code s.pc ≡ Some (Store op rs1 rs2 offset) → (ks ts : List KnownState)
      → access_of e ≡ store (write (address (register_value s.registers rs1) offset) (store_width op) (stored op (register_value s.registers rs2)))
      → Plain ks → AllKeep N k ks → next_told tagged T queues N own_of H h k (Some (Store op rs1 rs2 offset)) (Some ks) ≡ Some ts → Does ts
  unfolding told_by_store
  store-does op rs1 rs2 offset here ks ts is g keeps found =
      let p = steps.points M o queues N own_of H h xs k s m cs e acts size fine means rs1 offset in
      stored-does op (address_value queues k rs1 offset) (operand queues k rs2) (addresses queues k rs1 offset)
      (address (register_value s.registers rs1) offset) (register_value s.registers rs2)
      (steps.address-has M o queues N own_of H h xs k s m cs e acts size fine means rs1 offset) p.0 p.1
      (steps.operand-has M o queues N own_of H h xs k s m cs e acts size fine means rs2) us told ks ts
      (store (write (address (register_value s.registers rs1) offset) (store_width op) (stored op (register_value s.registers rs2)))) is g keeps
      (λ t. refl) (λ t may. may) (λ t less ok p at. tt) (λ x writes. writes) (λ t less mine. refl)
      (λ t. ap (tag_effect_of tagged T queues N h t k) here) found

  amo-does : (d : Form) (op : AmoOp) (rd rs1 rs2 : Reg) (aq rl : Bool) → instruction_at s.code s.pc ≡ Some (Amo op rd rs1 rs2 aq rl)
      → (ks ts : List KnownState)
      → access_of e ≡ exchange (register_value s.registers rs1) (number_read e) (updated op (number_read e) (register_value s.registers rs2))
      → exchanging queues N own_of H h k d op rd.number (register_at k rs2) (operand queues k rs1)
      (bounds k.ranges (operand queues k rs1)) ≡ Some ks
      → Plain ks → AllKeep N k ks → next_told tagged T queues N own_of H h k (Some (Amo op rd rs1 rs2 aq rl)) (Some ks) ≡ Some ts → Does ts
  amo-does d op rd rs1 rs2 aq rl here ks ts is follows g keeps found = bounded (bounds k.ranges (operand queues k rs1)) refl follows
    where
      held : KnownValue
      held = operand queues k rs1

      kept : KnownValue
      kept = updated_value queues k.ranges op any (operand queues k rs2)

      a : ℕ
      a = register_value s.registers rs1

      old : ℕ
      old = number_read e

      new : ℕ
      new = updated op (number_read e) (register_value s.registers rs2)

      has : Has queues xs (operand queues k rs1) (register_value s.registers rs1)
      has = steps.operand-has M o queues N own_of H h xs k s m cs e acts size fine means rs1

      has-new : Has queues xs (updated_value queues k.ranges op any (operand queues k rs2))
          (updated op (number_read e) (register_value s.registers rs2))
      has-new = steps.updated-has M o queues N own_of H h xs k s m cs e acts size fine means op any (operand queues k rs2) (number_read e)
          (register_value s.registers rs2) tt (steps.operand-has M o queues N own_of H h xs k s m cs e acts size fine means rs2)

      loaded-sent : (t : ℕ) → t < T → h ≡ (tagged t).sender → (told_by tagged T queues N own_of H h (load a 4 old) us t).published ≡ (us t).published
      loaded-sent t less mine = sent-count t less mine (load a 4 old)
          ∙ loaded-count (slots_of (tagged t)) the_sender the_sender a 4 old (us t)

      bounded : (o : Option Bounds) → bounds k.ranges (operand queues k rs1) ≡ o
          → exchanging queues N own_of H h k d op rd.number (register_at k rs2) (operand queues k rs1) o ≡ Some ks → Does ts
      bounded None is-b follows = absurd (cc)
      bounded (Some b) is-b follows =
          let p = has-bounds queues k.ranges xs (operand queues k rs1) (register_value s.registers rs1) b means.ranges is-b has in
          stored-does store_op.Word held kept b a new has p.0 p.1 has-new (told_by tagged T queues N own_of H h (load a 4 old) us)
          (load-told-all tagged T queues N own_of H h xs k us are told a 4 old) ks ts (exchange a old new) is g keeps
          (λ t. sym (exchange-counts (slots_of (tagged t)) (party_in (tagged t) h) a old new (us t)))
          (λ t may. exchange-tells (slots_of (tagged t)) (party_in (tagged t) h) a old new (us t) may)
          (λ t less rest-ok r at. reads-rest (tagged t) (is-slots t less) queues k.ranges xs means.ranges (get_or k.shares (N + t) no_share) r (us t)
          (told t less r at) held b a 4 has p.0 p.1
          (subst (λ o. reads_rest k.ranges (tagged t) (share_at k (N + t)) held (anywhere o) 4 ≡ true) is-b
          (subst (λ i. loads_rest tagged queues N k t i ≡ true) here rest-ok)))
          (λ x writes. writes)
          (λ t less mine. loaded-sent t less mine)
          (λ t. ap (tag_effect_of tagged T queues N h t k) here)
          (subst (λ o. store_tells tagged T N h k kept held (anywhere o) 4 (moved_tag tagged T N h k held 4) ks ≡ Some ts)
          is-b found)

  -- ---- any instruction

  pub told-goes : (past : (g : ℕ) → H ≤ g → length (own_of g) ≡ 0) (d : Form) (ts : List KnownState)
      → next_told tagged T queues N own_of H h k (instruction_at s.code k.pc)
      (next_received queues fields N h k (instruction_at s.code k.pc) (follow queues N own_of H h k d (instruction_at s.code k.pc))) ≡ Some ts
      → GoesTold tagged T queues N own_of H h owns rests effects xs ts m cs us (access_of e) (advanced s (number_read e))
  told-goes past d ts is = by (instruction_at s.code s.pc) refl (next (instruction_at s.code s.pc)) refl
      (subst (λ n. next_told tagged T queues N own_of H h k (instruction_at s.code n) (next (instruction_at s.code n)) ≡ Some ts) (sym means.pc) is)
    where
      next : Option Instr → Option (List KnownState)
      next i = next_received queues fields N h k i (follow queues N own_of H h k d i)

      goes : (ks : List KnownState) → next_received queues fields N h k (instruction_at s.code s.pc)
          (follow queues N own_of H h k d (instruction_at s.code s.pc)) ≡ Some ks → Plain ks
      goes ks found = next-goes M o queues N own_of H h xs k s m cs e acts size fine means fields got past d ks
          (ap (λ n. next_received queues fields N h k (instruction_at s.code n) (follow queues N own_of H h k d (instruction_at s.code n)))
          (sym means.pc) ∙ found)

      kept : (ks : List KnownState) → next_received queues fields N h k (instruction_at s.code s.pc)
          (follow queues N own_of H h k d (instruction_at s.code s.pc)) ≡ Some ks → AllKeep N k ks
      kept ks found = received-keeps queues N own_of H h k fields d (instruction_at s.code s.pc) ks found

      makes : (i : Option Instr) → instruction_at s.code s.pc ≡ i → Makes s (number_read e) i (access_of e) (advanced s (number_read e))
      makes i at = subst (λ i. Makes s (number_read e) i (access_of e) (advanced s (number_read e))) at (next-access s e acts.can)

      by : (i : Option Instr) → instruction_at s.code s.pc ≡ i → (ks : Option (List KnownState))
          → next_received queues fields N h k (instruction_at s.code s.pc) (follow queues N own_of H h k d (instruction_at s.code s.pc)) ≡ ks
          → next_told tagged T queues N own_of H h k i ks ≡ Some ts → Does ts
      by i at None found is = absurd (none-told tagged T queues N own_of H h k i ts is)
      by (Some (Load op rd rs1 offset)) at (Some ks) found is = elim (makes (Some (Load op rd rs1 offset)) at) [
        | inl stops ↦ stops-does ks ts stops (goes ks found)
        | inr access ↦ load-does op rd rs1 offset at ks ts access (goes ks found) (kept ks found) is
      ]
      by (Some (Store op rs1 rs2 offset)) at (Some ks) found is = elim (makes (Some (Store op rs1 rs2 offset)) at) [
        | inl stops ↦ stops-does ks ts stops (goes ks found)
        | inr access ↦ store-does op rs1 rs2 offset at ks ts access (goes ks found) (kept ks found) is
      ]
      by (Some (Amo op rd rs1 rs2 aq rl)) at (Some ks) found is = elim (makes (Some (Amo op rd rs1 rs2 aq rl)) at) [
        | inl stops ↦ stops-does ks ts stops (goes ks found)
        | inr access ↦ amo-does d op rd rs1 rs2 aq rl at ks ts access (sym (ap next at) ∙ found) (goes ks found) (kept ks found) is
      ]
      by i at (Some ks) found is = subst Does (let same : ks ≡ ts = cc in same) (plain-does ks (makes i at) (goes ks found) (kept ks found)
          (λ t. ap (tag_effect_of tagged T queues N h t k) at))
