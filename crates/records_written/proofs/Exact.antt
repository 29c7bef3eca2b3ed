-- A receiver's entry reads no other bytes of records that it owns than its leaf says, where the certificate's loads are accepted, of queues of
-- both kinds.
use Rattle.std.proofs.Common.{ℕ, ◌+◌, ◌<◌, ◌≤◌, ◌≡◌, ◌==◌, ◌&&◌, ◌||◌, inl, inr, Bool, true, false, Option, Some, None, List, length, refl, sym}
use Rattle.std.proofs.Common.{◌∙◌, ap, subst, arith, ◌*◌, ◌%◌}
use Rattle.std.specs.Prelude.{nat_le, nat_lt}
use Rattle.std.proofs.lemmas.Bool.{and_parts, and_from, or_cases, eq-eqb, eqb-true, le-leb, lt-ltb}
use Rattle.rv_decode.specs.declared.instruction.Instr.{Instr}
use Rattle.rv_decode.specs.declared.instruction.Instr.TheVariants.{Load, Store, Amo}
use Rattle.hart.specs.{HartState, advanced, register_value, address, load_width, updated}
use Rattle.step_machine.specs.declared.events.Entry.{Entry}
use Rattle.step_machine.specs.Names.{OpeningValue, Access, nothing, load, store, exchange, fence, land, access_of, number_read}
use Rattle.queue_parties.specs.{IsInBytes, the_receiver}
use Rattle.queue_parties.proofs.Positions.{one-slot, slot-within}
use Rattle.certified_runs.specs.Views.{LoadsByte}
use Rattle.slot_queue.specs.Queues.{Queue, IsQueue, TellsFull, slot_of}
use Rattle.slot_queue.specs.Ownership.{end}
use Rattle.slots_that_tell.specs.Slots.{IsSlots, tag_of, tagged_slot, IsTagByte}
use Rattle.slots_that_tell.specs.Telling.{owned_end}
use Rattle.queue_layouts.specs.Tagged.{slots_of}
use Rattle.queue_layouts.specs.declared.tagged.TaggedQueue.{TaggedQueue}
use Rattle.queue_certificates.specs.{View, AllCounts, ActsByCounts, Form, form_value, Bounds, KnownState, Has, MeansAt}
use Rattle.queue_certificates.specs.{bounds, is_just, is_apart, anywhere, HasShare}
use Rattle.queue_certificates.specs.{register_at, operand, share_at, exchanging, follow, instruction_at, bare, last_below, is_own_index, tag_at}
use Rattle.queue_certificates.specs.{is_tagged, are_slots, HasAtLeast, QueueCertificate, queue_at, tagged_at, own_of, SharesTold, loads_owned, loads_rest}
use Rattle.queue_certificates.specs.{is_owned, is_whole, is_of_tag, is_beside_slots, moved_tag, SeesIndices, SeesTags, tag_by, tag_position}
use Rattle.queue_certificates.proofs.{has-bounds, found-below, hart-party, just-is, nobody_told, nothing_sent, IsQuiet}
use Rattle.queue_certificates.proofs.{tagged-fine, teller-is, Makes, next-access}
use Rattle.queue_certificates.proofs.Stores.{apart-none}
use Rattle.queue_certificates.proofs.TagPlaces.{beside-outside, of-tag, tag-place}
use Rattle.queue_certificates.proofs.Steps as steps
use Rattle.queue_checker.specs.Operands.{accessed_in, exchanged_in, load_target, store_target}
use Rattle.queue_checker.specs.declared.targets.Target.{Target}
use Rattle.records_written.specs.Parties.{receipt_of, tag_receipt_of, moves_tail, moves_tag}
use Rattle.records_written.specs.{reads_byte, Indexed, Tagged}
use Rattle.records_written.proofs.Acted.{DoesByte}
use Rattle.records_written.proofs.Acted.{exact-bytes}

quiet-loads : (y : Access) (x : ℕ) → IsQuiet y → LoadsByte y x → ⊥
quiet-loads nothing x quiet reads = reads
quiet-loads (fence full) x quiet reads = reads
quiet-loads (load a width v) x quiet reads = quiet
quiet-loads (store w) x quiet reads = quiet
quiet-loads (exchange a old new) x quiet reads = quiet
quiet-loads land x quiet reads = quiet

module _ (M : ℕ) (o : OpeningValue) (c : QueueCertificate) (h : ℕ) (xs : List ℕ) (k : KnownState) (s : HartState) (m : View) (cs : AllCounts) (e : Entry)
    (acts : ActsByCounts M o (length c.queues) (queue_at c) nobody_told nothing_sent h s m cs e) (size : 32 ≤ length s.registers)
    (fine : (j : ℕ) → j < length c.queues → IsQueue (queue_at c j) × TellsFull (queue_at c j) × ((queue_at c j).index_width ≤ 4))
    (means : MeansAt (queue_at c) (length c.queues) (own_of c h) h xs k s m cs) where
  abbrev N : ℕ
  N = length c.queues

  abbrev H : ℕ
  H = length c.harts

  -- where an entry of the hart's loads byte x, by what the certificate says of its instruction j
  pub record LoadedAt (j : Option Instr) (x : ℕ) : Type 0 where
    pub target : Target
    pub is : load_target c k j ≡ Some target
    pub address : ℕ
    pub at : Has (queue_at c) xs target.place address
    pub low : target.bounds.low ≤ address
    pub high : address ≤ target.bounds.high
    pub within : IsInBytes address target.width x

  pub loaded-at : (d : Form) (ks : List KnownState)
      → follow (queue_at c) (length c.queues) (own_of c) (length c.harts) h k d (instruction_at s.code k.pc) ≡ Some ks
      → (x : ℕ) → LoadsByte (access_of e) x → LoadedAt (instruction_at s.code k.pc) x
  loaded-at d ks found x reads = subst (λ n. LoadedAt (instruction_at s.code n) x) means.pc (by (instruction_at s.code s.pc) (next-access s e acts.can)
      (subst (λ n. follow (queue_at c) N (own_of c) H h k d (instruction_at s.code n) ≡ Some ks) (sym means.pc) found))
    where
      amo : (bs : Option Bounds) (j : Option Instr) (t : Target) (a old new : ℕ) → access_of e ≡ exchange a old new → load_target c k j ≡ Some t → t.width ≡ 4
          → Has (queue_at c) xs t.place a → bounds k.ranges t.place ≡ bs → t.bounds ≡ anywhere bs → (bs ≡ None → ⊥) → LoadedAt j x
      amo None j t a old new access is four at found there some = absurd (some refl)
      amo (Some b) j t a old new access is four at found there some =
          let p = has-bounds (queue_at c) k.ranges xs t.place a b means.ranges found at in
          let word : IsInBytes a 4 x = subst (λ y. LoadsByte y x) access reads in record {
            target = t;
            is = is;
            address = a;
            at = at;
            low = subst (λ (u : Bounds). u.low ≤ a) (sym there) p.0;
            high = subst (λ (u : Bounds). a ≤ u.high) (sym there) p.1;
            within = (word.0, omega (arith, word.1, four));
          }

      by : (j : Option Instr) → Makes s (number_read e) j (access_of e) (advanced s (number_read e))
          → follow (queue_at c) N (own_of c) H h k d j ≡ Some ks → LoadedAt j x
      by (Some (Load op rd rs1 offset)) made found = elim made [
        | inl stops ↦ absurd (quiet-loads (access_of e) x stops.quiet reads)
        | inr access ↦ (let p = steps.points M o (queue_at c) N (own_of c) H h xs k s m cs e acts size fine means rs1 offset in record {
          target = _;
          is = refl;
          address = address (register_value s.registers rs1) offset;
          at = steps.address-has M o (queue_at c) N (own_of c) H h xs k s m cs e acts size fine means rs1 offset;
          low = p.0;
          high = p.1;
          within = subst (λ y. LoadsByte y x) access reads;
        })
      ]
      by (Some (Store op rs1 rs2 offset)) made found = elim made [
        | inl stops ↦ absurd (quiet-loads (access_of e) x stops.quiet reads)
        | inr access ↦ absurd (subst (λ y. LoadsByte y x) access reads)
      ]
      by (Some (Amo op rd rs1 rs2 aq rl)) made found = elim made [
        | inl stops ↦ absurd (quiet-loads (access_of e) x stops.quiet reads)
        | inr access ↦ amo (bounds k.ranges (operand (queue_at c) k rs1)) (Some (Amo op rd rs1 rs2 aq rl)) _ (register_value s.registers rs1) (number_read e)
            (updated op (number_read e) (register_value s.registers rs2)) access refl refl
            (steps.operand-has M o (queue_at c) N (own_of c) H h xs k s m cs e acts size fine means rs1) refl refl
            (λ none. (let no : exchanging (queue_at c) N (own_of c) H h k d op rd.number (register_at k rs2) (operand (queue_at c) k rs1) None ≡ Some ks =
            subst (λ bs. exchanging (queue_at c) N (own_of c) H h k d op rd.number (register_at k rs2) (operand (queue_at c) k rs1) bs ≡ Some ks) none found in
            absurd (cc)))
      ]
      by j made found = absurd (quiet-loads (access_of e) x made reads)

-- ---- of a queue with indices

module _ (M : ℕ) (o : OpeningValue) (c : QueueCertificate) (i : ℕ) (less : i < length c.queues) (xs : List ℕ)
    (k : KnownState) (s : HartState) (m : View) (cs us : AllCounts) (e : Entry)
    (acts : ActsByCounts M o (length c.queues) (queue_at c) nobody_told nothing_sent (queue_at c i).receiver s m cs e) (size : 32 ≤ length s.registers)
    (fine : (j : ℕ) → j < length c.queues → IsQueue (queue_at c j) × TellsFull (queue_at c j) × ((queue_at c j).index_width ≤ 4))
    (means : MeansAt (queue_at c) (length c.queues) (own_of c (queue_at c i).receiver) (queue_at c i).receiver xs k s m cs) where
  abbrev is-beside : Target → Bool
  is-beside t = is_apart t.bounds t.width (queue_at c i).slots ((queue_at c i).size * (queue_at c i).width)

  loads-target : (j : Option Instr) (t : Target) → load_target c k j ≡ Some t → loads_owned (queue_at c) k i j ≡ true
      → (is-beside t || is_owned k.ranges (queue_at c i) (share_at k i) t.place t.width) ≡ true
  loads-target (Some (Load op rd rs1 offset)) t is ok = subst (λ t. (is-beside t || is_owned k.ranges (queue_at c i) (share_at k i) t.place t.width) ≡ true)
      (let same : accessed_in c k rs1 offset (load_width op) ≡ t = cc in same) ok
  loads-target (Some (Amo op rd rs1 rs2 aq rl)) t is ok = subst (λ t. (is-beside t || is_owned k.ranges (queue_at c i) (share_at k i) t.place t.width) ≡ true)
      (let same : exchanged_in c k rs1 ≡ t = cc in same) ok
  loads-target other t is ok = absurd (cc)

  -- what moves the tail too is its word
  moves-target : (j : Option Instr) (t : Target) → load_target c k j ≡ Some t → moves_tail c i (store_target c k j) ≡ true → moves_tail c i (Some t) ≡ true
  moves-target (Some (Load op rd rs1 offset)) t is moves = absurd (cc)
  moves-target (Some (Amo op rd rs1 rs2 aq rl)) t is moves = subst (λ t. moves_tail c i (Some t) ≡ true)
      (let same : exchanged_in c k rs1 ≡ t = cc in same) moves
  moves-target other t is moves = absurd (cc)

  pub exact-index : (d : Form) (ks : List KnownState)
      → follow (queue_at c) (length c.queues) (own_of c) (length c.harts) (queue_at c i).receiver k d (instruction_at s.code k.pc) ≡ Some ks
      → loads_owned (queue_at c) k i (instruction_at s.code k.pc) ≡ true → (j b : ℕ) → b < (queue_at c i).width
      → DoesByte c (Indexed i) the_receiver cs us (access_of e) j b → reads_byte (receipt_of c i k d (instruction_at s.code k.pc)) j b ≡ true
  exact-index d ks found owns j b short does = by (moves_tail c i (store_target c k (instruction_at s.code k.pc))) refl
    where
      q : Queue
      q = queue_at c i

      x : ℕ
      x = slot_of (queue_at c i) ((cs i).taken + j) + b

      at : LoadedAt M o c (queue_at c i).receiver xs k s m cs e acts size fine means (instruction_at s.code k.pc)
          (slot_of (queue_at c i) ((cs i).taken + j) + b)
      at = loaded-at M o c (queue_at c i).receiver xs k s m cs e acts size fine means d ks found (slot_of (queue_at c i) ((cs i).taken + j) + b) does.1

      sees : SeesIndices (queue_at c i) the_receiver (cs i) m
      sees = acts.sees i less the_receiver refl

      has : HasShare (queue_at c i) the_receiver (cs i) xs (share_at k i)
      has = means.shares i less the_receiver refl

      among : IsInBytes (queue_at c i).slots ((queue_at c i).size * (queue_at c i).width) (slot_of (queue_at c i) ((cs i).taken + j) + b)
      among = slot-within (queue_at c i).slots (queue_at c i).width (queue_at c i).size (fine i less).0.some ((cs i).taken + j) _
          (omega arith, omega (arith, short))

      tail : moves_tail c i (Some at.target) ≡ true → ⊥
      tail moves =
          let own = (found-below (length c.queues) (is_own_index (queue_at c) q.receiver at.target.bounds at.target.width) i
          (just-is (last_below (length c.queues) (is_own_index (queue_at c) (queue_at c i).receiver at.target.bounds at.target.width)) i moves)).1 in
          let both = and_parts (at.target.bounds.low == at.target.bounds.high) _ own in
          let whole : ((at.target.bounds.low == q.tail) && (at.target.width == q.index_width)) ≡ true =
          subst (λ r. is_whole q r (λ p. p) at.target.bounds.low at.target.width ≡ true) (hart-party q (fine i less).0 q.receiver the_receiver refl) both.1 in
          let parts = and_parts (at.target.bounds.low == q.tail) (at.target.width == q.index_width) whole in
          let one : at.target.bounds.low ≡ at.target.bounds.high = eqb-true _ _ both.0 in
          let place : at.target.bounds.low ≡ q.tail = eqb-true _ _ parts.0 in
          let width : at.target.width ≡ q.index_width = eqb-true _ _ parts.1 in
          let low = at.low in let high = at.high in let within = at.within in
          elim (fine i less).0.tail_apart [
            | inl before ↦ omega (arith, low, high, within.0, within.1, one, place, width, before, among.0)
            | inr after ↦ omega (arith, low, high, within.0, within.1, one, place, width, after, among.1)
          ]

      by : (t : Bool) → moves_tail c i (store_target c k (instruction_at s.code k.pc)) ≡ t
          → reads_byte (receipt_of c i k d (instruction_at s.code k.pc)) j b ≡ true
      by true moves = absurd (tail (moves-target (instruction_at s.code k.pc) at.target at.is moves))
      by false stays = rw (stays, at.is) (exact-bytes (queue_at c) k.ranges xs means.ranges (queue_at c i) (share_at k i) (cs i).taken
          (end (queue_at c i) the_receiver (cs i)) has.own
          (let upto : end (queue_at c i) the_receiver (cs i) ≡ form_value (share_at k i).own xs + form_value (share_at k i).owned xs = has.upto in
          omega (arith, upto)) (is-beside at.target ≡ true) at.target.place at.address at.target.width at.at
          (λ not. elim (or_cases (is-beside at.target) _ (loads-target (instruction_at s.code k.pc) at.target at.is owns)) [
            | inl beside ↦ beside
            | inr owned ↦ absurd (let no : is_owned k.ranges (queue_at c i) (share_at k i) at.target.place at.target.width ≡ false = not in
                let yes : is_owned k.ranges (queue_at c i) (share_at k i) at.target.place at.target.width ≡ true = owned in cc)
          ])
          (let from : (cs i).known_published ≤ sees.there = sees.from in
          let upto : sees.there ≤ (cs i).taken + (queue_at c i).capacity = sees.upto in
          let fits : (queue_at c i).capacity ≤ (queue_at c i).size = (fine i less).0.fits in
          omega (arith, from, upto, fits))
          (fine i less).0.some j b does.0 short at.within.0 at.within.1
          (λ beside. apart-none at.target.bounds at.address at.target.width (queue_at c i).slots ((queue_at c i).size * (queue_at c i).width) _
          beside at.low at.high at.within among))

-- ---- of a queue with tags

-- byte b of a record is none of a tag's
abbrev pub IsOfNoTag : TaggedQueue → (b : ℕ) → Type 0
IsOfNoTag q b = (are_slots q && nat_le q.tag_offset b && nat_lt b (q.tag_offset + q.tag_width)) ≡ false

tag-clash : (q : TaggedQueue) (is : IsSlots (slots_of q)) (n b : ℕ) → b < q.width → IsOfNoTag q b → (j : ℕ)
    → IsTagByte (slots_of q) j (tagged_slot (slots_of q) n + b) → ⊥
tag-clash q is n b short none j tag = elim is.tags_lie [
  | inr apart ↦ (
      let one = slot-within q.slots q.width q.size is.some n (tagged_slot (slots_of q) n + b) (omega arith, omega (arith, short)) in
      let two = slot-within q.tags q.tag_stride q.size is.some j (tagged_slot (slots_of q) n + b)
      (omega (arith, tag.0), omega (arith, tag.1, is.tag_within)) in elim apart [
        | inl after ↦ omega (arith, one.1, two.0, after)
        | inr before ↦ omega (arith, one.0, two.1, before)
      ])
  | inl same ↦ (let place : tag_of (slots_of q) j ≡ slot_of (bare q) j + q.tag_offset =
      ap (λ a. a + q.tag_stride * (j % q.size) + q.tag_offset) same.0 ∙ ap (λ w. q.slots + w * (j % q.size) + q.tag_offset) same.1 in
      let stride : q.tag_stride ≡ q.width = same.1 in
      let round : j % q.size ≡ n % q.size = one-slot q.slots q.width q.size is.some j n (tagged_slot (slots_of q) n + b)
      (omega (arith, place, tag.0), omega (arith, place, tag.1, is.tag_within, stride)) (omega arith, omega (arith, short)) in
      let slot : slot_of (bare q) j ≡ slot_of (bare q) n = ap (λ i. q.slots + q.width * i) round in
      let low : q.tag_offset ≤ b = omega (arith, place, slot, tag.0) in
      let high : b < q.tag_offset + q.tag_width = omega (arith, place, slot, tag.1) in
      let slots : are_slots q ≡ true = ap (λ b. b && (q.tag_stride == q.width)) (eq-eqb q.tags q.slots same.0) ∙ eq-eqb q.tag_stride q.width same.1 in
      let yes : (are_slots q && nat_le q.tag_offset b && nat_lt b (q.tag_offset + q.tag_width)) ≡ true =
      and_from _ _ (and_from _ _ slots (le-leb _ _ low)) (lt-ltb _ _ high) in
      absurd (cc))
]

module _ (M : ℕ) (o : OpeningValue) (c : QueueCertificate) (t : ℕ) (less : t < length c.tagged) (xs : List ℕ)
    (k : KnownState) (s : HartState) (m : View) (cs us : AllCounts) (e : Entry)
    (acts : ActsByCounts M o (length c.queues) (queue_at c) nobody_told nothing_sent (tagged_at c t).receiver s m cs e) (size : 32 ≤ length s.registers)
    (fine : (j : ℕ) → j < length c.queues → IsQueue (queue_at c j) × TellsFull (queue_at c j) × ((queue_at c j).index_width ≤ 4))
    (means : MeansAt (queue_at c) (length c.queues) (own_of c (tagged_at c t).receiver) (tagged_at c t).receiver xs k s m cs)
    (are : (i : ℕ) → i < length c.tagged → is_tagged (tagged_at c i) ≡ true) (told : SharesTold c (tagged_at c t).receiver xs k us)
    (sees : SeesTags (slots_of (tagged_at c t)) the_receiver (us t) m) where
  abbrev is-rest : Target → Bool
  is-rest g = is_beside_slots (tagged_at c t) g.bounds g.width || is_of_tag k.ranges (tagged_at c t) (share_at k (length c.queues + t)) g.place g.width

  rest-target : (j : Option Instr) (g : Target) → load_target c k j ≡ Some g → loads_rest (tagged_at c) (queue_at c) (length c.queues) k t j ≡ true
      → (is-rest g || is_owned k.ranges (bare (tagged_at c t)) (share_at k (length c.queues + t)) g.place g.width) ≡ true
  rest-target (Some (Load op rd rs1 offset)) g is ok =
      subst (λ g. (is-rest g || is_owned k.ranges (bare (tagged_at c t)) (share_at k (length c.queues + t)) g.place g.width) ≡ true)
      (let same : accessed_in c k rs1 offset (load_width op) ≡ g = cc in same) ok
  rest-target (Some (Amo op rd rs1 rs2 aq rl)) g is ok =
      subst (λ g. (is-rest g || is_owned k.ranges (bare (tagged_at c t)) (share_at k (length c.queues + t)) g.place g.width) ≡ true)
      (let same : exchanged_in c k rs1 ≡ g = cc in same) ok
  rest-target other g is ok = absurd (cc)

  moved-target : (j : Option Instr) (g : Target) → load_target c k j ≡ Some g → moves_tag c t k (store_target c k j) ≡ true → moves_tag c t k (Some g) ≡ true
  moved-target (Some (Load op rd rs1 offset)) g is moves = absurd (cc)
  moved-target (Some (Amo op rd rs1 rs2 aq rl)) g is moves = subst (λ g. moves_tag c t k (Some g) ≡ true)
      (let same : exchanged_in c k rs1 ≡ g = cc in same) moves
  moved-target other g is moves = absurd (cc)

  pub exact-tag : (d : Form) (ks : List KnownState)
      → follow (queue_at c) (length c.queues) (own_of c) (length c.harts) (tagged_at c t).receiver k d (instruction_at s.code k.pc) ≡ Some ks
      → loads_rest (tagged_at c) (queue_at c) (length c.queues) k t (instruction_at s.code k.pc) ≡ true → (j b : ℕ) → b < (tagged_at c t).width
      → IsOfNoTag (tagged_at c t) b → DoesByte c (Tagged t) the_receiver cs us (access_of e) j b
      → reads_byte (Some (tag_receipt_of c t k (instruction_at s.code k.pc))) j b ≡ true
  exact-tag d ks found owns j b short none does = by (moves_tag c t k (store_target c k (instruction_at s.code k.pc))) refl
    where
      q : TaggedQueue
      q = tagged_at c t

      slots : IsSlots (slots_of (tagged_at c t))
      slots = tagged-fine (tagged_at c t) (are t less)

      at : LoadedAt M o c (tagged_at c t).receiver xs k s m cs e acts size fine means (instruction_at s.code k.pc)
          (tagged_slot (slots_of (tagged_at c t)) ((us t).taken + j) + b)
      at = loaded-at M o c (tagged_at c t).receiver xs k s m cs e acts size fine means d ks found
          (tagged_slot (slots_of (tagged_at c t)) ((us t).taken + j) + b) does.1

      has : HasAtLeast (tagged_at c t) the_receiver (us t) xs (share_at k (length c.queues + t))
      has = told t less the_receiver refl

      tag : moves_tag c t k (Some at.target) ≡ true → ⊥
      tag moves =
          let own : is_just (tag_at (tagged_at c) (length c.tagged) (length c.queues) q.receiver k at.target.place at.target.width t) 0 ≡ true =
          (found-below (length c.tagged) (λ t. is_just
          (tag_at (tagged_at c) (length c.tagged) (length c.queues) q.receiver k at.target.place at.target.width t) 0)
          t (just-is (moved_tag (tagged_at c) (length c.tagged) (length c.queues) q.receiver k at.target.place at.target.width) t moves)).1 in
          let position : tag_position k.ranges q (share_at k (length c.queues + t)) at.target.place at.target.width ≡ Some 0 =
          just-is _ 0 (subst (λ r. is_just (tag_by (tagged_at c) (length c.queues) k r at.target.place at.target.width t) 0 ≡ true)
          (teller-is (slots_of q) slots q.receiver the_receiver refl) own) in
          let there = tag-place q slots (queue_at c) k.ranges xs means.ranges (share_at k (length c.queues + t)) (us t).taken has.own at.target.place at.address
          at.target.width 0 at.at position in
          let place : at.address ≡ tag_of (slots_of q) ((us t).taken + 0) = there.place in
          let whole : at.target.width ≡ q.tag_width = there.whole in
          let within = at.within in
          tag-clash q slots ((us t).taken + j) b short none ((us t).taken + 0) (omega (arith, within.0, place), omega (arith, within.1, place, whole))

      rest : is-rest at.target ≡ true → ⊥
      rest ok = elim (or_cases (is_beside_slots (tagged_at c t) at.target.bounds at.target.width) _ ok) [
        | inl off ↦ beside-outside q slots at.target.bounds at.address at.target.width _ off at.low at.high at.within
            (inl (slot-within q.slots q.width q.size slots.some ((us t).taken + j) _ (omega arith, omega (arith, short))))
        | inr of ↦
            (let byte = of-tag q slots (queue_at c) k.ranges xs means.ranges (share_at k (length c.queues + t)) (us t).taken has.own at.target.place at.address
            at.target.width _ at.at of at.within in tag-clash q slots ((us t).taken + j) b short none byte.0 byte.1)
      ]

      by : (r : Bool) → moves_tag c t k (store_target c k (instruction_at s.code k.pc)) ≡ r
          → reads_byte (Some (tag_receipt_of c t k (instruction_at s.code k.pc))) j b ≡ true
      by true moves = absurd (tag (moved-target (instruction_at s.code k.pc) at.target at.is moves))
      by false stays = rw (stays, at.is)
          (exact-bytes (queue_at c) k.ranges xs means.ranges (bare (tagged_at c t)) (share_at k (length c.queues + t))
          (us t).taken
          (owned_end (slots_of (tagged_at c t)) the_receiver (us t)) has.own has.upto (is-rest at.target ≡ true) at.target.place at.address at.target.width
          at.at (λ not. elim (or_cases (is-rest at.target) _ (rest-target (instruction_at s.code k.pc) at.target at.is owns)) [
            | inl beside ↦ beside
            | inr owned ↦ absurd
                (let no : is_owned k.ranges (bare (tagged_at c t)) (share_at k (length c.queues + t)) at.target.place at.target.width ≡ false = not in
                let yes : is_owned k.ranges (bare (tagged_at c t)) (share_at k (length c.queues + t)) at.target.place at.target.width ≡ true = owned in cc)
          ])
          sees.round slots.some j b does.0 short at.within.0 at.within.1 rest)
