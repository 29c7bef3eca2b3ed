-- What an entry of a queue's party leads to from a state of the certificate: what a leaf of the state does, and a next state in which no
-- more is marked than is done after it.
use Rattle.std.proofs.Common.{ℕ, ◌<◌, ◌≤◌, ◌≡◌, ◌||◌, not, if◌then◌else◌, Bool, true, false, Option, Some, None, List, [], ◌∷◌, length, map, get_or, sym, ◌∙◌}
use Rattle.std.proofs.Common.{ap, refl, subst, arith, ◌+◌, ◌==◌}
use Rattle.std.specs.List.{slice_get, list_all, list_any}
use Rattle.std.proofs.lemmas.Bool.{and_parts, and_from, or_parts, not_from_false}
use Rattle.std.proofs.lemmas.List.{get_or-map}
use Rattle.std.proofs.lemmas.List.Folds.{list_all-append}
use Rattle.std.proofs.lemmas.Option.{get_or_from_slice_get}
use Rattle.rv_decode.specs.declared.instruction.Instr.{Instr}
use Rattle.hart.specs.{HartState, advanced}
use Rattle.hart.specs.declared.status.Status.TheVariants as status
use Rattle.step_machine.specs.declared.events.Entry.{Entry}
use Rattle.step_machine.specs.Names.{HartOpeningValue, OpeningValue, Access, access_of, number_read}
use Rattle.slot_queue.specs.{slot_of, after_access}
use Rattle.queue_parties.specs.Parties.{Party, the_sender, the_receiver}
use Rattle.slots_that_tell.specs.Slots.{tagged_slot}
use Rattle.queue_layouts.specs.Tagged.{slots_of}
use Rattle.queue_certificates.specs.{View, AllCounts, view_then, ActsByCounts, kept_beside, Form, KnownState, MeansAt, follow, instruction_at, QueueCertificate}
use Rattle.queue_certificates.specs.{queue_at, fields_at, part_of, own_of, state_at, tagged_at, HasFields, MeetsFields, SharesTold, MeansAll, told_beside}
use Rattle.queue_certificates.specs.{no_hart, nowhere, next_states, all_lead, accepts, next_received, effect_of, value_stored, tag_effect_of}
use Rattle.queue_certificates.specs.Cases.{Arrow, Cases, leaf, split, with_low, with_high, may_exceed, each_leaf}
use Rattle.queue_certificates.specs.declared.effect.Effect.{Effect}
use Rattle.queue_certificates.specs.declared.effect.Effect.TheVariants.{Leaves, Fills, Publishes, PublishesSome}
use Rattle.queue_certificates.specs.{KnownValue, linear, form_value, most, share_at, loads_owned, loads_rest, published_by, filled_by, is_owned, position_at}
use Rattle.queue_certificates.specs.{offset_at}
use Rattle.queue_certificates.proofs.{at-below, same-exactly, value-below}
use Rattle.slot_queue.specs.Ownership.{end}
use Rattle.queue_certificates.proofs.{untold, hart-party, fine, fine-tagged, past, OfHart, accepted-opens, followed, Led, among-leads, leaf-goes, state-does}
use Rattle.queue_certificates.proofs.Effects.{Sends, does-sends}
use Rattle.records_written.specs.{IsListed, hart_by, receiver_in, count_of, end_of, effect_by, effect_counted}
use Rattle.records_written.specs.{effect_in, receipt_of, tag_receipt_of, QueueNumber}
use Rattle.records_written.specs.{Indexed, Tagged, IsRecordByte, OwnsReads, reads_byte}
use Rattle.records_written.specs.Parties.{moves_tail, owned_bytes}
use Rattle.queue_checker.specs.Operands.{load_target, store_target}
use Rattle.queue_checker.specs.declared.targets.Target.{Target}
use Rattle.records_written.specs.{PartyLeaf, may_hand, may_hand_on, is_all, leaf_by, leaves_in, graph_of}
use Rattle.records_written.specs.Parties.{counts_for}
use Rattle.records_written.proofs.Acted.{ActsBy, CountsBy, DoesByte, counted-acts, indexed_then, tagged_then, sends-act}
use Rattle.records_written.proofs.Exact.{exact-index, exact-tag}
use Rattle.records_written.proofs.ReceivedIndices.{receipt-comes}
use Rattle.records_written.proofs.ReceivedTags.{tag-receipt-comes}

-- ---- what an instruction comes to at a leaf

module _ (M : ℕ) (o : OpeningValue) (c : QueueCertificate) (ok : accepts o c ≡ true) where
  -- of the sender by what queue_certificates says of it
  leaf-acts : (w : QueueNumber) (p : Party) → IsListed c w → (x : HartOpeningValue) → OfHart M o c ok (hart_by c w p) x → (s : HartState) (m : View)
      (cs us : AllCounts) (e : Entry) → ActsByCounts M o (length c.queues) (queue_at c) (HasFields c) (MeetsFields c) (hart_by c w p) s m cs e
      → (kept_beside (told_beside c)).Knows (hart_by c w p) us m → s.code ≡ x.code → length s.registers ≡ length x.registers
      → (k : KnownState) (d : Form) (xs : List ℕ) (ts : List KnownState)
      → MeansAt (queue_at c) (length c.queues) (own_of c (hart_by c w p)) (hart_by c w p) xs k s m cs → SharesTold c (hart_by c w p) xs k us
      → next_states c (hart_by c w p) x.code k d ≡ Some ts → (f : Effect) → effect_by c w p k d (instruction_at x.code k.pc) ≡ Some f
      → ActsBy c w p cs us f (access_of e) (advanced s (number_read e))
  leaf-acts (Indexed i) the_sender less x of s m cs us e acts knows code size k d xs ts means told may f effect =
      let h : ℕ = (queue_at c i).sender in
      let found = followed c (queue_at c i).sender x.code k d ts may in
      sends-act (queue_at c i).size (slot_of (queue_at c i)) (cs i).published
      (count_of (Indexed i) the_sender (indexed_then c (queue_at c i).sender (access_of e) cs) (tagged_then c (queue_at c i).sender (access_of e) us))
      f (access_of e) (advanced s (number_read e))
      (subst (λ n. Sends (queue_at c i).size (slot_of (queue_at c i)) (cs i).published n f (access_of e) (advanced s (number_read e)))
      (ap (λ r. (after_access (queue_at c i) r (access_of e) (cs i)).published)
      (sym (hart-party (queue_at c i) (accepted-opens M o c ok i less).0 (queue_at c i).sender the_sender refl)))
      (does-sends (queue_at c i) (cs i) k.ranges (value_stored (queue_at c) k (instruction_at s.code k.pc)) m f (access_of e) (advanced s (number_read e))
      (state-does M o (queue_at c) (length c.queues) (own_of c) (length c.harts) i less xs k s m cs e
      (untold M o (length c.queues) (queue_at c) (HasFields c) (MeetsFields c) h s m cs e acts)
      (subst (λ n. 32 ≤ n) (sym size) of.registers) (fine M o c ok) means (past M o c ok) d f found.0
      (ap (λ ws. follow (queue_at c) (length c.queues) (own_of c) (length c.harts) h k d (instruction_at ws k.pc)) code ∙ found.1)
      (ap (λ ws. effect_of (queue_at c) (length c.queues) i k d (instruction_at ws k.pc)) code ∙ effect))))
  leaf-acts (Tagged t) the_sender less x of s m cs us e acts knows code size k d xs ts means told may f effect =
      let its : (Option Instr → Effect) =
      tag_effect_of (tagged_at c) (length c.tagged) (queue_at c) (length c.queues) (tagged_at c t).sender t k in
      let goes = leaf-goes M o c ok (tagged_at c t).sender x of s m cs us e acts knows code size k d xs ts means told may in
      subst (λ g. ActsBy c (Tagged t) the_sender cs us g (access_of e) (advanced s (number_read e)))
      (ap (λ n. its (instruction_at s.code n)) means.pc ∙ ap (λ ws. its (instruction_at ws k.pc)) code
      ∙ (let same : its (instruction_at x.code k.pc) ≡ f = cc in same))
      (sends-act (tagged_at c t).size (tagged_slot (slots_of (tagged_at c t))) (us t).published
      (count_of (Tagged t) the_sender (indexed_then c (tagged_at c t).sender (access_of e) cs) (tagged_then c (tagged_at c t).sender (access_of e) us))
      (its (instruction_at s.code s.pc)) (access_of e) (advanced s (number_read e)) (goes.sends t less refl))
  leaf-acts (Indexed i) the_receiver less x of s m cs us e acts knows code size k d xs ts means told may f effect =
      let h : ℕ = (queue_at c i).receiver in
      let found = followed c (queue_at c i).receiver x.code k d ts may in
      receipt-comes M o c i less xs k s m cs us e (untold M o (length c.queues) (queue_at c) (HasFields c) (MeetsFields c) h s m cs e acts)
      (subst (λ n. 32 ≤ n) (sym size) of.registers) (fine M o c ok) means (past M o c ok) d f found.0
      (ap (λ ws. follow (queue_at c) (length c.queues) (own_of c) (length c.harts) h k d (instruction_at ws k.pc)) code ∙ found.1)
      (ap (λ ws. receipt_of c i k d (instruction_at ws k.pc)) code ∙ effect)
  leaf-acts (Tagged t) the_receiver less x of s m cs us e acts knows code size k d xs ts means told may f effect =
      let h : ℕ = (tagged_at c t).receiver in
      let found = followed c (tagged_at c t).receiver x.code k d ts may in
      let next : (List ℕ → Option (List KnownState)) = λ ws. next_received (queue_at c) (fields_at c) (length c.queues) h k (instruction_at ws k.pc)
      (follow (queue_at c) (length c.queues) (own_of c) (length c.harts) h k d (instruction_at ws k.pc)) in
      subst (λ g. ActsBy c (Tagged t) the_receiver cs us g (access_of e) (advanced s (number_read e)))
      (ap (λ ws. tag_receipt_of c t k (instruction_at ws k.pc)) code ∙ (let same : tag_receipt_of c t k (instruction_at x.code k.pc) ≡ f = cc in same))
      (tag-receipt-comes M o c t less xs k s m cs us e (untold M o (length c.queues) (queue_at c) (HasFields c) (MeetsFields c) h s m cs e acts)
      (subst (λ n. 32 ≤ n) (sym size) of.registers) (fine M o c ok) means (fine-tagged M o c ok) told d (next s.code) found.0 ts
      (ap (λ ws. follow (queue_at c) (length c.queues) (own_of c) (length c.harts) h k d (instruction_at ws k.pc)) code ∙ found.1)
      (ap (λ ws. next_states c h ws k d) code ∙ may))

  -- and of the receiver, whose loads are accepted, nothing else is read of records
  abbrev pub owns_load : QueueNumber → KnownState → Option Instr → Bool
  owns_load (Indexed i) k j = loads_owned (queue_at c) k i j
  owns_load (Tagged t) k j = loads_rest (tagged_at c) (queue_at c) (length c.queues) k t j

  -- where all of them are
  pub owned-at : (w : QueueNumber) (p : Party) → p ≡ the_receiver → OwnsReads o c w → (x : HartOpeningValue) → slice_get o.harts (hart_by c w p) ≡ Some x
      → (n : ℕ) → n < length (part_of c (hart_by c w p)).states
      → each_leaf (λ k d arrows. owns_load w k (instruction_at x.code k.pc)) (state_at c (hart_by c w p) n).known (state_at c (hart_by c w p) n).cases ≡ true
  owned-at w the_sender is owns x opens n listed = absurd (cc)
  owned-at (Indexed i) the_receiver is owns x opens n listed = subst (λ (y : HartOpeningValue). each_leaf
      (λ k d arrows. loads_owned (queue_at c) k i (instruction_at y.code k.pc)) (state_at c (queue_at c i).receiver n).known
      (state_at c (queue_at c i).receiver n).cases ≡ true) (get_or_from_slice_get o.harts (queue_at c i).receiver x no_hart opens)
      (at-below (length (part_of c (queue_at c i).receiver).states) _ owns n listed)
  owned-at (Tagged t) the_receiver is owns x opens n listed = subst (λ (y : HartOpeningValue). each_leaf
      (λ k d arrows. loads_rest (tagged_at c) (queue_at c) (length c.queues) k t (instruction_at y.code k.pc)) (state_at c (tagged_at c t).receiver n).known
      (state_at c (tagged_at c t).receiver n).cases ≡ true) (get_or_from_slice_get o.harts (tagged_at c t).receiver x no_hart opens)
      (at-below (length (part_of c (tagged_at c t).receiver).states) _ owns n listed)

  leaf-reads : (w : QueueNumber) → IsListed c w → (x : HartOpeningValue) → OfHart M o c ok (receiver_in c w) x → (s : HartState) (m : View)
      (cs us : AllCounts) (e : Entry) → ActsByCounts M o (length c.queues) (queue_at c) (HasFields c) (MeetsFields c) (receiver_in c w) s m cs e
      → (kept_beside (told_beside c)).Knows (receiver_in c w) us m → s.code ≡ x.code → length s.registers ≡ length x.registers
      → (k : KnownState) (d : Form) (xs : List ℕ) (ts : List KnownState)
      → MeansAt (queue_at c) (length c.queues) (own_of c (receiver_in c w)) (receiver_in c w) xs k s m cs → SharesTold c (receiver_in c w) xs k us
      → next_states c (receiver_in c w) x.code k d ≡ Some ts → owns_load w k (instruction_at x.code k.pc) ≡ true → (j b : ℕ) → IsRecordByte c w b
      → DoesByte c w the_receiver cs us (access_of e) j b → reads_byte (effect_by c w the_receiver k d (instruction_at x.code k.pc)) j b ≡ true
  leaf-reads (Indexed i) less x of s m cs us e acts knows code size k d xs ts means told may owns j b short does =
      let h : ℕ = (queue_at c i).receiver in
      let found = followed c (queue_at c i).receiver x.code k d ts may in
      subst (λ ws. reads_byte (receipt_of c i k d (instruction_at ws k.pc)) j b ≡ true) code
      (exact-index M o c i less xs k s m cs us e (untold M o (length c.queues) (queue_at c) (HasFields c) (MeetsFields c) h s m cs e acts)
      (subst (λ n. 32 ≤ n) (sym size) of.registers) (fine M o c ok) means d found.0
      (ap (λ ws. follow (queue_at c) (length c.queues) (own_of c) (length c.harts) h k d (instruction_at ws k.pc)) code ∙ found.1)
      (subst (λ ws. loads_owned (queue_at c) k i (instruction_at ws k.pc) ≡ true) (sym code) owns) j b short does)
  leaf-reads (Tagged t) less x of s m cs us e acts knows code size k d xs ts means told may owns j b short does =
      let h : ℕ = (tagged_at c t).receiver in
      let found = followed c (tagged_at c t).receiver x.code k d ts may in
      subst (λ ws. reads_byte (Some (tag_receipt_of c t k (instruction_at ws k.pc))) j b ≡ true) code
      (exact-tag M o c t less xs k s m cs us e (untold M o (length c.queues) (queue_at c) (HasFields c) (MeetsFields c) h s m cs e acts)
      (subst (λ n. 32 ≤ n) (sym size) of.registers) (fine M o c ok) means (fine-tagged M o c ok) told (knows t less the_receiver refl) d found.0
      (ap (λ ws. follow (queue_at c) (length c.queues) (own_of c) (length c.harts) h k d (instruction_at ws k.pc)) code ∙ found.1)
      (subst (λ ws. loads_rest (tagged_at c) (queue_at c) (length c.queues) k t (instruction_at ws k.pc) ≡ true) (sym code) owns) j b short.0 short.1 does)

  -- a leaf that hands back exactly as many as there are leaves none that was owned before
  leaf-all : (w : QueueNumber) → IsListed c w → (k : KnownState) (d : Form) (xs : List ℕ) (s : HartState) (m : View) (cs us : AllCounts) (j : Option Instr)
      → MeansAt (queue_at c) (length c.queues) (own_of c (receiver_in c w)) (receiver_in c w) xs k s m cs → (n : ℕ)
      → effect_in c w the_receiver k d j ≡ Some (Publishes n) → is_all c w k d ≡ true
      → end_of c w the_receiver cs us ≤ count_of w the_receiver cs us + n
  leaf-all (Tagged t) less k d xs s m cs us j means n effect all = absurd (cc)
  leaf-all (Indexed i) less k d xs s m cs us j means n effect all =
      let has = means.shares i less the_receiver refl in
      let same : form_value d xs ≡ form_value (share_at k i).owned xs = same-exactly d (share_at k i).owned xs all in
      let most-is : most k.ranges d ≡ Some n = of (moves_tail c i (store_target c k j)) (handed (counts_for the_receiver j) (receipt_of c i k d j) effect) in
      let below : form_value d xs ≤ n = value-below k.ranges d xs n means.ranges most-is in
      let upto : end (queue_at c i) the_receiver (cs i) ≡ form_value (share_at k i).own xs + form_value (share_at k i).owned xs = has.upto in
      let own : (cs i).taken ≡ form_value (share_at k i).own xs = has.own in
      omega (arith, upto, own, same, below)
    where
      handed : (t : Bool) (f : Option Effect) → effect_counted t f ≡ Some (Publishes n) → f ≡ Some (Publishes n)
      handed true f is = is
      handed false None is = is
      handed false (Some Leaves) is = is
      handed false (Some (Fills a b w)) is = absurd (cc)
      handed false (Some (Publishes m)) is = is
      handed false (Some (PublishesSome m)) is = is

      exactly : (bound : Option ℕ) → published_by d bound ≡ Some (Publishes n) → bound ≡ Some n
      exactly None is = absurd (cc)
      exactly (Some v) is = by (v == d.constant) is
        where
          by : (t : Bool) → Some (if t then Publishes v else PublishesSome v) ≡ Some (Publishes n) → Some v ≡ Some n
          by true is = (let same : v ≡ n = cc in ap Some same)
          by false is = absurd (cc)

      no-bytes : (g : Option Target) → Some (owned_bytes k.ranges (queue_at c i) (share_at k i) g) ≡ Some (Publishes n) → ⊥
      no-bytes None is = cc
      no-bytes (Some g) is = at g.place is
        where
          at : (v : KnownValue) → Some (filled_by k.ranges (queue_at c i) (share_at k i) v g.width) ≡ Some (Publishes n) → ⊥
          at (linear f) is = by (is_owned k.ranges (queue_at c i) (share_at k i) (linear f) g.width) is
            where
              by : (t : Bool) → Some (if t then Fills (position_at (queue_at c i) (share_at k i).own.constant f.constant)
                  (offset_at (queue_at c i) f.constant) g.width else Leaves) ≡ Some (Publishes n) → ⊥
              by true is = cc
              by false is = cc
          at other is = cc

      of : (t : Bool) → (if t then published_by d (most k.ranges d) else Some (owned_bytes k.ranges (queue_at c i) (share_at k i) (load_target c k j)))
          ≡ Some (Publishes n) → most k.ranges d ≡ Some n
      of true is = exactly (most k.ranges d) is
      of false is = absurd (no-bytes (load_target c k j) is)

-- ---- what is so of all that a state's leaves do is so of each

each-leaf : (P : PartyLeaf → Bool) (f : KnownState → Form → List Arrow → PartyLeaf) (k : KnownState) (t : Cases)
    → list_all P (leaves_in f k t) ≡ true → each_leaf (λ k d arrows. P (f k d arrows)) k t ≡ true
each-leaf P f k (leaf d arrows) ok = (and_parts (P (f k d arrows)) true ok).0
each-leaf P f k (split j v low high) ok =
    let both = and_parts (list_all P (leaves_in f (with_low k j v) low))
    (list_all P (if may_exceed v (get_or k.ranges j (Some 0)) then leaves_in f (with_high k j v) high else []))
    (sym (list_all-append P (leaves_in f (with_low k j v) low) _) ∙ ok) in
    rw (each-leaf P f (with_low k j v) low both.0)
    (above (may_exceed v (get_or k.ranges j (Some 0))) both.1 (each-leaf P f (with_high k j v) high))
  where
    above : (t : Bool) → list_all P (if t then leaves_in f (with_high k j v) high else []) ≡ true
        → (list_all P (leaves_in f (with_high k j v) high) ≡ true → each_leaf (λ k d arrows. P (f k d arrows)) (with_high k j v) high ≡ true)
        → (not t || each_leaf (λ k d arrows. P (f k d arrows)) (with_high k j v) high) ≡ true
    above true ok higher = higher ok
    above false ok higher = refl

pub none-passes : {A : Type 0} (p : A → Bool) (xs : List A) → list_any p xs ≡ false → list_all (λ x. not (p x)) xs ≡ true
none-passes p [] none = refl
none-passes p (x ∷ xs) none =
    let both = or_parts (p x) (list_any p xs) none in
    and_from (not (p x)) (list_all (λ x. not (p x)) xs) (not_from_false (p x) both.0) (none-passes p xs both.1)

module _ (M : ℕ) (o : OpeningValue) (c : QueueCertificate) (ok : accepts o c ≡ true) (w : QueueNumber) (p : Party) (less : IsListed c w) where
  abbrev h : ℕ
  h = hart_by c w p

  abbrev states : ℕ
  states = length (part_of c (hart_by c w p)).states

  -- what the party does at the leaves of state n
  abbrev pub leaves : ℕ → List PartyLeaf
  leaves n = get_or (graph_of o c w p) n []

  -- what is so of all of them is so of each leaf of the certificate
  pub leaves-pass : (x : HartOpeningValue) → slice_get o.harts (hart_by c w p) ≡ Some x → (n : ℕ) → n < states → (P : PartyLeaf → Bool)
      → list_all P (leaves n) ≡ true
      → each_leaf (λ k d arrows. P (leaf_by c w p x.code k d arrows)) (state_at c h n).known (state_at c h n).cases ≡ true
  leaves-pass x is n listed P all =
      each-leaf P (leaf_by c w p x.code) (state_at c h n).known (state_at c h n).cases
      (subst (λ (y : HartOpeningValue). list_all P (leaves_in (leaf_by c w p y.code) (state_at c h n).known (state_at c h n).cases) ≡ true)
      (get_or_from_slice_get o.harts h x no_hart is)
      (ap (λ ys. list_all P ys)
      (sym (get_or-map (λ t. leaves_in (leaf_by c w p (get_or o.harts h no_hart).code) t.known t.cases)
      (part_of c h).states n nowhere [] listed))
      ∙ all))

  -- a leaf of state n, by its effect and its targets
  abbrev pub IsLeafOf : (n : ℕ) → PartyLeaf → Type 0
  IsLeafOf n s = (P : PartyLeaf → Bool) → list_all P (leaves n) ≡ true → P s ≡ true

  -- it hands on what the state may
  pub hands : (n : ℕ) (s : PartyLeaf) → IsLeafOf n s → (d : ℕ) → may_hand d s.effect ≡ true → may_hand_on (leaves n) d ≡ true
  hands n s of d may = by (may_hand_on (leaves n) d) refl
    where
      by : (t : Bool) → may_hand_on (leaves n) d ≡ t → may_hand_on (leaves n) d ≡ true
      by true so = so
      by false none = absurd (let unless : not (may_hand d s.effect) ≡ true =
          of (λ s. not (may_hand d s.effect)) (none-passes (λ s. may_hand d s.effect) (leaves n) none) in
          cc)

  -- a state of the party's in which no more is marked than after the leaf, whatever marks its leaves keep
  pub record Found (n : ℕ) (s : PartyLeaf) (z : HartState) (m : View) (cs us : AllCounts) : Type 0 where
    pub state : ℕ
    pub listed : state < states
    pub means : MeansAll c h (state_at c h state).known z m cs us
    pub passes : (P : PartyLeaf → ℕ → Bool) → list_all (λ s. list_all (P s) s.targets) (leaves n) ≡ true → P s state ≡ true

  found-led : (n : ℕ) (effect : Option Effect) (all : Bool) (arrows : List Arrow) (z : HartState) (m : View) (cs us : AllCounts)
      → IsLeafOf n (record { effect = effect; all = all; targets = map (λ a. a.to) arrows }) → Led c h arrows z m cs us
      → Found n (record { effect = effect; all = all; targets = map (λ a. a.to) arrows }) z m cs us
  found-led n effect all arrows z m cs us of found = record {
    state = found.state;
    listed = found.listed;
    means = found.means;
    passes = λ P each. found.passes (λ bs. list_all (P (record { effect = effect; all = all; targets = map (λ a. a.to) arrows })) (map (λ a. a.to) bs))
        (P (record { effect = effect; all = all; targets = map (λ a. a.to) arrows })) (λ a bs both. and_parts _ _ both)
        (of (λ s. list_all (P s) s.targets) each);
  }

  -- what an entry comes to from a leaf of state n, by this instruction
  pub record Leads (Owned : Type 0) (n : ℕ) (m : View) (cs us : AllCounts) (j : Option Instr) (y : Access) (z : HartState) : Type 0 where
    pub does : PartyLeaf
    pub leaf : IsLeafOf n does
    pub acts : (f : Effect) → does.effect ≡ Some f → CountsBy c w p (counts_for p j) cs us f y z
    pub reads : Owned → (a b : ℕ) → IsRecordByte c w b → counts_for p j ≡ true → DoesByte c w p cs us y a b → reads_byte does.effect a b ≡ true
    pub all : Owned → (m : ℕ) → does.effect ≡ Some (Publishes m) → does.all ≡ true → end_of c w p cs us ≤ count_of w p cs us + m
    pub next : z.status ≡ status.Running
        → Found n does z (view_then y m) (indexed_then c (hart_by c w p) y cs) (tagged_then c (hart_by c w p) y us)

  pub leads : (x : HartOpeningValue) → OfHart M o c ok (hart_by c w p) x → (s : HartState) (m : View) (cs us : AllCounts) (e : Entry)
      → ActsByCounts M o (length c.queues) (queue_at c) (HasFields c) (MeetsFields c) (hart_by c w p) s m cs e
      → (kept_beside (told_beside c)).Knows (hart_by c w p) us m → s.code ≡ x.code → length s.registers ≡ length x.registers
      → (n : ℕ) (k : KnownState) (d : Form) (arrows : List Arrow) (xs : List ℕ)
      → all_lead c (hart_by c w p) (next_states c (hart_by c w p) x.code k d) arrows ≡ true
      → IsLeafOf n (leaf_by c w p x.code k d arrows)
      → MeansAt (queue_at c) (length c.queues) (own_of c (hart_by c w p)) (hart_by c w p) xs k s m cs
      → SharesTold c (hart_by c w p) xs k us → (Owned : Type 0) → (Owned → (p ≡ the_receiver) × (owns_load M o c ok w k (instruction_at x.code k.pc) ≡ true))
      → Leads Owned n m cs us (instruction_at s.code s.pc) (access_of e) (advanced s (number_read e))
  leads x of s m cs us e acts knows code size n k d arrows xs closed among means told Owned owns = by (next_states c h x.code k d) refl closed
    where
      receiver-reads : (r : Party) → OfHart M o c ok (hart_by c w r) x
          → ActsByCounts M o (length c.queues) (queue_at c) (HasFields c) (MeetsFields c) (hart_by c w r) s m cs e
          → (kept_beside (told_beside c)).Knows (hart_by c w r) us m → r ≡ the_receiver → (ts : List KnownState)
          → next_states c (hart_by c w r) x.code k d ≡ Some ts → MeansAt (queue_at c) (length c.queues) (own_of c (hart_by c w r)) (hart_by c w r) xs k s m cs
          → SharesTold c (hart_by c w r) xs k us → owns_load M o c ok w k (instruction_at x.code k.pc) ≡ true → (a b : ℕ) → IsRecordByte c w b
          → counts_for r (instruction_at x.code k.pc) ≡ true → DoesByte c w r cs us (access_of e) a b
          → reads_byte (effect_in c w r k d (instruction_at x.code k.pc)) a b ≡ true
      receiver-reads the_sender of acts knows is ts may means told owns a b recorded counts does = absurd (cc)
      receiver-reads the_receiver of acts knows is ts may means told owns a b recorded counts does = rw counts
          (leaf-reads M o c ok w less x of s m cs us e acts knows code size k d xs ts means told may owns a b recorded does)

      receiver-all : (r : Party) → r ≡ the_receiver → MeansAt (queue_at c) (length c.queues) (own_of c (hart_by c w r)) (hart_by c w r) xs k s m cs → (j : ℕ)
          → effect_in c w r k d (instruction_at x.code k.pc) ≡ Some (Publishes j) → is_all c w k d ≡ true
          → end_of c w the_receiver cs us ≤ count_of w the_receiver cs us + j
      receiver-all the_sender is means j effect all = absurd (cc)
      receiver-all the_receiver is means j effect all =
          leaf-all M o c ok w less k d xs s m cs us (instruction_at x.code k.pc) means j effect all

      by : (ts : Option (List KnownState)) → next_states c h x.code k d ≡ ts → all_lead c h ts arrows ≡ true
          → Leads Owned n m cs us (instruction_at s.code s.pc) (access_of e) (advanced s (number_read e))
      by None may closed = absurd (cc)
      by (Some ts) may closed =
          let goes = leaf-goes M o c ok h x of s m cs us e acts knows code size k d xs ts means told may in
          record {
            does = leaf_by c w p x.code k d arrows;
            leaf = among;
            acts = λ f effect. subst (λ j. CountsBy c w p (counts_for p j) cs us f (access_of e) (advanced s (number_read e)))
                (ap (λ pc. instruction_at x.code pc) (sym means.pc) ∙ ap (λ ws. instruction_at ws s.pc) (sym code))
                (counted-acts (DoesByte c w p cs us (access_of e)) (count_of w p cs us)
                (count_of w p (indexed_then c h (access_of e) cs) (tagged_then c h (access_of e) us)) (counts_for p (instruction_at x.code k.pc))
                (effect_by c w p k d (instruction_at x.code k.pc)) (advanced s (number_read e))
                (λ g is. leaf-acts M o c ok w p less x of s m cs us e acts knows code size k d xs ts means told may g is) f effect);
            reads = λ own a b recorded counts does. receiver-reads p of acts knows (owns own).0 ts may means told (owns own).1 a b recorded
                (ap (λ ws. counts_for p (instruction_at ws k.pc)) (sym code) ∙ ap (λ pc. counts_for p (instruction_at s.code pc)) (sym means.pc) ∙ counts) does;
            all = λ own m effect is. subst (λ r. end_of c w r cs us ≤ count_of w r cs us + m) (sym (owns own).0)
                (receiver-all p (owns own).0 means m effect is);
            next = λ runs. found-led n (effect_in c w p k d (instruction_at x.code k.pc)) (is_all c w k d) arrows
                (advanced s (number_read e)) (view_then (access_of e) m)
                (indexed_then c h (access_of e) cs) (tagged_then c h (access_of e) us) among
                (among-leads c h xs ts arrows (advanced s (number_read e)) (view_then (access_of e) m)
                (indexed_then c h (access_of e) cs) (tagged_then c h (access_of e) us) closed (goes.next runs));
          }
