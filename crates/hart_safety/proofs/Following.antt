-- After an instruction that doesn't stop its hart the pc is that of a state that follows from the leaf, and so of one that is listed. So the hart runs
-- on where none is listed just past its code, and no leaf makes the exit call.
use Rattle.std.proofs.Common.{ℕ, ℤ, ◌+◌, ◌/◌, ◌*◌, ◌<◌, ◌≤◌, ◌≡◌, ◌⊎◌, inl, inr, if◌then◌else◌, Bool, true, false, Option, Some, None, List, [], ◌∷◌, length}
use Rattle.std.proofs.Common.{refl, sym, ◌∙◌, ap, subst, ◌==◌, not, get_or}
use Rattle.std.specs.Prelude.{nat_lt, slice_index}
use Rattle.std.proofs.lemmas.Bool.{and_parts, eqb-true, ltb-true, lt-ltb, eq-eqb}
use Rattle.rv_decode.specs.declared.instruction.Reg.{Reg}
use Rattle.rv_decode.specs.declared.instruction.LoadOp.{LoadOp}
use Rattle.rv_decode.specs.declared.instruction.StoreOp.{StoreOp}
use Rattle.rv_decode.specs.declared.instruction.AmoOp.{AmoOp}
use Rattle.rv_decode.specs.declared.instruction.Instr.{Instr}
use Rattle.rv_decode.specs.declared.instruction.Instr.TheVariants.{Jal, Jalr, Branch, Load, Store, Ebreak, Amo, Ecall}
use Rattle.hart.specs.{HartState, register_value, address, is_taken, load_width, store_width, next_pc, pc_after, need_of, need_for, advanced}
use Rattle.hart.proofs.Instructions.{IsAt, need_at}
use Rattle.step_machine.specs.declared.events.Entry.{Entry}
use Rattle.step_machine.specs.Names.{OpeningValue, number_read}
use Rattle.queue_parties.specs.Parties.{Party}
use Rattle.slot_queue.specs.Queues.{Queue, IsQueue, TellsFull}
use Rattle.queue_layouts.specs.declared.tagged.TaggedQueue.{TaggedQueue}
use Rattle.queue_certificates.specs.{View, AllCounts, ActsByCounts, Field, Form, Bounds, any, KnownState, Has, MeansAt, as_number, bounds, is_branch_taken}
use Rattle.queue_certificates.specs.{last_below, is_look, may_load, register_at, operand, instruction_at, address_value, addresses, exchanged, updated_value}
use Rattle.queue_certificates.specs.{with_result, when_taken, when_passed, goes_by, jumping, exchanging, share_at, after_load, follow, field_number}
use Rattle.queue_certificates.specs.{keeps_numbers, after_field, field_below, next_received, party_in, tag_at, looked_tag, moved_tag, told_value, other_value}
use Rattle.queue_certificates.specs.{when_told, may_store_all, all_handed, at_tag, load_tells, next_told, told_by_store, QueueCertificate, queue_at, fields_at}
use Rattle.queue_certificates.specs.{tagged_at, own_of, part_of, state_at, next_states, arrow_leads, each_leads, all_lead}
use Rattle.queue_certificates.specs.Cases.{Arrow, Cases, leaf, split, with_low, each_leaf}
use Rattle.queue_certificates.specs.declared.own.OwnWord.{OwnWord}
use Rattle.queue_certificates.proofs.{known-is, has-plain, branch-is, nobody_told, nothing_sent}
use Rattle.queue_certificates.proofs.Steps as steps
use Rattle.hart_safety.proofs.Going.{KeepsGoing, at-instruction, settles, runs-inside}
use Rattle.hart.specs.declared.status.Status.TheVariants as status
use Rattle.hart_safety.specs.Stops.{call_in}
use Rattle.hart_safety.specs.Ends.{is_no_exit, makes_no_exit, runs_on_at}

-- one of these states has this pc
abbrev pub Reaches : (pc : ℕ) → List KnownState → Type 0
Reaches pc [] = ⊥
Reaches pc (k ∷ ks) = (k.pc ≡ pc) ⊎ Reaches pc ks

-- if it is shown that the instruction may be executed
abbrev pub MayReach : (pc : ℕ) → Option (List KnownState) → Type 0
MayReach pc None = Unit {0}
MayReach pc (Some ks) = Reaches pc ks

-- ---- accesses go on to the next instruction

module _ (tagged : ℕ → TaggedQueue) (T : ℕ) (queues : ℕ → Queue) (N : ℕ) (own_of : ℕ → List OwnWord) (H h : ℕ) (fields : ℕ → List Field) (k : KnownState) where
  abbrev pub next-of : Option Instr → Option (List KnownState) → Option (List KnownState)
  next-of i ks = next_told tagged T queues N own_of H h k i (next_received queues fields N h k i ks)

  module _ (op : LoadOp) (rd rs1 : Reg) (offset : ℤ) where
    field-next : (look : Option ℕ) (f : Option Field) (x : KnownState) → x.pc ≡ next_pc k.pc
        → Reaches (next_pc k.pc) (after_field k op rd.number look f (x ∷ []))
    field-next (Some i) f x at = inl at
    field-next None None x at = inl at
    field-next None (Some f) x at = by (keeps_numbers op f)
      where
        by : (u : Bool) → Reaches (next_pc k.pc) (if u then with_result k rd.number (next_pc k.pc) (field_number f) ∷ [] else x ∷ [])
        by true = inl refl
        by false = inl at

    tag-next : (t : ℕ) (p : Option Party) (j : Option ℕ) → MayReach (next_pc k.pc) (at_tag tagged N k p op rd.number t j)
    tag-next t None j = tt
    tag-next t (Some p) None = tt
    tag-next t (Some p) (Some j) = by (nat_lt j (share_at k (N + t)).owned.constant)
      where
        by : (u : Bool) → Reaches (next_pc k.pc)
            (if u then with_result k rd.number (next_pc k.pc) (told_value k.ranges (tagged t) (tagged t).codec p op (share_at k (N + t)).own j) ∷ []
            else when_told tagged N k p op rd.number t j (share_at k (N + t))
            ∷ with_result k rd.number (next_pc k.pc) (other_value k.ranges (tagged t) (tagged t).codec p op (share_at k (N + t)).own j) ∷ [])
        by true = inl refl
        by false = inl refl

    told-next : (look : Option ℕ) (ks : List KnownState) → Reaches (next_pc k.pc) ks → MayReach (next_pc k.pc)
        (load_tells tagged T queues N own_of H h k op rd.number (address_value queues k rs1 offset) (addresses queues k rs1 offset) look ks)
    told-next None ks at = at
    told-next (Some t) ks at = by (may_load queues N h k (addresses queues k rs1 offset) (load_width op) None)
      where
        by : (u : Bool) → MayReach (next_pc k.pc) (if u then at_tag tagged N k (party_in (tagged t) h) op rd.number t
            (tag_at tagged T N h k (address_value queues k rs1 offset) (load_width op) t) else None)
        by true = tag-next t (party_in (tagged t) h) (tag_at tagged T N h k (address_value queues k rs1 offset) (load_width op) t)
        by false = tt

    load-pc : (look : Option ℕ) → (after_load queues N own_of h k op rd.number (addresses queues k rs1 offset) look).pc ≡ next_pc k.pc
    load-pc None = refl
    load-pc (Some i) = refl

    load-next : (look : Option ℕ) (t : Bool) → MayReach (next_pc k.pc) (next-of (Some (Load op rd rs1 offset))
        (if t then Some (after_load queues N own_of h k op rd.number (addresses queues k rs1 offset) look ∷ []) else None))
    load-next look false = tt
    load-next look true = told-next (looked_tag tagged T N h k (address_value queues k rs1 offset) (load_width op))
        (after_field k op rd.number (last_below N (is_look queues h (addresses queues k rs1 offset) (load_width op)))
        (field_below queues fields h k (address_value queues k rs1 offset) (load_width op) N)
        (after_load queues N own_of h k op rd.number (addresses queues k rs1 offset) look ∷ []))
        (field-next (last_below N (is_look queues h (addresses queues k rs1 offset) (load_width op)))
        (field_below queues fields h k (address_value queues k rs1 offset) (load_width op) N)
        (after_load queues N own_of h k op rd.number (addresses queues k rs1 offset) look) (load-pc look))

  handed-next : (move : Option ℕ) (x : KnownState) → x.pc ≡ next_pc k.pc → (t : Bool)
      → MayReach (next_pc k.pc) (if t then Some (all_handed N k move (x ∷ [])) else None)
  handed-next move x at false = tt
  handed-next None x at true = inl at
  handed-next (Some i) x at true = inl at

  store-next : (op : StoreOp) (rs1 rs2 : Reg) (offset : ℤ) (x : KnownState) → x.pc ≡ next_pc k.pc → (t : Bool)
      → MayReach (next_pc k.pc) (next-of (Some (Store op rs1 rs2 offset)) (if t then Some (x ∷ []) else None))
  unfolding told_by_store
  store-next op rs1 rs2 offset x at false = tt
  store-next op rs1 rs2 offset x at true = handed-next (moved_tag tagged T N h k (address_value queues k rs1 offset) (store_width op)) x at
      (may_store_all tagged T N h k (operand queues k rs2) (address_value queues k rs1 offset) (addresses queues k rs1 offset) (store_width op)
      (moved_tag tagged T N h k (address_value queues k rs1 offset) (store_width op)))

  amo-next : (op : AmoOp) (rd rs1 rs2 : Reg) (aq rl : Bool) (x : KnownState) → x.pc ≡ next_pc k.pc → (t : Bool)
      → MayReach (next_pc k.pc) (next-of (Some (Amo op rd rs1 rs2 aq rl)) (if t then Some (x ∷ []) else None))
  amo-next op rd rs1 rs2 aq rl x at false = tt
  amo-next op rd rs1 rs2 aq rl x at true = handed-next (moved_tag tagged T N h k (operand queues k rs1) 4) x at
      (may_store_all tagged T N h k (updated_value queues k.ranges op any (operand queues k rs2)) (operand queues k rs1) (exchanged queues k rs1) 4
      (moved_tag tagged T N h k (operand queues k rs1) 4))

-- ---- and a listed state has the pc of each that follows

pub record IsListed (c : QueueCertificate) (h pc : ℕ) : Type 0 where
  pub state : ℕ
  pub listed : state < length (part_of c h).states
  pub at : (state_at c h state).known.pc ≡ pc

arrow-pc : (queues : ℕ → Queue) (N T : ℕ) (k t : KnownState) (gs : List Form) → arrow_leads queues N T k t gs ≡ true → k.pc ≡ t.pc
arrow-pc queues N T k t gs ok = eqb-true k.pc t.pc (and_parts _ _ (and_parts _ _ (and_parts _ _ (and_parts _ _ (and_parts _ _ ok).0).0).0).0).0

reaches-listed : (c : QueueCertificate) (h pc : ℕ) (ks : List KnownState) (arrows : List Arrow) → each_leads c h ks arrows ≡ true → Reaches pc ks
    → IsListed c h pc
reaches-listed c h pc [] arrows ok at = absurd at
reaches-listed c h pc (k ∷ ks) [] ok at = absurd (cc)
reaches-listed c h pc (k ∷ ks) (a ∷ arrows) ok (inr later) = reaches-listed c h pc ks arrows (and_parts _ _ ok).1 later
reaches-listed c h pc (k ∷ ks) (a ∷ arrows) ok (inl at) = let to = and_parts _ _ (and_parts _ _ ok).0 in record {
  state = a.to;
  listed = ltb-true a.to (length (part_of c h).states) to.0;
  at = sym (arrow-pc (queue_at c) (length c.queues) (length c.tagged) k (state_at c h a.to).known a.forms to.1) ∙ at;
}

may-reach-listed : (c : QueueCertificate) (h pc : ℕ) (ks : Option (List KnownState)) (arrows : List Arrow) → all_lead c h ks arrows ≡ true
    → MayReach pc ks → IsListed c h pc
may-reach-listed c h pc None arrows ok at = absurd (cc)
may-reach-listed c h pc (Some ks) arrows ok at = reaches-listed c h pc ks arrows ok at

-- ---- all instructions

module _ (M : ℕ) (o : OpeningValue) (c : QueueCertificate) (h : ℕ) (xs : List ℕ) (k : KnownState) (s : HartState) (m : View) (cs : AllCounts) (e : Entry)
    (acts : ActsByCounts M o (length c.queues) (queue_at c) nobody_told nothing_sent h s m cs e) (size : 32 ≤ length s.registers)
    (fine : (j : ℕ) → j < length c.queues → IsQueue (queue_at c j) × TellsFull (queue_at c j) × ((queue_at c j).index_width ≤ 4))
    (means : MeansAt (queue_at c) (length c.queues) (own_of c h) h xs k s m cs) (d : Form) where
  abbrev after : Option Instr → Option (List KnownState) → Option (List KnownState)
  after = next-of (tagged_at c) (length c.tagged) (queue_at c) (length c.queues) (own_of c) (length c.harts) h (fields_at c) k

  operand-has : (r : Reg) → Has (queue_at c) xs (operand (queue_at c) k r) (register_value s.registers r)
  operand-has = steps.operand-has M o (queue_at c) (length c.queues) (own_of c) (length c.harts) h xs k s m cs e acts size fine means

  jumps : (rd rs1 : Reg) (offset : ℤ) (a : Option ℕ) → as_number (operand (queue_at c) k rs1) ≡ a
      → MayReach (address (register_value s.registers rs1) offset / 2 * 2) (after (Some (Jalr rd rs1 offset)) (jumping k rd.number offset a))
  jumps rd rs1 offset None is = tt
  jumps rd rs1 offset (Some a) is = inl (ap (λ x. address x offset / 2 * 2)
      (sym (known-is (queue_at c) xs (operand (queue_at c) k rs1) (register_value s.registers rs1) a is (operand-has rs1))))

  branches : (t p : KnownState) (offset : ℤ) (taken : Bool) (known : Option Bool) → ((u : Bool) → known ≡ Some u → taken ≡ u)
      → Reaches (if taken then address k.pc offset else next_pc k.pc) (goes_by t p (address k.pc offset) (next_pc k.pc) known)
  branches t p offset true None right = inl refl
  branches t p offset false None right = inr (inl refl)
  branches t p offset taken (Some true) right = inl (ap (λ u. if u then address k.pc offset else next_pc k.pc) (sym (right true refl)))
  branches t p offset taken (Some false) right = inl (ap (λ u. if u then address k.pc offset else next_pc k.pc) (sym (right false refl)))

  amos : (op : AmoOp) (rd rs1 rs2 : Reg) (aq rl : Bool) (b : Option Bounds) → MayReach (next_pc k.pc) (after (Some (Amo op rd rs1 rs2 aq rl))
      (exchanging (queue_at c) (length c.queues) (own_of c) (length c.harts) h k d op rd.number (register_at k rs2) (operand (queue_at c) k rs1) b))
  amos op rd rs1 rs2 aq rl None = tt
  amos op rd rs1 rs2 aq rl (Some b) = amo-next (tagged_at c) (length c.tagged) (queue_at c) (length c.queues) (own_of c) (length c.harts) h (fields_at c) k
      op rd rs1 rs2 aq rl _ refl _

  follows : (i : Instr) → KeepsGoing (need_for s i) → MayReach (pc_after i s.registers k.pc)
      (after (Some i) (follow (queue_at c) (length c.queues) (own_of c) (length c.harts) h k d (Some i)))
  follows (Jal rd offset) keeps = inl refl
  follows (Jalr rd rs1 offset) keeps = jumps rd rs1 offset (as_number (operand (queue_at c) k rs1)) refl
  follows (Branch op rs1 rs2 offset) keeps = branches (when_taken k op rs1 rs2) (when_passed k op rs1 rs2) offset
      (is_taken op (register_value s.registers rs1) (register_value s.registers rs2))
      (is_branch_taken (queue_at c) k.ranges op (operand (queue_at c) k rs1) (operand (queue_at c) k rs2))
      (branch-is (queue_at c) xs k.ranges means.ranges op (operand (queue_at c) k rs1) (operand (queue_at c) k rs2)
      (register_value s.registers rs1) (register_value s.registers rs2) (operand-has rs1) (operand-has rs2))
  follows (Load op rd rs1 offset) keeps =
      load-next (tagged_at c) (length c.tagged) (queue_at c) (length c.queues) (own_of c) (length c.harts) h (fields_at c) k op rd rs1 offset
      (last_below (length c.queues) (is_look (queue_at c) h (addresses (queue_at c) k rs1 offset) (load_width op))) _
  follows (Store op rs1 rs2 offset) keeps =
      store-next (tagged_at c) (length c.tagged) (queue_at c) (length c.queues) (own_of c) (length c.harts) h (fields_at c) k op rs1 rs2 offset _ refl _
  follows (Amo op rd rs1 rs2 aq rl) keeps = amos op rd rs1 rs2 aq rl (bounds k.ranges (operand (queue_at c) k rs1))
  follows Ebreak keeps = absurd keeps
  follows i keeps = inl refl

  pub leaf-instruction : (i : Instr) → IsAt s i → instruction_at s.code k.pc ≡ Some i
  leaf-instruction i at = subst (λ n. instruction_at s.code n ≡ Some i) means.pc (rw (lt-ltb s.pc (4 * length s.code) at.inside) at.says)

  pub comes-to-listed : (i : Instr) → IsAt s i → KeepsGoing (need_of s) → (arrows : List Arrow)
      → all_lead c h (next_states c h s.code k d) arrows ≡ true → IsListed c h (pc_after i s.registers s.pc)
  comes-to-listed i at keeps arrows leads = may-reach-listed c h (pc_after i s.registers s.pc) (next_states c h s.code k d) arrows leads
      (subst (λ j. MayReach (pc_after i s.registers s.pc)
      (after j (follow (queue_at c) (length c.queues) (own_of c) (length c.harts) h k d j))) (sym (leaf-instruction i at))
      (subst (λ n. MayReach (pc_after i s.registers n) (after (Some i) (follow (queue_at c) (length c.queues) (own_of c) (length c.harts) h k d (Some i))))
      (sym means.pc) (follows i (subst KeepsGoing (need_at at) keeps))))

-- ---- where none is listed just past the code

-- a state has the pc of its leaves
pub never-past : (c : QueueCertificate) (code : List ℕ) (k : KnownState) (t : Cases) → each_leaf (λ k d arrows. runs_on_at c code k) k t ≡ true
    → k.pc ≡ 4 * length code → ⊥
never-past c code k (leaf d arrows) ok at =
    let inside : not (k.pc == 4 * length code) ≡ true = (and_parts (not (k.pc == 4 * length code)) (makes_no_exit c k (instruction_at code k.pc)) ok).0 in
    let past : (k.pc == 4 * length code) ≡ true = eq-eqb k.pc (4 * length code) at in
    let no : not true ≡ true = sym (ap not past) ∙ inside in absurd (cc)
never-past c code k (split j v low high) ok at = never-past c code (with_low k j v) low (and_parts _ _ ok).0 at

module _ (M : ℕ) (o : OpeningValue) (c : QueueCertificate) (h : ℕ) (xs : List ℕ) (k : KnownState) (s : HartState) (m : View) (cs : AllCounts) (e : Entry)
    (acts : ActsByCounts M o (length c.queues) (queue_at c) nobody_told nothing_sent h s m cs e) (size : 32 ≤ length s.registers)
    (fine : (j : ℕ) → j < length c.queues → IsQueue (queue_at c j) × TellsFull (queue_at c j) × ((queue_at c j).index_width ≤ 4))
    (means : MeansAt (queue_at c) (length c.queues) (own_of c h) h xs k s m cs) (d : Form) (arrows : List Arrow) where
  no-exit : (number : Option ℕ) → call_in c k ≡ number → is_no_exit number ≡ true → is_no_exit (Some (slice_index s.registers 17)) ≡ true
  no-exit None is ok = absurd (cc)
  no-exit (Some n) is ok = subst (λ x. is_no_exit (Some x) ≡ true)
      (sym (known-is (queue_at c) xs _ (slice_index s.registers 17) n is
      (has-plain (queue_at c) k.ranges xs means.ranges (get_or k.registers 17 any) (slice_index s.registers 17) (means.registers 17)))) ok

  no-call : (i : Instr) → IsAt s i → runs_on_at c s.code k ≡ true → i ≡ Ecall → is_no_exit (Some (slice_index s.registers 17)) ≡ true
  no-call i at ok call = no-exit (call_in c k) refl
      (subst (λ j. makes_no_exit c k j ≡ true)
      (leaf-instruction M o c h xs k s m cs e acts size fine means d i at ∙ ap (λ j. Some j) call)
      (and_parts (not (k.pc == 4 * length s.code)) (makes_no_exit c k (instruction_at s.code k.pc)) ok).1)

  pub leaf-runs : KeepsGoing (need_of s) → runs_on_at c s.code k ≡ true → all_lead c h (next_states c h s.code k d) arrows ≡ true
      → ((n : ℕ) → n < length (part_of c h).states → (state_at c h n).known.pc ≡ 4 * length s.code → ⊥)
      → (advanced s (number_read e)).status ≡ status.Running
  leaf-runs keeps ok leads inside =
      let at = at-instruction s keeps in
      let to = comes-to-listed M o c h xs k s m cs e acts size fine means d at.0 at.1 keeps arrows leads in
      runs-inside (advanced s (number_read e)) s.code (pc_after at.0 s.registers s.pc)
      (settles s acts.can.running keeps (number_read e) at.0 at.1 (no-call at.0 at.1 ok)) (λ past. inside to.state to.listed (to.at ∙ past))
