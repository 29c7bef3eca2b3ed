-- A receiver whose stores are apart from a queue's slots leaves each of their bytes.
use Rattle.std.proofs.Common.{ℕ, ℤ, ◌*◌, ◌<◌, ◌≤◌, ◌≡◌, inl, inr, Bool, true, false, Option, Some, None, List, length, refl, sym, subst}
use Rattle.rv_decode.specs.declared.instruction.Reg.{Reg}
use Rattle.rv_decode.specs.declared.instruction.StoreOp.{StoreOp}
use Rattle.rv_decode.specs.declared.instruction.AmoOp.{AmoOp}
use Rattle.rv_decode.specs.declared.instruction.Instr.{Instr}
use Rattle.rv_decode.specs.declared.instruction.Instr.TheVariants.{Load, Store, Amo}
use Rattle.hart.specs.{HartState, register_value, address, stored, store_width, advanced}
use Rattle.step_machine.specs.declared.events.Entry.{Entry}
use Rattle.step_machine.specs.Names.{OpeningValue, Access, store, exchange, access_of, number_read}
use Rattle.store_buffers.specs.StoreBuffers.{LeavesByteBy}
use Rattle.memory.specs.Writes.{write, covers}
use Rattle.slot_queue.specs.{Queue, IsQueue, TellsFull, KeepsAccess}
use Rattle.queue_parties.specs.{IsInBytes, QueueCounts}
use Rattle.queue_certificates.specs.{View, AllCounts, ActsByCounts, Form, Bounds, KnownValue, KnownState, MeansAt, bounds, is_apart, anywhere, operand}
use Rattle.queue_certificates.specs.{addresses, register_at, exchanging, follow, instruction_at, QueueCertificate, queue_at, own_of, leaves_slots}
use Rattle.queue_certificates.proofs.Values.{has-bounds}
use Rattle.queue_certificates.proofs.Stores.{apart-from}
use Rattle.queue_certificates.proofs.Steps.{nobody_told, nothing_sent, quiet-leaves}
use Rattle.queue_certificates.proofs.Steps as steps
use Rattle.queue_certificates.proofs.NextAccess.{Makes, next-access}

-- what a third hart may do to a queue leaves its slots
pub third-leaves : (q : Queue) (c : QueueCounts) (y : Access) (x : ℕ) → KeepsAccess q None c y → IsInBytes q.slots (q.size * q.width) x → LeavesByteBy x y
third-leaves q c (store w) x keeps at = by (covers w x) refl
  where
    by : (t : Bool) → covers w x ≡ t → t ≡ false
    by false is = refl
    by true on = absurd ((keeps x on).slots at)
third-leaves q c (exchange a old new) x (inl same) at = inl same
third-leaves q c (exchange a old new) x (inr keeps) at = inr (by (covers (write a 4 new) x) refl)
  where
    by : (t : Bool) → covers (write a 4 new) x ≡ t → t ≡ false
    by false is = refl
    by true on = absurd ((keeps x on).slots at)
third-leaves q c other x keeps at = tt

module _ (M : ℕ) (o : OpeningValue) (c : QueueCertificate) (h i : ℕ) (xs : List ℕ)
    (k : KnownState) (s : HartState) (m : View) (cs : AllCounts) (e : Entry)
    (acts : ActsByCounts M o (length c.queues) (queue_at c) nobody_told nothing_sent h s m cs e) (size : 32 ≤ length s.registers)
    (fine : (j : ℕ) → j < length c.queues → IsQueue (queue_at c j) × TellsFull (queue_at c j) × ((queue_at c j).index_width ≤ 4))
    (means : MeansAt (queue_at c) (length c.queues) (own_of c h) h xs k s m cs) (x : ℕ)
    (in-slots : IsInBytes (queue_at c i).slots ((queue_at c i).size * (queue_at c i).width) x) where
  abbrev held : Reg → KnownValue
  held r = operand (queue_at c) k r

  pub state-leaves : (d : Form) (ks : List KnownState)
      → follow (queue_at c) (length c.queues) (own_of c) (length c.harts) h k d (instruction_at s.code k.pc) ≡ Some ks
      → leaves_slots c i k (instruction_at s.code k.pc) ≡ true → LeavesByteBy x (access_of e)
  state-leaves d ks found ok = by (instruction_at s.code s.pc) (next-access s e acts.can)
      (subst (λ n. follow (queue_at c) (length c.queues) (own_of c) (length c.harts) h k d (instruction_at s.code n) ≡ Some ks) (sym means.pc) found)
      (subst (λ n. leaves_slots c i k (instruction_at s.code n) ≡ true) (sym means.pc) ok)
    where
      stored-leaves : (op : StoreOp) (rs1 rs2 : Reg) (offset : ℤ) → leaves_slots c i k (Some (Store op rs1 rs2 offset)) ≡ true
          → LeavesByteBy x (store (write (address (register_value s.registers rs1) offset) (store_width op) (stored op (register_value s.registers rs2))))
      stored-leaves op rs1 rs2 offset ok =
          let p = steps.points M o (queue_at c) (length c.queues) (own_of c) (length c.harts) h xs k s m cs e acts size fine means rs1 offset in
          apart-from (addresses (queue_at c) k rs1 offset) (store_width op)
          (address (register_value s.registers rs1) offset) (queue_at c i).slots ((queue_at c i).size * (queue_at c i).width) x
          (stored op (register_value s.registers rs2)) ok p.0 p.1 in-slots.0 in-slots.1

      exchange-leaves : (op : AmoOp) (rd rs1 rs2 : Reg) (old new : ℕ) (bs : Option Bounds) → bounds k.ranges (held rs1) ≡ bs
          → exchanging (queue_at c) (length c.queues) (own_of c) (length c.harts) h k d op rd.number (register_at k rs2) (held rs1) bs ≡ Some ks
          → is_apart (anywhere bs) 4 (queue_at c i).slots ((queue_at c i).size * (queue_at c i).width) ≡ true
          → LeavesByteBy x (exchange (register_value s.registers rs1) old new)
      exchange-leaves op rd rs1 rs2 old new None is found ok = absurd (cc)
      exchange-leaves op rd rs1 rs2 old new (Some b) is found ok =
          let p = has-bounds (queue_at c) k.ranges xs (held rs1) (register_value s.registers rs1) b means.ranges is
          (steps.operand-has M o (queue_at c) (length c.queues) (own_of c) (length c.harts) h xs k s m cs e acts size fine means rs1) in
          inr (apart-from b 4 (register_value s.registers rs1) (queue_at c i).slots ((queue_at c i).size * (queue_at c i).width) x new ok p.0 p.1
          in-slots.0 in-slots.1)

      by : (j : Option Instr) → Makes s (number_read e) j (access_of e) (advanced s (number_read e))
          → follow (queue_at c) (length c.queues) (own_of c) (length c.harts) h k d j ≡ Some ks → leaves_slots c i k j ≡ true
          → LeavesByteBy x (access_of e)
      by (Some (Store op rs1 rs2 offset)) made found ok = elim made [
        | inl stops ↦ quiet-leaves x (access_of e) stops.quiet
        | inr is ↦ subst (LeavesByteBy x) (sym is) (stored-leaves op rs1 rs2 offset ok)
      ]
      by (Some (Amo op rd rs1 rs2 aq rl)) made found ok = elim made [
        | inl stops ↦ quiet-leaves x (access_of e) stops.quiet
        | inr is ↦ subst (LeavesByteBy x) (sym is) (exchange-leaves op rd rs1 rs2 _ _ (bounds k.ranges (held rs1)) refl found ok)
      ]
      by (Some (Load op rd rs1 offset)) made found ok = elim made [
        | inl stops ↦ quiet-leaves x (access_of e) stops.quiet
        | inr is ↦ subst (LeavesByteBy x) (sym is) tt
      ]
      by j made found ok = quiet-leaves x (access_of e) made
