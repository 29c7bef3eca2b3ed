-- What an instruction of a queue's sender does to the queue, by what is known of the sender.
use Rattle.std.specs.Prelude.{ℕ, ◌≡◌, ◌==◌, if◌then◌else◌, Bool, true, Option, None, Some, List}
use Rattle.rv_decode.specs.declared.instruction.Instr.{Instr}
use Rattle.rv_decode.specs.declared.instruction.Instr.TheVariants.{Store, Amo}
use Rattle.hart.specs.Effects.{store_width}
use Rattle.memory.specs.Writes.{write, covers}
use Rattle.step_machine.specs.Access.{Access, store, exchange}
use Rattle.slot_queue.specs.Queues.{Queue}
use Rattle.queue_certificates.specs.Forms.{Form, Bounds, most}
use Rattle.queue_certificates.specs.States.{KnownValue, any, linear, index_for, signed_for, ends_as, has_bits, plain, Share, KnownState}
use Rattle.queue_certificates.specs.Steps.{last_below, is_just, position_at, offset_at, is_owned}
use Rattle.queue_certificates.specs.Steps.{register_at, share_at, operand, address_value, addresses, exchanged, is_own_index}
use Rattle.queue_certificates.specs.declared.effect.Effect.{Effect}
use Rattle.queue_certificates.specs.declared.effect.Effect.TheVariants.{Leaves, Fills, Publishes, PublishesSome}

-- this access writes the byte at x, an AMO also where it writes the word that it read
abbrev pub WritesByte : Access → (x : ℕ) → Type 0
WritesByte (store w) x = covers w x ≡ true
WritesByte (exchange a old new) x = covers (write a 4 new) x ≡ true
WritesByte other x = ⊥

-- the queue's head moves by a form; nothing where no bound is known of the number of positions that are published
abbrev pub published_by : Form → (bound : Option ℕ) → Option Effect
published_by d None = None
published_by d (Some n) = Some (if n == d.constant then Publishes n else PublishesSome n)

-- A store of `width` bytes there, which moves no index of the queue. One that isn't shown to be of an owned slot is accepted only beside
-- the queue
abbrev pub filled_by : List (Option ℕ) → Queue → Share → (place : KnownValue) → (width : ℕ) → Effect
filled_by rs q s any width = Leaves
filled_by rs q s (index_for i f) width = Leaves
filled_by rs q s (signed_for i f) width = Leaves
filled_by rs q s (ends_as n f) width = Leaves
filled_by rs q s (has_bits m b) width = Leaves
filled_by rs q s (linear f) width = if is_owned rs q s (linear f) width
    then Fills (position_at q s.own.constant f.constant) (offset_at q f.constant) width else Leaves

-- the number that an instruction stores, as far as it is known; an AMO's isn't
abbrev pub value_stored : (ℕ → Queue) → KnownState → Option Instr → KnownValue
value_stored queues k (Some (Store op rs1 rs2 offset)) = plain queues k.ranges (register_at k rs2)
value_stored queues k other = any

-- of the sender of queue i of N
module _ (queues : ℕ → Queue) (N i : ℕ) where
  -- it stores the queue's head, whole
  abbrev pub moves_head : Bounds → (width : ℕ) → Bool
  moves_head b width = is_just (last_below N (is_own_index queues (queues i).sender b width)) i

  abbrev pub effect_at : KnownState → (d : Form) → (place : KnownValue) → Bounds → (width : ℕ) → Option Effect
  effect_at k d place b width = if moves_head b width then published_by d (most k.ranges d)
      else Some (filled_by k.ranges (queues i) (share_at k i) place width)

  abbrev pub effect_of : KnownState → (d : Form) → Option Instr → Option Effect
  effect_of k d (Some (Store op rs1 rs2 offset)) = effect_at k d (address_value queues k rs1 offset) (addresses queues k rs1 offset) (store_width op)
  effect_of k d (Some (Amo op rd rs1 rs2 aq rl)) = effect_at k d (operand queues k rs1) (exchanged queues k rs1) 4
  effect_of k d other = Some Leaves
