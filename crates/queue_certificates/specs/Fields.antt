-- Fields of records: numbers of which a queue's sender sends one in each record, and what the receiver's load of one comes to.
use Rattle.std.specs.Prelude.{ℕ, zero, suc, ◌+◌, ◌*◌, ◌^◌, ◌==◌, ◌&&◌, nat_le, nat_lt, if◌then◌else◌, Bool, true, Option, None, Some}
use Rattle.std.specs.Prelude.{List, [], ◌∷◌}
use Rattle.rv_decode.specs.declared.instruction.LoadOp.{LoadOp}
use Rattle.rv_decode.specs.declared.instruction.LoadOp.TheVariants as load
use Rattle.rv_decode.specs.declared.instruction.Instr.{Instr}
use Rattle.rv_decode.specs.declared.instruction.Instr.TheVariants.{Load}
use Rattle.hart.specs.Effects.{next_pc, load_width}
use Rattle.slot_queue.specs.Queues.{Queue}
use Rattle.queue_certificates.specs.RecordFields.{Field}
use Rattle.queue_certificates.specs.States.{KnownValue, any, linear, index_for, signed_for, ends_as, has_bits, KnownState}
use Rattle.queue_certificates.specs.Results.{Result}
use Rattle.queue_certificates.specs.Steps.{last_below, offset_at, is_owned, with_result, share_at, address_value, addresses, is_look}

-- The field's numbers are low, low + step .. up to this one
abbrev pub last_number : Field → ℕ
last_number f = f.low + f.step * f.count

-- it lies in a slot, and each of its numbers fits into its bytes
abbrev pub is_field : Queue → Field → Bool
is_field q f = nat_le (f.at + f.width) q.width && nat_lt (last_number f) (256 ^ f.width)

-- ---- what a load of one leaves in a register

abbrev pub field_number : Field → Result
field_number f = record { most = f.count; value = linear (record { constant = f.low; factors = f.step ∷ [] }) }

-- a signed load leaves a number as it is if its highest bit is 0
abbrev pub keeps_numbers : LoadOp → Field → Bool
keeps_numbers load.Byte f = nat_lt (last_number f) (2 ^ 7)
keeps_numbers load.Half f = nat_lt (last_number f) (2 ^ 15)
keeps_numbers op f = true

-- ---- which field a load is of

-- the first that has just these bytes of a slot
abbrev pub field_there : List Field → (at width : ℕ) → Option Field
field_there [] at width = None
field_there (f ∷ fs) at width = if (f.at == at) && (f.width == width) then Some f else field_there fs at width

abbrev pub field_or : Option Field → Option Field → Option Field
field_or None g = g
field_or (Some f) g = Some f

-- of hart h, where queues have these fields
module _ (queues : ℕ → Queue) (fields : ℕ → List Field) (h : ℕ) where
  -- of a record of queue i that the hart receives and owns
  abbrev pub field_in : KnownState → (place : KnownValue) (width i : ℕ) → Option Field
  field_in k any width i = None
  field_in k (index_for j f) width i = None
  field_in k (signed_for j f) width i = None
  field_in k (ends_as n f) width i = None
  field_in k (has_bits m b) width i = None
  field_in k (linear f) width i = if ((queues i).receiver == h) && is_owned k.ranges (queues i) (share_at k i) (linear f) width
      then field_there (fields i) (offset_at (queues i) f.constant) width else None

  -- of the queues below n
  abbrev pub field_below : KnownState → (place : KnownValue) (width n : ℕ) → Option Field
  field_below k place width zero = None
  field_below k place width (suc n) = field_or (field_in k place width n) (field_below k place width n)

-- The states that follow, where `ks` do if nothing is known of what is received: after a load of a field its register holds one of
-- the field's numbers. A load that is a look at an index is none
abbrev pub after_field : KnownState → LoadOp → (rd : ℕ) → (look : Option ℕ) → Option Field → (ks : List KnownState) → List KnownState
after_field k op rd (Some i) f ks = ks
after_field k op rd None None ks = ks
after_field k op rd None (Some f) ks = if keeps_numbers op f then with_result k rd (next_pc k.pc) (field_number f) ∷ [] else ks

-- where there are N queues
abbrev pub next_received : (ℕ → Queue) → (ℕ → List Field) → (N h : ℕ) → KnownState → Option Instr → Option (List KnownState) → Option (List KnownState)
next_received queues fields N h k (Some (Load op rd rs1 offset)) (Some ks) = Some (after_field k op rd.number
    (last_below N (is_look queues h (addresses queues k rs1 offset) (load_width op)))
    (field_below queues fields h k (address_value queues k rs1 offset) (load_width op) N) ks)
next_received queues fields N h k instruction next = next
