-- What an instruction of the sender of a queue with tags does to the queue, by what is known of the sender.
use Rattle.std.specs.Prelude.{ℕ, ◌+◌, if◌then◌else◌, Option, Some}
use Rattle.rv_decode.specs.declared.instruction.Instr.{Instr}
use Rattle.rv_decode.specs.declared.instruction.Instr.TheVariants.{Store, Amo}
use Rattle.hart.specs.Effects.{store_width}
use Rattle.slot_queue.specs.Queues.{Queue}
use Rattle.queue_layouts.specs.declared.tagged.TaggedQueue.{TaggedQueue}
use Rattle.queue_certificates.specs.States.{KnownValue, KnownState}
use Rattle.queue_certificates.specs.Steps.{is_just, share_at, operand, address_value}
use Rattle.queue_certificates.specs.Tags.{bare, moved_tag}
use Rattle.queue_certificates.specs.Effects.{filled_by}
use Rattle.queue_certificates.specs.declared.effect.Effect.{Effect}
use Rattle.queue_certificates.specs.declared.effect.Effect.TheVariants.{Leaves, Publishes}

-- a store there by hart h, the sender of queue t of T, which come after N with indices: of the tag of its own position, or of another place
abbrev pub tag_effect_at : (tagged : ℕ → TaggedQueue) (T N h t : ℕ) → KnownState → (place : KnownValue) → (width : ℕ) → Effect
tag_effect_at tagged T N h t k place width = if is_just (moved_tag tagged T N h k place width) t then Publishes 1
    else filled_by k.ranges (bare (tagged t)) (share_at k (N + t)) place width

abbrev pub tag_effect_of : (tagged : ℕ → TaggedQueue) (T : ℕ) (queues : ℕ → Queue) (N h t : ℕ) → KnownState → Option Instr → Effect
tag_effect_of tagged T queues N h t k (Some (Store op rs1 rs2 offset)) = tag_effect_at tagged T N h t k (address_value queues k rs1 offset) (store_width op)
tag_effect_of tagged T queues N h t k (Some (Amo op rd rs1 rs2 aq rl)) = tag_effect_at tagged T N h t k (operand queues k rs1) 4
tag_effect_of tagged T queues N h t k other = Leaves
