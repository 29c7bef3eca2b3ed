-- What an instruction of a queue's receiver does to the queue, by what is known of the receiver. An effect has the words of a sender's: of
-- the receiver's, `Fills` says which bytes of a slot it reads, and `Publishes` how many positions it hands back.
use Rattle.std.specs.Prelude.{ℕ, ◌+◌, if◌then◌else◌, Bool, false, Option, None, Some, List, length, ◌<◌, ◌==◌, not, true, option_and_then}
use Rattle.rv_decode.specs.declared.instruction.Instr.{Instr}
use Rattle.slot_queue.specs.Queues.{Queue, slot_of}
use Rattle.queue_certificates.specs.Forms.{Form, most}
use Rattle.queue_certificates.specs.States.{Share, KnownState}
use Rattle.queue_certificates.specs.Steps.{last_below, is_just, is_own_index, share_at, instruction_at}
use Rattle.queue_certificates.specs.Tags.{bare, moved_tag}
use Rattle.queue_certificates.specs.Effects.{published_by, filled_by, effect_of}
use Rattle.queue_certificates.specs.Certificates.{QueueCertificate, queue_at, tagged_at, start_at, tagged_start}
use Rattle.queue_certificates.specs.declared.effect.Effect.{Effect}
use Rattle.queue_certificates.specs.declared.effect.Effect.TheVariants.{Leaves, Publishes, Fills}
use Rattle.queue_checker.specs.declared.targets.Target.{Target}
use Rattle.queue_checker.specs.Operands.{load_target, store_target}
use Rattle.rv_decode.specs.declared.instruction.AmoOp.{AmoOp}
use Rattle.rv_decode.specs.declared.instruction.AmoOp.TheVariants.{Swap}
use Rattle.rv_decode.specs.declared.instruction.Instr.TheVariants.{Load, Amo}
use Rattle.step_machine.specs.History.{OpeningValue, history_of}
use Rattle.step_machine.specs.Paths.{state_of}
use Rattle.step_machine.specs.declared.events.Entry.{Entry}
use Rattle.queue_parties.specs.Parties.{Party, the_sender, the_receiver, count, all_at}
use Rattle.certified_runs.specs.TwoParties.{AllCounts}
use Rattle.slot_queue.specs.Ownership.{hart, end, counts_after}
use Rattle.slots_that_tell.specs.Slots.{tagged_slot}
use Rattle.slots_that_tell.specs.Telling.{teller_hart, owned_end, told_counts}
use Rattle.queue_layouts.specs.Tagged.{slots_of}
use Rattle.queue_certificates.specs.TagEffects.{tag_effect_of}
use Rattle.records_written.specs.declared.parties.QueueNumber.{QueueNumber}
use Rattle.records_written.specs.declared.parties.QueueNumber.TheVariants.{Indexed, Tagged}

-- these bytes, where they are shown to be of the slot of an owned position
abbrev pub owned_bytes : List (Option ℕ) → Queue → Share → Option Target → Effect
owned_bytes rs q s None = Leaves
owned_bytes rs q s (Some t) = filled_by rs q s t.place t.width

-- ---- of a queue with indices

-- a store there is of the receiver's own index of queue i, whole
abbrev pub moves_tail : QueueCertificate → (i : ℕ) → Option Target → Bool
moves_tail c i None = false
moves_tail c i (Some t) = is_just (last_below (length c.queues) (is_own_index (queue_at c) (queue_at c i).receiver t.bounds t.width)) i

abbrev pub receipt_of : QueueCertificate → (i : ℕ) → KnownState → (d : Form) → Option Instr → Option Effect
receipt_of c i k d instruction = if moves_tail c i (store_target c k instruction) then published_by d (most k.ranges d)
    else Some (owned_bytes k.ranges (queue_at c i) (share_at k i) (load_target c k instruction))

-- ---- of a queue with tags

-- a store there is of the tag of the receiver's own position of queue t, whole
abbrev pub moves_tag : QueueCertificate → (t : ℕ) → KnownState → Option Target → Bool
moves_tag c t k None = false
moves_tag c t k (Some target) = is_just (moved_tag (tagged_at c) (length c.tagged) (length c.queues) (tagged_at c t).receiver k target.place target.width) t

abbrev pub owned_of : QueueCertificate → (t : ℕ) → KnownState → Option Target → Effect
owned_of c t k target = owned_bytes k.ranges (bare (tagged_at c t)) (share_at k (length c.queues + t)) target

abbrev pub tag_receipt_of : QueueCertificate → (t : ℕ) → KnownState → Option Instr → Effect
tag_receipt_of c t k instruction = if moves_tag c t k (store_target c k instruction) then Publishes 1
    else owned_of c t k (load_target c k instruction)

-- The parties of a certificate's queues of both kinds: how far each has come, what it owns, and what its instructions do.

abbrev pub IsListed : QueueCertificate → QueueNumber → Type 0
IsListed c (Indexed i) = i < length c.queues
IsListed c (Tagged t) = t < length c.tagged

-- a party's hart
abbrev pub hart_by : QueueCertificate → QueueNumber → Party → ℕ
hart_by c (Indexed i) p = hart (queue_at c i) p
hart_by c (Tagged t) p = teller_hart (slots_of (tagged_at c t)) p

abbrev pub sender_in : QueueCertificate → QueueNumber → ℕ
sender_in c w = hart_by c w the_sender

abbrev pub receiver_in : QueueCertificate → QueueNumber → ℕ
receiver_in c w = hart_by c w the_receiver

-- how many slots it has, and where that of position k begins
abbrev pub size_in : QueueCertificate → QueueNumber → ℕ
size_in c (Indexed i) = (queue_at c i).size
size_in c (Tagged t) = (tagged_at c t).size

abbrev pub slot_in : QueueCertificate → QueueNumber → (k : ℕ) → ℕ
slot_in c (Indexed i) k = slot_of (queue_at c i) k
slot_in c (Tagged t) k = tagged_slot (slots_of (tagged_at c t)) k

-- ---- by the counts of the queues with indices and of those with tags

-- how many positions a party has handed on
abbrev pub count_of : QueueNumber → Party → (cs us : AllCounts) → ℕ
count_of (Indexed i) p cs us = count p (cs i)
count_of (Tagged t) p cs us = count p (us t)

-- the end of the positions that it owns, as far as it has learned
abbrev pub end_of : QueueCertificate → QueueNumber → Party → (cs us : AllCounts) → ℕ
end_of c (Indexed i) p cs us = end (queue_at c i) p (cs i)
end_of c (Tagged t) p cs us = owned_end (slots_of (tagged_at c t)) p (us t)

-- ---- after these entries of a run

abbrev pub by_counts : QueueCertificate → (AllCounts → AllCounts → ℕ) → List Entry → ℕ
by_counts c f es = f (λ i. counts_after (queue_at c i) (all_at (start_at c i)) es)
    (λ t. told_counts (slots_of (tagged_at c t)) (all_at (tagged_start c t)) es)

abbrev pub count_after : QueueCertificate → QueueNumber → Party → List Entry → ℕ
count_after c w p es = by_counts c (count_of w p) es

-- how many positions its sender has published, and its receiver taken; and the end of what the receiver owns
abbrev pub published_after : QueueCertificate → QueueNumber → List Entry → ℕ
published_after c w es = count_after c w the_sender es

abbrev pub taken_after : QueueCertificate → QueueNumber → List Entry → ℕ
taken_after c w es = count_after c w the_receiver es

abbrev pub owned_end_after : QueueCertificate → QueueNumber → List Entry → ℕ
owned_end_after c w es = by_counts c (end_of c w the_receiver) es

-- ---- instructions: whether the bytes count that one accesses

abbrev pub is_swap : AmoOp → Bool
is_swap Swap = true
is_swap other = false

-- The sender's stores count, and of its AMOs those that swap: the word that another writes may be the one that it read. The receiver's loads
-- and AMOs count if their result doesn't go to x0
abbrev pub counts_for : Party → Option Instr → Bool
counts_for the_sender (Some (Amo op rd rs1 rs2 aq rl)) = is_swap op
counts_for the_receiver (Some (Load op rd rs1 offset)) = not (rd.number == 0)
counts_for the_receiver (Some (Amo op rd rs1 rs2 aq rl)) = not (rd.number == 0)
counts_for p other = true

-- an effect without the bytes, if these don't count
abbrev pub effect_counted : (counts : Bool) → Option Effect → Option Effect
effect_counted false (Some (Fills j offset width)) = Some Leaves
effect_counted counts effect = effect

-- the instruction that a hart executes next, after these entries of a run
abbrev pub next_instruction : (M : ℕ) → OpeningValue → List Entry → (h : ℕ) → Option Instr
next_instruction M o es h = option_and_then (λ s. instruction_at s.code s.pc) (state_of M (history_of o es) h)

-- the effect of an instruction of a party's, whether its bytes count or not; none where it isn't known how many positions it hands on
abbrev pub effect_by : QueueCertificate → QueueNumber → Party → KnownState → (d : Form) → Option Instr → Option Effect
effect_by c (Indexed i) the_sender k d instruction = effect_of (queue_at c) (length c.queues) i k d instruction
effect_by c (Tagged t) the_sender k d instruction = Some (tag_effect_of (tagged_at c) (length c.tagged) (queue_at c) (length c.queues)
    (tagged_at c t).sender t k instruction)
effect_by c (Indexed i) the_receiver k d instruction = receipt_of c i k d instruction
effect_by c (Tagged t) the_receiver k d instruction = Some (tag_receipt_of c t k instruction)

-- and where they count
abbrev pub effect_in : QueueCertificate → QueueNumber → Party → KnownState → (d : Form) → Option Instr → Option Effect
effect_in c w p k d instruction = effect_counted (counts_for p instruction) (effect_by c w p k d instruction)
