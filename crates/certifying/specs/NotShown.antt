-- Where a certificate isn't accepted, and what is likely.
use Rattle.std.specs.Prelude.{ℕ, ◌+◌, ◌==◌, Bool, true, false, List, [], ◌∷◌, ◌++◌, length, codes, Option, Some, None}
use Rattle.std.specs.Fmt.{decimal}
use Rattle.rv_decode.specs.declared.instruction.Instr.{Instr}
use Rattle.rv_decode.specs.declared.instruction.Instr.TheVariants.{Jalr, Load, Store, Amo}
use Rattle.step_machine.specs.History.{OpeningValue}
use Rattle.queue_certificates.specs.Certificates.{QueueCertificate, part_of, state_at}
use Rattle.queue_certificates.specs.Steps.{instruction_at}
use Rattle.queue_checker.specs.Flaws.{hart_at}
use Rattle.queue_checker.specs.declared.flaws.QueueFlaw.{QueueFlaw}
use Rattle.queue_checker.specs.declared.flaws.QueueFlaw.TheVariants as why
use Rattle.queue_checker.specs.declared.flaws.TaggedFlaw.{TaggedFlaw}
use Rattle.queue_checker.specs.declared.flaws.TaggedFlaw.TheVariants as why_tagged
use Rattle.queue_checker.specs.declared.flaws.Flaw.{Flaw}
use Rattle.queue_checker.specs.declared.flaws.Flaw.TheVariants.{Queue, Tagged, Opening, State}
use Rattle.certifying.specs.Unread.{state_place}

-- the certificate lists no state of hart h
abbrev pub is_unlisted : QueueCertificate → (h : ℕ) → Bool
is_unlisted c h = length (part_of c h).states == 0

abbrev pub opening_line : (unlisted : Bool) → (h : ℕ) → List ℕ
opening_line true h = codes "not shown: the certificate has no state of hart " ++ decimal h ++ 10 ∷ []
opening_line false h = codes "not shown: hart " ++ decimal h ++ codes " opens in another state than the certificate says" ++ 10 ∷ []

-- what is wrong with a queue with indices, and with one with tags
abbrev pub queue_fault : QueueFlaw → List ℕ
queue_fault why.OneHart = codes " has one hart as its sender and its receiver"
queue_fault why.IndicesMeet = codes " has a head and a tail that overlap"
queue_fault why.IndexMeetsSlots = codes " has an index that overlaps its slots"
queue_fault why.NoSlot = codes " has no slot"
queue_fault why.FewSlots = codes " has fewer slots than may be in use"
queue_fault why.NoCounts = codes " has a modulus or a scale of 0"
queue_fault why.NoIndex = codes " has indices without a byte"
queue_fault why.WideIndex = codes " has words that don't fit the bytes of its indices, which are at most 4"
queue_fault why.FewCounts = codes " has indices that don't tell all slots in use from none"
queue_fault why.Head = codes " has a head that opens as another word than that of its count"
queue_fault why.Tail = codes " has a tail that opens as another word than that of its count"
queue_fault why.WideField = codes " has a field that reaches past its slot, or a number that doesn't fit its bytes"

abbrev pub tagged_fault : TaggedFlaw → List ℕ
tagged_fault why_tagged.OneHart = codes " has one hart as its sender and its receiver"
tagged_fault why_tagged.NoSlot = codes " has no slot"
tagged_fault why_tagged.NoTag = codes " has a tag without a byte"
tagged_fault why_tagged.WideTag = codes " has a tag of more than 4 bytes"
tagged_fault why_tagged.PastSlot = codes " has a tag that reaches past its slot"
tagged_fault why_tagged.Overlapping = codes " has tags that overlap its slots"
tagged_fault why_tagged.NarrowNumber = codes " has numbers in a tag that isn't a word"
tagged_fault why_tagged.SameNumbers = codes " has numbers that are the same for free and for full slots"
tagged_fault why_tagged.WideMask = codes " has a mask with bits that its tag doesn't have"
tagged_fault why_tagged.SameBits = codes " has bits that are the same for free and for full slots"
tagged_fault why_tagged.OutsideMask = codes " has bits for free or full slots that its mask doesn't have"
tagged_fault why_tagged.NotFree = codes " has a slot that isn't free where it opens"

abbrev pub flaw_line : OpeningValue → QueueCertificate → Flaw → List ℕ
flaw_line o c (Queue i why) = codes "not shown: queue " ++ decimal i ++ queue_fault why ++ 10 ∷ []
flaw_line o c (Tagged t why) = codes "not shown: queue " ++ decimal (length c.queues + t) ++ tagged_fault why ++ 10 ∷ []
flaw_line o c (Opening h) = opening_line (is_unlisted c h) h
flaw_line o c (State h n) = codes "not shown: " ++ state_place o c h n ++ 10 ∷ []

-- what is likely where a hart's state isn't closed under this instruction
unfoldable pub likely_store : List ℕ
likely_store = codes "likely: it may store to a slot that the hart doesn't own, to another hart's words, or another count to its index" ++ 10 ∷ []

unfoldable pub likely_load : List ℕ
likely_load = codes "likely: it may load a part of the other party's index, or leads to a state that isn't listed" ++ 10 ∷ []

unfoldable pub likely_jump : List ℕ
likely_jump = codes "likely: where it jumps isn't known, or it leads to a state that isn't listed" ++ 10 ∷ []

unfoldable pub likely_other : List ℕ
likely_other = codes "likely: it leads to a state that isn't listed, as where the certificate is of another text" ++ 10 ∷ []

abbrev pub likely_of : Instr → List ℕ
likely_of (Store op rs1 rs2 offset) = likely_store
likely_of (Amo op rd rs1 rs2 aq rl) = likely_store
likely_of (Load op rd rs1 offset) = likely_load
likely_of (Jalr rd rs1 offset) = likely_jump
likely_of other = likely_other

abbrev pub likely_at : Option Instr → List ℕ
likely_at None = likely_other
likely_at (Some instr) = likely_of instr

abbrev pub likely_opening : (unlisted : Bool) → List ℕ
likely_opening true = codes "likely: the search for its states found none, which says nothing of the queue" ++ 10 ∷ []
likely_opening false = codes "likely: the certificate is of another text, or of another opening of this one" ++ 10 ∷ []

abbrev pub likely_queue : List ℕ
likely_queue = codes "likely: the queue isn't described as the text has it" ++ 10 ∷ []

abbrev pub likely_line : OpeningValue → QueueCertificate → Flaw → List ℕ
likely_line o c (Queue i why) = likely_queue
likely_line o c (Tagged t why) = likely_queue
likely_line o c (Opening h) = likely_opening (is_unlisted c h)
likely_line o c (State h n) = likely_at (instruction_at (hart_at o h).code (state_at c h n).known.pc)
