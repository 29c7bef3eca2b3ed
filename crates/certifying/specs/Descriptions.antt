-- What a certificate says of a queue, in lines, and which instructions use it.
use Rattle.std.specs.Prelude.{ℕ, ◌==◌, List, [], ◌∷◌, ◌++◌, length, get_or, codes, if◌then◌else◌, Option, None, Some, Bool, true, false}
use Rattle.std.specs.List.{flat_map}
use Rattle.std.specs.Fmt.{decimal}
use Rattle.rv_decode.specs.declared.instruction.Instr.{Instr}
use Rattle.step_machine.specs.History.{OpeningValue}
use Rattle.assembler.specs.Writing.{text_of}
use Rattle.slot_queue.specs.Queues.{Queue}
use Rattle.queue_layouts.specs.declared.tagged.Codec.{Codec}
use Rattle.queue_layouts.specs.declared.tagged.Codec.TheVariants.{Zero, Number, Bit, Phases}
use Rattle.queue_layouts.specs.declared.tagged.TaggedQueue.{TaggedQueue}
use Rattle.queue_layouts.specs.declared.tagged.OpenedTagged.{OpenedTagged}
use Rattle.queue_certificates.specs.RecordFields.{Field}
use Rattle.queue_certificates.specs.Certificates.{OpenedQueue, QueueCertificate, no_queue, no_tagged}
use Rattle.queue_certificates.specs.Tags.{are_slots}
use Rattle.queue_certificates.specs.Steps.{instruction_at}
use Rattle.queue_checker.specs.Accesses.{slot_accesses}
use Rattle.queue_checker.specs.declared.accesses.SlotAccess.{SlotAccess}
use Rattle.queue_checker.specs.Flaws.{hart_at}
use Rattle.record_bytes.specs.declared.ranges.ByteRange.{ByteRange}
use Rattle.engine_support.specs.OpeningTexts.{numbered}
use Rattle.certifying.specs.Queues.{accesses_at}

-- An instruction of a hart, as lines name it.

-- as `dis` writes it
abbrev pub instruction_text : Option Instr → List ℕ
instruction_text None = codes "no instruction"
instruction_text (Some instr) = text_of instr

-- the instruction of a hart at a pc, after that pc
abbrev pub instruction_at_pc : OpeningValue → (h pc : ℕ) → List ℕ
instruction_at_pc o h pc = codes "pc " ++ decimal pc ++ codes ", " ++ instruction_text (instruction_at (hart_at o h).code pc)

-- the same after its hart's number
abbrev pub instruction_place : OpeningValue → (h pc : ℕ) → List ℕ
instruction_place o h pc =
    codes "hart " ++ decimal h ++ codes " at pc " ++ decimal pc ++ codes ", " ++ instruction_text (instruction_at (hart_at o h).code pc)

-- Bytes, as lines name them.

abbrev pub range_text : ByteRange → List ℕ
range_text range = if range.first == range.last then decimal range.first else decimal range.first ++ codes "-" ++ decimal range.last

-- what stands between a range and these after it
abbrev pub gap_before : List ByteRange → List ℕ
gap_before [] = []
gap_before (range ∷ []) = codes " and "
gap_before (range ∷ next ∷ others) = codes ", "

abbrev pub ranges_text : List ByteRange → List ℕ
ranges_text [] = []
ranges_text (range ∷ others) = range_text range ++ gap_before others ++ ranges_text others

-- they are a single byte
abbrev pub is_one_byte : List ByteRange → Bool
is_one_byte (range ∷ []) = range.first == range.last
is_one_byte other = false

abbrev pub bytes_word : (one : Bool) → List ℕ
bytes_word true = codes "byte "
bytes_word false = codes "bytes "

-- `byte 2`, or `bytes 0-3 and 8`
abbrev pub bytes_text : List ByteRange → List ℕ
bytes_text ranges = bytes_word (is_one_byte ranges) ++ ranges_text ranges

-- how each line of a queue begins
abbrev pub queue_front : (i : ℕ) → List ℕ
queue_front i = codes "queue " ++ decimal i ++ codes ": "

unfoldable pub parties_line : (i sender receiver : ℕ) → List ℕ
parties_line i sender receiver = codes "queue " ++ decimal i ++ codes ": hart " ++ decimal sender ++ codes " sends and hart " ++ decimal receiver
    ++ codes " receives" ++ 10 ∷ []

unfoldable pub indices_line : (i : ℕ) → Queue → List ℕ
indices_line i q = codes "queue " ++ (decimal i ++ (codes ": its head is the " ++ (decimal q.index_width ++ (codes " bytes at " ++ (decimal q.head
    ++ (codes ", its tail those at " ++ (decimal q.tail ++ 10 ∷ [])))))))

unfoldable pub slots_front : (i size width : ℕ) → List ℕ
slots_front i size width = codes "queue " ++ (decimal i ++ (codes ": it has " ++ (decimal size ++ (codes " slots of " ++ (decimal width
    ++ codes " bytes")))))

unfoldable pub slots_end : Queue → List ℕ
slots_end q = codes " from " ++ (decimal q.slots ++ (codes " on, of which " ++ (decimal q.capacity ++ (codes " may be in use" ++ 10 ∷ []))))

abbrev pub slots_line : (i : ℕ) → Queue → List ℕ
slots_line i q = slots_front i q.size q.width ++ slots_end q

unfoldable pub count_front : (i : ℕ) → Queue → List ℕ
count_front i q = codes "queue " ++ (decimal i ++ (codes ": count n is the word " ++ (decimal q.base ++ (codes " + " ++ (decimal q.scale ++ codes " * ")))))

unfoldable pub count_end : OpenedQueue → List ℕ
count_end opened = codes "((n + " ++ (decimal opened.queue.offset ++ (codes ") mod " ++ (decimal opened.queue.modulus ++ (codes "), and it opens at "
    ++ (decimal opened.start ++ 10 ∷ [])))))

abbrev pub count_line : (i : ℕ) → OpenedQueue → List ℕ
count_line i opened = count_front i opened.queue ++ count_end opened

-- a field of its records
unfoldable pub field_front : (i : ℕ) → Field → List ℕ
field_front i f = codes "queue " ++ (decimal i ++ (codes ": the " ++ (decimal f.width ++ (codes " bytes from " ++ (decimal f.at
    ++ codes " on of each record are ")))))

unfoldable pub field_end : Field → List ℕ
field_end f = decimal f.low ++ (codes " + " ++ (decimal f.step ++ (codes " * j, with j from 0 to " ++ (decimal f.count ++ 10 ∷ []))))

abbrev pub field_line : (i : ℕ) → Field → List ℕ
field_line i f = field_front i f ++ field_end f

-- ---- of a queue with tags

unfoldable pub from_end : (slots : ℕ) → List ℕ
from_end slots = codes " from " ++ (decimal slots ++ (codes " on" ++ 10 ∷ []))

abbrev pub tagged_slots_line : (i : ℕ) → TaggedQueue → List ℕ
tagged_slots_line i q = slots_front i q.size q.width ++ from_end q.slots

unfoldable pub tag_front : (i : ℕ) → List ℕ
tag_front i = codes "queue " ++ (decimal i ++ codes ": its tag is the ")

abbrev pub tag_bytes : (width : ℕ) → List ℕ
tag_bytes width = if width == 1 then codes "byte" else decimal width ++ codes " bytes"

unfoldable pub place_in_slot : (offset : ℕ) → List ℕ
place_in_slot offset = codes " at " ++ (decimal offset ++ codes " of each slot, ")

-- or of the element of an array that has one for each slot
unfoldable pub place_in_element : (offset width elements : ℕ) → List ℕ
place_in_element offset width elements = codes " at " ++ (decimal offset ++ (codes " of each element of "
    ++ (decimal width ++ (codes " bytes from " ++ (decimal elements ++ codes " on, ")))))

abbrev pub tag_place : TaggedQueue → List ℕ
tag_place q = if are_slots q then place_in_slot q.tag_offset else place_in_element q.tag_offset q.tag_stride q.tags

unfoldable pub bits_text : (mask free full : ℕ) → List ℕ
bits_text mask free full = codes "free where its bits under " ++ (decimal mask ++ (codes " are " ++ (decimal free
    ++ (codes " and full where they are " ++ decimal full))))

-- where they turn with the rounds, these are of even ones
unfoldable pub odd_text : (odd_free odd_full : ℕ) → List ℕ
odd_text odd_free odd_full = codes ", in odd rounds " ++ (decimal odd_free ++ (codes " and " ++ decimal odd_full))

abbrev pub codec_text : Codec → List ℕ
codec_text Zero = codes "0 where it is free and any other number where it is full"
codec_text Number = codes "k where it is free for position k and k + 1 where it is full of it, modulo 4294967296"
codec_text (Bit mask free full) = bits_text mask free full
codec_text (Phases mask free full odd_free odd_full) = bits_text mask free full ++ odd_text odd_free odd_full

unfoldable pub opens_end : (start : ℕ) → List ℕ
opens_end start = codes ", and it opens at " ++ (decimal start ++ 10 ∷ [])

-- how its tag tells, and the position with which it opens
abbrev pub tag_line : (i : ℕ) → OpenedTagged → List ℕ
tag_line i opened = tag_front i ++ tag_bytes opened.queue.tag_width ++ tag_place opened.queue ++ codec_text opened.queue.codec
    ++ opens_end opened.start

-- ---- its use

-- an instruction that in some state may store to a slot, and one that may load from one
abbrev pub use_line : OpeningValue → (i : ℕ) → (does : List ℕ) → SlotAccess → List ℕ
use_line o i does access = queue_front i ++ does ++ instruction_place o access.hart access.pc ++ 10 ∷ []

abbrev pub store_line : OpeningValue → (i : ℕ) → SlotAccess → List ℕ
store_line o i access = if access.stores then use_line o i (codes "stored to by ") access else []

abbrev pub load_line : OpeningValue → (i : ℕ) → SlotAccess → List ℕ
load_line o i access = if access.loads then use_line o i (codes "loaded from by ") access else []

abbrev pub access_lines : OpeningValue → (i : ℕ) → SlotAccess → List ℕ
access_lines o i access = store_line o i access ++ load_line o i access

-- ---- all of it

-- what a queue with indices is
unfoldable pub form_lines : (i : ℕ) → OpenedQueue → List ℕ
form_lines i opened = parties_line i opened.queue.sender opened.queue.receiver ++ indices_line i opened.queue ++ slots_line i opened.queue
    ++ count_line i opened

-- what a queue with tags is
unfoldable pub tagged_form_lines : (i : ℕ) → OpenedTagged → List ℕ
tagged_form_lines i opened = parties_line i opened.queue.sender opened.queue.receiver ++ tagged_slots_line i opened.queue ++ tag_line i opened

-- what a queue is, which may be one with tags
abbrev pub form_by : QueueCertificate → (i : ℕ) → (t : Option ℕ) → List ℕ
form_by c i None = form_lines i (get_or c.queues i no_queue)
form_by c i (Some t) = tagged_form_lines i (get_or c.tagged t no_tagged)

unfoldable pub queue_lines : OpeningValue → QueueCertificate → (i : ℕ) → OpenedQueue → List ℕ
queue_lines o c i opened = form_lines i opened ++ flat_map (field_line i) opened.fields ++ flat_map (access_lines o i) (slot_accesses o c i)

unfoldable pub tagged_lines : OpeningValue → QueueCertificate → (i : ℕ) → OpenedTagged → List ℕ
tagged_lines o c i opened = tagged_form_lines i opened ++ flat_map (access_lines o i) (accesses_at o c i)

unfoldable pub all_queue_lines : OpeningValue → QueueCertificate → List ℕ
all_queue_lines o c = numbered (queue_lines o c) 0 c.queues ++ numbered (tagged_lines o c) (length c.queues) c.tagged
