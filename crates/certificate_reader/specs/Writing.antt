-- The one text in which a certificate is written: each line's words with one space between them, numbers without leading zeros, what is
-- known by places in ascending order, and no line that tells nothing.
use Rattle.std.specs.Prelude.{ℕ, ◌+◌, ◌==◌, ◌&&◌, ◌||◌, not, if◌then◌else◌, Bool, true, false, List, [], ◌∷◌, ◌++◌, length, map, Option, Some, None, codes}
use Rattle.std.specs.List.{flat_map}
use Rattle.std.specs.Fmt.{decimal}
use Rattle.queue_certificates.specs.RecordFields.{Field}
use Rattle.queue_certificates.specs.Forms.{Form}
use Rattle.queue_certificates.specs.States.{KnownValue, any, linear, index_for, signed_for, ends_as, has_bits, Share, KnownState}
use Rattle.queue_certificates.specs.Certificates.{OpenedQueue, ListedState, HartPart, QueueCertificate}
use Rattle.queue_certificates.specs.Filled.{Filled}
use Rattle.queue_certificates.specs.declared.goal.Goal.{Goal}
use Rattle.queue_certificates.specs.declared.goal.Goal.TheVariants as goal
use Rattle.queue_certificates.specs.declared.own.OwnWord.{OwnWord}
use Rattle.queue_layouts.specs.declared.tagged.Codec.{Codec}
use Rattle.queue_layouts.specs.declared.tagged.Codec.TheVariants as codec
use Rattle.queue_layouts.specs.declared.tagged.OpenedTagged.{OpenedTagged}
use Rattle.queue_layouts.specs.declared.tagged.TaggedQueue.{TaggedQueue}
use Rattle.certificate_reader.specs.declared.cases.Node.{Node}
use Rattle.certificate_reader.specs.declared.cases.Node.TheVariants as node
use Rattle.certificate_reader.specs.CaseTexts.{case_lines}

-- ---- lines

-- a line's first word, and the words after it
abbrev pub LineOfWords : Type 0
LineOfWords = List ℕ × List (List ℕ)

-- words, each after a space (32)
abbrev pub spaced : List (List ℕ) → List ℕ
spaced words = flat_map (λ word. 32 ∷ word) words

-- what stands in front of each line, the line and LF (10)
abbrev pub line_text : (front : List ℕ) → LineOfWords → List ℕ
line_text front line = front ++ line.0 ++ spaced line.1 ++ 10 ∷ []

abbrev pub lines_text : (front : List ℕ) → List LineOfWords → List ℕ
lines_text front lines = flat_map (line_text front) lines

-- the lines of elements by their places, from this one on
abbrev pub lines_at : {A : Type 0} → ((place : ℕ) → A → List LineOfWords) → (place : ℕ) → List A → List LineOfWords
lines_at lines place [] = []
lines_at lines place (x ∷ xs) = lines place x ++ lines_at lines (place + 1) xs

-- ---- forms: parts with a `+` (43) between them

-- a number is written where it isn't 0, or where nothing comes after it
abbrev pub is_written : (n after : ℕ) → Bool
is_written n after = not (n == 0) || (after == 0)

abbrev pub first_if : Bool → List ℕ → List (List ℕ) → List (List ℕ)
first_if true part parts = part ∷ parts
first_if false part parts = parts

-- `m*j` (the `*` is 42)
abbrev pub multiple_text : (m j : ℕ) → List ℕ
multiple_text m j = decimal m ++ 42 ∷ decimal j

-- of the variables from j on
abbrev pub multiples : (j : ℕ) → List ℕ → List (List ℕ)
multiples j [] = []
multiples j (m ∷ ms) = first_if (is_written m (length ms)) (multiple_text m j) (multiples (j + 1) ms)

abbrev pub parts_of : Form → List (List ℕ)
parts_of f = first_if (is_written f.constant (length f.factors)) (decimal f.constant) (multiples 0 f.factors)

-- parts of which something stands before the first, or nothing
abbrev pub parts_text : (follows : Bool) → List (List ℕ) → List ℕ
parts_text true parts = flat_map (λ part. 43 ∷ part) parts
parts_text false [] = []
parts_text false (part ∷ parts) = part ++ parts_text true parts

abbrev pub form_text : Form → List ℕ
form_text f = parts_text false (parts_of f)

-- ---- what is known in a state

-- `@i:FORM` for an index's word, `~i:FORM` for what a signed load leaves of it, `^n:FORM` for n bits that end as a form does, `&MASK:BITS`
-- for a word of which these are the bits under the mask (the `@` is 64, the `~` 126, the `^` 94, the `&` 38, the `:` 58)
abbrev pub marked_text : (mark i : ℕ) → Form → List ℕ
marked_text mark i f = mark ∷ decimal i ++ 58 ∷ form_text f

abbrev pub bits_text : (mask bits : ℕ) → List ℕ
bits_text mask bits = 38 ∷ decimal mask ++ 58 ∷ decimal bits

abbrev pub value_text : KnownValue → Option (List ℕ)
value_text any = None
value_text (linear f) = Some (form_text f)
value_text (index_for i f) = Some (marked_text 64 i f)
value_text (signed_for i f) = Some (marked_text 126 i f)
value_text (ends_as n f) = Some (marked_text 94 n f)
value_text (has_bits m b) = Some (bits_text m b)

abbrev pub value_line : (name : List ℕ) (place : ℕ) → Option (List ℕ) → List LineOfWords
value_line name place None = []
value_line name place (Some text) = (name, decimal place ∷ text ∷ []) ∷ []

abbrev pub value_lines : (name : List ℕ) (place : ℕ) → List KnownValue → List LineOfWords
value_lines name place values = lines_at (λ j value. value_line name j (value_text value)) place values

abbrev pub share_line : (place : ℕ) → Share → LineOfWords
share_line place share = (codes "share", decimal place ∷ form_text share.own ∷ form_text share.owned ∷ [])

abbrev pub share_lines : (place : ℕ) → List Share → List LineOfWords
share_lines place shares = lines_at (λ j share. share_line j share ∷ []) place shares

abbrev pub range_text : Option ℕ → List ℕ
range_text None = codes "-"
range_text (Some n) = decimal n

-- a line of this name, if it has further words
abbrev pub line_if : (name : List ℕ) → List (List ℕ) → List LineOfWords
line_if name [] = []
line_if name (word ∷ words) = (name, word ∷ words) ∷ []

abbrev pub known_lines : KnownState → List LineOfWords
known_lines k = line_if (codes "most") (map range_text k.ranges) ++ value_lines (codes "reg") 0 k.registers
    ++ value_lines (codes "word") 0 k.words ++ share_lines 0 k.shares

-- ---- which fields are right, by queues and by positions from the hart's own count on

abbrev pub slot_line : (i d : ℕ) → List ℕ → List LineOfWords
slot_line i d [] = []
slot_line i d (field ∷ fields) = (codes "filled", decimal i ∷ decimal d ∷ map decimal (field ∷ fields)) ∷ []

abbrev pub slot_lines : (i d : ℕ) → Filled → List LineOfWords
slot_lines i d slots = lines_at (slot_line i) d slots

abbrev pub filled_lines : (i : ℕ) → List Filled → List LineOfWords
filled_lines i filled = lines_at (λ j slots. slot_lines j 0 slots) i filled

-- the lines of a state except its pc and its cases
abbrev pub described_lines : ListedState → List LineOfWords
described_lines s = known_lines s.known ++ filled_lines 0 s.filled

-- ---- states, harts and queues

-- an own word: `A`, or `A:W` where it doesn't have four bytes (the `:` is 58)
abbrev pub own_word_text : OwnWord → List ℕ
own_word_text o = decimal o.at ++ (if o.width == 4 then [] else 58 ∷ decimal o.width)

abbrev pub node_line : Node → LineOfWords
node_line (node.Split j v) = (codes "split", decimal j ∷ decimal v ∷ [])
node_line (node.Leaf handed) = (codes "leaf", form_text handed ∷ [])
node_line (node.To arrow) = (codes "to", decimal arrow.to ∷ map form_text arrow.forms)

abbrev pub tree_lines : List Node → List LineOfWords
tree_lines nodes = map node_line nodes

abbrev pub rank_lines : List Form → List LineOfWords
rank_lines ranks = line_if (codes "rank") (map form_text ranks)

abbrev pub state_lines : ListedState → List LineOfWords
state_lines s = (codes "state", decimal s.known.pc ∷ []) ∷ described_lines s ++ rank_lines s.ranks ++ tree_lines (case_lines s.cases)

-- what ranks are for: of a queue with indices with how many positions the hart may own while it waits, of one with tags, or of all queues together
abbrev pub goal_words : Goal → List (List ℕ)
goal_words (goal.Queue i K) = decimal i ∷ decimal K ∷ []
goal_words (goal.Tags i) = decimal i ∷ []
goal_words (goal.Together K) = codes "-" ∷ decimal K ∷ []

abbrev pub goal_line : Goal → LineOfWords
goal_line g = (codes "goes", goal_words g)

abbrev pub lacks_line : List ℕ → LineOfWords
lacks_line queues = (codes "lacks", map decimal queues)

abbrev pub front_lines : HartPart → List LineOfWords
front_lines p = (codes "hart", []) ∷ line_if (codes "own") (map own_word_text p.own) ++ (codes "open", map decimal (p.first ∷ p.numbers)) ∷ []

abbrev pub aim_lines : HartPart → List LineOfWords
aim_lines p = front_lines p ++ map goal_line p.goals ++ map lacks_line p.lacking

abbrev pub part_lines : HartPart → List LineOfWords
part_lines p = aim_lines p ++ flat_map state_lines p.states

-- the numbers of a queue's line
abbrev pub numbers_of : OpenedQueue → List ℕ
numbers_of o = let q = o.queue in q.sender ∷ q.receiver ∷ q.head ∷ q.tail ∷ q.index_width ∷ q.slots ∷ q.size ∷ q.width ∷ q.capacity ∷ q.base
    ∷ q.scale ∷ q.offset ∷ q.modulus ∷ o.start ∷ []

abbrev pub queue_line : OpenedQueue → LineOfWords
queue_line o = (codes "queue", map decimal (numbers_of o))

-- the numbers of a field's line
abbrev pub field_numbers : Field → List ℕ
field_numbers f = f.at ∷ f.width ∷ f.low ∷ f.step ∷ f.count ∷ []

abbrev pub field_line : Field → LineOfWords
field_line f = (codes "field", map decimal (field_numbers f))

abbrev pub queue_lines : OpenedQueue → List LineOfWords
queue_lines o = queue_line o ∷ map field_line o.fields

-- how its tags tell: of bits the mask, and what they are of a free slot and of a full one; of phase bits this of even rounds, and of odd ones
abbrev pub codec_words : Codec → List (List ℕ)
codec_words codec.Zero = codes "zero" ∷ []
codec_words codec.Number = codes "number" ∷ []
codec_words (codec.Bit mask free full) = codes "bits" ∷ map decimal (mask ∷ free ∷ full ∷ [])
codec_words (codec.Phases mask free full odd_free odd_full) = codes "phases" ∷ map decimal (mask ∷ free ∷ full ∷ odd_free ∷ odd_full ∷ [])

-- numbers, how tags tell, and more numbers
abbrev pub telling_line : (before : List ℕ) → Codec → (after : List ℕ) → LineOfWords
telling_line before tells after = (codes "tagged", map decimal before ++ codec_words tells ++ map decimal after)

-- where the elements with the tags begin, and how many bytes one has, if they aren't the slots
abbrev pub element_numbers : TaggedQueue → List ℕ
element_numbers q = if (q.tags == q.slots) && (q.tag_stride == q.width) then [] else q.tags ∷ q.tag_stride ∷ []

-- the position with which it opens is the first number after how its tags tell
abbrev pub tagged_line : OpenedTagged → LineOfWords
tagged_line o =
    let q = o.queue in
    telling_line (q.sender ∷ q.receiver ∷ q.slots ∷ q.size ∷ q.width ∷ q.tag_offset ∷ q.tag_width ∷ []) q.codec (o.start ∷ element_numbers q)

-- ---- all of it

abbrev pub certificate_lines : QueueCertificate → List LineOfWords
certificate_lines c = (codes "ztso-queues", codes "1" ∷ []) ∷ flat_map queue_lines c.queues ++ map tagged_line c.tagged
    ++ flat_map part_lines c.harts

unfoldable pub certificate_text : QueueCertificate → List ℕ
certificate_text c = lines_text [] (certificate_lines c)
