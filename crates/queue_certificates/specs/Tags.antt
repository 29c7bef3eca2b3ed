-- Queues of a certificate whose slots tell whose they are: how their tags tell, what is known of a party's share, and what an instruction
-- makes of a known state besides.
use Rattle.std.specs.Prelude.{ℕ, ℤ, ◌≡◌, ◌+◌, ◌-◌, ◌*◌, ◌%◌, ◌^◌, ◌≤◌, ◌<◌, ◌==◌, ◌&&◌, ◌||◌, not, nat_le, nat_lt, if◌then◌else◌, Bool, true, false}
use Rattle.std.specs.Prelude.{Option, None, Some, is_some, List, [], ◌∷◌, map, length, get_or, set, bit_and, bit_or}
use Rattle.std.specs.Int.{trailing_zeros, w32}
use Rattle.rv_decode.specs.declared.instruction.Reg.{Reg}
use Rattle.rv_decode.specs.declared.instruction.LoadOp.{LoadOp}
use Rattle.rv_decode.specs.declared.instruction.LoadOp.TheVariants as load
use Rattle.rv_decode.specs.declared.instruction.StoreOp.{StoreOp}
use Rattle.rv_decode.specs.declared.instruction.Instr.{Instr}
use Rattle.rv_decode.specs.declared.instruction.Instr.TheVariants.{Load, Store, Amo}
use Rattle.hart.specs.Effects.{next_pc, extended, load_width, store_width}
use Rattle.queue_parties.specs.Parties.{Party, the_sender, the_receiver, other, QueueCounts, count}
use Rattle.certified_runs.specs.TwoParties.{AllCounts}
use Rattle.slot_queue.specs.Queues.{Queue}
use Rattle.slots_that_tell.specs.Slots.{gap}
use Rattle.slots_that_tell.specs.Telling.{teller_of, teller_hart, owned_end}
use Rattle.queue_layouts.specs.declared.tagged.Codec.{Codec}
use Rattle.queue_layouts.specs.declared.tagged.Codec.TheVariants as codec
use Rattle.queue_layouts.specs.declared.tagged.TaggedQueue.{TaggedQueue}
use Rattle.queue_layouts.specs.Tagged.{slots_of}
use Rattle.queue_certificates.specs.declared.own.OwnWord.{OwnWord}
use Rattle.queue_certificates.specs.Forms.{Form, form_value, number, first_variable, plus, lifted, substituted, is_same, most, fits_in, remainder, Bounds}
use Rattle.queue_certificates.specs.Forms.{bounds_of}
use Rattle.queue_certificates.specs.States.{KnownValue, any, linear, index_for, signed_for, ends_as, has_bits, Share, no_share, KnownState}
use Rattle.queue_certificates.specs.Results.{Result, just, or_up_to, bounds, Bits, of_bits, bits_of}
use Rattle.queue_certificates.specs.Steps.{all_below, last_below, is_just, is_apart, position_at, offset_at, is_slot, is_owned}
use Rattle.queue_certificates.specs.Steps.{most_loaded, with_result, share_at, operand, address_value, addresses, exchanged, may_load, updated_value}

-- the same slots as those of a queue of no indices
abbrev pub bare : TaggedQueue → Queue
bare q = record {
  sender = q.sender;
  receiver = q.receiver;
  head = 0;
  tail = 0;
  index_width = 0;
  slots = q.slots;
  size = q.size;
  width = q.width;
  capacity = q.size;
  base = 0;
  scale = 0;
  offset = 0;
  modulus = 0;
}

-- and its elements with the tags
abbrev pub elements : TaggedQueue → Queue
elements q = record (bare q) { slots = q.tags; width = q.tag_stride }

abbrev pub party_in : TaggedQueue → (h : ℕ) → Option Party
party_in q h = teller_of (slots_of q) h

-- the elements with the tags are the slots, or none of their bytes is a slot's
abbrev pub are_slots : TaggedQueue → Bool
are_slots q = (q.tags == q.slots) && (q.tag_stride == q.width)

abbrev pub are_apart_from_slots : TaggedQueue → Bool
are_apart_from_slots q = nat_le (q.slots + q.size * q.width) q.tags || nat_le (q.tags + q.size * q.tag_stride) q.slots

-- two harts, some slots, and for each a tag of at most a word, in it or beside all of them. Positions' numbers fill a word, and those of a
-- free slot and of a full one differ; bits are of the tag, and those of a free slot and of a full one differ, as do phase bits from the
-- next ones of their slot
abbrev pub is_codec : TaggedQueue → Codec → Bool
is_codec q codec.Zero = true
is_codec q codec.Number = (q.tag_width == 4) && not (q.size % 2 ^ 32 == 1)
is_codec q (codec.Bit mask free full) = nat_lt mask (256 ^ q.tag_width) && not (free == full)
is_codec q (codec.Phases mask free full odd_free odd_full) = nat_lt mask (256 ^ q.tag_width) && not (free == full) && not (full == odd_free)
    && not (odd_free == odd_full) && not (odd_full == free)

-- a slot may be free, and full: the mask has each bit of those that tell it
abbrev pub are_bits_of : (mask bits : ℕ) → Bool
are_bits_of mask bits = bit_and bits mask == bits

abbrev pub tells_both : Codec → Bool
tells_both codec.Zero = true
tells_both codec.Number = true
tells_both (codec.Bit mask free full) = are_bits_of mask free && are_bits_of mask full
tells_both (codec.Phases mask free full odd_free odd_full) = are_bits_of mask free && are_bits_of mask full && are_bits_of mask odd_free
    && are_bits_of mask odd_full

abbrev pub is_tagged : TaggedQueue → Bool
is_tagged q = not (q.sender == q.receiver) && nat_le 1 q.size && nat_le 1 q.tag_width && nat_le q.tag_width 4
    && nat_le (q.tag_offset + q.tag_width) q.tag_stride && (are_slots q || are_apart_from_slots q) && is_codec q q.codec && tells_both q.codec

-- ---- shares: a party's own count, and of how many positions from there on it knows at least that it owns them

pub record HasAtLeast (q : TaggedQueue) (p : Party) (c : QueueCounts) (xs : List ℕ) (s : Share) : Type 0 where
  pub own : count p c ≡ form_value s.own xs
  pub upto : form_value s.own xs + form_value s.owned xs ≤ owned_end (slots_of q) p c

-- ---- accesses of slots, at an address that is a form

-- these bytes are of the element with the tag of the position that is as much further than the own count as the constants say
abbrev pub is_in_element : List (Option ℕ) → TaggedQueue → Share → Form → Bool
is_in_element rs q s f = is_slot rs (elements q) f (offset_at (elements q) f.constant)
    (remainder rs (plus s.own (number (position_at (elements q) s.own.constant f.constant))) q.size)

-- a whole tag, and how much further its position is
abbrev pub tag_position : List (Option ℕ) → TaggedQueue → Share → (place : KnownValue) → (width : ℕ) → Option ℕ
tag_position rs q s any width = None
tag_position rs q s (index_for i f) width = None
tag_position rs q s (signed_for i f) width = None
tag_position rs q s (ends_as n f) width = None
tag_position rs q s (has_bits m b) width = None
tag_position rs q s (linear f) width = if (width == q.tag_width) && (offset_at (elements q) f.constant == q.tag_offset) && is_in_element rs q s f
    then Some (position_at (elements q) s.own.constant f.constant) else None

-- it is of an owned slot, and of no byte of a tag
abbrev pub is_of_rest : List (Option ℕ) → TaggedQueue → Share → (place : KnownValue) → (width : ℕ) → Bool
is_of_rest rs q s any width = false
is_of_rest rs q s (index_for i f) width = false
is_of_rest rs q s (signed_for i f) width = false
is_of_rest rs q s (ends_as n f) width = false
is_of_rest rs q s (has_bits m b) width = false
is_of_rest rs q s (linear f) width = (not (are_slots q) || nat_le (offset_at (bare q) f.constant + width) q.tag_offset
    || nat_le (q.tag_offset + q.tag_width) (offset_at (bare q) f.constant)) && is_owned rs (bare q) s (linear f) width

-- it is of a tag alone
abbrev pub is_of_tag : List (Option ℕ) → TaggedQueue → Share → (place : KnownValue) → (width : ℕ) → Bool
is_of_tag rs q s any width = false
is_of_tag rs q s (index_for i f) width = false
is_of_tag rs q s (signed_for i f) width = false
is_of_tag rs q s (ends_as n f) width = false
is_of_tag rs q s (has_bits m b) width = false
is_of_tag rs q s (linear f) width = nat_le q.tag_offset (offset_at (elements q) f.constant)
    && nat_le (offset_at (elements q) f.constant + width) (q.tag_offset + q.tag_width) && is_in_element rs q s f

abbrev pub is_beside_slots : TaggedQueue → Bounds → (width : ℕ) → Bool
is_beside_slots q b width = is_apart b width q.slots (q.size * q.width) && is_apart b width q.tags (q.size * q.tag_stride)

-- ---- rounds, of as many positions as there are slots

-- whether a position is of an even round, where its remainder by two rounds lies within one
abbrev pub is_even_between : (size : ℕ) → Option Bounds → Option Bool
is_even_between size None = None
is_even_between size (Some b) = if nat_lt b.high size then Some true else if nat_le size b.low then Some false else None

abbrev pub is_of_even_round : List (Option ℕ) → (size : ℕ) → (position : Form) → Option Bool
is_of_even_round rs size f = is_even_between size (bounds_of (2 * size) rs f)

-- ---- what a tag satisfies that tells a party that it has a position

-- nothing is known of it; it is 0; it isn't; it is the number that this form is, of a whole word; or its bits under this mask are these
pub data Told : Type 0 where
  unknown : Told
  nothing : Told
  something : Told
  number_of : (f : Form) → Told
  bits_are : (mask bits : ℕ) → Told

-- the bits under a mask
abbrev pub bits_for : (mask free full : ℕ) → Party → Told
bits_for mask free full the_sender = bits_are mask free
bits_for mask free full the_receiver = bits_are mask full

-- what turns with the rounds, where it is known of which a position is
abbrev pub in_round : Option Bool → (even odd : Told) → Told
in_round None even odd = unknown
in_round (Some true) even odd = even
in_round (Some false) even odd = odd

-- of the position that the form is, where there are `size` slots
abbrev pub told_by : List (Option ℕ) → (size : ℕ) → Codec → Party → (position : Form) → Told
told_by rs size codec.Zero the_sender f = nothing
told_by rs size codec.Zero the_receiver f = something
told_by rs size codec.Number the_sender f = number_of f
told_by rs size codec.Number the_receiver f = number_of (plus f (number 1))
told_by rs size (codec.Bit mask free full) p f = bits_for mask free full p
told_by rs size (codec.Phases mask free full odd_free odd_full) p f =
    in_round (is_of_even_round rs size f) (bits_for mask free full p) (bits_for mask odd_free odd_full p)

-- a position ahead of the own count, and the other party's own position of that slot, which are alike: modulo 2 ^ 32, or two rounds where
-- the tag's bits turn with these
abbrev pub back_to : TaggedQueue → Codec → Party → ℕ
back_to q c the_sender = 0
back_to q (codec.Phases mask free full odd_free odd_full) the_receiver = q.size
back_to q c the_receiver = 2 ^ 32 - q.size % 2 ^ 32

-- ---- what a load leaves of such a tag

-- a number that isn't 0
abbrev pub some_up_to : (n : ℕ) → Result
some_up_to n = record { most = n - 1; value = linear (plus (number 1) first_variable) }

-- the bits that an unsigned load leaves 0
abbrev pub bits_above : LoadOp → ℕ
bits_above load.ByteUnsigned = 2 ^ 32 - 2 ^ 8
bits_above load.HalfUnsigned = 2 ^ 32 - 2 ^ 16
bits_above op = 0

abbrev pub value_told : LoadOp → Told → Result
value_told op unknown = or_up_to (most_loaded op) any
value_told op nothing = just (linear (number 0))
value_told op something = some_up_to (most_loaded op)
value_told op (number_of f) = just (linear f)
value_told op (bits_are mask bits) = just (of_bits (bit_or (extended op mask) (bits_above op)) (extended op bits))

-- what a party loads where the tag tells it of the position this far ahead of its own count, and where it tells the other party
abbrev pub told_value : List (Option ℕ) → TaggedQueue → Codec → Party → LoadOp → (own : Form) → (position : ℕ) → Result
told_value rs q c p op own j = value_told op (told_by rs q.size c p (plus own (number j)))

abbrev pub other_value : List (Option ℕ) → TaggedQueue → Codec → Party → LoadOp → (own : Form) → (position : ℕ) → Result
other_value rs q c p op own j = value_told op (told_by rs q.size c (other p) (plus own (number (j + back_to q c (other p)))))

-- ---- what hands the own position over: a stored value that makes the tag tell the other party

abbrev pub is_positive : (width : ℕ) → Option Bounds → Bool
is_positive width None = false
is_positive width (Some b) = nat_le 1 b.low && nat_lt b.high (256 ^ width)

abbrev pub is_number : (n : ℕ) → KnownValue → Form → Bool
is_number n any g = false
is_number n (index_for i f) g = false
is_number n (signed_for i f) g = false
is_number n (ends_as b f) g = false
is_number n (has_bits m b) g = false
is_number n (linear f) g = is_same n f g

abbrev pub are_these : Option Bits → (mask bits : ℕ) → Bool
are_these None mask bits = false
are_these (Some b) mask bits = (bit_and b.mask mask == mask) && (bit_and b.bits mask == bits)

-- bits that are all above a number are 0
abbrev pub are_above : Option Bounds → (mask bits : ℕ) → Bool
are_above None mask bits = false
are_above (Some b) mask bits = (bits == 0) && nat_lt b.high (2 ^ trailing_zeros w32 mask) && (mask % 2 ^ trailing_zeros w32 mask == 0)

abbrev pub has_these : List (Option ℕ) → KnownValue → (mask bits : ℕ) → Bool
has_these rs v mask bits = are_these (bits_of v) mask bits || are_above (bounds rs v) mask bits

abbrev pub makes : List (Option ℕ) → (width : ℕ) → Told → (stored : KnownValue) → Bool
makes rs width unknown v = false
makes rs width nothing v = is_number (256 ^ width) v (number 0)
makes rs width something v = is_positive width (bounds rs v)
makes rs width (number_of f) v = is_number (2 ^ 32) v f
makes rs width (bits_are mask bits) v = has_these rs v mask bits

-- the sender hands over its own position, and the receiver the slot's next one
abbrev pub hands_over : List (Option ℕ) → TaggedQueue → Codec → Party → (own : Form) → (stored : KnownValue) → Bool
hands_over rs q c p own v = makes rs q.tag_width (told_by rs q.size c (other p) (plus own (number (gap (slots_of q) p)))) v

-- one position is handed over
abbrev pub handed : Share → Share
handed s = record { own = plus (lifted s.own) (number 1); owned = number (s.owned.constant - 1) }

-- a queue's share is another one, by the queue's place among all
abbrev pub with_share : (place : ℕ) → Share → KnownState → KnownState
with_share place s k = record k { shares = set k.shares place s }

-- of the queue with tags that a store moves, beside N with indices
abbrev pub all_handed : (N : ℕ) → KnownState → (move : Option ℕ) → List KnownState → List KnownState
all_handed N k None ks = ks
all_handed N k (Some t) ks = map (with_share (N + t) (handed (share_at k (N + t)))) ks

-- ---- each byte of a load that is of queue t's slots is of a tag, or of an owned slot. The share of queue t with tags comes after those
-- of all N with indices

abbrev pub reads_rest : List (Option ℕ) → TaggedQueue → Share → (place : KnownValue) → Bounds → (width : ℕ) → Bool
reads_rest rs q s place b width = is_beside_slots q b width || is_of_tag rs q s place width || is_owned rs (bare q) s place width

abbrev pub loads_rest : (tagged : ℕ → TaggedQueue) (queues : ℕ → Queue) (N : ℕ) → KnownState → (t : ℕ) → Option Instr → Bool
loads_rest tagged queues N k t (Some (Load op rd rs1 offset)) = reads_rest k.ranges (tagged t) (share_at k (N + t)) (address_value queues k rs1 offset)
    (addresses queues k rs1 offset) (load_width op)
loads_rest tagged queues N k t (Some (Amo op rd rs1 rs2 aq rl)) =
    reads_rest k.ranges (tagged t) (share_at k (N + t)) (operand queues k rs1) (exchanged queues k rs1) 4
loads_rest tagged queues N k t other = true

-- ---- where there are queues with tags beside N with indices: a load by a party of the tag of a position ahead of its own count,
-- and a store by it

module _ (tagged : ℕ → TaggedQueue) (N : ℕ) where
  abbrev pub tag_by : KnownState → Option Party → (place : KnownValue) → (width t : ℕ) → Option ℕ
  tag_by k None place width t = None
  tag_by k (Some p) place width t = tag_position k.ranges (tagged t) (share_at k (N + t)) place width

  -- the tag tells the party that it has the position, so it owns up to there,
  abbrev pub when_told : KnownState → Party → LoadOp → (rd t position : ℕ) → Share → KnownState
  when_told k p op rd t j s = with_share (N + t) (record { own = lifted s.own; owned = number (j + 1) })
      (with_result k rd (next_pc k.pc) (told_value k.ranges (tagged t) (tagged t).codec p op s.own j))

  -- or it has it already, or the other still has it
  abbrev pub after_tag : KnownState → Party → LoadOp → (rd t position : ℕ) → Share → List KnownState
  after_tag k p op rd t j s = if nat_lt j s.owned.constant
      then with_result k rd (next_pc k.pc) (told_value k.ranges (tagged t) (tagged t).codec p op s.own j) ∷ []
      else when_told k p op rd t j s ∷ with_result k rd (next_pc k.pc) (other_value k.ranges (tagged t) (tagged t).codec p op s.own j) ∷ []

  abbrev pub at_tag : KnownState → Option Party → LoadOp → (rd t : ℕ) → (position : Option ℕ) → Option (List KnownState)
  at_tag k None op rd t j = None
  at_tag k (Some p) op rd t None = None
  at_tag k (Some p) op rd t (Some j) = Some (after_tag k p op rd t j (share_at k (N + t)))

  -- a store that moves the own count of the queue `move`, or of none
  abbrev pub may_tell : KnownState → Option Party → (stored place : KnownValue) → Bounds → (width : ℕ) → (move : Option ℕ) → (t : ℕ) → Bool
  may_tell k None v place b width move t = is_beside_slots (tagged t) b width
  may_tell k (Some p) v place b width move t = if is_just move t
      then nat_le 1 (share_at k (N + t)).owned.constant && nat_lt (N + t) (length k.shares)
      && hands_over k.ranges (tagged t) (tagged t).codec p (share_at k (N + t)).own v
      else (is_beside_slots (tagged t) b width || is_of_rest k.ranges (tagged t) (share_at k (N + t)) place width)

-- ---- of hart h, where there are T of them

module _ (tagged : ℕ → TaggedQueue) (T N h : ℕ) where
  -- how much further than the own count the position is of which it is the tag, whole
  abbrev pub tag_at : KnownState → (place : KnownValue) → (width t : ℕ) → Option ℕ
  tag_at k place width t = tag_by tagged N k (party_in (tagged t) h) place width t

  abbrev pub looked_tag : KnownState → (place : KnownValue) → (width : ℕ) → Option ℕ
  looked_tag k place width = last_below T (λ t. is_some (tag_at k place width t))

  abbrev pub moved_tag : KnownState → (place : KnownValue) → (width : ℕ) → Option ℕ
  moved_tag k place width = last_below T (λ t. is_just (tag_at k place width t) 0)

  abbrev pub may_store_all : KnownState → (stored place : KnownValue) → Bounds → (width : ℕ) → (move : Option ℕ) → Bool
  may_store_all k v place b width move = all_below T (λ t. may_tell tagged N k (party_in (tagged t) h) v place b width move t)

  abbrev pub store_tells : KnownState → (stored place : KnownValue) → Bounds → (width : ℕ) → (move : Option ℕ) → List KnownState → Option (List KnownState)
  store_tells k v place b width move ks = if may_store_all k v place b width move then Some (all_handed N k move ks) else None

  abbrev pub storing_tells : KnownState → (stored place : KnownValue) → Bounds → (width : ℕ) → List KnownState → Option (List KnownState)
  storing_tells k v place b width ks = store_tells k v place b width (moved_tag k place width) ks

  -- its shares of the queues of which it is a party are right
  abbrev pub AreTold : List ℕ → KnownState → (us : AllCounts) → Type 0
  AreTold xs k us = (t : ℕ) → t < T → (p : Party) → h ≡ teller_hart (slots_of (tagged t)) p → HasAtLeast (tagged t) p (us t) xs (share_at k (N + t))

-- ---- instructions: the states that may follow, where `next` do if there were no tags; H harts have own words at these addresses

module _ (tagged : ℕ → TaggedQueue) (T : ℕ) (queues : ℕ → Queue) (N : ℕ) (own_of : ℕ → List OwnWord) (H h : ℕ) where
  -- a load that isn't known to be of the queue's tag may tell the party more than it takes note of
  abbrev pub load_tells : KnownState → LoadOp → (rd : ℕ) → (place : KnownValue) → Bounds → (look : Option ℕ) → List KnownState → Option (List KnownState)
  load_tells k op rd place b None ks = Some ks
  load_tells k op rd place b (Some t) ks = if may_load queues N h k b (load_width op) None
      then at_tag tagged N k (party_in (tagged t) h) op rd t (tag_at tagged T N h k place (load_width op) t) else None

  unfoldable pub told_by_store : KnownState → StoreOp → (rs1 rs2 : Reg) → (offset : ℤ) → List KnownState → Option (List KnownState)
  told_by_store k op rs1 rs2 offset ks = storing_tells tagged T N h k (operand queues k rs2) (address_value queues k rs1 offset)
      (addresses queues k rs1 offset) (store_width op) ks

  abbrev pub next_told : KnownState → Option Instr → (next : Option (List KnownState)) → Option (List KnownState)
  next_told k instruction None = None
  next_told k (Some (Load op rd rs1 offset)) (Some ks) = load_tells k op rd.number (address_value queues k rs1 offset)
      (addresses queues k rs1 offset) (looked_tag tagged T N h k (address_value queues k rs1 offset) (load_width op)) ks
  next_told k (Some (Store op rs1 rs2 offset)) (Some ks) = told_by_store k op rs1 rs2 offset ks
  next_told k (Some (Amo op rd rs1 rs2 aq rl)) (Some ks) = storing_tells tagged T N h k
      (updated_value queues k.ranges op any (operand queues k rs2)) (operand queues k rs1) (exchanged queues k rs1) 4 ks
  next_told k instruction next = next

-- ---- arrows: the same count, and no more is said to be owned

abbrev pub covers_share : List (Option ℕ) → Share → Share → List Form → Bool
covers_share rs s t gs = is_same 0 s.own (substituted t.own gs) && fits_in (most rs (substituted t.owned gs)) (Some s.owned.constant)

abbrev pub tags_lead : (N T : ℕ) → KnownState → KnownState → List Form → Bool
tags_lead N T k t gs = all_below T (λ i. covers_share k.ranges (get_or k.shares (N + i) no_share) (get_or t.shares (N + i) no_share) gs)
