-- A certificate of the queues of a text: of each hart states that are closed under its instructions. And when it is accepted.
use Rattle.std.specs.Prelude.{map, ℕ, ◌≡◌, ◌⊎◌, ◌+◌, ◌-◌, ◌*◌, ◌%◌, ◌^◌, ◌<◌, ◌==◌, ◌&&◌, ◌||◌, not, nat_le}
use Rattle.std.specs.Prelude.{nat_lt, Bool, true, false, Option, None, Some, List, [], ◌∷◌, length}
use Rattle.std.specs.Prelude.{get_or, slice_index, slice_set, All}
use Rattle.std.specs.List.{list_all}
use Rattle.rv_decode.specs.declared.instruction.Instr.{Instr}
use Rattle.rv_decode.specs.declared.instruction.Instr.TheVariants.{Store, Amo}
use Rattle.hart.specs.Effects.{store_width}
use Rattle.hart.specs.State.{HartState}
use Rattle.hart.specs.declared.status.Status.TheVariants as status
use Rattle.step_machine.specs.History.{HartOpeningValue, OpeningValue}
use Rattle.step_machine.specs.Entries.{opening_byte}
use Rattle.store_buffers.specs.StoreBuffers.{memory_number}
use Rattle.slot_queue.specs.Queues.{Queue, index_word}
use Rattle.queue_parties.specs.Positions.{IsInBytes}
use Rattle.queue_parties.specs.Parties.{Party, the_sender, the_receiver, all_at}
use Rattle.slot_queue.specs.Ownership.{party_of, end}
use Rattle.queue_certificates.specs.OwnedRuns.{View, AllCounts, OpenQueues, IsCertifiedOfQueues, LoadsAreOwned, Beside}
use Rattle.queue_certificates.specs.RecordFields.{Field, MeetsField}
use Rattle.slots_that_tell.specs.Slots.{tag_of}
use Rattle.slots_that_tell.specs.Telling.{owned_end}
use Rattle.queue_certificates.specs.ToldRuns.{telling, OpenTellers}
use Rattle.queue_certificates.specs.Forms.{Form, form_value, number, substituted, is_same, settled, are_in}
use Rattle.queue_certificates.specs.States.{KnownValue, any, linear, index_for, signed_for, ends_as, has_bits, Share, no_share, KnownState}
use Rattle.queue_certificates.specs.States.{value_by, state_by, signed_word, is_within, own_at, own_number, MeansAt, Means}
use Rattle.queue_certificates.specs.Steps.{all_below, is_apart, addresses, exchanged, follow, instruction_at, loads_owned}
use Rattle.queue_certificates.specs.Cases.{Arrow, Cases, leaf, each_leaf}
use Rattle.queue_certificates.specs.Fields.{is_field, next_received}
use Rattle.queue_certificates.specs.Tags.{party_in, is_tagged, AreTold, tags_lead, next_told, loads_rest}
use Rattle.queue_certificates.specs.Effects.{effect_of, value_stored}
use Rattle.queue_certificates.specs.Filled.{Filled, is_filled, no_field, is_filled_after, are_so, may_send}
use Rattle.queue_certificates.specs.declared.effect.Effect.{Effect}
use Rattle.queue_certificates.specs.declared.goal.Goal.{Goal}
use Rattle.queue_certificates.specs.declared.own.OwnWord.{OwnWord}
use Rattle.queue_layouts.specs.declared.tagged.Codec.TheVariants as codec
use Rattle.queue_layouts.specs.declared.tagged.TaggedQueue.{TaggedQueue}
use Rattle.queue_layouts.specs.declared.tagged.OpenedTagged.{OpenedTagged}
use Rattle.queue_layouts.specs.Tagged.{tells_by, slots_of}

-- what is known of a hart at a pc; its ranks; of each queue to which it sends records with fields, which of them are right ahead of its
-- count; and where it goes on
pub record ListedState : Type 0 where
  pub known : KnownState
  pub ranks : List Form
  pub filled : List Filled
  pub cases : Cases

-- a hart's part: the words, halves and bytes that no other hart writes, the state in which it opens with the numbers of its variables, what
-- its states have ranks for, then sets of queues that it may lack, for each of which they have one rank more, and all its states
pub record HartPart : Type 0 where
  pub own : List OwnWord
  pub first : ℕ
  pub numbers : List ℕ
  pub goals : List Goal
  pub lacking : List (List ℕ)
  pub states : List ListedState

-- a queue, the count with which it opens, and the fields of its records. Where it has some its receiver stores nothing to its slots
pub record OpenedQueue : Type 0 where
  pub queue : Queue
  pub start : ℕ
  pub fields : List Field

-- queues with indices, and queues with tags
pub record QueueCertificate : Type 0 where
  pub queues : List OpenedQueue
  pub tagged : List OpenedTagged
  pub harts : List HartPart

abbrev pub no_queue : OpenedQueue
no_queue = record {
  queue = record {
    sender = 0;
    receiver = 0;
    head = 0;
    tail = 0;
    index_width = 0;
    slots = 0;
    size = 0;
    width = 0;
    capacity = 0;
    base = 0;
    scale = 0;
    offset = 0;
    modulus = 0;
  };
  start = 0;
  fields = [];
}

abbrev pub no_tagged : OpenedTagged
no_tagged = record {
  queue = record { sender = 0; receiver = 0; slots = 0; size = 0; width = 0; tags = 0; tag_stride = 0; tag_offset = 0; tag_width = 0; codec = codec.Zero };
  start = 0;
}

abbrev pub no_part : HartPart
no_part = record { own = []; first = 0; numbers = []; goals = []; lacking = []; states = [] }

abbrev pub nowhere : ListedState
nowhere = record {
  known = record { pc = 0; ranges = []; registers = []; words = []; shares = [] };
  ranks = [];
  filled = [];
  cases = leaf (number 0) [];
}

abbrev pub queue_at : QueueCertificate → ℕ → Queue
queue_at c i = (get_or c.queues i no_queue).queue

abbrev pub start_at : QueueCertificate → ℕ → ℕ
start_at c i = (get_or c.queues i no_queue).start

abbrev pub fields_at : QueueCertificate → ℕ → List Field
fields_at c i = (get_or c.queues i no_queue).fields

abbrev pub tagged_at : QueueCertificate → ℕ → TaggedQueue
tagged_at c t = (get_or c.tagged t no_tagged).queue

abbrev pub tagged_start : QueueCertificate → ℕ → ℕ
tagged_start c t = (get_or c.tagged t no_tagged).start

abbrev pub part_of : QueueCertificate → ℕ → HartPart
part_of c h = get_or c.harts h no_part

abbrev pub own_of : QueueCertificate → ℕ → List OwnWord
own_of c h = (part_of c h).own

abbrev pub state_at : QueueCertificate → (h n : ℕ) → ListedState
state_at c h n = get_or (part_of c h).states n nowhere

-- ---- what it means

-- the byte at x is of one of hart h's own words
abbrev pub IsKeptByte : QueueCertificate → (h x : ℕ) → Type 0
IsKeptByte c h x = (j : ℕ) × (j < length (own_of c h)) × IsInBytes (own_at (own_of c h) j).at (own_at (own_of c h) j).width x

-- a hart that runs is in one of its states
abbrev pub IsInState : QueueCertificate → (h : ℕ) → HartState → View → AllCounts → Type 0
IsInState c h s m cs = s.status ≡ status.Running
    → (n : ℕ) × (n < length (part_of c h).states) × Means (queue_at c) (length c.queues) (own_of c h) h (state_at c h n).known s m cs

-- of queue i's records something is said, and this of the one at position k
abbrev pub HasFields : QueueCertificate → (i : ℕ) → Type 0
HasFields c i = 0 < length (fields_at c i)

abbrev pub MeetsFields : QueueCertificate → (i k : ℕ) → View → Type 0
MeetsFields c i k m = All (MeetsField (queue_at c i) k m) (fields_at c i)

-- the byte at x is of the slots to which hart h alone sends fields, and so no other hart writes it
abbrev pub IsSentByte : QueueCertificate → (h x : ℕ) → Type 0
IsSentByte c h x = (i : ℕ) × (i < length c.queues) × HasFields c i × (h ≡ (queue_at c i).sender)
    × IsInBytes (queue_at c i).slots ((queue_at c i).size * (queue_at c i).width) x

abbrev pub IsOwnByte : QueueCertificate → (h x : ℕ) → Type 0
IsOwnByte c h x = IsKeptByte c h x ⊎ IsSentByte c h x

abbrev pub field_of : QueueCertificate → (i j : ℕ) → Field
field_of c i j = get_or (fields_at c i) j no_field

-- what is said to be right is so, of each queue with fields of which hart h is the sender
abbrev pub AreFilled : QueueCertificate → (h : ℕ) → List Filled → View → AllCounts → Type 0
AreFilled c h filled m cs = (i : ℕ) → i < length c.queues → HasFields c i → h ≡ (queue_at c i).sender → (d j : ℕ)
    → is_filled (queue_at c i).size (get_or filled i []) d j ≡ true → MeetsField (queue_at c i) ((cs i).published + d) m (field_of c i j)

-- of queues with tags, whose counts are us, the shares are right too
abbrev pub SharesTold : QueueCertificate → (h : ℕ) → List ℕ → KnownState → (us : AllCounts) → Type 0
SharesTold c h xs k us = AreTold (tagged_at c) (length c.tagged) (length c.queues) h xs k us

abbrev pub MeansAll : QueueCertificate → (h : ℕ) → KnownState → HartState → View → (cs us : AllCounts) → Type 0
MeansAll c h k s m cs us = (xs : List ℕ) × MeansAt (queue_at c) (length c.queues) (own_of c h) h xs k s m cs × SharesTold c h xs k us

-- and of a state in which the hart is all that is so
abbrev pub IsAtState : QueueCertificate → (h : ℕ) → HartState → View → (cs us : AllCounts) → Type 0
IsAtState c h s m cs us = s.status ≡ status.Running
    → (n : ℕ) × (n < length (part_of c h).states) × MeansAll c h (state_at c h n).known s m cs us × AreFilled c h (state_at c h n).filled m cs

-- the protocol of slots that tell of the queues with tags
abbrev pub told_beside : QueueCertificate → Beside
told_beside c = record {
  number = length c.tagged;
  queues = λ t. telling (slots_of (tagged_at c t));
  starts = λ t. all_at (tagged_start c t);
}

abbrev pub Opens : (M : ℕ) → OpeningValue → QueueCertificate → Type 0
Opens M o c = OpenQueues M o (length c.queues) (queue_at c) (HasFields c) (MeetsFields c) (start_at c)

abbrev pub Certifies : (M : ℕ) → OpeningValue → QueueCertificate → Type 0
Certifies M o c = IsCertifiedOfQueues M o (length c.queues) (queue_at c) (HasFields c) (MeetsFields c) (told_beside c) (start_at c) (IsOwnByte c) (IsAtState c)

abbrev pub CertifiesLoads : (M : ℕ) → OpeningValue → QueueCertificate → (i : ℕ) → Party → Type 0
CertifiesLoads M o c i p = LoadsAreOwned M o (length c.queues) (queue_at c) (HasFields c) (MeetsFields c) (told_beside c) (IsAtState c) i p

abbrev pub OpensTagged : OpeningValue → QueueCertificate → Type 0
OpensTagged o c = OpenTellers o (length c.tagged) (λ t. slots_of (tagged_at c t)) (λ t. all_at (tagged_start c t))

-- ---- arrows

abbrev pub all_within : (ℕ → Queue) → List (Option ℕ) → List KnownValue → List KnownValue → (List Form) → Bool
all_within queues rs vs [] gs = true
all_within queues rs [] (w ∷ ws) gs = is_within queues rs any (value_by (λ f. substituted f gs) w) && all_within queues rs [] ws gs
all_within queues rs (v ∷ vs) (w ∷ ws) gs = is_within queues rs v (value_by (λ f. substituted f gs) w) && all_within queues rs vs ws gs

abbrev pub is_share : Share → Share → List Form → Bool
is_share s t gs = is_same 0 s.own (substituted t.own gs) && is_same 0 s.owned (substituted t.owned gs)

-- all that state k says, state t says with these forms for its variables
abbrev pub leads_to : (ℕ → Queue) → (N : ℕ) → KnownState → KnownState → List Form → Bool
leads_to queues N k t gs = (k.pc == t.pc) && are_in k.ranges gs t.ranges && all_within queues k.ranges k.registers t.registers gs
    && all_within queues k.ranges k.words t.words gs && all_below N (λ i. is_share (get_or k.shares i no_share) (get_or t.shares i no_share) gs)

-- the same of what is left without variables that can only be 0, and of the shares of T queues with tags
abbrev pub arrow_leads : (ℕ → Queue) → (N T : ℕ) → KnownState → KnownState → List Form → Bool
arrow_leads queues N T k t gs = leads_to queues N (state_by (settled k.ranges) k.ranges k) t (map (settled k.ranges) gs)
    && tags_lead N T (state_by (settled k.ranges) k.ranges k) t (map (settled k.ranges) gs)

-- ---- the records of queue i, which has fields

-- an instruction of its receiver stores nothing to its slots
abbrev pub leaves_slots : QueueCertificate → (i : ℕ) → KnownState → Option Instr → Bool
leaves_slots c i k (Some (Store op rs1 rs2 offset)) =
    is_apart (addresses (queue_at c) k rs1 offset) (store_width op) (queue_at c i).slots ((queue_at c i).size * (queue_at c i).width)
leaves_slots c i k (Some (Amo op rd rs1 rs2 aq rl)) =
    is_apart (exchanged (queue_at c) k rs1) 4 (queue_at c i).slots ((queue_at c i).size * (queue_at c i).width)
leaves_slots c i k other = true

-- what each next state of hart h says to be right is so
abbrev pub arrows_fill : QueueCertificate → (h i : ℕ) → List Arrow → (ℕ → ℕ → Bool) → Bool
arrows_fill c h i [] f = true
arrows_fill c h i (a ∷ arrows) f = are_so (get_or (state_at c h a.to).filled i []) f && arrows_fill c h i arrows f

-- an instruction of its sender, hart h, publishes no record that isn't right
abbrev pub effect_sends : QueueCertificate → (h i : ℕ) → Filled → KnownState → List Arrow → (stored : KnownValue) → Option Effect → Bool
effect_sends c h i ms k arrows v None = false
effect_sends c h i ms k arrows v (Some e) = may_send (queue_at c i).size (fields_at c i) ms e
    && arrows_fill c h i arrows (is_filled_after k.ranges (queue_at c i) (fields_at c i) v ms e)

abbrev pub keeps_records : QueueCertificate → (h i : ℕ) → Option Party → Filled → KnownState → (d : Form) → List Arrow → Option Instr → Bool
keeps_records c h i None ms k d arrows instruction = true
keeps_records c h i (Some the_receiver) ms k d arrows instruction = leaves_slots c i k instruction
keeps_records c h i (Some the_sender) ms k d arrows instruction = effect_sends c h i ms k arrows (value_stored (queue_at c) k instruction)
    (effect_of (queue_at c) (length c.queues) i k d instruction)

-- ---- states

-- each state that may follow leads by its arrow into one of hart h's
module _ (c : QueueCertificate) (h : ℕ) where
  abbrev pub each_leads : List KnownState → List Arrow → Bool
  each_leads [] arrows = true
  each_leads (k ∷ ks) [] = false
  each_leads (k ∷ ks) (a ∷ arrows) = nat_lt a.to (length (part_of c h).states)
      && arrow_leads (queue_at c) (length c.queues) (length c.tagged) k (state_at c h a.to).known a.forms && each_leads ks arrows

  abbrev pub all_lead : Option (List KnownState) → List Arrow → Bool
  all_lead None arrows = false
  all_lead (Some ks) arrows = each_leads ks arrows

module _ (c : QueueCertificate) (h : ℕ) (code : List ℕ) where
  abbrev pub next_states : KnownState → (d : Form) → Option (List KnownState)
  next_states k d = next_told (tagged_at c) (length c.tagged) (queue_at c) (length c.queues) (own_of c) (length c.harts) h k (instruction_at code k.pc)
      (next_received (queue_at c) (fields_at c) (length c.queues) h k (instruction_at code k.pc)
      (follow (queue_at c) (length c.queues) (own_of c) (length c.harts) h k d (instruction_at code k.pc)))

  abbrev pub is_closed : KnownState → Cases → Bool
  is_closed k t = each_leaf (λ k d arrows. all_lead c h (next_states k d) arrows) k t

  -- and of each instruction that it keeps what is said of queue i's records
  abbrev pub keeps_fields : (i : ℕ) → Filled → KnownState → Cases → Bool
  keeps_fields i ms k t = each_leaf (λ k d arrows. keeps_records c h i (party_of (queue_at c i) h) ms k d arrows (instruction_at code k.pc)) k t

  abbrev pub keeps_all_fields : ListedState → Bool
  keeps_all_fields t = all_below (length c.queues) (λ i. (length (fields_at c i) == 0) || keeps_fields i (get_or t.filled i []) t.known t.cases)

-- each load of queue i's slots is of owned ones
module _ (c : QueueCertificate) (code : List ℕ) where
  abbrev pub owns_loads : (i : ℕ) → KnownState → Cases → Bool
  owns_loads i k t = each_leaf (λ k d arrows. loads_owned (queue_at c) k i (instruction_at code k.pc)) k t

  -- and of the slots of queue t with tags, of tags and of owned ones
  abbrev pub owns_rest : (t : ℕ) → KnownState → Cases → Bool
  owns_rest t k cases = each_leaf (λ k d arrows. loads_rest (tagged_at c) (queue_at c) (length c.queues) k t (instruction_at code k.pc)) k cases

-- ---- the opening

abbrev pub is_value : (ℕ → Queue) → List ℕ → KnownValue → ℕ → Bool
is_value queues xs any x = true
is_value queues xs (linear f) x = x == form_value f xs % 2 ^ 32
is_value queues xs (index_for i f) x = x == index_word (queues i) (form_value f xs)
is_value queues xs (signed_for i f) x = x == signed_word (queues i).index_width (index_word (queues i) (form_value f xs))
is_value queues xs (ends_as n f) x = false
is_value queues xs (has_bits m b) x = false

abbrev pub is_at_most : Option ℕ → ℕ → Bool
is_at_most None x = true
is_at_most (Some n) x = nat_le x n

abbrev pub are_in_ranges : List (Option ℕ) → List ℕ → Bool
are_in_ranges [] [] = true
are_in_ranges [] (x ∷ xs) = false
are_in_ranges (r ∷ rs) [] = false
are_in_ranges (r ∷ rs) (x ∷ xs) = is_at_most r x && are_in_ranges rs xs

abbrev pub opens_share : Queue → Option Party → (start : ℕ) → Share → List ℕ → Bool
opens_share q None start s xs = true
opens_share q (Some p) start s xs = (start == form_value s.own xs) && (end q p (all_at start) == form_value s.own xs + form_value s.owned xs)

-- of a queue with tags
abbrev pub opens_told : TaggedQueue → Option Party → (start : ℕ) → Share → List ℕ → Bool
opens_told q None start s xs = true
opens_told q (Some p) start s xs = (start == form_value s.own xs)
    && nat_le (form_value s.own xs + form_value s.owned xs) (owned_end (slots_of q) p (all_at start))

abbrev pub opens_in : OpeningValue → QueueCertificate → (h : ℕ) → HartOpeningValue → KnownState → List ℕ → Bool
opens_in o c h x k xs = are_in_ranges k.ranges xs && (k.pc == 0)
    && all_below (length k.registers) (λ j. is_value (queue_at c) xs (get_or k.registers j any) (slice_index (slice_set x.registers 0 0) j))
    && all_below (length (own_of c h)) (λ j. is_value (queue_at c) xs (get_or k.words j any) (own_number (opening_byte o) (own_at (own_of c h) j)))
    && all_below (length c.queues) (λ i. opens_share (queue_at c i) (party_of (queue_at c i) h) (start_at c i) (get_or k.shares i no_share) xs)

abbrev pub opens_all_told : QueueCertificate → (h : ℕ) → KnownState → List ℕ → Bool
opens_all_told c h k xs = all_below (length c.tagged)
    (λ t. opens_told (tagged_at c t) (party_in (tagged_at c t) h) (tagged_start c t) (get_or k.shares (length c.queues + t) no_share) xs)

-- nothing is right yet
abbrev pub opens_unfilled : QueueCertificate → List Filled → Bool
opens_unfilled c filled = all_below (length c.queues) (λ i. (length (fields_at c i) == 0) || are_so (get_or filled i []) (λ d j. false))

-- ---- queues

abbrev pub are_apart : (a m b n : ℕ) → Bool
are_apart a m b n = nat_le (a + m) b || nat_le (b + n) a

-- it is a queue, whose index tells all in use from none and lies in a word
abbrev pub is_queue : Queue → Bool
is_queue q = not (q.sender == q.receiver) && are_apart q.head q.index_width q.tail q.index_width
    && are_apart q.head q.index_width q.slots (q.size * q.width) && are_apart q.tail q.index_width q.slots (q.size * q.width)
    && nat_le 1 q.size && nat_le q.capacity q.size && nat_le 1 q.modulus && nat_le 1 q.scale && nat_le 1 q.index_width
    && nat_lt (q.base + q.scale * (q.modulus - 1)) (256 ^ q.index_width) && nat_le q.index_width 4 && nat_lt q.capacity q.modulus

abbrev pub opens_empty : OpeningValue → Queue → (start : ℕ) → Bool
opens_empty o q start = (memory_number o [] q.head q.index_width == index_word q start)
    && (memory_number o [] q.tail q.index_width == index_word q start)

-- each slot of a round tells the sender that it is free
abbrev pub opens_free : OpeningValue → TaggedQueue → (start : ℕ) → Bool
opens_free o q start = all_below q.size
    (λ d. tells_by q.size q.codec the_sender (start + d) (memory_number o [] (tag_of (slots_of q) (start + d)) q.tag_width))

-- ---- all of it

abbrev pub accepts_hart : OpeningValue → QueueCertificate → (h : ℕ) → HartOpeningValue → HartPart → Bool
accepts_hart o c h x part = nat_le 32 (length x.registers) && nat_lt part.first (length part.states)
    && opens_in o c h x (state_at c h part.first).known part.numbers && opens_all_told c h (state_at c h part.first).known part.numbers
    && opens_unfilled c (state_at c h part.first).filled
    && all_below (length part.states)
    (λ n. is_closed c h x.code (state_at c h n).known (state_at c h n).cases && keeps_all_fields c h x.code (state_at c h n))

abbrev pub no_hart : HartOpeningValue
no_hart = record { code = []; registers = []; inbox = [] }

abbrev pub accepts : OpeningValue → QueueCertificate → Bool
accepts o c = all_below (length c.queues)
    (λ i. is_queue (queue_at c i) && opens_empty o (queue_at c i) (start_at c i) && list_all (is_field (queue_at c i)) (fields_at c i))
    && all_below (length c.tagged) (λ t. is_tagged (tagged_at c t) && opens_free o (tagged_at c t) (tagged_start c t))
    && all_below (length o.harts) (λ h. accepts_hart o c h (get_or o.harts h no_hart) (part_of c h))

-- in its states the hart loads of queue i's slots only owned ones
abbrev pub accepts_loads : OpeningValue → QueueCertificate → (i h : ℕ) → Bool
accepts_loads o c i h = all_below (length (part_of c h).states)
    (λ n. owns_loads c (get_or o.harts h no_hart).code i (state_at c h n).known (state_at c h n).cases)

-- and of the slots of queue t with tags only tags and owned ones
abbrev pub accepts_rest : OpeningValue → QueueCertificate → (t h : ℕ) → Bool
accepts_rest o c t h = all_below (length (part_of c h).states)
    (λ n. owns_rest c (get_or o.harts h no_hart).code t (state_at c h n).known (state_at c h n).cases)
