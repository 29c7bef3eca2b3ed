-- The first part of a certificate that isn't accepted: of the queues with indices first, then of those with tags, and then of each hart
-- its opening and its states.
use Rattle.std.specs.Prelude.{ℕ, zero, suc, ◌+◌, ◌-◌, ◌*◌, ◌%◌, ◌^◌, ◌==◌, ◌&&◌, ◌||◌, not, nat_le, nat_lt, Bool, true, false}
use Rattle.std.specs.Prelude.{Option, None, Some, List, [], length, get_or}
use Rattle.std.specs.List.{list_all}
use Rattle.std.specs.Option.{option_map}
use Rattle.step_machine.specs.History.{HartOpeningValue, OpeningValue}
use Rattle.queue_certificates.specs.Certificates.{QueueCertificate, queue_at, start_at, fields_at, part_of, state_at, is_closed, owns_loads, opens_in}
use Rattle.queue_certificates.specs.Certificates.{are_apart, no_hart, opens_unfilled, keeps_all_fields, tagged_at, tagged_start, opens_all_told}
use Rattle.queue_certificates.specs.Certificates.{opens_free, owns_rest}
use Rattle.queue_certificates.specs.Fields.{is_field}
use Rattle.queue_layouts.specs.declared.tagged.Codec.{Codec}
use Rattle.queue_layouts.specs.declared.tagged.Codec.TheVariants as codec
use Rattle.queue_layouts.specs.declared.tagged.TaggedQueue.{TaggedQueue}
use Rattle.queue_certificates.specs.Tags.{are_slots, are_apart_from_slots, tells_both}
use Rattle.queue_certificates.specs.RecordFields.{Field}
use Rattle.slot_queue.specs.Queues.{Queue as SlotQueue, index_word}
use Rattle.store_buffers.specs.StoreBuffers.{memory_number}
use Rattle.queue_checker.specs.declared.flaws.QueueFlaw.{QueueFlaw}
use Rattle.queue_checker.specs.declared.flaws.QueueFlaw.TheVariants as flaw
use Rattle.queue_checker.specs.declared.flaws.TaggedFlaw.{TaggedFlaw}
use Rattle.queue_checker.specs.declared.flaws.TaggedFlaw.TheVariants as tag
use Rattle.queue_checker.specs.declared.flaws.Flaw.{Flaw}
use Rattle.queue_checker.specs.declared.flaws.Flaw.TheVariants.{Queue, Tagged, Opening, State}

-- ---- the parts of `accepts`, of `accepts_loads` and of `accepts_rest`

abbrev pub hart_at : OpeningValue → (h : ℕ) → HartOpeningValue
hart_at o h = get_or o.harts h no_hart

abbrev pub opening_holds : OpeningValue → QueueCertificate → (h : ℕ) → Bool
opening_holds o c h = nat_le 32 (length (hart_at o h).registers) && nat_lt (part_of c h).first (length (part_of c h).states)
    && opens_in o c h (hart_at o h) (state_at c h (part_of c h).first).known (part_of c h).numbers
    && opens_all_told c h (state_at c h (part_of c h).first).known (part_of c h).numbers
    && opens_unfilled c (state_at c h (part_of c h).first).filled

abbrev pub state_holds : OpeningValue → QueueCertificate → (h n : ℕ) → Bool
state_holds o c h n = is_closed c h (hart_at o h).code (state_at c h n).known (state_at c h n).cases
    && keeps_all_fields c h (hart_at o h).code (state_at c h n)

abbrev pub loads_hold : OpeningValue → QueueCertificate → (i h n : ℕ) → Bool
loads_hold o c i h n = owns_loads c (hart_at o h).code i (state_at c h n).known (state_at c h n).cases

abbrev pub rest_holds : OpeningValue → QueueCertificate → (t h n : ℕ) → Bool
rest_holds o c t h n = owns_rest c (hart_at o h).code t (state_at c h n).known (state_at c h n).cases

-- ---- the first that doesn't hold

-- what a finds, and else what b does
abbrev pub first_of : {A : Type 0} → Option A → Option A → Option A
first_of None b = b
first_of (Some a) b = Some a

-- what is found at the least number below n at which something is
abbrev pub first_below : {A : Type 0} → ℕ → (ℕ → Option A) → Option A
first_below zero f = None
first_below (suc n) f = first_of (first_below n f) (f n)

abbrev pub unless : {A : Type 0} → Bool → A → Option A
unless true a = None
unless false a = Some a

-- the first of two that doesn't hold
infixl 4 ◌<|>◌
abbrev pub ◌<|>◌ : {A : Type 0} → Option A → Option A → Option A
a <|> b = first_of a b

-- what of `is_queue` doesn't hold: of the queue's harts and places, of its numbers, and of its indices
abbrev pub place_flaw : SlotQueue → Option QueueFlaw
place_flaw q = unless (not (q.sender == q.receiver)) flaw.OneHart
    <|> unless (are_apart q.head q.index_width q.tail q.index_width) flaw.IndicesMeet
    <|> unless (are_apart q.head q.index_width q.slots (q.size * q.width)) flaw.IndexMeetsSlots
    <|> unless (are_apart q.tail q.index_width q.slots (q.size * q.width)) flaw.IndexMeetsSlots

abbrev pub number_flaw : SlotQueue → Option QueueFlaw
number_flaw q = unless (nat_le 1 q.size) flaw.NoSlot
    <|> unless (nat_le q.capacity q.size) flaw.FewSlots
    <|> unless (nat_le 1 q.modulus) flaw.NoCounts
    <|> unless (nat_le 1 q.scale) flaw.NoCounts

abbrev pub index_flaw : SlotQueue → Option QueueFlaw
index_flaw q = unless (nat_le 1 q.index_width) flaw.NoIndex
    <|> unless (nat_lt (q.base + q.scale * (q.modulus - 1)) (256 ^ q.index_width)) flaw.WideIndex
    <|> unless (nat_le q.index_width 4) flaw.WideIndex
    <|> unless (nat_lt q.capacity q.modulus) flaw.FewCounts

abbrev pub shape_flaw : SlotQueue → Option QueueFlaw
shape_flaw q = place_flaw q <|> number_flaw q <|> index_flaw q

-- and what of `opens_empty`
abbrev pub opening_flaw : OpeningValue → SlotQueue → (start : ℕ) → Option QueueFlaw
opening_flaw o q start = unless (memory_number o [] q.head q.index_width == index_word q start) flaw.Head
    <|> unless (memory_number o [] q.tail q.index_width == index_word q start) flaw.Tail

-- and what is said of its records
abbrev pub field_flaw : SlotQueue → List Field → Option QueueFlaw
field_flaw q fs = unless (list_all (is_field q) fs) flaw.WideField

abbrev pub queue_flaw : OpeningValue → QueueCertificate → (i : ℕ) → Option QueueFlaw
queue_flaw o c i = shape_flaw (queue_at c i) <|> opening_flaw o (queue_at c i) (start_at c i) <|> field_flaw (queue_at c i) (fields_at c i)

abbrev pub flaw_of_queue : OpeningValue → QueueCertificate → (i : ℕ) → Option Flaw
flaw_of_queue o c i = option_map (λ why. Queue i why) (queue_flaw o c i)

-- what of `is_tagged` doesn't hold: of the queue's harts and its slots, and of how its tags tell
abbrev pub codec_flaw : TaggedQueue → Codec → Option TaggedFlaw
codec_flaw q codec.Zero = None
codec_flaw q codec.Number = unless (q.tag_width == 4) tag.NarrowNumber <|> unless (not (q.size % 2 ^ 32 == 1)) tag.SameNumbers
codec_flaw q (codec.Bit mask free full) = unless (nat_lt mask (256 ^ q.tag_width)) tag.WideMask <|> unless (not (free == full)) tag.SameBits
codec_flaw q (codec.Phases mask free full odd_free odd_full) = unless (nat_lt mask (256 ^ q.tag_width)) tag.WideMask
    <|> unless (not (free == full)) tag.SameBits <|> unless (not (full == odd_free)) tag.SameBits <|> unless (not (odd_free == odd_full)) tag.SameBits
    <|> unless (not (odd_full == free)) tag.SameBits

abbrev pub tag_flaw : TaggedQueue → Option TaggedFlaw
tag_flaw q = unless (not (q.sender == q.receiver)) tag.OneHart
    <|> unless (nat_le 1 q.size) tag.NoSlot
    <|> unless (nat_le 1 q.tag_width) tag.NoTag
    <|> unless (nat_le q.tag_width 4) tag.WideTag
    <|> unless (nat_le (q.tag_offset + q.tag_width) q.tag_stride) tag.PastSlot
    <|> unless (are_slots q || are_apart_from_slots q) tag.Overlapping
    <|> codec_flaw q q.codec
    <|> unless (tells_both q.codec) tag.OutsideMask

abbrev pub tagged_flaw : OpeningValue → QueueCertificate → (t : ℕ) → Option TaggedFlaw
tagged_flaw o c t = tag_flaw (tagged_at c t) <|> unless (opens_free o (tagged_at c t) (tagged_start c t)) tag.NotFree

abbrev pub flaw_of_tagged : OpeningValue → QueueCertificate → (t : ℕ) → Option Flaw
flaw_of_tagged o c t = option_map (λ why. Tagged t why) (tagged_flaw o c t)

abbrev pub hart_flaw : OpeningValue → QueueCertificate → (h : ℕ) → Option Flaw
hart_flaw o c h = first_of (unless (opening_holds o c h) (Opening h))
    (first_below (length (part_of c h).states) (λ n. unless (state_holds o c h n) (State h n)))

abbrev pub first_flaw : OpeningValue → QueueCertificate → Option Flaw
first_flaw o c = first_below (length c.queues) (flaw_of_queue o c)
    <|> first_below (length c.tagged) (flaw_of_tagged o c)
    <|> first_below (length o.harts) (hart_flaw o c)

-- the first state of hart h with a load of queue i's slots that isn't shown to be of an owned one
abbrev pub first_unowned : OpeningValue → QueueCertificate → (i h : ℕ) → Option ℕ
first_unowned o c i h = first_below (length (part_of c h).states) (λ n. unless (loads_hold o c i h n) n)

-- and the first with a load of the slots of queue t with tags that isn't shown to be of a tag or of an owned one
abbrev pub first_unowned_rest : OpeningValue → QueueCertificate → (t h : ℕ) → Option ℕ
first_unowned_rest o c t h = first_below (length (part_of c h).states) (λ n. unless (rest_holds o c t h n) n)
