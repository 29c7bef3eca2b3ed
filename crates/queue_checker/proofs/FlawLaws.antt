-- Nothing is found exactly where all holds.
use Rattle.std.specs.Prelude.{ℕ, zero, suc, ◌≡◌, ◌+◌, ◌-◌, ◌*◌, ◌%◌, ◌^◌, ◌==◌, ◌&&◌, ◌||◌, ◌↔◌, not, nat_le, nat_lt, Bool, true, false, Option, None, Some, []}
use Rattle.std.specs.Prelude.{length, get_or, refl}
use Rattle.std.specs.List.{list_all}
use Rattle.std.specs.Option.{option_map}
use Rattle.std.proofs.Common.{sym, ap, subst, ◌∙◌}
use Rattle.std.proofs.lemmas.Bool.{and_parts}
use Rattle.slot_queue.specs.Queues.{Queue as SlotQueue, index_word}
use Rattle.store_buffers.specs.StoreBuffers.{memory_number}
use Rattle.step_machine.specs.History.{OpeningValue}
use Rattle.queue_certificates.specs.{all_below, QueueCertificate, queue_at, start_at, fields_at, part_of, accepts, accepts_loads, accepts_hart, no_hart}
use Rattle.queue_certificates.specs.{tagged_at, tagged_start, opens_free, accepts_rest, are_apart, is_queue, opens_empty, are_slots, are_apart_from_slots}
use Rattle.queue_certificates.specs.{is_tagged, is_codec, tells_both, is_field}
use Rattle.queue_layouts.specs.declared.tagged.Codec.{Codec}
use Rattle.queue_layouts.specs.declared.tagged.Codec.TheVariants as codec
use Rattle.queue_layouts.specs.declared.tagged.TaggedQueue.{TaggedQueue}
use Rattle.queue_checker.specs.declared.flaws.Flaw.TheVariants.{Queue, Tagged, Opening, State}
use Rattle.queue_checker.specs.declared.flaws.QueueFlaw.TheVariants as flaw
use Rattle.queue_checker.specs.declared.flaws.TaggedFlaw.TheVariants as tag
use Rattle.queue_checker.specs.Flaws.{opening_holds, state_holds, loads_hold, first_of, first_below, unless, hart_flaw, first_flaw, first_unowned, shape_flaw}
use Rattle.queue_checker.specs.Flaws.{queue_flaw, flaw_of_queue, rest_holds, codec_flaw, tag_flaw, tagged_flaw, flaw_of_tagged, first_unowned_rest}

-- x is nothing exactly where b holds
pub record IsSame {A : Type 0} (b : Bool) (x : Option A) : Type 0 where
  pub empty : x ≡ None → b ≡ true
  pub holds : b ≡ true → x ≡ None

pub same-unless : {A : Type 0} (b : Bool) (a : A) → IsSame b (unless b a)
same-unless true a = record { empty = λ e. refl; holds = λ e. refl }
same-unless false a = record { empty = λ e. cc; holds = λ e. cc }

same-first_of : {A : Type 0} (p q : Bool) (a b : Option A) → IsSame p a → IsSame q b → IsSame (p && q) (first_of a b)
same-first_of true q None b s t = t
same-first_of false q None b s t = let e : false ≡ true = s.empty refl in record { empty = λ _. cc; holds = λ _. cc }
same-first_of true q (Some x) b s t = let e : Some x ≡ None = s.holds refl in record { empty = λ _. cc; holds = λ _. cc }
same-first_of false q (Some x) b s t = record { empty = λ e. cc; holds = λ e. cc }

-- the other way round
same-first_of_last : {A : Type 0} (p q : Bool) (a b : Option A) → IsSame p a → IsSame q b → IsSame (q && p) (first_of a b)
same-first_of_last true true None b s t = t
same-first_of_last true false None b s t = t
same-first_of_last false true None b s t = let e : false ≡ true = s.empty refl in record { empty = λ _. cc; holds = λ _. cc }
same-first_of_last false false None b s t = let e : false ≡ true = s.empty refl in record { empty = λ _. cc; holds = λ _. cc }
same-first_of_last true q (Some x) b s t = let e : Some x ≡ None = s.holds refl in record { empty = λ _. cc; holds = λ _. cc }
same-first_of_last false true (Some x) b s t = record { empty = λ e. cc; holds = λ e. cc }
same-first_of_last false false (Some x) b s t = record { empty = λ e. cc; holds = λ e. cc }

pub same-below : {A : Type 0} (n : ℕ) (p : ℕ → Bool) (f : ℕ → Option A) → ((i : ℕ) → IsSame (p i) (f i)) → IsSame (all_below n p) (first_below n f)
same-below zero p f each = record { empty = λ e. refl; holds = λ e. refl }
same-below (suc n) p f each = same-first_of_last (all_below n p) (p n) (first_below n f) (f n) (same-below n p f each) (each n)

same-hart : (o : OpeningValue) (c : QueueCertificate) (h : ℕ) → IsSame (accepts_hart o c h (get_or o.harts h no_hart) (part_of c h)) (hart_flaw o c h)
same-hart o c h = same-first_of (opening_holds o c h) (all_below (length (part_of c h).states) (state_holds o c h)) _ _
    (same-unless (opening_holds o c h) (Opening h))
    (same-below _ (state_holds o c h) _ (λ n. same-unless (state_holds o c h n) (State h n)))

-- ---- queues

four : {A : Type 0} (p q r s : Bool) (a b c d : A)
    → IsSame (p && q && r && s) (first_of (first_of (first_of (unless p a) (unless q b)) (unless r c)) (unless s d))
four p q r s a b c d = same-first_of (p && q && r) s _ _
    (same-first_of (p && q) r _ _ (same-first_of p q _ _ (same-unless p a) (same-unless q b)) (same-unless r c)) (same-unless s d)

same-map : {A B : Type 0} (f : A → B) (b : Bool) (x : Option A) → IsSame b x → IsSame b (option_map f x)
same-map f b None s = record { empty = λ e. s.empty refl; holds = λ e. refl }
same-map f b (Some x) s = record { empty = λ e. cc; holds = λ e. let none = s.holds e in cc }

regrouped : (x p q r s : Bool) → (x && p && q && r && s) ≡ (x && (p && q && r && s))
regrouped true p q r s = refl
regrouped false p q r s = refl

-- the parts of `is_queue`, one for each kind of flaw
abbrev places : SlotQueue → Bool
places q = not (q.sender == q.receiver) && are_apart q.head q.index_width q.tail q.index_width
    && are_apart q.head q.index_width q.slots (q.size * q.width) && are_apart q.tail q.index_width q.slots (q.size * q.width)

abbrev numbers : SlotQueue → Bool
numbers q = nat_le 1 q.size && nat_le q.capacity q.size && nat_le 1 q.modulus && nat_le 1 q.scale

abbrev fits : SlotQueue → Bool
fits q = nat_lt (q.base + q.scale * (q.modulus - 1)) (256 ^ q.index_width)

abbrev indices : SlotQueue → Bool
indices q = nat_le 1 q.index_width && fits q && nat_le q.index_width 4 && nat_lt q.capacity q.modulus

is_queue-regrouped : (q : SlotQueue) → is_queue q ≡ (places q && numbers q && indices q)
is_queue-regrouped q =
    regrouped (places q && nat_le 1 q.size && nat_le q.capacity q.size && nat_le 1 q.modulus && nat_le 1 q.scale) (nat_le 1 q.index_width) (fits q)
    (nat_le q.index_width 4) (nat_lt q.capacity q.modulus)
    ∙ ap (λ (b : Bool). b && indices q) (regrouped (places q) (nat_le 1 q.size) (nat_le q.capacity q.size) (nat_le 1 q.modulus) (nat_le 1 q.scale))

same-shape : (q : SlotQueue) → IsSame (is_queue q) (shape_flaw q)
same-shape q = subst (λ (b : Bool). IsSame b (shape_flaw q)) (sym (is_queue-regrouped q))
    (same-first_of (places q && numbers q) (indices q) _ _ (same-first_of (places q) (numbers q) _ _
    (four (not (q.sender == q.receiver)) (are_apart q.head q.index_width q.tail q.index_width) (are_apart q.head q.index_width q.slots (q.size * q.width))
    (are_apart q.tail q.index_width q.slots (q.size * q.width)) flaw.OneHart flaw.IndicesMeet flaw.IndexMeetsSlots flaw.IndexMeetsSlots)
    (four (nat_le 1 q.size) (nat_le q.capacity q.size) (nat_le 1 q.modulus) (nat_le 1 q.scale) flaw.NoSlot flaw.FewSlots flaw.NoCounts flaw.NoCounts))
    (four (nat_le 1 q.index_width) (fits q) (nat_le q.index_width 4) (nat_lt q.capacity q.modulus) flaw.NoIndex flaw.WideIndex flaw.WideIndex flaw.FewCounts))

same-queue : (o : OpeningValue) (c : QueueCertificate) (i : ℕ)
    → IsSame (is_queue (queue_at c i) && opens_empty o (queue_at c i) (start_at c i) && list_all (is_field (queue_at c i)) (fields_at c i))
    (flaw_of_queue o c i)
same-queue o c i =
    let q = queue_at c i in
    let word = index_word q (start_at c i) in
    same-map (λ why. Queue i why) (is_queue q && opens_empty o q (start_at c i) && list_all (is_field q) (fields_at c i)) (queue_flaw o c i)
    (same-first_of (is_queue q && opens_empty o q (start_at c i)) (list_all (is_field q) (fields_at c i)) _ _
    (same-first_of (is_queue q) (opens_empty o q (start_at c i)) _ _ (same-shape q)
    (same-first_of (memory_number o [] q.head q.index_width == word) (memory_number o [] q.tail q.index_width == word) _ _
    (same-unless (memory_number o [] q.head q.index_width == word) flaw.Head) (same-unless (memory_number o [] q.tail q.index_width == word) flaw.Tail)))
    (same-unless (list_all (is_field q) (fields_at c i)) flaw.WideField))

pub no_queue_flaw : (o : OpeningValue) (c : QueueCertificate) (i : ℕ) → flaw_of_queue o c i ≡ None
    → (is_queue (queue_at c i) && opens_empty o (queue_at c i) (start_at c i)) ≡ true
no_queue_flaw o c i none = (and_parts (is_queue (queue_at c i) && opens_empty o (queue_at c i) (start_at c i))
    (list_all (is_field (queue_at c i)) (fields_at c i)) ((same-queue o c i).empty none)).0

-- ---- queues with tags

same-codec : (q : TaggedQueue) (way : Codec) → IsSame (is_codec q way) (codec_flaw q way)
same-codec q codec.Zero = record { empty = λ e. refl; holds = λ e. refl }
same-codec q codec.Number = same-first_of (q.tag_width == 4) (not (q.size % 2 ^ 32 == 1)) _ _
    (same-unless (q.tag_width == 4) tag.NarrowNumber) (same-unless (not (q.size % 2 ^ 32 == 1)) tag.SameNumbers)
same-codec q (codec.Bit mask free full) = same-first_of (nat_lt mask (256 ^ q.tag_width)) (not (free == full)) _ _
    (same-unless (nat_lt mask (256 ^ q.tag_width)) tag.WideMask) (same-unless (not (free == full)) tag.SameBits)
same-codec q (codec.Phases mask free full odd_free odd_full) =
    let fits = nat_lt mask (256 ^ q.tag_width) in
    same-first_of (fits && not (free == full) && not (full == odd_free) && not (odd_free == odd_full)) (not (odd_full == free)) _ _
    (four fits (not (free == full)) (not (full == odd_free)) (not (odd_free == odd_full)) tag.WideMask tag.SameBits tag.SameBits tag.SameBits)
    (same-unless (not (odd_full == free)) tag.SameBits)

same-tag : (q : TaggedQueue) → IsSame (is_tagged q) (tag_flaw q)
same-tag q =
    let harts = not (q.sender == q.receiver) in
    let some = nat_le 1 q.size in
    let a_byte = nat_le 1 q.tag_width in
    let a_word = nat_le q.tag_width 4 in
    let within = nat_le (q.tag_offset + q.tag_width) q.tag_stride in
    let lie = are_slots q || are_apart_from_slots q in
    let tells = is_codec q q.codec in
    same-first_of (harts && some && a_byte && a_word && within && lie && tells) (tells_both q.codec) _ _
    (same-first_of (harts && some && a_byte && a_word && within && lie) tells _ _
    (same-first_of (harts && some && a_byte && a_word && within) lie _ _ (same-first_of (harts && some && a_byte && a_word) within _ _
    (four harts some a_byte a_word tag.OneHart tag.NoSlot tag.NoTag tag.WideTag) (same-unless within tag.PastSlot)) (same-unless lie tag.Overlapping))
    (same-codec q q.codec)) (same-unless (tells_both q.codec) tag.OutsideMask)

same-tagged : (o : OpeningValue) (c : QueueCertificate) (t : ℕ)
    → IsSame (is_tagged (tagged_at c t) && opens_free o (tagged_at c t) (tagged_start c t)) (flaw_of_tagged o c t)
same-tagged o c t =
    let free = opens_free o (tagged_at c t) (tagged_start c t) in
    same-map (λ why. Tagged t why) (is_tagged (tagged_at c t) && free) (tagged_flaw o c t)
    (same-first_of (is_tagged (tagged_at c t)) free _ _ (same-tag (tagged_at c t)) (same-unless free tag.NotFree))

-- ---- all of it

abbrev queue_holds : OpeningValue → QueueCertificate → (i : ℕ) → Bool
queue_holds o c i = is_queue (queue_at c i) && opens_empty o (queue_at c i) (start_at c i) && list_all (is_field (queue_at c i)) (fields_at c i)

abbrev tagged_holds : OpeningValue → QueueCertificate → (t : ℕ) → Bool
tagged_holds o c t = is_tagged (tagged_at c t) && opens_free o (tagged_at c t) (tagged_start c t)

same-flaw : (o : OpeningValue) (c : QueueCertificate) → IsSame (accepts o c) (first_flaw o c)
same-flaw o c = same-first_of (all_below (length c.queues) (queue_holds o c) && all_below (length c.tagged) (tagged_holds o c)) _ _ _
    (same-first_of (all_below (length c.queues) (queue_holds o c)) (all_below (length c.tagged) (tagged_holds o c)) _ _
    (same-below _ (queue_holds o c) _ (same-queue o c)) (same-below _ (tagged_holds o c) _ (same-tagged o c)))
    (same-below _ (λ h. accepts_hart o c h (get_or o.harts h no_hart) (part_of c h)) _ (same-hart o c))

pub no_flaw : (o : OpeningValue) (c : QueueCertificate) → (first_flaw o c ≡ None) ↔ (accepts o c ≡ true)
no_flaw o c = ((same-flaw o c).empty, (same-flaw o c).holds)

pub all_owned : (o : OpeningValue) (c : QueueCertificate) (i h : ℕ) → (first_unowned o c i h ≡ None) ↔ (accepts_loads o c i h ≡ true)
all_owned o c i h = let s = same-below _ (loads_hold o c i h) _ (λ n. same-unless (loads_hold o c i h n) n) in (s.empty, s.holds)

pub all_rest : (o : OpeningValue) (c : QueueCertificate) (t h : ℕ) → (first_unowned_rest o c t h ≡ None) ↔ (accepts_rest o c t h ≡ true)
all_rest o c t h = let s = same-below _ (rest_holds o c t h) _ (λ n. same-unless (rest_holds o c t h n) n) in (s.empty, s.holds)
