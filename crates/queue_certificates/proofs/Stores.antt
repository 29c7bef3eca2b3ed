-- What single stores of a hart come to.
use Rattle.std.proofs.Common.{ℕ, ◌+◌, ◌-◌, ◌*◌, ◌/◌, ◌%◌, ◌^◌, ◌<◌, ◌≤◌, ◌≡◌, ◌&&◌, inl, inr, if◌then◌else◌, Bool, true, false, Option, Some, None, List, refl}
use Rattle.std.proofs.Common.{sym, ◌∙◌, ap, subst, arith}
use Rattle.std.specs.Prelude.{nat_lt, nat_le}
use Rattle.std.specs.Int.{byte_at}
use Rattle.std.proofs.lemmas.Bool.{and_parts, or_cases, ltb-true, leb-true}
use Rattle.std.proofs.Math.Nat.{mod-eq_of_lt, mod-lt}
use Rattle.rv_decode.specs.declared.instruction.StoreOp.{StoreOp}
use Rattle.rv_decode.specs.declared.instruction.StoreOp.TheVariants as store_op
use Rattle.hart.specs.Effects.{stored, store_width}
use Rattle.memory.specs.declared.writes.Write.{Write}
use Rattle.memory.specs.Writes.{write, covers, byte_after}
use Rattle.memory.proofs.Bytes.{joined-same, covers-yes, covers-from}
use Rattle.memory.proofs.Joined.{joined-bytes}
use Rattle.step_machine.specs.Access.{store}
use Rattle.slot_queue.specs.{Queue, IsQueue, KeepsOff, index_word, slot_of, index, end, moved, FillsOwned, KeepsAccess, after_access}
use Rattle.queue_parties.specs.{IsInBytes, Party, the_sender, the_receiver, QueueCounts, count, with_count}
use Rattle.queue_parties.proofs.Parties.{count-set}
use Rattle.queue_parties.proofs.Positions.{end-set-count}
use Rattle.queue_certificates.specs.{View, number_seen, view_then, OwnsSlotsOf, Form, form_value, number, plus, times, minus, is_same, most, fits_in, remainder}
use Rattle.queue_certificates.specs.{InRanges, Bounds, KnownValue, linear, Share, Has, HasShare, is_apart}
use Rattle.queue_certificates.specs.{is_off, position_at, offset_at, is_slot, is_owned, moved_share}
use Rattle.queue_certificates.proofs.OwnedAccesses.{moves, fills, off, loads_owned}
use Rattle.queue_certificates.proofs.Bounds.{value-below, fits-below, value-remainder}
use Rattle.queue_certificates.proofs.Forms.{value-plus, value-times, value-number, same-value, same-exactly}
use Rattle.queue_certificates.proofs.Values.{within}
use Rattle.queue_certificates.proofs.States.{kept-number}

-- ---- bytes

-- of bytes from somewhere among these addresses on that meet none of those others
pub apart-none : (b : Bounds) (a width from count x : ℕ) → is_apart b width from count ≡ true → b.low ≤ a → a ≤ b.high → IsInBytes a width x
    → IsInBytes from count x → ⊥
apart-none b a width from count x ok low high within there = elim (or_cases (nat_le (b.high + width) from) (nat_le (from + count) b.low) ok) [
  | inl under ↦ (let u : b.high + width ≤ from = leb-true (b.high + width) from under in omega (arith, u, high, within.1, there.0))
  | inr over ↦ (let u : from + count ≤ b.low = leb-true (from + count) b.low over in omega (arith, u, low, within.0, there.1))
]

pub apart-from : (b : Bounds) (width a from count x v : ℕ) → is_apart b width from count ≡ true → b.low ≤ a → a ≤ b.high → from ≤ x → x < from + count
    → covers (write a width v) x ≡ false
apart-from b width a from count x v ok low high above below = by (covers (write a width v) x) refl
  where
    by : (t : Bool) → covers (write a width v) x ≡ t → t ≡ false
    by false is = refl
    by true on = absurd (apart-none b a width from count x ok low high (covers-from (write a width v) x on) (above, below))

-- the number that is seen where it was written, by a view in which it was, and of bytes that are the same in both views
pub written-number : (m n : View) (a width v : ℕ) → ((x : ℕ) → n x ≡ byte_after (write a width v) x (m x)) → number_seen n a width ≡ v % 256 ^ width
written-number m n a width v after = joined-same (λ i. n (a + i)) (λ i. byte_at i v) width same ∙ joined-bytes v width
  where
    same : (i : ℕ) → i < width → n (a + i) ≡ byte_at i v
    same i less =
        let on : covers (write a width v) (a + i) ≡ true = covers-yes (write a width v) (a + i) (omega arith) (omega (arith, less)) in
        after (a + i) ∙ ap (λ c. if c then byte_at (a + i - a) v else m (a + i)) on ∙ ap (λ j. byte_at j v) (omega arith)

pub left-number : (m : View) (w : Write) (a width : ℕ) → ((x : ℕ) → a ≤ x → x < a + width → covers w x ≡ false)
    → number_seen (view_then (store w) m) a width ≡ number_seen m a width
left-number m w a width leaves = kept-number m (view_then (store w) m) a width
    (λ x from to. ap (λ c. if c then byte_at (x - w.addr) w.value else m x) (leaves x from to))

pub stored-whole : (op : StoreOp) (x : ℕ) → x < 256 ^ store_width op → stored op x ≡ x
stored-whole store_op.Byte x small = mod-eq_of_lt (omega (arith, small))
stored-whole store_op.Half x small = mod-eq_of_lt (omega (arith, small))
stored-whole store_op.Word x small = refl

-- the bytes that are stored of a number's word are that number's
pub stored-low : (op : StoreOp) (x g : ℕ) → x ≡ g % 2 ^ 32 → stored op x ≡ g % 256 ^ store_width op
stored-low store_op.Byte x g is = omega (arith, is)
stored-low store_op.Half x g is = omega (arith, is)
stored-low store_op.Word x g is = is

pub width-divides : (op : StoreOp) → 2 ^ 32 % 256 ^ store_width op ≡ 0
width-divides store_op.Byte = refl
width-divides store_op.Half = refl
width-divides store_op.Word = refl

pub stored-part : (op : StoreOp) (x : ℕ) → stored op x % 256 ^ store_width op ≡ x % 256 ^ store_width op
stored-part store_op.Byte x = omega arith
stored-part store_op.Half x = omega arith
stored-part store_op.Word x = refl

pub keeps-off : (q : Queue) (b : Bounds) (width a v : ℕ) → is_off q b width ≡ true → b.low ≤ a → a ≤ b.high → KeepsOff q (write a width v)
keeps-off q b width a v ok low high x on =
    let p = and_parts (is_apart b width q.head q.index_width && is_apart b width q.tail q.index_width) (is_apart b width q.slots (q.size * q.width)) ok in
    let f = and_parts (is_apart b width q.head q.index_width) (is_apart b width q.tail q.index_width) p.0 in record {
      head = λ in'. clash (apart-from b width a q.head q.index_width x v f.0 low high in'.0 in'.1);
      tail = λ in'. clash (apart-from b width a q.tail q.index_width x v f.1 low high in'.0 in'.1);
      slots = λ in'. clash (apart-from b width a q.slots (q.size * q.width) x v p.1 low high in'.0 in'.1);
    }
  where
    clash : covers (write a width v) x ≡ false → ⊥
    clash not = (let no : true ≡ false = sym on ∙ not in cc)

-- a load beside the slots
pub off-slots : (q : Queue) (p : Party) (c : QueueCounts) (b : Bounds) (width a : ℕ)
    → is_apart b width q.slots (q.size * q.width) ≡ true → b.low ≤ a → a ≤ b.high → OwnsSlotsOf q p c a width
off-slots q p c b width a ok low high x within slots =
    absurd (apart-none b a width q.slots (q.size * q.width) x ok low high within slots)

-- ---- the slot of a form

-- it is of the slot of the position so much further than the own count, this far into it
pub slot-place : (q : Queue) (rs : List (Option ℕ)) (xs : List ℕ) → InRanges rs xs → (own f : Form) (n j offset a : ℕ)
    → n ≡ form_value own xs → a ≡ form_value f xs % 2 ^ 32
    → is_slot rs q f offset (remainder rs (plus own (number j)) q.size) ≡ true → a ≡ slot_of q (n + j) + offset
slot-place q rs xs ranges own f n j offset a counts at ok = by (remainder rs (plus own (number j)) q.size) refl ok
  where
    by : (o : Option Form) → remainder rs (plus own (number j)) q.size ≡ o → is_slot rs q f offset o ≡ true → a ≡ slot_of q (n + j) + offset
    by None is ok = absurd (cc)
    by (Some g) is ok =
        let p = and_parts (is_same (2 ^ 32) f (plus (times q.width g) (number (q.slots + offset))))
        (fits_in (most rs (plus (times q.width g) (number (q.slots + offset)))) (Some (2 ^ 32 - 1))) ok in
        let r = value-remainder rs (plus own (number j)) q.size g xs ranges is in
        let sum : form_value (plus own (number j)) xs ≡ n + j =
        value-plus own (number j) xs ∙ ap (λ m. form_value own xs + m) (value-number j xs) ∙ ap (λ m. m + j) (sym counts) in
        let slot : slot_of q (n + j) ≡ q.slots + q.width * form_value g xs =
        ap (λ m. q.slots + q.width * m) (ap (λ m. m % q.size) (sym sum) ∙ sym r.0) in
        let whole : form_value (plus (times q.width g) (number (q.slots + offset))) xs ≡ q.width * form_value g xs + (q.slots + offset) =
        value-plus (times q.width g) (number (q.slots + offset)) xs
        ∙ ap (λ m. m + form_value (number (q.slots + offset)) xs) (value-times q.width g xs)
        ∙ ap (λ m. q.width * form_value g xs + m) (value-number (q.slots + offset) xs) in
        let small : form_value (plus (times q.width g) (number (q.slots + offset))) xs ≤ 2 ^ 32 - 1 =
        fits-below (most rs (plus (times q.width g) (number (q.slots + offset)))) (Some (2 ^ 32 - 1))
        (form_value (plus (times q.width g) (number (q.slots + offset))) xs) p.1
        (λ m most. value-below rs (plus (times q.width g) (number (q.slots + offset))) xs m ranges most) in
        let there : a ≡ form_value (plus (times q.width g) (number (q.slots + offset))) xs =
        at ∙ same-value (2 ^ 32) f (plus (times q.width g) (number (q.slots + offset))) xs p.0 ∙ mod-eq_of_lt (omega (arith, small)) in
        omega (arith, slot, there, whole)

pub position-near : (q : Queue) → 1 ≤ q.size → (own a : ℕ) → position_at q own a < q.size
position-near q some own a = mod-lt ((a % 2 ^ 32 - q.slots) / q.width + (q.size - own % q.size)) some

-- ---- what a store makes of a share

pub same-count : (p : Party) (c : QueueCounts) (n : ℕ) → n ≡ count p c → with_count p n c ≡ c
same-count the_sender c n same = ap (λ k. with_count the_sender k c) same
same-count the_receiver c n same = ap (λ k. with_count the_receiver k c) same

module _ (q : Queue) (is : IsQueue q) (p : Party) (c : QueueCounts) (xs : List ℕ) (s : Share) (has : HasShare q p c xs s) where
  -- a position whose slot has these bytes
  pub record Owned (a width : ℕ) : Type 0 where
    pub position : ℕ
    pub from : count p c ≤ position
    pub before : position < end q p c
    pub low : slot_of q position ≤ a
    pub high : a + width ≤ slot_of q position + q.width

  module _ (queues : ℕ → Queue) (rs : List (Option ℕ)) (ranges : InRanges rs xs) where
    -- of a form: of which owned position the bytes are, and how far into its slot they begin
    pub record Placed (f : Form) (a width : ℕ) : Type 0 where
      pub place : a ≡ slot_of q (count p c + position_at q s.own.constant f.constant) + offset_at q f.constant
      pub before : count p c + position_at q s.own.constant f.constant < end q p c
      pub near : position_at q s.own.constant f.constant < q.size
      pub fits : offset_at q f.constant + width ≤ q.width

    pub placed-at : (f : Form) (a width : ℕ) → Has queues xs (linear f) a → is_owned rs q s (linear f) width ≡ true → Placed f a width
    placed-at f a width at ok =
        let p2 = and_parts (nat_lt (position_at q s.own.constant f.constant) s.owned.constant && nat_le (offset_at q f.constant + width) q.width)
        (is_slot rs q f (offset_at q f.constant) (remainder rs (plus s.own (number (position_at q s.own.constant f.constant))) q.size)) ok in
        let p1 = and_parts (nat_lt (position_at q s.own.constant f.constant) s.owned.constant) (nat_le (offset_at q f.constant + width) q.width) p2.0 in
        let less : position_at q s.own.constant f.constant < s.owned.constant = ltb-true (position_at q s.own.constant f.constant) s.owned.constant p1.0 in
        record {
          place = slot-place q rs xs ranges s.own f (count p c) (position_at q s.own.constant f.constant) (offset_at q f.constant) a has.own at p2.1;
          before = omega (arith, has.own, has.upto, less);
          near = position-near q is.some s.own.constant f.constant;
          fits = leb-true (offset_at q f.constant + width) q.width p1.1;
        }

    pub owned-at : (place : KnownValue) (a width : ℕ) → Has queues xs place a → is_owned rs q s place width ≡ true → Owned a width
    owned-at (linear f) a width at ok = (let there = placed-at f a width at ok in record {
      position = count p c + position_at q s.own.constant f.constant;
      from = omega arith;
      before = there.before;
      low = omega (arith, there.place);
      high = omega (arith, there.place, there.fits);
    })
    owned-at other a width at ok = absurd (cc)

    pub owned-slots : (place : KnownValue) (a width : ℕ) → Has queues xs place a → is_owned rs q s place width ≡ true → OwnsSlotsOf q p c a width
    owned-slots place a width at ok = let o = owned-at place a width at ok in loads_owned q is p c a width o.position o.from o.before o.low o.high

  pub record Stored (w : Write) (t : Share) : Type 0 where
    pub may : KeepsAccess q (Some p) c (store w)
    pub share : HasShare q p (after_access q (Some p) (store w) c) xs t

  stays : (w : Write) → FillsOwned q p c w × (moved q p (count p c) w ≡ count p c) → Stored w s
  stays w f = record {
    may = inr f.0;
    share = subst (λ d. HasShare q p d xs s) (sym (same-count p c (moved q p (count p c) w) f.1)) has;
  }

  pub stays-off : (w : Write) → KeepsOff q w → Stored w s
  stays-off w keeps = stays w (off q is p c w keeps)

  pub stays-filled : (queues : ℕ → Queue) (rs : List (Option ℕ)) → InRanges rs xs → (place : KnownValue) (a width v : ℕ)
      → Has queues xs place a → is_owned rs q s place width ≡ true → Stored (write a width v) s
  stays-filled queues rs ranges place a width v at ok =
      let o = owned-at queues rs ranges place a width at ok in
      stays (write a width v) (fills q is p c (write a width v) o.position o.from o.before o.low o.high)

  pub moves-on : (w : Write) (d : Form) → w.addr ≡ index q p → w.width ≡ q.index_width → w.value ≡ index_word q (form_value (plus s.own d) xs)
      → is_same 0 (plus d (minus s.owned d)) s.owned ≡ true → form_value d xs < q.modulus → Stored w (moved_share s d)
  moves-on w d place width word ok near =
      let sum : form_value s.owned xs ≡ form_value d xs + form_value (minus s.owned d) xs =
      sym (same-exactly (plus d (minus s.owned d)) s.owned xs ok) ∙ value-plus d (minus s.owned d) xs in
      let at : form_value (plus s.own d) xs ≡ count p c + form_value d xs = value-plus s.own d xs ∙ ap (λ n. n + form_value d xs) (sym has.own) in
      let m = moves q is p c w (form_value d xs) place width (word ∙ ap (index_word q) at) near (omega (arith, has.own, has.upto, sum)) in record {
        may = inl m.0;
        share = record {
          own = count-set p (moved q p (count p c) w) c ∙ m.1 ∙ sym at;
          upto = end-set-count q.capacity p p (moved q p (count p c) w) c ∙ (omega (arith, has.upto, has.own, sum, at));
        };
      }
