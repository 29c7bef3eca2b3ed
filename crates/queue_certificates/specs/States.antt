-- What a certificate says of one hart at one pc, and what that means.
use Rattle.std.specs.Prelude.{ℕ, ◌≡◌, ◌+◌, ◌-◌, ◌*◌, ◌%◌, ◌^◌, ◌<◌, ◌≤◌, ◌==◌, ◌&&◌, nat_lt, nat_le, if◌then◌else◌, Bool, true}
use Rattle.std.specs.Prelude.{false, Option, None, Some, List, map, length, get_or, slice_index, bit_and}
use Rattle.hart.specs.State.{HartState}
use Rattle.slot_queue.specs.Queues.{Queue, index_word}
use Rattle.queue_parties.specs.Parties.{Party, QueueCounts, count}
use Rattle.slot_queue.specs.Ownership.{hart, end}
use Rattle.queue_certificates.specs.OwnedRuns.{View, AllCounts, number_seen}
use Rattle.queue_certificates.specs.declared.own.OwnWord.{OwnWord}
use Rattle.queue_certificates.specs.Forms.{Form, form_value, number, plus, times, is_same, InRanges, most, fits_in, remainder}

-- what is known of a register or a word: nothing; that it is this form's remainder by 2 ^ 32; that it is the word of queue i that
-- stands for the count that this form is; that it is what a signed load leaves of that word; or that it is a number of this many bits that
-- ends in as many zeros as the form does, and is 0 where all these bits of the form are: what `xor` leaves of two numbers, of their difference;
-- or that it is a word whose bits under this mask are these
pub data KnownValue : Type 0 where
  any : KnownValue
  linear : (f : Form) → KnownValue
  index_for : (i : ℕ) (f : Form) → KnownValue
  signed_for : (i : ℕ) (f : Form) → KnownValue
  ends_as : (bits : ℕ) (f : Form) → KnownValue
  has_bits : (mask bits : ℕ) → KnownValue

-- nothing is known of it
abbrev pub is_any : KnownValue → Bool
is_any any = true
is_any (linear f) = false
is_any (index_for i f) = false
is_any (signed_for i f) = false
is_any (ends_as n f) = false
is_any (has_bits m b) = false

-- of a queue of which the hart is a party: its own count, and the exact number of positions that it owns
pub record Share : Type 0 where
  pub own : Form
  pub owned : Form

abbrev pub no_share : Share
no_share = record { own = number 0; owned = number 0 }

pub record KnownState : Type 0 where
  pub pc : ℕ
  pub ranges : List (Option ℕ)
  pub registers : List KnownValue
  pub words : List KnownValue
  pub shares : List Share

-- each form of it made another
abbrev pub value_by : (Form → Form) → KnownValue → KnownValue
value_by t any = any
value_by t (linear f) = linear (t f)
value_by t (index_for i f) = index_for i (t f)
value_by t (signed_for i f) = signed_for i (t f)
value_by t (ends_as n f) = ends_as n (t f)
value_by t (has_bits m b) = has_bits m b

abbrev pub share_by : (Form → Form) → Share → Share
share_by t s = record { own = t s.own; owned = t s.owned }

abbrev pub state_by : (Form → Form) → (ranges : List (Option ℕ)) → KnownState → KnownState
state_by t ranges s = record {
  pc = s.pc;
  ranges = ranges;
  registers = map (value_by t) s.registers;
  words = map (value_by t) s.words;
  shares = map (share_by t) s.shares;
}

-- ---- meaning

-- what a signed load leaves of a number of `width` bytes
abbrev pub signed_word : (width x : ℕ) → ℕ
signed_word width x = if nat_lt (x + x) (256 ^ width) then x else x + (2 ^ 32 - 256 ^ width)

-- in their lowest bits, n of them, two numbers end in the same number of zeros
abbrev pub EndAlike : (n x y : ℕ) → Type 0
EndAlike n x y = (j : ℕ) → j ≤ n → (x % 2 ^ j == 0) ≡ (y % 2 ^ j == 0)

module _ (queues : ℕ → Queue) where
  abbrev pub Has : List ℕ → KnownValue → (x : ℕ) → Type 0
  Has xs any x = Unit {0}
  Has xs (linear f) x = x ≡ form_value f xs % 2 ^ 32
  Has xs (index_for i f) x = x ≡ index_word (queues i) (form_value f xs)
  Has xs (signed_for i f) x = x ≡ signed_word (queues i).index_width (index_word (queues i) (form_value f xs))
  Has xs (ends_as n f) x = (x < 2 ^ n) × EndAlike n x (form_value f xs)
  Has xs (has_bits m b) x = (x < 2 ^ 32) × (bit_and x m ≡ b)

-- an index's word as a form, where it is one
abbrev pub scaled : Queue → Form → Form
scaled q f = plus (number q.base) (times q.scale f)

abbrev pub of_remainder : List (Option ℕ) → Queue → (i : ℕ) → Form → Option Form → KnownValue
of_remainder rs q i f None = if (q.scale * q.modulus == 2 ^ 32) && nat_lt q.base q.scale then linear (scaled q (plus f (number q.offset))) else index_for i f
of_remainder rs q i f (Some g) = if fits_in (most rs (scaled q g)) (Some (2 ^ 32 - 1)) then linear (scaled q g) else index_for i f

module _ (queues : ℕ → Queue) (ranges : List (Option ℕ)) where
  abbrev pub plain : KnownValue → KnownValue
  plain any = any
  plain (linear f) = linear f
  plain (index_for i f) = of_remainder ranges (queues i) i f (remainder ranges (plus f (number (queues i).offset)) (queues i).modulus)
  plain (signed_for i f) = signed_for i f
  plain (ends_as n f) = ends_as n f
  plain (has_bits m b) = has_bits m b

  -- a number of which the first is known, of that the second holds too
  abbrev pub is_within_plain : KnownValue → KnownValue → Bool
  is_within_plain v any = true
  is_within_plain any w = false
  is_within_plain (linear f) (linear g) = is_same (2 ^ 32) f g
  is_within_plain (index_for i f) (index_for j g) = (i == j) && is_same ((queues i).modulus) f g
  is_within_plain (signed_for i f) (signed_for j g) = (i == j) && is_same ((queues i).modulus) f g
  is_within_plain (linear f) (index_for j g) = false
  is_within_plain (linear f) (signed_for j g) = false
  is_within_plain (index_for i f) (linear g) = false
  is_within_plain (index_for i f) (signed_for j g) = false
  is_within_plain (signed_for i f) (linear g) = false
  is_within_plain (signed_for i f) (index_for j g) = false
  is_within_plain (ends_as n f) (ends_as m g) = (n == m) && nat_le n 32 && is_same (2 ^ n) f g
  is_within_plain (ends_as n f) (linear g) = false
  is_within_plain (ends_as n f) (index_for j g) = false
  is_within_plain (ends_as n f) (signed_for j g) = false
  is_within_plain (linear f) (ends_as m g) = false
  is_within_plain (index_for i f) (ends_as m g) = false
  is_within_plain (signed_for i f) (ends_as m g) = false
  is_within_plain (has_bits m b) (has_bits n c) = (bit_and m n == n) && (bit_and b n == c)
  is_within_plain (has_bits m b) (linear g) = false
  is_within_plain (has_bits m b) (index_for j g) = false
  is_within_plain (has_bits m b) (signed_for j g) = false
  is_within_plain (has_bits m b) (ends_as n g) = false
  is_within_plain (linear f) (has_bits n c) = false
  is_within_plain (index_for i f) (has_bits n c) = false
  is_within_plain (signed_for i f) (has_bits n c) = false
  is_within_plain (ends_as n f) (has_bits m c) = false

  abbrev pub is_within : KnownValue → KnownValue → Bool
  is_within v w = is_within_plain (plain v) (plain w)

pub record HasShare (q : Queue) (p : Party) (c : QueueCounts) (xs : List ℕ) (s : Share) : Type 0 where
  pub own : count p c ≡ form_value s.own xs
  pub upto : end q p c ≡ form_value s.own xs + form_value s.owned xs

-- a word of a hart's own, by its place among all
abbrev pub no_word : OwnWord
no_word = record { at = 0; width = 0 }

abbrev pub own_at : List OwnWord → (j : ℕ) → OwnWord
own_at own j = get_or own j no_word

-- what it holds
abbrev pub own_number : View → OwnWord → ℕ
own_number m w = number_seen m w.at w.width

-- of hart h, which has these own words, where there are N queues
module _ (queues : ℕ → Queue) (N : ℕ) (own : List OwnWord) (h : ℕ) where
  pub record MeansAt (xs : List ℕ) (k : KnownState) (s : HartState) (m : View) (cs : AllCounts) : Type 0 where
    pub ranges : InRanges k.ranges xs
    pub pc : s.pc ≡ k.pc
    pub registers : (j : ℕ) → Has queues xs (get_or k.registers j any) (slice_index s.registers j)
    pub words : (j : ℕ) → j < length own → Has queues xs (get_or k.words j any) (own_number m (own_at own j))
    pub shares : (i : ℕ) → i < N → (p : Party) → h ≡ hart (queues i) p → HasShare (queues i) p (cs i) xs (get_or k.shares i no_share)

  abbrev pub Means : KnownState → HartState → View → AllCounts → Type 0
  Means k s m cs = (xs : List ℕ) × MeansAt xs k s m cs
