-- What a party of a queue does at the leaves of a state, and where it goes on from there. A byte is done that the sender writes, or the
-- receiver reads; and a position is handed on that the sender publishes, or the receiver takes.
use Rattle.std.specs.Prelude.{ℕ, ◌+◌, ◌-◌, ◌==◌, ◌&&◌, ◌||◌, nat_le, nat_lt, max, if◌then◌else◌, Bool, true, false, Option, None, Some, List, ◌≡◌, ◌<◌, not}
use Rattle.std.specs.Prelude.{[], get_or, min, ◌⊎◌, length, ◌≤◌, MatchOption, set}
use Rattle.std.specs.List.{list_any, list_all}
use Rattle.queue_certificates.specs.Filled.{most_published}
use Rattle.queue_certificates.specs.declared.effect.Effect.{Effect}
use Rattle.queue_certificates.specs.declared.effect.Effect.TheVariants.{Leaves, Fills, Publishes, PublishesSome}
use Rattle.record_bytes.specs.declared.ranges.ByteRange.{ByteRange}
use Rattle.record_bytes.specs.Ranges.{range_has, has_byte}
use Rattle.records_written.specs.declared.marking.Mark.{Mark}
use Rattle.records_written.specs.declared.finding.Open.{Open}
use Rattle.records_written.specs.declared.finding.Missing.{Missing}

-- of a leaf: its effect, none where it isn't known how many positions it hands on; whether it would hand on all that the party owns; and the
-- states to which it leads
pub record PartyLeaf : Type 0 where
  pub effect : Option Effect
  pub all : Bool
  pub targets : List ℕ

-- ---- what is done after a leaf, of what was before: byte b of the slot of the position d further than the party's count

abbrev pub is_filled : (j offset width : ℕ) → (d b : ℕ) → Bool
is_filled j offset width d b = (j == d) && nat_le offset b && nat_lt b (offset + width)

-- it reads this byte of this position, where it is the receiver's
abbrev pub reads_byte : Option Effect → (d b : ℕ) → Bool
reads_byte (Some (Fills j offset width)) d b = is_filled j offset width d b
reads_byte other d b = false

abbrev pub marked_after : Option Effect → (ℕ → ℕ → Bool) → (d b : ℕ) → Bool
marked_after None was d b = false
marked_after (Some Leaves) was d b = was d b
marked_after (Some (Fills j offset width)) was d b = is_filled j offset width d b || was d b
marked_after (Some (Publishes n)) was d b = was (d + n) b
marked_after (Some (PublishesSome n)) was d b = false

-- ---- which positions it may hand on: any, where that isn't known

abbrev pub may_hand : (d : ℕ) → Option Effect → Bool
may_hand d None = true
may_hand d (Some e) = nat_lt d (most_published e)

abbrev pub may_hand_on : List PartyLeaf → (d : ℕ) → Bool
may_hand_on leaves d = list_any (λ s. may_hand d s.effect) leaves

-- ---- of how many positions from the count on byte b isn't to be read any more: it was, or one of a later position was

abbrev pub has_offset : (b offset width : ℕ) → Bool
has_offset b offset width = nat_le offset b && nat_lt b (offset + width)

-- after it, of what was before; of none where all were handed back, or nobody knows how many
abbrev pub closed_by : (all : Bool) → Option Effect → (b closed : ℕ) → ℕ
closed_by all (Some Leaves) b n = n
closed_by all (Some (Fills j offset width)) b n = max n (if has_offset b offset width then j + 1 else j)
closed_by all (Some (Publishes m)) b n = if all then 0 else n - m
closed_by all other b n = 0

-- it may read one of those, or nobody knows how many it hands back
abbrev pub is_again : Option Effect → (b closed : ℕ) → Bool
is_again (Some Leaves) b n = false
is_again (Some (Fills j offset width)) b n = has_offset b offset width && nat_lt j n
is_again (Some (Publishes m)) b n = false
is_again other b n = true

-- what it reads begins at byte b, or ends before it
abbrev pub ends_at : Option Effect → (b : ℕ) → Bool
ends_at (Some (Fills j offset width)) b = (b == offset) || (b == offset + width)
ends_at other b = false

-- Which bytes a party of a queue has surely done at each of its states: those of the greatest marks that its leaves keep.

-- Marks: in state n, byte b of the slot of the position d further than the party's count is done
abbrev pub Marks : Type 0
Marks = (n d b : ℕ) → Bool

-- a leaf of state n leads only to states where no more is marked than is done after it
abbrev pub keeps : Marks → (n d b : ℕ) → PartyLeaf → Bool
keeps f n d b s = list_all (λ to. not (f to d b) || marked_after s.effect (f n) d b) s.targets

-- nothing is marked where the party opens, and each leaf keeps the marks
pub record AreKept (graph : List (List PartyLeaf)) (first : ℕ) (f : Marks) : Type 0 where
  pub opens : (d b : ℕ) → f first d b ≡ false
  pub leads : (n d b : ℕ) → list_all (keeps f n d b) (get_or graph n []) ≡ true

-- The greatest such marks are all of them together: what any of them mark is surely done
pub record IsSurelyDone (graph : List (List PartyLeaf)) (first : ℕ) (n d b : ℕ) : Type 0 where
  pub marks : Marks
  pub kept : AreKept graph first marks
  pub marked : marks n d b ≡ true

module _ (graph : List (List PartyLeaf)) (first : ℕ) (mask : ℕ → Bool) where
  -- each byte of the mask is, of each position that state n may hand on
  abbrev pub IsSureAt : (n : ℕ) → Type 0
  IsSureAt n = (d : ℕ) → may_hand_on (get_or graph n []) d ≡ true → (b : ℕ) → mask b ≡ true → IsSurelyDone graph first n d b

  abbrev pub IsSure : Type 0
  IsSure = (n : ℕ) → IsSureAt n

  -- byte b at state n is the first that isn't: of states, then of positions, then of bytes
  pub record IsFirstUnsure (n b : ℕ) : Type 0 where
    pub position : ℕ
    pub handed : may_hand_on (get_or graph n []) position ≡ true
    pub asked : mask b ≡ true
    pub unsure : IsSurelyDone graph first n position b → ⊥
    pub bytes : (a : ℕ) → a < b → mask a ≡ true → IsSurelyDone graph first n position a
    pub positions : (d : ℕ) → d < position → (a : ℕ) → mask a ≡ true → IsSurelyDone graph first n d a
    pub states : (m : ℕ) → m < n → IsSureAt m

-- Marks as code lists them.

abbrev pub is_mark : Mark → (d b : ℕ) → Bool
is_mark m d b = (m.position == d) && range_has m.bytes b

abbrev pub has_mark : List Mark → (d b : ℕ) → Bool
has_mark ms d b = list_any (λ m. is_mark m d b) ms

-- all is marked in a state to which no way was found yet
abbrev pub marks_byte : Option (List Mark) → (d b : ℕ) → Bool
marks_byte None d b = true
marks_byte (Some ms) d b = has_mark ms d b

abbrev pub marks_of : List (Option (List Mark)) → Marks
marks_of all n d b = marks_byte (get_or all n (Some [])) d b

-- they mark all that any marks do that the leaves keep
abbrev pub AreMost : (graph : List (List PartyLeaf)) → (first : ℕ) → List (Option (List Mark)) → Type 0
AreMost graph first all =
    (f : Marks) → AreKept graph first f → (n d b : ℕ) → n < length graph → f n d b ≡ true → marks_of all n d b ≡ true

-- ---- what a leaf takes away

-- state m isn't among these, or `done` says so
abbrev pub is_left : List ℕ → (done : Bool) → (m : ℕ) → Bool
is_left targets done m = list_all (λ to. not (to == m) || done) targets

-- where leaves of a state that is marked so lead to state m
abbrev pub are_left : List PartyLeaf → (own : ℕ → ℕ → Bool) → (m d b : ℕ) → Bool
are_left leaves own m d b = list_all (λ s. is_left s.targets (marked_after s.effect own d b) m) leaves

-- ---- what isn't marked

-- the lowest byte of these marks, of any position
abbrev pub IsLowest : List Mark → Option ℕ → Type 0
IsLowest ms None = (d b : ℕ) → has_mark ms d b ≡ false
IsLowest ms (Some b) = ((d : ℕ) × (has_mark ms d b ≡ true)) × ((d a : ℕ) → a < b → has_mark ms d a ≡ false)

-- the lower of a byte and the first of a range, if that has one
abbrev pub lower_of : Option ℕ → (b : ℕ) → ℕ
lower_of None b = b
lower_of (Some a) b = min a b

abbrev pub lower : Option ℕ → ByteRange → Option ℕ
lower found r = if nat_lt r.last r.first then found else Some (lower_of found r.first)

-- of these bytes, those that aren't marked at a position: the lowest
abbrev pub is_open : List ByteRange → (ℕ → ℕ → Bool) → (d b : ℕ) → Bool
is_open mask own d b = has_byte mask b && not (own d b)

abbrev pub IsLowestOpen : List ByteRange → (ℕ → ℕ → Bool) → (d : ℕ) → Option ℕ → Type 0
IsLowestOpen mask own d None = (b : ℕ) → is_open mask own d b ≡ false
IsLowestOpen mask own d (Some b) = (is_open mask own d b ≡ true) × ((a : ℕ) → a < b → is_open mask own d a ≡ false)

-- the first position below a number that has one, with the lowest
abbrev pub IsFirstOpen : List ByteRange → (ℕ → ℕ → Bool) → (isPast : ℕ → Type 0) → Option Open → Type 0
IsFirstOpen mask own isPast None = (d : ℕ) → isPast d → (b : ℕ) → is_open mask own d b ≡ false
IsFirstOpen mask own isPast (Some o) = isPast o.position × (is_open mask own o.position o.byte ≡ true)
    × ((a : ℕ) → a < o.byte → is_open mask own o.position a ≡ false) × ((d : ℕ) → d < o.position → (a : ℕ) → is_open mask own d a ≡ false)

-- how many positions these leaves may hand on: any number, or fewer than this
abbrev pub IsBound : List PartyLeaf → Option ℕ → Type 0
IsBound leaves None = (d : ℕ) → may_hand_on leaves d ≡ true
IsBound leaves (Some n) = (d : ℕ) → may_hand_on leaves d ≡ nat_lt d n

-- all positions that they may hand on come before this number, or any position may be handed on, and one that comes before has no mark
abbrev pub IsEnd : List PartyLeaf → (ℕ → ℕ → Bool) → ℕ → Type 0
IsEnd leaves own end = IsBound leaves (Some end) ⊎ (IsBound leaves None × ((e : ℕ) × (e < end) × ((b : ℕ) → own e b ≡ false)))

-- a byte of the mask that isn't marked in state n, of a position that it may hand on: the first
abbrev pub IsOpenAt : (graph : List (List PartyLeaf)) → List ByteRange → Marks → (n : ℕ) → Option Open → Type 0
IsOpenAt graph mask f n = IsFirstOpen mask (f n) (λ d. may_hand_on (get_or graph n []) d ≡ true)

-- of the states before state `states`
abbrev pub IsFirstOf : (graph : List (List PartyLeaf)) → List ByteRange → Marks → (states : ℕ) → Option Missing → Type 0
IsFirstOf graph mask f states None = (n : ℕ) → n < states → IsOpenAt graph mask f n None
IsFirstOf graph mask f states (Some u) = (u.state < states) × ((n : ℕ) → n < u.state → IsOpenAt graph mask f n None)
    × ((position : ℕ) × IsOpenAt graph mask f u.state (Some (record { position = position; byte = u.byte })))

-- When the receiver of a queue reads bytes of its records at most once, and none after one of a later record: no state reads a byte of which the
-- greatest numbers of positions that aren't to be read any more, which its leaves make, say so.

-- a leaf of state n leads only to states of which at least as many positions are closed as after it, of byte b
abbrev pub leads_closed : (closed : ℕ → ℕ) → (n b : ℕ) → PartyLeaf → Bool
leads_closed f n b s = list_all (λ to. nat_le (closed_by s.all s.effect b (f n)) (f to)) s.targets

abbrev pub AreClosed : (graph : List (List PartyLeaf)) → (b : ℕ) → (closed : ℕ → ℕ) → Type 0
AreClosed graph b f = (n : ℕ) → list_all (leads_closed f n b) (get_or graph n []) ≡ true

-- none of these leaves reads byte b of a closed position
abbrev pub reads_again : List PartyLeaf → (b closed : ℕ) → Bool
reads_again leaves b n = list_any (λ s. is_again s.effect b n) leaves

-- with as few closed as there may be
pub record IsOnceAt (graph : List (List PartyLeaf)) (n b : ℕ) : Type 0 where
  pub closed : ℕ → ℕ
  pub are : AreClosed graph b closed
  pub once : reads_again (get_or graph n []) b (closed n) ≡ false

module _ (graph : List (List PartyLeaf)) (mask : ℕ → Bool) where
  abbrev pub IsOnce : Type 0
  IsOnce = (n b : ℕ) → mask b ≡ true → IsOnceAt graph n b

  -- byte b at state n is the first of which that isn't so: of states, then of bytes
  pub record IsFirstTwice (n b : ℕ) : Type 0 where
    pub listed : n < length graph
    pub asked : mask b ≡ true
    pub twice : IsOnceAt graph n b → ⊥
    pub bytes : (a : ℕ) → a < b → mask a ≡ true → IsOnceAt graph n a
    pub states : (m : ℕ) → m < n → (a : ℕ) → mask a ≡ true → IsOnceAt graph m a

-- ---- as a search finds them

abbrev pub raised : List ℕ → (n closed : ℕ) → List ℕ
raised xs n closed = if nat_lt (get_or xs n 0) closed then set xs n closed else xs

abbrev pub IsUnder : List ℕ → (f : ℕ → ℕ) → Type 0
IsUnder xs f = (n : ℕ) → get_or xs n 0 ≤ f n

abbrev pub IsAnswer : (graph : List (List PartyLeaf)) → (mask : ℕ → Bool) → Option Missing → Type 0
IsAnswer graph mask found = MatchOption found (IsOnce graph mask) (λ u. IsFirstTwice graph mask u.state u.byte)
