-- Which fields are right in the slots ahead of a sender's count: in its view, their bytes are one of the field's numbers.
use Rattle.std.specs.Prelude.{ℕ, ◌+◌, ◌%◌, ◌^◌, ◌==◌, ◌&&◌, ◌||◌, nat_le, nat_lt, if◌then◌else◌, Bool, false, Option, None, Some}
use Rattle.std.specs.Prelude.{List, [], length, get_or}
use Rattle.std.specs.List.{list_all, list_any}
use Rattle.slot_queue.specs.Queues.{Queue}
use Rattle.queue_certificates.specs.RecordFields.{Field}
use Rattle.queue_certificates.specs.Forms.{Form, vanishes, Bounds, risings, fallings, bounds_of}
use Rattle.queue_certificates.specs.States.{KnownValue, any, linear, index_for, signed_for, ends_as, has_bits}
use Rattle.queue_certificates.specs.Steps.{all_below}
use Rattle.queue_certificates.specs.Fields.{last_number}
use Rattle.queue_certificates.specs.declared.effect.Effect.{Effect}
use Rattle.queue_certificates.specs.declared.effect.Effect.TheVariants.{Leaves, Fills, Publishes, PublishesSome}

-- of each position from the sender's count on, the fields that are right in its slot, by their numbers
abbrev pub Filled : Type 0
Filled = List (List ℕ)

-- Of the position d further than the count, field j. Positions that are as many apart as there are slots lie in one slot, so nothing is
-- said of those
abbrev pub is_filled : (size : ℕ) → Filled → (d j : ℕ) → Bool
is_filled size ms d j = nat_lt d size && list_any (λ a. a == j) (get_or ms d [])

abbrev pub no_field : Field
no_field = record { at = 0; width = 0; low = 0; step = 0; count = 0 }

-- ---- whether a number is one of a field's, whatever the variables are

-- The form's remainder by 2 ^ 32, which lies between these bounds without wrapping: then it is the constant and multiples of what rises,
-- less multiples of what falls
abbrev pub lies_in : Option Bounds → Form → Field → Bool
lies_in None g f = false
lies_in (Some b) g f = nat_le f.low b.low && nat_le b.high (last_number f) && (g.constant % 2 ^ 32 % f.step == f.low % f.step)
    && vanishes f.step (risings (2 ^ 32) g.factors) && vanishes f.step (fallings (2 ^ 32) g.factors)

abbrev pub is_number_of : List (Option ℕ) → KnownValue → Field → Bool
is_number_of rs any f = false
is_number_of rs (index_for i g) f = false
is_number_of rs (signed_for i g) f = false
is_number_of rs (ends_as n g) f = false
is_number_of rs (has_bits m b) f = false
is_number_of rs (linear g) f = lies_in (bounds_of (2 ^ 32) rs g) g f

-- ---- what is right after an effect

-- no byte of the field is among `width` bytes from `offset` on
abbrev pub is_beside : Field → (offset width : ℕ) → Bool
is_beside f offset width = nat_le (f.at + f.width) offset || nat_le (offset + width) f.at

-- after a store of a number to these bytes of its slot, by whether it was right before
abbrev pub is_right_after : List (Option ℕ) → (stored : KnownValue) → Field → (offset width : ℕ) → (right_before : Bool) → Bool
is_right_after rs v f offset width right_before =
    if (f.at == offset) && (f.width == width) then is_number_of rs v f else (is_beside f offset width && right_before)

abbrev pub is_filled_after : List (Option ℕ) → Queue → List Field → (stored : KnownValue) → Filled → Effect → (d j : ℕ) → Bool
is_filled_after rs q fs v ms Leaves d j = is_filled q.size ms d j
is_filled_after rs q fs v ms (Fills p offset width) d j = if p == d then is_right_after rs v (get_or fs j no_field) offset width (is_filled q.size ms d j)
    else is_filled q.size ms d j
is_filled_after rs q fs v ms (Publishes n) d j = is_filled q.size ms (d + n) j
is_filled_after rs q fs v ms (PublishesSome n) d j = false

-- all that is said to be right is so
abbrev pub are_so : Filled → (ℕ → ℕ → Bool) → Bool
are_so ms f = all_below (length ms) (λ d. list_all (f d) (get_or ms d []))

abbrev pub most_published : Effect → ℕ
most_published Leaves = 0
most_published (Fills p offset width) = 0
most_published (Publishes n) = n
most_published (PublishesSome n) = n

-- of what may be published all fields are right
abbrev pub may_send : (size : ℕ) → List Field → Filled → Effect → Bool
may_send size fs ms e = all_below (most_published e) (λ d. all_below (length fs) (is_filled size ms d))
