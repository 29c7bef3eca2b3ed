-- The positions of a queue and the slots in which they lie, and lists of records in the order of their positions.
use Rattle.std.specs.Prelude.{ℕ, zero, suc, ◌≡◌, ◌+◌, ◌-◌, ◌*◌, ◌%◌, ◌<◌, ◌≤◌, List, [], ◌∷◌, ◌++◌}
use Rattle.step_machine.specs.declared.events.Entry.{Entry}
use Rattle.queue_parties.specs.Parties.{QueueCounts}

-- x is one of this many bytes from an address on
abbrev pub IsInBytes : (from count x : ℕ) → Type 0
IsInBytes from count x = (from ≤ x) × (x < from + count)

-- of `size` slots of `width` bytes from `slots` on, the one in which position k lies
abbrev pub slot_from : (slots width size k : ℕ) → ℕ
slot_from slots width size k = slots + width * (k % size)

-- xs is a beginning of ys
abbrev pub IsPrefix : List ℕ → List ℕ → Type 0
IsPrefix xs ys = (rest : List ℕ) × (ys ≡ xs ++ rest)

-- a number for each position from k on, for `number` of them
unfoldable pub numbers_from : (ℕ → ℕ) → (k number : ℕ) → List ℕ
numbers_from R k zero = []
numbers_from R k (suc number) = R k ∷ numbers_from R (k + 1) number

-- of each position past which an entry moves a count (`far` of the counts), in order: `record_of` the entries before it, the entry and
-- the position
unfoldable pub records_passed : (next : QueueCounts → Entry → QueueCounts) (far : QueueCounts → ℕ) (record_of : List Entry → Entry → ℕ → ℕ) → QueueCounts
    → (before es : List Entry) → List ℕ
records_passed next far record_of c before [] = []
records_passed next far record_of c before (e ∷ es) = numbers_from (record_of before e) (far c) (far (next c e) - far c)
    ++ records_passed next far record_of (next c e) (before ++ e ∷ []) es
