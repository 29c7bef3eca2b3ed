-- Four ways for a tag to tell.
use Rattle.std.specs.Prelude.{ℕ, ◌+◌, ◌/◌, ◌%◌, ◌==◌, not, bit_and, if◌then◌else◌, Bool}
use Rattle.queue_parties.specs.Parties.{Party, the_sender, the_receiver}

-- FastForward's: 0 is free, anything else is full
abbrev pub zero_is_free : Party → (k v : ℕ) → Bool
zero_is_free the_sender k v = v == 0
zero_is_free the_receiver k v = not (v == 0)

-- numbers of positions, mod m: a slot that is free for position k holds k, and one that is full of it k + 1. They are one number where
-- the number of slots is 1 mod m
abbrev pub position_number : (m : ℕ) → Party → (k v : ℕ) → Bool
position_number m the_sender k v = v == k % m
position_number m the_receiver k v = v == (k + 1) % m

-- an OWN bit, or some bits: those of the tag under the mask are one number where the slot is free, and another where it is full. Its other
-- bits are free, for a length or a status
abbrev pub bits_under : (mask free full : ℕ) → Party → (k v : ℕ) → Bool
bits_under mask free full the_sender k v = bit_and v mask == free
bits_under mask free full the_receiver k v = bit_and v mask == full

-- phase bits, which turn with the rounds of `size` positions each: those under the mask are `free` and `full` in even rounds, and other two
-- in odd ones
abbrev pub phase_bits : (size mask free full odd_free odd_full : ℕ) → Party → (k v : ℕ) → Bool
phase_bits size mask free full odd_free odd_full p k v =
    if k / size % 2 == 0 then bits_under mask free full p k v else bits_under mask odd_free odd_full p k v
