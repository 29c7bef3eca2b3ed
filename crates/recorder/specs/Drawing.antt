-- The events that a generator's words draw.
use Rattle.std.specs.Prelude.{ℕ, zero, suc, ◌-◌, ◌*◌, ◌%◌, nat_lt, if◌then◌else◌, List, [], ◌∷◌}
use Rattle.rand_core.specs.Stream.{Stream, next_u32}
use Rattle.step_machine.specs.declared.events.Event.{Event}
use Rattle.step_machine.specs.declared.events.Event.TheVariants.{Act, Land}

-- the event of a number below twice the harts: their acts come first, and then their landings
abbrev pub event_of_number : (harts number : ℕ) → Event
event_of_number harts number = if nat_lt number harts then Act number else Land (number - harts)

-- the event that a word draws
abbrev pub drawn : (harts word : ℕ) → Event
drawn harts word = event_of_number harts (word % (2 * harts))

-- the next n words of 32 bits that a generator gives
unfoldable pub drawn_words : (n : ℕ) → Stream → List ℕ
drawn_words zero stream = []
drawn_words (suc n) stream = (next_u32 stream).0 ∷ drawn_words n (next_u32 stream).1

-- what it will give after them
unfoldable pub left_after : (n : ℕ) → Stream → Stream
left_after zero stream = stream
left_after (suc n) stream = left_after n (next_u32 stream).1
