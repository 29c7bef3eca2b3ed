-- The events that words draw: each by itself, or in bursts of one hart.
use Rattle.std.specs.Prelude.{ℕ, ◌-◌, ◌*◌, ◌/◌, ◌%◌, ◌==◌, if◌then◌else◌, Bool, false, List, [], ◌∷◌, map, slice_index}
use Rattle.rand_core.specs.Stream.{Stream}
use Rattle.step_machine.specs.declared.events.Event.{Event}
use Rattle.step_machine.specs.declared.events.Event.TheVariants.{Act, Land}
use Rattle.recorder.specs.Drawing.{drawn, drawn_words, left_after}
use Rattle.drawn_runs.specs.declared.draws.Draw.{Draw}
use Rattle.drawn_runs.specs.declared.draws.Draw.TheVariants.{Uniform, Bursts}
use Rattle.drawn_runs.specs.declared.draws.Burst.{Burst}
use Rattle.drawn_runs.specs.declared.draws.TheConstants.{ACTS}

-- the burst that a word begins
abbrev pub burst_of : (harts word : ℕ) → Burst
burst_of harts word = record { hart = word % harts; left = slice_index ACTS (word / harts % 7); lands_often = word / harts / 7 % 2 == 0 }

-- a burst after one act of it
abbrev pub acted : Burst → Burst
acted b = record b { left = b.left - 1 }

-- whether a word draws a landing in a burst of which acts are left
abbrev pub landing_follows : Burst → (word : ℕ) → Bool
landing_follows b word = word % (if b.lands_often then 2 else 10) == 0

-- the event that a word draws in a burst. If no act of it is left, the word begins another one, with an act
abbrev pub burst_event : (harts : ℕ) → Burst → (word : ℕ) → Event
burst_event harts b word = if b.left == 0 then Act (burst_of harts word).hart else (if landing_follows b word then Land b.hart else Act b.hart)

-- and the burst after it
abbrev pub burst_after : (harts : ℕ) → Burst → (word : ℕ) → Burst
burst_after harts b word = if b.left == 0 then acted (burst_of harts word) else (if landing_follows b word then b else acted b)

-- the events that these words draw
abbrev pub burst_events : (harts : ℕ) → Burst → List ℕ → List Event
burst_events harts b [] = []
burst_events harts b (word ∷ words) = burst_event harts b word ∷ burst_events harts (burst_after harts b word) words

-- no burst is under way
abbrev pub no_burst : Burst
no_burst = record { hart = 0; left = 0; lands_often = false }

-- the event that the next word draws where events are drawn so, and a burst is under way if they are drawn in bursts
abbrev pub event_by : Draw → (harts : ℕ) → Burst → (word : ℕ) → Event
event_by Uniform harts b word = drawn harts word
event_by Bursts harts b word = burst_event harts b word

-- and the burst after it
abbrev pub burst_by : Draw → (harts : ℕ) → Burst → (word : ℕ) → Burst
burst_by Uniform harts b word = b
burst_by Bursts harts b word = burst_after harts b word

abbrev pub events_by : Draw → (harts : ℕ) → (words : List ℕ) → List Event
events_by Uniform harts words = map (drawn harts) words
events_by Bursts harts words = burst_events harts no_burst words

-- The schedule of this number, from 0. Each has `size` events and takes `size` words of the generator's stream,
-- after those of the schedules before it.
abbrev pub schedule_by : Draw → (harts size : ℕ) → Stream → (number : ℕ) → List Event
schedule_by by harts size stream number = events_by by harts (drawn_words size (left_after (number * size) stream))
