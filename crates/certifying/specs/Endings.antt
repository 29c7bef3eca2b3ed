-- Where the harts of a text may be stopped, and where they may end: what lines about harts and about queues say of it.
use Rattle.std.specs.Prelude.{ℕ, zero, suc, ◌&&◌, not, Bool, true, false, List, [], ◌∷◌, ◌++◌, length, get_or, Some, is_some}
use Rattle.step_machine.specs.History.{OpeningValue}
use Rattle.queue_certificates.specs.Certificates.{QueueCertificate}
use Rattle.hart_safety.specs.Ends.{first_end}
use Rattle.hart_safety.specs.Stops.{first_stop}
use Rattle.certifying.specs.declared.endings.Endings.{Endings}

-- of hart h, with M words of memory
abbrev pub endings_of : (M : ℕ) → OpeningValue → QueueCertificate → (h : ℕ) → Endings
endings_of M o c h = record { stop = first_stop M o c h; end = first_end o c h }

-- of the first n harts
abbrev pub endings_below : (M : ℕ) → OpeningValue → QueueCertificate → (n : ℕ) → List Endings
endings_below M o c zero = []
endings_below M o c (suc n) = endings_below M o c n ++ endings_of M o c n ∷ []

-- of each of the opening's harts, if they are asked for
abbrev pub all_endings : (M : ℕ) → OpeningValue → QueueCertificate → (asked : Bool) → List Endings
all_endings M o c true = endings_below M o c (length o.harts)
all_endings M o c false = []

-- of a hart that isn't among them nothing is shown
abbrev pub no_endings : Endings
no_endings = record { stop = Some 0; end = Some 0 }

abbrev pub endings_at : List Endings → (h : ℕ) → Endings
endings_at ends h = get_or ends h no_endings

-- of the opening's hart h
abbrev pub endings_in : (M : ℕ) → OpeningValue → QueueCertificate → (h : ℕ) → Endings
endings_in M o c h = endings_at (all_endings M o c true) h

-- no state may stop the hart
abbrev pub never_stops : Endings → Bool
never_stops e = not (is_some e.stop)

-- nor end it
abbrev pub always_runs : Endings → Bool
always_runs e = never_stops e && not (is_some e.end)

-- the same of two harts
abbrev pub neither_stops : (sender receiver : Endings) → Bool
neither_stops s r = never_stops s && never_stops r

abbrev pub both_run : (sender receiver : Endings) → Bool
both_run s r = always_runs s && always_runs r
