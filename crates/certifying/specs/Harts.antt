-- Whether harts are never stopped and never end, which bytes they write and load, and which they share, in words.
use Rattle.std.specs.Prelude.{ℕ, Bool, true, false, List, [], ◌∷◌, ◌++◌, map, codes, Option, Some, None}
use Rattle.std.specs.Fmt.{decimal}
use Rattle.step_machine.specs.History.{OpeningValue}
use Rattle.queue_certificates.specs.Certificates.{QueueCertificate}
use Rattle.hart_safety.specs.declared.regions.Region.{Region}
use Rattle.hart_safety.specs.declared.shared.Place.{Place}
use Rattle.hart_safety.specs.Shared.{Shared}
use Rattle.hart_safety.specs.Touched.{Touched}
use Rattle.record_bytes.specs.declared.ranges.ByteRange.{ByteRange}
use Rattle.certifying.specs.Descriptions.{bytes_text}
use Rattle.certifying.specs.Unread.{pc_place}

unfoldable pub never_line : (h : ℕ) → List ℕ
never_line h = codes "hart " ++ (decimal h ++ (codes ": never stopped" ++ 10 ∷ []))

unfoldable pub stop_front : (h : ℕ) → List ℕ
stop_front h = codes "hart " ++ decimal h ++ codes ": not shown that it is never stopped: "

-- of a hart, of which this is the first state that isn't shown to go on
abbrev pub stop_line : OpeningValue → QueueCertificate → (h : ℕ) → Option ℕ → List ℕ
stop_line o c h None = never_line h
stop_line o c h (Some n) = stop_front h ++ pc_place o c h n ++ 10 ∷ []

unfoldable pub endless_line : (h : ℕ) → List ℕ
endless_line h = codes "hart " ++ (decimal h ++ (codes ": never ends" ++ 10 ∷ []))

-- no words where it isn't shown
abbrev pub end_line : (h : ℕ) → (never : Bool) → List ℕ
end_line h true = endless_line h
end_line h false = []

abbrev pub range_of_region : Region → ByteRange
range_of_region region = record { first = region.from; last = region.to }

-- of what it stores to, or loads
unfoldable pub nothing_line : (stores : Bool) → (h : ℕ) → List ℕ
nothing_line true h = codes "hart " ++ (decimal h ++ (codes ": writes nothing" ++ 10 ∷ []))
nothing_line false h = codes "hart " ++ (decimal h ++ (codes ": loads nothing" ++ 10 ∷ []))

unfoldable pub touches_front : (stores : Bool) → (h : ℕ) → List ℕ
touches_front true h = codes "hart " ++ decimal h ++ codes ": writes "
touches_front false h = codes "hart " ++ decimal h ++ codes ": loads "

unfoldable pub only_end : List ℕ
only_end = codes " of memory only" ++ 10 ∷ []

abbrev pub regions_line : (stores : Bool) → (h : ℕ) → List ByteRange → List ℕ
regions_line stores h [] = nothing_line stores h
regions_line stores h (range ∷ others) = touches_front stores h ++ bytes_text (range ∷ others) ++ only_end

unfoldable pub anywhere_front : (stores : Bool) → (h : ℕ) → List ℕ
anywhere_front true h = codes "hart " ++ decimal h ++ codes ": not shown which bytes it writes: "
anywhere_front false h = codes "hart " ++ decimal h ++ codes ": not shown which bytes it loads: "

-- the bytes, or its first state with an access that may go anywhere
abbrev pub touches_by : (anywhere : Option ℕ) → OpeningValue → QueueCertificate → (stores : Bool) → (h : ℕ) → List Region → List ℕ
touches_by None o c stores h regions = regions_line stores h (map range_of_region regions)
touches_by (Some n) o c stores h regions = anywhere_front stores h ++ pc_place o c h n ++ 10 ∷ []

abbrev pub touches_line : OpeningValue → QueueCertificate → (stores : Bool) → (h : ℕ) → Touched → List ℕ
touches_line o c stores h touched = touches_by touched.unbounded o c stores h touched.regions

-- ---- what they share

unfoldable pub shared_nothing : List ℕ
shared_nothing = codes "the harts share nothing" ++ 10 ∷ []

unfoldable pub shared_front : List ℕ
shared_front = codes "the harts share "

abbrev pub shared_ranges : List ByteRange → List ℕ
shared_ranges [] = shared_nothing
shared_ranges (range ∷ others) = shared_front ++ bytes_text (range ∷ others) ++ only_end

unfoldable pub unshown_shared : (h : ℕ) → List ℕ
unshown_shared h = codes "not shown which bytes the harts share: hart " ++ decimal h ++ codes ", "

-- the bytes, or the first state with an access that may go anywhere
abbrev pub shared_by : (anywhere : Option Place) → OpeningValue → QueueCertificate → List Region → List ℕ
shared_by None o c regions = shared_ranges (map range_of_region regions)
shared_by (Some place) o c regions = unshown_shared place.hart ++ pc_place o c place.hart place.state ++ 10 ∷ []

abbrev pub shared_line : OpeningValue → QueueCertificate → Shared → List ℕ
shared_line o c shared = shared_by shared.unbounded o c shared.regions
