-- Offsets as ranges.
use Rattle.std.specs.Prelude.{ℕ, ◌+◌, ◌-◌, ◌==◌, ◌&&◌, nat_le, nat_lt, min, max, if◌then◌else◌, Bool, List, [], ◌∷◌, ◌++◌}
use Rattle.std.specs.Prelude.{Option, None, Some, option_to_list}
use Rattle.std.specs.List.{list_any, flat_map}
use Rattle.record_bytes.specs.declared.ranges.ByteRange.{ByteRange}

abbrev pub range_has : ByteRange → (b : ℕ) → Bool
range_has r b = nat_le r.first b && nat_le b r.last

-- one of these ranges has the byte
abbrev pub has_byte : List ByteRange → (b : ℕ) → Bool
has_byte rs b = list_any (λ r. range_has r b) rs

abbrev pub one_offset : ℕ → ByteRange
one_offset b = record { first = b; last = b }

-- an offset in front of ranges: the first of them begins with it where it would follow it
abbrev pub onto_ranges : ℕ → List ByteRange → List ByteRange
onto_ranges b [] = one_offset b ∷ []
onto_ranges b (r ∷ rs) = if b + 1 == r.first then record { first = b; last = r.last } ∷ rs else one_offset b ∷ r ∷ rs

-- the shortest list of ranges that has these offsets, in their order
abbrev pub byte_ranges : List ℕ → List ByteRange
byte_ranges [] = []
byte_ranges (b ∷ offsets) = onto_ranges b (byte_ranges offsets)

-- ranges with an offset after them
abbrev pub with_offset : List ByteRange → ℕ → List ByteRange
with_offset [] b = one_offset b ∷ []
with_offset (r ∷ []) b = if r.last + 1 == b then record { first = r.first; last = b } ∷ [] else r ∷ one_offset b ∷ []
with_offset (r ∷ s ∷ rs) b = r ∷ with_offset (s ∷ rs) b

-- no byte lies between two ranges
abbrev pub touch : ByteRange → ByteRange → Bool
touch r s = nat_le (r.first - 1) s.last && nat_le (s.first - 1) r.last

-- ---- without another range

abbrev pub part_before : ByteRange → ByteRange → Option ByteRange
part_before r cut = if nat_lt r.first cut.first then Some (record { first = r.first; last = min r.last (cut.first - 1) }) else None

abbrev pub part_after : ByteRange → ByteRange → Option ByteRange
part_after r cut = if nat_lt cut.last r.last then Some (record { first = max r.first (cut.last + 1); last = r.last }) else None

-- what comes before the other and after it; the whole, if that has no byte
abbrev pub parts_of : (cut : ByteRange) → ByteRange → List ByteRange
parts_of cut r = if nat_lt cut.last cut.first then r ∷ [] else option_to_list (part_before r cut) ++ option_to_list (part_after r cut)

abbrev pub ranges_without : List ByteRange → (cut : ByteRange) → List ByteRange
ranges_without rs cut = flat_map (parts_of cut) rs
