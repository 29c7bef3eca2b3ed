-- Texts that name bytes of a record: `all`, or offsets and ranges of them, as `0-3,8`.
use Rattle.std.specs.Prelude.{ℕ, ◌||◌, nat_le, if◌then◌else◌, Bool, false, zero, suc, List, [], ◌∷◌, ◌++◌, length, codes}
use Rattle.std.specs.Prelude.{Option, Some, None, option_and_then, is_some}
use Rattle.std.specs.List.{list_all, list_any}
use Rattle.std.specs.Str.{bytes_eq}
use Rattle.texts.specs.Cutting.{after, before, is_byte}
use Rattle.texts.specs.Numbers.{word_of}
use Rattle.texts.specs.Pieces.{pieces}
use Rattle.texts.specs.declared.pieces.Separators.TheVariants.{Byte}
use Rattle.record_bytes.specs.declared.ranges.ByteRange.{ByteRange}
use Rattle.record_bytes.specs.Ranges.{range_has}

-- the offset that one to four decimal digits say
abbrev pub offset_of : List ℕ → Option ℕ
offset_of digits = if nat_le (length digits) 4 then word_of digits else None

-- the last offset of an item, which is the first where no other follows
abbrev pub last_after : (first : ℕ) → Option (List ℕ) → Option ℕ
last_after first None = Some first
last_after first (Some digits) = offset_of digits

abbrev pub range_between : (first last : ℕ) → Option ByteRange
range_between first last = if nat_le first last then Some (record { first = first; last = last }) else None

-- the offsets of an item, as `8` or `0-3`
unfoldable pub range_of : List ℕ → Option ByteRange
range_of item =
    option_and_then (λ first. option_and_then (range_between first) (last_after first (after (is_byte 45) item))) (offset_of (before (is_byte 45) item))

abbrev pub is_range : List ℕ → Bool
is_range item = is_some (range_of item)

abbrev pub part_has : (offset : ℕ) → Option ByteRange → Bool
part_has offset None = false
part_has offset (Some range) = range_has range offset

abbrev pub has_offset : (offset : ℕ) → (item : List ℕ) → Bool
has_offset offset item = part_has offset (range_of item)

-- the text names bytes
abbrev pub is_bytes : List ℕ → Bool
is_bytes text = bytes_eq text (codes "all") || list_all is_range (pieces (Byte 44) text)

-- it names the byte at this offset
abbrev pub names_byte : List ℕ → (offset : ℕ) → Bool
names_byte text offset = bytes_eq text (codes "all") || list_any (has_offset offset) (pieces (Byte 44) text)

-- the numbers below n that pass a test, in their order
abbrev pub offsets_below : (ℕ → Bool) → (n : ℕ) → List ℕ
offsets_below p zero = []
offsets_below p (suc n) = if p n then offsets_below p n ++ n ∷ [] else offsets_below p n
