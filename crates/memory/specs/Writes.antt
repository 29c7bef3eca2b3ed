-- Writes of bytes: pending stores, and what reached memory. Numbers are little-endian.
use Rattle.std.specs.Prelude.{ℕ, zero, suc, ◌≡◌, ◌+◌, ◌-◌, ◌*◌, ◌/◌, ◌%◌, ◌^◌, ◌<◌, ◌≤◌, ◌==◌, ◌&&◌, ◌||◌, Bool, nat_le}
use Rattle.std.specs.Prelude.{nat_lt, if◌then◌else◌, List, [], ◌∷◌, Option, Some, slice_index}
use Rattle.std.specs.Int.{byte_at}
use Rattle.memory.specs.declared.writes.Write.{Write}

-- `width` bytes of `value` to the addresses from `addr` on
abbrev pub write : ℕ → ℕ → ℕ → Write
write addr width value = record { addr = addr; width = width; value = value }

-- the write covers the byte at address a
abbrev pub covers : Write → ℕ → Bool
covers w a = nat_le w.addr a && nat_lt a (w.addr + w.width)

-- the byte at address a after a write, where it was b before
abbrev pub byte_after : Write → ℕ → ℕ → ℕ
byte_after w a b = if covers w a then byte_at (a - w.addr) w.value else b

-- the byte that the last of these writes to cover address a puts there, or what was found before the
-- list where none covers it
abbrev pub newest_of : ℕ → Option ℕ → List Write → Option ℕ
newest_of a found [] = found
newest_of a found (w ∷ ws) = newest_of a (if covers w a then Some (byte_at (a - w.addr) w.value) else found) ws

-- the number of n bytes, of which byte i is f i
abbrev pub joined : (ℕ → ℕ) → ℕ → ℕ
joined f zero = 0
joined f (suc n) = joined f n + f n * 256 ^ n

-- an access has 1, 2 or 4 bytes
abbrev pub is_width : ℕ → Bool
is_width n = n == 1 || n == 2 || n == 4

-- the bytes of this access are of one word
abbrev pub IsInWord : ℕ → ℕ → Type 0
IsInWord n a = a % 4 + n ≤ 4

abbrev pub WritesInWord : Write → Type 0
WritesInWord w = IsInWord w.width w.addr

-- the word in which a write is, after it
abbrev pub over : Write → ℕ → ℕ
over w word = joined (λ i. byte_after w (w.addr / 4 * 4 + i) (byte_at i word)) 4

-- the byte at address a of a list of words
abbrev pub byte_of : List ℕ → ℕ → ℕ
byte_of words a = byte_at (a % 4) (slice_index words (a / 4))

-- the word around address a, where it was this word before, after these writes
abbrev pub overlaid : ℕ → ℕ → List Write → ℕ
overlaid a word [] = word
overlaid a word (w ∷ ws) = overlaid a (if w.addr / 4 == a / 4 then over w word else word) ws

pub record IsWholeWord (w : Write) : Type 0 where
  pub whole : w.width ≡ 4
  pub aligned : w.addr % 4 ≡ 0
  pub small : w.value < 2 ^ 32

-- the value of the last of these writes at just this address, or what was found before the list: what
-- a word access reads where all writes are of whole words
abbrev pub newest_word : ℕ → Option ℕ → List Write → Option ℕ
newest_word a found [] = found
newest_word a found (w ∷ ws) = newest_word a (if w.addr == a then Some w.value else found) ws
