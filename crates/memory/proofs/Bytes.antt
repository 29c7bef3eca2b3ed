-- Bytes of numbers below 2 ^ 32, and of words after a write.
use Rattle.std.proofs.Common.{◌≡◌, ℕ, zero, suc, ◌+◌, ◌-◌, ◌*◌, ◌/◌, ◌%◌, ◌^◌, ◌<◌, ◌≤◌, ◌==◌, Bool, true, false, List, [], ◌∷◌, Option, Some, None, refl, sym}
use Rattle.std.proofs.Common.{◌∙◌, ap, arith, length, set, get_or}
use Rattle.std.specs.Prelude.{if◌then◌else◌, unwrap_or, All, slice_index}
use Rattle.std.specs.Int.{byte_at}
use Rattle.std.proofs.lemmas.Bool.{le-leb, lt-ltb, leb-true, ltb-true, eqb-true, eqb-false}
use Rattle.std.proofs.lemmas.Nat.{mod_below}
use Rattle.std.proofs.lemmas.List.Elements.{All-head, All-tail}
use Rattle.memory.specs.declared.writes.Write.{Write}
use Rattle.memory.specs.Writes.{covers, byte_after, newest_of, joined, over, overlaid, byte_of, IsInWord, WritesInWord}
use Rattle.std.proofs.lemmas.List.{get_or-set_same, get_or-set_other}

-- two numbers of bytes that agree are one
pub joined-same : (f g : ℕ → ℕ) (n : ℕ) → ((i : ℕ) → i < n → f i ≡ g i) → joined f n ≡ joined g n
joined-same f g zero same = refl
joined-same f g (suc n) same = grind (arith, joined-same f g n)

-- a word is the number of its bytes
pub word_of_bytes : (v : ℕ) → v < 2 ^ 32 → joined (λ i. byte_at i v) 4 ≡ v
word_of_bytes v small = omega arith

pub byte_below : (i v : ℕ) → byte_at i v < 256
byte_below i v = grind (arith, mod_below)

-- a byte of a number of bytes
pub byte_of_joined : (f : ℕ → ℕ) → ((i : ℕ) → f i < 256) → (i : ℕ) → i < 4 → byte_at i (joined f 4) ≡ f i
byte_of_joined f small i lt = at i lt (small 0) (small 1) (small 2) (small 3)
  where
    at : (i : ℕ) → i < 4 → f 0 < 256 → f 1 < 256 → f 2 < 256 → f 3 < 256 → byte_at i (joined f 4) ≡ f i
    at zero lt a b c d = omega arith
    at (suc zero) lt a b c d = omega arith
    at (suc (suc zero)) lt a b c d = omega arith
    at (suc (suc (suc zero))) lt a b c d = omega arith
    at (suc (suc (suc (suc i)))) lt a b c d = absurd (omega arith)

-- a write covers the bytes from its address on
pub covers-yes : (w : Write) (a : ℕ) → w.addr ≤ a → a < w.addr + w.width → covers w a ≡ true
covers-yes w a from below = rw (le-leb w.addr a from) (lt-ltb a (w.addr + w.width) below)

pub covers-from : (w : Write) (a : ℕ) → covers w a ≡ true → (w.addr ≤ a) × (a < w.addr + w.width)
covers-from w a held = grind (arith, leb-true, ltb-true)

-- a write of a whole word leaves its own value
over_whole_byte : (w : Write) (i b : ℕ) → w.width ≡ 4 → WritesInWord w → i < 4 → byte_after w (w.addr / 4 * 4 + i) b ≡ byte_at i w.value
over_whole_byte w i b whole small lt = grind (arith, covers-yes)

pub over_whole : (w : Write) (word : ℕ) → w.width ≡ 4 → WritesInWord w → w.value < 2 ^ 32 → over w word ≡ w.value
over_whole w word whole small fits = grind (arith, joined-same, over_whole_byte, word_of_bytes)

byte_after-below : (w : Write) (a b : ℕ) → b < 256 → byte_after w a b < 256
byte_after-below w a b small = grind (arith, byte_below)

-- each byte of the word in which a write is, after it
pub over-byte : (w : Write) (word i : ℕ) → i < 4 → byte_at i (over w word) ≡ byte_after w (w.addr / 4 * 4 + i) (byte_at i word)
over-byte w word i lt =
    byte_of_joined (λ j. byte_after w (w.addr / 4 * 4 + j) (byte_at j word))
    (λ j. byte_after-below w (w.addr / 4 * 4 + j) (byte_at j word) (byte_below j word)) i lt

-- a write covers no byte of another word
pub covers-other : (w : Write) (a : ℕ) → WritesInWord w → (a / 4 ≡ w.addr / 4 → ⊥) → covers w a ≡ false
covers-other w a small other = grind (arith, covers-from)

-- byte by byte, the word around an address after writes is what the last of them to cover it put there
overlaid_byte-found : (a word : ℕ) (ws : List Write) (i b : ℕ) (found : Option ℕ) → All WritesInWord ws → i < 4
    → byte_at i word ≡ unwrap_or found b
    → byte_at i (overlaid a word ws) ≡ unwrap_or (newest_of (a / 4 * 4 + i) found ws) b
overlaid_byte-found a word [] i b found small lt is = is
overlaid_byte-found a word (w ∷ ws) i b found small lt is =
    overlaid_byte-found a (if w.addr / 4 == a / 4 then over w word else word) ws i b
    (if covers w (a / 4 * 4 + i) then Some (byte_at (a / 4 * 4 + i - w.addr) w.value) else found)
    (All-tail WritesInWord w ws small) lt (at (w.addr / 4 == a / 4) refl)
  where
    in_word : WritesInWord w
    in_word = All-head WritesInWord w ws small

    chosen : (c : Bool) → (if c then byte_at (a / 4 * 4 + i - w.addr) w.value else byte_at i word)
        ≡ unwrap_or (if c then Some (byte_at (a / 4 * 4 + i - w.addr) w.value) else found) b
    chosen true = refl
    chosen false = is

    at : (c : Bool) → (w.addr / 4 == a / 4) ≡ c → byte_at i (if c then over w word else word)
        ≡ unwrap_or (if covers w (a / 4 * 4 + i) then Some (byte_at (a / 4 * 4 + i - w.addr) w.value) else found) b
    at true same =
        let base : w.addr / 4 ≡ a / 4 = eqb-true (w.addr / 4) (a / 4) same in
        over-byte w word i lt ∙ ap (λ q. byte_after w (q * 4 + i) (byte_at i word)) base ∙ chosen (covers w (a / 4 * 4 + i))
    at false apart =
        let base : w.addr / 4 ≡ a / 4 → ⊥ = eqb-false (w.addr / 4) (a / 4) apart in
        let none : covers w (a / 4 * 4 + i) ≡ false = covers-other w (a / 4 * 4 + i) in_word (λ q. base (omega arith)) in
        is ∙ ap (λ c. unwrap_or (if c then Some (byte_at (a / 4 * 4 + i - w.addr) w.value) else found) b) (sym none)

pub overlaid-byte : (a word : ℕ) (ws : List Write) (i : ℕ) → All WritesInWord ws → i < 4
    → byte_at i (overlaid a word ws) ≡ unwrap_or (newest_of (a / 4 * 4 + i) None ws) (byte_at i word)
overlaid-byte a word ws i small lt = overlaid_byte-found a word ws i (byte_at i word) None small lt refl

-- an access of n bytes to the word around its address, after writes to it
pub overlaid-part : (a n : ℕ) (words : List ℕ) (ws : List Write) → All WritesInWord ws → IsInWord n a
    → joined (λ i. byte_at (a % 4 + i) (overlaid a (slice_index words (a / 4)) ws)) n
    ≡ joined (λ i. unwrap_or (newest_of (a + i) None ws) (byte_of words (a + i))) n
overlaid-part a n words ws small within = grind (arith, joined-same, overlaid-byte)

-- ---- the bytes of a memory after a write

-- a write to a list of words changes the bytes that it covers, and no other
pub byte_of-write : (words : List ℕ) (w : Write) (a : ℕ) → WritesInWord w → w.addr / 4 < length words
    → byte_of (set words (w.addr / 4) (over w (slice_index words (w.addr / 4)))) a ≡ byte_after w a (byte_of words a)
byte_of-write words w a small within = grind (arith, eqb-true, get_or, get_or-set_same, over-byte, mod_below, eqb-false, covers-other, get_or-set_other)

-- a word of the list is the number of its bytes
pub word_in : (words : List ℕ) (a : ℕ) → a % 4 ≡ 0 → slice_index words (a / 4) < 2 ^ 32 → joined (λ i. byte_of words (a + i)) 4 ≡ slice_index words (a / 4)
word_in words a aligned small = grind (arith, joined-same, word_of_bytes)
