-- Where all writes are of whole words, the bytes that a word access finds are those of the last write at its
-- address.
use Rattle.std.proofs.Common.{◌≡◌, ℕ, ◌+◌, ◌-◌, ◌%◌, ◌^◌, ◌<◌, ◌==◌, Bool, true, false, List, [], ◌∷◌, Option, Some, None, refl, ◌∙◌, ap, arith, ◌++◌}
use Rattle.std.specs.Prelude.{if◌then◌else◌, unwrap_or, All}
use Rattle.std.specs.Option.{option_map}
use Rattle.std.specs.Int.{byte_at}
use Rattle.std.proofs.lemmas.Bool.{eqb-true, eqb-false}
use Rattle.std.proofs.lemmas.List.Elements.{All-head, All-tail}
use Rattle.memory.specs.declared.writes.Write.{Write}
use Rattle.memory.specs.Writes.{covers, newest_of, newest_word, joined, IsWholeWord}
use Rattle.memory.proofs.Bytes.{covers-yes, covers-other, joined-same, word_of_bytes}

-- byte i of the word found is the byte found
newest_byte-found : (a i : ℕ) (found : Option ℕ) (ws : List Write) → a % 4 ≡ 0 → i < 4 → All IsWholeWord ws
    → newest_of (a + i) (option_map (byte_at i) found) ws ≡ option_map (byte_at i) (newest_word a found ws)
newest_byte-found a i found [] aligned lt all = refl
newest_byte-found a i found (w ∷ ws) aligned lt all =
    ap (λ f. newest_of (a + i) f ws) (at (w.addr == a) refl)
    ∙ newest_byte-found a i (if w.addr == a then Some w.value else found) ws aligned lt (All-tail IsWholeWord w ws all)
  where
    is : IsWholeWord w
    is = All-head IsWholeWord w ws all

    at : (c : Bool) → (w.addr == a) ≡ c
        → (if covers w (a + i) then Some (byte_at (a + i - w.addr) w.value) else option_map (byte_at i) found)
        ≡ option_map (byte_at i) (if c then Some w.value else found)
    at true same =
        let here : w.addr ≡ a = eqb-true w.addr a same in
        let width : w.width ≡ 4 = is.whole in
        let held : covers w (a + i) ≡ true = covers-yes w (a + i) (omega arith) (omega arith) in
        let offset : a + i - w.addr ≡ i = omega arith in
        ap (λ c. if c then Some (byte_at (a + i - w.addr) w.value) else option_map (byte_at i) found) held ∙ ap (λ j. Some (byte_at j w.value)) offset
    at false apart =
        let elsewhere : w.addr ≡ a → ⊥ = eqb-false w.addr a apart in
        let width : w.width ≡ 4 = is.whole in
        let base : w.addr % 4 ≡ 0 = is.aligned in
        let none : covers w (a + i) ≡ false = covers-other w (a + i) (omega arith) (λ q. elsewhere (omega arith)) in
        ap (λ c. if c then Some (byte_at (a + i - w.addr) w.value) else option_map (byte_at i) found) none

-- so does a read: of bytes over the bytes of a word, and of words
pub read_byte_of_word : (a i word : ℕ) (ws : List Write) → a % 4 ≡ 0 → i < 4 → All IsWholeWord ws
    → unwrap_or (newest_of (a + i) None ws) (byte_at i word) ≡ byte_at i (unwrap_or (newest_word a None ws) word)
read_byte_of_word a i word ws aligned lt all = grind (arith, newest_byte-found)

-- what is found among words below 2 ^ 32 is one
pub newest_word-small : (a word : ℕ) (found : Option ℕ) (ws : List Write) → unwrap_or found word < 2 ^ 32
    → All IsWholeWord ws → unwrap_or (newest_word a found ws) word < 2 ^ 32
newest_word-small a word found [] small all = small
newest_word-small a word found (w ∷ ws) small all = grind (
  arith,
  All-tail IsWholeWord w ws all,
  All-head IsWholeWord w ws all,
  newest_word-small a word (if w.addr == a then Some w.value else found) ws,
)

-- The law of word reads: of writes of whole words, those of `late` after those of `early`, over a word
-- below 2 ^ 32, a word access at a multiple of 4 reads the last one at its address
pub word_reads : (a word : ℕ) (early late : List Write) → a % 4 ≡ 0 → word < 2 ^ 32 → All IsWholeWord early → All IsWholeWord late
    → joined (λ i. unwrap_or (newest_of (a + i) None late) (unwrap_or (newest_of (a + i) None early) (byte_at i word))) 4
    ≡ unwrap_or (newest_word a None late) (unwrap_or (newest_word a None early) word)
word_reads a word early late aligned small all_early all_late =
    joined-same
    (λ i. unwrap_or (newest_of (a + i) None late) (unwrap_or (newest_of (a + i) None early) (byte_at i word)))
    (λ i. byte_at i (unwrap_or (newest_word a None late) (unwrap_or (newest_word a None early) word))) 4
    (λ i lt. ap (unwrap_or (newest_of (a + i) None late)) (read_byte_of_word a i word early aligned lt all_early)
    ∙ read_byte_of_word a i (unwrap_or (newest_word a None early) word) late aligned lt all_late)
    ∙ word_of_bytes (unwrap_or (newest_word a None late) (unwrap_or (newest_word a None early) word))
    (newest_word-small a (unwrap_or (newest_word a None early) word) None late
    (newest_word-small a word None early small all_early) all_late)

-- ---- the last write of a list to an address: over a list with more at its end, and where none is there
-- What nothing cites here is for proofs about further programs.

pub newest_of-append : (a : ℕ) (found : Option ℕ) (ws vs : List Write) → newest_of a found (ws ++ vs) ≡ newest_of a (newest_of a found ws) vs
newest_of-append a found [] vs = refl
newest_of-append a found (w ∷ ws) vs = newest_of-append a (if covers w a then Some (byte_at (a - w.addr) w.value) else found) ws vs

-- the same of whole words

pub newest_word-append : (a : ℕ) (found : Option ℕ) (ws vs : List Write) → newest_word a found (ws ++ vs) ≡ newest_word a (newest_word a found ws) vs
newest_word-append a found [] vs = refl
newest_word-append a found (w ∷ ws) vs = newest_word-append a (if w.addr == a then Some w.value else found) ws vs

pub newest_word-last : (a : ℕ) (found : Option ℕ) (ws : List Write) (w : Write)
    → newest_word a found (ws ++ w ∷ []) ≡ (if w.addr == a then Some w.value else newest_word a found ws)
newest_word-last a found ws w = newest_word-append a found ws (w ∷ [])
