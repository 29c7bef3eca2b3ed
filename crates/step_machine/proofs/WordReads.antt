-- The law of word reads: where all stores and AMOs are of whole words, a word access by bytes reads the word,
-- without bytes.
use Rattle.std.proofs.Common.{◌≡◌, ℕ, ◌+◌, ◌/◌, ◌%◌, ◌<◌, ◌==◌, Bool, List, [], ◌∷◌, ◌++◌, if◌then◌else◌, None, ◌∙◌, ap, arith, append-nil, ◌-◌, length, get_or}
use Rattle.std.proofs.Common.{refl, sym}
use Rattle.std.specs.Prelude.{All, take, slice_index, unwrap_or}
use Rattle.std.specs.Int.{byte_at}
use Rattle.std.proofs.lemmas.List.Elements.{All-nil, All-cons, All-append, All-take, All-drop}
use Rattle.memory.specs.declared.writes.Write.{Write}
use Rattle.memory.specs.Writes.{newest_of, newest_word, IsWholeWord, joined, overlaid, IsInWord, WritesInWord}
use Rattle.memory.proofs.Bytes.{joined-same, overlaid-part}
use Rattle.memory.proofs.WholeWords.{newest_word-last, word_reads}
use Rattle.step_machine.specs.Names.{Entry, Access, access_of, OpeningValue, hart_of, stored_by, written_by, own_store, own_stores, lands, pending, write_of}
use Rattle.step_machine.specs.Names.{landed_after, landed, opening_byte, memory_byte, memory_word, read, WritesWord, AllWriteWords, OpensWithWords}
use Rattle.step_machine.specs.Names.{word_in_memory, word_read, Stored, FitStored, buffer_of, found}
use Rattle.step_machine.proofs.Appended.{landed-last}
use Rattle.std.proofs.lemmas.Option.{slice_get_read, get_or_from_slice_get}

store_whole : (b : Bool) (x : Access) → WritesWord x → All IsWholeWord (stored_by b x)
store_whole b x is = grind (arith, All-cons, All-nil)

pub stores-whole : (h : ℕ) (es : List Entry) → AllWriteWords es → All IsWholeWord (own_stores h es)
stores-whole h [] all = All-nil IsWholeWord
stores-whole h (e ∷ es) all = All-append IsWholeWord (own_store h e) (own_stores h es)
    (store_whole (hart_of e == h) (access_of e) all.0) (stores-whole h es all.1)

pub pending-whole : (h : ℕ) (es : List Entry) → AllWriteWords es → All IsWholeWord (pending h es)
pending-whole h es all = All-drop IsWholeWord (lands h es) (own_stores h es) (stores-whole h es all)

write_whole : (oldest : List Write) (x : Access) → All IsWholeWord oldest → WritesWord x → All IsWholeWord (written_by oldest x)
write_whole oldest x all is = grind (arith, All-cons, All-nil)

pub AllWriteWords-append : (es fs : List Entry) → AllWriteWords es → AllWriteWords fs → AllWriteWords (es ++ fs)
AllWriteWords-append [] fs all more = more
AllWriteWords-append (e ∷ es) fs all more = (all.0, AllWriteWords-append es fs all.1 more)

landed_after-whole : (before es : List Entry) → AllWriteWords before → AllWriteWords es → All IsWholeWord (landed_after before es)
landed_after-whole before [] all more = All-nil IsWholeWord
landed_after-whole before (e ∷ es) all more =
    All-append IsWholeWord (write_of before e) (landed_after (before ++ e ∷ []) es)
    (write_whole (take 1 (pending (hart_of e) before)) (access_of e)
    (All-take IsWholeWord 1 (pending (hart_of e) before) (pending-whole (hart_of e) before all)) more.0)
    (landed_after-whole (before ++ e ∷ []) es (AllWriteWords-append before (e ∷ []) all (more.0, tt)) more.1)

pub landed-whole : (es : List Entry) → AllWriteWords es → All IsWholeWord (landed es)
landed-whole es all = landed_after-whole [] es tt all

-- a byte of the opening, of the word around it
opening_at : (o : OpeningValue) (a i : ℕ) → a % 4 ≡ 0 → i < 4 → opening_byte o (a + i) ≡ byte_at i (slice_index o.words (a / 4))
opening_at o a i aligned lt = grind arith

-- what a hart reads by bytes is the word
pub read-word : (o : OpeningValue) (es : List Entry) (h a : ℕ) → OpensWithWords o → AllWriteWords es → a % 4 ≡ 0 → read o es h a 4 ≡ word_read o es h a
read-word o es h a opens all aligned = grind (arith, joined-same, opening_at, word_reads, landed-whole, pending-whole)

-- and so is the word of memory
pub memory-word : (o : OpeningValue) (es : List Entry) (a : ℕ) → OpensWithWords o → AllWriteWords es → a % 4 ≡ 0 → memory_word o es a ≡ word_in_memory o es a
memory-word o es a opens all aligned =
    joined-same (λ i. memory_byte o es (a + i)) (λ i. unwrap_or (newest_of (a + i) None (landed es)) (byte_at i (slice_index o.words (a / 4)))) 4
    (λ i lt. ap (unwrap_or (newest_of (a + i) None (landed es))) (opening_at o a i aligned lt))
    ∙ word_reads a (slice_index o.words (a / 4)) (landed es) [] aligned (opens (a / 4)) (landed-whole es all) (All-nil IsWholeWord)

-- a word of memory after one more entry, stated without bytes

pub word_in_memory-other : (o : OpeningValue) (es : List Entry) (e : Entry) (a : ℕ) → write_of es e ≡ []
    → word_in_memory o (es ++ e ∷ []) a ≡ word_in_memory o es a
word_in_memory-other o es e a none = ap (λ ws. unwrap_or (newest_word a None ws) (slice_index o.words (a / 4)))
    (landed-last es e ∙ ap (λ ws. landed es ++ ws) none ∙ append-nil (landed es))

pub word_in_memory-write : (o : OpeningValue) (es : List Entry) (e : Entry) (w : Write) (a : ℕ)
    → write_of es e ≡ w ∷ []
    → word_in_memory o (es ++ e ∷ []) a ≡ (if w.addr == a then w.value else word_in_memory o es a)
word_in_memory-write o es e w a is = grind (arith, landed-last, newest_word-last)

-- ---- what a hart finds in the word around an address, after its own pending stores

pub found-in_word : (M : ℕ) (c : Stored) (h a width word seen value : ℕ) (ws : List Write) → FitStored M c
    → h < length c.buffers → ws ≡ get_or c.buffers h ws → word ≡ slice_index c.words ((a - a % 4) / 4)
    → seen ≡ overlaid a word ws → value ≡ joined (λ i. byte_at (a % 4 + i) seen) width → IsInWord width a
    → value ≡ found c h a width
found-in_word M c h a width word seen value ws fit within here word_is seen_is value_is in_word =
    let place : (a - a % 4) / 4 ≡ a / 4 = omega arith in
    let ws_is : ws ≡ buffer_of c h = sym (get_or_from_slice_get c.buffers h ws [] (slice_get_read c.buffers (length c.buffers) h ws refl within here)) in
    let small : All WritesInWord (buffer_of c h) = λ k d lt. (fit.pending h [] within k d lt).0 in
    value_is
    ∙ ap (λ s. joined (λ i. byte_at (a % 4 + i) s) width) (seen_is ∙ ap (overlaid a word) ws_is
    ∙ ap (λ w. overlaid a w (buffer_of c h)) (word_is ∙ ap (slice_index c.words) place))
    ∙ overlaid-part a width c.words (buffer_of c h) small in_word
