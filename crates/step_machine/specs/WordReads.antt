-- Lists whose stores and AMOs are all of whole words. What is read there at a multiple of 4 is stated
-- without bytes: the newest pending store to that address, else the last write to it, else the opening's
-- word.
use Rattle.std.specs.Prelude.{ℕ, ◌/◌, ◌^◌, ◌<◌, List, [], ◌∷◌, None, slice_index, unwrap_or}
use Rattle.memory.specs.Writes.{write, newest_word, IsWholeWord}
use Rattle.step_machine.specs.declared.events.Entry.{Entry}
use Rattle.step_machine.specs.Access.{Access, store, exchange, access_of}
use Rattle.step_machine.specs.History.{OpeningValue}
use Rattle.step_machine.specs.Entries.{pending, landed}

-- an access that writes, if it does, a whole word
abbrev pub WritesWord : Access → Type 0
WritesWord (store w) = IsWholeWord w
WritesWord (exchange a old new) = IsWholeWord (write a 4 new)
WritesWord a = Unit {0}

abbrev pub AllWriteWords : List Entry → Type 0
AllWriteWords [] = Unit {0}
AllWriteWords (e ∷ es) = WritesWord (access_of e) × AllWriteWords es

-- each word of the opening has 32 bits at most
abbrev pub OpensWithWords : OpeningValue → Type 0
OpensWithWords o = (i : ℕ) → slice_index o.words i < 2 ^ 32

-- the word of memory at a multiple of 4, and what a hart reads there
abbrev pub word_in_memory : OpeningValue → List Entry → ℕ → ℕ
word_in_memory o es a = unwrap_or (newest_word a None (landed es)) (slice_index o.words (a / 4))

abbrev pub word_read : OpeningValue → List Entry → ℕ → ℕ → ℕ
word_read o es h a = unwrap_or (newest_word a None (pending h es)) (word_in_memory o es a)
