-- The state text: a line for each hart and for each of its registers that isn't 0, and then a line for
-- each word of memory that isn't 0.
use Rattle.std.specs.Prelude.{ℕ, ◌*◌, ◌==◌, if◌then◌else◌, List, [], ◌∷◌, ◌++◌, length, slice_index, Option, Some, None, codes}
use Rattle.std.specs.List.{flat_map, range_with_len}
use Rattle.std.specs.Fmt.{decimal}
use Rattle.hart.specs.State.{HartState}
use Rattle.hart.specs.Steps.{stop_number}
use Rattle.hart.specs.declared.status.Status.{Status}
use Rattle.hart.specs.declared.status.Status.TheVariants.{Running, Ended, Stopped}
use Rattle.step_machine.specs.History.{History}
use Rattle.step_machine.specs.Entries.{pending, memory_word}
use Rattle.step_machine.specs.Paths.{state_of}

abbrev pub status_text : Status → List ℕ
status_text Running = codes "running"
status_text Ended = codes "ended"
status_text (Stopped why) = codes "stopped " ++ decimal (stop_number why)

-- a hart's line: its number, its status, its pc, and how many of its stores are pending
abbrev pub hart_line : (hart : ℕ) → Status → (pc count : ℕ) → List ℕ
hart_line hart status pc count = codes "hart " ++ decimal hart ++ codes " " ++ status_text status ++ codes " pc "
    ++ decimal pc ++ codes " pending " ++ decimal count ++ 10 ∷ []

-- a register's line; a register that is 0 has none
abbrev pub register_line : (number value : ℕ) → List ℕ
register_line number value = if value == 0 then [] else (codes "x" ++ decimal number ++ codes " = " ++ decimal value ++ 10 ∷ [])

-- a word's line, with its address in bytes; a word that is 0 has none
abbrev pub word_line : (addr value : ℕ) → List ℕ
word_line addr value = if value == 0 then [] else (codes "word " ++ decimal addr ++ codes " = " ++ decimal value ++ 10 ∷ [])

-- the lines of a state's first registers, from x0
unfoldable pub registers_shown : Option HartState → (count : ℕ) → List ℕ
registers_shown None count = []
registers_shown (Some s) count = flat_map (λ n. register_line n (slice_index s.registers n)) (range_with_len 0 count)

-- the lines of a hart in this state, with this number of pending stores
unfoldable pub hart_text : (hart : ℕ) → Option HartState → (pending : ℕ) → List ℕ
hart_text hart None count = []
hart_text hart (Some s) count = hart_line hart s.status s.pc count ++ registers_shown (Some s) 32

-- a hart's lines
unfoldable pub hart_shown : ℕ → History → (hart : ℕ) → List ℕ
hart_shown M t hart = hart_text hart (state_of M t hart) (length (pending hart t.entries))

-- the lines of a history's first harts
unfoldable pub harts_shown : ℕ → History → (count : ℕ) → List ℕ
harts_shown M t count = flat_map (hart_shown M t) (range_with_len 0 count)

-- the lines of the first words of memory
unfoldable pub words_shown : History → (count : ℕ) → List ℕ
words_shown t count = flat_map (λ k. word_line (4 * k) (memory_word t.opening t.entries (4 * k))) (range_with_len 0 count)

-- the state text of a history over a memory of M words
unfoldable pub shown : ℕ → History → List ℕ
shown M t = harts_shown M t (length t.opening.harts) ++ words_shown t M
