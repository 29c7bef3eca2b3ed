-- Store buffers and memory at one moment, and what a hart's need or an entry makes of them: plain functions,
-- which the code of `stores.rt` meets and `proofs/` ties to histories. Of public clauses those about positions alone
-- read them.
use Rattle.std.specs.Prelude.{ℕ, ◌≡◌, ◌+◌, ◌*◌, ◌/◌, ◌<◌, ◌==◌, Bool, true, false, not, ◌&&◌, nat_lt, List, [], ◌∷◌}
use Rattle.std.specs.Prelude.{◌++◌, All, length, drop, map, replicate, slice_index, slice_set, None, unwrap_or}
use Rattle.std.specs.List.{slice_index_or}
use Rattle.memory.specs.Words.{opened_words}
use Rattle.memory.specs.Writes.{write, newest_of, joined, over, byte_of, IsInWord}
use Rattle.hart.specs.Effects.{updated}
use Rattle.hart.specs.declared.need.Need.{Need}
use Rattle.hart.specs.declared.need.Need.TheVariants as need
use Rattle.hart.specs.declared.need.Report.TheVariants as report
use Rattle.step_machine.specs.declared.events.Entry.{Entry}
use Rattle.step_machine.specs.declared.events.Entry.TheVariants as entry
use Rattle.step_machine.specs.declared.events.Outcome.{Outcome}
use Rattle.step_machine.specs.declared.events.Outcome.TheVariants as outcome
use Rattle.memory.specs.declared.writes.Write.{Write}

-- store buffers, one for each hart, and the words of the memory behind them
pub record Stored : Type 0 where
  pub buffers : List (List Write)
  pub words : List ℕ
  -- the words with which the memory opened
  pub first : List ℕ

abbrev pub buffer_of : Stored → ℕ → List Write
buffer_of c h = slice_index_or c.buffers h []

abbrev pub word_at : Stored → ℕ → ℕ
word_at c a = joined (λ i. byte_of c.words (a + i)) 4

-- the byte that hart h finds at an address, and the number in width bytes from there on
abbrev pub found_byte : Stored → ℕ → ℕ → ℕ
found_byte c h a = unwrap_or (newest_of a None (buffer_of c h)) (byte_of c.words a)

abbrev pub found : Stored → ℕ → ℕ → ℕ → ℕ
found c h a width = joined (λ i. found_byte c h (a + i)) width

abbrev pub is_empty : List Write → Bool
is_empty ps = length ps == 0

abbrev pub if_waits : Bool → Entry → Outcome
if_waits true e = outcome.Waited
if_waits false e = outcome.Did e

abbrev pub outcome_for : ℕ → Stored → ℕ → Need → Outcome
outcome_for B c h need.Inner = outcome.Did (entry.Inner h)
outcome_for B c h (need.Load a width) = outcome.Did (entry.Load h a width (found c h a width))
outcome_for B c h (need.Store a width w) = if_waits (not (nat_lt (length (buffer_of c h)) B)) (entry.Store h a width w)
outcome_for B c h (need.Amo a op rs2) = if_waits (not (is_empty (buffer_of c h))) (entry.Amo h a (word_at c a) (updated op (word_at c a) rs2))
outcome_for B c h (need.Fence full) = if_waits (full && not (is_empty (buffer_of c h))) (entry.Fence h full)
outcome_for B c h (need.Next w) = outcome.Did (entry.Next h w)
outcome_for B c h (need.Report (report.Took i w)) = outcome.Did (entry.Took h i w)
outcome_for B c h (need.Report (report.Closed i)) = outcome.Did (entry.Closed h i)
outcome_for B c h need.Exit = outcome.Did (entry.Ended h)
outcome_for B c h (need.Stop why) = outcome.Did (entry.Stopped h why)

-- why nothing lands where nothing is pending, of a hart that is over or goes on
abbrev pub land_in : List Write → ℕ → Bool → Outcome
land_in [] h true = outcome.Over
land_in [] h false = outcome.NothingToLand
land_in (p ∷ ps) h over = outcome.Did (entry.Land h)

-- the words after a write
abbrev pub written : Write → List ℕ → List ℕ
written w words = slice_set words (w.addr / 4) (over w (slice_index words (w.addr / 4)))

abbrev pub write_first : List Write → List ℕ → List ℕ
write_first [] words = words
write_first (w ∷ ws) words = written w words

-- what an entry makes of buffers and words
abbrev pub stored_after : Stored → Entry → Stored
stored_after s (entry.Store h a width v) = record s { buffers = slice_set s.buffers h (buffer_of s h ++ write a width v ∷ []) }
stored_after s (entry.Amo h a old new) = record s { words = written (write a 4 new) s.words }
stored_after s (entry.Land h) = record s { buffers = slice_set s.buffers h (drop 1 (buffer_of s h)); words = write_first (buffer_of s h) s.words }
stored_after s other = s

abbrev pub stored_after_outcome : Stored → Outcome → Stored
stored_after_outcome s (outcome.Did e) = stored_after s e
stored_after_outcome s other = s

abbrev pub HasAddress : ℕ → Write → Type 0
HasAddress M w = IsInWord w.width w.addr × (w.addr < 4 * M)

abbrev pub InMemory : ℕ → List Write → Type 0
InMemory M ps = All (HasAddress M) ps

-- a memory and its opening of M words, and pending stores to addresses of words
pub record FitStored (M : ℕ) (s : Stored) : Type 0 where
  pub words : length s.words ≡ M
  pub first : length s.first ≡ M
  pub pending : All (InMemory M) s.buffers

-- what an opening gives
abbrev pub opened_stored : ℕ → List ℕ → ℕ → Stored
opened_stored M first harts = record {
  buffers = replicate harts [];
  words = opened_words M first;
  first = opened_words M first;
}

abbrev pub no_stores : List Write → List Write
no_stores ps = []

-- empty buffers, and the words with which the memory opened
abbrev pub restarted_stored : Stored → Stored
restarted_stored s = record s { buffers = map no_stores s.buffers; words = s.first }
