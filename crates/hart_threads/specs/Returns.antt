-- What running harts on threads answers, by the seats that were given.
use Rattle.std.specs.Prelude.{ℕ, ◌≡◌, ◌≤◌, ◌<◌, ◌⊎◌, List, ◌++◌, length, All, IsSomeAnd}
use Rattle.std.specs.List.{AllZip}
use Rattle.step_machine.specs.declared.events.Entry.{Entry}
use Rattle.step_machine.specs.History.{OpeningValue}
use Rattle.step_machine.specs.Paths.{state_of}
use Rattle.poll_close.specs.Layout.{Layout, dense}
use Rattle.poll_close.specs.Laws.{Ring, opening_over, AcceptedAt}
use Rattle.poll_close.specs.Refusals as refusals
use Rattle.poll_close.specs.declared.faults.Refused.TheVariants.{NoMemory}
use Rattle.hart_threads.specs.Seats.{SeatView, AsksBank, Continues, seats_of}
use Rattle.hart_threads.specs.Missing.{is_missing, IsFirst, IsComplete}
use Rattle.hart_threads.specs.Parts.{part_of}
use Rattle.hart_threads.specs.Records.{IsRecord, IsMismatch}
use Rattle.hart_threads.specs.Faults.{channel_fault_at}
use Rattle.hart_threads.specs.GettingOn.{OpensAs}
use Rattle.hart_threads.specs.declared.record.Record.{Record}
use Rattle.hart_threads.specs.declared.fault.Fault.{Fault}
use Rattle.hart_threads.specs.declared.fault.Fault.TheVariants as fault
use Rattle.hart_threads.specs.declared.fault.ChannelFault.{ChannelFault}
use Rattle.hart_threads.specs.declared.fault.ChannelFault.TheVariants as channel
use Rattle.hart_threads.specs.declared.fault.ChannelFaultAt.{ChannelFaultAt}
use Rattle.hart_threads.specs.declared.fault.ChannelFaultAt.TheVariants as channel_at

-- the seat's diary is a beginning of its part of the entries, which has at most n entries more
pub record GrowsInto (n : ℕ) (es : List Entry) (s : SeatView) : Type 0 where
  pub more : List Entry
  pub whole : part_of s es ≡ s.diary ++ more
  pub few : length more ≤ n

-- each hart has its two seats, and each seat's diary grows by at most n entries into its part
pub record IsMerged (n : ℕ) (o : OpeningValue) (es : List Entry) (given : List SeatView) : Type 0 where
  pub complete : IsComplete (length o.harts) given
  pub parts : All (GrowsInto n es) given

-- An act of hart h, one of the opening's, found no such hart in the bank, though the seats make a record. What a
-- contract can say of that is in the record: at its end hart h is over or asks for memory next. That no lesser
-- hart was lost isn't in it, since no contract sees what the bank answered.
pub record IsLost (B M n : ℕ) (o : OpeningValue) (given : List SeatView) (h : ℕ) : Type 0 where
  pub within : h < length o.harts
  pub made : Record B M
  pub record_of : IsRecord B M o made
  pub merge : IsMerged n o made.trace.entries given
  pub asks : All (OpensAs M o) given → IsSomeAnd (state_of M made.trace h) AsksBank

-- The seats are all there. They come back, each with at most n entries more in its diary, and gathering those is
-- refused: of hart h, the least such hart, a diary doesn't belong to these memory entries.
pub record IsMismatched (B M n : ℕ) (o : OpeningValue) (given : List SeatView) (h : ℕ) (us : List Entry) : Type 0 where
  pub complete : IsComplete (length o.harts) given
  pub within : h < length o.harts
  pub back : List SeatView
  pub come : AllZip (Continues n) given back
  pub refused : IsMismatch B M o back h us

-- why there is no record after n turns or less; where a seat is missing, that is the answer
abbrev pub Fails : ℕ → ℕ → ℕ → OpeningValue → List SeatView → Fault → Type 0
Fails B M n o given fault.NoMemory = IsComplete (length o.harts) given
Fails B M n o given fault.NoThread = IsComplete (length o.harts) given
Fails B M n o given (fault.Missing h) = IsFirst (is_missing (length o.harts) given) h ⊎ IsLost B M n o given h
Fails B M n o given (fault.Mismatch h es) = IsMismatched B M n o given h es.items

-- ---- a channel on threads

-- why threads over an opening, with seats that have done nothing, give no record and no reports after n turns
-- or less
abbrev pub RecordFails : ℕ → ℕ → ℕ → OpeningValue → ChannelFault → Type 0
RecordFails B M n o (channel.Lists refused) = refused ≡ NoMemory
RecordFails B M n o (channel.Threads fault) = Fails B M n o (seats_of M o) fault

-- why a channel over these lists in a layout delivers nothing
abbrev pub ChannelFailsAt : Ring → ℕ → ℕ → ℕ → List (List ℕ) → Layout → ChannelFaultAt → Type 0
ChannelFailsAt ring B M n lists l (channel_at.Place refused) = refusals.RefusesAt ring M lists l refused
ChannelFailsAt ring B M n lists l (channel_at.Threads fault) =
    AcceptedAt ring M lists l × Fails B M n (opening_over ring lists l) (seats_of M (opening_over ring lists l)) fault

-- and why one with rings of S slots in the dense layout does
abbrev pub ChannelFails : Ring → ℕ → ℕ → ℕ → List (List ℕ) → ℕ → ChannelFault → Type 0
ChannelFails ring B M n lists S fault = ChannelFailsAt ring B M n lists (dense S) (channel_fault_at fault)
