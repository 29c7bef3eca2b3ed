-- One hart's path: the states that its own entries lead through, and that each entry is the one that
-- its state makes. One hart alone: no memory and no other hart is in it, and what its loads and AMOs
-- read is free.
use Rattle.std.specs.Prelude.{ℕ, ◌≡◌, List, [], ◌∷◌, Option, Some, None, option_map, slice_index}
use Rattle.std.specs.List.{slice_get}
use Rattle.hart.specs.State.{HartState}
use Rattle.hart.specs.Steps.{first_state, need_of, advanced}
use Rattle.hart.specs.Effects.{updated}
use Rattle.hart.specs.declared.status.Status.{Status}
use Rattle.hart.specs.declared.status.Status.TheVariants as status
use Rattle.hart.specs.declared.need.Need.{Need}
use Rattle.hart.specs.declared.need.Need.TheVariants as need
use Rattle.hart.specs.declared.need.Report.TheVariants as report
use Rattle.step_machine.specs.declared.events.Entry.{Entry}
use Rattle.step_machine.specs.declared.events.Entry.TheVariants as entry
use Rattle.step_machine.specs.History.{HartOpeningValue, History}
use Rattle.step_machine.specs.Entries.{hart_of, own}

-- the entry by which hart h does what its next instruction wants, when v is the number read
abbrev pub entry_of : ℕ → Need → ℕ → Entry
entry_of h need.Inner v = entry.Inner h
entry_of h (need.Load a width) v = entry.Load h a width v
entry_of h (need.Store a width w) v = entry.Store h a width w
entry_of h (need.Amo a op rs2) v = entry.Amo h a v (updated op v rs2)
entry_of h (need.Fence full) v = entry.Fence h full
entry_of h (need.Next w) v = entry.Next h w
entry_of h (need.Report (report.Took i w)) v = entry.Took h i w
entry_of h (need.Report (report.Closed i)) v = entry.Closed h i
entry_of h need.Exit v = entry.Ended h
entry_of h (need.Stop why) v = entry.Stopped h why

-- the number that an entry read, and 0 where it read none
abbrev pub number_read : Entry → ℕ
number_read (entry.Load h a width v) = v
number_read (entry.Amo h a old new) = old
number_read other = 0

-- the number that an entry read, if it read one
abbrev pub read_of : Entry → Option ℕ
read_of (entry.Load h a width v) = Some v
read_of (entry.Amo h a old new) = Some old
read_of other = None

-- a running hart in this state can make this entry
pub record CanMake (s : HartState) (e : Entry) : Type 0 where
  pub running : s.status ≡ status.Running
  pub made : e ≡ entry_of (hart_of e) (need_of s) (number_read e)

-- the state after these entries of the hart's own
abbrev pub after_entries : HartState → List Entry → HartState
after_entries s [] = s
after_entries s (e ∷ es) = after_entries (advanced s (number_read e)) es

-- each of these entries is the one that the state before it makes
abbrev pub MakesEntries : HartState → List Entry → Type 0
MakesEntries s [] = Unit {0}
MakesEntries s (e ∷ es) = CanMake s e × MakesEntries (advanced s (number_read e)) es

abbrev pub opens_as : ℕ → HartOpeningValue → HartState
opens_as M o = first_state o.code o.registers o.inbox M

-- the state of hart h after all its own entries, where h is a hart
abbrev pub state_of : ℕ → History → ℕ → Option HartState
state_of M t h = option_map (λ o. after_entries (opens_as M o) (own h t.entries)) (slice_get t.opening.harts h)

-- the status, the pc and a register in that state
abbrev pub IsStatus : ℕ → History → ℕ → Status → Type 0
IsStatus M t h x = option_map (λ s. s.status) (state_of M t h) ≡ Some x

abbrev pub IsPc : ℕ → History → ℕ → ℕ → Type 0
IsPc M t h pc = option_map (λ s. s.pc) (state_of M t h) ≡ Some pc

abbrev pub IsRegister : ℕ → History → ℕ → ℕ → ℕ → Type 0
IsRegister M t h number word = option_map (λ s. slice_index s.registers number) (state_of M t h) ≡ Some word

abbrev pub PathOf : ℕ → Option HartOpeningValue → List Entry → Type 0
PathOf M None es = ⊥
PathOf M (Some o) es = MakesEntries (opens_as M o) es

-- h is a hart, and its own entries are a path from its opening
abbrev pub Path : ℕ → History → ℕ → Type 0
Path M t h = PathOf M (slice_get t.opening.harts h) (own h t.entries)
