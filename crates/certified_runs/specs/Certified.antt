-- What has to be shown of sets of states, one for each hart, so that every run stays in them and keeps a protocol: of one instruction
-- of one hart at a time, and of no run. There are no calls: all code is ordinary.
use Rattle.std.specs.Prelude.{ℕ, ◌≡◌, ◌≢◌, ◌<◌, false, Some, length, slice_index}
use Rattle.std.specs.List.{slice_get}
use Rattle.hart.specs.State.{HartState}
use Rattle.hart.specs.Steps.{advanced}
use Rattle.step_machine.specs.declared.events.Entry.{Entry}
use Rattle.step_machine.specs.Access.{Access, access_of}
use Rattle.step_machine.specs.History.{HartOpeningValue, OpeningValue}
use Rattle.step_machine.specs.Entries.{hart_of, is_land, opening_byte}
use Rattle.step_machine.specs.Paths.{number_read, CanMake, opens_as}
use Rattle.store_buffers.specs.StoreBuffers.{LeavesByteBy}
use Rattle.certified_runs.specs.Views.{View, ReadsFrom, view_then}

-- hart h, in state s with view m, may make this entry. Its code is that of its opening, and its memory has M words
pub record Acts (M : ℕ) (o : OpeningValue) (h : ℕ) (s : HartState) (m : View) (e : Entry) : Type 0 where
  pub mine : hart_of e ≡ h
  pub act : is_land e ≡ false
  pub can : CanMake s e
  pub reads : ReadsFrom m (access_of e)
  pub bytes : (x : ℕ) → m x < 256
  pub opens : HartOpeningValue
  pub is : slice_get o.harts h ≡ Some opens
  pub code : s.code ≡ opens.code
  pub words : s.words ≡ M
  pub size : length s.registers ≡ length opens.registers
  pub zero : slice_index s.registers 0 ≡ 0

-- A protocol by counts of what was done: what an access of hart h makes of them; which counts are the same as far as hart h knows
-- them; which accesses it may make; what it may take for granted of what it reads; and which bytes only hart h writes at these counts
pub record Protocol (Counts : Type 0) : Type 1 where
  pub next : (h : ℕ) → Access → Counts → Counts
  pub IsSame : (h : ℕ) → Counts → Counts → Type 0
  pub May : (h : ℕ) → Counts → Access → Type 0
  pub Knows : (h : ℕ) → Counts → View → Type 0
  pub Owns : (h : ℕ) → Counts → (x : ℕ) → Type 0

-- of no protocol nothing is asked
abbrev pub no_protocol : Protocol (Unit {0})
no_protocol = record {
  next = λ h y c. c;
  IsSame = λ h c d. Unit {0};
  May = λ h c y. Unit {0};
  Knows = λ h c m. Unit {0};
  Owns = λ h c x. ⊥;
}

-- These sets P of states, views and counts of each hart hold whatever a run leads to, where `Own h x` says that the byte at x is hart
-- h's own, so that no other hart writes it, and `start` are the counts of the opening
pub record IsCertified {Counts : Type 0} (M : ℕ) (o : OpeningValue) (p : Protocol Counts) (start : Counts) (Own : ℕ → ℕ → Type 0)
    (P : ℕ → HartState → View → Counts → Type 0) : Type 0 where
  -- a set says nothing of bytes that aren't the hart's own, always or at these counts, and nothing of counts that it doesn't know
  pub frame : (h : ℕ) (s : HartState) (m n : View) (c d : Counts) → P h s m c → ((x : ℕ) → Own h x → n x ≡ m x)
      → ((x : ℕ) → p.Owns h c x → n x ≡ m x) → p.IsSame h c d → P h s n d
  -- each hart opens in its set
  pub opens : (h : ℕ) (x : HartOpeningValue) → slice_get o.harts h ≡ Some x → P h (opens_as M x) (opening_byte o) start
  -- an instruction leads from the set into it,
  pub steps : (h : ℕ) (s : HartState) (m : View) (c : Counts) (e : Entry) → P h s m c → Acts M o h s m e → p.Knows h c m
      → P h (advanced s (number_read e)) (view_then (access_of e) m) (p.next h (access_of e) c)
  -- keeps the protocol,
  pub keeps : (h : ℕ) (s : HartState) (m : View) (c : Counts) (e : Entry) → P h s m c → Acts M o h s m e → p.Knows h c m → p.May h c (access_of e)
  -- and writes no byte that is another hart's own
  pub apart : (h : ℕ) (s : HartState) (m : View) (c : Counts) (e : Entry) → P h s m c → Acts M o h s m e → p.Knows h c m → (g x : ℕ) → g ≢ h → Own g x
      → LeavesByteBy x (access_of e)
