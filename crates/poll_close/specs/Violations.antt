-- What the entries of a channel's run break, one after the other: a clean report, that no hart is stopped, or
-- that each touches its blocks alone.
use Rattle.std.specs.Prelude.{ℕ, zero, suc, ◌≡◌, ◌+◌, ◌==◌, ◌&&◌, ◌||◌, Bool, false, nat_lt, nat_le, if◌then◌else◌, List, [], ◌∷◌, ◌++◌}
use Rattle.std.specs.Prelude.{length, Option, Some, None}
use Rattle.std.specs.List.{slice_get, slice_index_or}
use Rattle.hart.specs.declared.need.Report.{Report}
use Rattle.hart.specs.declared.need.Report.TheVariants as report
use Rattle.step_machine.specs.declared.events.Entry.{Entry}
use Rattle.step_machine.specs.declared.events.Entry.TheVariants as entry
use Rattle.step_machine.specs.Entries.{reported}
use Rattle.poll_close.specs.Layout.{block_size, Layout, base_of, AllTouch}
use Rattle.poll_close.specs.Reports.{taken, Clean}
use Rattle.poll_close.specs.Plans.{is_closed}
use Rattle.poll_close.specs.Laws.{AllGoOn}
use Rattle.poll_close.specs.declared.clean.Share.{Share}
use Rattle.poll_close.specs.declared.clean.Violation.{Violation}
use Rattle.poll_close.specs.declared.clean.Violation.TheVariants as violation

-- the word is the next one of its sender's list, if there is one
abbrev pub word_violation : (sender word : ℕ) → (next : Option ℕ) → Option Violation
word_violation i w None = Some (violation.AfterWhole i w)
word_violation i w (Some next) = if w == next then None else Some (violation.Another i w next)

-- a word of a sender with this list, after these words of it
abbrev pub took_violation : (list gone : List ℕ) → (closed : Bool) → (sender word : ℕ) → Option Violation
took_violation list gone closed i w = if closed then Some (violation.AfterClosed i w) else word_violation i w (slice_get list (length gone))

-- the end of a sender with this list, after these words of it
abbrev pub closed_violation : (list gone : List ℕ) → (closed : Bool) → (sender : ℕ) → Option Violation
closed_violation list gone closed i =
    if closed then Some (violation.ClosedAgain i)
    else (if nat_lt (length gone) (length list) then Some (violation.ClosedEarly i (length gone) (length list)) else None)

-- what a report breaks, after the reports before it
abbrev pub report_violation : (lists : List (List ℕ)) → (before : List Report) → Report → Option Violation
report_violation lists before (report.Took i w) =
    if nat_lt i (length lists) then took_violation (slice_index_or lists i []) (taken before i) (is_closed before i) i w
    else Some (violation.TookOfNone i w)
report_violation lists before (report.Closed i) =
    if nat_lt i (length lists) then closed_violation (slice_index_or lists i []) (taken before i) (is_closed before i) i
    else Some (violation.ClosedNone i)

-- the bytes from a on are within this block, which is the hart's
abbrev pub is_within : Layout → (hart a width block : ℕ) → Bool
is_within l h a width block = (h == 0 || h == block + 1) && nat_le (base_of l block) a && nat_le (a + width) (base_of l block + block_size l.size)

-- the bytes from a on are within a block of the hart's, of n blocks
abbrev pub stays_within : Layout → (n hart a width : ℕ) → Bool
stays_within l zero h a width = false
stays_within l (suc n) h a width = is_within l h a width n || stays_within l n h a width

-- what an entry breaks, after the entries before it
abbrev pub violation_of : Layout → (lists : List (List ℕ)) → (before : List Entry) → Entry → Option Violation
violation_of l lists before (entry.Took h i w) = if h == 0 then report_violation lists (reported 0 before) (report.Took i w) else None
violation_of l lists before (entry.Closed h i) = if h == 0 then report_violation lists (reported 0 before) (report.Closed i) else None
violation_of l lists before (entry.Stopped h why) = Some (violation.Stopped h why)
violation_of l lists before (entry.Load h a width v) = if stays_within l (length lists) h a width then None else Some (violation.LoadedOutside h a)
violation_of l lists before (entry.Store h a width v) = if stays_within l (length lists) h a width then None else Some (violation.StoredOutside h a)
violation_of l lists before (entry.Amo h a old new) = if stays_within l (length lists) h a 4 then None else Some (violation.ExchangedOutside h a)
violation_of l lists before (entry.Inner h) = None
violation_of l lists before (entry.Fence h full) = None
violation_of l lists before (entry.Next h w) = None
violation_of l lists before (entry.Ended h) = None
violation_of l lists before (entry.Land h) = None

-- the first one that there is
abbrev pub or_later : Option Violation → Option Violation → Option Violation
or_later (Some found) later = Some found
or_later None later = later

-- the first violation among entries, after the entries before them
abbrev pub violation_after : Layout → (lists : List (List ℕ)) → (before es : List Entry) → Option Violation
violation_after l lists before [] = None
violation_after l lists before (e ∷ es) = or_later (violation_of l lists before e) (violation_after l lists (before ++ e ∷ []) es)

abbrev pub first_violation : Layout → (lists : List (List ℕ)) → List Entry → Option Violation
first_violation l lists es = violation_after l lists [] es

-- what a ring must keep, by the definitions that its theorem has
pub record IsKept (l : Layout) (lists : List (List ℕ)) (es : List Entry) : Type 0 where
  pub clean : Clean (reported 0 es) lists
  pub goes : AllGoOn es
  pub touches : AllTouch l (length lists) es

-- what is noted of senders, from sender 0 on, after these reports: how many words of each were taken, and whether it
-- is closed
pub record AreNotes (rs : List Report) (shares : List Share) : Type 0 where
  pub taken : (i : ℕ) (s : Share) → slice_get shares i ≡ Some s → s.taken ≡ length (taken rs i)
  pub closed : (i : ℕ) (s : Share) → slice_get shares i ≡ Some s → s.closed ≡ is_closed rs i

-- these reports are clean, and noted of each sender
pub record IsNoted (lists : List (List ℕ)) (rs : List Report) (shares : List Share) : Type 0 where
  pub clean : Clean rs lists
  pub notes : AreNotes rs shares
  pub count : length shares ≡ length lists
