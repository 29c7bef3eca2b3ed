-- The lines of an answer where a certificate is accepted, as values: which there are. What each means is `LineMeans`, its words are `words`.
use Rattle.std.specs.Prelude.{ℕ, zero, suc, ◌+◌, ◌&&◌, ◌||◌, not, Bool, true, false, List, [], ◌∷◌, ◌++◌, length, Option, Some, None, is_some}
use Rattle.step_machine.specs.History.{OpeningValue}
use Rattle.slot_queue.specs.Queues.{Queue}
use Rattle.queue_certificates.specs.Certificates.{QueueCertificate}
use Rattle.queue_certificates.specs.Steps.{all_below}
use Rattle.hart_safety.specs.Shared.{Shared, shared_of}
use Rattle.hart_safety.specs.Touched.{Touched, touched_of}
use Rattle.certifying.specs.Endings.{all_endings, always_runs, both_run, endings_at, neither_stops, never_stops}
use Rattle.certifying.specs.Queues.{number_in, queue_count, slots_at}
use Rattle.certifying.specs.Questions.{Questions}
use Rattle.certifying.specs.Records.{are_once, are_read, are_written, doing_hart}
use Rattle.certifying.specs.Together.{both_in, party_in}
use Rattle.certifying.specs.Unread.{first_unread}
use Rattle.certifying.specs.declared.endings.Endings.{Endings}
use Rattle.certifying.specs.declared.judgement.Judgement.{Judgement}
use Rattle.certifying.specs.declared.judgement.Judgement.TheVariants.{Kept, ReadsNotShown, ProgressNotShown, AskedNotShown, NotShown}
use Rattle.certifying.specs.declared.records.Deed.{Deed}
use Rattle.certifying.specs.declared.records.Deed.TheVariants.{Writes, Reads, ReadsOnce}
use Rattle.certifying.specs.declared.records.QueueRecords.{QueueRecords}
use Rattle.certifying.specs.declared.records.Records.{Records}
use Rattle.certifying.specs.declared.together.Both.{Both}
use Rattle.certifying.specs.declared.together.PartyProgress.{PartyProgress}
use Rattle.certifying.specs.declared.unread.Unread.{Unread}

pub data AnswerLine : Type 0 where
  -- the first: kept, with all that was asked; not all of it; not whether queues go on; not that a load is of an owned slot
  is_kept : (goes : Bool) → AnswerLine
  not_all_shown : AnswerLine
  not_going : AnswerLine
  not_owned : Unread → AnswerLine
  -- what the queues are
  the_queues : AnswerLine
  -- of queue i: what is found of a party; that both move on, with their lines; that every run can go on; that they aren't shown to move on
  the_party : (i : ℕ) (sends : Bool) → PartyProgress → AnswerLine
  move_on : (i : ℕ) → Both → AnswerLine
  can_move : (i : ℕ) (unstopped run : Bool) → AnswerLine
  may_wait : (i : ℕ) (sender receiver : PartyProgress) → AnswerLine
  -- what is found of its records, if that is asked of these bytes
  the_records : Deed → (i : ℕ) (asked : Option (List ℕ)) → Records → AnswerLine
  -- of hart h: the first state that may stop it; whether it never ends; what it stores to, or loads
  stopped_at : (h : ℕ) → Option ℕ → AnswerLine
  never_ends : (h : ℕ) (never : Bool) → AnswerLine
  it_touches : (stores : Bool) (h : ℕ) → Touched → AnswerLine
  -- what all of them share
  they_share : Shared → AnswerLine
  -- what is promised of each queue, and what isn't
  the_protocol : (owned : Bool) → AnswerLine
  the_limits : (owned read written goes : Bool) → AnswerLine

-- ---- whether queues go on

unfoldable pub party_at : OpeningValue → QueueCertificate → (i : ℕ) → (sends : Bool) → PartyProgress
party_at o c i sends = party_in o c (number_in c i) (doing_hart c sends i)

unfoldable pub both_at : OpeningValue → QueueCertificate → (i : ℕ) → Option Both
both_at o c i = both_in (slots_at c i).capacity (party_at o c i true) (party_at o c i false)

abbrev pub lines_by : List Endings → (i : ℕ) → Queue → (sender receiver : PartyProgress) → Option Both → List AnswerLine
lines_by ends i q s r (Some both) = move_on i both
    ∷ can_move i (neither_stops (endings_at ends q.sender) (endings_at ends q.receiver)) (both_run (endings_at ends q.sender) (endings_at ends q.receiver)) ∷ []
lines_by ends i q s r None = the_party i true s ∷ the_party i false r ∷ may_wait i s r ∷ []

unfoldable pub going_lines : OpeningValue → QueueCertificate → List Endings → (i : ℕ) → List AnswerLine
going_lines o c ends i = lines_by ends i (slots_at c i) (party_at o c i true) (party_at o c i false) (both_at o c i)

abbrev pub is_going : OpeningValue → QueueCertificate → (i : ℕ) → Bool
is_going o c i = is_some (both_at o c i)

abbrev pub lines_below : (n : ℕ) → (ℕ → List AnswerLine) → List AnswerLine
lines_below zero lines = []
lines_below (suc n) lines = lines_below n lines ++ lines n

-- of all queues, if it is asked
abbrev pub all_going_lines : OpeningValue → QueueCertificate → List Endings → (asked : Bool) → List AnswerLine
all_going_lines o c ends true = lines_below (queue_count c) (going_lines o c ends)
all_going_lines o c ends false = []

-- it is shown
abbrev pub all_going : OpeningValue → QueueCertificate → (asked : Bool) → Bool
all_going o c true = all_below (queue_count c) (is_going o c)
all_going o c false = true

-- ---- records

-- of each queue, from queue i on
abbrev pub records_from : Questions → (i : ℕ) → List QueueRecords → List AnswerLine
records_from asked i [] = []
records_from asked i (its ∷ found) = the_records Writes i asked.written its.written ∷ the_records Reads i asked.read its.read
    ∷ the_records ReadsOnce i asked.once its.once ∷ records_from asked (i + 1) found

-- ---- harts, by where each may be stopped, and where it may end

unfoldable pub hart_lines : OpeningValue → QueueCertificate → List Endings → (h : ℕ) → List AnswerLine
hart_lines o c ends h = stopped_at h (endings_at ends h).stop ∷ never_ends h (always_runs (endings_at ends h))
    ∷ it_touches true h (touched_of true o c h) ∷ it_touches false h (touched_of false o c h) ∷ []

unfoldable pub is_safe : OpeningValue → QueueCertificate → List Endings → (h : ℕ) → Bool
is_safe o c ends h = never_stops (endings_at ends h) && not (is_some (touched_of true o c h).unbounded)

-- if they are asked about
abbrev pub harts_lines : OpeningValue → QueueCertificate → List Endings → (asked : Bool) → List AnswerLine
harts_lines o c ends true = lines_below (length o.harts) (hart_lines o c ends) ++ they_share (shared_of o c) ∷ []
harts_lines o c ends false = []

-- all of it is shown, except what they load, and what they share
abbrev pub harts_safe : OpeningValue → QueueCertificate → List Endings → (asked : Bool) → Bool
harts_safe o c ends true = all_below (length o.harts) (is_safe o c ends)
harts_safe o c ends false = true

-- ---- all of them

-- all is shown that was asked besides whether the queues go on
abbrev pub all_shown : List QueueRecords → (safe : Bool) → Bool
all_shown found safe = ((are_written found && are_read found) && are_once found) && safe

-- the first, by whether it is shown that the queues go on, if that is asked, and all else; and by the first load that isn't of an owned slot
abbrev pub first_line : (progress goes all : Bool) → Option Unread → AnswerLine
first_line progress goes all (Some unread) = not_owned unread
first_line progress false all None = not_going
first_line progress true false None = not_all_shown
first_line progress true true None = is_kept progress

abbrev pub judgement_of : AnswerLine → Judgement
judgement_of (is_kept goes) = Kept
judgement_of not_all_shown = AskedNotShown
judgement_of not_going = ProgressNotShown
judgement_of (not_owned unread) = ReadsNotShown
judgement_of other = NotShown

abbrev pub limits : Questions → List QueueRecords → (owned goes : Bool) → AnswerLine
limits asked found owned goes =
    the_limits owned (is_some asked.read && are_read found) (is_some asked.written && are_written found) (asked.progress && goes)

-- where harts may be stopped, and where they may end, is asked where one line or another says something of it
abbrev pub asks_endings : Questions → Bool
asks_endings asked = asked.progress || asked.harts

abbrev pub ends_asked : (M : ℕ) → Questions → OpeningValue → QueueCertificate → List Endings
ends_asked M asked o c = all_endings M o c (asks_endings asked)

-- the first line, with M words of memory, by what is found of records
abbrev pub first_line_of : (M : ℕ) → Questions → OpeningValue → QueueCertificate → List QueueRecords → AnswerLine
first_line_of M asked o c found = first_line asked.progress (all_going o c asked.progress)
    (all_shown found (harts_safe o c (ends_asked M asked o c) asked.harts)) (first_unread o c)

-- and those after it, except the last two
abbrev pub asked_lines : (M : ℕ) → Questions → OpeningValue → QueueCertificate → List QueueRecords → List AnswerLine
asked_lines M asked o c found = all_going_lines o c (ends_asked M asked o c) asked.progress
    ++ (records_from asked 0 found ++ harts_lines o c (ends_asked M asked o c) asked.harts)

abbrev pub answer_lines : (M : ℕ) → Questions → OpeningValue → QueueCertificate → List QueueRecords → List AnswerLine
answer_lines M asked o c found = first_line_of M asked o c found ∷ the_queues ∷ (asked_lines M asked o c found
    ++ the_protocol (not (is_some (first_unread o c))) ∷ limits asked found (not (is_some (first_unread o c))) (all_going o c asked.progress) ∷ [])
