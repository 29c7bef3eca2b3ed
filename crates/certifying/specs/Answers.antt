-- The command `queue`: whether a certificate shows that every run of a litmus text keeps the protocol of its queues, and what is promised then.
use Rattle.std.specs.Prelude.{ℕ, ◌≡◌, ◌⊎◌, ◌==◌, not, Bool, true, false, List, [], ◌∷◌, ◌++◌, length, map, codes, Option, Some, None, is_some, Result, Ok, Err}
use Rattle.step_machine.specs.History.{OpeningValue}
use Rattle.step_machine.specs.declared.events.Event.{Event}
use Rattle.drawn_runs.specs.Samples.{DrawnRuns}
use Rattle.queue_parties.specs.Parties.{all_at}
use Rattle.queue_certificates.specs.Certificates.{QueueCertificate}
use Rattle.known_values.specs.declared.lack.Lack.{Lack}
use Rattle.known_values.specs.declared.lack.Lack.TheVariants as lack
use Rattle.queue_checker.specs.Flaws.{first_flaw}
use Rattle.queue_checker.specs.declared.flaws.Flaw.{Flaw}
use Rattle.queue_checker.specs.declared.flaws.Flaw.TheVariants.{Queue, Tagged, Opening, State}
use Rattle.certificate_reader.specs.Known.{known_at}
use Rattle.ownership_runs.specs.declared.losses.Loss.{Loss}
use Rattle.ownership_runs.specs.declared.violations.Violation.{Violation}
use Rattle.ownership_runs.specs.declared.runs.Moved.{Moved}
use Rattle.ownership_runs.specs.declared.steps.Step.{Step}
use Rattle.ownership_runs.specs.Violations.{first_ownership_violation}
use Rattle.engine_support.specs.declared.fault.Fault.{Fault}
use Rattle.engine_support.specs.declared.fault.Fault.TheVariants.{NoMemory, Refused}
use Rattle.engine_support.specs.declared.fault.Position.TheVariants.{Nowhere}
use Rattle.engine_support.specs.declared.fault.Refusal.{Refusal}
use Rattle.engine_support.specs.Inputs.{After, tests}
use Rattle.engine_support.specs.OpeningTexts.{numbered}
use Rattle.certifying.specs.Questions.{Questions, certificates}
use Rattle.certifying.specs.Broken.{broken_text, lost_text, other_text, runs_line, unlost_line}
use Rattle.certifying.specs.Descriptions.{all_queue_lines}
use Rattle.certifying.specs.Going.{arriving_line, moving_lines, party_line, still_line}
use Rattle.certifying.specs.Harts.{end_line, shared_line, stop_line, touches_line}
use Rattle.certifying.specs.Lines.{AnswerLine, is_kept, not_all_shown, not_going, not_owned, the_queues, the_party, move_on, can_move, may_wait, the_records}
use Rattle.certifying.specs.Lines.{stopped_at, never_ends, it_touches, the_protocol, the_limits, all_going, all_going_lines, all_shown, ends_asked, first_line}
use Rattle.certifying.specs.Lines.{harts_lines, harts_safe, judgement_of, limits, they_share}
use Rattle.certifying.specs.Lost.{IsRecordLost, NoneLost}
use Rattle.certifying.specs.NotShown.{flaw_line, likely_line}
use Rattle.certifying.specs.Queues.{any_queue, any_start, queue_count, slots_at, tagged_number}
use Rattle.certifying.specs.Records.{AreFound, asked_line, doing_hart, record_lines}
use Rattle.certifying.specs.Trials.{IsFirstBroken, QueuesKeep}
use Rattle.certifying.specs.Unread.{first_unread, unread_line}
use Rattle.certifying.specs.Unused.{first_unused, unused_line}
use Rattle.certifying.specs.declared.endings.Endings.{Endings}
use Rattle.certifying.specs.declared.judgement.Judgement.{Judgement}
use Rattle.certifying.specs.declared.judgement.Judgement.TheVariants.{ReadsNotShown, NotShown, Broken, OtherProtocol}
use Rattle.certifying.specs.declared.records.QueueRecords.{QueueRecords}
use Rattle.certifying.specs.declared.unread.Unread.{Unread}
use Rattle.certifying.specs.declared.unused.Unused.{Unused}

-- ---- what is promised and what isn't

-- where all is shown, that queues go on too, if that is asked
abbrev pub kept_line : (goes : Bool) → List ℕ
kept_line true = codes "kept in every run, and goes on while its harts run" ++ 10 ∷ []
kept_line false = codes "kept in every run" ++ 10 ∷ []

abbrev pub not_all_line : List ℕ
not_all_line = codes "kept, but not all that was asked is shown" ++ 10 ∷ []

abbrev pub not_going_line : List ℕ
not_going_line = codes "kept in every run, but not shown to go on" ++ 10 ∷ []

unfoldable pub every_run_text : List ℕ
every_run_text = codes "promised: in every legal run, of any length and schedule, with store buffers of any size, the protocol"

-- by whether there are queues with indices and with tags
abbrev pub kept_protocols : (no_index no_tag : Bool) → List ℕ
kept_protocols no_index true = codes " of ownership is kept"
kept_protocols true false = codes " of slots that tell is kept"
kept_protocols false false = codes "s of ownership and of slots that tell are kept"

abbrev pub protocol_text : QueueCertificate → List ℕ
protocol_text c = every_run_text ++ kept_protocols (length c.queues == 0) (length c.tagged == 0)

unfoldable pub promise_end : List ℕ
promise_end = codes ", so positions arrive in order, each once, with all that was written before" ++ 10 ∷ []

-- where parties load only slots that they own, or not
abbrev pub protocol_line : QueueCertificate → (owned : Bool) → List ℕ
protocol_line c true = protocol_text c ++ promise_end
protocol_line c false = protocol_text c ++ 10 ∷ []

unfoldable pub reads_line : List ℕ
reads_line = codes "not promised: that what is loaded from a slot is a record that the hart owns" ++ 10 ∷ []

abbrev pub limit_of_owning : (owned : Bool) → List ℕ
limit_of_owning true = []
limit_of_owning false = reads_line

unfoldable pub progress_line : List ℕ
progress_line = codes "not promised: that anything is ever sent or received" ++ 10 ∷ []

unfoldable pub running_line : List ℕ
running_line = codes "not promised: that a hart is ever run, or doesn't end or stop, or that a store ever lands" ++ 10 ∷ []

-- where bytes of records are shown to be read, or not
unfoldable pub limit_of_reading : (read : Bool) → List ℕ
limit_of_reading true = codes "not promised: that other bytes of a record are read, "
limit_of_reading false = codes "not promised: that a record's bytes are read, "

-- and where they are shown to be written, or not
abbrev pub limit_of_writing : (written : Bool) → List ℕ
limit_of_writing true = codes "that other bytes of a record are freshly written"
limit_of_writing false = codes "that a record was freshly or wholly written"

unfoldable pub rest_of_limits : List ℕ
rest_of_limits = codes ", what the code does with it, what memory outside of the queue holds" ++ 10 ∷ []

abbrev pub limit_of_records : (written read : Bool) → List ℕ
limit_of_records written read = limit_of_reading read ++ limit_of_writing written ++ rest_of_limits

-- where queues are shown to go on, or not
abbrev pub limit_of_progress : (goes : Bool) → List ℕ
limit_of_progress true = running_line
limit_of_progress false = progress_line

abbrev pub nothing_line : List ℕ
nothing_line = codes "nothing is claimed" ++ 10 ∷ []

-- ---- the table from lines to words

abbrev pub words : OpeningValue → QueueCertificate → AnswerLine → List ℕ
words o c (is_kept goes) = kept_line goes
words o c not_all_shown = not_all_line
words o c not_going = not_going_line
words o c (not_owned unread) = unread_line o c unread
words o c the_queues = all_queue_lines o c
words o c (the_party i sends found) = party_line o c sends i (doing_hart c sends i) (doing_hart c (not sends) i) found
words o c (move_on i both) = moving_lines (is_some (tagged_number c i)) i (slots_at c i) both
words o c (can_move i unstopped run) = arriving_line i unstopped run
words o c (may_wait i s r) = still_line i (slots_at c i) s r
words o c (the_records deed i asked found) = asked_line o c deed asked i found
words o c (stopped_at h stop) = stop_line o c h stop
words o c (never_ends h never) = end_line h never
words o c (it_touches stores h touched) = touches_line o c stores h touched
words o c (they_share shared) = shared_line o c shared
words o c (the_protocol owned) = protocol_line c owned
words o c (the_limits owned read written goes) = limit_of_owning owned ++ limit_of_records written read ++ limit_of_progress goes

abbrev pub texts : OpeningValue → QueueCertificate → List AnswerLine → List ℕ
texts o c [] = []
texts o c (line ∷ lines) = words o c line ++ texts o c lines

-- ---- all of it

-- with the lines of whether queues go on and of the harts, what is found of records, whether queues go on, and whether harts are shown to be safe
abbrev pub kept_text : OpeningValue → QueueCertificate → Questions → (going : List ℕ) → List QueueRecords → (harts : List ℕ) → (goes safe : Bool)
    → Option Unread → List ℕ
kept_text o c asked going found harts goes safe unread = words o c (first_line asked.progress goes (all_shown found safe) unread)
    ++ all_queue_lines o c ++ going ++ record_lines o c asked found ++ harts ++ words o c (the_protocol (not (is_some unread)))
    ++ words o c (limits asked found (not (is_some unread)) goes)

abbrev pub unused_text : Unused → List ℕ
unused_text unused = unused_line unused ++ nothing_line

abbrev pub flaw_text : OpeningValue → QueueCertificate → Flaw → List ℕ
flaw_text o c flaw = flaw_line o c flaw ++ likely_line o c flaw ++ nothing_line

abbrev pub judged_by : (first : AnswerLine) → (text : List ℕ) → List ℕ × Judgement
judged_by first text = (text, judgement_of first)

abbrev pub judged_reads : OpeningValue → QueueCertificate → Questions → (going : List ℕ) → List QueueRecords → (harts : List ℕ)
    → (goes safe : Bool) → Option Unread → List ℕ × Judgement
judged_reads o c asked going found harts goes safe unread =
    judged_by (first_line asked.progress goes (all_shown found safe) unread) (kept_text o c asked going found harts goes safe unread)

-- the same by where harts may be stopped, and where they may end
abbrev pub ending_answer : Questions → OpeningValue → QueueCertificate → List QueueRecords → List Endings → List ℕ × Judgement
ending_answer asked o c found ends = judged_reads o c asked (texts o c (all_going_lines o c ends asked.progress)) found
    (texts o c (harts_lines o c ends asked.harts)) (all_going o c asked.progress) (harts_safe o c ends asked.harts) (first_unread o c)

-- the same with M words of memory, by what is found of records
abbrev pub kept_answer : (M : ℕ) → Questions → OpeningValue → QueueCertificate → List QueueRecords → List ℕ × Judgement
kept_answer M asked o c found = ending_answer asked o c found (ends_asked M asked o c)

pub record IsKeptAnswer (M : ℕ) (asked : Questions) (o : OpeningValue) (c : QueueCertificate) (answer : List ℕ × Judgement) : Type 0 where
  pub found : List QueueRecords
  pub are_found : AreFound o c asked (not (is_some (first_unread o c))) found
  pub answer_is : answer ≡ kept_answer M asked o c found

abbrev pub IsUseAnswer : (M : ℕ) → Questions → OpeningValue → QueueCertificate → Option Unused → List ℕ × Judgement → Type 0
IsUseAnswer M asked o c None answer = IsKeptAnswer M asked o c answer
IsUseAnswer M asked o c (Some unused) answer = answer ≡ (unused_text unused, NotShown)

-- ---- what drawn runs lose of a queue whose reads aren't shown

pub record IsLostText (d : DrawnRuns) (o : OpeningValue) (c : QueueCertificate) (i : ℕ) (lines : List ℕ) : Type 0 where
  pub part : List Event
  pub loss : Loss
  pub steps : List Step
  pub is_lost : IsRecordLost d o c i false part loss steps
  pub lines_are : lines ≡ lost_text d.B o c i part loss steps

abbrev pub IsUnlostText : DrawnRuns → OpeningValue → QueueCertificate → (i : ℕ) → (lines : List ℕ) → Type 0
IsUnlostText d o c i lines = NoneLost d o c i false × (lines ≡ unlost_line d.number d.size i)

abbrev pub AreLossLines : DrawnRuns → OpeningValue → QueueCertificate → Option Unread → (lines : List ℕ) → Type 0
AreLossLines d o c None lines = lines ≡ []
AreLossLines d o c (Some unread) lines = IsLostText d o c unread.queue lines ⊎ IsUnlostText d o c unread.queue lines

-- after an answer of this judgement
abbrev pub AreLinesAfter : DrawnRuns → OpeningValue → QueueCertificate → Judgement → (lines : List ℕ) → Type 0
AreLinesAfter d o c ReadsNotShown lines = AreLossLines d o c (first_unread o c) lines
AreLinesAfter d o c other lines = lines ≡ []

-- what is answered where the certificate is accepted
pub record IsAcceptedAnswer (d : DrawnRuns) (asked : Questions) (o : OpeningValue) (c : QueueCertificate) (answer : List ℕ × Judgement) : Type 0 where
  pub used : List ℕ × Judgement
  pub is_used : IsUseAnswer d.M asked o c (first_unused o c) used
  pub lines : List ℕ
  pub are_lines : AreLinesAfter d o c used.1 lines
  pub answer_is : answer ≡ (used.0 ++ lines, used.1)

-- ---- where it isn't shown

-- drawn runs keep the protocol of each queue
abbrev pub tried_text : DrawnRuns → OpeningValue → QueueCertificate → Flaw → List Moved → List ℕ
tried_text d o c flaw moved =
    flaw_line o c flaw ++ known_at c flaw ++ likely_line o c flaw ++ numbered (runs_line d.number d.size) 0 moved ++ nothing_line

pub record IsTriedText (d : DrawnRuns) (o : OpeningValue) (c : QueueCertificate) (flaw : Flaw) (text : List ℕ) : Type 0 where
  pub moved : List Moved
  pub count : length moved ≡ queue_count c
  pub kept : QueuesKeep d o c 0 moved
  pub text_is : text ≡ tried_text d o c flaw moved

-- one breaks it by a store that the protocol described has, and one loses a record of that queue after such a store: the one that is shown, whose
-- schedule this is
pub record IsBrokenText (d : DrawnRuns) (o : OpeningValue) (c : QueueCertificate) (text : List ℕ) : Type 0 where
  pub queue : ℕ
  pub part : List Event
  pub violation : Violation
  pub first_steps : List Step
  pub is_first : IsFirstBroken d o c queue part violation first_steps
  pub described : violation.described ≡ true
  pub lost_part : List Event
  pub loss : Loss
  pub steps : List Step
  pub is_lost : IsRecordLost d o c queue true lost_part loss steps
  pub shown : Violation
  pub is_shown : first_ownership_violation (any_queue c queue) (all_at (any_start c queue)) (map (λ (s : Step). s.entry) steps) ≡ Some shown
  pub text_is : text ≡ broken_text d.B o c queue shown lost_part loss steps

-- one breaks it, by a store that the protocol described doesn't have, or none loses a record of that queue after such a store
pub record IsOtherText (d : DrawnRuns) (o : OpeningValue) (c : QueueCertificate) (text : List ℕ) : Type 0 where
  pub queue : ℕ
  pub part : List Event
  pub violation : Violation
  pub steps : List Step
  pub is_first : IsFirstBroken d o c queue part violation steps
  pub other : (violation.described ≡ false) ⊎ NoneLost d o c queue true
  pub text_is : text ≡ other_text d.number d.size d.B o c queue part violation steps

abbrev pub IsTrialAnswer : DrawnRuns → OpeningValue → QueueCertificate → Flaw → List ℕ × Judgement → Type 0
IsTrialAnswer d o c flaw (text, NotShown) = IsTriedText d o c flaw text
IsTrialAnswer d o c flaw (text, Broken) = IsBrokenText d o c text
IsTrialAnswer d o c flaw (text, OtherProtocol) = IsOtherText d o c text
IsTrialAnswer d o c flaw (text, other) = ⊥

-- a queue isn't one, or doesn't open as it says: then no run is drawn
abbrev pub is_of_queue : Flaw → Bool
is_of_queue (Queue i why) = true
is_of_queue (Tagged t why) = true
is_of_queue (Opening h) = false
is_of_queue (State h n) = false

abbrev pub IsFlawAnswer : DrawnRuns → OpeningValue → QueueCertificate → Flaw → (of_queue : Bool) → List ℕ × Judgement → Type 0
IsFlawAnswer d o c flaw true answer = answer ≡ (flaw_text o c flaw, NotShown)
IsFlawAnswer d o c flaw false answer = IsTrialAnswer d o c flaw answer

-- the text and the judgement of an opening and a certificate, whose first flaw is this one
abbrev pub IsAnswerTo : DrawnRuns → Questions → OpeningValue → QueueCertificate → Option Flaw → List ℕ × Judgement → Type 0
IsAnswerTo d asked o c None answer = IsAcceptedAnswer d asked o c answer
IsAnswerTo d asked o c (Some flaw) answer = IsFlawAnswer d o c flaw (is_of_queue flaw) answer

-- a certificate of whose check some number passes 2 ^ 64 - 1: it isn't decided
abbrev pub undecided : Refusal
undecided = record { number = 50; place = Nowhere }

-- the fault of a check that lacked this
abbrev pub fault_of : Lack → Fault
fault_of lack.Memory = NoMemory
fault_of lack.TooLarge = Refused undecided

-- what answers them
abbrev pub IsCertificateAnswer : DrawnRuns → Questions → OpeningValue → QueueCertificate → Result (List ℕ × Judgement) Refusal → Type 0
IsCertificateAnswer d asked o c (Ok answer) = IsAnswerTo d asked o c (first_flaw o c) answer
IsCertificateAnswer d asked o c (Err refusal) = refusal ≡ undecided

-- What answers a litmus text and a certificate, which is read after an accepted text only, and what is asked of it.
abbrev pub IsQueueAnswer : DrawnRuns → Questions → (file certificate : Option (List ℕ)) → Result (List ℕ × Judgement) Refusal → Type 0
IsQueueAnswer d asked file certificate =
    After tests file (λ test. After certificates certificate (λ c. IsCertificateAnswer d asked test.opening c))
