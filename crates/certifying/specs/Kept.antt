-- What a `kept` means, of every legal run from where a litmus text opens, and what a `broken` means, of one.
use Rattle.std.specs.Prelude.{ℕ, ◌≡◌, ◌⊎◌, ◌+◌, ◌<◌, ◌≤◌, All, Bool, true, false, List, [], ◌∷◌, ◌++◌, length, Option, None, Some, Result, Ok, Err}
use Rattle.hart.specs.State.{HartState}
use Rattle.hart.specs.declared.status.Stop.{Stop}
use Rattle.hart.specs.declared.status.Status.TheVariants.{Stopped}
use Rattle.step_machine.specs.declared.events.Entry.{Entry}
use Rattle.step_machine.specs.Access.{access_of}
use Rattle.step_machine.specs.Entries.{hart_of, is_land, read_byte}
use Rattle.step_machine.specs.History.{OpeningValue, history_of}
use Rattle.step_machine.specs.Legal.{WellFormed}
use Rattle.step_machine.specs.Paths.{state_of}
use Rattle.litmus.specs.LitmusTests.{LitmusTest}
use Rattle.queue_parties.specs.Parties.{Party, the_sender, the_receiver, all_at}
use Rattle.slot_queue.specs.Ownership.{counts_after}
use Rattle.slot_queue.specs.Laws.{FollowsOwnership}
use Rattle.certified_runs.specs.TwoParties.{EachIs}
use Rattle.slots_that_tell.specs.Laws.{FollowsTelling}
use Rattle.slots_that_tell.specs.Telling.{teller_hart}
use Rattle.queue_layouts.specs.Tagged.{slots_of}
use Rattle.queue_certificates.specs.ToldRuns.{LoadsRestOwned, telling}
use Rattle.queue_certificates.specs.OwnedRuns.{ReadsOwned}
use Rattle.queue_certificates.specs.Certificates.{QueueCertificate, queue_at, start_at, tagged_at, tagged_start, MeetsFields}
use Rattle.hart_safety.specs.Regions.{IsInNone}
use Rattle.hart_safety.specs.declared.regions.Region.{Region}
use Rattle.hart_safety.specs.declared.shared.Place.{Place}
use Rattle.hart_safety.specs.Touched.{SparesByte, touched_of}
use Rattle.record_bytes.specs.Naming.{names_byte}
use Rattle.records_written.specs.Parties.{count_after, hart_by, slot_in}
use Rattle.records_written.specs.Read.{IsFresh, IsRead, IsReadBy}
use Rattle.records_written.specs.Written.{IsWritten}
use Rattle.records_written.specs.declared.parties.QueueNumber.{QueueNumber}
use Rattle.records_written.specs.declared.parties.QueueNumber.TheVariants.{Indexed, Tagged}
use Rattle.queue_progress.specs.Harts.{IsHartStuck}
use Rattle.queue_progress.specs.Rows.{Arrives, GoesWithin, HaveLanded, IsStuckAt, Lasts, MovesAfter, counts_at, moved_at}
use Rattle.queue_progress.specs.Told.{IsToldStuck, TagsHaveLanded, told_moved_at}
use Rattle.ownership_runs.specs.declared.losses.Loss.{Loss}
use Rattle.ownership_runs.specs.declared.violations.Violation.{Violation}
use Rattle.ownership_runs.specs.Losses.{IsFirstLoss}
use Rattle.ownership_runs.specs.Protocols.{Keeps}
use Rattle.ownership_runs.specs.Violations.{first_ownership_violation}
use Rattle.engine_support.specs.declared.fault.Refusal.{Refusal}
use Rattle.engine_support.specs.Inputs.{Reads, tests}
use Rattle.certifying.specs.Answers.{texts, undecided}
use Rattle.certifying.specs.Lines.{AnswerLine, is_kept, not_all_shown, not_going, not_owned, the_party, move_on, can_move, the_records, stopped_at, never_ends}
use Rattle.certifying.specs.Lines.{it_touches, they_share, the_protocol, first_line_of, judgement_of, answer_lines}
use Rattle.certifying.specs.Questions.{Questions, certificates}
use Rattle.certifying.specs.Queues.{any_queue, any_start, is_tag_byte, number_in, queue_count, slots_at}
use Rattle.certifying.specs.Records.{asked_ranges, doer, is_rest}
use Rattle.certifying.specs.declared.records.Deed.{Deed}
use Rattle.certifying.specs.declared.records.Deed.TheVariants as deed
use Rattle.certifying.specs.declared.records.QueueRecords.{QueueRecords}
use Rattle.certifying.specs.declared.records.Records.{Records}
use Rattle.certifying.specs.declared.records.Records.TheVariants.{Shown}
use Rattle.certifying.specs.declared.together.Both.{Both}
use Rattle.certifying.specs.declared.together.Bound.{Bound}
use Rattle.certifying.specs.declared.together.PartyProgress.{PartyProgress}
use Rattle.certifying.specs.declared.together.PartyProgress.TheVariants.{Alone, Together}
use Rattle.certifying.specs.declared.judgement.Judgement.{Judgement}
use Rattle.certifying.specs.declared.judgement.Judgement.TheVariants.{Kept, ReadsNotShown, ProgressNotShown, AskedNotShown, NotShown, Broken, OtherProtocol}

-- each run keeps the protocol of ownership of each queue with indices, with store buffers of any size
abbrev pub KeepsIndexed : OpeningValue → QueueCertificate → Type 0
KeepsIndexed o c = (B M : ℕ) (es : List Entry) → WellFormed B M (history_of o es) → (i : ℕ) → i < length c.queues
    → FollowsOwnership B (queue_at c i) (all_at (start_at c i)) o [] es

-- and that of slots that tell of each queue with tags
abbrev pub KeepsTags : OpeningValue → QueueCertificate → Type 0
KeepsTags o c = (B M : ℕ) (es : List Entry) → WellFormed B M (history_of o es) → (t : ℕ) → t < length c.tagged
    → FollowsTelling B (slots_of (tagged_at c t)) (all_at (tagged_start c t)) o [] es

-- and in each the receiver of a queue whose records have fields reads in each slot that it owns, as each field, one of the field's numbers
abbrev pub ReceivesFields : OpeningValue → QueueCertificate → Type 0
ReceivesFields o c = (B M : ℕ) (es : List Entry) → WellFormed B M (history_of o es) → (i : ℕ) → i < length c.queues → (k : ℕ)
    → (counts_after (queue_at c i) (all_at (start_at c i)) es).taken ≤ k
    → k < (counts_after (queue_at c i) (all_at (start_at c i)) es).known_published
    → MeetsFields c i k (λ x. read_byte o es (queue_at c i).receiver x)

-- and in each a party of a queue with indices loads no byte of a slot that it doesn't own
abbrev pub LoadsOwnedSlots : OpeningValue → QueueCertificate → Type 0
LoadsOwnedSlots o c = (B M : ℕ) (es : List Entry) → WellFormed B M (history_of o es) → (i : ℕ) → i < length c.queues → (p : Party)
    → ReadsOwned (queue_at c i) p (all_at (start_at c i)) es

-- and a party of a queue with tags no byte of a slot that it doesn't own, except of tags
abbrev pub LoadsTagsOrOwned : OpeningValue → QueueCertificate → Type 0
LoadsTagsOrOwned o c = (B M : ℕ) (es : List Entry) → WellFormed B M (history_of o es) → (t : ℕ) → t < length c.tagged → (p : Party)
    → EachIs (telling (slots_of (tagged_at c t))) (teller_hart (slots_of (tagged_at c t)) p) (LoadsRestOwned (slots_of (tagged_at c t)) p)
    (all_at (tagged_start c t)) es

-- the protocols, and what the fields of records have
abbrev pub Protocols : OpeningValue → QueueCertificate → Type 0
Protocols o c = KeepsIndexed o c × KeepsTags o c × ReceivesFields o c

abbrev pub OwnedLoads : OpeningValue → QueueCertificate → Type 0
OwnedLoads o c = LoadsOwnedSlots o c × LoadsTagsOrOwned o c

-- ---- of a queue: whether a party goes on

-- It leaves the party's index, and where it loads the other's, the party finds that it owns more than K positions; or it leaves the party's position,
-- and is no load of its tag by which it isn't told that the slot is its own
abbrev pub IsStuckIn : QueueCertificate → QueueNumber → Party → (K : ℕ) → List Entry → Entry → Type 0
IsStuckIn c (Indexed i) p K = IsStuckAt c i p K
IsStuckIn c (Tagged t) p K = IsToldStuck c t p

-- in memory both indices hold the words of their counts; or no store to a tag is pending
abbrev pub HasLanded : OpeningValue → QueueCertificate → QueueNumber → List Entry → Type 0
HasLanded o c (Indexed i) es = HaveLanded (queue_at c i) o es (counts_at c i es)
HasLanded o c (Tagged t) es = TagsHaveLanded (slots_of (tagged_at c t)) es

-- how many positions were published, and how many taken, together
abbrev pub moved_in : QueueCertificate → QueueNumber → List Entry → ℕ
moved_in c (Indexed i) es = moved_at c i es
moved_in c (Tagged t) es = told_moved_at c t es

module _ (o : OpeningValue) (c : QueueCertificate) (w : QueueNumber) where
  abbrev pub PartyGoes : Party → Bound → Type 0
  PartyGoes p bound = GoesWithin o (hart_by c w p) (IsStuckIn c w p bound.owned) bound.within

  -- In each run in which its indices or tags have landed, and then each party executes as many instructions as its bound, in any order and beside
  -- other harts, more is published or taken
  abbrev pub Moves : Both → Type 0
  Moves both = MovesAfter o (HasLanded o c w) (moved_in c w) (hart_by c w the_sender) (hart_by c w the_receiver) both.sends.within both.receives.within

  abbrev pub BothMove : Both → Type 0
  BothMove both = PartyGoes the_sender both.sends × PartyGoes the_receiver both.receives × Moves both

  -- After each run with M words of memory, and with store buffers that have room for a store, other entries may follow, and in the end more is
  -- published or taken, or, unless both always run, one of the two has ended
  abbrev pub CanMove : (M : ℕ) → (run : Bool) → Type 0
  CanMove M run = (B : ℕ) → 1 ≤ B → (es : List Entry) → WellFormed B M (history_of o es)
      → Arrives run B M o (hart_by c w the_sender) (hart_by c w the_receiver) (moved_in c w) es

-- ---- of its records

-- the sender has written the byte at x of position k, or the receiver has read it
abbrev pub IsDone : (writes : Bool) → (M : ℕ) → OpeningValue → QueueCertificate → QueueNumber → List Entry → (k x : ℕ) → Type 0
IsDone true M o c w es k x = IsWritten M o c w es k x
IsDone false M o c w es k x = IsRead M o c w es k x

-- Of the bytes that a text names: in each run, where the sender of queue i publishes a position, it has written each of them, except those of a
-- tag, in that position's slot since the record before in that slot was published; or where its receiver hands a position back, it has read each of
-- them, except those of a tag, in that position's slot while it owned the position, as it had learned
abbrev pub DoesEach : (writes : Bool) → (bytes : List ℕ) → OpeningValue → QueueCertificate → (i : ℕ) → Type 0
DoesEach writes bytes o c i = (B M : ℕ) (es : List Entry) (e : Entry) → WellFormed B M (history_of o (es ++ e ∷ [])) → (k : ℕ)
    → count_after c (number_in c i) (doer writes) es ≤ k → k < count_after c (number_in c i) (doer writes) (es ++ e ∷ []) → (b : ℕ)
    → b < (slots_at c i).width → names_byte bytes b ≡ true → is_tag_byte c i b ≡ false
    → IsDone writes M o c (number_in c i) es k (slot_in c (number_in c i) k + b)

-- or where the receiver reads one of them, except those of a tag, of a position that it owns, it has read neither that one before, nor any of them of
-- a later position
abbrev pub ReadsEachOnce : (bytes : List ℕ) → OpeningValue → QueueCertificate → (i : ℕ) → Type 0
ReadsEachOnce bytes o c i = (B M : ℕ) (es : List Entry) (e : Entry) → WellFormed B M (history_of o (es ++ e ∷ [])) → (k b : ℕ)
    → is_rest c i (asked_ranges c bytes i) b ≡ true → IsReadBy M o c (number_in c i) es e k (slot_in c (number_in c i) k + b)
    → IsFresh M o c (number_in c i) (is_rest c i (asked_ranges c bytes i)) es k b

abbrev pub DoesAs : Deed → (bytes : List ℕ) → OpeningValue → QueueCertificate → (i : ℕ) → Type 0
DoesAs deed.Writes bytes o c i = DoesEach true bytes o c i
DoesAs deed.Reads bytes o c i = DoesEach false bytes o c i
DoesAs deed.ReadsOnce bytes o c i = ReadsEachOnce bytes o c i

-- and the queue's records have some of them
abbrev pub DoesRecords : Deed → (asked : Option (List ℕ)) → OpeningValue → QueueCertificate → (i : ℕ) → Type 0
DoesRecords does None o c i = Unit {0}
DoesRecords does (Some bytes) o c i = ((b : ℕ) × (b < (slots_at c i).width) × (names_byte bytes b ≡ true)) × DoesAs does bytes o c i

-- ---- of a hart

-- in each run with M words of memory hart h is never stopped
abbrev pub NeverStops : (M : ℕ) → OpeningValue → (h : ℕ) → Type 0
NeverStops M o h = (B : ℕ) (es : List Entry) → WellFormed B M (history_of o es) → (s : HartState) → state_of M (history_of o es) h ≡ Some s
    → (why : Stop) → s.status ≡ Stopped why → ⊥

-- in each such run it is there and runs
abbrev pub AlwaysRuns : (M : ℕ) → OpeningValue → (h : ℕ) → Type 0
AlwaysRuns M o h = (B : ℕ) → Lasts B M o h

-- in each run it stores to bytes of these regions only, or loads such alone
abbrev pub TouchesOnly : (stores : Bool) → OpeningValue → (h : ℕ) → List Region → Type 0
TouchesOnly stores o h regions = (B M : ℕ) (es : List Entry) (e : Entry) → WellFormed B M (history_of o (es ++ e ∷ [])) → is_land e ≡ false
    → hart_of e ≡ h → (x : ℕ) → IsInNone x regions → SparesByte stores x (access_of e)

abbrev pub TouchesBy : (anywhere : Option ℕ) → (stores : Bool) → OpeningValue → (h : ℕ) → List Region → Type 0
TouchesBy None stores o h regions = TouchesOnly stores o h regions
TouchesBy (Some n) stores o h regions = Unit {0}

-- in each run it never stores to the byte at x, or never loads it
abbrev pub NeverTouches : (stores : Bool) → OpeningValue → (h x : ℕ) → Type 0
NeverTouches stores o h x = (B M : ℕ) (es : List Entry) (e : Entry) → WellFormed B M (history_of o (es ++ e ∷ [])) → is_land e ≡ false
    → hart_of e ≡ h → SparesByte stores x (access_of e)

-- of each byte outside of these regions, and of two harts, the one never stores to it, or the other neither stores to it nor loads it
abbrev pub SharesOnly : OpeningValue → List Region → Type 0
SharesOnly o regions = (x : ℕ) → IsInNone x regions → (h j : ℕ) → h < length o.harts → j < length o.harts → (h ≡ j → ⊥) → (stores : Bool)
    → NeverTouches true o h x ⊎ NeverTouches stores o j x

abbrev pub SharesBy : (anywhere : Option Place) → OpeningValue → List Region → Type 0
SharesBy None o regions = SharesOnly o regions
SharesBy (Some place) o regions = Unit {0}

-- ---- what a line means

-- each queue goes on, within some numbers of instructions
abbrev pub KeepsGoing : (asked : Bool) → OpeningValue → QueueCertificate → Type 0
KeepsGoing true o c = (i : ℕ) → i < queue_count c → (both : Both) × BothMove o c (number_in c i) both
KeepsGoing false o c = Unit {0}

-- what is asked of each queue's records, and of each hart
abbrev pub KeepsRest : (M : ℕ) → Questions → OpeningValue → QueueCertificate → Type 0
KeepsRest M asked o c = ((i : ℕ) → i < queue_count c
    → DoesRecords deed.Writes asked.written o c i × DoesRecords deed.Reads asked.read o c i × DoesRecords deed.ReadsOnce asked.once o c i)
    × (asked.harts ≡ true → (h : ℕ) → h < length o.harts → NeverStops M o h × TouchesOnly true o h (touched_of true o c h).regions)

-- of what is found of a party, or of records
abbrev pub PartyMeans : OpeningValue → QueueCertificate → QueueNumber → Party → PartyProgress → Type 0
PartyMeans o c w p (Alone bound) = PartyGoes o c w p bound
PartyMeans o c w p (Together bound) = GoesWithin o (hart_by c w p) (IsHartStuck c (hart_by c w p) bound.owned) bound.within
PartyMeans o c w p other = Unit {0}

abbrev pub RecordsMean : Deed → (asked : Option (List ℕ)) → OpeningValue → QueueCertificate → (i : ℕ) → Records → Type 0
RecordsMean does asked o c i Shown = DoesRecords does asked o c i
RecordsMean does asked o c i other = Unit {0}

-- What a line promises of every run of the text. Not shown, and not promised, is nothing.
abbrev pub LineMeans : (M : ℕ) → Questions → OpeningValue → QueueCertificate → AnswerLine → Type 0
LineMeans M asked o c (is_kept goes) = Protocols o c × OwnedLoads o c × KeepsGoing goes o c × KeepsRest M asked o c
LineMeans M asked o c not_all_shown = Protocols o c × OwnedLoads o c × KeepsGoing asked.progress o c
LineMeans M asked o c not_going = Protocols o c × OwnedLoads o c
LineMeans M asked o c (not_owned unread) = Protocols o c
LineMeans M asked o c (the_party i sends found) = PartyMeans o c (number_in c i) (doer sends) found
LineMeans M asked o c (move_on i both) = BothMove o c (number_in c i) both
LineMeans M asked o c (can_move i true run) = CanMove o c (number_in c i) M run
LineMeans M asked o c (the_records does i bytes found) = RecordsMean does bytes o c i found
LineMeans M asked o c (stopped_at h None) = NeverStops M o h
LineMeans M asked o c (never_ends h true) = AlwaysRuns M o h
LineMeans M asked o c (it_touches stores h touched) = TouchesBy touched.unbounded stores o h touched.regions
LineMeans M asked o c (they_share shared) = SharesBy shared.unbounded o shared.regions
LineMeans M asked o c (the_protocol true) = Protocols o c × OwnedLoads o c
LineMeans M asked o c (the_protocol false) = Protocols o c
LineMeans M asked o c other = Unit {0}

-- The text is the words of its lines, and what drawn runs lose may follow; the judgement is that of the first line; and what they mean is so.
pub record IsMeant (M : ℕ) (asked : Questions) (o : OpeningValue) (c : QueueCertificate) (text : List ℕ) (judgement : Judgement) : Type 0 where
  pub found : List QueueRecords
  pub more : List ℕ
  pub text_is : text ≡ texts o c (answer_lines M asked o c found) ++ more
  pub judgement_is : judgement ≡ judgement_of (first_line_of M asked o c found)
  pub means : All (LineMeans M asked o c) (answer_lines M asked o c found)

-- ---- where it isn't kept

-- a legal run breaks that of a queue of either kind, first by this violation: a store that is described, or one that isn't
-- (`laws_of_violations`, clause `foreign`)
pub record BreaksProtocol (described : Bool) (o : OpeningValue) (c : QueueCertificate) : Type 0 where
  pub B : ℕ
  pub M : ℕ
  pub entries : List Entry
  pub legal : WellFormed B M (history_of o entries)
  pub queue : ℕ
  pub inside : queue < queue_count c
  pub breaks : Keeps (any_queue c queue) (all_at (any_start c queue)) entries → ⊥
  pub violation : Violation
  pub first : first_ownership_violation (any_queue c queue) (all_at (any_start c queue)) entries ≡ Some violation
  pub by : violation.described ≡ described

-- a legal run loses a record of queue i: its receiver loads another byte than the sender's hart read there just after it published the record
-- (`laws_of_losses`, clause `lost`)
pub record LosesRecord (o : OpeningValue) (c : QueueCertificate) (i : ℕ) : Type 0 where
  pub B : ℕ
  pub M : ℕ
  pub entries : List Entry
  pub legal : WellFormed B M (history_of o entries)
  pub loss : Loss
  pub first : IsFirstLoss None (any_queue c i) o (all_at (any_start c i)) entries loss

-- after such a store the same run loses a record of that queue
pub record BreaksAndLoses (o : OpeningValue) (c : QueueCertificate) : Type 0 where
  pub breaks : BreaksProtocol true o c
  pub loss : Loss
  pub loses : IsFirstLoss (Some breaks.violation.place) (any_queue c breaks.queue) o (all_at (any_start c breaks.queue)) breaks.entries loss

-- what the readers give stands for a test and a certificate, of which this holds
pub record AreJudged (file certificate : Option (List ℕ)) (Holds : OpeningValue → QueueCertificate → Type 0) : Type 0 where
  pub test : LitmusTest
  pub listed : QueueCertificate
  pub file_is : Reads tests file (Ok test)
  pub certificate_is : Reads certificates certificate (Ok listed)
  pub holds : Holds test.opening listed

-- what is promised by this text and judgement, with M words of memory
abbrev pub IsPromised : (M : ℕ) → Questions → List ℕ × Judgement → OpeningValue → QueueCertificate → Type 0
IsPromised M asked (text, Kept) o c = IsMeant M asked o c text Kept
IsPromised M asked (text, AskedNotShown) o c = IsMeant M asked o c text AskedNotShown
IsPromised M asked (text, ProgressNotShown) o c = IsMeant M asked o c text ProgressNotShown
IsPromised M asked (text, ReadsNotShown) o c = IsMeant M asked o c text ReadsNotShown
IsPromised M asked (text, NotShown) o c = Unit {0}
IsPromised M asked (text, Broken) o c = BreaksAndLoses o c
IsPromised M asked (text, OtherProtocol) o c = BreaksProtocol false o c ⊎ BreaksProtocol true o c

-- an answer of this judgement may show a schedule
abbrev pub MayHaveSchedule : Judgement → Type 0
MayHaveSchedule judgement = (judgement ≡ Broken) ⊎ (judgement ≡ OtherProtocol) ⊎ (judgement ≡ ReadsNotShown)

-- one judgement, and one text unless they may show a schedule
abbrev pub AreSameAnswers : (a b : List ℕ × Judgement) → Type 0
AreSameAnswers a b = (a.1 ≡ b.1) × ((MayHaveSchedule a.1 → ⊥) → a.0 ≡ b.0)

-- Two answers are alike, or are refusals of one number, except that a check may be given up undecided.
abbrev pub AreQueueAnswers : Result (List ℕ × Judgement) Refusal → Result (List ℕ × Judgement) Refusal → Type 0
AreQueueAnswers (Ok a) (Ok b) = AreSameAnswers a b
AreQueueAnswers (Ok a) (Err s) = s ≡ undecided
AreQueueAnswers (Err r) (Ok b) = r ≡ undecided
AreQueueAnswers (Err r) (Err s) = r.number ≡ s.number
