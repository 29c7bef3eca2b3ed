-- Which certificates can be written within the reader's limits: a text of such a one is read as the certificate again.
use Rattle.std.specs.Prelude.{ℕ, ◌≡◌, ◌+◌, ◌^◌, ◌<◌, ◌≤◌, true, Option, None, Some, List, [], ◌∷◌, length, get_or, sum_by}
use Rattle.std.specs.List.{AllByRecursion}
use Rattle.queue_certificates.specs.RecordFields.{Field}
use Rattle.queue_certificates.specs.Forms.{Form}
use Rattle.queue_certificates.specs.States.{KnownValue, any, linear, index_for, signed_for, ends_as, has_bits, Share}
use Rattle.queue_certificates.specs.Cases.{Arrow, Cases, leaf, split}
use Rattle.queue_certificates.specs.Certificates.{OpenedQueue, no_queue, ListedState, HartPart, QueueCertificate}
use Rattle.queue_certificates.specs.Filled.{Filled}
use Rattle.queue_certificates.specs.declared.goal.Goal.{Goal}
use Rattle.queue_certificates.specs.declared.goal.Goal.TheVariants as goal
use Rattle.queue_certificates.specs.declared.own.OwnWord.{OwnWord}
use Rattle.queue_layouts.specs.declared.tagged.Codec.{Codec}
use Rattle.queue_layouts.specs.declared.tagged.Codec.TheVariants as codec
use Rattle.queue_layouts.specs.declared.tagged.OpenedTagged.{OpenedTagged}
use Rattle.queue_checker.specs.Trees.{height}
use Rattle.certificate_reader.specs.Lists.{is_own_width}
use Rattle.certificate_reader.specs.declared.stages.TheConstants.{MAX_SPLITS}
use Rattle.certificate_reader.specs.declared.limits.TheConstants.{MAX_QUEUES, MAX_TAGGED, MAX_SLOTS, MAX_FIELDS, MAX_POSITIONS}
use Rattle.certificate_reader.specs.declared.limits.TheConstants.{MAX_GOALS, MAX_HARTS, MAX_WORDS, MAX_VARIABLES, MAX_STATES}

abbrev pub FitsWord : ℕ → Type 0
FitsWord n = n < 2 ^ 32

-- a count may also be 2 ^ 32
abbrev pub FitsCount : ℕ → Type 0
FitsCount n = n ≤ 2 ^ 32

-- a form of n variables
pub record FitsForm (n : ℕ) (f : Form) : Type 0 where
  pub constant : FitsCount f.constant
  pub factors : AllByRecursion FitsCount f.factors
  pub few : length f.factors ≤ n

-- where there are N queues with indices
abbrev pub FitsValue : (N n : ℕ) → KnownValue → Type 0
FitsValue N n any = Unit {0}
FitsValue N n (linear f) = FitsForm n f
FitsValue N n (index_for i f) = (i < N) × FitsForm n f
FitsValue N n (signed_for i f) = (i < N) × FitsForm n f
FitsValue N n (ends_as b f) = (b ≤ 32) × FitsForm n f
FitsValue N n (has_bits m b) = FitsWord m × FitsWord b

pub record FitsShare (n : ℕ) (s : Share) : Type 0 where
  pub own : FitsForm n s.own
  pub owned : FitsForm n s.owned

abbrev pub FitsRange : Option ℕ → Type 0
FitsRange None = Unit {0}
FitsRange (Some most) = FitsCount most

pub record FitsArrow (n : ℕ) (a : Arrow) : Type 0 where
  pub to : FitsWord a.to
  pub forms : AllByRecursion (FitsForm (n + 1)) a.forms
  pub few : length a.forms ≤ MAX_VARIABLES

abbrev pub FitsCases : (n : ℕ) → Cases → Type 0
FitsCases n (leaf handed arrows) = FitsForm n handed × AllByRecursion (FitsArrow n) arrows
FitsCases n (split j v low high) = (j < n) × FitsCount v × FitsCases n low × FitsCases n high

-- P holds of each element by its place, from this one on
abbrev pub AllAt : {A : Type 0} → ((place : ℕ) → A → Type 0) → (place : ℕ) → List A → Type 0
AllAt P place [] = Unit {0}
AllAt P place (x ∷ xs) = P place x × AllAt P (place + 1) xs

-- the last of the lists, if there is one, isn't empty: a text says nothing of one that is empty
abbrev pub EndsFull : {A : Type 0} → List (List A) → Type 0
EndsFull [] = Unit {0}
EndsFull (x ∷ []) = 1 ≤ length x
EndsFull (x ∷ y ∷ ys) = EndsFull (y ∷ ys)

-- what is right in the slots of a queue that has k fields
pub record FitsSlots (k : ℕ) (slots : Filled) : Type 0 where
  pub fields : AllByRecursion (AllByRecursion (λ field. field < k)) slots
  pub few : length slots ≤ MAX_POSITIONS
  pub full : EndsFull slots

-- of the queues from i on
abbrev pub FitsFilled : List OpenedQueue → (i : ℕ) → List Filled → Type 0
FitsFilled queues i filled = AllAt (λ j slots. FitsSlots (length (get_or queues j no_queue).fields) slots) i filled

-- of a hart with `own` own words: a value or none of each register and own word, a share or none of each queue, of those with indices and
-- of the T with tags, and the fields that are right without an empty list at an end
pub record FitsState (queues : List OpenedQueue) (T own : ℕ) (s : ListedState) : Type 0 where
  pub pc : FitsWord s.known.pc
  pub variables : length s.known.ranges ≤ MAX_VARIABLES
  pub ranges : AllByRecursion FitsRange s.known.ranges
  pub registers : AllByRecursion (FitsValue (length queues) (length s.known.ranges)) s.known.registers
  pub all_registers : length s.known.registers ≡ 32
  pub zero_register : get_or s.known.registers 0 any ≡ any
  pub words : AllByRecursion (FitsValue (length queues) (length s.known.ranges)) s.known.words
  pub all_words : length s.known.words ≡ own
  pub shares : AllByRecursion (FitsShare (length s.known.ranges)) s.known.shares
  pub all_shares : length s.known.shares ≡ length queues + T
  pub filled : FitsFilled queues 0 s.filled
  pub few_filled : length s.filled ≤ length queues
  pub full_filled : EndsFull s.filled
  pub ranks : AllByRecursion (FitsForm (length s.known.ranges)) s.ranks
  pub cases : FitsCases (length s.known.ranges) s.cases
  pub splits : height s.cases ≤ MAX_SPLITS

-- an own word, which has 1, 2 or 4 bytes: no text says another width
pub record FitsOwn (o : OwnWord) : Type 0 where
  pub at : FitsWord o.at
  pub width : is_own_width o.width ≡ true

abbrev pub FitsGoal : Goal → Type 0
FitsGoal (goal.Queue i K) = FitsWord i × FitsCount K
FitsGoal (goal.Tags i) = FitsWord i
FitsGoal (goal.Together K) = FitsCount K

pub record FitsPart (queues : List OpenedQueue) (T : ℕ) (p : HartPart) : Type 0 where
  pub own : AllByRecursion FitsOwn p.own
  pub few_words : length p.own ≤ MAX_WORDS
  pub first : FitsWord p.first
  pub numbers : AllByRecursion FitsCount p.numbers
  pub few_numbers : length p.numbers ≤ MAX_VARIABLES
  pub goals : AllByRecursion FitsGoal p.goals
  pub few_goals : length p.goals ≤ MAX_GOALS
  pub lacking : AllByRecursion (AllByRecursion FitsWord) p.lacking
  pub few_lacking : length p.lacking ≤ MAX_GOALS
  pub states : AllByRecursion (FitsState queues T (length p.own)) p.states

pub record FitsField (f : Field) : Type 0 where
  pub at : FitsWord f.at
  pub width : FitsWord f.width
  pub low : FitsCount f.low
  pub step : FitsCount f.step
  pub count : FitsCount f.count

pub record FitsQueue (o : OpenedQueue) : Type 0 where
  pub places : AllByRecursion FitsWord (o.queue.sender ∷ o.queue.receiver ∷ o.queue.head ∷ o.queue.tail ∷ o.queue.index_width ∷ [])
  pub slots : AllByRecursion FitsWord (o.queue.slots ∷ o.queue.size ∷ o.queue.width ∷ o.queue.capacity ∷ o.queue.base ∷ [])
  pub counts : AllByRecursion FitsCount (o.queue.scale ∷ o.queue.offset ∷ o.queue.modulus ∷ o.start ∷ [])
  pub fields : AllByRecursion FitsField o.fields
  pub few_fields : length o.fields ≤ MAX_FIELDS

abbrev pub FitsCodec : Codec → Type 0
FitsCodec codec.Zero = Unit {0}
FitsCodec codec.Number = Unit {0}
FitsCodec (codec.Bit mask free full) = AllByRecursion FitsWord (mask ∷ free ∷ full ∷ [])
FitsCodec (codec.Phases mask free full odd_free odd_full) = AllByRecursion FitsWord (mask ∷ free ∷ full ∷ odd_free ∷ odd_full ∷ [])

pub record FitsTagged (o : OpenedTagged) : Type 0 where
  pub slots : AllByRecursion FitsWord (o.queue.sender ∷ o.queue.receiver ∷ o.queue.slots ∷ o.queue.size ∷ o.queue.width ∷ [])
  pub few_slots : o.queue.size ≤ MAX_SLOTS
  pub tag : AllByRecursion FitsWord (o.queue.tags ∷ o.queue.tag_stride ∷ o.queue.tag_offset ∷ o.queue.tag_width ∷ [])
  pub codec : FitsCodec o.queue.codec
  pub start : FitsCount o.start

pub record CanBeWritten (c : QueueCertificate) : Type 0 where
  pub queues : AllByRecursion FitsQueue c.queues
  pub few_queues : length c.queues ≤ MAX_QUEUES
  pub tagged : AllByRecursion FitsTagged c.tagged
  pub few_tagged : length c.tagged ≤ MAX_TAGGED
  pub harts : AllByRecursion (FitsPart c.queues (length c.tagged)) c.harts
  pub some_hart : 1 ≤ length c.harts
  pub few_harts : length c.harts ≤ MAX_HARTS
  pub few_states : sum_by (λ part. length part.states) c.harts ≤ MAX_STATES
