-- What a text says line by line: what each line adds to what the lines above it say, and why it is refused.
use Rattle.std.specs.Prelude.{ℕ, ◌+◌, ◌||◌, nat_lt, nat_le, if◌then◌else◌, List, [], ◌∷◌, ◌++◌, length, replicate, reverse, set, Option, Some, None}
use Rattle.std.specs.Prelude.{Result, Ok, Err, codes, Bool, true, false, ◌&&◌}
use Rattle.std.specs.Str.{bytes_eq}
use Rattle.texts.specs.Results.{◌>>=◌}
use Rattle.texts.specs.Formats.{or_fault}
use Rattle.texts.specs.Cutting.{tokens, first_cut}
use Rattle.queue_certificates.specs.Forms.{Form}
use Rattle.queue_certificates.specs.States.{KnownValue, any, Share, no_share, KnownState}
use Rattle.queue_certificates.specs.Certificates.{OpenedQueue, HartPart, ListedState, QueueCertificate}
use Rattle.queue_certificates.specs.Filled.{Filled}
use Rattle.queue_certificates.specs.declared.goal.Goal.{Goal}
use Rattle.queue_certificates.specs.declared.own.OwnWord.{OwnWord}
use Rattle.queue_layouts.specs.declared.tagged.OpenedTagged.{OpenedTagged}
use Rattle.certificate_reader.specs.declared.faults.CertificateFault.{CertificateFault}
use Rattle.certificate_reader.specs.declared.faults.CertificateFault.TheVariants.{BadHead, BadLine, Misplaced, TooMany, Unfinished}
use Rattle.certificate_reader.specs.declared.cases.Node.{Node}
use Rattle.certificate_reader.specs.declared.cases.Node.TheVariants as node
use Rattle.certificate_reader.specs.declared.stages.Keyword.{Keyword}
use Rattle.certificate_reader.specs.declared.stages.Keyword.TheVariants as keyword
use Rattle.certificate_reader.specs.declared.stages.Stage.{Stage}
use Rattle.certificate_reader.specs.declared.stages.Stage.TheVariants as stage
use Rattle.certificate_reader.specs.declared.stages.TheConstants.{MAX_SPLITS}
use Rattle.certificate_reader.specs.declared.limits.TheConstants.{MAX_QUEUES, MAX_HARTS, MAX_WORDS, MAX_VARIABLES, MAX_STATES}
use Rattle.certificate_reader.specs.Faults.{or_bad_line}
use Rattle.certificate_reader.specs.Numbers.{first_in, first_word_in, first_count_in, ended, five_at, four_counts, only_word}
use Rattle.certificate_reader.specs.FormTexts.{form_of, known_value_in}
use Rattle.certificate_reader.specs.Lists.{few, one_more, own_words_in, counts_in, ranges_in, forms_in}
use Rattle.certificate_reader.specs.Fields.{with_field, with_filled}
use Rattle.certificate_reader.specs.Tags.{with_tagged}
use Rattle.certificate_reader.specs.Goals.{with_goal, with_lacking}
use Rattle.certificate_reader.specs.CaseTexts.{cases_of}
use Rattle.certificate_reader.specs.Stages.{keyword_named, may_end, stage_after}

-- What the lines so far say: the queues, those with indices and those with tags, and the harts whose parts are over; then of the hart at
-- hand its own words, how it opens, what its ranks are for and its states that are over; then what is known in the state at hand, which
-- fields are right, its ranks, and its lines of cases. All states are counted, and the splits of the one at hand. The newest of the states and
-- of the lines of cases stands first.
pub record DraftValue : Type 0 where
  pub stage : Stage
  pub queues : List OpenedQueue
  pub tagged : List OpenedTagged
  pub harts : List HartPart
  pub own : List OwnWord
  pub first : ℕ
  pub numbers : List ℕ
  pub goals : List Goal
  pub lacking : List (List ℕ)
  pub states : List ListedState
  pub listed : ℕ
  pub pc : ℕ
  pub ranges : List (Option ℕ)
  pub registers : List KnownValue
  pub words : List KnownValue
  pub shares : List Share
  pub filled : List Filled
  pub ranks : List Form
  pub nodes : List Node
  pub splits : ℕ

abbrev pub no_draft : DraftValue
no_draft = record {
  stage = stage.Head;
  queues = [];
  tagged = [];
  harts = [];
  own = [];
  first = 0;
  numbers = [];
  goals = [];
  lacking = [];
  states = [];
  listed = 0;
  pc = 0;
  ranges = [];
  registers = [];
  words = [];
  shares = [];
  filled = [];
  ranks = [];
  nodes = [];
  splits = 0;
}

-- ---- queues

-- sender, receiver, head, tail, bytes of an index; slots, size, width, capacity, base; scale, offset, modulus, and the count at which
-- it opens. No field of its records is known yet
unfoldable pub queue_of : List (List ℕ) → Result OpenedQueue CertificateFault
queue_of words = do
  a ← five_at words
  b ← five_at a.1
  c ← four_counts b.1
  Ok (record {
    queue = record {
      sender = a.0.0;
      receiver = a.0.1;
      head = a.0.2;
      tail = a.0.3;
      index_width = a.0.4;
      slots = b.0.0;
      size = b.0.1;
      width = b.0.2;
      capacity = b.0.3;
      base = b.0.4;
      scale = c.0;
      offset = c.1;
      modulus = c.2;
    };
    start = c.3;
    fields = [];
  })

unfoldable pub with_queue : List OpenedQueue → List (List ℕ) → Result (List OpenedQueue) CertificateFault
with_queue queues words = do
  queue ← queue_of words
  one_more MAX_QUEUES queues queue

-- ---- what is over

abbrev pub known_of : DraftValue → KnownState
known_of d = record { pc = d.pc; ranges = d.ranges; registers = d.registers; words = d.words; shares = d.shares }

abbrev pub known_taken : DraftValue → DraftValue
known_taken d = record d { ranges = []; registers = []; words = []; shares = [] }

-- a state whose cases have all come
abbrev pub state_listed : DraftValue → DraftValue
state_listed d = record (known_taken d) {
  stage = stage.Opened;
  states = record { known = known_of d; ranks = d.ranks; filled = d.filled; cases = cases_of d.nodes } ∷ d.states;
  filled = [];
  ranks = [];
  nodes = [];
}

abbrev pub state_closed_at : Stage → DraftValue → DraftValue
state_closed_at (stage.Leaf n) d = state_listed d
state_closed_at other d = d

unfoldable pub state_closed : DraftValue → DraftValue
state_closed d = state_closed_at d.stage d

-- a hart whose states have all come
abbrev pub hart_listed : DraftValue → DraftValue
hart_listed d = record d {
  stage = stage.Queues;
  harts = d.harts ++ record {
    own = d.own;
    first = d.first;
    numbers = d.numbers;
    goals = d.goals;
    lacking = d.lacking;
    states = reverse d.states;
  } ∷ [];
  own = [];
  numbers = [];
  goals = [];
  lacking = [];
  states = [];
}

abbrev pub hart_closed_at : Stage → DraftValue → DraftValue
hart_closed_at stage.Opened d = hart_listed d
hart_closed_at other d = d

unfoldable pub hart_closed : DraftValue → DraftValue
hart_closed d = hart_closed_at d.stage d

-- ---- what begins

abbrev pub few_harts : DraftValue → Result DraftValue CertificateFault
few_harts d = if nat_le MAX_HARTS (length d.harts) then Err TooMany else Ok d

unfoldable pub with_hart : DraftValue → List (List ℕ) → Result DraftValue CertificateFault
with_hart d words = do
  over ← ended words
  few_harts (hart_closed (state_closed d))

-- nothing is known but the pc. There is a share of each queue, first of those with indices
abbrev pub with_pc : DraftValue → (pc : ℕ) → DraftValue
with_pc d pc = record d {
  listed = d.listed + 1;
  pc = pc;
  ranges = [];
  registers = replicate 32 any;
  words = replicate (length d.own) any;
  shares = replicate (length d.queues + length d.tagged) no_share;
  filled = [];
  ranks = [];
  nodes = [];
  splits = 0;
}

abbrev pub with_pc_in_room : DraftValue → (pc : ℕ) → Result DraftValue CertificateFault
with_pc_in_room d pc = if nat_le MAX_STATES d.listed then Err TooMany else Ok (with_pc d pc)

unfoldable pub with_state : DraftValue → List (List ℕ) → Result DraftValue CertificateFault
with_state d words = do
  pc ← only_word words
  with_pc_in_room (state_closed d) pc

-- ---- what is known

unfoldable pub own_of : List (List ℕ) → Result (List OwnWord) CertificateFault
own_of words = do
  own ← own_words_in words
  few MAX_WORDS own

unfoldable pub ranges_of : List (List ℕ) → Result (List (Option ℕ)) CertificateFault
ranges_of words = do
  ranges ← ranges_in words
  few MAX_VARIABLES ranges

unfoldable pub hart_opening : List (List ℕ) → Result (ℕ × List ℕ) CertificateFault
hart_opening words = do
  first ← first_word_in words
  numbers ← counts_in first.1
  few_numbers ← few MAX_VARIABLES numbers
  Ok (first.0, few_numbers)

abbrev pub only_value : (N n : ℕ) → List (List ℕ) → Result KnownValue CertificateFault
only_value N n [] = Err BadLine
only_value N n (word ∷ others) = do
  over ← ended others
  known_value_in N n word

-- a place from this one on, and what is known there
unfoldable pub with_value : (least N n : ℕ) → List KnownValue → List (List ℕ) → Result (List KnownValue) CertificateFault
with_value least N n values words = do
  place ← first_word_in words
  value ← only_value N n place.1
  if nat_lt place.0 least || nat_le (length values) place.0 then Err BadLine else Ok (set values place.0 value)

-- the form that the first word says, and the words after it
abbrev pub form_at : (n : ℕ) → List (List ℕ) → Result (Form × List (List ℕ)) CertificateFault
form_at n words = first_in (form_of n) words

unfoldable pub share_of : (n : ℕ) → List (List ℕ) → Result Share CertificateFault
share_of n words = do
  own ← form_at n words
  owned ← form_at n own.1
  over ← ended owned.1
  Ok (record { own = own.0; owned = owned.0 })

unfoldable pub with_share : (n : ℕ) → List Share → List (List ℕ) → Result (List Share) CertificateFault
with_share n shares words = do
  place ← first_word_in words
  share ← share_of n place.1
  if nat_le (length shares) place.0 then Err BadLine else Ok (set shares place.0 share)

-- ---- cases

unfoldable pub split_of : (n : ℕ) → List (List ℕ) → Result Node CertificateFault
split_of n words = do
  variable ← first_word_in words
  most ← first_count_in variable.1
  over ← ended most.1
  if nat_le n variable.0 then Err BadLine else Ok (node.Split variable.0 most.0)

unfoldable pub leaf_of : (n : ℕ) → List (List ℕ) → Result Node CertificateFault
leaf_of n words = do
  handed ← form_at n words
  over ← ended handed.1
  Ok (node.Leaf handed.0)

-- a state, and a form for each of its variables, over those of the leaf after one that comes with the step
unfoldable pub arrow_of : (n : ℕ) → List (List ℕ) → Result Node CertificateFault
arrow_of n words = do
  to ← first_word_in words
  forms ← forms_in (n + 1) to.1
  few_forms ← few MAX_VARIABLES forms
  Ok (node.To (record { to = to.0; forms = few_forms }))

unfoldable pub with_split : DraftValue → List (List ℕ) → Result DraftValue CertificateFault
with_split d words = do
  split ← split_of (length d.ranges) words
  if nat_le MAX_SPLITS d.splits then Err TooMany else Ok (record d { nodes = split ∷ d.nodes; splits = d.splits + 1 })

-- ---- a line

-- the words of a line after its first one
abbrev pub by_keyword : DraftValue → Keyword → List (List ℕ) → Result DraftValue CertificateFault
by_keyword d keyword.Queue words = do
  queues ← with_queue d.queues words
  Ok (record d { queues = queues })
by_keyword d keyword.Field words = do
  queues ← with_field d.queues words
  Ok (record d { queues = queues })
by_keyword d keyword.Tagged words = do
  tagged ← with_tagged d.tagged words
  Ok (record d { tagged = tagged })
by_keyword d keyword.Hart words = with_hart d words
by_keyword d keyword.Own words = do
  own ← own_of words
  Ok (record d { own = own })
by_keyword d keyword.Open words = do
  opening ← hart_opening words
  Ok (record d { first = opening.0; numbers = opening.1 })
by_keyword d keyword.Goes words = do
  goals ← with_goal d.goals words
  Ok (record d { goals = goals })
by_keyword d keyword.Lacks words = do
  lacking ← with_lacking d.lacking words
  Ok (record d { lacking = lacking })
by_keyword d keyword.State words = with_state d words
by_keyword d keyword.Most words = do
  ranges ← ranges_of words
  Ok (record d { ranges = ranges })
by_keyword d keyword.Register words = do
  registers ← with_value 1 (length d.queues) (length d.ranges) d.registers words
  Ok (record d { registers = registers })
by_keyword d keyword.Word words = do
  known_words ← with_value 0 (length d.queues) (length d.ranges) d.words words
  Ok (record d { words = known_words })
by_keyword d keyword.Share words = do
  shares ← with_share (length d.ranges) d.shares words
  Ok (record d { shares = shares })
by_keyword d keyword.Filled words = do
  filled ← with_filled d.queues d.filled words
  Ok (record d { filled = filled })
by_keyword d keyword.Rank words = do
  ranks ← forms_in (length d.ranges) words
  Ok (record d { ranks = ranks })
by_keyword d keyword.Split words = with_split d words
by_keyword d keyword.Leaf words = do
  leaf ← leaf_of (length d.ranges) words
  Ok (record d { nodes = leaf ∷ d.nodes })
by_keyword d keyword.To words = do
  arrow ← arrow_of (length d.ranges) words
  Ok (record d { nodes = arrow ∷ d.nodes })

-- a line that begins so, where it may come
unfoldable pub by_named : DraftValue → Keyword → List (List ℕ) → Result DraftValue CertificateFault
by_named d name words = do
  after ← or_fault Misplaced (stage_after d.stage name)
  next ← by_keyword d name words
  Ok (record next { stage = after })

abbrev pub are_none : List (List ℕ) → Bool
are_none [] = true
are_none (word ∷ others) = false

-- `ztso-queues 1`
abbrev pub is_head : List ℕ → List (List ℕ) → Bool
is_head first [] = false
is_head first (second ∷ others) = bytes_eq first (codes "ztso-queues") && bytes_eq second (codes "1") && are_none others

abbrev pub by_stage : Stage → DraftValue → (first : List ℕ) (words : List (List ℕ)) → Result DraftValue CertificateFault
by_stage stage.Head d first words = if is_head first words then Ok (record d { stage = stage.Queues }) else Err BadHead
by_stage other d first words = do
  name ← or_bad_line (keyword_named first)
  by_named d name words

abbrev pub by_words : DraftValue → (first : List ℕ) (words : List (List ℕ)) → Result DraftValue CertificateFault
by_words d first words = by_stage d.stage d first words

abbrev pub by_cut : DraftValue → Option (List ℕ × List ℕ) → Result DraftValue CertificateFault
by_cut d None = Ok d
by_cut d (Some cut) = by_words d cut.0 (tokens cut.1)

-- what is said with one line more; a line without a word adds nothing
unfoldable pub after_line : DraftValue → List ℕ → Result DraftValue CertificateFault
after_line d line = by_cut d (first_cut line)

-- ---- the end of a text

abbrev pub unfinished : Stage → CertificateFault
unfinished stage.Head = BadHead
unfinished other = Unfinished

abbrev pub certificate_of : DraftValue → QueueCertificate
certificate_of d = record { queues = d.queues; tagged = d.tagged; harts = d.harts }

-- the certificate, where the last hart's part may end here
unfoldable pub finished : DraftValue → Result QueueCertificate CertificateFault
finished d = if may_end d.stage then Ok (certificate_of (hart_closed (state_closed d))) else Err (unfinished d.stage)
