-- States, harts and a whole certificate, as they are written, are read again.
use Rattle.std.proofs.Common.{◌≡◌, ℕ, suc, ◌+◌, ◌^◌, ◌<◌, ◌≤◌, true, ◌||◌, List, [], ◌∷◌, ◌++◌, length, map, reverse, Some, Ok, refl, sym, ap, subst, ◌∙◌}
use Rattle.std.proofs.Common.{length-append, arith}
use Rattle.std.specs.Prelude.{codes, sum_by}
use Rattle.std.specs.List.{AllByRecursion, flat_map}
use Rattle.std.specs.Fmt.{decimal}
use Rattle.std.proofs.lemmas.Bool.{le-ltb, lt-leb}
use Rattle.std.proofs.lemmas.List.{append-nil, reverse-reverse}
use Rattle.std.proofs.Math.Bool.{or-true}
use Rattle.std.proofs.lemmas.List.Sums.{sum_by-cons, sum_by-append, sum_by_push}
use Rattle.queue_certificates.specs.{Form, KnownValue, KnownState, OpenedQueue, ListedState, HartPart, QueueCertificate}
use Rattle.queue_certificates.specs.declared.goal.Goal.{Goal}
use Rattle.queue_certificates.specs.declared.own.OwnWord.{OwnWord}
use Rattle.queue_layouts.specs.declared.tagged.OpenedTagged.{OpenedTagged}
use Rattle.queue_checker.specs.Trees.{height}
use Rattle.certificate_reader.specs.declared.stages.Keyword.TheVariants as keyword
use Rattle.certificate_reader.specs.declared.stages.Stage.{Stage}
use Rattle.certificate_reader.specs.declared.stages.Stage.TheVariants as stage
use Rattle.certificate_reader.specs.CaseTexts.{case_lines}
use Rattle.certificate_reader.specs.Stages.{keyword_named, stage_after, lists_queues, may_end, is_described, wanted}
use Rattle.certificate_reader.specs.Drafts.{DraftValue, no_draft, by_words, with_queue, with_pc, with_state, state_closed, state_closed_at, hart_closed}
use Rattle.certificate_reader.specs.Drafts.{hart_closed_at, hart_listed, with_hart, own_of, hart_opening, with_value, finished}
use Rattle.certificate_reader.specs.Reading.{certificate_from, certificate_at}
use Rattle.certificate_reader.specs.Writing.{LineOfWords, line_if, range_text, value_lines, share_lines, known_lines, filled_lines, described_lines}
use Rattle.certificate_reader.specs.Writing.{own_word_text, tree_lines, state_lines, part_lines, numbers_of, queue_line, field_line, queue_lines, tagged_line}
use Rattle.certificate_reader.specs.Writing.{certificate_lines, certificate_text, form_text, goal_line, lacks_line, rank_lines}
use Rattle.certificate_reader.specs.Written.{FitsForm, FitsOwn, FitsCount, FitsState, FitsPart, FitsQueue, CanBeWritten}
use Rattle.certificate_reader.proofs.Growing.{reverse_pushed, cases_again}
use Rattle.certificate_reader.proofs.NumbersAgain.{only_word_again, first_word_again, queue_again, counts_again}
use Rattle.certificate_reader.proofs.FormsAgain.{forms_again, own_words_again}
use Rattle.certificate_reader.proofs.LinesAgain.{told_lines, lines_again, by_name, LeadsTo, line_then, line_told, leads_on, then_told, IsHeld, at_stage}
use Rattle.certificate_reader.proofs.LinesAgain.{then_held}
use Rattle.certificate_reader.proofs.Turns.{each_told, each_added, if_told}
use Rattle.certificate_reader.proofs.FieldsAgain.{IsQueues, with_queues, fields_told, AreFew, are_few, IsDescribed, filled_told}
use Rattle.certificate_reader.proofs.TagsAgain.{ListsQueues, with_all_tagged, tagged_told}
use Rattle.certificate_reader.proofs.GoalsAgain.{IsOpened, with_goals, goals_told, with_sets, sets_told}
use Rattle.certificate_reader.proofs.StatesAgain.{with_ranges, ranges_told, values_told, shares_told, cases_told}
use Rattle.certificate_reader.proofs.SolidLines.{certificate_solid}

-- ---- what of a draft stays: all but the state at hand

pub record Core : Type 0 where
  pub queues : List OpenedQueue
  pub tagged : List OpenedTagged
  pub harts : List HartPart
  pub own : List OwnWord
  pub first : ℕ
  pub numbers : List ℕ
  pub goals : List Goal
  pub lacking : List (List ℕ)
  pub states : List ListedState
  pub listed : ℕ

abbrev pub core_of : DraftValue → Core
core_of d = record {
  queues = d.queues;
  tagged = d.tagged;
  harts = d.harts;
  own = d.own;
  first = d.first;
  numbers = d.numbers;
  goals = d.goals;
  lacking = d.lacking;
  states = d.states;
  listed = d.listed;
}

-- ---- what is known in a state

-- a state of which only the pc is known yet
abbrev begun_state : DraftValue → (pc : ℕ) → DraftValue
begun_state d pc = record (with_pc d pc) { stage = stage.State }

abbrev with_registers : DraftValue → List KnownValue → Stage → DraftValue
with_registers d values s = record d { registers = values; stage = s }

register_line : (d : DraftValue) (values new : List KnownValue) (s : Stage) (ws : List (List ℕ))
    → with_value 1 (length d.queues) (length d.ranges) values ws ≡ Ok new → IsDescribed s
    → LeadsTo (IsHeld IsDescribed (with_registers d new)) (with_registers d values s) ((codes "reg", ws) ∷ [])
unfolding keyword_named stage_after
register_line d values new s ws set is =
    line_told (IsHeld IsDescribed (with_registers d new)) (with_registers d values s) (with_registers d new s) (codes "reg") ws keyword.Register stage.Known
    refl (rw is refl) (rw set refl) (at_stage IsDescribed (with_registers d new) stage.Known refl)

abbrev with_words : DraftValue → List KnownValue → Stage → DraftValue
with_words d values s = record d { words = values; stage = s }

word_line : (d : DraftValue) (values new : List KnownValue) (s : Stage) (ws : List (List ℕ))
    → with_value 0 (length d.queues) (length d.ranges) values ws ≡ Ok new → IsDescribed s
    → LeadsTo (IsHeld IsDescribed (with_words d new)) (with_words d values s) ((codes "word", ws) ∷ [])
unfolding keyword_named stage_after
word_line d values new s ws set is =
    line_told (IsHeld IsDescribed (with_words d new)) (with_words d values s) (with_words d new s) (codes "word") ws keyword.Word stage.Known
    refl (rw is refl) (rw set refl) (at_stage IsDescribed (with_words d new) stage.Known refl)

abbrev known_draft : DraftValue → KnownState → Stage → DraftValue
known_draft d k s = record (with_pc d k.pc) { ranges = k.ranges; registers = k.registers; words = k.words; shares = k.shares; stage = s }

known_told : (d : DraftValue) (s : ListedState) → length d.queues ≤ 16 → length d.tagged ≤ 16 → length d.own ≤ 64
    → FitsState d.queues (length d.tagged) (length d.own) s
    → LeadsTo (IsHeld IsDescribed (known_draft d s.known)) (begun_state d s.known.pc) (known_lines s.known)
known_told d s few few_tagged few_own fits =
    then_held IsDescribed (with_words two k.words) (IsHeld IsDescribed (known_draft d k)) start (most ++ registers ++ words) (share_lines 0 k.shares)
    (then_held IsDescribed (with_registers one k.registers) (IsHeld IsDescribed (with_words two k.words)) start (most ++ registers) words
    (then_held IsDescribed (with_ranges start k.ranges) (IsHeld IsDescribed (with_registers one k.registers)) start most registers
    (ranges_told start k.ranges fits.variables fits.ranges)
    (λ t is. values_told (length d.queues) (length k.ranges) 1 (codes "reg") (with_registers one) (omega arith) (omega (arith, fits.variables))
    (register_line one) 32 k.registers t (omega arith) fits.all_registers (omega arith) (λ some. fits.zero_register) fits.registers is))
    (λ t is. values_told (length d.queues) (length k.ranges) 0 (codes "word") (with_words two) (omega arith) (omega (arith, fits.variables))
    (word_line two) (length d.own) k.words t (omega arith) fits.all_words (omega arith) (λ some. absurd (omega arith)) fits.words is))
    (λ t is. shares_told three (length d.queues + length d.tagged) k.shares t (omega (arith, fits.variables)) (omega arith) fits.all_shares fits.shares is)
  where
    k : KnownState
    k = s.known

    start : DraftValue
    start = begun_state d k.pc

    one : DraftValue
    one = record start { ranges = k.ranges }

    two : DraftValue
    two = record one { registers = k.registers }

    three : DraftValue
    three = record two { words = k.words }

    most : List LineOfWords
    most = line_if (codes "most") (map range_text k.ranges)

    registers : List LineOfWords
    registers = value_lines (codes "reg") 0 k.registers

    words : List LineOfWords
    words = value_lines (codes "word") 0 k.words

abbrev described_draft : DraftValue → ListedState → Stage → DraftValue
described_draft d s t = record (known_draft d s.known t) { filled = s.filled }

described_told : (d : DraftValue) (s : ListedState) → AreFew d.queues → length d.tagged ≤ 16 → length d.own ≤ 64
    → FitsState d.queues (length d.tagged) (length d.own) s
    → LeadsTo (IsHeld IsDescribed (described_draft d s)) (begun_state d s.known.pc) (described_lines s)
described_told d s few few_tagged few_own fits = then_held IsDescribed (known_draft d s.known) (IsHeld IsDescribed (described_draft d s))
    (begun_state d s.known.pc) (known_lines s.known) (filled_lines 0 s.filled) (known_told d s few.queues few_tagged few_own fits)
    (λ t is. filled_told (known_draft d s.known t) s.filled t few (omega (arith, fits.few_filled, few.queues)) fits.full_filled fits.filled is)

abbrev with_state_ranks : DraftValue → List Form → Stage → DraftValue
with_state_ranks d ranks s = record d { ranks = ranks; stage = s }

ranks_told : (d : DraftValue) (ranks : List Form) (s : Stage) → length d.ranges ≤ 2 ^ 32 → AllByRecursion (FitsForm (length d.ranges)) ranks → IsDescribed s
    → LeadsTo (IsHeld IsDescribed (with_state_ranks d ranks)) (with_state_ranks d [] s) (rank_lines ranks)
unfolding keyword_named stage_after
ranks_told d ranks s small all is = if_told IsDescribed (with_state_ranks d) (codes "rank") form_text s is ranks
    (line_told (IsHeld IsDescribed (with_state_ranks d ranks)) (with_state_ranks d [] s) (with_state_ranks d ranks s) (codes "rank")
    (map form_text ranks) keyword.Rank stage.Known refl (rw is refl) (rw (forms_again (length d.ranges) ranks small all) refl)
    (at_stage IsDescribed (with_state_ranks d ranks) stage.Known refl))

abbrev ranked_draft : DraftValue → ListedState → Stage → DraftValue
ranked_draft d s t = record (described_draft d s t) { ranks = s.ranks }

ranked_told : (d : DraftValue) (s : ListedState) → AreFew d.queues → length d.tagged ≤ 16 → length d.own ≤ 64
    → FitsState d.queues (length d.tagged) (length d.own) s
    → LeadsTo (IsHeld IsDescribed (ranked_draft d s)) (begun_state d s.known.pc) (described_lines s ++ rank_lines s.ranks)
ranked_told d s few few_tagged few_own fits = then_held IsDescribed (described_draft d s) (IsHeld IsDescribed (ranked_draft d s))
    (begun_state d s.known.pc) (described_lines s) (rank_lines s.ranks) (described_told d s few few_tagged few_own fits)
    (λ t is. ranks_told (described_draft d s t) s.ranks t (omega (arith, fits.variables)) fits.ranks is)

-- ---- a state

-- the states so far are those of c, and the last one may end here
pub record IsListed (c : Core) (d : DraftValue) : Type 0 where
  pub core : core_of (state_closed d) ≡ c
  pub ends : may_end d.stage ≡ true

state_begun : (d : DraftValue) (c : Core) (pc : ℕ) → IsListed c d → c.listed < 16384 → pc < 2 ^ 32
    → by_words d (codes "state") (decimal pc ∷ []) ≡ Ok (begun_state (state_closed d) pc)
unfolding keyword_named stage_after with_state
state_begun d c pc at few small = by_name d (with_pc (state_closed d) pc) (codes "state") (decimal pc ∷ []) keyword.State stage.State refl
    (rw at.ends refl) (rw (only_word_again pc small, listed, lt-leb 16384 c.listed few) refl)
  where
    listed : (state_closed d).listed ≡ c.listed
    listed = ap (λ (x : Core). x.listed) at.core

described_wants : (t : Stage) → is_described t ≡ true → wanted t ≡ suc 0
described_wants stage.State is = refl
described_wants stage.Known is = refl
described_wants other is = absurd cc

state_told : (d : DraftValue) (c : Core) (s : ListedState) → IsListed c d → AreFew c.queues → length c.tagged ≤ 16 → length c.own ≤ 64
    → c.listed < 16384 → FitsState c.queues (length c.tagged) (length c.own) s
    → LeadsTo (IsListed (record c { states = s ∷ c.states; listed = c.listed + 1 })) d (state_lines s)
unfolding state_closed
state_told d c s at few_queues few_tagged few_own few fits =
    line_then (IsListed new) d (begun_state x s.known.pc) (codes "state", decimal s.known.pc ∷ [])
    (described_lines s ++ rank_lines s.ranks ++ tree_lines (case_lines s.cases))
    (state_begun d c s.known.pc at few fits.pc)
    (then_held IsDescribed (ranked_draft x s) (IsListed new) (begun_state x s.known.pc) (described_lines s ++ rank_lines s.ranks)
    (tree_lines (case_lines s.cases))
    (ranked_told x s (subst (λ (y : Core). AreFew y.queues) (sym at.core) few_queues)
    (subst (λ (y : Core). length y.tagged ≤ 16) (sym at.core) few_tagged)
    (subst (λ (y : Core). length y.own ≤ 64) (sym at.core) few_own) fits_x) cases_read)
  where
    x : DraftValue
    x = state_closed d

    new : Core
    new = record c { states = s ∷ c.states; listed = c.listed + 1 }

    fits_x : FitsState x.queues (length x.tagged) (length x.own) s
    fits_x = subst (λ (y : Core). FitsState y.queues (length y.tagged) (length y.own) s) (sym at.core) fits

    cases_read : (t : Stage) → IsDescribed t → LeadsTo (IsListed new) (ranked_draft x s t) (tree_lines (case_lines s.cases))
    cases_read t is = record {
      end = record (ranked_draft x s t) { nodes = reverse (case_lines s.cases) ++ []; splits = 0 + height s.cases; stage = stage.Leaf 0 };
      read = cases_told (ranked_draft x s t) s.cases t 0 (described_wants t is) (omega arith) (omega (arith, fits.splits))
          (omega (arith, fits.variables)) fits.cases;
      holds = record {
        core =
            rw (append-nil (reverse (case_lines s.cases)), cases_again s.cases)
            (ap (λ (y : Core). record y { states = s ∷ y.states; listed = y.listed + 1 }) at.core);
        ends = refl;
      };
    }

-- c with states, of which it has none
abbrev with_states : Core → List ListedState → Core
with_states c ss = record c { states = reverse ss; listed = c.listed + length ss }

states_told : (d : DraftValue) (c : Core) (ss : List ListedState) → IsListed (with_states c []) d → AreFew c.queues → length c.tagged ≤ 16
    → length c.own ≤ 64 → c.listed + length ss ≤ 16384 → AllByRecursion (FitsState c.queues (length c.tagged) (length c.own)) ss
    → LeadsTo (IsListed (with_states c ss)) d (flat_map state_lines ss)
states_told d c ss at few_queues few_tagged few_own few all =
    each_told (FitsState c.queues (length c.tagged) (length c.own)) (λ xs. IsListed (with_states c xs)) state_lines ss next d all at
  where
    next : (before : List ListedState) (s : ListedState) (after : List ListedState) (e : DraftValue) → before ++ s ∷ after ≡ ss
        → FitsState c.queues (length c.tagged) (length c.own) s → IsListed (with_states c before) e
        → LeadsTo (IsListed (with_states c (before ++ s ∷ []))) e (state_lines s)
    next before s after e same fits at_e =
        let count : c.listed + length before + 1 ≡ c.listed + length (before ++ s ∷ []) = omega (arith, length-append before (s ∷ [])) in
        let longer : c.listed + length before < 16384 = omega (arith, ap length same, length-append before (s ∷ after)) in
        let more : record c { states = s ∷ reverse before; listed = c.listed + length before + 1 } ≡ with_states c (before ++ s ∷ []) =
        rw (reverse_pushed before s, count) refl in
        subst (λ y. LeadsTo (IsListed y) e (state_lines s)) more (state_told e (with_states c before) s at_e few_queues few_tagged few_own longer fits)

-- ---- a hart

-- the harts so far are these, and they have this many states
pub record IsAt (qs : List OpenedQueue) (ts : List OpenedTagged) (hs : List HartPart) (n : ℕ) (d : DraftValue) : Type 0 where
  pub queues : (hart_closed (state_closed d)).queues ≡ qs
  pub tagged : (hart_closed (state_closed d)).tagged ≡ ts
  pub harts : (hart_closed (state_closed d)).harts ≡ hs
  pub own : (hart_closed (state_closed d)).own ≡ []
  pub goals : (hart_closed (state_closed d)).goals ≡ []
  pub lacking : (hart_closed (state_closed d)).lacking ≡ []
  pub states : (hart_closed (state_closed d)).states ≡ []
  pub listed : (hart_closed (state_closed d)).listed ≡ n
  pub begins : (lists_queues d.stage || may_end d.stage) ≡ true
  pub ends : 0 < length hs → may_end d.stage ≡ true

closed_at : (s : Stage) (d : DraftValue) → d.stage ≡ s → may_end s ≡ true → (state_closed_at s d).stage ≡ stage.Opened
closed_at stage.Opened d is may = is
closed_at (stage.Leaf n) d is may = refl
closed_at other d is may = absurd cc

closed_stage : (d : DraftValue) → may_end d.stage ≡ true → (state_closed d).stage ≡ stage.Opened
unfolding state_closed
closed_stage d ends = closed_at d.stage d refl ends

-- the words of a hart's own have come, or none
abbrev MayOpen : Stage → Type 0
MayOpen s = stage_after s keyword.Open ≡ Some stage.Opened

abbrev with_own : DraftValue → List OwnWord → Stage → DraftValue
with_own d own s = record d { own = own; stage = s }

own_told : (d : DraftValue) (own : List OwnWord) → length own ≤ 64 → AllByRecursion FitsOwn own
    → LeadsTo (IsHeld MayOpen (with_own d own)) (with_own d [] stage.Hart) (line_if (codes "own") (map own_word_text own))
unfolding keyword_named stage_after own_of
own_told d own few all = if_told MayOpen (with_own d) (codes "own") own_word_text stage.Hart refl own
    (line_told (IsHeld MayOpen (with_own d own)) (with_own d [] stage.Hart) (with_own d own stage.Hart) (codes "own") (map own_word_text own)
    keyword.Own stage.Owned refl refl (rw (own_words_again own all, le-ltb 64 (length own) few) refl) (at_stage MayOpen (with_own d own) stage.Owned refl))

opening_again : (first : ℕ) (numbers : List ℕ) → first < 2 ^ 32 → length numbers ≤ 64 → AllByRecursion FitsCount numbers
    → hart_opening (map decimal (first ∷ numbers)) ≡ Ok (first, numbers)
unfolding hart_opening
opening_again first numbers small few all =
    rw (first_word_again first (map decimal numbers) small, counts_again numbers all, le-ltb 64 (length numbers) few) refl

-- a draft whose last state is over, and its hart's part too
closed_listed : (d : DraftValue) → d.stage ≡ stage.Opened → hart_closed d ≡ hart_listed d
unfolding hart_closed
closed_listed d opened = ap (λ (s : Stage). hart_closed_at s d) opened

is_at_end : (c : Core) (p : HartPart) (d : DraftValue)
    → IsListed (with_states (record c { own = p.own; first = p.first; numbers = p.numbers; goals = p.goals; lacking = p.lacking }) p.states) d
    → IsAt c.queues c.tagged (c.harts ++ p ∷ []) (c.listed + length p.states) d
is_at_end c p d at = record {
  queues = ap (λ (e : DraftValue). e.queues) closed ∙ ap (λ (x : Core). x.queues) at.core;
  tagged = ap (λ (e : DraftValue). e.tagged) closed ∙ ap (λ (x : Core). x.tagged) at.core;
  harts = ap (λ (e : DraftValue). e.harts) closed
      ∙ ap (λ (x : Core). x.harts ++ record {
        own = x.own;
        first = x.first;
        numbers = x.numbers;
        goals = x.goals;
        lacking = x.lacking;
        states = reverse x.states;
      } ∷ []) at.core
      ∙ ap (λ (states : List ListedState). c.harts ++ record p { states = states } ∷ []) (reverse-reverse p.states);
  own = ap (λ (e : DraftValue). e.own) closed;
  goals = ap (λ (e : DraftValue). e.goals) closed;
  lacking = ap (λ (e : DraftValue). e.lacking) closed;
  states = ap (λ (e : DraftValue). e.states) closed;
  listed = ap (λ (e : DraftValue). e.listed) closed ∙ ap (λ (x : Core). x.listed) at.core;
  begins = rw at.ends (or-true (lists_queues d.stage));
  ends = λ some. at.ends;
}
  where
    closed : hart_closed (state_closed d) ≡ hart_listed (state_closed d)
    closed = closed_listed (state_closed d) (closed_stage d at.ends)

part_told : (d : DraftValue) (qs : List OpenedQueue) (ts : List OpenedTagged) (hs : List HartPart) (n : ℕ) (p : HartPart) → IsAt qs ts hs n d
    → length hs < 64 → AreFew qs → length ts ≤ 16 → n + length p.states ≤ 16384 → FitsPart qs (length ts) p
    → LeadsTo (IsAt qs ts (hs ++ p ∷ []) (n + length p.states)) d (part_lines p)
unfolding keyword_named stage_after with_hart state_closed
part_told d qs ts hs n p at few_harts few_queues few_tagged few fits =
    line_then over d (record x { stage = stage.Hart }) (codes "hart", [])
    (own_lines ++ opening ∷ [] ++ map goal_line p.goals ++ map lacks_line p.lacking ++ flat_map state_lines p.states)
    (by_name d x (codes "hart") [] keyword.Hart stage.Hart refl (rw at.begins refl) (rw (at.harts, lt-leb 64 (length hs) few_harts) refl))
    (then_held IsOpened aimed over (record x { stage = stage.Hart }) (own_lines ++ opening ∷ [] ++ map goal_line p.goals ++ map lacks_line p.lacking)
    (flat_map state_lines p.states)
    (then_held IsOpened going (IsHeld IsOpened aimed) (record x { stage = stage.Hart }) (own_lines ++ opening ∷ [] ++ map goal_line p.goals)
    (map lacks_line p.lacking)
    (then_held IsOpened opened (IsHeld IsOpened going) (record x { stage = stage.Hart }) (own_lines ++ opening ∷ []) (map goal_line p.goals)
    (then_held MayOpen (with_own x p.own) (IsHeld IsOpened opened) (record x { stage = stage.Hart }) own_lines (opening ∷ []) own_read open_read) goals_read)
    sets_read)
    (λ t is. leads_on (IsListed (with_states core p.states)) over (aimed t) (flat_map state_lines p.states) (is_at_end core p)
    (states_told (aimed t) core p.states (listed t is) few_queues few_tagged fits.few_words few fits.states)))
  where
    over : DraftValue → Type 0
    over = IsAt qs ts (hs ++ p ∷ []) (n + length p.states)

    x : DraftValue
    x = hart_closed (state_closed d)

    core : Core
    core = record {
      queues = qs;
      tagged = ts;
      harts = hs;
      own = p.own;
      first = p.first;
      numbers = p.numbers;
      goals = p.goals;
      lacking = p.lacking;
      states = [];
      listed = n;
    }

    opened : Stage → DraftValue
    opened t = record (with_own x p.own t) { first = p.first; numbers = p.numbers }

    going : Stage → DraftValue
    going t = record (opened t) { goals = p.goals }

    aimed : Stage → DraftValue
    aimed t = record (going t) { lacking = p.lacking }

    own_lines : List LineOfWords
    own_lines = line_if (codes "own") (map own_word_text p.own)

    opening : LineOfWords
    opening = (codes "open", map decimal (p.first ∷ p.numbers))

    own_read : LeadsTo (IsHeld MayOpen (with_own x p.own)) (record x { stage = stage.Hart }) own_lines
    own_read = subst (λ (own : List OwnWord). LeadsTo (IsHeld MayOpen (with_own x p.own)) (with_own x own stage.Hart) own_lines) (sym at.own)
        (own_told x p.own fits.few_words fits.own)

    open_read : (t : Stage) → MayOpen t → LeadsTo (IsHeld IsOpened opened) (with_own x p.own t) (opening ∷ [])
    open_read t may = line_told (IsHeld IsOpened opened) (with_own x p.own t) (opened t) (codes "open") (map decimal (p.first ∷ p.numbers)) keyword.Open
        stage.Opened refl may (rw (opening_again p.first p.numbers fits.first fits.few_numbers fits.numbers) refl)
        (at_stage IsOpened opened stage.Opened refl)

    goals_read : (t : Stage) → IsOpened t → LeadsTo (IsHeld IsOpened going) (opened t) (map goal_line p.goals)
    goals_read t is = subst (λ (goals : List Goal). LeadsTo (IsHeld IsOpened going) (with_goals (opened t) goals t) (map goal_line p.goals)) (sym at.goals)
        (goals_told (opened t) p.goals t fits.few_goals fits.goals is)

    sets_read : (t : Stage) → IsOpened t → LeadsTo (IsHeld IsOpened aimed) (going t) (map lacks_line p.lacking)
    sets_read t is = subst (λ (sets : List (List ℕ)). LeadsTo (IsHeld IsOpened aimed) (with_sets (going t) sets t) (map lacks_line p.lacking)) (sym at.lacking)
        (sets_told (going t) p.lacking t fits.few_lacking fits.lacking is)

    listed : (t : Stage) → IsOpened t → IsListed (with_states core []) (aimed t)
    listed stage.Opened is =
        let none : n ≡ n + 0 = omega arith in record { core = rw (at.queues, at.tagged, at.harts, at.states, at.listed, ← none) refl; ends = refl }
    listed other is = absurd cc

abbrev listed_states : HartPart → ℕ
listed_states part = length part.states

harts_told : (d : DraftValue) (qs : List OpenedQueue) (ts : List OpenedTagged) (parts : List HartPart) → IsAt qs ts [] 0 d → length parts ≤ 64 → AreFew qs
    → length ts ≤ 16 → sum_by listed_states parts ≤ 16384 → AllByRecursion (FitsPart qs (length ts)) parts
    → LeadsTo (IsAt qs ts parts (sum_by listed_states parts)) d (flat_map part_lines parts)
harts_told d qs ts parts at few_harts few_queues few_tagged few all =
    each_told (FitsPart qs (length ts)) (λ hs. IsAt qs ts hs (sum_by listed_states hs)) part_lines parts next d all at
  where
    next : (before : List HartPart) (p : HartPart) (after : List HartPart) (e : DraftValue) → before ++ p ∷ after ≡ parts → FitsPart qs (length ts) p
        → IsAt qs ts before (sum_by listed_states before) e
        → LeadsTo (IsAt qs ts (before ++ p ∷ []) (sum_by listed_states (before ++ p ∷ []))) e (part_lines p)
    next before p after e same fits at_e =
        let longer : length before < 64 = omega (arith, ap length same, length-append before (p ∷ after)) in
        let room : sum_by listed_states before + length p.states ≤ 16384 = omega (
          arith,
          ap (sum_by listed_states) same,
          sum_by-append listed_states before (p ∷ after),
          sum_by-cons listed_states p after,
        ) in
        subst (λ k. LeadsTo (IsAt qs ts (before ++ p ∷ []) k) e (part_lines p)) (sym (sum_by_push listed_states before p))
        (part_told e qs ts before (sum_by listed_states before) p at_e longer few_queues few_tagged room fits)

-- ---- queues

queue_made : (queues : List OpenedQueue) (q : OpenedQueue) → length queues < 16 → FitsQueue q
    → with_queue queues (map decimal (numbers_of q)) ≡ Ok (queues ++ record q { fields = [] } ∷ [])
unfolding with_queue
queue_made queues q few fits = rw (queue_again q fits, lt-leb 16 (length queues) few) refl

queue_told : (d : DraftValue) (queues : List OpenedQueue) (q : OpenedQueue) (s : Stage) → length queues < 16 → FitsQueue q → IsQueues s
    → LeadsTo (IsHeld IsQueues (with_queues d (queues ++ q ∷ []))) (with_queues d queues s) (queue_lines q)
unfolding keyword_named stage_after
queue_told d queues q s few fits is =
    let bare = with_queues d (queues ++ record q { fields = [] } ∷ []) in
    line_then (IsHeld IsQueues (with_queues d (queues ++ q ∷ []))) (with_queues d queues s) (bare stage.Queues) (queue_line q) (map field_line q.fields)
    (by_name (with_queues d queues s) (bare s) (codes "queue") (map decimal (numbers_of q)) keyword.Queue stage.Queues refl (rw is refl)
    (rw (queue_made queues q few fits) refl))
    (fields_told d queues q stage.Queues fits.few_fields fits.fields refl)

queues_told : (d : DraftValue) (qs : List OpenedQueue) → length qs ≤ 16 → AllByRecursion FitsQueue qs
    → LeadsTo (IsHeld IsQueues (with_queues d qs)) (with_queues d [] stage.Queues) (flat_map queue_lines qs)
queues_told d qs few all = each_added FitsQueue IsQueues (with_queues d) queue_lines qs
    (λ before q t fewer fits is. queue_told d before q t (omega arith) fits is) stage.Queues refl all

-- ---- all of it

head_read : by_words no_draft (codes "ztso-queues") (codes "1" ∷ []) ≡ Ok (record no_draft { stage = stage.Queues })
head_read = refl

still_lists : (s : Stage) → IsQueues s → ListsQueues s
still_lists stage.Queues is = refl
still_lists other is = absurd cc

begins_at : (qs : List OpenedQueue) (ts : List OpenedTagged) (s : Stage) → ListsQueues s
    → IsAt qs ts [] 0 (record no_draft { queues = qs; tagged = ts; stage = s })
unfolding state_closed hart_closed
begins_at qs ts stage.Queues lists =
    record {
      queues = refl;
      tagged = refl;
      harts = refl;
      own = refl;
      goals = refl;
      lacking = refl;
      states = refl;
      listed = refl;
      begins = refl;
      ends = λ some. absurd (omega arith);
    }
begins_at qs ts stage.Tagged lists =
    record {
      queues = refl;
      tagged = refl;
      harts = refl;
      own = refl;
      goals = refl;
      lacking = refl;
      states = refl;
      listed = refl;
      begins = refl;
      ends = λ some. absurd (omega arith);
    }
begins_at qs ts other lists = absurd cc

lines_told : (c : QueueCertificate) → CanBeWritten c
    → LeadsTo (IsAt c.queues c.tagged c.harts (sum_by listed_states c.harts)) no_draft (certificate_lines c)
lines_told c fits =
    line_then over no_draft begun (codes "ztso-queues", codes "1" ∷ []) (queues ++ tagged ++ harts) head_read
    (then_held ListsQueues (with_all_tagged listed c.tagged) over begun (queues ++ tagged) harts
    (then_held IsQueues (with_queues no_draft c.queues) (IsHeld ListsQueues (with_all_tagged listed c.tagged)) begun queues tagged
    (queues_told no_draft c.queues fits.few_queues fits.queues)
    (λ t is. tagged_told listed c.tagged t fits.few_tagged fits.tagged (still_lists t is)))
    (λ t lists. harts_told (with_all_tagged listed c.tagged t) c.queues c.tagged c.harts (begins_at c.queues c.tagged t lists) fits.few_harts
    (are_few c.queues fits.few_queues fits.queues) fits.few_tagged fits.few_states fits.harts))
  where
    over : DraftValue → Type 0
    over = IsAt c.queues c.tagged c.harts (sum_by listed_states c.harts)

    begun : DraftValue
    begun = record no_draft { stage = stage.Queues }

    listed : DraftValue
    listed = record no_draft { queues = c.queues }

    queues : List LineOfWords
    queues = flat_map queue_lines c.queues

    tagged : List LineOfWords
    tagged = map tagged_line c.tagged

    harts : List LineOfWords
    harts = flat_map part_lines c.harts

pub certificate_again : (c : QueueCertificate) → CanBeWritten c → certificate_at (certificate_text c) ≡ Ok c
unfolding certificate_at certificate_from certificate_text finished
certificate_again c fits =
    let all = lines_told c fits in
    let solid = certificate_solid c fits in
    let said = told_lines no_draft all.end 1 (certificate_lines c) solid all.read in
    rw (lines_again (certificate_lines c) solid, said.1, all.holds.ends fits.some_hart, all.holds.queues, all.holds.tagged, all.holds.harts) refl

-- what the writer has written
pub written_again : (text : List ℕ) (c : QueueCertificate) → CanBeWritten c → text ≡ certificate_text c → certificate_at text ≡ Ok c
written_again text c fits same = ap certificate_at same ∙ certificate_again c fits
