-- The example's runs use their queues, and end as said.
use Rattle.std.proofs.Common.{not, nat_lt}
use Rattle.spsc_queue.proofs.Common.{ℕ, zero, suc, ◌+◌, ◌*◌, ◌%◌, ◌<◌, ◌≤◌, ◌≡◌, ◌≢◌, ◌==◌, ◌&&◌, Bool, true, false, List, [], ◌∷◌, ◌++◌, length, Option, Some}
use Rattle.spsc_queue.proofs.Common.{None, refl, sym, ◌∙◌, ap, subst, arith, append-nil, append_assoc, drop, slice_index, All, slice_get, nat_tests, All-head}
use Rattle.spsc_queue.proofs.Common.{All-tail, words_of, Write, HartState, Need, Entry, OpeningValue, history_of, hart_of, pending, own_stores, own_store}
use Rattle.spsc_queue.proofs.Common.{lands, memory_word, entry_of, state_of, Allowed, WellFormed, writes_to, IsQuiescent, slot_address, capacity, slot_offset}
use Rattle.spsc_queue.proofs.Common.{party_hart, party_line, listing_of, buffer, enters, is_in_call, copy_in, received_words, StandsIn, HasFunction}
use Rattle.spsc_queue.proofs.Common.{UsesAsSpscQueue, accesses, obligations_kept}
use Rattle.rv_decode.specs.Meaning.{meaning}
use Rattle.hart.specs.Steps.{need_of, advanced}
use Rattle.hart.specs.declared.status.Status.{Status}
use Rattle.step_machine.specs.declared.events.Event.{Event}
use Rattle.step_machine.specs.Names.{with_entry, IsOfHarts}
use Rattle.step_machine.proofs.Acts.{does, land_happens}
use Rattle.step_machine.proofs.{kept-happens, kept-at_opening, some_first, kept-front}
use Rattle.spsc_queue.specs.Calls.{Party, the_sender, the_receiver, sent_words}
use Rattle.spsc_queue.specs.CallEffects.{IsWholeCall}
use Rattle.spsc_queue.specs.Example.{value_at, entry_in, entry_by, entries_by, fast, kind_of, caches_of, Variant, caching, waiting_of, Scenario, sends, hits}
use Rattle.spsc_queue.specs.Example.{receives, finds_full, takes_over, plain, finds_empty, goes_on, variant, sender_of, receiver_of, party, queue}
use Rattle.spsc_queue.specs.Example.{hart_of_party, opening, first_events, lead_events, call_events, before_entries, lead_entries, call_entries, entries}
use Rattle.spsc_queue.specs.Example.{state_after, answer, access_count, sent, received}
use Rattle.spsc_queue.proofs.Registers.{thirteen}
use Rattle.spsc_queue.proofs.Parts.{copied_in}
use Rattle.spsc_queue.proofs.Numbers.{both}
use Rattle.spsc_queue.proofs.Obligations.{obligations_decided}
use Rattle.hart.specs.declared.status.Status.TheVariants as status
use Rattle.hart.specs.declared.need.Need.TheVariants as need
use Rattle.step_machine.specs.declared.events.Entry.TheVariants as entry
use Rattle.step_machine.specs.declared.events.Event.TheVariants as event
use Rattle.step_machine.specs.declared.events.Outcome.TheVariants as outcome

-- ---- entries that events make are a run, where each event may come

unfoldable pub may_want : (B : ℕ) → List Write → Need → Bool
may_want B ws need.Inner = true
may_want B ws (need.Load a width) = true
may_want B ws (need.Store a width w) = nat_lt (length ws) B
may_want B ws other = false

unfoldable pub is_running : Status → Bool
is_running status.Running = true
is_running other = false

unfoldable pub may_act : (B : ℕ) → List Write → Option HartState → Bool
may_act B ws None = false
may_act B ws (Some s) = is_running s.status && may_want B ws (need_of s)

unfoldable pub is_some : Option HartState → Bool
is_some None = false
is_some (Some s) = true

unfoldable pub may_come : (B M : ℕ) → OpeningValue → List Entry → Event → Bool
may_come B M o es (event.Act h) = may_act B (pending h es) (state_of M (history_of o es) h)
may_come B M o es (event.Land h) = is_some (state_of M (history_of o es) h) && nat_lt 0 (length (pending h es))

unfoldable pub all_come : (B M : ℕ) → OpeningValue → List Entry → List Event → Bool
all_come B M o front [] = true
all_come B M o front (ev ∷ evs) = may_come B M o front ev && all_come B M o (front ++ entry_by M o front ev ∷ []) evs

module _ (B M : ℕ) (o : OpeningValue) where
  running : (x : Status) → is_running x ≡ true → x ≡ status.Running
  unfolding is_running
  running status.Running is = refl
  running other is = cc

  allowed : (es : List Entry) (h : ℕ) (n : Need) → may_want B (pending h es) n ≡ true → Allowed B o es (entry_of h n (value_at o es h n))
  unfolding may_want
  allowed es h need.Inner is = tt
  allowed es h (need.Load a width) is = refl
  allowed es h (need.Store a width w) is = grind (arith, nat_tests, is)
  allowed es h other is = cc

  one_comes : (es : List Entry) (ev : Event) → WellFormed B M (history_of o es) → may_come B M o es ev ≡ true
      → WellFormed B M (history_of o (es ++ entry_by M o es ev ∷ []))
  unfolding may_come may_act is_some
  one_comes es (event.Act h) kept may = at (state_of M (history_of o es) h) refl may
    where
      at : (so : Option HartState) → state_of M (history_of o es) h ≡ so → may_act B (pending h es) so ≡ true
          → WellFormed B M (history_of o (es ++ entry_by M o es (event.Act h) ∷ []))
      at None is may = cc
      at (Some s) is may =
          let parts = both (is_running s.status) (may_want B (pending h es) (need_of s)) may in
          let e : Entry = entry_of h (need_of s) (value_at o es h (need_of s)) in
          subst (λ x. WellFormed B M (history_of o (es ++ x ∷ [])))
          (sym (ap (λ so. entry_in o es h so) is))
          (kept-happens B M (history_of o es) (event.Act h) (outcome.Did e) (with_entry (history_of o es) e) kept
          (does B M (history_of o es) h s kept is (running s.status parts.0) (need_of s) (value_at o es h (need_of s)) refl
          (allowed es h (need_of s) parts.1)))
  one_comes es (event.Land h) kept may = at (state_of M (history_of o es) h) refl may
    where
      at : (so : Option HartState) → state_of M (history_of o es) h ≡ so → (is_some so && nat_lt 0 (length (pending h es))) ≡ true
          → WellFormed B M (history_of o (es ++ entry.Land h ∷ []))
      at None is may = cc
      at (Some s) is may =
          let parts = both (is_some (Some s)) (nat_lt 0 (length (pending h es))) may in
          let split = some_first (pending h es) (grind (arith, nat_tests, parts.1)) in
          kept-happens B M (history_of o es) (event.Land h) (outcome.Did (entry.Land h)) (with_entry (history_of o es) (entry.Land h)) kept
          (land_happens B M (history_of o es) h s split.0 split.1 kept is split.2)

  pub all_kept : (es : List Entry) (evs : List Event) → WellFormed B M (history_of o es) → all_come B M o es evs ≡ true
      → WellFormed B M (history_of o (es ++ entries_by M o es evs))
  unfolding all_come
  all_kept es [] kept may = subst (λ xs. WellFormed B M (history_of o xs)) (sym (append-nil es)) kept
  all_kept es (ev ∷ evs) kept may =
      let e : Entry = entry_by M o es ev in
      let parts = both (may_come B M o es ev) (all_come B M o (es ++ e ∷ []) evs) may in
      subst (λ xs. WellFormed B M (history_of o xs)) (append_assoc es (e ∷ []) (entries_by M o (es ++ e ∷ []) evs))
      (all_kept (es ++ e ∷ []) evs (one_comes es ev kept parts.0) parts.1)

-- a hart that the opening doesn't have stores nothing
none_stored : (o : OpeningValue) (h : ℕ) (es : List Entry) → length o.harts ≤ h → All (IsOfHarts o) es → own_stores h es ≡ []
none_stored o h [] out all = refl
none_stored o h (e ∷ es) out all =
    let other : (hart_of e == h) ≡ false = grind (arith, nat_tests, All-head (IsOfHarts o) e es all) in
    ap (λ xs. own_store h e ++ xs) (none_stored o h es out (All-tail (IsOfHarts o) e es all)) ∙ grind (arith, other)

-- ---- what is computed of each run

pub fronts_hold : (List Entry → Bool) → (front es : List Entry) → Bool
fronts_hold P front [] = true
fronts_hold P front (e ∷ es) = P front && fronts_hold P (front ++ e ∷ []) es

fronts_are : (P : List Entry → Bool) (front part : List Entry) (e : Entry) (rest : List Entry) → fronts_hold P front (part ++ e ∷ rest) ≡ true
    → P (front ++ part) ≡ true
unfolding fronts_hold
fronts_are P front [] e rest all = subst (λ zs. P zs ≡ true) (sym (append-nil front)) (both (P front) (fronts_hold P (front ++ e ∷ []) rest) all).0
fronts_are P front (d ∷ part) e rest all = subst (λ zs. P zs ≡ true) (append_assoc front (d ∷ []) part)
    (fronts_are P (front ++ d ∷ []) part e rest (both (P front) (fronts_hold P (front ++ d ∷ []) (part ++ e ∷ rest)) all).1)

-- of which word of the run the copy of the tail is the offset where it begins
abbrev copy_place : Scenario → ℕ
copy_place hits = 2
copy_place goes_on = 2
copy_place (takes_over caching) = 2
copy_place x = 1

-- of entries before a run, in it before the call, and of the call
module _ (x : Scenario) (b l c : List Entry) where
  abbrev pub o : OpeningValue
  o = opening x

  abbrev pub h : ℕ
  h = party_hart (queue x) (party x)

  abbrev pub busy : List Entry → Bool
  busy es = is_in_call 64 o h 1 (queue x).block b es

  abbrev pub word : ℕ → ℕ
  word a = memory_word o b a

  abbrev pub quiet_of : ℕ → List Write
  quiet_of g = writes_to (buffer (queue x)) (pending g b)

  -- the entries come, the call is a call, and where the run begins the block is at rest
  pub record Computed : Type 0 where
    pub come : (all_come 4 64 o [] (first_events x) && (all_come 4 64 o b (lead_events x) && all_come 4 64 o (b ++ l) (call_events x))) ≡ true
    pub kept : obligations_kept 64 o (queue x) b (l ++ c) ≡ true
    pub sent : sent_words 64 o (queue x) b (l ++ c) ≡ sent x
    pub received : received_words 64 o (queue x) b (l ++ c) ≡ received x
    pub within : fronts_hold busy l c ≡ true
    pub begun : busy l ≡ true
    pub over : busy (l ++ c) ≡ false
    pub entry : state_of 64 (history_of o (b ++ l)) h ≡ Some (state_after x (b ++ l))
    pub enters : enters 1 (queue x).block (state_after x (b ++ l)) ≡ true
    pub return : state_of 64 (history_of o (b ++ (l ++ c))) h ≡ Some (state_after x (b ++ (l ++ c)))
    pub answer : slice_index (state_after x (b ++ (l ++ c))).registers 10 ≡ answer x
    pub accesses : length (accesses h c) ≡ access_count x
    pub head : word 64 ≡ 4 * (((queue x).block.start + waiting_of x) % 2)
    pub tail : word 128 ≡ 4 * (((queue x).block.start + 0) % 2)
    pub first : (word (slot_address (buffer (queue x)) 0) == 0) ≡ (waiting_of x == 0)
    pub second : (word (slot_address (buffer (queue x)) 1) == 0) ≡ nat_lt (waiting_of x) 2
    pub copy : word 68 ≡ slot_offset (buffer (queue x)) (copy_place x)
    pub quiet : (quiet_of 0 ≡ []) × (quiet_of 1 ≡ []) × (quiet_of 2 ≡ []) × (quiet_of 3 ≡ [])

pub computed : (x : Scenario) → Computed x (before_entries x) (lead_entries x) (call_entries x)
unfolding need_of advanced meaning all_come may_come may_act may_want is_running is_some fronts_hold
computed (sends fast) = search
computed (receives fast) = search
computed (finds_full fast) = search
computed (finds_empty fast) = search
computed goes_on = search
computed (takes_over fast) = search
computed x = search

-- ---- so each is a run that uses its queue

run : (x : Scenario) → WellFormed 4 64 (history_of (opening x) (before_entries x ++ entries x))
run x =
    let two : Bool = all_come 4 64 (opening x) (before_entries x) (lead_events x) && all_come 4 64 (opening x)
    (before_entries x ++ lead_entries x) (call_events x) in
    let parts = both (all_come 4 64 (opening x) [] (first_events x)) two (computed x).come in
    let later = both (all_come 4 64 (opening x) (before_entries x) (lead_events x))
    (all_come 4 64 (opening x) (before_entries x ++ lead_entries x) (call_events x)) parts.1 in
    let first = all_kept 4 64 (opening x) [] (first_events x) (kept-at_opening 4 64 (opening x)) parts.0 in
    subst (λ xs. WellFormed 4 64 (history_of (opening x) xs)) (append_assoc (before_entries x) (lead_entries x) (call_entries x))
    (all_kept 4 64 (opening x) (before_entries x ++ lead_entries x) (call_events x)
    (all_kept 4 64 (opening x) (before_entries x) (lead_events x) first later.0) later.1)

first_run : (x : Scenario) → WellFormed 4 64 (history_of (opening x) (before_entries x))
first_run x = kept-front 4 64 (opening x) (before_entries x) (entries x) (run x)

-- no hart has a store pending where the run begins
none_pending : (x : Scenario) (h : ℕ) → writes_to (buffer (queue x)) (pending h (before_entries x)) ≡ []
none_pending x zero = (computed x).quiet.0
none_pending x (suc zero) = (computed x).quiet.1
none_pending x (suc (suc zero)) = (computed x).quiet.2
none_pending x (suc (suc (suc zero))) = (computed x).quiet.3
none_pending x (suc (suc (suc (suc h)))) =
    ap (λ ws. writes_to (buffer (queue x)) ws) (ap (λ ws. drop (lands (suc (suc (suc (suc h)))) (before_entries x)) ws)
    (none_stored (opening x) (suc (suc (suc (suc h)))) (before_entries x) (omega arith) (first_run x).of_harts)
    ∙ drop_nil (lands (suc (suc (suc (suc h)))) (before_entries x)))
  where
    drop_nil : (n : ℕ) → drop n (let none : List Write = [] in none) ≡ []
    drop_nil zero = refl
    drop_nil (suc n) = refl

-- each slot of FastForward's holds 0 just where no word waits in it
is_free : (x : Scenario) (j : ℕ) → j < 2 → (memory_word (opening x) (before_entries x) (slot_address (buffer (queue x)) j) == 0) ≡ not (nat_lt j (waiting_of x))
is_free x zero below = (computed x).first ∙ none (waiting_of x)
  where
    none : (n : ℕ) → (n == 0) ≡ not (nat_lt 0 n)
    none n = grind (arith, nat_tests)
is_free x (suc zero) below = (computed x).second ∙ few (waiting_of x)
  where
    few : (n : ℕ) → nat_lt n 2 ≡ not (nat_lt 1 n)
    few n = grind (arith, nat_tests)
is_free x (suc (suc j)) below = absurd (omega (arith, below))

copy_range : (v : Variant) (a : ℕ) → copy_in (kind_of v) (caches_of v) 64 ≡ Some a → v ≡ caching
copy_range plain a some = cc
copy_range caching a some = refl
copy_range fast a some = cc

copy_past : (x : Scenario) → variant x ≡ caching → waiting_of x < copy_place x
copy_past (takes_over plain) is = absurd (cc)
copy_past (takes_over fast) is = absurd (cc)
copy_past x is = omega arith

copy_near : (x : Scenario) → copy_place x ≤ 2
copy_near (takes_over caching) = omega arith
copy_near x = omega arith

few_wait : (x : Scenario) → waiting_of x ≤ capacity (buffer (queue x))
few_wait (takes_over fast) = omega arith
few_wait x = omega arith

rest : (x : Scenario) → IsQuiescent (buffer (queue x)) (opening x) (before_entries x)
rest x = record {
  fits = few_wait x;
  head = (computed x).head;
  tail = (computed x).tail;
  pending = none_pending x;
  words = λ kind j below zero. let there = is_free x j (omega (arith, below, few_wait_all x)) in grind (arith, nat_tests, there, below, zero);
  free = λ kind j from below. let none = is_free x j below in grind (arith, nat_tests, none, from);
  copy = λ a some. (
    copy_place x,
    copy_past x (copy_range (variant x) a some),
    copy_near x,
    ap (memory_word (opening x) (before_entries x)) (copied_in (kind_of (variant x)) (caches_of (variant x)) 64 a some).0 ∙ (computed x).copy,
  );
}
  where
    few_wait_all : (x : Scenario) → waiting_of x ≤ 2
    few_wait_all (takes_over fast) = omega arith
    few_wait_all x = omega arith

sender_there : (x : Scenario) → slice_get (opening x).harts (sender_of x) ≡ Some (hart_of_party (variant x) the_sender)
sender_there goes_on = refl
sender_there x = refl

receiver_there : (x : Scenario) → slice_get (opening x).harts (receiver_of x) ≡ Some (hart_of_party (variant x) the_receiver)
receiver_there goes_on = refl
receiver_there x = refl

has : (x : Scenario) (p : Party) → HasFunction (opening x) (party_hart (queue x) p) (party_line (queue x) p)
    (listing_of (kind_of (variant x)) (caches_of (variant x)) p)
has x p = record { opens = hart_of_party (variant x) p; is = there p; code = stands p; registers = size p }
  where
    there : (p : Party) → slice_get (opening x).harts (party_hart (queue x) p) ≡ Some (hart_of_party (variant x) p)
    there the_sender = sender_there x
    there the_receiver = receiver_there x

    stands_after : (p : Party) → StandsIn (0x04000513 ∷ words_of (listing_of (kind_of (variant x)) (caches_of (variant x)) p)) 1
        (listing_of (kind_of (variant x)) (caches_of (variant x)) p)
    stands_after p = record {
      front = 0x04000513 ∷ [];
      back = [];
      is = ap (λ zs. 0x04000513 ∷ zs) (sym (append-nil (words_of (listing_of (kind_of (variant x)) (caches_of (variant x)) p))));
      place = refl;
      small = omega (arith, thirteen (kind_of (variant x)) (caches_of (variant x)) p);
    }

    stands : (p : Party) → StandsIn (hart_of_party (variant x) p).code (party_line (queue x) p) (listing_of (kind_of (variant x)) (caches_of (variant x)) p)
    stands the_sender = stands_after the_sender
    stands the_receiver = stands_after the_receiver

    size : (p : Party) → length (hart_of_party (variant x) p).registers ≡ 32
    size the_sender = refl
    size the_receiver = refl

pub uses : (x : Scenario) → UsesAsSpscQueue 4 64 (opening x) (queue x) (before_entries x) (entries x)
uses x = record {
  shares = record {
    block = record { aligned = refl; some_slots = omega arith; inside = omega arith; small = omega arith };
    parties = apart x;
    run = run x;
    rest = rest x;
    sends = has x the_sender;
    receives = has x the_receiver;
  };
  owed = obligations_decided 64 (opening x) (queue x) (before_entries x) (entries x) (computed x).kept;
}
  where
    apart : (x : Scenario) → sender_of x ≢ receiver_of x
    apart goes_on = λ e. omega (arith, e)
    apart x = λ e. omega (arith, e)

pub is_call : (x : Scenario)
    → IsWholeCall 64 (opening x) (party_hart (queue x) (party x)) 1 (queue x).block (before_entries x) (lead_entries x)
    (call_entries x)
    (state_after x (before_entries x ++ lead_entries x)) (state_after x (before_entries x ++ entries x))
is_call x = record {
  entry = (computed x).entry;
  enters = (computed x).enters;
  begun = (computed x).begun;
  within = λ part e rest is. fronts_are (busy x (before_entries x) (lead_entries x) (call_entries x)) (lead_entries x) part e rest
      (subst (λ zs. fronts_hold (busy x (before_entries x) (lead_entries x) (call_entries x)) (lead_entries x) zs ≡ true) is (computed x).within);
  over = (computed x).over;
  return = (computed x).return;
}
