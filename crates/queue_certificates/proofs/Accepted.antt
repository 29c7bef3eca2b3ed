-- What an accepted certificate was accepted for: each of its queues is one, and opens rightly, and so does each of its harts.
use Rattle.std.proofs.Common.{arith, ℕ, ◌+◌, ◌%◌, ◌^◌, ◌<◌, ◌≤◌, ◌≡◌, ◌==◌, ◌&&◌, ◌||◌, ◌⊎◌, inl, inr, not, Bool, true, false, Option, Some, None}
use Rattle.std.proofs.Common.{List, [], ◌∷◌, length, get_or, refl, sym, ◌∙◌, ap, subst}
use Rattle.std.specs.Prelude.{nat_lt, nat_le, slice_index, slice_set, All}
use Rattle.std.specs.List.{slice_get, list_all}
use Rattle.std.proofs.lemmas.Bool.{and_parts, or_cases, eqb-true, eqb-false, ltb-true, leb-true, not-true, cases_lt}
use Rattle.std.proofs.lemmas.Option.{get_or_from_slice_get, slice_get_within}
use Rattle.std.proofs.lemmas.List.{get_or_past}
use Rattle.std.proofs.lemmas.List.Elements.{All-nil, All-from_get_or}
use Rattle.hart.specs.State.{HartState}
use Rattle.step_machine.specs.declared.events.Entry.{Entry}
use Rattle.step_machine.specs.Names.{HartOpeningValue, OpeningValue, opening_byte, opens_as}
use Rattle.store_buffers.specs.StoreBuffers.{memory_number}
use Rattle.queue_parties.specs.Parties.{Party, the_sender, the_receiver, all_at, count}
use Rattle.slot_queue.specs.{Queue, IsQueue, TellsFull, KeepsOff, index_word, hart, party_of, end}
use Rattle.queue_certificates.specs.{View, AllCounts, ActsByCounts, MeetsField, form_value, InRanges, KnownValue, any, linear, index_for, signed_for, ends_as}
use Rattle.queue_certificates.specs.{has_bits, no_share, own_at, own_number, KnownState, Has, signed_word, HasShare, MeansAt, all_below, is_field, no_field}
use Rattle.queue_certificates.specs.{QueueCertificate, queue_at, start_at, part_of, own_of, state_at, no_part, no_hart, Opens, fields_at, HasFields}
use Rattle.queue_certificates.specs.{MeetsFields, keeps_all_fields, opens_unfilled, is_closed, is_value, are_in_ranges, opens_share, opens_in, are_apart}
use Rattle.queue_certificates.specs.{is_queue, opens_empty, accepts_hart, accepts, tagged_at, tagged_start, OpensTagged, opens_all_told, opens_free, is_tagged}
use Rattle.queue_certificates.proofs.States.{at-below}
use Rattle.queue_certificates.proofs.Accesses.{hart-party}
use Rattle.queue_certificates.proofs.TagShares.{tagged-fine, opens-free}

-- ---- queues

apart-as : (a m b n : ℕ) → are_apart a m b n ≡ true → (a + m ≤ b) ⊎ (b + n ≤ a)
apart-as a m b n ok = grind (arith, or_cases, leb-true)

fine-queue : (q : Queue) → is_queue q ≡ true → IsQueue q × TellsFull q × (q.index_width ≤ 4)
fine-queue q ok = grind (arith, not, and_parts, eqb-false, not-true, apart-as, leb-true, ltb-true)

-- ---- the opening

count-all : (p : Party) (n : ℕ) → count p (all_at n) ≡ n
count-all the_sender n = refl
count-all the_receiver n = refl

pub otherwise : (a b : Bool) → a ≡ true → (not a || b) ≡ true → b ≡ true
otherwise true b is or = or
otherwise false b is or = absurd (cc)

has-value : (queues : ℕ → Queue) (xs : List ℕ) (v : KnownValue) (x : ℕ) → is_value queues xs v x ≡ true → Has queues xs v x
has-value queues xs any x ok = tt
has-value queues xs (linear f) x ok = eqb-true x (form_value f xs % 2 ^ 32) ok
has-value queues xs (index_for i f) x ok = eqb-true x (index_word (queues i) (form_value f xs)) ok
has-value queues xs (ends_as n f) x ok = absurd (cc)
has-value queues xs (has_bits m b) x ok = absurd (cc)
has-value queues xs (signed_for i f) x ok = eqb-true x (signed_word (queues i).index_width (index_word (queues i) (form_value f xs))) ok

in-ranges : (rs : List (Option ℕ)) (xs : List ℕ) → are_in_ranges rs xs ≡ true → InRanges rs xs
in-ranges [] [] ok = tt
in-ranges [] (x ∷ xs) ok = absurd (cc)
in-ranges (r ∷ rs) [] ok = absurd (cc)
in-ranges (None ∷ rs) (x ∷ xs) ok = (tt, in-ranges rs xs ok)
in-ranges (Some n ∷ rs) (x ∷ xs) ok = let parts = and_parts (nat_le x n) (are_in_ranges rs xs) ok in (leb-true x n parts.0, in-ranges rs xs parts.1)

-- what is received of an owned position, also where nothing is said of records
pub fields-received : (M : ℕ) (o : OpeningValue) (c : QueueCertificate) (h : ℕ) (s : HartState) (m : View) (cs : AllCounts) (e : Entry)
    → ActsByCounts M o (length c.queues) (queue_at c) (HasFields c) (MeetsFields c) h s m cs e → (i : ℕ) → i < length c.queues
    → h ≡ (queue_at c i).receiver → (p : ℕ) → (cs i).taken ≤ p → p < (cs i).known_published → All (MeetsField (queue_at c i) p m) (fields_at c i)
fields-received M o c h s m cs e acts i less mine p from below = elim (cases_lt 0 (length (fields_at c i))) [
  | inl some ↦ acts.received i less some mine p from below
  | inr none ↦ All-from_get_or (MeetsField (queue_at c i) p m) (fields_at c i) no_field (λ j listed. absurd (omega (arith, none, listed)))
]

module _ (M : ℕ) (o : OpeningValue) (c : QueueCertificate) (ok : accepts o c ≡ true) where
  abbrev queues : ℕ → Queue
  queues = queue_at c

  abbrev N : ℕ
  N = length c.queues

  -- what is checked of a queue
  abbrev queue_holds : ℕ → Bool
  queue_holds i = is_queue (queue_at c i) && opens_empty o (queue_at c i) (start_at c i) && list_all (is_field (queue_at c i)) (fields_at c i)

  -- and of a queue with tags
  abbrev tagged_holds : ℕ → Bool
  tagged_holds t = is_tagged (tagged_at c t) && opens_free o (tagged_at c t) (tagged_start c t)

  checks : (all_below (length c.queues) queue_holds ≡ true) × (all_below (length c.tagged) tagged_holds ≡ true)
      × (all_below (length o.harts) (λ h. accepts_hart o c h (get_or o.harts h no_hart) (part_of c h)) ≡ true)
  checks = grind (arith, and_parts, get_or)

  whole-queue : (i : ℕ) → i < length c.queues
      → ((is_queue (queue_at c i) && opens_empty o (queue_at c i) (start_at c i)) ≡ true) × (list_all (is_field (queue_at c i)) (fields_at c i) ≡ true)
  whole-queue i less = and_parts (is_queue (queue_at c i) && opens_empty o (queue_at c i) (start_at c i))
      (list_all (is_field (queue_at c i)) (fields_at c i)) (at-below (length c.queues) queue_holds checks.0 i less)

  queue-parts : (i : ℕ) → i < length c.queues → (is_queue (queue_at c i) ≡ true) × (opens_empty o (queue_at c i) (start_at c i) ≡ true)
  queue-parts i less = and_parts (is_queue (queue_at c i)) (opens_empty o (queue_at c i) (start_at c i)) (whole-queue i less).0

  pub fine : (i : ℕ) → i < length c.queues → IsQueue (queue_at c i) × TellsFull (queue_at c i) × ((queue_at c i).index_width ≤ 4)
  fine i less = fine-queue (queue_at c i) (queue-parts i less).0

  pub fields-fine : (i : ℕ) → i < length c.queues → list_all (is_field (queue_at c i)) (fields_at c i) ≡ true
  fields-fine i less = (whole-queue i less).1

  pub accepted-opens : Opens M o c
  accepted-opens i less =
      let e = queue-parts i less in
      let q = queue_at c i in
      let p = and_parts (memory_number o [] (queue_at c i).head (queue_at c i).index_width == index_word (queue_at c i) (start_at c i))
      (memory_number o [] (queue_at c i).tail (queue_at c i).index_width == index_word (queue_at c i) (start_at c i)) e.1 in (
        (fine i less).0,
        record {
          window = record { known_published = omega arith; published = omega arith; known_taken = omega arith; taken = omega arith };
          head = eqb-true (memory_number o [] (queue_at c i).head (queue_at c i).index_width) (index_word (queue_at c i) (start_at c i)) p.0;
          tail = eqb-true (memory_number o [] (queue_at c i).tail (queue_at c i).index_width) (index_word (queue_at c i) (start_at c i)) p.1;
          pending = λ h. All-nil (KeepsOff (queue_at c i));
        },
      )

  whole-tagged : (t : ℕ) → t < length c.tagged
      → (is_tagged (tagged_at c t) ≡ true) × (opens_free o (tagged_at c t) (tagged_start c t) ≡ true)
  whole-tagged t less = and_parts (is_tagged (tagged_at c t)) (opens_free o (tagged_at c t) (tagged_start c t))
      (at-below (length c.tagged) tagged_holds checks.1 t less)

  pub fine-tagged : (t : ℕ) → t < length c.tagged → is_tagged (tagged_at c t) ≡ true
  fine-tagged t less = (whole-tagged t less).0

  pub accepted-tagged : OpensTagged o c
  accepted-tagged t less =
      let w = whole-tagged t less in (tagged-fine (tagged_at c t) w.0, opens-free o (tagged_at c t) (tagged_start c t) w.0 w.1)

  pub past : (g : ℕ) → length c.harts ≤ g → length (own_of c g) ≡ 0
  past g beyond = ap (λ p. length p.own) (get_or_past c.harts g no_part beyond)

  -- what was accepted of a hart
  pub record OfHart (h : ℕ) (x : HartOpeningValue) : Type 0 where
    pub registers : 32 ≤ length x.registers
    pub first : (part_of c h).first < length (part_of c h).states
    pub opens : opens_in o c h x (state_at c h (part_of c h).first).known (part_of c h).numbers ≡ true
    pub told : opens_all_told c h (state_at c h (part_of c h).first).known (part_of c h).numbers ≡ true
    pub unfilled : opens_unfilled c (state_at c h (part_of c h).first).filled ≡ true
    pub closed : (n : ℕ) → n < length (part_of c h).states → is_closed c h x.code (state_at c h n).known (state_at c h n).cases ≡ true
    pub keeps : (n : ℕ) → n < length (part_of c h).states → keeps_all_fields c h x.code (state_at c h n) ≡ true

  pub of-hart : (h : ℕ) (x : HartOpeningValue) → slice_get o.harts h ≡ Some x → OfHart h x
  of-hart h x is =
      let at : accepts_hart o c h x (part_of c h) ≡ true = subst (λ y. accepts_hart o c h y (part_of c h) ≡ true) (get_or_from_slice_get o.harts h x no_hart is)
      (at-below (length o.harts) (λ h. accepts_hart o c h (get_or o.harts h no_hart) (part_of c h)) checks.2 h (slice_get_within o.harts h x is)) in
      let p4 = and_parts _ (all_below (length (part_of c h).states)
      (λ n. is_closed c h x.code (state_at c h n).known (state_at c h n).cases && keeps_all_fields c h x.code (state_at c h n))) at in
      let p3 = and_parts _ (opens_unfilled c (state_at c h (part_of c h).first).filled) p4.0 in
      let p-told = and_parts _ (opens_all_told c h (state_at c h (part_of c h).first).known (part_of c h).numbers) p3.0 in
      let p2 =
      and_parts (nat_le 32 (length x.registers) && nat_lt (part_of c h).first (length (part_of c h).states))
      (opens_in o c h x (state_at c h (part_of c h).first).known (part_of c h).numbers) p-told.0 in
      let p1 = and_parts (nat_le 32 (length x.registers)) (nat_lt (part_of c h).first (length (part_of c h).states)) p2.0 in
      let state : (n : ℕ) → n < length (part_of c h).states
      → (is_closed c h x.code (state_at c h n).known (state_at c h n).cases && keeps_all_fields c h x.code (state_at c h n)) ≡ true =
      λ n less. at-below (length (part_of c h).states)
      (λ n. is_closed c h x.code (state_at c h n).known (state_at c h n).cases && keeps_all_fields c h x.code (state_at c h n)) p4.1 n less in
      record {
        registers = leb-true 32 (length x.registers) p1.0;
        first = ltb-true (part_of c h).first (length (part_of c h).states) p1.1;
        opens = p2.1;
        told = p-told.1;
        unfilled = p3.1;
        closed = λ n less. (and_parts (is_closed c h x.code (state_at c h n).known (state_at c h n).cases)
            (keeps_all_fields c h x.code (state_at c h n)) (state n less)).0;
        keeps = λ n less. (and_parts (is_closed c h x.code (state_at c h n).known (state_at c h n).cases)
            (keeps_all_fields c h x.code (state_at c h n)) (state n less)).1;
      }

  opens-share : (h : ℕ) (k : KnownState) (xs : List ℕ) (i : ℕ) → i < length c.queues
      → opens_share (queue_at c i) (party_of (queue_at c i) h) (start_at c i) (get_or k.shares i no_share) xs ≡ true
      → (p : Party) → h ≡ hart (queue_at c i) p → HasShare (queue_at c i) p (all_at (start_at c i)) xs (get_or k.shares i no_share)
  opens-share h k xs i less ok p is =
      by p (subst (λ t. opens_share (queue_at c i) t (start_at c i) (get_or k.shares i no_share) xs ≡ true)
      (hart-party (queue_at c i) (fine i less).0 h p is) ok)
    where
      by : (p : Party) → opens_share (queue_at c i) (Some p) (start_at c i) (get_or k.shares i no_share) xs ≡ true
          → HasShare (queue_at c i) p (all_at (start_at c i)) xs (get_or k.shares i no_share)
      by p ok =
          let parts = and_parts (start_at c i == form_value (get_or k.shares i no_share).own xs)
          (end (queue_at c i) p (all_at (start_at c i)) == form_value (get_or k.shares i no_share).own xs +
          form_value (get_or k.shares i no_share).owned xs) ok in
          let start : start_at c i ≡ form_value (get_or k.shares i no_share).own xs =
          eqb-true (start_at c i) (form_value (get_or k.shares i no_share).own xs) parts.0 in
          record {
            own = count-all p (start_at c i) ∙ start;
            upto = eqb-true (end (queue_at c i) p (all_at (start_at c i)))
                (form_value (get_or k.shares i no_share).own xs + form_value (get_or k.shares i no_share).owned xs) parts.1;
          }

  pub opens-means : (h : ℕ) (x : HartOpeningValue) (k : KnownState) (xs : List ℕ) → opens_in o c h x k xs ≡ true
      → MeansAt (queue_at c) (length c.queues) (own_of c h) h xs k (opens_as M x) (opening_byte o) (λ i. all_at (start_at c i))
  opens-means h x k xs ok =
      let a = are_in_ranges k.ranges xs in
      let p4 = and_parts (are_in_ranges k.ranges xs && (k.pc == 0)
      && all_below (length k.registers) (λ j. is_value (queue_at c) xs (get_or k.registers j any) (slice_index (slice_set x.registers 0 0) j))
      && all_below (length (own_of c h)) (λ j. is_value (queue_at c) xs (get_or k.words j any) (own_number (opening_byte o) (own_at (own_of c h) j))))
      (all_below (length c.queues) (λ i. opens_share (queue_at c i) (party_of (queue_at c i) h) (start_at c i) (get_or k.shares i no_share) xs)) ok in
      let p3 = and_parts (are_in_ranges k.ranges xs && (k.pc == 0)
      && all_below (length k.registers) (λ j. is_value (queue_at c) xs (get_or k.registers j any) (slice_index (slice_set x.registers 0 0) j)))
      (all_below (length (own_of c h)) (λ j.
      is_value (queue_at c) xs (get_or k.words j any) (own_number (opening_byte o) (own_at (own_of c h) j))))
      p4.0 in
      let p2 = and_parts (are_in_ranges k.ranges xs && (k.pc == 0))
      (all_below (length k.registers) (λ j. is_value (queue_at c) xs (get_or k.registers j any) (slice_index (slice_set x.registers 0 0) j))) p3.0 in
      let p1 = and_parts (are_in_ranges k.ranges xs) (k.pc == 0) p2.0 in record {
        ranges = in-ranges k.ranges xs p1.0;
        pc = sym (eqb-true k.pc 0 p1.1);
        registers = λ j. register j (cases_lt j (length k.registers)) p2.1;
        words = λ j less. has-value (queue_at c) xs (get_or k.words j any) (own_number (opening_byte o) (own_at (own_of c h) j))
            (at-below (length (own_of c h)) (λ j. is_value (queue_at c) xs (get_or k.words j any)
            (own_number (opening_byte o) (own_at (own_of c h) j))) p3.1 j less);
        shares = λ i less p is. opens-share h k xs i less
            (at-below (length c.queues) (λ i.
            opens_share (queue_at c i) (party_of (queue_at c i) h) (start_at c i) (get_or k.shares i no_share) xs)
            p4.1 i less) p is;
      }
    where
      register : (j : ℕ) → (j < length k.registers) ⊎ (length k.registers ≤ j)
          → all_below (length k.registers) (λ j. is_value (queue_at c) xs (get_or k.registers j any) (slice_index (slice_set x.registers 0 0) j)) ≡ true
          → Has (queue_at c) xs (get_or k.registers j any) (slice_index (slice_set x.registers 0 0) j)
      register j (inl less) ok = has-value (queue_at c) xs (get_or k.registers j any) (slice_index (slice_set x.registers 0 0) j)
          (at-below (length k.registers) (λ j. is_value (queue_at c) xs (get_or k.registers j any) (slice_index (slice_set x.registers 0 0) j)) ok j less)
      register j (inr past) ok = subst (λ v. Has (queue_at c) xs v (slice_index (slice_set x.registers 0 0) j)) (sym (get_or_past k.registers j any past)) tt
