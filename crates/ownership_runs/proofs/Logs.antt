-- Logs of what was sent.
use Rattle.std.proofs.Common.{ℕ, zero, suc, ◌+◌, ◌-◌, ◌*◌, ◌%◌, ◌<◌, ◌≤◌, ◌≡◌, ◌==◌, ◌&&◌, inl, inr, Bool, true, false, Option, None, Some, List, [], ◌∷◌, ◌++◌}
use Rattle.std.proofs.Common.{length, drop, take, get_or, min, refl, sym, ap, subst, ◌∙◌, arith}
use Rattle.std.specs.Prelude.{nat_le, nat_lt, if◌then◌else◌}
use Rattle.std.specs.List.{slice_get}
use Rattle.std.specs.Int.{byte_at}
use Rattle.std.proofs.Math.Nat.{min-eq_left, min-eq_right}
use Rattle.std.proofs.Math.Bool.{and-true}
use Rattle.std.proofs.Math.ListN.{set}
use Rattle.std.proofs.Math.Seq.{get_or-append_seam}
use Rattle.std.proofs.lemmas.Bool.{cases_lt, and_parts, and_from, and_right, eq-eqb, eqb-true, le-leb, leb-true, lt-leb, le-ltb, false_from_ne_true}
use Rattle.std.proofs.lemmas.Bool.Decides.{Decides-ltb}
use Rattle.std.proofs.lemmas.List.{drop_more, take-append-drop, length-append, get_or_append_left}
use Rattle.std.proofs.lemmas.Option.{slice_get-get_or}
use Rattle.memory.proofs.Bytes.{byte_of_joined}
use Rattle.step_machine.specs.declared.events.Entry.{Entry}
use Rattle.step_machine.specs.Names.{OpeningValue, memory_byte, memory_word}
use Rattle.step_machine.proofs.{slice_get-set_same, slice_get-set_other}
use Rattle.store_buffers.proofs.Effects.{memory-below}
use Rattle.queue_layouts.specs.declared.AnyQueue.{AnyQueue}
use Rattle.ownership_runs.specs.{SentBytes, is_in_bytes, slots_from, slot_width, slots_in}
use Rattle.ownership_runs.specs.declared.sent.ByteLog.{ByteLog}
use Rattle.ownership_runs.specs.declared.sent.SentByte.{SentByte}
use Rattle.ownership_runs.specs.inner.Logging.{logged_since, sent_in, last_sent, of_byte, logged, has_place, is_logged}
use Rattle.ownership_runs.specs.inner.Logging.{with_byte, with_read, with_changed, IsOpenedLog}
use Rattle.ownership_runs.proofs.Bytes.{decides-bytes}

same-bool : (a b : Bool) → (a ≡ true → b ≡ true) → (b ≡ true → a ≡ true) → a ≡ b
same-bool true b there back = sym (there refl)
same-bool false true there back = back refl
same-bool false false there back = refl

get-left : {A : Type 0} → (xs ys : List A) (n : ℕ) (d : A) → n < length xs → slice_get (xs ++ ys) n ≡ slice_get xs n
get-left xs ys n d less =
    let long = length-append xs ys in
    slice_get-get_or (xs ++ ys) n d (omega (arith, long, less)) ∙ ap (λ a. Some a) (get_or_append_left xs ys d n less) ∙ sym (slice_get-get_or xs n d less)

get-seam : {A : Type 0} → (xs : List A) (a : A) → slice_get (xs ++ a ∷ []) (length xs) ≡ Some a
get-seam xs a =
    let long = length-append xs (a ∷ []) in
    slice_get-get_or (xs ++ a ∷ []) (length xs) a (omega (arith, long)) ∙ ap (λ b. Some b) (get_or-append_seam xs a [] a)

least : (width room y : ℕ) → y < width → y < room → y < min width room
least width room y narrow low = elim (cases_lt width room) [
  | inl less ↦ (let is : min width room ≡ width = min-eq_left (omega (arith, less)) in omega (arith, is, narrow))
  | inr more ↦ (let is : min width room ≡ room = min-eq_right (omega (arith, more)) in omega (arith, is, low))
]

-- a byte of memory is that of the word around it
pub word-byte : (o : OpeningValue) (es : List Entry) (x : ℕ) → byte_at (x % 4) (memory_word o es (x - x % 4)) ≡ memory_byte o es x
word-byte o es x =
    let place : x - x % 4 + x % 4 ≡ x = omega arith in
    byte_of_joined (λ i. memory_byte o es (x - x % 4 + i)) (λ i. memory-below o es (x - x % 4 + i)) (x % 4) (omega arith) ∙ ap (memory_byte o es) place

-- ---- what a byte's log says

pub logged-append : (found : Option ℕ) (xs ys : List SentByte) (k : ℕ) → logged_since found (xs ++ ys) k ≡ logged_since (logged_since found xs k) ys k
logged-append found [] ys k = refl
logged-append found (s ∷ xs) ys k = logged-append (if nat_le s.from k then s.byte else found) xs ys k

-- the last entry of a position is what the log says
module _ (log : List SentByte) (k place : ℕ) (d : SentByte) (within : place < length log)
    (none : (found : Option ℕ) → logged_since found (drop (place + 1) log) k ≡ found) where
  here : (found : Option ℕ) → logged_since found (drop place log) k ≡ (if nat_le (get_or log place d).from k then (get_or log place d).byte else found)
  here found = ap (λ ss. logged_since found ss k) (drop_more log place d within)
      ∙ none (if nat_le (get_or log place d).from k then (get_or log place d).byte else found)

  pub not-here : nat_le (get_or log place d).from k ≡ false → (found : Option ℕ) → logged_since found (drop place log) k ≡ found
  not-here off found = here found ∙ ap (λ b. if b then (get_or log place d).byte else found) off

  pub last-here : (found : Option ℕ) → nat_le (get_or log place d).from k ≡ true → (get_or log place d).byte ≡ logged_since found log k
  last-here found on = sym (ap (λ ss. logged_since found ss k) (sym (take-append-drop place log))
      ∙ logged-append found (take place log) (drop place log) k ∙ here (logged_since found (take place log) k)
      ∙ ap (λ b. if b then (get_or log place d).byte else logged_since found (take place log) k) on)

-- a loop from the end has come to the last entry of a position
pub found-last : (first : SentByte) (later : List SentByte) (k at : ℕ) (d : SentByte) → 0 < at → at ≤ length later
    → ((found : Option ℕ) → logged_since found (drop at later) k ≡ found) → (get_or later (at - 1) d).from ≤ k
    → (get_or later (at - 1) d).byte ≡ sent_in first later k
found-last first later k at d some most none from =
    let next : at ≡ at - 1 + 1 = omega (arith, some) in
    last-here later k (at - 1) d (omega (arith, some, most)) (subst (λ (n : ℕ). (found : Option ℕ) → logged_since found (drop n later) k ≡ found) next none)
    (if nat_le first.from k then first.byte else None) (le-leb _ _ from)

-- ---- one byte's log

-- what is pushed counts first
pub pushed : (first : SentByte) (later new : List SentByte) (from : ℕ) (byte : Option ℕ) → new ≡ later ++ record { from = from; byte = byte } ∷ []
    → (k : ℕ) → sent_in first new k ≡ with_byte from byte (sent_in first later) k
pushed first later new from byte is k = ap (λ ss. sent_in first ss k) is
    ∙ logged-append (if nat_le first.from k then first.byte else None) later (record { from = from; byte = byte } ∷ []) k

-- what was logged last counts first, so that the same isn't pushed again
last-counts : (found : Option ℕ) (first : SentByte) (later : List SentByte) (k : ℕ) → (last_sent first later).from ≤ k
    → logged_since (if nat_le first.from k then first.byte else found) later k ≡ (last_sent first later).byte
last-counts found first [] k low = ap (λ b. if b then first.byte else found) (le-leb first.from k low)
last-counts found first (s ∷ ss) k low = last-counts (if nat_le first.from k then first.byte else found) s ss k low

pub unpushed : (first : SentByte) (later : List SentByte) (from : ℕ) (byte : Option ℕ)
    → (last_sent first later).from ≤ from → (last_sent first later).byte ≡ byte
    → (k : ℕ) → sent_in first later k ≡ with_byte from byte (sent_in first later) k
unpushed first later from byte low same k = by (nat_le from k) refl
  where
    by : (b : Bool) → nat_le from k ≡ b → sent_in first later k ≡ (if b then byte else sent_in first later k)
    by false off = refl
    by true on = last-counts None first later k (let below : from ≤ k = leb-true from k on in omega (arith, low, below)) ∙ same

pub last-is : (first : SentByte) (later : List SentByte) (d : SentByte) (n : ℕ) → length later ≡ n + 1 → get_or later n d ≡ last_sent first later
last-is first [] d n long = absurd (omega (arith, long))
last-is first (s ∷ []) d zero long = refl
last-is first (s ∷ []) d (suc n) long = absurd (omega (arith, long))
last-is first (s ∷ t ∷ ss) d zero long = absurd (omega (arith, long))
last-is first (s ∷ t ∷ ss) d (suc n) long = last-is s (t ∷ ss) d n (omega (arith, long))

-- ---- a log with one byte's changed

module _ (q : AnyQueue) (log : List ByteLog) (x : ℕ) (low : slots_from q ≤ x) where
  -- of the byte at x what is logged of it, and of the others what was
  pub changed-byte : (new : List ByteLog) (b old : ByteLog) (over : Bool) (byte from : ℕ) → x - slots_from q < length log
      → slice_get log (x - slots_from q) ≡ Some old → new ≡ set log (x - slots_from q) b
      → ((k : ℕ) → of_byte (Some b) k ≡ with_read from over byte (of_byte (Some old) k) k)
      → (k y : ℕ) → logged q new k y ≡ with_changed (λ z. has_place q (length log) x && z == x) over (λ z. byte) from (logged q log) k y
  changed-byte new b old over byte from within was is has k y =
      ap (λ ls. logged q ls k y) is ∙ by (y == x) refl
      ∙ sym (ap (λ p. if p && y == x then with_read from over byte (logged q log k y) k else logged q log k y) place)
    where
      place : has_place q (length log) x ≡ true
      place = and_from (nat_le (slots_from q) x) (nat_lt (x - slots_from q) (length log)) (le-leb _ _ low) ((Decides-ltb _ _).1 within)

      by : (same : Bool) → (y == x) ≡ same → logged q (set log (x - slots_from q) b) k y
          ≡ (if same then with_read from over byte (logged q log k y) k else logged q log k y)
      by true same = subst (λ (z : ℕ). logged q (set log (x - slots_from q) b) k z ≡ with_read from over byte (logged q log k z) k) (sym (eqb-true y x same))
          (ap (λ p. if p then of_byte (slice_get (set log (x - slots_from q) b) (x - slots_from q)) k else None) (le-leb _ _ low)
          ∙ ap (λ f. of_byte f k) (slice_get-set_same log (x - slots_from q) b within) ∙ has k
          ∙ ap (λ z. with_read from over byte z k)
          (sym (ap (λ p. if p then of_byte (slice_get log (x - slots_from q)) k else None) (le-leb _ _ low) ∙ ap (λ f. of_byte f k) was)))
      by false apart = at (nat_le (slots_from q) y) refl
        where
          at : (p : Bool) → nat_le (slots_from q) y ≡ p → (if p then of_byte (slice_get (set log (x - slots_from q) b) (y - slots_from q)) k else None)
              ≡ (if p then of_byte (slice_get log (y - slots_from q)) k else None)
          at false below = refl
          at true above = ap (λ f. of_byte f k) (slice_get-set_other log (x - slots_from q) (y - slots_from q) b
              (λ same. (let from_slots : slots_from q ≤ y = leb-true _ _ above in
              let is : y ≡ x = omega (arith, same, from_slots, low) in let no = eq-eqb y x is in cc)))

  -- a byte without a place changes nothing
  pub no-place : (over : Bool) (byte from : ℕ) → (x - slots_from q < length log → ⊥) → (k y : ℕ)
      → logged q log k y ≡ with_changed (λ z. has_place q (length log) x && z == x) over (λ z. byte) from (logged q log) k y
  no-place over byte from out k y = sym (ap (λ p. if p && y == x then with_read from over byte (logged q log k y) k else logged q log k y)
      (and_right (nat_le (slots_from q) x) (nat_lt (x - slots_from q) (length log)) (false_from_ne_true _ (λ ok. out ((Decides-ltb _ _).0 ok)))))

pub below-slots : (q : AnyQueue) (log : List ByteLog) (x : ℕ) (over : Bool) (byte from : ℕ) → x < slots_from q → (k y : ℕ)
    → logged q log k y ≡ with_changed (λ z. has_place q (length log) x && z == x) over (λ z. byte) from (logged q log) k y
below-slots q log x over byte from low k y =
    sym (ap (λ p. if (p && nat_lt (x - slots_from q) (length log)) && y == x then with_read from over byte (logged q log k y) k
    else logged q log k y) (lt-leb (slots_from q) x low))

-- ---- the bytes of a store

module _ (M : ℕ) (q : AnyQueue) (places a : ℕ) (over : Bool) (reads : ℕ → ℕ) (from : ℕ) (s : SentBytes) (k y : ℕ) where
  abbrev With : (count : ℕ) → Option ℕ
  With count = with_changed (is_logged M q places a count) over reads from s k y

  abbrev Logged : Bool → Option ℕ
  Logged b = if b then with_read from over (reads y) (s k y) k else s k y

  pub store-none : s k y ≡ With 0
  store-none = sym (ap (λ b. Logged (b && (nat_lt y (4 * M) && has_place q places y)))
      (false_from_ne_true _ (λ ok. let at = (decides-bytes a 0 y).0 ok in absurd (omega (arith, at.0, at.1)))))

  module _ (count : ℕ) where
    next-in : (y == a + count) ≡ false → is_in_bytes a (count + 1) y ≡ is_in_bytes a count y
    next-in apart = same-bool _ _
        (λ ok. let at = (decides-bytes a (count + 1) y).0 ok in (decides-bytes a count y).1 (at.0, less at.1))
        (λ ok. let at = (decides-bytes a count y).0 ok in (decides-bytes a (count + 1) y).1 (at.0, omega (arith, at.1)))
      where
        less : y < a + (count + 1) → y < a + count
        less high = elim (cases_lt y (a + count)) [ inl low ↦ low | inr past ↦ absurd (let same = eq-eqb y (a + count) (omega (arith, high, past)) in cc) ]

    others : (y == a + count) ≡ false → With (count + 1) ≡ With count
    others apart = ap (λ b. Logged (b && (nat_lt y (4 * M) && has_place q places y))) (next-in apart)

    before : (y == a + count) ≡ true → With count ≡ s k y
    before same = ap (λ b. Logged (b && (nat_lt y (4 * M) && has_place q places y)))
        (false_from_ne_true _ (λ ok. let high = ((decides-bytes a count y).0 ok).1 in let is = eqb-true y (a + count) same in absurd (omega (arith, high, is))))

    after : (y == a + count) ≡ true → With (count + 1) ≡ Logged (nat_lt y (4 * M) && has_place q places y)
    after same = ap (λ b. Logged (b && (nat_lt y (4 * M) && has_place q places y)))
        (let is = eqb-true y (a + count) same in (decides-bytes a (count + 1) y).1 (omega (arith, is), omega (arith, is)))

    -- the next byte is none of memory's
    pub store-skip : (a + count < 4 * M → ⊥) → With count ≡ With (count + 1)
    store-skip out = at (y == a + count) refl
      where
        at : (b : Bool) → (y == a + count) ≡ b → With count ≡ With (count + 1)
        at false apart = sym (others apart)
        at true same = before same ∙ sym (after same ∙ ap (λ b. Logged (b && has_place q places y))
            (false_from_ne_true _ (λ ok. out (subst (λ (n : ℕ). n < 4 * M) (eqb-true y (a + count) same) ((Decides-ltb _ _).0 ok)))))

    -- or it is, and is logged
    pub store-more : (byte : ℕ) → byte ≡ reads (a + count) → a + count < 4 * M
        → with_changed (λ z. has_place q places (a + count) && z == a + count) over (λ z. byte) from
        (λ j z. with_changed (is_logged M q places a count) over reads from s j z) k y
        ≡ With (count + 1)
    store-more byte is memory = at (y == a + count) refl
      where
        at : (b : Bool) → (y == a + count) ≡ b
            → (if has_place q places (a + count) && b then with_read from over byte (With count) k else With count)
            ≡ With (count + 1)
        at false apart = none (has_place q places (a + count)) ∙ sym (others apart)
          where
            none : (p : Bool) → (if p && false then with_read from over byte (With count) k else With count) ≡ With count
            none true = refl
            none false = refl
        at true same =
            let here : y ≡ a + count = eqb-true y (a + count) same in
            ap (λ w. if has_place q places (a + count) && true then with_read from over byte w k else w) (before same)
            ∙ ap (λ b. if b then with_read from over byte (s k y) k else s k y) (and-true (has_place q places (a + count)))
            ∙ ap (λ n. if has_place q places (a + count) then with_read from over n (s k y) k else s k y) (is ∙ ap reads (sym here))
            ∙ ap (λ z. Logged (has_place q places z)) (sym here)
            ∙ sym (after same ∙ ap (λ b. Logged (b && has_place q places y)) ((Decides-ltb _ _).1 (subst (λ (n : ℕ). n < 4 * M) (sym here) memory)))

-- ---- a log that is opened

module _ (q : AnyQueue) (holds : ℕ → ℕ) (from : ℕ) where
  -- it has these many bytes
  pub record IsOpenedTo (place : ℕ) (log : List ByteLog) : Type 0 where
    pub places : length log ≡ place
    pub has : (k x : ℕ) → has_place q (length log) x ≡ true → logged q log k x ≡ (if nat_le from k then Some (holds x) else None)

  pub opened-none : (log : List ByteLog) → log ≡ [] → IsOpenedTo 0 log
  opened-none log none = record {
    places = ap length none;
    has = λ k x place. absurd (let no = ap (λ ls. has_place q (length ls) x) none in
        let out = and_right (nat_le (slots_from q) x) (nat_lt (x - slots_from q) 0) (le-ltb _ _ (omega arith)) in cc);
  }

  pub opened-more : (place : ℕ) (log new : List ByteLog) (b : ByteLog) → IsOpenedTo place log → new ≡ log ++ b ∷ []
      → b.first.from ≡ from → b.first.byte ≡ Some (holds (slots_from q + place)) → b.later.items ≡ [] → IsOpenedTo (place + 1) new
  opened-more place log new b was is low byte none = record {
    places = ap length is ∙ length-append log (b ∷ []) ∙ ap (λ n. n + 1) was.places;
    has = λ k x within. has k x within;
  }
    where
      one : (k : ℕ) → of_byte (Some b) k ≡ (if nat_le from k then Some (holds (slots_from q + place)) else None)
      one k = ap (λ ss. sent_in b.first ss k) none ∙ ap (λ n. if nat_le n k then b.first.byte else None) low ∙ ap (λ z. if nat_le from k then z else None) byte

      has : (k x : ℕ) → has_place q (length new) x ≡ true → logged q new k x ≡ (if nat_le from k then Some (holds x) else None)
      has k x within =
          let parts = and_parts (nat_le (slots_from q) x) (nat_lt (x - slots_from q) (length new)) within in
          let slot : slots_from q ≤ x = leb-true _ _ parts.0 in
          let many : length new ≡ place + 1 = ap length is ∙ length-append log (b ∷ []) ∙ ap (λ n. n + 1) was.places in
          let less : x - slots_from q < length new = (Decides-ltb _ _).0 parts.1 in
          let here : logged q new k x ≡ of_byte (slice_get (log ++ b ∷ []) (x - slots_from q)) k =
          ap (λ p. if p then of_byte (slice_get new (x - slots_from q)) k else None) parts.0 ∙ ap (λ ls. of_byte (slice_get ls (x - slots_from q)) k) is in
          elim (cases_lt (x - slots_from q) place) [
            | inl early ↦
                let low_place : x - slots_from q < length log = (let count = was.places in omega (arith, count, early)) in
                here ∙ ap (λ f. of_byte f k) (get-left log (b ∷ []) (x - slots_from q) b low_place)
                ∙ sym (ap (λ p. if p then of_byte (slice_get log (x - slots_from q)) k else None) parts.0)
                ∙ was.has k x (and_from (nat_le (slots_from q) x) (nat_lt (x - slots_from q) (length log)) parts.0 ((Decides-ltb _ _).1 low_place))
            | inr late ↦
                let at : x - slots_from q ≡ length log = (let count = was.places in omega (arith, count, late, many, less)) in
                let x_is : slots_from q + place ≡ x = (let count = was.places in omega (arith, at, count, slot)) in
                here ∙ ap (λ n. of_byte (slice_get (log ++ b ∷ []) n) k) at ∙ ap (λ f. of_byte f k) (get-seam log b) ∙ one k
                ∙ ap (λ n. if nat_le from k then Some (holds n) else None) x_is
          ]

pub opened-all : (M : ℕ) (q : AnyQueue) (holds : ℕ → ℕ) (from : ℕ) (log : List ByteLog)
    → IsOpenedTo q holds from (min (slots_in q * slot_width q) (4 * M - slots_from q)) log
    → IsOpenedLog M q holds from log
opened-all M q holds from log is = record {
  places = λ x slot memory.
      (let at = (decides-bytes (slots_from q) (slots_in q * slot_width q) x).0 slot in
      let low = at.0 in let high = at.1 in
      let count = is.places in
      and_from (nat_le (slots_from q) x) (nat_lt (x - slots_from q) (length log)) (le-leb _ _ low)
      ((Decides-ltb _ _).1 (subst (λ (n : ℕ). x - slots_from q < n) (sym count)
      (least (slots_in q * slot_width q) (4 * M - slots_from q) (x - slots_from q) (omega (arith, low, high)) (omega (arith, low, memory))))));
  has = is.has;
}
