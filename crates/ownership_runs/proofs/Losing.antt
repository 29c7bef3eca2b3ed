-- The first loss of a run: there is one exactly where an entry is one.
use Rattle.std.proofs.Common.{ℕ, zero, suc, ◌+◌, ◌-◌, ◌<◌, ◌≡◌, ◌≢◌, ◌==◌, inl, inr, Bool, true, false, Option, None, Some, List, [], ◌∷◌, ◌++◌, length, refl}
use Rattle.std.proofs.Common.{sym, ap, ◌∙◌, subst, add-one, arith, append-nil, append_assoc}
use Rattle.std.specs.Prelude.{if◌then◌else◌}
use Rattle.std.specs.Int.{byte_at}
use Rattle.std.proofs.Math.Nat.{add-sub_cancel_left}
use Rattle.std.proofs.lemmas.Bool.{cases_lt, eq-eqb, ne_eqb}
use Rattle.step_machine.specs.declared.events.Entry.{Entry}
use Rattle.step_machine.specs.Names.{OpeningValue, Access, load, exchange, access_of, hart_of}
use Rattle.queue_parties.specs.Parties.{Party, the_receiver, QueueCounts}
use Rattle.queue_layouts.specs.declared.AnyQueue.{AnyQueue}
use Rattle.ownership_runs.specs.{Loss, HasSlot, party_for, entry_counts, run_counts, SentBytes, nothing_sent}
use Rattle.ownership_runs.specs.{counts_told, sent_after, sent_from, or_else, if_differs, if_told}
use Rattle.ownership_runs.specs.{byte_lost, first_byte, is_after, loss_by, loss_at, loss_since, loss_from}
use Rattle.ownership_runs.specs.{position_told, first_loss, Loads, IsLossAt, IsLoss, IsFirstLoss}
use Rattle.ownership_runs.proofs.Sending.{was-sent, still-sent}
use Rattle.ownership_runs.proofs.Told.{last-told, told-last}

-- ---- the first of some bytes

pub record IsFirstByte (lost : ℕ → Option Loss) (number : ℕ) (l : Loss) : Type 0 where
  pub place : ℕ
  pub less : place < number
  pub is : lost place ≡ Some l

pub first-byte : (lost : ℕ → Option Loss) (n : ℕ) (l : Loss) → first_byte lost n ≡ Some l → IsFirstByte lost n l
unfolding first_byte
first-byte lost zero l some = cc
first-byte lost (suc n) l some = by (λ found. first-byte lost n l found) (first_byte lost n) refl some
  where
    by : (first_byte lost n ≡ Some l → IsFirstByte lost n l) → (found : Option Loss) → first_byte lost n ≡ found → or_else found (lost n) ≡ Some l
        → IsFirstByte lost (suc n) l
    by rest None none here = record { place = n; less = omega arith; is = here }
    by rest (Some m) found same =
        let first = rest (found ∙ same) in
        record { place = first.place; less = (let less = first.less in omega (arith, less)); is = first.is }

pub no-byte : (lost : ℕ → Option Loss) (n i : ℕ) → first_byte lost n ≡ None → i < n → lost i ≡ None
unfolding first_byte
no-byte lost zero i none less = absurd (omega (arith, less))
no-byte lost (suc n) i none less = by (λ before earlier. no-byte lost n i before earlier) (first_byte lost n) refl none
  where
    by : (first_byte lost n ≡ None → i < n → lost i ≡ None) → (found : Option Loss) → first_byte lost n ≡ found → or_else found (lost n) ≡ None → lost i ≡ None
    by rest (Some m) found some = cc
    by rest None before here = elim (cases_lt i n) [
      | inl earlier ↦ rest before earlier
      | inr last ↦ (let at : i ≡ n = omega (arith, less, last) in ap lost at ∙ here)
    ]

-- one more that isn't, or that is the first
pub first-more : (lost : ℕ → Option Loss) (n : ℕ) → first_byte lost n ≡ None → lost n ≡ None → first_byte lost (n + 1) ≡ None
unfolding first_byte
first-more lost n none here = rw add-one (ap (λ found. or_else found (lost n)) none ∙ here)

pub first-here : (lost : ℕ → Option Loss) (i n : ℕ) (l : Loss) → first_byte lost i ≡ None → lost i ≡ Some l → i < n → first_byte lost n ≡ Some l
unfolding first_byte
first-here lost i zero l none here less = absurd (omega (arith, less))
first-here lost i (suc n) l none here less = elim (cases_lt i n) [
  | inl earlier ↦ ap (λ found. or_else found (lost n)) (first-here lost i n l none here earlier)
  | inr last ↦
      let at : i ≡ n = omega (arith, less, last) in
      ap (λ found. or_else found (lost n)) (subst (λ m. first_byte lost m ≡ None) at none) ∙ subst (λ m. lost m ≡ Some l) at here
]

pub first-none : (lost : ℕ → Option Loss) → first_byte lost 0 ≡ None
unfolding first_byte
first-none lost = refl

pub first-same : (lost other : ℕ → Option Loss) (n : ℕ) → ((i : ℕ) → i < n → lost i ≡ other i) → first_byte lost n ≡ first_byte other n
unfolding first_byte
first-same lost other zero same = refl
first-same lost other (suc n) same =
    ap (λ found. or_else found (lost n)) (first-same lost other n (λ i less. same i (omega (arith, less))))
    ∙ ap (or_else (first_byte other n)) (same n (omega arith))

-- ---- a byte that is lost

module _ (q : AnyQueue) (place h : ℕ) (c : QueueCounts) (s : SentBytes) (a w v i : ℕ) where
  pub record IsLostByte (l : Loss) : Type 0 where
    pub position : ℕ
    pub sent : ℕ
    pub told : position_told q (counts_told q a w v c) (a + i) ≡ Some position
    pub was : s position (a + i) ≡ Some sent
    pub differs : sent ≢ byte_at i v
    pub is : l ≡ record { place = place; hart = h; addr = a; width = w; value = v; position = position; byte = a + i; sent = sent }

  pub lost-byte : (l : Loss) → byte_lost q place h c s a w v i ≡ Some l → IsLostByte l
  lost-byte l some = by (position_told q (counts_told q a w v c) (a + i)) refl some
    where
      by : (t : Option ℕ) → position_told q (counts_told q a w v c) (a + i) ≡ t → if_told place h s a w v i t ≡ Some l → IsLostByte l
      by None none found = cc
      by (Some k) told found = at (s k (a + i)) refl found
        where
          at : (x : Option ℕ) → s k (a + i) ≡ x → if_differs place h a w v i k x ≡ Some l → IsLostByte l
          at None none found = cc
          at (Some b) was found = test (b == byte_at i v) refl found
            where
              test : (r : Bool) → (b == byte_at i v) ≡ r
                  → if◌then◌else◌ {A = Option Loss} r None
                  (Some (record { place = place; hart = h; addr = a; width = w; value = v; position = k; byte = a + i; sent = b })) ≡ Some l
                  → IsLostByte l
              test true same none = cc
              test false apart found = record {
                position = k;
                sent = b;
                told = told;
                was = was;
                differs = λ same. (let is = eq-eqb b (byte_at i v) same in cc);
                is =
                    (let back : Some l ≡ Some (record { place = place; hart = h; addr = a; width = w; value = v; position = k; byte = a + i; sent = b }) =
                    sym found in
                    cc);
              }

  pub byte-lost : (k b : ℕ) → position_told q (counts_told q a w v c) (a + i) ≡ Some k → s k (a + i) ≡ Some b → b ≢ byte_at i v
      → byte_lost q place h c s a w v i ≡ None → ⊥
  byte-lost k b told was differs none =
      let is : if_told place h s a w v i (Some k) ≡ None = ap (if_told place h s a w v i) (sym told) ∙ none in
      let has : if_differs place h a w v i k (Some b) ≡ None = ap (if_differs place h a w v i k) (sym was) ∙ is in
      by (b == byte_at i v) (ne_eqb b (byte_at i v) differs) has
    where
      by : (r : Bool) → r ≡ false
          → if◌then◌else◌ {A = Option Loss} r None
          (Some (record { place = place; hart = h; addr = a; width = w; value = v; position = k; byte = a + i; sent = b })) ≡ None → ⊥
      by true on none = absurd (cc)
      by false off none = absurd (cc)

-- ---- runs in parts

or-assoc : (a b c : Option Loss) → or_else a (or_else b c) ≡ or_else (or_else a b) c
or-assoc None b c = refl
or-assoc (Some l) b c = refl

or-none : (a b : Option Loss) → or_else a b ≡ None → (a ≡ None) × (b ≡ None)
or-none None b none = (refl, none)
or-none (Some l) b none = cc

pub counted-loss : (since : Option ℕ) (place : ℕ) (x : Option Loss) (l : Loss) → (if is_after since place then x else None) ≡ Some l
    → (is_after since place ≡ true) × (x ≡ Some l)
counted-loss since place x l = by (is_after since place)
  where
    by : (b : Bool) → (if b then x else None) ≡ Some l → (b ≡ true) × (x ≡ Some l)
    by true found = (refl, found)
    by false none = cc

module _ (since : Option ℕ) (q : AnyQueue) (o : OpeningValue) where
  pub loss-append : (front : List Entry) (c : QueueCounts) (s : SentBytes) (xs ys : List Entry)
      → loss_from since q o front c s (xs ++ ys)
      ≡ or_else (loss_from since q o front c s xs) (loss_from since q o (front ++ xs) (run_counts q c xs) (sent_from q o front c s xs) ys)
  loss-append front c s [] ys = ap (λ fs. loss_from since q o fs c s ys) (sym (append-nil front))
  loss-append front c s (e ∷ xs) ys =
      let d : QueueCounts = entry_counts q c e in
      let t : SentBytes = sent_after q o front c s e in
      ap (or_else (loss_since since q (length front) c s e)) (loss-append (front ++ e ∷ []) d t xs ys
      ∙ ap (λ fs. or_else (loss_from since q o (front ++ e ∷ []) d t xs)
      (loss_from since q o fs (run_counts q d xs) (sent_from q o (front ++ e ∷ []) d t xs) ys))
      (append_assoc front (e ∷ []) xs))
      ∙ or-assoc (loss_since since q (length front) c s e) _ _

  -- the entry that is the first loss
  record IsFirstAt (front : List Entry) (c : QueueCounts) (s : SentBytes) (es : List Entry) (l : Loss) : Type 0 where
    before : List Entry
    entry : Entry
    back : List Entry
    is : es ≡ before ++ entry ∷ back
    none : loss_from since q o front c s before ≡ None
    found : loss_since since q (length (front ++ before)) (run_counts q c before) (sent_from q o front c s before) entry ≡ Some l

  find : (front : List Entry) (c : QueueCounts) (s : SentBytes) (es : List Entry) (l : Loss)
      → loss_from since q o front c s es ≡ Some l → IsFirstAt front c s es l
  find front c s [] l some = cc
  find front c s (e ∷ es) l some =
      by (λ more. find (front ++ e ∷ []) (entry_counts q c e) (sent_after q o front c s e) es l more) (loss_since since q (length front) c s e) refl some
    where
      by : (loss_from since q o (front ++ e ∷ []) (entry_counts q c e) (sent_after q o front c s e) es ≡ Some l
          → IsFirstAt (front ++ e ∷ []) (entry_counts q c e) (sent_after q o front c s e) es l)
          → (x : Option Loss) → loss_since since q (length front) c s e ≡ x
          → or_else x (loss_from since q o (front ++ e ∷ []) (entry_counts q c e) (sent_after q o front c s e) es) ≡ Some l → IsFirstAt front c s (e ∷ es) l
      by rest None none more =
          let f = rest more in
          record {
            before = e ∷ f.before;
            entry = f.entry;
            back = f.back;
            is = ap (λ xs. e ∷ xs) f.is;
            none = ap (λ x. or_else x (loss_from since q o (front ++ e ∷ []) (entry_counts q c e) (sent_after q o front c s e) f.before)) none ∙ f.none;
            found = subst (λ (xs : List Entry). loss_since since q (length xs) (run_counts q (entry_counts q c e) f.before)
                (sent_from q o (front ++ e ∷ []) (entry_counts q c e) (sent_after q o front c s e) f.before) f.entry ≡ Some l)
                (append_assoc front (e ∷ []) f.before) f.found;
          }
      by rest (Some m) here same = record {
        before = [];
        entry = e;
        back = es;
        is = refl;
        none = refl;
        found = subst (λ (xs : List Entry). loss_since since q (length xs) c s e ≡ Some l) (sym (append-nil front)) (here ∙ same);
      }

-- ---- what it is

module _ (q : AnyQueue) (some : HasSlot q) (o : OpeningValue) (start : QueueCounts) where
  module _ (front : List Entry) (entry : Entry) where
    abbrev c : QueueCounts
    c = run_counts q start front

    abbrev s : SentBytes
    s = sent_from q o [] start nothing_sent front

    of-bytes : (a w v : ℕ) (l : Loss) → party_for q (hart_of entry) ≡ Some the_receiver → Loads (access_of entry) a w v
        → first_byte (byte_lost q (length front) (hart_of entry) c s a w v) w ≡ Some l → IsLossAt q o start front entry l
    of-bytes a w v l receives loads found =
        let first = first-byte (byte_lost q (length front) (hart_of entry) c s a w v) w l found in
        let i : ℕ = first.place in
        let lost = lost-byte q (length front) (hart_of entry) c s a w v i l first.is in
        let last = last-told q some (counts_told q a w v c) (a + i) lost.position lost.told in
        let less : i < w = first.less in
        let within : a + i < a + w = omega (arith, less) in
        subst (IsLossAt q o start front entry) (sym lost.is) (record {
          place = refl;
          hart = refl;
          receives = receives;
          loads = loads;
          byte = (omega arith, within);
          of_record = last.of_record;
          told = last.told;
          last = last.last;
          sent = was-sent q o (hart_of entry) receives start front lost.position (a + i) lost.sent lost.was;
          differs = λ same. lost.differs (same ∙ ap (λ (n : ℕ). byte_at n v) (add-sub_cancel_left a i));
        })

    pub is-loss : (l : Loss) → loss_at q (length front) c s entry ≡ Some l → IsLossAt q o start front entry l
    is-loss l found = by (party_for q (hart_of entry)) refl (access_of entry) refl found
      where
        by : (t : Option Party) → party_for q (hart_of entry) ≡ t → (x : Access) → access_of entry ≡ x
            → loss_by q t (length front) (hart_of entry) c s x ≡ Some l → IsLossAt q o start front entry l
        by (Some the_receiver) receives (load a w v) does at = of-bytes a w v l receives (inl does) at
        by (Some the_receiver) receives (exchange a old new) does at = of-bytes a 4 old l receives (inr (refl, (new, does))) at
        by t party x does at = cc

  module _ (since : Option ℕ) where
    pub none-lost : (es : List Entry) (l : Loss) → first_loss since q o start es ≡ None → is_after since l.place ≡ true → IsLoss q o start es l → ⊥
    none-lost es l none after among =
        let loss = among.loss_at in
        let i : ℕ = l.byte - l.addr in
        let x : l.addr + i ≡ l.byte = (let low = loss.byte.0 in omega (arith, low)) in
        let less : i < l.width = (let low = loss.byte.0 in let high = loss.byte.1 in omega (arith, low, high)) in
        let d : QueueCounts = run_counts q start among.front in
        let sent : SentBytes = sent_from q o [] start nothing_sent among.front in
        let was : sent l.position l.byte ≡ Some l.sent = still-sent q o l.hart loss.receives start among.front l.position l.byte l.sent loss.sent in
        let told : position_told q (counts_told q l.addr l.width l.value d) l.byte ≡ Some l.position =
        told-last q some (counts_told q l.addr l.width l.value d) l.byte l.position
        (record { of_record = loss.of_record; told = loss.told; last = loss.last }) in
        let parts : or_else (first_loss since q o start among.front) (loss_from since q o among.front d sent (among.entry ∷ among.back)) ≡ None =
        sym (loss-append since q o [] start nothing_sent among.front (among.entry ∷ among.back)) ∙ ap (first_loss since q o start) (sym among.is) ∙ none in
        let counts : is_after since (length among.front) ≡ true = ap (is_after since) (sym loss.place) ∙ after in
        let here : loss_at q (length among.front) d sent among.entry ≡ None =
        ap (λ b. if b then loss_at q (length among.front) d sent among.entry else None) (sym counts) ∙ (or-none _ _ (or-none _ _ parts).1).0 in
        let receives : party_for q (hart_of among.entry) ≡ Some the_receiver = ap (party_for q) loss.hart ∙ loss.receives in
        byte-lost q (length among.front) (hart_of among.entry) d sent l.addr l.width l.value i l.position l.sent
        (ap (position_told q (counts_told q l.addr l.width l.value d)) x ∙ told) (ap (sent l.position) x ∙ was) loss.differs
        (no-byte (byte_lost q (length among.front) (hart_of among.entry) d sent l.addr l.width l.value) l.width i
        (by (length among.front) (hart_of among.entry) d sent (access_of among.entry) l.addr l.width l.value loss.loads
        (ap (λ t. loss_by q t (length among.front) (hart_of among.entry) d sent (access_of among.entry)) (sym receives) ∙ here)) less)
      where
        by : (place h : ℕ) (d : QueueCounts) (sent : SentBytes) (y : Access) (a w v : ℕ) → Loads y a w v → loss_by q (Some the_receiver) place h d sent y ≡ None
            → first_byte (byte_lost q place h d sent a w v) w ≡ None
        by place h d sent y a w v (inl does) at = subst (λ y. loss_by q (Some the_receiver) place h d sent y ≡ None) does at
        by place h d sent y a w v (inr does) at = subst (λ n. first_byte (byte_lost q place h d sent a n v) n ≡ None) (sym does.0)
            (subst (λ y. loss_by q (Some the_receiver) place h d sent y ≡ None) does.1.1 at)

    pub is-first-loss : (es : List Entry) (l : Loss) → first_loss since q o start es ≡ Some l → IsFirstLoss since q o start es l
    is-first-loss es l found =
        let f = find since q o [] start nothing_sent es l found in
        let counted = counted-loss since (length f.before) _ l f.found in
        let loss = is-loss f.before f.entry l counted.1 in
        record {
          front = f.before;
          entry = f.entry;
          back = f.back;
          is = f.is;
          loss_at = loss;
          after = ap (is_after since) loss.place ∙ counted.0;
          earlier = λ other after among. none-lost f.before other f.none after among;
        }
