-- What a known state means after its forms are changed, in its cases, and where an arrow leads.
use Rattle.std.proofs.Common.{ℕ, zero, suc, ◌+◌, ◌<◌, ◌≤◌, ◌≡◌, ◌≢◌, ◌==◌, ◌&&◌, ◌⊎◌, inl, inr, if◌then◌else◌, Bool, true, false, Option, Some, None, List, []}
use Rattle.std.proofs.Common.{◌∷◌, length, get_or, refl, sym, ◌∙◌, ap, subst, arith}
use Rattle.std.specs.Prelude.{nat_le, map, set, slice_index, slice_set}
use Rattle.std.proofs.lemmas.Bool.{and_parts, eqb-true, lt-ltb, cases_lt, cases_eq}
use Rattle.std.proofs.lemmas.List.{get_or-set_same, get_or-set_other, set_past, get_or_past}
use Rattle.memory.proofs.Bytes.{joined-same}
use Rattle.hart.specs.{HartState, written_at}
use Rattle.slot_queue.specs.{Queue, end}
use Rattle.queue_parties.specs.Parties.{Party, the_sender, the_receiver, QueueCounts, count, known}
use Rattle.queue_certificates.specs.{OwnWord, View, AllCounts, number_seen, IsSameFor, Form, form_value, lifted, substituted, raised, settled, is_same}
use Rattle.queue_certificates.specs.{IsAtMost, InRanges, are_in, KnownValue, any, Share, no_share, KnownState, value_by, share_by, state_by, Has, is_within}
use Rattle.queue_certificates.specs.{HasShare, MeansAt, own_at, own_number, Result, all_below, with_register, with_result, going_to, tags_lead, at_most, beyond}
use Rattle.queue_certificates.specs.{may_exceed, range_changed, with_low, with_high, all_within, is_share, leads_to, arrow_leads}
use Rattle.queue_certificates.proofs.Forms.{values_of, value-lifted, value-substituted, value-raised, same-exactly, less_at}
use Rattle.queue_certificates.proofs.Bounds.{forms-in, value-settled}
use Rattle.queue_certificates.proofs.Values.{has-by, has-back, within}

pub at-below : (n : ℕ) (f : ℕ → Bool) → all_below n f ≡ true → (i : ℕ) → i < n → f i ≡ true
at-below zero f ok i less = absurd (omega (arith, less))
at-below (suc n) f ok i less =
    let parts = and_parts (f n) (all_below n f) ok in
    elim (cases_eq i n) [
      | inl same ↦ ap f same ∙ parts.0
      | inr apart ↦ at-below n f parts.1 i (omega (arith, less, apart))
    ]

get-by : (t : Form → Form) (vs : List KnownValue) (j : ℕ) → get_or (map (value_by t) vs) j any ≡ value_by t (get_or vs j any)
get-by t [] j = refl
get-by t (v ∷ vs) zero = refl
get-by t (v ∷ vs) (suc j) = get-by t vs j

share-by : (t : Form → Form) (q : Queue) (p : Party) (c : QueueCounts) (xs ys : List ℕ)
    → ((f : Form) → form_value (t f) ys ≡ form_value f xs) → (ss : List Share) (i : ℕ)
    → HasShare q p c xs (get_or ss i no_share) → HasShare q p c ys (get_or (map (share_by t) ss) i no_share)
share-by t q p c xs ys same [] i has = record { own = has.own; upto = has.upto }
share-by t q p c xs ys same (s ∷ ss) zero has = record {
  own = has.own ∙ sym (same s.own);
  upto = has.upto ∙ ap (λ n. n + form_value s.owned xs) (sym (same s.own)) ∙ ap (λ n. form_value (t s.own) ys + n) (sym (same s.owned));
}
share-by t q p c xs ys same (s ∷ ss) (suc i) has = share-by t q p c xs ys same ss i has

-- the number of bytes that two views have alike
pub kept-number : (m n : View) (a width : ℕ) → ((x : ℕ) → a ≤ x → x < a + width → n x ≡ m x) → number_seen n a width ≡ number_seen m a width
kept-number m n a width same = joined-same (λ i. n (a + i)) (λ i. m (a + i)) width (λ i less. same (a + i) (omega arith) (omega (arith, less)))

module _ (queues : ℕ → Queue) (N : ℕ) (own : List OwnWord) (h : ℕ) where
  pub means-by : (t : Form → Form) (rs : List (Option ℕ)) (xs ys : List ℕ) → ((f : Form) → form_value (t f) ys ≡ form_value f xs) → InRanges rs ys
      → (k : KnownState) (s : HartState) (m : View) (cs : AllCounts) → MeansAt queues N own h xs k s m cs → MeansAt queues N own h ys (state_by t rs k) s m cs
  means-by t rs xs ys same ranges k s m cs means = record {
    ranges = ranges;
    pc = means.pc;
    registers = λ j. subst (λ v. Has queues ys v (slice_index s.registers j)) (sym (get-by t k.registers j))
        (has-by queues t xs ys same (get_or k.registers j any) (slice_index s.registers j) (means.registers j));
    words = λ j less. subst (λ v. Has queues ys v (own_number m (own_at own j))) (sym (get-by t k.words j))
        (has-by queues t xs ys same (get_or k.words j any) (own_number m (own_at own j)) (means.words j less));
    shares = λ i less p is. share-by t (queues i) p (cs i) xs ys same k.shares i (means.shares i less p is);
  }

  pub means-lifted : (n y : ℕ) → y ≤ n → (xs : List ℕ) (k : KnownState) (s : HartState) (m : View) (cs : AllCounts) → MeansAt queues N own h xs k s m cs
      → MeansAt queues N own h (y ∷ xs) (state_by lifted (Some n ∷ k.ranges) k) s m cs
  means-lifted n y le xs k s m cs means = means-by lifted (Some n ∷ k.ranges) xs (y ∷ xs) (λ f. value-lifted f y xs) (le, means.ranges) k s m cs means

  -- ---- what doesn't concern the hart

  end-frame : (q : Queue) (p : Party) (c d : QueueCounts) → known p d ≡ known p c → end q p d ≡ end q p c
  end-frame q the_sender c d same = ap (λ k. k + q.capacity) same
  end-frame q the_receiver c d same = same

  pub means-frame : (xs : List ℕ) (k : KnownState) (s : HartState) (m n : View) (cs ds : AllCounts) → MeansAt queues N own h xs k s m cs
      → ((j x : ℕ) → j < length own → (own_at own j).at ≤ x → x < (own_at own j).at + (own_at own j).width → n x ≡ m x)
      → ((i : ℕ) → i < N → IsSameFor (queues i) h (cs i) (ds i)) → MeansAt queues N own h xs k s n ds
  means-frame xs k s m n cs ds means bytes same = record {
    ranges = means.ranges;
    pc = means.pc;
    registers = means.registers;
    words = λ j less. subst (Has queues xs (get_or k.words j any))
        (sym (kept-number m n (own_at own j).at (own_at own j).width (λ x low high. bytes j x less low high))) (means.words j less);
    shares = λ i less p is. (let has = means.shares i less p is in record {
      own = (same i less).count p is ∙ has.own;
      upto = end-frame (queues i) p (cs i) (ds i) ((same i less).known p is) ∙ has.upto;
    });
  }

  -- ---- a step's registers

  set-has : (xs : List ℕ) (vs : List KnownValue) (regs : List ℕ) (n x : ℕ) (v : KnownValue)
      → ((j : ℕ) → Has queues xs (get_or vs j any) (slice_index regs j)) → n < length regs
      → Has queues xs v x → (j : ℕ) → Has queues xs (get_or (set vs n v) j any) (slice_index (slice_set regs n x) j)
  set-has xs vs regs n x v all size has j = at (cases_eq j n)
    where
      here : (n < length vs) ⊎ (length vs ≤ n) → Has queues xs (get_or (set vs n v) n any) x
      here (inl short) = subst (λ w. Has queues xs w x) (sym (get_or-set_same vs n v any short)) has
      here (inr past) = subst (λ w. Has queues xs w x) (sym (ap (λ ws. get_or ws n any) (set_past vs n v past) ∙ get_or_past vs n any past)) tt

      at : (j ≡ n) ⊎ (j ≢ n) → Has queues xs (get_or (set vs n v) j any) (slice_index (slice_set regs n x) j)
      at (inl is) = subst (λ i. Has queues xs (get_or (set vs n v) i any) (slice_index (slice_set regs n x) i)) (sym is)
          (subst (Has queues xs (get_or (set vs n v) n any)) (sym (get_or-set_same regs n x 0 size)) (here (cases_lt n (length vs))))
      at (inr other) = subst (Has queues xs (get_or (set vs n v) j any)) (sym (get_or-set_other regs n j x 0 other))
          (subst (λ w. Has queues xs w (slice_index regs j)) (sym (get_or-set_other vs n j v any other)) (all j))

  pub written-has : (xs : List ℕ) (vs : List KnownValue) (regs : List ℕ) (n x : ℕ) (v : KnownValue)
      → ((j : ℕ) → Has queues xs (get_or vs j any) (slice_index regs j)) → n < length regs
      → Has queues xs v x → (j : ℕ) → Has queues xs (get_or (with_register vs n v) j any) (slice_index (written_at regs n x) j)
  written-has xs vs regs n x v all size has j = by (n == 0)
    where
      by : (b : Bool) → Has queues xs (get_or (if b then vs else set vs n v) j any) (slice_index (if b then regs else slice_set regs n x) j)
      by true = all j
      by false = set-has xs vs regs n x v all size has j

  pub means-result : (xs : List ℕ) (k : KnownState) (s z : HartState) (m : View) (cs : AllCounts) (rd pc x : ℕ)
      (r : Result) → MeansAt queues N own h xs k s m cs
      → rd < length s.registers → (y : ℕ) → y ≤ r.most → Has queues (y ∷ xs) r.value x → z.pc ≡ pc → z.registers ≡ written_at s.registers rd x
      → MeansAt queues N own h (y ∷ xs) (with_result k rd pc r) z m cs
  means-result xs k s z m cs rd pc x r means size y low has at regs =
      let l = means-lifted r.most y low xs k s m cs means in record {
        ranges = l.ranges;
        pc = at;
        registers = λ j. subst
            (λ zs. Has queues (y ∷ xs) (get_or (with_register (map (value_by lifted) k.registers) rd r.value) j any)
            (slice_index zs j)) (sym regs)
            (written-has (y ∷ xs) (map (value_by lifted) k.registers) s.registers rd x r.value l.registers size has j);
        words = l.words;
        shares = l.shares;
      }

  pub means-going : (xs : List ℕ) (k : KnownState) (s z : HartState) (m : View) (cs : AllCounts) (pc : ℕ) → MeansAt queues N own h xs k s m cs
      → z.pc ≡ pc → z.registers ≡ s.registers → MeansAt queues N own h (0 ∷ xs) (going_to k pc) z m cs
  means-going xs k s z m cs pc means at regs =
      let l = means-lifted 0 0 (omega arith) xs k s m cs means in record {
        ranges = l.ranges;
        pc = at;
        registers = λ j. subst (λ zs. Has queues (0 ∷ xs) (get_or (map (value_by lifted) k.registers) j any) (slice_index zs j)) (sym regs) (l.registers j);
        words = l.words;
        shares = l.shares;
      }

  -- ---- cases

  pub low-range : (rs : List (Option ℕ)) (xs : List ℕ) (j v : ℕ) → InRanges rs xs → get_or xs j 0 ≤ v → InRanges (range_changed rs j (at_most v)) xs
  low-range [] xs j v ranges low = ranges
  low-range (r ∷ rs) [] j v ranges low = absurd ranges
  low-range (r ∷ rs) (x ∷ xs) (suc j) v ranges low = (ranges.0, low-range rs xs j v ranges.1 low)
  low-range (None ∷ rs) (x ∷ xs) zero v ranges low = (low, ranges.1)
  low-range (Some n ∷ rs) (x ∷ xs) zero v ranges low = (by (nat_le n v), ranges.1)
    where
      by : (b : Bool) → IsAtMost (if b then Some n else Some v) x
      by true = ranges.0
      by false = low

  pub high-range : (rs : List (Option ℕ)) (xs : List ℕ) (j v : ℕ) → InRanges rs xs → v < get_or xs j 0
      → InRanges (range_changed rs j (beyond v)) (less_at j (v + 1) xs)
  high-range rs [] j v ranges high = absurd (omega (arith, high))
  high-range [] (x ∷ xs) j v ranges high = absurd ranges
  high-range (r ∷ rs) (x ∷ xs) (suc j) v ranges high = (ranges.0, high-range rs xs j v ranges.1 high)
  high-range (None ∷ rs) (x ∷ xs) zero v ranges high = (tt, ranges.1)
  high-range (Some n ∷ rs) (x ∷ xs) zero v ranges high = (let low : x ≤ n = ranges.0 in omega (arith, low), ranges.1)

  pub exceeds : (rs : List (Option ℕ)) (xs : List ℕ) (j v : ℕ) → InRanges rs xs → v < get_or xs j 0 → may_exceed v (get_or rs j (Some 0)) ≡ true
  exceeds rs [] j v ranges high = absurd (omega (arith, high))
  exceeds [] (x ∷ xs) j v ranges high = absurd ranges
  exceeds (r ∷ rs) (x ∷ xs) (suc j) v ranges high = exceeds rs xs j v ranges.1 high
  exceeds (None ∷ rs) (x ∷ xs) zero v ranges high = refl
  exceeds (Some n ∷ rs) (x ∷ xs) zero v ranges high = lt-ltb v n (let low : x ≤ n = ranges.0 in omega (arith, low, high))

  pub means-low : (xs : List ℕ) (k : KnownState) (s : HartState) (m : View) (cs : AllCounts) (j v : ℕ) → MeansAt queues N own h xs k s m cs → get_or xs j 0 ≤ v
      → MeansAt queues N own h xs (with_low k j v) s m cs
  means-low xs k s m cs j v means low =
      let ranges = low-range k.ranges xs j v means.ranges low in
      means-by (settled (range_changed k.ranges j (at_most v))) (range_changed k.ranges j (at_most v)) xs xs
      (λ f. value-settled (range_changed k.ranges j (at_most v)) f xs ranges) ranges k s m cs means

  pub means-high : (xs : List ℕ) (k : KnownState) (s : HartState) (m : View) (cs : AllCounts) (j v : ℕ) → MeansAt queues N own h xs k s m cs → v < get_or xs j 0
      → MeansAt queues N own h (less_at j (v + 1) xs) (with_high k j v) s m cs
  means-high xs k s m cs j v means high =
      let ranges = high-range k.ranges xs j v means.ranges high in
      means-by (λ f. settled (range_changed k.ranges j (beyond v)) (raised j (v + 1) f)) (range_changed k.ranges j (beyond v)) xs (less_at j (v + 1) xs)
      (λ f. value-settled (range_changed k.ranges j (beyond v)) (raised j (v + 1) f) (less_at j (v + 1) xs) ranges
      ∙ value-raised f j (v + 1) xs (omega (arith, high)) (omega arith))
      ranges k s m cs means

  -- ---- arrows

  each-within : (rs : List (Option ℕ)) (ys : List ℕ) → InRanges rs ys → (gs : List Form) (vs ws : List KnownValue)
      → all_within queues rs vs ws gs ≡ true → (j x : ℕ) → Has queues ys (get_or vs j any) x
      → Has queues (values_of gs ys) (get_or ws j any) x
  each-within rs ys ranges gs vs [] ok j x has = tt
  each-within rs ys ranges gs [] (w ∷ ws) ok zero x has =
      let parts = and_parts (is_within queues rs any (value_by (λ f. substituted f gs) w)) (all_within queues rs [] ws gs) ok in
      has-back queues (λ f. substituted f gs) (values_of gs ys) ys (λ f. value-substituted f gs ys) w x
      (within queues rs ys ranges any (value_by (λ f. substituted f gs) w) x parts.0 tt)
  each-within rs ys ranges gs [] (w ∷ ws) ok (suc j) x has =
      each-within rs ys ranges gs [] ws ((and_parts (is_within queues rs any (value_by (λ f. substituted f gs) w)) (all_within queues rs [] ws gs) ok).1) j x tt
  each-within rs ys ranges gs (v ∷ vs) (w ∷ ws) ok zero x has =
      let parts = and_parts (is_within queues rs v (value_by (λ f. substituted f gs) w)) (all_within queues rs vs ws gs) ok in
      has-back queues (λ f. substituted f gs) (values_of gs ys) ys (λ f. value-substituted f gs ys) w x
      (within queues rs ys ranges v (value_by (λ f. substituted f gs) w) x parts.0 has)
  each-within rs ys ranges gs (v ∷ vs) (w ∷ ws) ok (suc j) x has =
      each-within rs ys ranges gs vs ws ((and_parts (is_within queues rs v (value_by (λ f. substituted f gs) w)) (all_within queues rs vs ws gs) ok).1) j x has

  same-share : (ys : List ℕ) (gs : List Form) (s t : Share) (q : Queue) (p : Party) (c : QueueCounts)
      → is_share s t gs ≡ true → HasShare q p c ys s → HasShare q p c (values_of gs ys) t
  same-share ys gs s t q p c ok has =
      let parts = and_parts (is_same 0 s.own (substituted t.own gs)) (is_same 0 s.owned (substituted t.owned gs)) ok in
      let one : form_value s.own ys ≡ form_value t.own (values_of gs ys) =
      same-exactly s.own (substituted t.own gs) ys parts.0 ∙ value-substituted t.own gs ys in
      let two : form_value s.owned ys ≡ form_value t.owned (values_of gs ys) =
      same-exactly s.owned (substituted t.owned gs) ys parts.1 ∙ value-substituted t.owned gs ys in
      record { own = has.own ∙ one; upto = has.upto ∙ ap (λ n. n + form_value s.owned ys) one ∙ ap (λ n. form_value t.own (values_of gs ys) + n) two }

  pub means-led : (ys : List ℕ) (k t : KnownState) (gs : List Form) (s : HartState) (m : View) (cs : AllCounts) → leads_to queues N k t gs ≡ true
      → MeansAt queues N own h ys k s m cs → MeansAt queues N own h (values_of gs ys) t s m cs
  means-led ys k t gs s m cs ok means =
      let p1 = and_parts
      ((k.pc == t.pc) && are_in k.ranges gs t.ranges && all_within queues k.ranges k.registers t.registers gs &&
      all_within queues k.ranges k.words t.words gs)
      (all_below N (λ i. is_share (get_or k.shares i no_share) (get_or t.shares i no_share) gs)) ok in
      let p2 = and_parts
      ((k.pc == t.pc) && are_in k.ranges gs t.ranges && all_within queues k.ranges k.registers t.registers gs)
      (all_within queues k.ranges k.words t.words gs) p1.0 in
      let p3 = and_parts ((k.pc == t.pc) && are_in k.ranges gs t.ranges) (all_within queues k.ranges k.registers t.registers gs) p2.0 in
      let p4 = and_parts (k.pc == t.pc) (are_in k.ranges gs t.ranges) p3.0 in record {
        ranges = forms-in k.ranges gs t.ranges ys means.ranges p4.1;
        pc = means.pc ∙ eqb-true k.pc t.pc p4.0;
        registers = λ j. each-within k.ranges ys means.ranges gs k.registers t.registers p3.1 j (slice_index s.registers j) (means.registers j);
        words = λ j less. each-within k.ranges ys means.ranges gs k.words t.words p2.1 j (own_number m (own_at own j)) (means.words j less);
        shares = λ i less p is. same-share ys gs (get_or k.shares i no_share) (get_or t.shares i no_share) (queues i) p (cs i)
            (at-below N (λ i. is_share (get_or k.shares i no_share) (get_or t.shares i no_share) gs) p1.1 i less) (means.shares i less p is);
      }

  -- the same view and the same counts, byte by byte and queue by queue
  pub means-moved : (xs : List ℕ) (k : KnownState) (s : HartState) (m n : View) (cs ds : AllCounts) → MeansAt queues N own h xs k s m cs
      → ((x : ℕ) → n x ≡ m x) → ((i : ℕ) → ds i ≡ cs i) → MeansAt queues N own h xs k s n ds
  means-moved xs k s m n cs ds means bytes same = means-frame xs k s m n cs ds means (λ j x less low high. bytes x)
      (λ i less. record { count = λ p is. ap (count p) (same i); known = λ p is. ap (known p) (same i) })

  pub means-arrow : (T : ℕ) (ys : List ℕ) (k t : KnownState) (gs : List Form) (s : HartState) (m : View) (cs : AllCounts)
      → arrow_leads queues N T k t gs ≡ true
      → MeansAt queues N own h ys k s m cs → MeansAt queues N own h (values_of (map (settled k.ranges) gs) ys) t s m cs
  means-arrow T ys k t gs s m cs ok means = means-led ys (state_by (settled k.ranges) k.ranges k) t (map (settled k.ranges) gs) s m cs
      (and_parts (leads_to queues N (state_by (settled k.ranges) k.ranges k) t (map (settled k.ranges) gs))
      (tags_lead N T (state_by (settled k.ranges) k.ranges k) t (map (settled k.ranges) gs)) ok).0
      (means-by (settled k.ranges) k.ranges ys ys (λ f. value-settled k.ranges f ys means.ranges) means.ranges k s m cs means)
