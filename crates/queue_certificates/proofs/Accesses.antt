-- What is found by going through queues and words, and what single accesses make of a hart's shares.
use Rattle.std.proofs.Common.{ℕ, zero, suc, ◌+◌, ◌-◌, ◌%◌, ◌<◌, ◌≤◌, ◌≡◌, ◌==◌, ◌&&◌, ◌||◌, inl, inr, if◌then◌else◌, not, Bool, true, false, Option, Some, None}
use Rattle.std.proofs.Common.{List, ◌∷◌, refl, sym, ◌∙◌, ap, subst, arith}
use Rattle.std.specs.Prelude.{nat_lt}
use Rattle.std.proofs.lemmas.Bool.{and_parts, or_cases, and_left, and_right, eqb-true, ltb-true, ne_eqb, eq-eqb, not-true}
use Rattle.step_machine.specs.Access.{load}
use Rattle.slot_queue.specs.{Queue, IsQueue, TellsFull, index_word, least_count, hart, party_of, index, end, after_load, after_access}
use Rattle.queue_parties.specs.Parties.{Party, the_sender, the_receiver, other, QueueCounts, count, known, with_known}
use Rattle.queue_parties.proofs.Parties.{harts-apart, Whose, mine, theirs, whose, two, count-set-known}
use Rattle.queue_certificates.specs.{View, limit, SeesIndices, ReadsFrom, form_value, number, plus, lifted, first_variable, Bounds, Share, HasShare, last_below}
use Rattle.queue_certificates.specs.{is_just, is_whole, misses, behind, owned_then, looked_share}
use Rattle.queue_certificates.proofs.OwnedAccesses.{looked}
use Rattle.queue_certificates.proofs.Forms.{round-up, value-plus, value-lifted, value-number, value-first}
use Rattle.queue_certificates.proofs.Values.{word-of-remainder}

pub found-below : (n : ℕ) (f : ℕ → Bool) (i : ℕ) → last_below n f ≡ Some i → (i < n) × (f i ≡ true)
found-below zero f i is = absurd (cc)
found-below (suc n) f i is = by (f n) refl (found-below n f i) is
  where
    by : (t : Bool) → f n ≡ t → (last_below n f ≡ Some i → (i < n) × (f i ≡ true))
        → (if t then Some n else last_below n f) ≡ Some i → (i < suc n) × (f i ≡ true)
    by true here more is = let same : n ≡ i = cc in (omega (arith, same), subst (λ j. f j ≡ true) same here)
    by false not more is = let at = more is in (omega (arith, at.0), at.1)

pub just-is : (o : Option ℕ) (i : ℕ) → is_just o i ≡ true → o ≡ Some i
just-is None i is = absurd (cc)
just-is (Some j) i is = ap (λ n. Some n) (eqb-true j i is)

-- a hart is one party at most
pub same-party : (q : Queue) → IsQueue q → (h : ℕ) (p r : Party) → h ≡ hart q p → h ≡ hart q r → p ≡ r
same-party q is h p r one two-is = grind (arith, two, harts-apart)

pub party-hart : (q : Queue) → IsQueue q → (h : ℕ) (p : Party) → party_of q h ≡ Some p → h ≡ hart q p
party-hart q is h p party = by (whose q.sender q.receiver h)
  where
    by : Whose q.sender q.receiver h → h ≡ hart q p
    by (mine r at of) = at ∙ ap (hart q) (let same : ◌≡◌ {A = Option Party} (Some r) (Some p) = sym of ∙ party in cc)
    by (theirs far none) = absurd (let no : ◌≡◌ {A = Option Party} None (Some p) = sym none ∙ party in cc)

pub hart-party : (q : Queue) → IsQueue q → (h : ℕ) (p : Party) → h ≡ hart q p → party_of q h ≡ Some p
hart-party q is h p at = by (whose q.sender q.receiver h)
  where
    by : Whose q.sender q.receiver h → party_of q h ≡ Some p
    by (mine r there of) = of ∙ ap (λ t. Some t) (same-party q is h r p there at)
    by (theirs far none) = absurd (far p at)

-- which party's index it is
pub record IsWholeIndex (q : Queue) (t : Option Party) (r : Party → Party) (a width : ℕ) : Type 0 where
  pub party : Party
  pub is : t ≡ Some party
  pub place : a ≡ index q (r party)
  pub whole : width ≡ q.index_width

pub whole-index : (q : Queue) (t : Option Party) (r : Party → Party) (a width : ℕ) → is_whole q t r a width ≡ true → IsWholeIndex q t r a width
whole-index q None r a width ok = absurd (cc)
whole-index q (Some p) r a width ok =
    let parts = and_parts (a == index q (r p)) (width == q.index_width) ok in
    record { party = p; is = refl; place = eqb-true a (index q (r p)) parts.0; whole = eqb-true width (q.index_width) parts.1 }

-- a load that misses the other's index leaves the counts
pub missed : (q : Queue) (t : Option Party) (b : Bounds) (a width v : ℕ) (c : QueueCounts) → misses q t b width ≡ true → b.low ≤ a → a ≤ b.high
    → after_access q t (load a width v) c ≡ c
missed q None b a width v c ok low high = refl
missed q (Some p) b a width v c ok low high =
    ap (λ t. if t then with_known p (least_count q (known p c) v) c else c) off
  where
    x : ℕ
    x = index q (other p)

    off : (a == index q (other p) && width == q.index_width) ≡ false
    off = grind (arith, or_cases, not, and_right, not-true, and_left, ne_eqb, ltb-true)

-- ---- a look

-- the word of the other's count, by the end of what is owned
behind-end : (q : Queue) (p : Party) (k : ℕ) (c : QueueCounts) → 1 ≤ q.modulus → index_word q (end q p (with_known p k c) + behind q p) ≡ index_word q k
behind-end q the_sender k c some = word-of-remainder q (k + q.capacity + (q.modulus - q.capacity % q.modulus)) k (round-up q.modulus k q.capacity some)
behind-end q the_receiver k c some = ap (index_word q) (let z : k + 0 ≡ k = omega arith in z)

end-grows : (q : Queue) (p : Party) (k : ℕ) (c : QueueCounts) → known p c ≤ k → end q p c ≤ end q p (with_known p k c)
end-grows q the_sender k c from = omega (arith, from)
end-grows q the_receiver k c from = from

end-limit : (q : Queue) (p : Party) (k : ℕ) (c : QueueCounts) → k ≤ limit q p c → end q p (with_known p k c) ≤ count p c + q.capacity
end-limit q the_sender k c upto = omega (arith, upto)
end-limit q the_receiver k c upto = upto

-- what a party knows after a look, over one variable more: how much more it owns than the least that it did
pub record Looked (q : Queue) (p : Party) (c d : QueueCounts) (xs : List ℕ) (s : Share) (v : ℕ) : Type 0 where
  pub more : ℕ
  pub low : more ≤ q.capacity - s.owned.constant
  pub share : HasShare q p d (more ∷ xs) (looked_share s)
  pub word : v ≡ index_word q (form_value (plus (plus (lifted s.own) (owned_then s)) (number (behind q p))) (more ∷ xs))

module _ (q : Queue) (is : IsQueue q) (tells : TellsFull q) (p : Party) (c : QueueCounts) (xs : List ℕ) (s : Share) (has : HasShare q p c xs s) where
  owned-value : (y : ℕ) → form_value (owned_then s) (y ∷ xs) ≡ s.owned.constant + y
  owned-value y = value-plus (number s.owned.constant) first_variable (y ∷ xs)
      ∙ ap (λ n. n + form_value first_variable (y ∷ xs)) (value-number s.owned.constant (y ∷ xs)) ∙ ap (λ n. s.owned.constant + n) (value-first y xs)

  pub looks : (m : View) → SeesIndices q p c m → (v : ℕ) → ReadsFrom m (load (index q (other p)) q.index_width v)
      → Looked q p c (after_load q p (index q (other p)) q.index_width v c) xs s v
  looks m sees v reads = subst (λ d. Looked q p c d xs s v) (sym l.4) (record {
    more = y;
    low = omega (arith, has.own, top);
    share = record {
      own = count-set-known p p k c ∙ has.own ∙ sym (value-lifted s.own y xs);
      upto = upto ∙ ap (λ n. n + (s.owned.constant + y)) (sym (value-lifted s.own y xs))
          ∙ ap (λ n. form_value (lifted s.own) (y ∷ xs) + n) (sym (owned-value y));
    };
    word = l.1 ∙ sym (behind-end q p k c is.words) ∙ ap (λ n. index_word q (n + behind q p)) upto ∙ ap (index_word q) (sym whole);
  })
    where
      l : (k : ℕ) × (v ≡ index_word q k) × (known p c ≤ k) × (k ≤ limit q p c) × (after_load q p (index q (other p)) q.index_width v c ≡ with_known p k c)
      l = looked q is p c m tells sees v reads

      k : ℕ
      k = l.0

      y : ℕ
      y = end q p (with_known p l.0 c) - (form_value s.own xs + s.owned.constant)

      bottom : form_value s.own xs + s.owned.constant ≤ end q p (with_known p l.0 c)
      bottom = let e : end q p c ≤ end q p (with_known p l.0 c) = end-grows q p l.0 c l.2 in omega (arith, e, has.upto)

      top : end q p (with_known p l.0 c) ≤ count p c + q.capacity
      top = end-limit q p l.0 c l.3

      upto : end q p (with_known p l.0 c) ≡ form_value s.own xs + (s.owned.constant + (end q p (with_known p l.0 c) - (form_value s.own xs + s.owned.constant)))
      upto = omega (arith, bottom)

      whole : form_value (plus (plus (lifted s.own) (owned_then s)) (number (behind q p))) (y ∷ xs)
          ≡ form_value s.own xs + (s.owned.constant + (end q p (with_known p l.0 c) - (form_value s.own xs + s.owned.constant))) + behind q p
      whole = value-plus (plus (lifted s.own) (owned_then s)) (number (behind q p)) (y ∷ xs)
          ∙ ap (λ n. form_value (plus (lifted s.own) (owned_then s)) (y ∷ xs) + n) (value-number (behind q p) (y ∷ xs))
          ∙ ap (λ n. n + behind q p) (value-plus (lifted s.own) (owned_then s) (y ∷ xs)
          ∙ ap (λ n. n + form_value (owned_then s) (y ∷ xs)) (value-lifted s.own y xs)
          ∙ ap (λ n. form_value s.own xs + n) (owned-value y))

-- bounds of one address that is the other's index don't miss it
pub hits : (q : Queue) (p : Party) (b : Bounds) (width : ℕ) → misses q (Some p) b width ≡ true
    → b.low ≡ index q (other p) → width ≡ q.index_width → b.low ≡ b.high → ⊥
hits q p b width off place whole one = elim
    (or_cases (nat_lt b.high (index q (other p)) || nat_lt (index q (other p)) b.low) (not (width == q.index_width)) off) [
      | inr part ↦ ne_true (eq-eqb width q.index_width whole) (not-true (width == q.index_width) part)
      | inl side ↦ elim (or_cases (nat_lt b.high (index q (other p))) (nat_lt (index q (other p)) b.low) side) [
        | inl above ↦ (let u : b.high < index q (other p) = ltb-true b.high (index q (other p)) above in omega (arith, u, place, one))
        | inr below ↦ (let u : index q (other p) < b.low = ltb-true (index q (other p)) b.low below in omega (arith, u, place, one))
      ]
    ]
  where
    ne_true : {t : Bool} → t ≡ true → t ≡ false → ⊥
    ne_true is not = (let no : true ≡ false = sym is ∙ not in cc)
