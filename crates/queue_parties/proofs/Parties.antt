-- Parties and their counts: whose a hart is, what a new count or a new knowledge leaves, and that counts grow.
use Rattle.std.proofs.Common.{ℕ, ◌<◌, ◌≤◌, ◌≡◌, ◌≢◌, ◌==◌, ◌&&◌, ◌⊎◌, inl, inr, true, if◌then◌else◌, List, [], ◌∷◌, ◌++◌, Some, None, refl, sym, ◌∙◌, ap, arith}
use Rattle.std.proofs.lemmas.Bool.{cases_eq, eq-eqb, ne_eqb}
use Rattle.std.proofs.lemmas.Bool.Decides.{nat_tests}
use Rattle.step_machine.specs.declared.events.Entry.{Entry}
use Rattle.queue_parties.specs.Parties.{Party, the_sender, the_receiver, other, hart_among, party_among, QueueCounts, count, with_count, known, with_known}
use Rattle.queue_parties.specs.Parties.{counts_from, KeepsEach}

-- two numbers that a test finds to be two others
pub both-equal : (a b c d : ℕ) → ((a == b) && (c == d)) ≡ true → (a ≡ b) × (c ≡ d)
both-equal a b c d on = (grind (arith, nat_tests, on), grind (arith, nat_tests, on))

-- ---- whose a hart is

pub data Whose (s r h : ℕ) : Type 0 where
  mine : (p : Party) → h ≡ hart_among s r p → party_among s r h ≡ Some p → Whose s r h
  theirs : ((p : Party) → h ≢ hart_among s r p) → party_among s r h ≡ None → Whose s r h

pub whose : (s r h : ℕ) → Whose s r h
whose s r h = at (cases_eq h s) (cases_eq h r)
  where
    at : (h ≡ s) ⊎ (h ≢ s) → (h ≡ r) ⊎ (h ≢ r) → Whose s r h
    at (inl same) c = mine the_sender same (ap (λ b. if b then Some the_sender else (if h == r then Some the_receiver else None)) (eq-eqb h s same))
    at (inr apart) (inl same) = mine the_receiver same
        (ap (λ b. if b then Some the_sender else (if h == r then Some the_receiver else None)) (ne_eqb h s apart)
        ∙ ap (λ b. if b then Some the_receiver else None) (eq-eqb h r same))
    at (inr apart) (inr far) = theirs not
        (ap (λ b. if b then Some the_sender else (if h == r then Some the_receiver else None)) (ne_eqb h s apart)
        ∙ ap (λ b. if b then Some the_receiver else None) (ne_eqb h r far))
      where
        not : (p : Party) → h ≢ hart_among s r p
        not the_sender = apart
        not the_receiver = far

pub harts-apart : (s r : ℕ) → s ≢ r → (p : Party) → hart_among s r p ≢ hart_among s r (other p)
harts-apart s r apart the_sender = apart
harts-apart s r apart the_receiver = λ e. apart (sym e)

pub two : (r p : Party) → (p ≡ r) ⊎ (p ≡ other r)
two the_sender the_sender = inl refl
two the_sender the_receiver = inr refl
two the_receiver the_sender = inr refl
two the_receiver the_receiver = inl refl

-- a party's hart is its alone
pub party-is : (s r : ℕ) → s ≢ r → (p : Party) (h : ℕ) → h ≡ hart_among s r p → party_among s r h ≡ Some p
party-is s r apart p h here = by (whose s r h)
  where
    by : Whose s r h → party_among s r h ≡ Some p
    by (theirs far none) = absurd (far p here)
    by (mine t at party) = elim (two p t) [
      | inl same ↦ party ∙ ap (λ u. Some u) same
      | inr same ↦ absurd (harts-apart s r apart p (sym here ∙ at ∙ ap (hart_among s r) same))
    ]

pub hart-is : (s r : ℕ) (p : Party) (h : ℕ) → party_among s r h ≡ Some p → h ≡ hart_among s r p
hart-is s r p h party = by (whose s r h)
  where
    by : Whose s r h → h ≡ hart_among s r p
    by (mine t at found) = let same : Some t ≡ Some p = sym found ∙ party in at ∙ ap (hart_among s r) (let level : t ≡ p = cc in level)
    by (theirs far none) = absurd (let wrong : None ≡ Some p = sym none ∙ party in cc)

pub twice : (r : Party) → other (other r) ≡ r
twice the_sender = refl
twice the_receiver = refl

-- ---- what a new count or a new knowledge leaves

pub count-set : (r : Party) (n : ℕ) (c : QueueCounts) → count r (with_count r n c) ≡ n
count-set the_sender n c = refl
count-set the_receiver n c = refl

pub count-set-other : (r : Party) (n : ℕ) (c : QueueCounts) → count (other r) (with_count r n c) ≡ count (other r) c
count-set-other the_sender n c = refl
count-set-other the_receiver n c = refl

pub known-set-count : (r p : Party) (n : ℕ) (c : QueueCounts) → known p (with_count r n c) ≡ known p c
known-set-count the_sender the_sender n c = refl
known-set-count the_sender the_receiver n c = refl
known-set-count the_receiver the_sender n c = refl
known-set-count the_receiver the_receiver n c = refl

pub count-set-known : (r p : Party) (n : ℕ) (c : QueueCounts) → count p (with_known r n c) ≡ count p c
count-set-known the_sender the_sender n c = refl
count-set-known the_sender the_receiver n c = refl
count-set-known the_receiver the_sender n c = refl
count-set-known the_receiver the_receiver n c = refl

pub known-set : (r : Party) (n : ℕ) (c : QueueCounts) → known r (with_known r n c) ≡ n
known-set the_sender n c = refl
known-set the_receiver n c = refl

pub known-set-other : (r : Party) (n : ℕ) (c : QueueCounts) → known (other r) (with_known r n c) ≡ known (other r) c
known-set-other the_sender n c = refl
known-set-other the_receiver n c = refl

-- ---- counts never go back

pub record Grows (c d : QueueCounts) : Type 0 where
  pub counts : (p : Party) → count p c ≤ count p d
  pub knows : (p : Party) → known p c ≤ known p d

pub grows-same : (c : QueueCounts) → Grows c c
grows-same c = record { counts = λ p. omega arith; knows = λ p. omega arith }

pub grows-on : {c d : QueueCounts} → (e : QueueCounts) → Grows c d → Grows d e → Grows c e
grows-on {c} {d} e one more = record {
  counts = λ p. (let a : count p c ≤ count p d = one.counts p in let b : count p d ≤ count p e = more.counts p in omega (arith, a, b));
  knows = λ p. (let a : known p c ≤ known p d = one.knows p in let b : known p d ≤ known p e = more.knows p in omega (arith, a, b));
}

-- a party's new count, or new knowledge, that is no less than the old
pub grows-count : (r : Party) (n : ℕ) (c : QueueCounts) → count r c ≤ n → Grows c (with_count r n c)
grows-count r n c le = record {
  counts = λ p. more r p le;
  knows = λ p. (let k : known p (with_count r n c) ≡ known p c = known-set-count r p n c in omega (arith, k));
}
  where
    more : (r p : Party) → count r c ≤ n → count p c ≤ count p (with_count r n c)
    more the_sender the_sender le = le
    more the_receiver the_receiver le = le
    more the_sender the_receiver le = omega arith
    more the_receiver the_sender le = omega arith

pub grows-known : (r : Party) (n : ℕ) (c : QueueCounts) → known r c ≤ n → Grows c (with_known r n c)
grows-known r n c le = record {
  counts = λ p. (let k : count p (with_known r n c) ≡ count p c = count-set-known r p n c in omega (arith, k));
  knows = λ p. more r p le;
}
  where
    more : (r p : Party) → known r c ≤ n → known p c ≤ known p (with_known r n c)
    more the_sender the_sender le = le
    more the_receiver the_receiver le = le
    more the_sender the_receiver le = omega arith
    more the_receiver the_sender le = omega arith

-- ---- runs in parts

module _ (next : QueueCounts → Entry → QueueCounts) where
  pub counts-append : (c : QueueCounts) (es fs : List Entry) → counts_from next c (es ++ fs) ≡ counts_from next (counts_from next c es) fs
  counts-append c [] fs = refl
  counts-append c (e ∷ es) fs = counts-append (next c e) es fs

  pub grows-from : ((c : QueueCounts) (e : Entry) → Grows c (next c e)) → (c : QueueCounts) (es : List Entry) → Grows c (counts_from next c es)
  grows-from one c [] = grows-same c
  grows-from one c (e ∷ es) = grows-on (counts_from next (next c e) es) (one c e) (grows-from one (next c e) es)

  module _ (May : QueueCounts → Entry → Type 0) where
    pub keeps-front : (c : QueueCounts) (es fs : List Entry) → KeepsEach next May c (es ++ fs) → KeepsEach next May c es
    keeps-front c [] fs keeps = tt
    keeps-front c (e ∷ es) fs keeps = (keeps.0, keeps-front (next c e) es fs keeps.1)

    pub keeps-back : (c : QueueCounts) (es fs : List Entry) → KeepsEach next May c (es ++ fs) → KeepsEach next May (counts_from next c es) fs
    keeps-back c [] fs keeps = keeps
    keeps-back c (e ∷ es) fs keeps = keeps-back (next c e) es fs keeps.1

    pub keeps-at : (c : QueueCounts) (es : List Entry) (e : Entry) (fs : List Entry) → KeepsEach next May c (es ++ e ∷ fs) → May (counts_from next c es) e
    keeps-at c es e fs keeps = (keeps-back c es (e ∷ fs) keeps).0

  -- an entry that moves a count (`far`) past position k, among these
  pub record Passed (far : QueueCounts → ℕ) (c : QueueCounts) (es : List Entry) (k : ℕ) : Type 0 where
    pub done : List Entry
    pub entry : Entry
    pub rest : List Entry
    pub is : es ≡ done ++ entry ∷ rest
    pub from : far (counts_from next c done) ≤ k
    pub past : k < far (counts_from next c (done ++ entry ∷ []))
