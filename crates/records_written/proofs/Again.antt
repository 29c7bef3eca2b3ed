-- Marks that a search narrows mark all that any marks do that the leaves keep; and where the leaves keep them too, they decide.
use Rattle.std.proofs.Common.{ℕ, ◌≡◌, ◌<◌, ◌≤◌, ◌==◌, ◌&&◌, ◌||◌, not, Bool, true, false, Option, None, Some, List, [], ◌∷◌, length, get_or, refl, sym, subst}
use Rattle.std.proofs.Common.{◌∙◌, inl, inr, zero, suc, ap, arith}
use Rattle.std.specs.List.{list_all, list_any}
use Rattle.std.proofs.lemmas.Bool.{and_parts, and_from, or_left, or_right, or_cases, cases_lt, eqb-true, or_from, or_parts, eq-eqb, ltb-true, leb-true}
use Rattle.std.proofs.lemmas.Bool.{lt-ltb, le-leb}
use Rattle.std.proofs.lemmas.List.{get_or_past, get_or-set_same, get_or-set_other, get_or-replicate, length-replicate}
use Rattle.queue_certificates.specs.declared.effect.Effect.{Effect}
use Rattle.queue_certificates.specs.declared.effect.Effect.TheVariants.{Leaves, Fills, Publishes, PublishesSome}
use Rattle.record_bytes.specs.declared.ranges.ByteRange.{ByteRange}
use Rattle.record_bytes.specs.Ranges.{has_byte, range_has}
use Rattle.records_written.specs.{Mark, Missing, PartyLeaf, is_filled, marked_after, may_hand_on, keeps, AreKept, IsSurelyDone, IsSureAt, IsSure}
use Rattle.records_written.specs.{IsFirstUnsure, marks_of, AreMost, is_left, are_left, is_open, IsOpenAt, IsFirstOf, has_offset, closed_by, is_again, ends_at}
use Rattle.records_written.specs.{leads_closed, reads_again, raised, AreClosed, IsAnswer, IsOnce, IsOnceAt, IsFirstTwice, IsUnder}
use Rattle.std.specs.Prelude.{nat_lt, nat_le, set, IfSome}
use Rattle.std.proofs.lemmas.Bool.Decides.{nat_tests}
use Rattle.std.proofs.lemmas.List.Folds.{list_all_at}
use Rattle.std.proofs.Math.Bool.{and-false, or-false}
use Rattle.std.proofs.Math.ListN.{length-set, replicate}

pub all-weaker : {A : Type 0} (p q : A → Bool) (xs : List A) → ((x : A) → p x ≡ true → q x ≡ true) → list_all p xs ≡ true → list_all q xs ≡ true
all-weaker p q [] weaker ok = refl
all-weaker p q (x ∷ xs) weaker ok =
    let both = and_parts (p x) (list_all p xs) ok in and_from (q x) (list_all q xs) (weaker x both.0) (all-weaker p q xs weaker both.1)

-- more is written after a leaf, if more was before
written-more : (e : Option Effect) (f g : ℕ → ℕ → Bool) → ((d b : ℕ) → f d b ≡ true → g d b ≡ true) → (d b : ℕ)
    → marked_after e f d b ≡ true → marked_after e g d b ≡ true
written-more None f g more d b is = is
written-more (Some Leaves) f g more d b is = more d b is
written-more (Some (Fills j offset width)) f g more d b is = elim (or_cases (is_filled j offset width d b) (f d b) is) [
  | inl filled ↦ or_left (is_filled j offset width d b) (g d b) filled
  | inr was ↦ or_right (is_filled j offset width d b) (g d b) (more d b was)
]
written-more (Some (Publishes n)) f g more d b is = more _ b is
written-more (Some (PublishesSome n)) f g more d b is = is

-- marks with none where the sender opens
pub most-opened : (graph : List (List PartyLeaf)) (first : ℕ) (all : List (Option (List Mark)))
    → ((n d b : ℕ) → n < length graph → marks_of all n d b ≡ not (n == first)) → AreMost graph first all
most-opened graph first all is f kept n d b short marked = is n d b short ∙ by (n == first) refl
  where
    by : (t : Bool) → (n == first) ≡ t → not (n == first) ≡ true
    by true same = absurd (let none : f first d b ≡ false = kept.opens d b in
        let some : f first d b ≡ true = subst (λ (m : ℕ). f m d b ≡ true) (eqb-true n first same) marked in
        cc)
    by false other = rw other refl

-- and those that a state's leaves narrow
pub most-followed : (graph : List (List PartyLeaf)) (first n : ℕ) (all next : List (Option (List Mark)))
    → ((m d b : ℕ) → marks_of next m d b ≡ (marks_of all m d b && are_left (get_or graph n []) (marks_of all n) m d b))
    → AreMost graph first all → AreMost graph first next
most-followed graph first n all next step most f kept m d b short marked =
    step m d b ∙ and_from (marks_of all m d b) _ (most f kept m d b short marked) (elim (cases_lt n (length graph)) [
      | inl listed ↦ all-weaker (keeps f n d b) (λ s. is_left s.targets (marked_after s.effect (marks_of all n) d b) m) (get_or graph n [])
          (λ s ok. all-weaker (λ to. not (f to d b) || marked_after s.effect (f n) d b)
          (λ to. not (to == m) || marked_after s.effect (marks_of all n) d b) s.targets
          (λ to passes. at s to (to == m) refl listed passes) ok)
          (kept.leads n d b)
      | inr past ↦ rw (get_or_past graph n [] past) refl
    ])
  where
    at : (s : PartyLeaf) (to : ℕ) (t : Bool) → (to == m) ≡ t → n < length graph → (not (f to d b) || marked_after s.effect (f n) d b) ≡ true
        → (not (to == m) || marked_after s.effect (marks_of all n) d b) ≡ true
    at s to false other listed passes = rw other refl
    at s to true same listed passes =
        let here : f to d b ≡ true = subst (λ (k : ℕ). f k d b ≡ true) (sym (eqb-true to m same)) marked in
        let was : marked_after s.effect (f n) d b ≡ true = rw here at passes in
        or_right (not (to == m)) _ (written-more s.effect (f n) (marks_of all n) (λ e a is. most f kept n e a listed is) d b was)

module _ (graph : List (List PartyLeaf)) (first : ℕ) (all : List (Option (List Mark))) (mask : List ByteRange)
    (kept : AreKept graph first (marks_of all)) (most : AreMost graph first all) where
  sure : (n d b : ℕ) → has_byte mask b ≡ true → is_open mask (marks_of all n) d b ≡ false → IsSurelyDone graph first n d b
  sure n d b asked closed = by (marks_of all n d b) refl
    where
      by : (t : Bool) → marks_of all n d b ≡ t → IsSurelyDone graph first n d b
      by true is = record { marks = marks_of all; kept = kept; marked = is }
      by false unmarked = absurd (let lacking : is_open mask (marks_of all n) d b ≡ true = rw (asked, unmarked) refl in cc)

  unsure : (n d b : ℕ) → n < length graph → is_open mask (marks_of all n) d b ≡ true → IsSurelyDone graph first n d b → ⊥
  unsure n d b listed lacking is =
      let yes : marks_of all n d b ≡ true = most is.marks is.kept n d b listed is.marked in
      let no : not (marks_of all n d b) ≡ true = (and_parts (has_byte mask b) _ lacking).1 in
      cc

  sure-at : (n : ℕ) → IsOpenAt graph mask (marks_of all) n None → IsSureAt graph first (has_byte mask) n
  sure-at n none d handed b asked = sure n d b asked (none d handed b)

  beyond : (n : ℕ) → length graph ≤ n → IsSureAt graph first (has_byte mask) n
  beyond n past d handed b asked = absurd (let no : may_hand_on (get_or graph n []) d ≡ false = rw (get_or_past graph n [] past) refl in cc)

  pub all-sure : IsFirstOf graph mask (marks_of all) (length graph) None → IsSure graph first (has_byte mask)
  all-sure none n = elim (cases_lt n (length graph)) [ inl listed ↦ sure-at n (none n listed) | inr past ↦ beyond n past ]

  pub first-unsure : (u : Missing) → IsFirstOf graph mask (marks_of all) (length graph) (Some u)
      → IsFirstUnsure graph first (has_byte mask) u.state u.byte
  first-unsure u (listed, before, (position, (handed, lacking, bytes, positions))) = record {
    position = position;
    handed = handed;
    asked = (and_parts (has_byte mask u.byte) _ lacking).0;
    unsure = unsure u.state position u.byte listed lacking;
    bytes = λ a less asked. sure u.state position a asked (bytes a less);
    positions = λ d less a asked. sure u.state d a asked (positions d less a);
    states = λ m less. sure-at m (before m less);
  }

-- The fewest positions that are closed: what a search closes of one byte decides whether it may be read again, and what holds of the bytes at
-- which a load or a range of the mask begins or ends holds of all of the mask.

-- ---- more is closed after a leaf, and may be read again, if more was closed before

pub closed-more : (all : Bool) (e : Option Effect) (b m n : ℕ) → m ≤ n → closed_by all e b m ≤ closed_by all e b n
closed-more all None b m n more = omega arith
closed-more all (Some Leaves) b m n more = more
closed-more all (Some (Fills j offset width)) b m n more = omega (arith, more)
closed-more true (Some (Publishes k)) b m n more = omega arith
closed-more false (Some (Publishes k)) b m n more = omega (arith, more)
closed-more all (Some (PublishesSome k)) b m n more = omega arith

again-more : (e : Option Effect) (b m n : ℕ) → m ≤ n → is_again e b m ≡ true → is_again e b n ≡ true
again-more None b m n more is = is
again-more (Some Leaves) b m n more is = is
again-more (Some (Fills j offset width)) b m n more is =
    let both = and_parts (has_offset b offset width) (nat_lt j m) is in
    let less : j < m = ltb-true j m both.1 in
    and_from (has_offset b offset width) (nat_lt j n) both.0 (lt-ltb j n (omega (arith, less, more)))
again-more (Some (Publishes k)) b m n more is = is
again-more (Some (PublishesSome k)) b m n more is = is

any-weaker : {A : Type 0} (p q : A → Bool) (xs : List A) → ((x : A) → p x ≡ true → q x ≡ true) → list_any p xs ≡ true → list_any q xs ≡ true
any-weaker p q [] weaker some = some
any-weaker p q (x ∷ xs) weaker some = elim (or_cases (p x) (list_any p xs) some) [
  | inl here ↦ or_left (q x) (list_any q xs) (weaker x here)
  | inr rest ↦ or_right (q x) (list_any q xs) (any-weaker p q xs weaker rest)
]

pub leads-more : (leaves : List PartyLeaf) (f : ℕ → ℕ) (b m n : ℕ) → m ≤ n
    → list_all (λ s. list_all (λ to. nat_le (closed_by s.all s.effect b n) (f to)) s.targets) leaves ≡ true
    → list_all (λ s. list_all (λ to. nat_le (closed_by s.all s.effect b m) (f to)) s.targets) leaves ≡ true
leads-more leaves f b m n more ok = all-weaker (λ s. list_all (λ to. nat_le (closed_by s.all s.effect b n) (f to)) s.targets)
    (λ s. list_all (λ to. nat_le (closed_by s.all s.effect b m) (f to)) s.targets) leaves
    (λ s. all-weaker (λ to. nat_le (closed_by s.all s.effect b n) (f to)) (λ to. nat_le (closed_by s.all s.effect b m) (f to)) s.targets
    (λ to le. (let under : closed_by s.all s.effect b n ≤ f to = leb-true _ _ le in
    le-leb _ _ (omega (arith, under, closed-more s.all s.effect b m n more))))) ok

-- ---- one more

pub raised-under : (xs : List ℕ) (to left : ℕ) (f : ℕ → ℕ) → left ≤ f to → IsUnder xs f → IsUnder (raised xs to left) f
raised-under xs to left f below under n = by (nat_lt (get_or xs to 0) left) refl
  where
    at : (u : Bool) → (to == n) ≡ u → get_or (set xs to left) n 0 ≤ f n
    at true same = let is : to ≡ n = eqb-true to n same in elim (cases_lt to (length xs)) [
      | inl short ↦ subst (λ m. get_or (set xs to left) m 0 ≤ f m) is
          (let here : get_or (set xs to left) to 0 ≡ left = get_or-set_same xs to left 0 short in omega (arith, here, below))
      | inr past ↦ subst (λ m. get_or (set xs to left) m 0 ≤ f m) is
          (let none : get_or (set xs to left) to 0 ≡ 0 = get_or_past (set xs to left) to 0 (simp length-set (omega (arith, past))) in omega (arith, none))
    ]
    at false other = let apart : n ≡ to → ⊥ = λ e. (let yes : (to == n) ≡ true = grind (arith, nat_tests) in absurd (cc)) in
        let kept : get_or (set xs to left) n 0 ≡ get_or xs n 0 = get_or-set_other xs to n left 0 apart in omega (arith, kept, under n)

    by : (t : Bool) → nat_lt (get_or xs to 0) left ≡ t → get_or (raised xs to left) n 0 ≤ f n
    by true less = rw less (at (to == n) refl)
    by false most = rw most (under n)

pub zeros-under : (n : ℕ) (f : ℕ → ℕ) → IsUnder (replicate {A = ℕ} n 0) f
zeros-under n f i = elim (cases_lt i n) [
  | inl less ↦ (let none : get_or (replicate {A = ℕ} n 0) i 0 ≡ 0 = get_or-replicate n i 0 0 less in omega (arith, none))
  | inr past ↦ (let none : get_or (replicate {A = ℕ} n 0) i 0 ≡ 0 = get_or_past (replicate n 0) i 0 (simp length-replicate past) in omega (arith, none))
]

pub all-at : {A : Type 0} (p : A → Bool) (xs : List A) (i : ℕ) (d : A) → i < length xs → list_all p xs ≡ true → p (get_or xs i d) ≡ true
all-at p xs i d short ok = by (p (get_or xs i d)) refl
  where
    by : (t : Bool) → p (get_or xs i d) ≡ t → t ≡ true
    by true is = refl
    by false not = absurd (let no : list_all p xs ≡ false = list_all_at p xs i d short not in cc)

-- ---- what the fewest that are closed decide

module _ (graph : List (List PartyLeaf)) (b : ℕ) (closed : List ℕ) (are : AreClosed graph b (λ n. get_or closed n 0))
    (least : (f : ℕ → ℕ) → AreClosed graph b f → IsUnder closed f) where
  once : (n : ℕ) → reads_again (get_or graph n []) b (get_or closed n 0) ≡ false → IsOnceAt graph n b
  once n none = record { closed = λ m. get_or closed m 0; are = are; once = none }

  twice : (n : ℕ) → reads_again (get_or graph n []) b (get_or closed n 0) ≡ true → IsOnceAt graph n b → ⊥
  twice n some at =
      let no : reads_again (get_or graph n []) b (at.closed n) ≡ false = at.once in
      let yes : reads_again (get_or graph n []) b (at.closed n) ≡ true =
      any-weaker (λ s. is_again s.effect b (get_or closed n 0)) (λ s. is_again s.effect b (at.closed n)) (get_or graph n [])
      (λ s. again-more s.effect b (get_or closed n 0) (at.closed n) (least at.closed at.are n)) some in
      absurd (cc)

  pub none-again : ((n : ℕ) → reads_again (get_or graph n []) b (get_or closed n 0) ≡ false) → IsOnce graph (λ a. a == b)
  none-again none n a same = subst (IsOnceAt graph n) (sym (eqb-true a b same)) (once n (none n))

  pub first-again : (n : ℕ) → reads_again (get_or graph n []) b (get_or closed n 0) ≡ true
      → ((m : ℕ) → m < n → reads_again (get_or graph m []) b (get_or closed m 0) ≡ false) → IsFirstTwice graph (λ a. a == b) n b
  first-again n some before = record {
    listed = elim (cases_lt n (length graph)) [
      | inl less ↦ less
      | inr past ↦ absurd (let none : reads_again (get_or graph n []) b (get_or closed n 0) ≡ false = rw (get_or_past graph n [] past) refl in cc)
    ];
    asked = eq-eqb b b refl;
    twice = twice n some;
    bytes = λ a less same. absurd (let is : a ≡ b = eqb-true a b same in omega (arith, less, is));
    states = λ m less a same. subst (IsOnceAt graph m) (sym (eqb-true a b same)) (once m (before m less));
  }

-- ---- the earlier of two

module _ (graph : List (List PartyLeaf)) (p q : ℕ → Bool) where
  pub none-of : IsOnce graph p → IsOnce graph q → IsOnce graph (λ b. p b || q b)
  none-of one two n b asked = elim (or_cases (p b) (q b) asked) [ inl is ↦ one n b is | inr is ↦ two n b is ]

  pub first-one : (n b : ℕ) → IsFirstTwice graph p n b → ((m : ℕ) → m < n → (a : ℕ) → q a ≡ true → IsOnceAt graph m a)
      → ((a : ℕ) → a < b → q a ≡ true → IsOnceAt graph n a) → IsFirstTwice graph (λ b. p b || q b) n b
  first-one n b first states bytes = record {
    listed = first.listed;
    asked = or_left (p b) (q b) first.asked;
    twice = first.twice;
    bytes = λ a less asked. elim (or_cases (p a) (q a) asked) [ inl is ↦ first.bytes a less is | inr is ↦ bytes a less is ];
    states = λ m less a asked. elim (or_cases (p a) (q a) asked) [ inl is ↦ first.states m less a is | inr is ↦ states m less a is ];
  }

  pub first-other : (n b : ℕ) → IsFirstTwice graph q n b → ((m : ℕ) → m < n → (a : ℕ) → p a ≡ true → IsOnceAt graph m a)
      → ((a : ℕ) → a < b → p a ≡ true → IsOnceAt graph n a) → IsFirstTwice graph (λ b. p b || q b) n b
  first-other n b first states bytes = record {
    listed = first.listed;
    asked = or_right (p b) (q b) first.asked;
    twice = first.twice;
    bytes = λ a less asked. elim (or_cases (p a) (q a) asked) [ inl is ↦ bytes a less is | inr is ↦ first.bytes a less is ];
    states = λ m less a asked. elim (or_cases (p a) (q a) asked) [ inl is ↦ states m less a is | inr is ↦ first.states m less a is ];
  }

-- the answer of another test with the same bytes
pub answer-same : (graph : List (List PartyLeaf)) (p q : ℕ → Bool) → ((b : ℕ) → p b ≡ q b) → (found : Option Missing) → IsAnswer graph p found
    → IsAnswer graph q found
answer-same graph p q same None all = λ n b asked. all n b (same b ∙ asked)
answer-same graph p q same (Some u) first = record {
  listed = first.listed;
  asked = sym (same u.byte) ∙ first.asked;
  twice = first.twice;
  bytes = λ a less asked. first.bytes a less (same a ∙ asked);
  states = λ m less a asked. first.states m less a (same a ∙ asked);
}

-- ---- one byte more

pub asked-more : (mask : List ByteRange) (x : ℕ) → has_byte mask x ≡ true → (p : ℕ → Bool) (b : ℕ)
    → (p b || (b == x)) ≡ (p b || (has_byte mask b && (b == x)))
asked-more mask x asked p b = by (b == x) refl
  where
    by : (t : Bool) → (b == x) ≡ t → (p b || t) ≡ (p b || (has_byte mask b && t))
    by true same = ap (λ t. p b || t) (let has : has_byte mask b ≡ true = subst (λ n. has_byte mask n ≡ true) (sym (eqb-true b x same)) asked in rw has refl)
    by false other = ap (λ t. p b || t) (sym (and-false (has_byte mask b)))

pub none-more : (mask : List ByteRange) (x : ℕ) → has_byte mask x ≡ false → (p : ℕ → Bool) (b : ℕ) → p b ≡ (p b || (has_byte mask b && (b == x)))
none-more mask x not p b = by (b == x) refl
  where
    by : (t : Bool) → (b == x) ≡ t → p b ≡ (p b || (has_byte mask b && t))
    by true same = (let has : has_byte mask b ≡ false = subst (λ n. has_byte mask n ≡ false) (sym (eqb-true b x same)) not in rw has (sym (or-false (p b))))
    by false other = sym (or-false (p b)) ∙ ap (λ t. p b || t) (sym (and-false (has_byte mask b)))

pub both-more : (p m x y : Bool) → ((p || (m && x)) || (m && y)) ≡ (p || (m && (x || y)))
both-more true m x y = refl
both-more false true x y = refl
both-more false false x y = refl

pub answer-within : (graph : List (List PartyLeaf)) (p : ℕ → Bool) (found : Option Missing) (n : ℕ) → length graph ≡ n → IsAnswer graph p found
    → IfSome found (λ u. u.state < n)
answer-within graph p None n same is = tt
answer-within graph p (Some u) n same is = subst (λ m. u.state < m) same is.listed

-- ---- bytes between which no load, and no range of the mask, begins or ends

module _ (graph : List (List PartyLeaf)) (mask : List ByteRange) where
  -- a load in this graph begins at the byte, or ends before it
  abbrev pub load_ends : (b : ℕ) → Bool
  load_ends b = list_any (λ leaves. list_any (λ s. ends_at s.effect b) leaves) graph

  -- the bytes that are asked about
  abbrev pub is_start : (b : ℕ) → Bool
  is_start b = list_any (λ r. has_byte mask b && (b == r.first)) mask || (has_byte mask b && load_ends b)

  -- a byte of the mask that isn't is one more than another one
  before-in : (b : ℕ) → has_byte mask b ≡ true → (rs : List ByteRange) → list_any (λ r. has_byte mask b && (b == r.first)) rs ≡ false
      → has_byte rs b ≡ true → (a : ℕ) × (suc a ≡ b) × (has_byte rs a ≡ true)
  before-in b asked [] none has = absurd (cc)
  before-in b asked (r ∷ rs) none has =
      let parts = or_parts (has_byte mask b && (b == r.first)) _ none in elim (or_cases (range_has r b) (has_byte rs b) has) [
        | inl here ↦ by b asked parts.0 (and_parts (nat_le r.first b) (nat_le b r.last) here)
        | inr rest ↦ (let found = before-in b asked rs parts.1 rest in (found.0, found.1, or_right (range_has r found.0) (has_byte rs found.0) found.2))
      ]
    where
      by : (b : ℕ) → has_byte mask b ≡ true → (has_byte mask b && (b == r.first)) ≡ false → (nat_le r.first b ≡ true) × (nat_le b r.last ≡ true)
          → (a : ℕ) × (suc a ≡ b) × (has_byte (r ∷ rs) a ≡ true)
      by zero asked other within = absurd (grind (arith, nat_tests, asked, other, within.0))
      by (suc a) asked other within = (a, refl, or_left (range_has r a) (has_byte rs a) (grind (arith, nat_tests, asked, other, within.0, within.1)))

  -- what holds of these, and of a byte if it holds of the one before, holds of all of the mask
  from-starts : (P : ℕ → Type 0) → ((a : ℕ) → load_ends (suc a) ≡ false → P a → P (suc a)) → (limit : ℕ)
      → ((a : ℕ) → a < limit → is_start a ≡ true → P a) → (b : ℕ) → b < limit → has_byte mask b ≡ true → P b
  from-starts P step limit starts b less asked = by b less asked (is_start b) refl
    where
      by : (b : ℕ) → b < limit → has_byte mask b ≡ true → (t : Bool) → is_start b ≡ t → P b
      by b less asked true is = starts b less is
      by zero less asked false not = absurd (let found = before-in zero asked mask (or_parts _ _ not).0 asked in omega (arith, found.1))
      by (suc b) less asked false not =
          let parts = or_parts (list_any (λ r. has_byte mask (suc b) && (suc b == r.first)) mask) _ not in
          let found = before-in (suc b) asked mask parts.0 asked in
          let same : found.0 ≡ b = omega (arith, found.1) in
          let ends : load_ends (suc b) ≡ false = rw asked at parts.1 in
          step b ends (by b (omega (arith, less)) (subst (λ n. has_byte mask n ≡ true) same found.2) (is_start b) refl)

  closed-next : (all : Bool) (e : Option Effect) (a m : ℕ) → ends_at e (suc a) ≡ false → closed_by all e (suc a) m ≡ closed_by all e a m
  closed-next all None a m beside = refl
  closed-next all (Some Leaves) a m beside = refl
  closed-next all (Some (Fills j offset width)) a m beside =
      let same : has_offset (suc a) offset width ≡ has_offset a offset width = grind (arith, nat_tests, beside) in rw same refl
  closed-next all (Some (Publishes k)) a m beside = refl
  closed-next all (Some (PublishesSome k)) a m beside = refl

  again-next : (e : Option Effect) (a m : ℕ) → ends_at e (suc a) ≡ false → is_again e (suc a) m ≡ is_again e a m
  again-next None a m beside = refl
  again-next (Some Leaves) a m beside = refl
  again-next (Some (Fills j offset width)) a m beside =
      let same : has_offset (suc a) offset width ≡ has_offset a offset width = grind (arith, nat_tests, beside) in rw same refl
  again-next (Some (Publishes k)) a m beside = refl
  again-next (Some (PublishesSome k)) a m beside = refl

  leads-next : (leaves : List PartyLeaf) (f : ℕ → ℕ) (n a : ℕ) → list_any (λ s. ends_at s.effect (suc a)) leaves ≡ false
      → list_all (leads_closed f n a) leaves ≡ true → list_all (leads_closed f n (suc a)) leaves ≡ true
  leads-next [] f n a none ok = refl
  leads-next (s ∷ leaves) f n a none ok =
      let parts = or_parts (ends_at s.effect (suc a)) _ none in
      let both = and_parts (leads_closed f n a s) _ ok in
      and_from (leads_closed f n (suc a) s) _ (rw (closed-next s.all s.effect a (f n) parts.0) both.0) (leads-next leaves f n a parts.1 both.1)

  once-next : (leaves : List PartyLeaf) (a m : ℕ) → list_any (λ s. ends_at s.effect (suc a)) leaves ≡ false → reads_again leaves a m ≡ false
      → reads_again leaves (suc a) m ≡ false
  once-next [] a m none ok = refl
  once-next (s ∷ leaves) a m none ok =
      let parts = or_parts (ends_at s.effect (suc a)) _ none in
      let both = or_parts (is_again s.effect a m) _ ok in
      or_from (is_again s.effect (suc a) m) _ (again-next s.effect a m parts.0 ∙ both.0) (once-next leaves a m parts.1 both.1)

  no-end : (n a : ℕ) → load_ends a ≡ false → list_any (λ s. ends_at s.effect a) (get_or graph n []) ≡ false
  no-end n a none = elim (cases_lt n (length graph)) [
    | inl short ↦ none-at graph n short none
    | inr past ↦ rw (get_or_past graph n [] past) refl
  ]
    where
      none-at : (ls : List (List PartyLeaf)) (i : ℕ) → i < length ls → list_any (λ leaves. list_any (λ s. ends_at s.effect a) leaves) ls ≡ false
          → list_any (λ s. ends_at s.effect a) (get_or ls i []) ≡ false
      none-at [] i less none = refl
      none-at (l ∷ ls) zero less none = (or_parts _ _ none).0
      none-at (l ∷ ls) (suc i) less none = none-at ls i (omega (arith, less)) (or_parts _ _ none).1

  at-next : (n a : ℕ) → load_ends (suc a) ≡ false → IsOnceAt graph n a → IsOnceAt graph n (suc a)
  at-next n a none at = record {
    closed = at.closed;
    are = λ m. leads-next (get_or graph m []) at.closed m a (no-end m (suc a) none) (at.are m);
    once = once-next (get_or graph n []) a (at.closed n) (no-end n (suc a) none) at.once;
  }

  start-asked : (b : ℕ) → is_start b ≡ true → has_byte mask b ≡ true
  start-asked b is = elim (or_cases _ (has_byte mask b && load_ends b) is) [
    | inr ends ↦ (and_parts (has_byte mask b) (load_ends b) ends).0
    | inl first ↦ of mask first
  ]
    where
      of : (rs : List ByteRange) → list_any (λ r. has_byte mask b && (b == r.first)) rs ≡ true → has_byte mask b ≡ true
      of [] is = absurd (cc)
      of (r ∷ rs) is = elim (or_cases (has_byte mask b && (b == r.first)) (list_any (λ r. has_byte mask b && (b == r.first)) rs) is) [
        | inl here ↦ (and_parts (has_byte mask b) (b == r.first) here).0
        | inr rest ↦ of rs rest
      ]

  pub from-parts : (found : Option Missing) → IsAnswer graph is_start found → IsAnswer graph (has_byte mask) found
  from-parts None all = λ n b asked. from-starts (IsOnceAt graph n) (at-next n) (suc b) (λ a less is. all n a is) b (omega arith) asked
  from-parts (Some u) first = record {
    listed = first.listed;
    asked = start-asked u.byte first.asked;
    twice = first.twice;
    bytes = λ a less asked. from-starts (IsOnceAt graph u.state) (at-next u.state) u.byte first.bytes a less asked;
    states = λ m less a asked. from-starts (IsOnceAt graph m) (at-next m) (suc a) (λ x under is. first.states m less x is) a (omega arith) asked;
  }
