-- Who holds what, by what was executed and by what has landed: the invariant, each kind of entry that keeps it, and the laws.
use Rattle.std.proofs.Common.{ℕ, ◌≡◌, Bool, true, false, if◌then◌else◌, Option, Some, None, List, [], ◌∷◌, ◌++◌, refl, sym, ◌∙◌, ap, zero, suc, ◌+◌, ◌-◌, ◌<◌}
use Rattle.std.proofs.Common.{◌≤◌, ◌⊎◌, inl, inr, ◌||◌, subst, arith, length, ◌≢◌, ◌==◌, take, append-nil, append_assoc}
use Rattle.std.specs.Prelude.{All, unwrap_or, nat_le, if◌then◌else◌}
use Rattle.std.proofs.lemmas.List.Elements.{All-nil, All-cons}
use Rattle.std.proofs.lemmas.Bool.{and_parts, and_from, or_left, or_right, or_cases, false_from_ne_true, cases_eq, leb-true, eq-eqb, ne_eqb}
use Rattle.std.specs.Int.{byte_at}
use Rattle.memory.specs.declared.writes.Write.{Write}
use Rattle.memory.specs.Writes.{covers, byte_after, joined, newest_of, write}
use Rattle.memory.proofs.Bytes.{joined-same, covers-yes, covers-from, byte_of_joined}
use Rattle.step_machine.specs.declared.events.Entry.{Entry}
use Rattle.step_machine.specs.Names.{OpeningValue, access_of, hart_of, own_stores, lands, pending, write_of, memory_byte, read_byte, Allowed, own_store}
use Rattle.step_machine.specs.Names.{land_of, store, stored_by, landed_by, written_by, is_landing, land, exchange, read, AllowedBy, Access, nothing, load}
use Rattle.step_machine.specs.Names.{fence, LegalAfter, history_of, opening_byte}
use Rattle.step_machine.proofs.{memory_byte-other, memory_byte-write, LegalAfter-back, LegalAfter-front, balanced-last, balanced}
use Rattle.store_buffers.specs.StoreBuffers.{LeavesByte, LeavesByteBy, IsOnlyWriter, memory_number}
use Rattle.store_buffers.proofs.MessagePassing.{kept}
use Rattle.store_buffers.proofs.Reading.{passed_over, newest-first}
use Rattle.store_buffers.proofs.Effects.{number-after, pending-quiet, number-quiet, pending-more, stored_none, landed_none, pending-first, read-below}
use Rattle.certified_runs.specs.Views.{byte_then, View, view_of, view_then, number_seen}
use Rattle.certified_runs.proofs.Views.{own_view}
use Rattle.tokens.specs.Tokens.{TokenLayout, lays, Holders, laid, taken_by, MayWrite, any_below, covers_place, misses_place, number_laid, lays_in, stored_from}
use Rattle.tokens.specs.Tokens.{last_stored, holders_then, holders_next, May, LoadsHeld, holders, KeepsTokens, OpensTokens, FollowsTokens, lays_down, HandsOn}
use Rattle.tokens.specs.Roles.{laid_first, next_in_memory, in_memory}

-- ---- what writes make of the holders of tokens

pub same-hart : (g h : ℕ) → Some g ≡ Some h → g ≡ h
same-hart g h is = ap (λ (z : Option ℕ). unwrap_or z 0) is

pub none-some : (x : Option ℕ) (h : ℕ) → x ≡ None → x ≡ Some h → ⊥
none-some x h nay yea = let wrong : None ≡ Some h = sym nay ∙ yea in cc

pub two-harts : (x : Option ℕ) (g h : ℕ) → x ≡ Some g → x ≡ Some h → g ≡ h
two-harts x g h one two = same-hart g h (sym one ∙ two)

module _ (q : TokenLayout) where
  pub laid-gone : (w : Write) (c : Holders) (t : ℕ) → lays q w t ≡ true → laid q w c t ≡ None
  laid-gone w c t yea = ap (λ b. if b then None else c t) yea

  pub laid-left : (w : Write) (c : Holders) (t : ℕ) → lays q w t ≡ false → laid q w c t ≡ c t
  laid-left w c t off = ap (λ b. if b then None else c t) off

  pub laid-none : (w : Write) (c : Holders) (t : ℕ) → c t ≡ None → laid q w c t ≡ None
  laid-none w c t none = by (lays q w t)
    where
      by : (b : Bool) → (if b then None else c t) ≡ None
      by true = refl
      by false = none

  pub laid-from : (w : Write) (c : Holders) (t h : ℕ) → laid q w c t ≡ Some h → (lays q w t ≡ false) × (c t ≡ Some h)
  laid-from w c t h is = by (lays q w t) refl is
    where
      by : (b : Bool) → lays q w t ≡ b → (if b then None else c t) ≡ Some h → (lays q w t ≡ false) × (c t ≡ Some h)
      by true yea nay = absurd (none-some None h refl nay)
      by false off here = (off, here)

  pub taken-here : (h : ℕ) (w : Write) (c : Holders) (t : ℕ) → lays q w t ≡ true → taken_by q h w c t ≡ Some h
  taken-here h w c t yea = ap (λ b. if b then Some h else c t) yea

  pub taken-left : (h : ℕ) (w : Write) (c : Holders) (t : ℕ) → lays q w t ≡ false → taken_by q h w c t ≡ c t
  taken-left h w c t off = ap (λ b. if b then Some h else c t) off

  -- what these writes lay down, one after the other
  abbrev pub all_laid : List Write → Holders → Holders
  all_laid [] c = c
  all_laid (w ∷ ws) c = all_laid ws (laid q w c)

  abbrev pub KeepsWrites : (h : ℕ) → Holders → List Write → Type 0
  KeepsWrites h c [] = Unit {0}
  KeepsWrites h c (w ∷ ws) = MayWrite q h c w × KeepsWrites h (laid q w c) ws

  pub all-from : (ws : List Write) (c : Holders) (t h : ℕ) → all_laid ws c t ≡ Some h → c t ≡ Some h
  all-from [] c t h is = is
  all-from (w ∷ ws) c t h is = (laid-from w c t h (all-from ws (laid q w c) t h is)).1

  pub all-same : (ws : List Write) (c d : Holders) (t : ℕ) → c t ≡ d t → all_laid ws c t ≡ all_laid ws d t
  all-same [] c d t is = is
  all-same (w ∷ ws) c d t is = all-same ws (laid q w c) (laid q w d) t (ap (λ (z : Option ℕ). if lays q w t then None else z) is)

  pub all-append : (ws : List Write) (w : Write) (c : Holders) (t : ℕ) → all_laid (ws ++ w ∷ []) c t ≡ laid q w (all_laid ws c) t
  all-append [] w c t = refl
  all-append (v ∷ ws) w c t = all-append ws w (laid q v c) t

  -- who holds more may write more
  pub more : (h : ℕ) (c d : Holders) (w : Write) → ((t : ℕ) → c t ≡ Some h → d t ≡ Some h) → MayWrite q h c w → MayWrite q h d w
  more h c d w on may = record {
    whole = may.whole;
    held = λ t yea. on t (may.held t yea);
    once = may.once;
    guarded = λ t x over guards. on t (may.guarded t x over guards);
  }

  pub keeps-more : (h : ℕ) (c d : Holders) (ws : List Write) → ((t : ℕ) → c t ≡ Some h → d t ≡ Some h) → KeepsWrites h c ws → KeepsWrites h d ws
  keeps-more h c d [] on k = tt
  keeps-more h c d (w ∷ ws) on k = (
    more h c d w on k.0,
    keeps-more h (laid q w c) (laid q w d) ws (λ t is. (let l = laid-from w c t h is in laid-left w d t l.0 ∙ on t l.1)) k.1,
  )

  pub writes-last : (h : ℕ) (c : Holders) (ws : List Write) (w : Write) → KeepsWrites h c ws → MayWrite q h (all_laid ws c) w
      → KeepsWrites h c (ws ++ w ∷ [])
  writes-last h c [] w k may = (may, tt)
  writes-last h c (v ∷ ws) w k may = (k.0, writes-last h (laid q v c) ws w k.1 may)

  -- who doesn't hold what guards a byte has no store over it
  pub off-guarded : (h : ℕ) (c : Holders) (ws : List Write) (t x : ℕ) → KeepsWrites h c ws → q.guards t x ≡ true → (c t ≡ Some h → ⊥)
      → All (LeavesByte x) ws
  off-guarded h c [] t x k guards none = All-nil (LeavesByte x)
  off-guarded h c (w ∷ ws) t x k guards none = All-cons (LeavesByte x) w ws (false_from_ne_true (covers w x) (λ is. none (k.0.guarded t x is guards)))
      (off-guarded h (laid q w c) ws t x k.1 guards (λ is. none (laid-from w c t h is).1))

-- ---- which tokens a write lays down, and what it leaves in memory

pub any-yes : (n : ℕ) (f : ℕ → Bool) (i : ℕ) → i < n → f i ≡ true → any_below n f ≡ true
any-yes zero f i lt yea = absurd (omega (arith, lt))
any-yes (suc n) f i lt yea = at (cases_eq i n) (λ far. any-yes n f i (omega (arith, lt, far)) yea)
  where
    at : (i ≡ n) ⊎ ((i ≡ n) → ⊥) → (((i ≡ n) → ⊥) → any_below n f ≡ true) → (f n || any_below n f) ≡ true
    at (inl same) more = or_left (f n) (any_below n f) (subst (λ j. f j ≡ true) same yea)
    at (inr far) more = or_right (f n) (any_below n f) (more far)

pub any-from : (n : ℕ) (f : ℕ → Bool) → any_below n f ≡ true → (i : ℕ) × (i < n) × (f i ≡ true)
any-from zero f nay = absurd (let wrong : false ≡ true = nay in cc)
any-from (suc n) f some = by (f n) refl some (any-from n f)
  where
    by : (b : Bool) → f n ≡ b → (b || any_below n f) ≡ true → (any_below n f ≡ true → (i : ℕ) × (i < n) × (f i ≡ true))
        → (i : ℕ) × (i < suc n) × (f i ≡ true)
    by true is yea more = (n, omega arith, is)
    by false is yea more = let found = more yea in (found.0, omega (arith, found.1), found.2)

-- a byte that a write doesn't cover
pub uncovered : (v : Write) (x b : ℕ) → (covers v x ≡ true → ⊥) → byte_after v x b ≡ b
uncovered v x b never = ap (λ z. if z then byte_at (x - v.addr) v.value else b) (false_from_ne_true (covers v x) never)

module _ (q : TokenLayout) (w : Write) (i : ℕ) where
  pub number-covered : (f : ℕ → ℕ) → covers_place q w i ≡ true → joined (λ j. byte_after w (q.at i + j) (f j)) (q.width i) ≡ number_laid q w i
  number-covered f on =
      let parts = and_parts (nat_le w.addr (q.at i)) (nat_le (q.at i + q.width i) (w.addr + w.width)) on in
      let low : w.addr ≤ q.at i = leb-true w.addr (q.at i) parts.0 in
      let high : q.at i + q.width i ≤ w.addr + w.width = leb-true (q.at i + q.width i) (w.addr + w.width) parts.1 in
      joined-same (λ j. byte_after w (q.at i + j) (f j)) (λ j. byte_at (q.at i + j - w.addr) w.value) (q.width i)
      (λ j lt. ap (λ b. if b then byte_at (q.at i + j - w.addr) w.value else f j)
      (covers-yes w (q.at i + j) (omega (arith, low)) (omega (arith, high, lt))))

  pub number-missed : (f : ℕ → ℕ) → misses_place q w i ≡ true → joined (λ j. byte_after w (q.at i + j) (f j)) (q.width i) ≡ joined f (q.width i)
  number-missed f off = joined-same (λ j. byte_after w (q.at i + j) (f j)) f (q.width i) (λ j lt. uncovered w (q.at i + j) (f j)
      (λ is. (let on = covers-from w (q.at i + j) is in elim (or_cases (nat_le (q.at i + q.width i) w.addr) (nat_le (w.addr + w.width) (q.at i)) off) [
        | inl below ↦ let le = leb-true (q.at i + q.width i) w.addr below in omega (arith, le, on.0, lt)
        | inr above ↦ let le = leb-true (w.addr + w.width) (q.at i) above in omega (arith, le, on.1)
      ])))

  pub in-place : (t : ℕ) → covers_place q w i ≡ true → q.lies i (number_laid q w i) t ≡ true → lays_in q w t i ≡ true
  in-place t on yea = and_from (covers_place q w i) (q.lies i (number_laid q w i) t) on yea

  pub in-some : (t : ℕ) → i < q.places → lays_in q w t i ≡ true → lays q w t ≡ true
  in-some t lt yea = any-yes q.places (lays_in q w t) i lt yea

-- ---- what holds of a run that keeps tokens: of whom a token is in memory, where what is pending hasn't landed yet

abbrev pub LiesAt : TokenLayout → OpeningValue → List Entry → (i t : ℕ) → Type 0
LiesAt q o es i t = q.lies i (memory_number o es (q.at i) (q.width i)) t ≡ true

-- c says who holds a token, and m whose it is before that one's pending stores have landed: each hart may write its pending stores, by m;
-- these make c of m; in memory lies only what is nobody's, in one place; and guarded bytes are what was stored there last, as the hart reads
-- them whose the token is, and where it is nobody's in memory
pub record Held (q : TokenLayout) (o : OpeningValue) (es : List Entry) (c m : Holders) : Type 0 where
  pub tidy : (g : ℕ) → KeepsWrites q g m (pending g es)
  pub to : (g t : ℕ) → c t ≡ Some g → all_laid q (pending g es) m t ≡ Some g
  pub from : (g t : ℕ) → all_laid q (pending g es) m t ≡ Some g → c t ≡ Some g
  pub free : (i t : ℕ) → i < q.places → LiesAt q o es i t → m t ≡ None
  pub once : (i j t : ℕ) → i < q.places → j < q.places → LiesAt q o es i t → LiesAt q o es j t → i ≡ j
  pub sees : (g t x : ℕ) → m t ≡ Some g → q.guards t x ≡ true → read_byte o es g x ≡ last_stored o es x
  pub rests : (t x : ℕ) → m t ≡ None → q.guards t x ≡ true → memory_byte o es x ≡ last_stored o es x

byte_from-last : (b x : ℕ) (es : List Entry) (e : Entry) → stored_from b x (es ++ e ∷ []) ≡ byte_then (access_of e) x (stored_from b x es)
byte_from-last b x [] e = refl
byte_from-last b x (d ∷ es) e = byte_from-last (byte_then (access_of d) x b) x es e

pub stored-last : (o : OpeningValue) (es : List Entry) (e : Entry) (x : ℕ)
    → last_stored o (es ++ e ∷ []) x ≡ byte_then (access_of e) x (last_stored o es x)
stored-last o es e x = byte_from-last (Rattle.step_machine.specs.Names.opening_byte o x) x es e

-- a hart with no pending store over a byte reads memory
pub reads-memory : (o : OpeningValue) (es : List Entry) (h x : ℕ) → All (LeavesByte x) (pending h es) → read_byte o es h x ≡ memory_byte o es x
reads-memory o es h x off = ap (λ f. unwrap_or f (memory_byte o es x)) (passed_over x None (pending h es) off)

module _ (q : TokenLayout) (o : OpeningValue) (es : List Entry) (c m : Holders) (w : Held q o es c m) where
  pub past_guarded : (h t x : ℕ) → q.guards t x ≡ true → (m t ≡ Some h → ⊥) → All (LeavesByte x) (pending h es)
  past_guarded h t x guards none = off-guarded q h m (pending h es) t x (w.tidy h) guards none

  -- in memory a token is its holder's
  pub owned : (h t : ℕ) → c t ≡ Some h → m t ≡ Some h
  owned h t is = all-from q (pending h es) m t h (w.to h t is)

  pub alone : (g t x : ℕ) → m t ≡ Some g → q.guards t x ≡ true → IsOnlyWriter g x es
  alone g t x mine guards h other = past_guarded h t x guards (λ theirs. other (two-harts (m t) h g theirs mine))

  -- whose the token is reads the same after what leaves the byte
  pub left : (B : ℕ) (e : Entry) (g t x : ℕ) → ((f : ℕ) → lands f es ≤ length (own_stores f es)) → Allowed B o es e → m t ≡ Some g
      → q.guards t x ≡ true → LeavesByteBy x (access_of e) → read_byte o (es ++ e ∷ []) g x ≡ read_byte o es g x
  left B e g t x le allowed mine guards leaves = (kept B o g x es (e ∷ []) le (allowed, tt) (alone g t x mine guards) (leaves, tt)).0

-- what is pending after a store, after a landing, and after another hart's entry
module _ (es : List Entry) (e : Entry) (le : (g : ℕ) → lands g es ≤ length (own_stores g es)) (h : ℕ) (here : hart_of e ≡ h) where
  pub after-store : (v : Write) → access_of e ≡ store v → pending h (es ++ e ∷ []) ≡ pending h es ++ v ∷ []
  after-store v does = grind (arith, pending-more, eq-eqb)

  pub after-land : (v : Write) (rest : List Write) → access_of e ≡ land → pending h es ≡ v ∷ rest → pending h (es ++ e ∷ []) ≡ rest
  after-land v rest does oldest = grind (arith, pending-first, eq-eqb)

  pub after-other : (g : ℕ) → h ≢ g → pending g (es ++ e ∷ []) ≡ pending g es
  after-other g other =
      let off : (hart_of e == g) ≡ false = ne_eqb (hart_of e) g (λ same. other (sym here ∙ same)) in
      pending-quiet es e g (le g) (ap (λ b. stored_by b (access_of e)) off ∙ stored_none (access_of e))
      (ap (λ b. landed_by b (access_of e)) off ∙ landed_none (access_of e))

-- What lies in a place after a write w to memory by a hart that holds what d says: what w laid there, or what lay there before, in a place that w
-- misses. So nobody holds it then, and it lies in one place, if nobody held by d what lies in such a place
module _ (q : TokenLayout) (o : OpeningValue) (es : List Entry) (e : Entry) (w : Write) (wrote : write_of es e ≡ w ∷ []) (h : ℕ) (d : Holders)
    (may : MayWrite q h d w) where
  abbrev LiesNow : (i t : ℕ) → Type 0
  LiesNow i t = (lays_in q w t i ≡ true) ⊎ ((LiesAt q o es i t) × (covers_place q w i ≡ false))

  split : (i t : ℕ) → i < q.places → LiesAt q o (es ++ e ∷ []) i t → LiesNow i t
  split i t lt yea = by (covers_place q w i) refl
    where
      after : memory_number o (es ++ e ∷ []) (q.at i) (q.width i)
          ≡ joined (λ j. byte_after w (q.at i + j) (memory_byte o es (q.at i + j))) (q.width i)
      after = number-after o es e (q.at i) (q.width i) w wrote

      by : (b : Bool) → covers_place q w i ≡ b → LiesNow i t
      by true on = inl (in-place q w i t on (subst (λ n. q.lies i n t ≡ true)
          (after ∙ number-covered q w i (λ j. memory_byte o es (q.at i + j)) on) yea))
      by false off = elim (may.whole i lt) [
        | inl on ↦ absurd (let wrong : false ≡ true = sym off ∙ on in cc)
        | inr misses ↦ inr (subst (λ n. q.lies i n t ≡ true) (after ∙ number-missed q w i (λ j. memory_byte o es (q.at i + j)) misses) yea, off)
      ]

  module _ (elsewhere : (i t : ℕ) → i < q.places → LiesAt q o es i t → covers_place q w i ≡ false → d t ≡ None)
      (once : (i j t : ℕ) → i < q.places → j < q.places → LiesAt q o es i t → LiesAt q o es j t → i ≡ j) where
    pub free_after : (i t : ℕ) → i < q.places → LiesAt q o (es ++ e ∷ []) i t → laid q w d t ≡ None
    free_after i t lt yea = elim (split i t lt yea) [
      | inl fresh ↦ laid-gone q w d t (in-some q w i t lt fresh)
      | inr there ↦ laid-none q w d t (elsewhere i t lt there.0 there.1)
    ]

    twice : (i j t : ℕ) → i < q.places → j < q.places → lays_in q w t i ≡ true → LiesAt q o es j t → covers_place q w j ≡ false → ⊥
    twice i j t li lj fresh there off = none-some (d t) h (elsewhere j t lj there off) (may.held t (in-some q w i t li fresh))

    pub once_after : (i j t : ℕ) → i < q.places → j < q.places → LiesAt q o (es ++ e ∷ []) i t → LiesAt q o (es ++ e ∷ []) j t → i ≡ j
    once_after i j t li lj yi yj = by (split i t li yi) (split j t lj yj)
      where
        by : LiesNow i t → LiesNow j t → i ≡ j
        by (inl fresh) (inl fresh2) = may.once i j t li lj fresh fresh2
        by (inl fresh) (inr there) = absurd (twice i j t li lj fresh there.0 there.1)
        by (inr there) (inl fresh) = absurd (twice j i t lj li fresh there.0 there.1)
        by (inr there) (inr there2) = once i j t li lj there.0 there2.0

-- ---- a token that lies in a place, as a hart sees it: in memory or in its own pending store. In both nobody holds it, and the hart reads what was
-- stored last in its bytes

module _ (q : TokenLayout) where
  none-stays : (ws : List Write) (c : Holders) (t : ℕ) → c t ≡ None → all_laid q ws c t ≡ None
  none-stays [] c t none = none
  none-stays (w ∷ ws) c t none = none-stays ws (laid q w c) t (laid-none q w c t none)

  -- what lies in a place after these writes lay there before, or is laid down by one of them
  shown : (h : ℕ) (ws : List Write) (c : Holders) (i t : ℕ) (f : ℕ → ℕ) → i < q.places → KeepsWrites q h c ws
      → q.lies i (joined (λ j. unwrap_or (newest_of (q.at i + j) None ws) (f (q.at i + j))) (q.width i)) t ≡ true
      → (q.lies i (joined (λ j. f (q.at i + j)) (q.width i)) t ≡ true) ⊎ ((all_laid q ws c t ≡ None) × (c t ≡ Some h))
  shown h [] c i t f lt k lies = inl lies
  shown h (w ∷ ws) c i t f lt k lies = by (shown h ws (laid q w c) i t (λ x. byte_after w x (f x)) lt k.1 (subst (λ n. q.lies i n t ≡ true)
      (joined-same (λ j. unwrap_or (newest_of (q.at i + j) None (w ∷ ws)) (f (q.at i + j)))
      (λ j. unwrap_or (newest_of (q.at i + j) None ws) (byte_after w (q.at i + j) (f (q.at i + j)))) (q.width i)
      (λ j less. newest-first (q.at i + j) (f (q.at i + j)) w ws)) lies))
    where
      Found : Type 0
      Found = (q.lies i (joined (λ j. f (q.at i + j)) (q.width i)) t ≡ true) ⊎ ((all_laid q (w ∷ ws) c t ≡ None) × (c t ≡ Some h))

      at_place : (q.lies i (joined (λ j. byte_after w (q.at i + j) (f (q.at i + j))) (q.width i)) t ≡ true)
          → (covers_place q w i ≡ true) ⊎ (misses_place q w i ≡ true) → Found
      at_place there (inl on) =
          let down : lays q w t ≡ true = in-some q w i t lt (in-place q w i t on (subst (λ n. q.lies i n t ≡ true)
          (number-covered q w i (λ j. f (q.at i + j)) on) there)) in
          inr (none-stays ws (laid q w c) t (laid-gone q w c t down), k.0.held t down)
      at_place there (inr off) = inl (subst (λ n. q.lies i n t ≡ true) (number-missed q w i (λ j. f (q.at i + j)) off) there)

      by : (q.lies i (joined (λ j. byte_after w (q.at i + j) (f (q.at i + j))) (q.width i)) t ≡ true)
          ⊎ ((all_laid q ws (laid q w c) t ≡ None) × (laid q w c t ≡ Some h)) → Found
      by (inl there) = at_place there (k.0.whole i lt)
      by (inr down) = inr (down.0, (laid-from q w c t h down.1).1)

  module _ (o : OpeningValue) (es : List Entry) (c m : Holders) (w : Held q o es c m) (h a t : ℕ)
      (lies : lays q (write a 4 (number_seen (view_of o es h) a 4)) t ≡ true) where
    abbrev word : Write
    word = write a 4 (number_seen (view_of o es h) a 4)

    -- by a store of its own it is nobody's that was its hart's
    abbrev Pends : Type 0
    Pends = (all_laid q (pending h es) m t ≡ None) × (m t ≡ Some h)

    seen_number : (i : ℕ) → covers_place q word i ≡ true → number_laid q word i ≡ joined (λ j. read_byte o es h (q.at i + j)) (q.width i)
    seen_number i on =
        let parts = and_parts (nat_le a (q.at i)) (nat_le (q.at i + q.width i) (a + 4)) on in
        let low : a ≤ q.at i = leb-true a (q.at i) parts.0 in
        let high : q.at i + q.width i ≤ a + 4 = leb-true (q.at i + q.width i) (a + 4) parts.1 in
        joined-same (λ j. byte_at (q.at i + j - a) (number_seen (view_of o es h) a 4)) (λ j. read_byte o es h (q.at i + j)) (q.width i)
        (λ j lt. (let place : a + (q.at i + j - a) ≡ q.at i + j = omega (arith, low) in
        byte_of_joined (λ k. read_byte o es h (a + k)) (λ k. read-below o es h (a + k)) (q.at i + j - a) (omega (arith, low, high, lt))
        ∙ ap (read_byte o es h) place))

    pub seen_place : (i : ℕ) × (i < q.places) × (covers_place q word i ≡ true) × ((LiesAt q o es i t) ⊎ Pends)
    seen_place =
        let some = any-from q.places (lays_in q word t) lies in
        let parts = and_parts (covers_place q word some.0) (q.lies some.0 (number_laid q word some.0) t) some.2 in (
          some.0,
          some.1,
          parts.0,
          shown h (pending h es) m some.0 t (memory_byte o es) some.1 (w.tidy h)
              (subst (λ n. q.lies some.0 n t ≡ true) (seen_number some.0 parts.0) parts.1),
        )

    whose : (m t ≡ None) ⊎ Pends
    whose = elim seen_place.3 [ inl there ↦ inl (w.free seen_place.0 t seen_place.1 there) | inr down ↦ inr down ]

    pub nobodys : c t ≡ None
    nobodys = by (c t) refl whose
      where
        by : (x : Option ℕ) → c t ≡ x → (m t ≡ None) ⊎ Pends → c t ≡ None
        by None is s = is
        by (Some g) is (inl none) = absurd (none-some (m t) g none (owned q o es c m w g t is))
        by (Some g) is (inr down) = absurd (none-some (all_laid q (pending h es) m t) h down.0
            (w.to h t (is ∙ ap Some (two-harts (m t) g h (owned q o es c m w g t is) down.1))))

    pub reads_seen : (x : ℕ) → q.guards t x ≡ true → view_of o es h x ≡ last_stored o es x
    reads_seen x guards = elim whose [
      | inl none ↦ reads-memory o es h x (past_guarded q o es c m w h t x guards (none-some (m t) h none)) ∙ w.rests t x none guards
      | inr down ↦ w.sees h t x down.1 guards
    ]

-- ---- an entry that neither stores nor lands leaves all as it is

pub record IsStill (y : Access) : Type 0 where
  pub stored : (b : Bool) → stored_by b y ≡ []
  pub landed : (b : Bool) → landed_by b y ≡ 0
  pub wrote : (ws : List Write) → written_by ws y ≡ []
  pub same : (x b : ℕ) → byte_then y x b ≡ b

pub nothing_still : IsStill nothing
nothing_still = record { stored = λ b. refl; landed = λ b. refl; wrote = λ ws. refl; same = λ x b. refl }

pub load_still : (a width v : ℕ) → IsStill (load a width v)
load_still a width v = record { stored = λ b. refl; landed = λ b. refl; wrote = λ ws. refl; same = λ x b. refl }

pub fence_still : (full : Bool) → IsStill (fence full)
fence_still full = record { stored = λ b. refl; landed = λ b. refl; wrote = λ ws. refl; same = λ x b. refl }

pub after-still : (es : List Entry) (e : Entry) → ((g : ℕ) → lands g es ≤ length (own_stores g es)) → IsStill (access_of e) → (g : ℕ)
    → pending g (es ++ e ∷ []) ≡ pending g es
after-still es e le k g = pending-quiet es e g (le g) (k.stored (hart_of e == g)) (k.landed (hart_of e == g))

module _ (q : TokenLayout) (o : OpeningValue) (es : List Entry) (e : Entry) (c m : Holders) (w : Held q o es c m)
    (le : (g : ℕ) → lands g es ≤ length (own_stores g es)) (k : IsStill (access_of e)) where
  quiet_pending : (g : ℕ) → pending g (es ++ e ∷ []) ≡ pending g es
  quiet_pending g = after-still es e le k g

  wrote : write_of es e ≡ []
  wrote = k.wrote (take 1 (pending (hart_of e) es))

  quiet_number : (a width : ℕ) → memory_number o (es ++ e ∷ []) a width ≡ memory_number o es a width
  quiet_number a width = number-quiet o es e a width wrote

  quiet_memory : (x : ℕ) → memory_byte o (es ++ e ∷ []) x ≡ memory_byte o es x
  quiet_memory x = memory_byte-other o es e x wrote

  quiet_stored : (x : ℕ) → last_stored o es x ≡ last_stored o (es ++ e ∷ []) x
  quiet_stored x = sym (stored-last o es e x ∙ k.same x (last_stored o es x))

  pub quiet : Held q o (es ++ e ∷ []) c m
  quiet = record {
    tidy = λ g. subst (KeepsWrites q g m) (sym (quiet_pending g)) (w.tidy g);
    to = λ g t is. ap (λ ws. all_laid q ws m t) (quiet_pending g) ∙ w.to g t is;
    from = λ g t is. w.from g t (sym (ap (λ ws. all_laid q ws m t) (quiet_pending g)) ∙ is);
    free = λ i t lt yea. w.free i t lt (subst (λ n. q.lies i n t ≡ true) (quiet_number (q.at i) (q.width i)) yea);
    once = λ i j t li lj yi yj. w.once i j t li lj (subst (λ n. q.lies i n t ≡ true) (quiet_number (q.at i) (q.width i)) yi)
        (subst (λ n. q.lies j n t ≡ true) (quiet_number (q.at j) (q.width j)) yj);
    sees = λ g t x is guards. ap (λ ws. unwrap_or (newest_of x None ws) (memory_byte o (es ++ e ∷ []) x)) (quiet_pending g)
        ∙ ap (unwrap_or (newest_of x None (pending g es))) (quiet_memory x) ∙ w.sees g t x is guards ∙ quiet_stored x;
    rests = λ t x is guards. quiet_memory x ∙ w.rests t x is guards ∙ quiet_stored x;
  }

-- ---- a store, into its hart's buffer

module _ (B : ℕ) (q : TokenLayout) (o : OpeningValue) (es : List Entry) (e : Entry) (c m : Holders) (w : Held q o es c m)
    (le : (g : ℕ) → lands g es ≤ length (own_stores g es)) (allowed : Allowed B o es e) (v : Write) (does : access_of e ≡ store v)
    (may : MayWrite q (hart_of e) c v) where
  mine_stored : pending (hart_of e) (es ++ e ∷ []) ≡ pending (hart_of e) es ++ v ∷ []
  mine_stored = after-store es e le (hart_of e) refl v does

  theirs_stored : (g : ℕ) → hart_of e ≢ g → pending g (es ++ e ∷ []) ≡ pending g es
  theirs_stored g other = after-other es e le (hart_of e) refl g other

  wrote_stored : write_of es e ≡ []
  wrote_stored = ap (written_by (take 1 (pending (hart_of e) es))) does

  numbered : (i t : ℕ) → LiesAt q o (es ++ e ∷ []) i t → LiesAt q o es i t
  numbered i t yea = subst (λ n. q.lies i n t ≡ true) (number-quiet o es e (q.at i) (q.width i) wrote_stored) yea

  not_laid_stored : (g t : ℕ) → hart_of e ≢ g → c t ≡ Some g → lays q v t ≡ false
  not_laid_stored g t other is = false_from_ne_true (lays q v t) (λ yea. other (two-harts (c t) (hart_of e) g (may.held t yea) is))

  tidy_stored : (g : ℕ) → (hart_of e ≡ g) ⊎ (hart_of e ≢ g) → KeepsWrites q g m (pending g (es ++ e ∷ []))
  tidy_stored g (inl here) = subst (λ k. KeepsWrites q k m (pending k (es ++ e ∷ []))) here (subst (KeepsWrites q (hart_of e) m) (sym mine_stored)
      (writes-last q (hart_of e) m (pending (hart_of e) es) v (w.tidy (hart_of e))
      (more q (hart_of e) c (all_laid q (pending (hart_of e) es) m) v (λ t. w.to (hart_of e) t) may)))
  tidy_stored g (inr other) = subst (KeepsWrites q g m) (sym (theirs_stored g other)) (w.tidy g)

  all_mine_stored : (t : ℕ) → all_laid q (pending (hart_of e) (es ++ e ∷ [])) m t ≡ laid q v (all_laid q (pending (hart_of e) es) m) t
  all_mine_stored t = ap (λ ws. all_laid q ws m t) mine_stored ∙ all-append q (pending (hart_of e) es) v m t

  to_stored : (g t : ℕ) → (hart_of e ≡ g) ⊎ (hart_of e ≢ g) → laid q v c t ≡ Some g → all_laid q (pending g (es ++ e ∷ [])) m t ≡ Some g
  to_stored g t (inl here) is =
      let l = laid-from q v c t g is in
      subst (λ k. all_laid q (pending k (es ++ e ∷ [])) m t ≡ Some k) here
      (all_mine_stored t ∙ laid-left q v (all_laid q (pending (hart_of e) es) m) t l.0 ∙ w.to (hart_of e) t (l.1 ∙ ap Some (sym here)))
  to_stored g t (inr other) is = ap (λ ws. all_laid q ws m t) (theirs_stored g other) ∙ w.to g t (laid-from q v c t g is).1

  from_stored : (g t : ℕ) → (hart_of e ≡ g) ⊎ (hart_of e ≢ g) → all_laid q (pending g (es ++ e ∷ [])) m t ≡ Some g → laid q v c t ≡ Some g
  from_stored g t (inl here) is =
      let there : all_laid q (pending (hart_of e) (es ++ e ∷ [])) m t ≡ Some (hart_of e) =
      subst (λ k. all_laid q (pending k (es ++ e ∷ [])) m t ≡ Some k) (sym here) is in
      let l = laid-from q v (all_laid q (pending (hart_of e) es) m) t (hart_of e) (sym (all_mine_stored t) ∙ there) in
      laid-left q v c t l.0 ∙ w.from (hart_of e) t l.1 ∙ ap Some here
  from_stored g t (inr other) is =
      let there : c t ≡ Some g = w.from g t (sym (ap (λ ws. all_laid q ws m t) (theirs_stored g other)) ∙ is) in
      laid-left q v c t (not_laid_stored g t other there) ∙ there

  last_now_stored : (x : ℕ) → last_stored o (es ++ e ∷ []) x ≡ byte_then (store v) x (last_stored o es x)
  last_now_stored x = stored-last o es e x ∙ ap (λ y. byte_then y x (last_stored o es x)) does

  sees_stored : (g t x : ℕ) → m t ≡ Some g → q.guards t x ≡ true → (b : Bool) → covers v x ≡ b → read_byte o (es ++ e ∷ []) g x ≡ last_stored o (es ++ e ∷ []) x
  sees_stored g t x is guards true on =
      let here : hart_of e ≡ g = two-harts (m t) (hart_of e) g (owned q o es c m w (hart_of e) t (may.guarded t x on guards)) is in
      own_view B o g x es e (le g) allowed here (ap is_landing does) ∙ ap (λ y. byte_then y x (read_byte o es g x)) does
      ∙ ap (byte_then (store v) x) (w.sees g t x is guards) ∙ sym (last_now_stored x)
  sees_stored g t x is guards false off =
      left q o es c m w B e g t x le allowed is guards (subst (LeavesByteBy x) (sym does) off)
      ∙ w.sees g t x is guards ∙ sym (uncovered v x (last_stored o es x) (λ on. (let wrong : false ≡ true = sym off ∙ on in cc))) ∙ sym (last_now_stored x)

  rests_stored : (t x : ℕ) → m t ≡ None → q.guards t x ≡ true → memory_byte o (es ++ e ∷ []) x ≡ last_stored o (es ++ e ∷ []) x
  rests_stored t x is guards = memory_byte-other o es e x wrote_stored ∙ w.rests t x is guards
      ∙ sym (uncovered v x (last_stored o es x) (λ on. none-some (m t) (hart_of e) is (owned q o es c m w (hart_of e) t (may.guarded t x on guards))))
      ∙ sym (last_now_stored x)

  pub stores : Held q o (es ++ e ∷ []) (laid q v c) m
  stores = record {
    tidy = λ g. tidy_stored g (cases_eq (hart_of e) g);
    to = λ g t is. to_stored g t (cases_eq (hart_of e) g) is;
    from = λ g t is. from_stored g t (cases_eq (hart_of e) g) is;
    free = λ i t lt yea. w.free i t lt (numbered i t yea);
    once = λ i j t li lj yi yj. w.once i j t li lj (numbered i t yi) (numbered j t yj);
    sees = λ g t x is guards. sees_stored g t x is guards (covers v x) refl;
    rests = rests_stored;
  }

-- ---- a landing: a hart's oldest pending store reaches memory

module _ (B : ℕ) (q : TokenLayout) (o : OpeningValue) (es : List Entry) (e : Entry) (c m : Holders) (w : Held q o es c m)
    (le : (g : ℕ) → lands g es ≤ length (own_stores g es)) (allowed : Allowed B o es e) (does : access_of e ≡ land) (v : Write) (rest : List Write)
    (oldest : pending (hart_of e) es ≡ v ∷ rest) where
  mine_landed : pending (hart_of e) (es ++ e ∷ []) ≡ rest
  mine_landed = after-land es e le (hart_of e) refl v rest does oldest

  theirs_landed : (g : ℕ) → hart_of e ≢ g → pending g (es ++ e ∷ []) ≡ pending g es
  theirs_landed g other = after-other es e le (hart_of e) refl g other

  wrote_landed : write_of es e ≡ v ∷ []
  wrote_landed = ap (written_by (take 1 (pending (hart_of e) es))) does ∙ ap (take 1) oldest

  keeps_landed : KeepsWrites q (hart_of e) m (v ∷ rest)
  keeps_landed = subst (KeepsWrites q (hart_of e) m) oldest (w.tidy (hart_of e))

  may_landed : MayWrite q (hart_of e) m v
  may_landed = keeps_landed.0

  -- what others have is left
  not_laid_landed : (g t : ℕ) → hart_of e ≢ g → m t ≡ Some g → lays q v t ≡ false
  not_laid_landed g t other is = false_from_ne_true (lays q v t) (λ yea. other (two-harts (m t) (hart_of e) g (may_landed.held t yea) is))

  tidy_landed : (g : ℕ) → (hart_of e ≡ g) ⊎ (hart_of e ≢ g) → KeepsWrites q g (laid q v m) (pending g (es ++ e ∷ []))
  tidy_landed g (inl here) = subst (λ k. KeepsWrites q k (laid q v m) (pending k (es ++ e ∷ []))) here
      (subst (KeepsWrites q (hart_of e) (laid q v m)) (sym mine_landed) keeps_landed.1)
  tidy_landed g (inr other) = subst (KeepsWrites q g (laid q v m)) (sym (theirs_landed g other))
      (keeps-more q g m (laid q v m) (pending g es) (λ t is. laid-left q v m t (not_laid_landed g t other is) ∙ is) (w.tidy g))

  all_mine_landed : (t : ℕ) → all_laid q (pending (hart_of e) (es ++ e ∷ [])) (laid q v m) t ≡ all_laid q (pending (hart_of e) es) m t
  all_mine_landed t = ap (λ ws. all_laid q ws (laid q v m) t) mine_landed ∙ sym (ap (λ ws. all_laid q ws m t) oldest)

  all_theirs_landed : (g t : ℕ) → hart_of e ≢ g → lays q v t ≡ false → all_laid q (pending g (es ++ e ∷ [])) (laid q v m) t ≡ all_laid q (pending g es) m t
  all_theirs_landed g t other off = grind (arith, theirs_landed, all-same, laid-left)

  to_landed : (g t : ℕ) → (hart_of e ≡ g) ⊎ (hart_of e ≢ g) → c t ≡ Some g → all_laid q (pending g (es ++ e ∷ [])) (laid q v m) t ≡ Some g
  to_landed g t (inl here) is = subst (λ k. all_laid q (pending k (es ++ e ∷ [])) (laid q v m) t ≡ Some k) here
      (all_mine_landed t ∙ w.to (hart_of e) t (is ∙ ap Some (sym here)))
  to_landed g t (inr other) is =
      let there = w.to g t is in
      all_theirs_landed g t other (not_laid_landed g t other (all-from q (pending g es) m t g there)) ∙ there

  from_landed : (g t : ℕ) → (hart_of e ≡ g) ⊎ (hart_of e ≢ g) → all_laid q (pending g (es ++ e ∷ [])) (laid q v m) t ≡ Some g → c t ≡ Some g
  from_landed g t (inl here) is =
      let there : all_laid q (pending (hart_of e) (es ++ e ∷ [])) (laid q v m) t ≡ Some (hart_of e) =
      subst (λ k. all_laid q (pending k (es ++ e ∷ [])) (laid q v m) t ≡ Some k) (sym here) is in
      w.from (hart_of e) t (sym (all_mine_landed t) ∙ there) ∙ ap Some here
  from_landed g t (inr other) is =
      let l = laid-from q v m t g (all-from q (pending g (es ++ e ∷ [])) (laid q v m) t g is) in
      w.from g t (sym (all_theirs_landed g t other l.0) ∙ is)

  last_now_landed : (x : ℕ) → last_stored o es x ≡ last_stored o (es ++ e ∷ []) x
  last_now_landed x = sym (stored-last o es e x ∙ ap (λ y. byte_then y x (last_stored o es x)) does)

  same_view_landed : (g t x : ℕ) → m t ≡ Some g → q.guards t x ≡ true → read_byte o (es ++ e ∷ []) g x ≡ read_byte o es g x
  same_view_landed g t x is guards = left q o es c m w B e g t x le allowed is guards (subst (LeavesByteBy x) (sym does) tt)

  sees_landed : (g t x : ℕ) → laid q v m t ≡ Some g → q.guards t x ≡ true → read_byte o (es ++ e ∷ []) g x ≡ last_stored o (es ++ e ∷ []) x
  sees_landed g t x is guards =
      let l = laid-from q v m t g is in
      same_view_landed g t x l.1 guards ∙ w.sees g t x l.1 guards ∙ last_now_landed x

  -- the last holder's store that laid the token down has landed, and with it all that it stored before: memory is what it reads
  rests_landed : (t x : ℕ) → laid q v m t ≡ None → q.guards t x ≡ true → (b : Bool) → lays q v t ≡ b
      → memory_byte o (es ++ e ∷ []) x ≡ last_stored o (es ++ e ∷ []) x
  rests_landed t x is guards true yea =
      let held : m t ≡ Some (hart_of e) = may_landed.held t yea in
      sym (reads-memory o (es ++ e ∷ []) (hart_of e) x
      (off-guarded q (hart_of e) (laid q v m) (pending (hart_of e) (es ++ e ∷ [])) t x (tidy_landed (hart_of e) (inl refl)) guards
      (λ holds. none-some (laid q v m t) (hart_of e) is holds)))
      ∙ same_view_landed (hart_of e) t x held guards ∙ w.sees (hart_of e) t x held guards ∙ last_now_landed x
  rests_landed t x is guards false nay =
      let none : m t ≡ None = sym (laid-left q v m t nay) ∙ is in
      memory_byte-write o es e v x wrote_landed
      ∙ uncovered v x (memory_byte o es x) (λ on. none-some (m t) (hart_of e) none (may_landed.guarded t x on guards))
      ∙ w.rests t x none guards ∙ last_now_landed x

  pub lands_on : Held q o (es ++ e ∷ []) c (laid q v m)
  lands_on = record {
    tidy = λ g. tidy_landed g (cases_eq (hart_of e) g);
    to = λ g t is. to_landed g t (cases_eq (hart_of e) g) is;
    from = λ g t is. from_landed g t (cases_eq (hart_of e) g) is;
    free = free_after q o es e v wrote_landed (hart_of e) m may_landed (λ i t lt lies off. w.free i t lt lies) w.once;
    once = once_after q o es e v wrote_landed (hart_of e) m may_landed (λ i t lt lies off. w.free i t lt lies) w.once;
    sees = sees_landed;
    rests = λ t x is guards. rests_landed t x is guards (lays q v t) refl;
  }

-- ---- an AMO: it takes what it finds in memory, and lays down its own word's

module _ (B : ℕ) (q : TokenLayout) (o : OpeningValue) (es : List Entry) (e : Entry) (c m : Holders) (w : Held q o es c m)
    (allowed : Allowed B o es e) (a old new : ℕ) (does : access_of e ≡ exchange a old new) where
  abbrev p : Write
  p = write a 4 old

  may_here : AllowedBy B (pending (hart_of e) es) (read o es (hart_of e)) (exchange a old new)
  may_here = subst (AllowedBy B (pending (hart_of e) es) (read o es (hart_of e))) does allowed

  pub nothing_pending : pending (hart_of e) es ≡ []
  nothing_pending = may_here.0

  seen_here : (t : ℕ) → lays q p t ≡ true → lays q (write a 4 (number_seen (view_of o es (hart_of e)) a 4)) t ≡ true
  seen_here t yea = subst (λ v. lays q (write a 4 v) t ≡ true) may_here.1 yea

  -- what it finds in a place lies there
  pub found : (t : ℕ) → lays q p t ≡ true → (i : ℕ) × (i < q.places) × (LiesAt q o es i t) × (covers_place q p i ≡ true)
  found t yea = let s = seen_place q o es c m w (hart_of e) a t (seen_here t yea) in (s.0, s.1, by s.3, s.2)
    where
      by : {i : ℕ} → (LiesAt q o es i t) ⊎ ((all_laid q (pending (hart_of e) es) m t ≡ None) × (m t ≡ Some (hart_of e))) → LiesAt q o es i t
      by (inl there) = there
      by (inr down) = grind (arith, none-some)

  pub found_free : (t : ℕ) → lays q p t ≡ true → m t ≡ None
  found_free t yea = let f = found t yea in w.free f.0 t f.1 f.2

  -- nobody holds it
  pub found_nobodys : (t : ℕ) → lays q p t ≡ true → c t ≡ None
  found_nobodys t yea = nobodys q o es c m w (hart_of e) a t (seen_here t yea)

  module _ (le : (g : ℕ) → lands g es ≤ length (own_stores g es)) (may : MayWrite q (hart_of e) (taken_by q (hart_of e) p c) (write a 4 new)) where
    abbrev n : Write
    n = write a 4 new

    abbrev cs : Holders
    cs = taken_by q (hart_of e) p c

    abbrev ms : Holders
    ms = taken_by q (hart_of e) p m

    same_pending : (g : ℕ) → pending g (es ++ e ∷ []) ≡ pending g es
    same_pending g = pending-quiet es e g (le g) (ap (stored_by (hart_of e == g)) does) (ap (landed_by (hart_of e == g)) does)

    wrote_swapped : write_of es e ≡ n ∷ []
    wrote_swapped = ap (written_by (take 1 (pending (hart_of e) es))) does

    pub took : (t g : ℕ) (d : Holders) → taken_by q (hart_of e) p d t ≡ Some g
        → ((lays q p t ≡ true) × (hart_of e ≡ g)) ⊎ ((lays q p t ≡ false) × (d t ≡ Some g))
    took t g d is = by (lays q p t) refl
      where
        by : (b : Bool) → lays q p t ≡ b → ((lays q p t ≡ true) × (hart_of e ≡ g)) ⊎ ((lays q p t ≡ false) × (d t ≡ Some g))
        by true yea = inl (yea, same-hart (hart_of e) g (sym (taken-here q (hart_of e) p d t yea) ∙ is))
        by false nay = inr (nay, sym (taken-left q (hart_of e) p d t nay) ∙ is)

    pub may_then : MayWrite q (hart_of e) ms n
    may_then = more q (hart_of e) cs ms n (λ t is. elim (took t (hart_of e) c is) [
      | inl yea ↦ taken-here q (hart_of e) p m t yea.0
      | inr nay ↦ taken-left q (hart_of e) p m t nay.0 ∙ owned q o es c m w (hart_of e) t nay.1
    ]) may

    -- what others have is left
    pub theirs_swapped : (g t : ℕ) → hart_of e ≢ g → m t ≡ Some g → (lays q p t ≡ false) × (lays q n t ≡ false)
    theirs_swapped g t other is = by (lays q p t) refl (lays q n t) refl
      where
        by : (b : Bool) → lays q p t ≡ b → (d : Bool) → lays q n t ≡ d → (lays q p t ≡ false) × (lays q n t ≡ false)
        by true yea d lays = absurd (none-some (m t) g (found_free t yea) is)
        by false nay false lays = (nay, lays)
        by false nay true lays = absurd (other (two-harts (m t) (hart_of e) g (sym (taken-left q (hart_of e) p m t nay) ∙ may_then.held t lays) is))

    pub left_by : (t : ℕ) (d : Holders) → lays q p t ≡ false → lays q n t ≡ false → laid q n (taken_by q (hart_of e) p d) t ≡ d t
    left_by t d nay none = laid-left q n (taken_by q (hart_of e) p d) t none ∙ taken-left q (hart_of e) p d t nay

    tidy_swapped : (g : ℕ) → (hart_of e ≡ g) ⊎ (hart_of e ≢ g) → KeepsWrites q g (laid q n ms) (pending g (es ++ e ∷ []))
    tidy_swapped g (inl here) = subst (KeepsWrites q g (laid q n ms)) (sym (same_pending g ∙ ap (λ k. pending k es) (sym here) ∙ nothing_pending)) tt
    tidy_swapped g (inr other) = subst (KeepsWrites q g (laid q n ms)) (sym (same_pending g))
        (keeps-more q g m (laid q n ms) (pending g es) (λ t is. (let l = theirs_swapped g t other is in left_by t m l.0 l.1 ∙ is)) (w.tidy g))

    all_here : (g t : ℕ) (d : Holders) → hart_of e ≡ g → all_laid q (pending g (es ++ e ∷ [])) d t ≡ d t
    all_here g t d here = ap (λ ws. all_laid q ws d t) (same_pending g ∙ ap (λ k. pending k es) (sym here) ∙ nothing_pending)

    all_left : (g t : ℕ) → lays q p t ≡ false → lays q n t ≡ false → all_laid q (pending g (es ++ e ∷ [])) (laid q n ms) t ≡ all_laid q (pending g es) m t
    all_left g t nay none = grind (arith, same_pending, all-same, left_by)

    to_swapped : (g t : ℕ) → laid q n cs t ≡ Some g → all_laid q (pending g (es ++ e ∷ [])) (laid q n ms) t ≡ Some g
    to_swapped g t is =
        let l = laid-from q n cs t g is in
        elim (took t g c l.1) [
          | inl yea ↦ all_here g t (laid q n ms) yea.1 ∙ laid-left q n ms t l.0 ∙ taken-here q (hart_of e) p m t yea.0 ∙ ap Some yea.1
          | inr nay ↦ all_left g t nay.0 l.0 ∙ w.to g t nay.1
        ]

    from_swapped : (g t : ℕ) → all_laid q (pending g (es ++ e ∷ [])) (laid q n ms) t ≡ Some g → laid q n cs t ≡ Some g
    from_swapped g t is =
        let l = laid-from q n ms t g (all-from q (pending g (es ++ e ∷ [])) (laid q n ms) t g is) in
        elim (took t g m l.1) [
          | inl yea ↦ laid-left q n cs t l.0 ∙ taken-here q (hart_of e) p c t yea.0 ∙ ap Some yea.1
          | inr nay ↦ left_by t c nay.0 l.0 ∙ w.from g t (sym (all_left g t nay.0 l.0) ∙ is)
        ]

    -- what lies in a place that isn't covered isn't found, and isn't laid down
    elsewhere : (i t : ℕ) → i < q.places → LiesAt q o es i t → covers_place q n i ≡ false → ms t ≡ None
    elsewhere i t lt lies off = by (lays q p t) refl
      where
        by : (b : Bool) → lays q p t ≡ b → ms t ≡ None
        by false nay = taken-left q (hart_of e) p m t nay ∙ w.free i t lt lies
        by true yea =
            let f = found t yea in
            let same : f.0 ≡ i = w.once f.0 i t f.1 lt f.2 lies in
            absurd (let wrong : true ≡ false = sym f.3 ∙ ap (covers_place q p) same ∙ off in cc)

    last_now_swapped : (x : ℕ) → last_stored o (es ++ e ∷ []) x ≡ byte_then (exchange a old new) x (last_stored o es x)
    last_now_swapped x = stored-last o es e x ∙ ap (λ y. byte_then y x (last_stored o es x)) does

    -- where it was nobody's in memory, or this hart's, this hart reads what was stored last, and does then
    pub reads_last : (t x : ℕ) → q.guards t x ≡ true → (m t ≡ None) ⊎ (m t ≡ Some (hart_of e)) → read_byte o es (hart_of e) x ≡ last_stored o es x
    reads_last t x guards (inl none) = reads-memory o es (hart_of e) x (subst (All (LeavesByte x)) (sym nothing_pending) (All-nil (LeavesByte x)))
        ∙ w.rests t x none guards
    reads_last t x guards (inr holds) = w.sees (hart_of e) t x holds guards

    reads_then : (t x : ℕ) → q.guards t x ≡ true → (m t ≡ None) ⊎ (m t ≡ Some (hart_of e))
        → read_byte o (es ++ e ∷ []) (hart_of e) x ≡ last_stored o (es ++ e ∷ []) x
    reads_then t x guards whose =
        own_view B o (hart_of e) x es e (le (hart_of e)) allowed refl (ap is_landing does)
        ∙ ap (λ y. byte_then y x (read_byte o es (hart_of e) x)) does
        ∙ ap (byte_then (exchange a old new) x) (reads_last t x guards whose) ∙ sym (last_now_swapped x)

    sees_other : (g t x : ℕ) → hart_of e ≢ g → lays q p t ≡ false → m t ≡ Some g → q.guards t x ≡ true → (b : Bool) → covers n x ≡ b
        → read_byte o (es ++ e ∷ []) g x ≡ last_stored o (es ++ e ∷ []) x
    sees_other g t x other nay is guards true on =
        absurd (other (two-harts (m t) (hart_of e) g (sym (taken-left q (hart_of e) p m t nay) ∙ may_then.guarded t x on guards) is))
    sees_other g t x other nay is guards false off =
        left q o es c m w B e g t x le allowed is guards (subst (LeavesByteBy x) (sym does) (inr off)) ∙ w.sees g t x is guards
        ∙ sym (uncovered n x (last_stored o es x) (λ on. (let wrong : false ≡ true = sym off ∙ on in cc))) ∙ sym (last_now_swapped x)

    sees_swapped : (g t x : ℕ) → laid q n ms t ≡ Some g → q.guards t x ≡ true → read_byte o (es ++ e ∷ []) g x ≡ last_stored o (es ++ e ∷ []) x
    sees_swapped g t x is guards = elim (took t g m (laid-from q n ms t g is).1) [
      | inl yea ↦ subst (λ k. read_byte o (es ++ e ∷ []) k x ≡ last_stored o (es ++ e ∷ []) x) yea.1
          (reads_then t x guards (inl (found_free t yea.0)))
      | inr nay ↦ whose (cases_eq (hart_of e) g) nay.0 nay.1
    ]
      where
        whose : (hart_of e ≡ g) ⊎ (hart_of e ≢ g) → lays q p t ≡ false → m t ≡ Some g → read_byte o (es ++ e ∷ []) g x ≡ last_stored o (es ++ e ∷ []) x
        whose (inl here) nay holds = grind (arith, reads_then)
        whose (inr other) nay holds = sees_other g t x other nay holds guards (covers n x) refl

    rests_swapped : (t x : ℕ) → laid q n ms t ≡ None → q.guards t x ≡ true → memory_byte o (es ++ e ∷ []) x ≡ last_stored o (es ++ e ∷ []) x
    rests_swapped t x is guards =
        sym (reads-memory o (es ++ e ∷ []) (hart_of e) x
        (subst (All (LeavesByte x)) (sym (same_pending (hart_of e) ∙ nothing_pending)) (All-nil (LeavesByte x))))
        ∙ reads_then t x guards (whose (lays q p t) refl (lays q n t) refl)
      where
        whose : (b : Bool) → lays q p t ≡ b → (d : Bool) → lays q n t ≡ d → (m t ≡ None) ⊎ (m t ≡ Some (hart_of e))
        whose true yea d lays = inl (found_free t yea)
        whose false nay true lays = inr (sym (taken-left q (hart_of e) p m t nay) ∙ may_then.held t lays)
        whose false nay false lays = inl (sym (left_by t m nay lays) ∙ is)

    pub exchanges : Held q o (es ++ e ∷ []) (laid q n cs) (laid q n ms)
    exchanges = record {
      tidy = λ g. tidy_swapped g (cases_eq (hart_of e) g);
      to = to_swapped;
      from = from_swapped;
      free = free_after q o es e n wrote_swapped (hart_of e) ms may_then elsewhere w.once;
      once = once_after q o es e n wrote_swapped (hart_of e) ms may_then elsewhere w.once;
      sees = sees_swapped;
      rests = rests_swapped;
    }

-- ---- every run that keeps tokens holds what one entry hands on to the next: the laws

keeps-append : (q : TokenLayout) (c : Holders) (es fs : List Entry) → KeepsTokens q c (es ++ fs) → KeepsTokens q c es × KeepsTokens q (holders q c es) fs
keeps-append q c [] fs k = (tt, k)
keeps-append q c (e ∷ es) fs k = let more = keeps-append q (holders_next q c e) es fs k.1 in ((k.0, more.0), more.1)

-- the keeping is that before and of the last entry
pub keeps-last : (q : TokenLayout) (c : Holders) (es : List Entry) (e : Entry) → KeepsTokens q c es → May q (hart_of e) (holders q c es) (access_of e)
    → KeepsTokens q c (es ++ e ∷ [])
keeps-last q c [] e k may = (may, tt)
keeps-last q c (d ∷ es) e k may = (k.0, keeps-last q (holders_next q c d) es e k.1 may)

pub holders-append : (q : TokenLayout) (c : Holders) (es fs : List Entry) → holders q c (es ++ fs) ≡ holders q (holders q c es) fs
holders-append q c [] fs = refl
holders-append q c (e ∷ es) fs = holders-append q (holders_next q c e) es fs

-- whose each token is in memory, after these entries
abbrev pub memory : TokenLayout → (before : List Entry) → Holders → List Entry → Holders
memory q before m [] = m
memory q before m (e ∷ es) = memory q (before ++ e ∷ []) (in_memory q before e m) es

pub memory-snoc : (q : TokenLayout) (before : List Entry) (m : Holders) (es : List Entry) (d : Entry)
    → memory q before m (es ++ d ∷ []) ≡ in_memory q (before ++ es) d (memory q before m es)
memory-snoc q before m [] d = ap (λ xs. in_memory q xs d m) (sym (append-nil before))
memory-snoc q before m (e ∷ es) d = memory-snoc q (before ++ e ∷ []) (in_memory q before e m) es d
    ∙ ap (λ xs. in_memory q xs d (memory q (before ++ e ∷ []) (in_memory q before e m) es)) (append_assoc before (e ∷ []) es)

module _ (B : ℕ) (q : TokenLayout) (o : OpeningValue) where
  module _ (es : List Entry) (e : Entry) (c m : Holders) (w : Held q o es c m) (le : (g : ℕ) → lands g es ≤ length (own_stores g es))
      (allowed : Allowed B o es e) where
    quiet_one : (y : Access) → access_of e ≡ y → IsStill y → Held q o (es ++ e ∷ []) c m
    quiet_one y does k = quiet q o es e c m w le (subst IsStill (sym does) k)

    landing : access_of e ≡ land → (ws : List Write) → pending (hart_of e) es ≡ ws → Held q o (es ++ e ∷ []) c (laid_first q ws m)
    landing does [] none = grind arith
    landing does (v ∷ rest) oldest = lands_on B q o es e c m w le allowed does v rest oldest

    at : (y : Access) → access_of e ≡ y → May q (hart_of e) c y
        → Held q o (es ++ e ∷ []) (holders_then q (hart_of e) y c) (next_in_memory q (hart_of e) (pending (hart_of e) es) y m)
    at nothing does may = quiet_one nothing does nothing_still
    at (load a width v) does may = quiet_one (load a width v) does (load_still a width v)
    at (fence full) does may = quiet_one (fence full) does (fence_still full)
    at (store v) does may = stores B q o es e c m w le allowed v does may
    at (exchange a old new) does may = exchanges B q o es e c m w allowed a old new does le may
    at land does may = landing does (pending (hart_of e) es) refl

    pub step : May q (hart_of e) c (access_of e) → Held q o (es ++ e ∷ []) (holders_next q c e) (in_memory q es e m)
    step may = at (access_of e) refl may

  pub opened : (start : Holders) → OpensTokens q o start → Held q o [] start start
  opened start opens = record {
    tidy = λ g. tt;
    to = λ g t is. is;
    from = λ g t is. is;
    free = opens.free;
    once = opens.once;
    sees = λ g t x is guards. refl;
    rests = λ t x is guards. refl;
  }

  pub follows-front : (start : Holders) (es fs : List Entry) → FollowsTokens B q start o (es ++ fs) → FollowsTokens B q start o es
  follows-front start es fs f = record {
    opens = f.opens;
    legal = LegalAfter-front B o [] es fs f.legal;
    keeps = (keeps-append q start es fs f.keeps).0;
  }

  -- what an entry hands on from the run before it holds of every run
  module _ (start : Holders) (P : List Entry → Type 0) (first : P [])
      (next : (es : List Entry) (e : Entry) → FollowsTokens B q start o (es ++ e ∷ []) → P es → P (es ++ e ∷ [])) where
    from : (done rest : List Entry) → FollowsTokens B q start o (done ++ rest) → P done → P (done ++ rest)
    from done [] f p = subst P (sym (append-nil done)) p
    from done (e ∷ rest) f p =
        let all : (done ++ e ∷ []) ++ rest ≡ done ++ e ∷ rest = append_assoc done (e ∷ []) rest in
        let f1 : FollowsTokens B q start o ((done ++ e ∷ []) ++ rest) = subst (FollowsTokens B q start o) (sym all) f in
        subst P all (from (done ++ e ∷ []) rest f1 (next done e (follows-front start (done ++ e ∷ []) rest f1) p))

    pub of-runs : (es : List Entry) → FollowsTokens B q start o es → P es
    of-runs es f = from [] es f first

  module _ (start : Holders) (es : List Entry) (e : Entry) (f : FollowsTokens B q start o (es ++ e ∷ [])) where
    pub front : FollowsTokens B q start o es
    front = follows-front start es (e ∷ []) f

    pub balanced_front : (g : ℕ) → lands g es ≤ length (own_stores g es)
    balanced_front g = balanced B (history_of o es) g front.legal

    pub allowed_last : Allowed B o es e
    allowed_last = (LegalAfter-back B o [] es (e ∷ []) f.legal).0

    pub may_last : May q (hart_of e) (holders q start es) (access_of e)
    may_last = (keeps-append q start es (e ∷ []) f.keeps).1.0

  pub held_at : (start : Holders) (es : List Entry) → FollowsTokens B q start o es → Held q o es (holders q start es) (memory q [] start es)
  held_at start es f = of-runs start (λ xs. Held q o xs (holders q start xs) (memory q [] start xs)) (opened start f.opens)
      (λ xs e g w. subst (λ c. Held q o (xs ++ e ∷ []) c (memory q [] start (xs ++ e ∷ []))) (sym (holders-append q start xs (e ∷ [])))
      (subst (λ m. Held q o (xs ++ e ∷ []) (holders_next q (holders q start xs) e) m) (sym (memory-snoc q [] start xs e))
      (step xs e (holders q start xs) (memory q [] start xs) w (balanced_front start xs e g) (allowed_last start xs e g) (may_last start xs e g)))) es f

  -- ---- the laws

  pub as_stored : (start : Holders) (es : List Entry) → FollowsTokens B q start o es → (h t x : ℕ) → holders q start es t ≡ Some h → q.guards t x ≡ true
      → read_byte o es h x ≡ last_stored o es x
  as_stored start es f h t x is guards =
      let held = held_at start es f in
      held.sees h t x (owned q o es (holders q start es) (memory q [] start es) held h t is) guards

  module _ (start : Holders) (es : List Entry) (e : Entry) (f : FollowsTokens B q start o (es ++ e ∷ [])) where
    pub exclusive : (a old new t : ℕ) → access_of e ≡ exchange a old new → lays q (write a 4 old) t ≡ true → holders q start es t ≡ None
    exclusive a old new t does lies =
        found_nobodys B q o es e (holders q start es) (memory q [] start es) (held_at start es (front start es e f)) (allowed_last start es e f) a old new
        does t lies

    pub stays : (h t : ℕ) → holders q start es t ≡ Some h → hart_of e ≢ h → holders q start (es ++ e ∷ []) t ≡ Some h
    stays h t is other = ap (λ (d : Holders). d t) (holders-append q start es (e ∷ [])) ∙ by (access_of e) refl (may_last start es e f)
      where
        c : Holders
        c = holders q start es

        theirs : (v : Write) (d : Holders) → MayWrite q (hart_of e) d v → d t ≡ Some h → (b : Bool) → lays q v t ≡ b → laid q v d t ≡ Some h
        theirs v d may has true lies = absurd (other (two-harts (d t) (hart_of e) h (may.held t lies) has))
        theirs v d may has false off = laid-left q v d t off ∙ has

        untaken : (a old new : ℕ) → access_of e ≡ exchange a old new → (b : Bool) → lays q (write a 4 old) t ≡ b
            → taken_by q (hart_of e) (write a 4 old) c t ≡ Some h
        untaken a old new does true lies = absurd (none-some (c t) h (exclusive a old new t does lies) is)
        untaken a old new does false off = taken-left q (hart_of e) (write a 4 old) c t off ∙ is

        by : (y : Access) → access_of e ≡ y → May q (hart_of e) c y → holders_then q (hart_of e) y c t ≡ Some h
        by (store v) does may = theirs v c may is (lays q v t) refl
        by (exchange a old new) does may = theirs (write a 4 new) (taken_by q (hart_of e) (write a 4 old) c) may
            (untaken a old new does (lays q (write a 4 old) t) refl) (lays q (write a 4 new) t) refl
        by y does may = is

    pub loads : (a width v : ℕ) → access_of e ≡ load a width v → LoadsHeld q (hart_of e) (holders q start es) (access_of e)
        → ((i : ℕ) → i < width → (t : ℕ) × (q.guards t (a + i) ≡ true)) → v ≡ joined (λ i. last_stored o es (a + i)) width
    loads a width v does held guarded =
        let reads : v ≡ read o es (hart_of e) a width = subst (AllowedBy B (pending (hart_of e) es) (read o es (hart_of e))) does (allowed_last start es e f) in
        let holds = subst (LoadsHeld q (hart_of e) (holders q start es)) does held in
        reads ∙ joined-same (λ i. read_byte o es (hart_of e) (a + i)) (λ i. last_stored o es (a + i)) width
        (λ i lt. (let g = guarded i lt in
        as_stored start es (front start es e f) (hart_of e) g.0 (a + i) (holds g.0 (a + i) (omega arith, omega (arith, lt)) g.1) g.1))

-- ---- what is so of the bytes that a token guards wherever it is laid down, is so wherever it is taken

module _ (B : ℕ) (q : TokenLayout) (o : OpeningValue) (says : ℕ → View → Bool)
    (framed : (t : ℕ) (m n : View) → ((x : ℕ) → q.guards t x ≡ true → n x ≡ m x) → says t m ≡ true → says t n ≡ true) where
  -- of each token that nobody holds it is so of what was stored last
  abbrev pub IsSaid : List Entry → Holders → Type 0
  IsSaid es c = (t : ℕ) → c t ≡ None → says t (last_stored o es) ≡ true

  module _ (es : List Entry) (e : Entry) (c m : Holders) (w : Held q o es c m) (le : (g : ℕ) → lands g es ≤ length (own_stores g es))
      (allowed : Allowed B o es e) (said : IsSaid es c)
      (gives : (t : ℕ) → lays_down q (access_of e) t → says t (view_then (access_of e) (view_of o es (hart_of e))) ≡ true) where
    -- what the hart reads where it holds the token is what was stored last
    reads : (t x : ℕ) → c t ≡ Some (hart_of e) → q.guards t x ≡ true → read_byte o es (hart_of e) x ≡ last_stored o es x
    reads t x holds guards = w.sees (hart_of e) t x (owned q o es c m w (hart_of e) t holds) guards

    by_view : (t : ℕ) → ((x : ℕ) → q.guards t x ≡ true → read_byte o es (hart_of e) x ≡ last_stored o es x) → lays_down q (access_of e) t
        → says t (last_stored o (es ++ e ∷ [])) ≡ true
    by_view t same down = framed t (view_then (access_of e) (view_of o es (hart_of e))) (last_stored o (es ++ e ∷ []))
        (λ x guards. stored-last o es e x ∙ ap (byte_then (access_of e) x) (sym (same x guards))) (gives t down)

    left_so : (t : ℕ) → c t ≡ None → ((x : ℕ) → q.guards t x ≡ true → byte_then (access_of e) x (last_stored o es x) ≡ last_stored o es x)
        → says t (last_stored o (es ++ e ∷ [])) ≡ true
    left_so t none same = framed t (last_stored o es) (last_stored o (es ++ e ∷ [])) (λ x guards. stored-last o es e x ∙ same x guards) (said t none)

    said_at : (y : Access) → access_of e ≡ y → May q (hart_of e) c y → (t : ℕ)
        → holders_then q (hart_of e) y c t ≡ None → says t (last_stored o (es ++ e ∷ [])) ≡ true
    said_at (store v) does may t none = by (lays q v t) refl
      where
        by : (b : Bool) → lays q v t ≡ b → says t (last_stored o (es ++ e ∷ [])) ≡ true
        by true yea = by_view t (λ x guards. reads t x (may.held t yea) guards) (subst (λ y. lays_down q y t) (sym does) yea)
        by false nay =
            let free : c t ≡ None = sym (laid-left q v c t nay) ∙ none in
            left_so t free (λ x guards. ap (λ y. byte_then y x (last_stored o es x)) does
            ∙ uncovered v x (last_stored o es x) (λ on. none-some (c t) (hart_of e) free (may.guarded t x on guards)))
    said_at (exchange a old new) does may t none = by (lays q (write a 4 new) t) refl (lays q (write a 4 old) t) refl
      where
        by : (b : Bool) → lays q (write a 4 new) t ≡ b → (d : Bool) → lays q (write a 4 old) t ≡ d → says t (last_stored o (es ++ e ∷ [])) ≡ true
        by true yea true found = by_view t (λ x guards. reads_last B q o es e c m w allowed a old new does le may t x guards
            (inl (found_free B q o es e c m w allowed a old new does t found))) (subst (λ y. lays_down q y t) (sym does) yea)
        by true yea false nay = grind (arith, by_view, reads, taken-left)
        by false nay true found = grind (arith, none-some, laid-left, taken-here)
        by false nay false not = grind (arith, laid-left, left_so, taken-left, uncovered, none-some)
    said_at y does may t none = left_so t none (λ x guards. ap (λ z. byte_then z x (last_stored o es x)) does)

    pub said_next : May q (hart_of e) c (access_of e) → IsSaid (es ++ e ∷ []) (holders_next q c e)
    said_next may = said_at (access_of e) refl may

  said_from : (done rest : List Entry) (c m : Holders) → ((g : ℕ) → lands g done ≤ length (own_stores g done)) → LegalAfter B o done rest → KeepsTokens q c rest
      → HandsOn q says o done rest → Held q o done c m → IsSaid done c → IsSaid (done ++ rest) (holders q c rest)
  said_from done [] c m le legal keeps gives w said = subst (λ xs. IsSaid xs c) (sym (append-nil done)) said
  said_from done (e ∷ rest) c m le legal keeps gives w said = subst (λ xs. IsSaid xs (holders q (holders_next q c e) rest)) (append_assoc done (e ∷ []) rest)
      (said_from (done ++ e ∷ []) rest (holders_next q c e) (in_memory q done e m) (λ g. balanced-last B o done g e legal.0 (le g)) legal.1 keeps.1 gives.1
      (step B q o done e c m w le legal.0 keeps.0) (said_next done e c m w le legal.0 said gives.0 keeps.0))

  pub said : (start : Holders) (es : List Entry) → FollowsTokens B q start o es → ((t : ℕ) → start t ≡ None → says t (opening_byte o) ≡ true)
      → HandsOn q says o [] es → IsSaid es (holders q start es)
  said start es f opens gives = said_from [] es start start (λ g. omega arith) f.legal f.keeps gives (opened B q o start f.opens) opens

  -- and so where it is taken
  pub handed_on : (start : Holders) (es : List Entry) (e : Entry) → FollowsTokens B q start o (es ++ e ∷ [])
      → ((t : ℕ) → start t ≡ None → says t (opening_byte o) ≡ true) → HandsOn q says o [] es → (a old new t : ℕ) → access_of e ≡ exchange a old new
      → lays q (write a 4 old) t ≡ true → says t (view_of o es (hart_of e)) ≡ true
  handed_on start es e f opens gives a old new t does lies =
      let f1 = front B q o start es e f in
      let held = held_at B q o start es f1 in
      let allowed = allowed_last B q o start es e f in
      framed t (last_stored o es) (view_of o es (hart_of e))
      (λ x guards. reads_last B q o es e (holders q start es) (memory q [] start es) held allowed a old new does (balanced_front B q o start es e f)
      (subst (May q (hart_of e) (holders q start es)) does (may_last B q o start es e f)) t x guards
      (inl (found_free B q o es e (holders q start es) (memory q [] start es) held allowed a old new does t lies)))
      (said start es f1 opens gives t (exclusive B q o start es e f a old new t does lies))
