-- What one entry makes of both parties' counts, their pending stores and the tags.
use Rattle.std.proofs.Common.{ℕ, ◌+◌, ◌≤◌, ◌≡◌, ◌≢◌, ◌==◌, ◌⊎◌, inl, inr, Bool, true, false, if◌then◌else◌, List, [], ◌∷◌, ◌++◌, length, take, Some, None, refl}
use Rattle.std.proofs.Common.{sym, ◌∙◌, ap, subst, arith}
use Rattle.std.specs.Prelude.{All}
use Rattle.std.proofs.lemmas.Bool.{cases_eq, eq-eqb, ne_eqb}
use Rattle.std.proofs.lemmas.List.Elements.{All-head, All-tail, All-nil, All-cons, All-append}
use Rattle.memory.specs.declared.writes.Write.{Write}
use Rattle.memory.specs.Writes.{write}
use Rattle.step_machine.specs.declared.events.Entry.{Entry}
use Rattle.step_machine.specs.Names.{OpeningValue, Access, nothing, load, store, exchange, fence, land, access_of, hart_of, stored_by, landed_by, written_by}
use Rattle.step_machine.specs.Names.{own_store, land_of, write_of, pending, own_stores, lands, read, AllowedBy, Allowed}
use Rattle.step_machine.proofs.Changed.{some_first}
use Rattle.store_buffers.proofs.Effects.{stored_none, landed_none, pending-quiet, pending-more, pending-first}
use Rattle.queue_parties.specs.Parties.{Party, other, QueueCounts, count, known, with_known}
use Rattle.queue_parties.proofs.Parties.{two, twice, count-set, count-set-other, known-set-count, count-set-known, known-set, known-set-other, Whose, mine}
use Rattle.queue_parties.proofs.Parties.{theirs, whose, harts-apart}
use Rattle.slots_that_tell.specs.Slots.{Slots, IsSlots, gap, KeepsOff}
use Rattle.slots_that_tell.specs.{teller_hart, teller_of, owned_end, moved, after_load, after_store, told_access, after_entry, IsTagStore, MayStore}
use Rattle.slots_that_tell.specs.{TellsAccess, moved_on}
use Rattle.slots_that_tell.proofs.Places.{LeavesTags, moved-leaves, moved-tag, off-leaves, fills-leaves}
use Rattle.slots_that_tell.proofs.Sides.{Tidy, Side, Tags, Held, moved_on-more, moved_on-append, tidy-append, within, tags-quiet, tags-left, tags-one}
use Rattle.slots_that_tell.proofs.Looks.{looked}

-- ---- which stores keep order

module _ (q : Slots) (is : IsSlots q) (p : Party) (c : QueueCounts) (w : Write) where
  pub stores-clean : MayStore q p c w → LeavesTags q w ⊎ IsTagStore q p (count p c) w
  stores-clean (inl moves) = inr moves.tag
  stores-clean (inr fills) = inl (fills-leaves q is p c w fills)

  pub stores-room : MayStore q p c w → count p c ≤ owned_end q p c → moved q (count p c) w ≤ owned_end q p c
  stores-room (inl moves) le = grind (arith, moved-tag)
  stores-room (inr fills) le =
      let same : moved q (count p c) w ≡ count p c = moved-leaves q is (count p c) w (fills-leaves q is p c w fills) in
      omega (arith, same, le)

-- ---- a look

pub held-looked : (q : Slots) (is : IsSlots q) (o : OpeningValue) (es : List Entry) (c : QueueCounts)
    (m : Party → ℕ) → Held q o es c m → (r : Party) (a width v : ℕ)
    → v ≡ read o es (teller_hart q r) a width → Held q o es (after_load q r a width v c) m
held-looked q is o es c m held r a width v is_read = elim (looked q is o es c m held r a width v is_read) [
  | inl same ↦ subst (λ d. Held q o es d m) (sym same) held
  | inr more ↦ subst (λ d. Held q o es d m) (sym more.1) (record {
    side = λ p. record {
      count_is = (held.side p).count_is ∙ sym (count-set-known r p more.0 c);
      known_less = less more.0 more.3 p (two r p);
      own = (held.side p).own;
      room = (let same : count p (with_known r more.0 c) ≡ count p c = count-set-known r p more.0 c in
          let further : known p c ≤ known p (with_known r more.0 c) = grows more.0 more.2 p (two r p) in omega (arith, same, further, (held.side p).room));
    };
    third = held.third;
    tags = held.tags;
  })
]
  where
    less : (k : ℕ) → k ≤ m (other r) → (p : Party) → (p ≡ r) ⊎ (p ≡ other r) → known (other p) (with_known r k c) ≤ m p
    less k upto p (inl same) = grind (arith, known-set-other)
    less k upto p (inr same) = grind (arith, twice, known-set)

    grows : (k : ℕ) → known r c ≤ k → (p : Party) → (p ≡ r) ⊎ (p ≡ other r) → known p c ≤ known p (with_known r k c)
    grows k from p (inl same) = grind (arith, known-set)
    grows k from p (inr same) = grind (arith, known-set-other)

-- ---- one entry

-- what of an entry's write is a party's, and what memory's counts are then
abbrev pub own_write : Slots → List Entry → Entry → Party → List Write
own_write q es e p = if hart_of e == teller_hart q p then write_of es e else []

abbrev pub next : Slots → List Entry → Entry → (Party → ℕ) → Party → ℕ
next q es e m p = moved_on q (m p) (own_write q es e p)

module _ (B : ℕ) (q : Slots) (is : IsSlots q) (o : OpeningValue) (es : List Entry) (e : Entry)
    (even : (h : ℕ) → lands h es ≤ length (own_stores h es)) (m : Party → ℕ) where
  abbrev after : List Entry
  after = es ++ e ∷ []

  pub next-other : (p : Party) → hart_of e ≢ teller_hart q p → next q es e m p ≡ m p
  next-other p apart = ap (λ b. moved_on q (m p) (if b then write_of es e else [])) (ne_eqb (hart_of e) (teller_hart q p) apart)

  pub next-mine : (p : Party) → hart_of e ≡ teller_hart q p → (ws : List Write) → write_of es e ≡ ws → next q es e m p ≡ moved_on q (m p) ws
  next-mine p at ws writes = grind (arith, eq-eqb)

  next-none : write_of es e ≡ [] → (p : Party) → next q es e m p ≡ m p
  next-none none p = ap (λ ws. moved_on q (m p) (if hart_of e == teller_hart q p then ws else [])) none ∙ by (hart_of e == teller_hart q p)
    where
      by : (b : Bool) → moved_on q (m p) (if b then [] else []) ≡ m p
      by true = refl
      by false = refl

  kept : (g : ℕ) → hart_of e ≢ g → pending g after ≡ pending g es
  kept g apart = grind (arith, pending-quiet, ne_eqb, stored_none, landed_none)

  module _ (x : Access) (does : access_of e ≡ x) where
    stores-by : (g : ℕ) → own_store g e ≡ stored_by (hart_of e == g) x
    stores-by g = ap (stored_by (hart_of e == g)) does

    lands-by : (g : ℕ) → land_of g e ≡ landed_by (hart_of e == g) x
    lands-by g = ap (landed_by (hart_of e == g)) does

    writes-by : write_of es e ≡ written_by (take 1 (pending (hart_of e) es)) x
    writes-by = ap (written_by (take 1 (pending (hart_of e) es))) does

  -- the pending stores of the entry's hart
  own-quiet : (x : Access) → access_of e ≡ x → ((b : Bool) → stored_by b x ≡ []) → ((b : Bool) → landed_by b x ≡ 0)
      → pending (hart_of e) after ≡ pending (hart_of e) es
  own-quiet x does unstored unlanded = grind (arith, pending-quiet, stores-by, lands-by)

  own-stored : (w : Write) → access_of e ≡ store w → pending (hart_of e) after ≡ pending (hart_of e) es ++ w ∷ []
  own-stored w does = grind (arith, pending-more, stores-by, eq-eqb, lands-by)

  own-landed : access_of e ≡ land → (w : Write) (rest : List Write) → pending (hart_of e) es ≡ w ∷ rest → pending (hart_of e) after ≡ rest
  own-landed does w rest first = grind (arith, pending-first, stores-by, lands-by, eq-eqb)

  module _ (c : QueueCounts) (held : Held q o es c m) where
    abbrev pub Holds : QueueCounts → Type 0
    Holds c2 = Held q o after c2 (next q es e m)

    side-other : (p : Party) → hart_of e ≢ teller_hart q p → (c2 : QueueCounts) → count p c2 ≡ count p c
        → known (other p) c2 ≤ m p → count p c2 ≤ owned_end q p c2
        → Side q after c2 p (next q es e m p)
    side-other p apart c2 same knows room = subst (Side q after c2 p) (sym (next-other p apart)) (record {
      count_is = ap (moved_on q (m p)) (kept (teller_hart q p) apart) ∙ (held.side p).count_is ∙ sym same;
      known_less = knows;
      own = subst (Tidy q p (m p)) (sym (kept (teller_hart q p) apart)) (held.side p).own;
      room = room;
    })

    -- ---- of a party

    module _ (r : Party) (at : hart_of e ≡ teller_hart q r) where
      side-own : (c2 : QueueCounts) (ws vs : List Write) → write_of es e ≡ ws → pending (hart_of e) after ≡ vs
          → moved_on q (moved_on q (m r) ws) vs ≡ count r c2 → known (other r) c2 ≤ m r → Tidy q r (moved_on q (m r) ws) vs → count r c2 ≤ owned_end q r c2
          → Side q after c2 r (next q es e m r)
      side-own c2 ws vs writes left counted knows tidy room = subst (Side q after c2 r) (sym (next-mine r at ws writes)) (record {
        count_is = ap (moved_on q (moved_on q (m r) ws)) here ∙ counted;
        known_less = (let more : m r ≤ moved_on q (m r) ws = moved_on-more q (m r) ws in omega (arith, more, knows));
        own = subst (Tidy q r (moved_on q (m r) ws)) (sym here) tidy;
        room = room;
      })
        where
          here : pending (teller_hart q r) after ≡ vs
          here = ap (λ g. pending g after) (sym at) ∙ left

      apart : hart_of e ≢ teller_hart q (other r)
      apart = λ s. harts-apart q.sender q.receiver is.parties r (sym at ∙ s)

      assemble : (c2 : QueueCounts) → Side q after c2 r (next q es e m r) → Tags q o after (next q es e m) → count (other r) c2 ≡ count (other r) c
          → known r c2 ≤ m (other r) → owned_end q (other r) c ≤ owned_end q (other r) c2 → Holds c2
      assemble c2 own tags same knows further = record {
        side = λ p. elim (two r p) [
          | inl level ↦ subst (λ t. Side q after c2 t (next q es e m t)) (sym level) own
          | inr level ↦ subst (λ t. Side q after c2 t (next q es e m t)) (sym level)
              (side-other (other r) apart c2 same (subst (λ t. known t c2 ≤ m (other r)) (sym (twice r)) knows)
              (omega (arith, same, further, (held.side (other r)).room)))
        ];
        third = λ h far. subst (All (LeavesTags q)) (sym (kept h (λ s. far r (sym s ∙ at)))) (held.third h far);
        tags = tags;
      }

      knows_r : known r c ≤ m (other r)
      knows_r = subst (λ t. known t c ≤ m (other r)) (twice r) (held.side (other r)).known_less

      tags-written : (w : Write) → write_of es e ≡ w ∷ [] → LeavesTags q w ⊎ IsTagStore q r (m r) w → (moved q (m r) w ≤ m (other r) + gap q (other r))
          → Tags q o after (next q es e m)
      tags-written w writes (inl leaves) room = tags-left q is o es e m (next q es e m) held.tags w writes leaves (λ p. elim (two r p) [
        | inl level ↦ subst (λ t. next q es e m t ≡ m t) (sym level) (next-mine r at (w ∷ []) writes ∙ moved-leaves q is (m r) w leaves)
        | inr level ↦ subst (λ t. next q es e m t ≡ m t) (sym level) (next-other (other r) apart)
      ])
      tags-written w writes (inr tag) room =
          let more : moved q (m r) w ≡ m r + 1 = moved-tag q is r (m r) (m r) w tag in
          tags-one q is o es e m (next q es e m) held.tags w writes r tag (omega (arith, more, room))
          (subst (λ s. m (other r) ≤ m s + gap q s) (twice r) (let t = within q o es c m held (other r) in omega (arith, t.0, t.1)))
          (next-mine r at (w ∷ []) writes ∙ more) (next-other (other r) apart)

      quiet-by : (x : Access) → access_of e ≡ x → ((b : Bool) → stored_by b x ≡ [])
          → ((b : Bool) → landed_by b x ≡ 0) → ((ws : List Write) → written_by ws x ≡ []) → Holds c
      quiet-by x does unstored unlanded unwritten =
          let none : write_of es e ≡ [] = writes-by x does ∙ unwritten (take 1 (pending (hart_of e) es)) in
          assemble c (side-own c [] (pending (teller_hart q r) es) none (own-quiet x does unstored unlanded ∙ ap (λ g. pending g es) at)
          (held.side r).count_is (held.side r).known_less (held.side r).own (held.side r).room)
          (tags-quiet q is o es e m (next q es e m) held.tags none (next-none none)) refl knows_r (omega arith)

      store-by : (w : Write) → access_of e ≡ store w → MayStore q r c w → Holds (after_store q r w c)
      store-by w does may =
          let c2 : QueueCounts = after_store q r w c in
          let n : count r c2 ≡ moved q (count r c) w = count-set r (moved q (count r c) w) c in
          let k : known r c2 ≡ known r c = known-set-count r r (moved q (count r c) w) c in
          let l : known (other r) c2 ≡ known (other r) c = known-set-count r (other r) (moved q (count r c) w) c in
          let room : moved q (count r c) w ≤ owned_end q r c = stores-room q is r c w may (held.side r).room in
          let none : write_of es e ≡ [] = writes-by (store w) does in
          assemble c2 (side-own c2 [] (pending (teller_hart q r) es ++ w ∷ []) none (own-stored w does ∙ ap (λ g. pending g es ++ w ∷ []) at)
          (moved_on-append q (m r) (pending (teller_hart q r) es) (w ∷ []) ∙ ap (λ i. moved q i w) (held.side r).count_is ∙ sym n)
          (omega (arith, l, (held.side r).known_less))
          (tidy-append q r (m r) (pending (teller_hart q r) es) w (held.side r).own
          (subst (λ i. LeavesTags q w ⊎ IsTagStore q r i w) (sym (held.side r).count_is) (stores-clean q is r c w may)))
          (omega (arith, n, k, room)))
          (tags-quiet q is o es e m (next q es e m) held.tags none (next-none none)) (count-set-other r (moved q (count r c) w) c)
          (omega (arith, k, knows_r)) (omega (arith, l))

      exchange-by : (a old new : ℕ) → access_of e ≡ exchange a old new → pending (hart_of e) es ≡ [] → MayStore q r c (write a 4 new)
          → Holds (after_store q r (write a 4 new) c)
      exchange-by a old new does empty may =
          let w : Write = write a 4 new in
          let c2 : QueueCounts = after_store q r w c in
          let n : count r c2 ≡ moved q (count r c) w = count-set r (moved q (count r c) w) c in
          let k : known r c2 ≡ known r c = known-set-count r r (moved q (count r c) w) c in
          let l : known (other r) c2 ≡ known (other r) c = known-set-count r (other r) (moved q (count r c) w) c in
          let room : moved q (count r c) w ≤ owned_end q r c = stores-room q is r c w may (held.side r).room in
          let writes : write_of es e ≡ w ∷ [] = writes-by (exchange a old new) does in
          let all : m r ≡ count r c = ap (moved_on q (m r)) (sym (ap (λ g. pending g es) (sym at) ∙ empty)) ∙ (held.side r).count_is in
          let up : moved q (m r) w ≡ moved q (count r c) w = ap (λ i. moved q i w) all in
          assemble c2 (side-own c2 (w ∷ []) [] writes (own-quiet (exchange a old new) does (λ b. refl) (λ b. refl) ∙ empty)
          (up ∙ sym n) (omega (arith, l, (held.side r).known_less)) tt (omega (arith, n, k, room)))
          (tags-written w writes (subst (λ i. LeavesTags q w ⊎ IsTagStore q r i w) (sym all) (stores-clean q is r c w may))
          (omega (arith, up, room, knows_r)))
          (count-set-other r (moved q (count r c) w) c) (omega (arith, k, knows_r)) (omega (arith, l))

      land-by : access_of e ≡ land → (w : Write) (rest : List Write) → pending (hart_of e) es ≡ w ∷ rest → Holds c
      land-by does w rest first =
          let had : pending (teller_hart q r) es ≡ w ∷ rest = ap (λ g. pending g es) (sym at) ∙ first in
          let writes : write_of es e ≡ w ∷ [] = writes-by land does ∙ ap (take 1) first in
          let tidy : Tidy q r (m r) (w ∷ rest) = subst (Tidy q r (m r)) had (held.side r).own in
          let counted : moved_on q (moved q (m r) w) rest ≡ count r c = ap (moved_on q (m r)) (sym had) ∙ (held.side r).count_is in
          let low : moved q (m r) w ≤ moved_on q (moved q (m r) w) rest = moved_on-more q (moved q (m r) w) rest in
          assemble c (side-own c (w ∷ []) rest writes (own-landed does w rest first) counted (held.side r).known_less tidy.1 (held.side r).room)
          (tags-written w writes tidy.0 (let t = within q o es c m held r in omega (arith, low, counted, t.1))) refl knows_r (omega arith)

    -- ---- of another hart

    module _ (far : (r : Party) → hart_of e ≢ teller_hart q r) where
      third-holds : Tags q o after (next q es e m) → All (LeavesTags q) (pending (hart_of e) after) → Holds c
      third-holds tags own = record {
        side = λ p. side-other p (far p) c refl (held.side p).known_less (held.side p).room;
        third = λ g apart. elim (cases_eq (hart_of e) g) [
          | inl here ↦ subst (λ k. All (LeavesTags q) (pending k after)) here own
          | inr there ↦ subst (All (LeavesTags q)) (sym (kept g there)) (held.third g apart)
        ];
        tags = tags;
      }

      third-quiet : (x : Access) → access_of e ≡ x → ((b : Bool) → stored_by b x ≡ [])
          → ((b : Bool) → landed_by b x ≡ 0) → ((ws : List Write) → written_by ws x ≡ []) → Holds c
      third-quiet x does unstored unlanded unwritten =
          let none : write_of es e ≡ [] = writes-by x does ∙ unwritten (take 1 (pending (hart_of e) es)) in
          third-holds (tags-quiet q is o es e m (next q es e m) held.tags none (next-none none))
          (subst (All (LeavesTags q)) (sym (own-quiet x does unstored unlanded)) (held.third (hart_of e) far))

      third-store : (w : Write) → access_of e ≡ store w → KeepsOff q w → Holds c
      third-store w does keeps =
          let none : write_of es e ≡ [] = writes-by (store w) does in
          third-holds (tags-quiet q is o es e m (next q es e m) held.tags none (next-none none))
          (subst (All (LeavesTags q)) (sym (own-stored w does)) (All-append (LeavesTags q) (pending (hart_of e) es) (w ∷ []) (held.third (hart_of e) far)
          (All-cons (LeavesTags q) w [] (off-leaves q is w keeps) (All-nil (LeavesTags q)))))

      third-exchange : (a old new : ℕ) → access_of e ≡ exchange a old new → KeepsOff q (write a 4 new) → Holds c
      third-exchange a old new does keeps = third-holds
          (tags-left q is o es e m (next q es e m) held.tags (write a 4 new) (writes-by (exchange a old new) does) (off-leaves q is (write a 4 new) keeps)
          (λ p. next-other p (far p)))
          (subst (All (LeavesTags q)) (sym (own-quiet (exchange a old new) does (λ b. refl) (λ b. refl))) (held.third (hart_of e) far))

      third-land : access_of e ≡ land → (w : Write) (rest : List Write) → pending (hart_of e) es ≡ w ∷ rest → Holds c
      third-land does w rest first =
          let all : All (LeavesTags q) (w ∷ rest) = subst (All (LeavesTags q)) first (held.third (hart_of e) far) in
          third-holds (tags-left q is o es e m (next q es e m) held.tags w (writes-by land does ∙ ap (take 1) first) (All-head (LeavesTags q) w rest all)
          (λ p. next-other p (far p)))
          (subst (All (LeavesTags q)) (sym (own-landed does w rest first)) (All-tail (LeavesTags q) w rest all))

  acts : (c : QueueCounts) → Held q o es c m → (x : Access) → access_of e ≡ x
      → Whose q.sender q.receiver (hart_of e) → TellsAccess q (teller_of q (hart_of e)) c x
      → AllowedBy B (pending (hart_of e) es) (read o es (hart_of e)) x → Held q o after (told_access q (teller_of q (hart_of e)) x c) (next q es e m)
  acts c held x does (mine r at party) keeps allowed = subst (λ t. Held q o after (told_access q t x c) (next q es e m)) (sym party)
      (by x does (subst (λ t. TellsAccess q t c x) party keeps) allowed)
    where
      by : (x : Access) → access_of e ≡ x → TellsAccess q (Some r) c x → AllowedBy B (pending (hart_of e) es) (read o es (hart_of e)) x
          → Held q o after (told_access q (Some r) x c) (next q es e m)
      by nothing does keeps allowed = quiet-by c held r at nothing does (λ b. refl) (λ b. refl) (λ ws. refl)
      by (load a width v) does keeps allowed = quiet-by (after_load q r a width v c)
          (held-looked q is o es c m held r a width v (allowed ∙ ap (λ g. read o es g a width) at)) r at
          (load a width v) does (λ b. refl) (λ b. refl) (λ ws. refl)
      by (store w) does keeps allowed = store-by c held r at w does keeps
      by (exchange a old new) does keeps allowed = exchange-by (after_load q r a 4 old c)
          (held-looked q is o es c m held r a 4 old (allowed.1 ∙ ap (λ g. read o es g a 4) at)) r at a old new does allowed.0 keeps
      by (fence full) does keeps allowed = quiet-by c held r at (fence full) does (λ b. refl) (λ b. refl) (λ ws. refl)
      by land does keeps allowed = let split = some_first (pending (hart_of e) es) allowed in land-by c held r at does split.0 split.1 split.2
  acts c held x does (theirs far party) keeps allowed = subst (λ t. Held q o after (told_access q t x c) (next q es e m)) (sym party)
      (by x does (subst (λ t. TellsAccess q t c x) party keeps) allowed)
    where
      by : (x : Access) → access_of e ≡ x → TellsAccess q None c x → AllowedBy B (pending (hart_of e) es) (read o es (hart_of e)) x
          → Held q o after (told_access q None x c) (next q es e m)
      by nothing does keeps allowed = third-quiet c held far nothing does (λ b. refl) (λ b. refl) (λ ws. refl)
      by (load a width v) does keeps allowed = third-quiet c held far (load a width v) does (λ b. refl) (λ b. refl) (λ ws. refl)
      by (store w) does keeps allowed = third-store c held far w does keeps
      by (exchange a old new) does keeps allowed = third-exchange c held far a old new does keeps
      by (fence full) does keeps allowed = third-quiet c held far (fence full) does (λ b. refl) (λ b. refl) (λ ws. refl)
      by land does keeps allowed = let split = some_first (pending (hart_of e) es) allowed in third-land c held far does split.0 split.1 split.2

  pub one-on : (c : QueueCounts) → TellsAccess q (teller_of q (hart_of e)) c (access_of e) → Allowed B o es e → Held q o es c m
      → Held q o after (after_entry q c e) (next q es e m)
  one-on c keeps allowed held = acts c held (access_of e) refl (whose q.sender q.receiver (hart_of e)) keeps allowed
