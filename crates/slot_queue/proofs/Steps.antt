-- What one entry makes of a party's index.
use Rattle.std.proofs.Common.{ℕ, ◌≤◌, ◌≡◌, ◌≢◌, ◌==◌, ◌⊎◌, inl, inr, if◌then◌else◌, List, [], ◌∷◌, ◌++◌, length, take, refl, sym, ◌∙◌, ap, subst, arith}
use Rattle.std.specs.Prelude.{All}
use Rattle.std.proofs.lemmas.Bool.{cases_eq, eq-eqb, ne_eqb}
use Rattle.std.proofs.lemmas.List.Elements.{All-head, All-tail, All-nil, All-cons, All-append}
use Rattle.memory.specs.declared.writes.Write.{Write}
use Rattle.memory.specs.Writes.{write}
use Rattle.step_machine.specs.declared.events.Entry.{Entry}
use Rattle.step_machine.specs.Names.{OpeningValue, Access, store, exchange, land, access_of, Allowed, hart_of, stored_by, landed_by, written_by, own_store}
use Rattle.step_machine.specs.Names.{land_of, write_of, pending, own_stores, lands}
use Rattle.store_buffers.proofs.Effects.{number-quiet, pending-quiet, pending-more, pending-first}
use Rattle.store_buffers.specs.StoreBuffers.{memory_number}
use Rattle.slot_queue.specs.{Queue, IsQueue, index_word, hart, index, end, moved, moved_on}
use Rattle.queue_parties.specs.Parties.{Party, other, QueueCounts, count, known}
use Rattle.slot_queue.proofs.Sides.{Leaves, IsClean, Side, moved-more, moved_on-append, moved-leaves, word-written, word-same, moved-same}

module _ (q : Queue) (is : IsQueue q) (o : OpeningValue) (es : List Entry) (e : Entry) (even : (h : ℕ) → lands h es ≤ length (own_stores h es))
    (c : QueueCounts) (p : Party) (m : ℕ) (side : Side q o es c p m) where
  abbrev after : List Entry
  after = es ++ e ∷ []

  abbrev h : ℕ
  h = hart q p

  abbrev pub Next : QueueCounts → Type 0
  Next c2 = Side q o after c2 p (moved_on q p m (write_of es e))

  -- what a kind of access does, read off the entry
  module _ (x : Access) (does : access_of e ≡ x) where
    stores-by : (g : ℕ) → own_store g e ≡ stored_by (hart_of e == g) x
    stores-by g = ap (stored_by (hart_of e == g)) does

    lands-by : (g : ℕ) → land_of g e ≡ landed_by (hart_of e == g) x
    lands-by g = ap (landed_by (hart_of e == g)) does

    writes-by : write_of es e ≡ written_by (take 1 (pending (hart_of e) es)) x
    writes-by = ap (written_by (take 1 (pending (hart_of e) es))) does

  -- from what stands in memory and pending
  next-by : (c2 : QueueCounts) (ws : List Write) → write_of es e ≡ ws → Side q o after c2 p (moved_on q p m ws) → Next c2
  next-by c2 ws writes holds = subst (λ vs. Side q o after c2 p (moved_on q p m vs)) (sym writes) holds

  -- nothing is stored, and nothing lands
  pub stays : (c2 : QueueCounts) → write_of es e ≡ [] → ((g : ℕ) → own_store g e ≡ []) → ((g : ℕ) → land_of g e ≡ 0)
      → count p c2 ≡ count p c → known (other p) c2 ≤ m → count p c2 ≤ end q p c2 → Next c2
  stays c2 none unstored unlanded same knows room = next-by c2 [] none (record {
    word = number-quiet o es e (index q p) q.index_width none ∙ side.word;
    count_is = ap (moved_on q p m) (pending-quiet es e h (even h) (unstored h) (unlanded h)) ∙ side.count_is ∙ sym same;
    known_less = knows;
    own = subst (All (IsClean q p)) (sym (pending-quiet es e h (even h) (unstored h) (unlanded h))) side.own;
    others = λ g apart. subst (All (Leaves q p)) (sym (pending-quiet es e g (even g) (unstored g) (unlanded g))) (side.others g apart);
    room = room;
  })

  -- a store of the party's hart
  module _ (w : Write) (does : access_of e ≡ store w) (c2 : QueueCounts) where
    stored-of : own_store (hart_of e) e ≡ w ∷ []
    stored-of = stores-by (store w) does (hart_of e) ∙ ap (λ b. if b then w ∷ [] else []) (eq-eqb (hart_of e) (hart_of e) refl)

    more-of : pending (hart_of e) after ≡ pending (hart_of e) es ++ w ∷ []
    more-of = pending-more es e (hart_of e) (even (hart_of e)) w stored-of (lands-by (store w) does (hart_of e))

    kept-of : (g : ℕ) → hart_of e ≢ g → pending g after ≡ pending g es
    kept-of g apart = grind (arith, pending-quiet, stores-by, ne_eqb, lands-by)

    pub stores : hart_of e ≡ h → IsClean q p w → count p c2 ≡ moved q p (count p c) w → known (other p) c2 ≤ m → count p c2 ≤ end q p c2 → Next c2
    stores mine clean same knows room = next-by c2 [] (writes-by (store w) does) (record {
      word = number-quiet o es e (index q p) q.index_width (writes-by (store w) does) ∙ side.word;
      count_is = ap (moved_on q p m) more ∙ moved_on-append q p m (pending h es) (w ∷ []) ∙ ap (λ n. moved q p n w) side.count_is ∙ sym same;
      known_less = knows;
      own = subst (All (IsClean q p)) (sym more) (All-append (IsClean q p) (pending h es) (w ∷ []) side.own
          (All-cons (IsClean q p) w [] clean (All-nil (IsClean q p))));
      others = λ g apart. subst (All (Leaves q p)) (sym (kept-of g (λ s. apart (sym s ∙ mine)))) (side.others g apart);
      room = room;
    })
      where
        more : pending h after ≡ pending h es ++ w ∷ []
        more = subst (λ g. pending g after ≡ pending g es ++ w ∷ []) mine more-of

    pub stores-past : hart_of e ≢ h → Leaves q p w → count p c2 ≡ count p c → known (other p) c2 ≤ m → count p c2 ≤ end q p c2 → Next c2
    stores-past apart leaves same knows room = next-by c2 [] (writes-by (store w) does) (record {
      word = number-quiet o es e (index q p) q.index_width (writes-by (store w) does) ∙ side.word;
      count_is = ap (moved_on q p m) (kept-of h apart) ∙ side.count_is ∙ sym same;
      known_less = knows;
      own = subst (All (IsClean q p)) (sym (kept-of h apart)) side.own;
      others = λ g far. at g far (cases_eq (hart_of e) g);
      room = room;
    })
      where
        at : (g : ℕ) → g ≢ h → (hart_of e ≡ g) ⊎ (hart_of e ≢ g) → All (Leaves q p) (pending g after)
        at g far (inl here) = subst (λ k. All (Leaves q p) (pending k after)) here (subst (All (Leaves q p)) (sym more-of)
            (All-append (Leaves q p) (pending (hart_of e) es) (w ∷ []) (side.others (hart_of e) apart)
            (All-cons (Leaves q p) w [] leaves (All-nil (Leaves q p)))))
        at g far (inr there) = subst (All (Leaves q p)) (sym (kept-of g there)) (side.others g far)

  -- an AMO's store, which is at once in memory
  module _ (a old new : ℕ) (does : access_of e ≡ exchange a old new) (c2 : QueueCounts) where
    quiet : (g : ℕ) → pending g after ≡ pending g es
    quiet g = pending-quiet es e g (even g) (stores-by (exchange a old new) does g) (lands-by (exchange a old new) does g)

    exchanged : memory_number o after (index q p) q.index_width ≡ index_word q (moved q p m (write a 4 new))
        → count p c2 ≡ moved_on q p (moved q p m (write a 4 new)) (pending h es) → known (other p) c2 ≤ m → count p c2 ≤ end q p c2 → Next c2
    exchanged word same knows room = next-by c2 (write a 4 new ∷ []) (writes-by (exchange a old new) does) (record {
      word = word;
      count_is = ap (moved_on q p (moved q p m (write a 4 new))) (quiet h) ∙ sym same;
      known_less = (let more : m ≤ moved q p m (write a 4 new) = moved-more q p m (write a 4 new) in omega (arith, more, knows));
      own = subst (All (IsClean q p)) (sym (quiet h)) side.own;
      others = λ g far. subst (All (Leaves q p)) (sym (quiet g)) (side.others g far);
      room = room;
    })

    pub exchanges : pending h es ≡ [] → IsClean q p (write a 4 new) → count p c2 ≡ moved q p (count p c) (write a 4 new) → known (other p) c2 ≤ m
        → count p c2 ≤ end q p c2 → Next c2
    exchanges none clean same knows room = exchanged (word-written q is o es e p (write a 4 new) m (writes-by (exchange a old new) does) clean side.word)
        (same ∙ ap (λ n. moved q p n (write a 4 new)) (sym side.count_is ∙ ap (moved_on q p m) none)
        ∙ ap (moved_on q p (moved q p m (write a 4 new))) (sym none)) knows room

    pub exchanges-past : Leaves q p (write a 4 new) → count p c2 ≡ count p c → known (other p) c2 ≤ m → count p c2 ≤ end q p c2 → Next c2
    exchanges-past leaves same knows room =
        exchanged (word-written q is o es e p (write a 4 new) m (writes-by (exchange a old new) does) (inl leaves) side.word)
        (same ∙ sym side.count_is ∙ ap (λ n. moved_on q p n (pending h es)) (sym (moved-leaves q is p m (write a 4 new) leaves))) knows room

    -- one that writes the word that it read
    pub exchanges-same : (B : ℕ) → new ≡ old → Allowed B o es e → count p c2 ≡ count p c → known (other p) c2 ≤ m → count p c2 ≤ end q p c2 → Next c2
    exchanges-same B level allowed same knows room =
        let stays_m : moved q p m (write a 4 new) ≡ m = moved-same q is B o es e a old new does level allowed p m side.word in
        exchanged (word-same q is B o es e a old new does level allowed p m side.word ∙ ap (index_word q) (sym stays_m))
        (same ∙ sym side.count_is ∙ ap (λ n. moved_on q p n (pending h es)) (sym stays_m)) knows room

  -- a landing, of which no count knows
  module _ (does : access_of e ≡ land) (w : Write) (rest : List Write) (first : pending (hart_of e) es ≡ w ∷ rest) where
    left-of : pending (hart_of e) after ≡ rest
    left-of = grind (arith, pending-first, stores-by, lands-by, eq-eqb)

    unlanded : (g : ℕ) → hart_of e ≢ g → pending g after ≡ pending g es
    unlanded g apart = grind (arith, pending-quiet, stores-by, lands-by, ne_eqb)

    writes : write_of es e ≡ w ∷ []
    writes = writes-by land does ∙ ap (take 1) first

    knows : known (other p) c ≤ moved q p m w
    knows = let more : m ≤ moved q p m w = moved-more q p m w in omega (arith, more, side.known_less)

    pub lands-one : Next c
    lands-one = at (cases_eq (hart_of e) h)
      where
        at : (hart_of e ≡ h) ⊎ (hart_of e ≢ h) → Next c
        at (inl mine) = next-by c (w ∷ []) writes (record {
          word = word-written q is o es e p w m writes (All-head (IsClean q p) w rest clean) side.word;
          count_is = ap (moved_on q p (moved q p m w)) left ∙ ap (moved_on q p m) (sym had) ∙ side.count_is;
          known_less = knows;
          own = subst (All (IsClean q p)) (sym left) (All-tail (IsClean q p) w rest clean);
          others = λ g far. subst (All (Leaves q p)) (sym (unlanded g (λ s. far (sym s ∙ mine)))) (side.others g far);
          room = side.room;
        })
          where
            had : pending h es ≡ w ∷ rest
            had = ap (λ g. pending g es) (sym mine) ∙ first

            left : pending h after ≡ rest
            left = ap (λ g. pending g after) (sym mine) ∙ left-of

            clean : All (IsClean q p) (w ∷ rest)
            clean = subst (All (IsClean q p)) had side.own
        at (inr apart) = next-by c (w ∷ []) writes (record {
          word = word-written q is o es e p w m writes (inl (All-head (Leaves q p) w rest leave)) side.word;
          count_is = ap (λ n. moved_on q p n (pending h after)) (moved-leaves q is p m w (All-head (Leaves q p) w rest leave))
              ∙ ap (moved_on q p m) (unlanded h apart) ∙ side.count_is;
          known_less = knows;
          own = subst (All (IsClean q p)) (sym (unlanded h apart)) side.own;
          others = λ g far. other_of g far (cases_eq (hart_of e) g);
          room = side.room;
        })
          where
            leave : All (Leaves q p) (w ∷ rest)
            leave = subst (All (Leaves q p)) first (side.others (hart_of e) apart)

            other_of : (g : ℕ) → g ≢ h → (hart_of e ≡ g) ⊎ (hart_of e ≢ g) → All (Leaves q p) (pending g after)
            other_of g far (inl here) = subst (λ k. All (Leaves q p) (pending k after)) here (subst (All (Leaves q p)) (sym left-of)
                (All-tail (Leaves q p) w rest leave))
            other_of g far (inr there) = subst (All (Leaves q p)) (sym (unlanded g there)) (side.others g far)
