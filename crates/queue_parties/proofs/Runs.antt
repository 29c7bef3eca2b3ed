-- A run that keeps a protocol of ownership, whatever it is that moves a count: what a party's hart stored in a position's slot is what the other
-- reads there, once the party handed the position over.
use Rattle.std.proofs.Common.{ℕ, ◌+◌, ◌<◌, ◌≤◌, ◌≡◌, ◌≢◌, ◌⊎◌, inl, inr, List, [], ◌∷◌, ◌++◌, length, drop, None, refl, sym, ◌∙◌, ap, subst, arith}
use Rattle.std.proofs.Common.{append-nil, append_assoc}
use Rattle.std.specs.Prelude.{All, unwrap_or}
use Rattle.std.proofs.lemmas.List.{drop-drop}
use Rattle.std.proofs.lemmas.List.Elements.{All-drop}
use Rattle.memory.specs.declared.writes.Write.{Write}
use Rattle.step_machine.specs.declared.events.Entry.{Entry}
use Rattle.step_machine.specs.Names.{OpeningValue, history_of, store, access_of, hart_of, pending, own_stores, lands, memory_byte, read_byte, LegalAfter, Legal}
use Rattle.step_machine.proofs.{lands-append, LegalAfter-front, LegalAfter-back, balanced}
use Rattle.store_buffers.specs.StoreBuffers.{LeavesByte, LeavesByteBy, LeavesByteAt, AllLeaveByte, IsOnlyWriter}
use Rattle.store_buffers.proofs.Reading.{passed_over}
use Rattle.store_buffers.proofs.MessagePassing.{kept, handed_over}
use Rattle.store_buffers.proofs.LateStores.{late-stores, all-by-parts, at-by-parts, leaves-at}
use Rattle.queue_parties.specs.Parties.{Party, the_sender, the_receiver, other, QueueCounts, IsWindow, count, known, counts_from, moved_through}
use Rattle.queue_parties.proofs.Parties.{Whose, mine, theirs, whose, two, twice, Grows, counts-append, grows-from}
use Rattle.queue_parties.proofs.Landed.{Moves, published as published-by, published_with as published-with}
use Rattle.queue_parties.proofs.Positions.{Shape, hart, IsByteOf, end, gap, Owned, given-up, not-owned, not-yet}

-- ---- what such a run has

-- how a party's writes move its count, and what that is in memory after each front: the pending stores make the true one of it, and the other party
-- knows of no more
pub record Counting (s : Shape) (next : QueueCounts → Entry → QueueCounts) (start : QueueCounts) (B : ℕ) (o : OpeningValue) (before es : List Entry)
    (p : Party) : Type 0 where
  pub moved : ℕ → Write → ℕ
  pub more_moved : (n : ℕ) (w : Write) → n ≤ moved n w
  pub memory : List Entry → ℕ
  pub moves : (done : List Entry) (e : Entry) (rest : List Entry) → es ≡ done ++ e ∷ rest
      → Moves B o (hart s p) moved more_moved (before ++ done) e (memory done) (memory (done ++ e ∷ []))
  pub count_is : (done rest : List Entry) → es ≡ done ++ rest
      → moved_through moved (memory done) (pending (hart s p) (before ++ done)) ≡ count p (counts_from next start done)
  pub known_less : known (other p) (counts_from next start es) ≤ memory es

-- and that each access leaves a byte of a slot, unless it is of a party that owns the byte
pub record Run (s : Shape) (next : QueueCounts → Entry → QueueCounts) (start : QueueCounts) (B : ℕ) (o : OpeningValue) (before es : List Entry) : Type 0 where
  pub some : 1 ≤ s.size
  pub fits : s.capacity ≤ s.size
  pub legal : Legal B (history_of o (before ++ es))
  pub grows : (c : QueueCounts) (e : Entry) → Grows c (next c e)
  pub window : (done rest : List Entry) → es ≡ done ++ rest → IsWindow s.capacity (counts_from next start done)
  pub counting : (done rest : List Entry) → es ≡ done ++ rest → (p : Party) → Counting s next start B o before done p
  pub quiet : (k x : ℕ) → IsByteOf s k x → (h : ℕ) → All (LeavesByte x) (pending h before)
  pub third : (done : List Entry) (e : Entry) (rest : List Entry) → es ≡ done ++ e ∷ rest → ((p : Party) → hart_of e ≢ hart s p) → (k x : ℕ) → IsByteOf s k x
      → LeavesByteBy x (access_of e)
  pub own : (done : List Entry) (e : Entry) (rest : List Entry) → es ≡ done ++ e ∷ rest → (p : Party) → hart_of e ≡ hart s p → (k x : ℕ) → IsByteOf s k x
      → LeavesByteBy x (access_of e) ⊎ Owned s x p (counts_from next start done) (counts_from next start (done ++ e ∷ []))

module _ (s : Shape) (next : QueueCounts → Entry → QueueCounts) (start : QueueCounts) (B : ℕ) (o : OpeningValue) (before : List Entry) where
  abbrev at : List Entry → QueueCounts
  at done = counts_from next start done

  pub front : (es fr gs : List Entry) → es ≡ fr ++ gs → Run s next start B o before es → Run s next start B o before fr
  front es fr gs cut r = record {
    some = r.some;
    fits = r.fits;
    legal = LegalAfter-front B o [] (before ++ fr) gs (subst (LegalAfter B o []) (ap (λ xs. before ++ xs) cut ∙ sym (append_assoc before fr gs)) r.legal);
    grows = r.grows;
    window = λ done rest is. r.window done (rest ++ gs) (on done rest is);
    counting = λ done rest is. r.counting done (rest ++ gs) (on done rest is);
    quiet = r.quiet;
    third = λ done e rest is. r.third done e (rest ++ gs) (on done (e ∷ rest) is);
    own = λ done e rest is. r.own done e (rest ++ gs) (on done (e ∷ rest) is);
  }
    where
      on : (done rest : List Entry) → fr ≡ done ++ rest → es ≡ done ++ (rest ++ gs)
      on done rest is = cut ∙ ap (λ xs. xs ++ gs) is ∙ append_assoc done rest gs

  module _ (es : List Entry) (r : Run s next start B o before es) where
    pub grown : (fr gs : List Entry) → Grows (at fr) (at (fr ++ gs))
    grown fr gs = subst (Grows (at fr)) (sym (counts-append next start fr gs)) (grows-from next r.grows (at fr) gs)

    -- ---- what a party's hart had stored before its count moved on is in memory, once the other party knows of more

    module _ (p : Party) where
      abbrev c : Counting s next start B o before es p
      c = r.counting es [] (sym (append-nil es)) p

      pub published : (fr gs : List Entry) → es ≡ fr ++ gs → count p (at fr) < known (other p) (at es)
          → length (own_stores (hart s p) (before ++ fr)) ≤ lands (hart s p) (before ++ es)
      published fr gs cut more = published-by B o (hart s p) c.moved c.more_moved before es r.legal c.memory c.moves fr gs cut (count p (at fr))
          (c.count_is fr gs cut) (omega (arith, more, c.known_less))

      -- and what the hart stored by the next entry too: so also a store that moves the count
      pub published_with : (fr : List Entry) (e : Entry) (gs : List Entry) → es ≡ fr ++ e ∷ gs → count p (at fr) < known (other p) (at es)
          → length (own_stores (hart s p) (before ++ (fr ++ e ∷ []))) ≤ lands (hart s p) (before ++ es)
      published_with fr e gs cut more = published-with B o (hart s p) c.moved c.more_moved before es r.legal c.memory c.moves fr e gs cut (count p (at fr))
          (c.count_is fr (e ∷ gs) cut) (omega (arith, more, c.known_less))

    -- ---- once a party's count is past position k, nobody writes the position's slot but the other party, until that has given it up

    module _ (fr gs : List Entry) (cut : es ≡ fr ++ gs) (p : Party) (k : ℕ) (past : k < count p (at fr)) (x : ℕ) (of_k : IsByteOf s k x)
        (given : count (other p) (at es) ≤ k + gap s p) (left : LeavesByteAt (hart s (other p)) x gs) where
      part : (es1 : List Entry) (e : Entry) (es2 : List Entry) → gs ≡ es1 ++ e ∷ es2 → LeavesByteBy x (access_of e)
      part es1 e es2 split = by (whose s.sender s.receiver (hart_of e))
        where
          done : List Entry
          done = fr ++ es1

          parts : es ≡ done ++ e ∷ es2
          parts = cut ∙ ap (λ xs. fr ++ xs) split ∙ sym (append_assoc fr es1 (e ∷ es2))

          parts2 : es ≡ (done ++ e ∷ []) ++ es2
          parts2 = parts ∙ sym (append_assoc done (e ∷ []) es2)

          own : hart_of e ≡ hart s p → LeavesByteBy x (access_of e)
          own here = elim (r.own done e es2 parts p here k x of_k) [
            | inl leaves ↦ leaves
            | inr owns ↦
                let more : count p (at fr) ≤ count p (at done) = (grown fr es1).counts p in
                absurd (not-owned s r.some r.fits x p (at done) (at (done ++ e ∷ [])) (at es) k owns.position (r.window (done ++ e ∷ []) es2 parts2)
                (subst (λ xs. Grows (at (done ++ e ∷ [])) (at xs)) (sym parts2) (grown (done ++ e ∷ []) es2)) of_k owns.byte (omega (arith, past, more))
                owns.from owns.before given)
          ]

          by : Whose s.sender s.receiver (hart_of e) → LeavesByteBy x (access_of e)
          by (theirs far party) = r.third done e es2 parts far k x of_k
          by (mine t here party) = elim (two p t) [
            | inr same ↦ leaves-at (hart s (other p)) x es1 e es2 (subst (LeavesByteAt (hart s (other p)) x) split left) (here ∙ ap (hart s) same)
            | inl same ↦ own (here ∙ ap (hart s) same)
          ]

      pub leave-after : AllLeaveByte x gs
      leave-after = all-by-parts x gs part

    -- ---- between where the sender owned a position and where the receiver learns of it, the receiver's hart leaves the slot

    pub unlearned : (fr gs : List Entry) → es ≡ fr ++ gs → (k x : ℕ) → IsByteOf s k x → k < end s the_sender (at fr) → (at es).known_published ≤ k
        → LeavesByteAt s.receiver x gs
    unlearned fr gs cut k x of_k sent yet = at-by-parts s.receiver x gs part
      where
        part : (es1 : List Entry) (e : Entry) (es2 : List Entry) → gs ≡ es1 ++ e ∷ es2 → hart_of e ≡ s.receiver → LeavesByteBy x (access_of e)
        part es1 e es2 split here = elim (r.own (fr ++ es1) e es2 parts the_receiver here k x of_k) [
          | inl leaves ↦ leaves
          | inr owns ↦
              let more : (at fr).taken ≤ (at (fr ++ es1)).taken = (grown fr es1).counts the_receiver in
              let later : (at ((fr ++ es1) ++ e ∷ [])).known_published ≤ (at es).known_published =
              subst (λ xs. (at ((fr ++ es1) ++ e ∷ [])).known_published ≤ (at xs).known_published)
              (sym (parts ∙ sym (append_assoc (fr ++ es1) (e ∷ []) es2))) ((grown ((fr ++ es1) ++ e ∷ []) es2).knows the_receiver) in
              absurd (not-yet s r.some r.fits x (at fr) k owns.position (r.window fr gs cut) of_k owns.byte sent (omega (arith, more, owns.from))
              (omega (arith, owns.before, later, yet)))
        ]
          where
            parts : es ≡ (fr ++ es1) ++ e ∷ es2
            parts = cut ∙ ap (λ xs. fr ++ xs) split ∙ sym (append_assoc fr es1 (e ∷ es2))

    -- ---- a record that waits where the run begins

    pub waited : (k x : ℕ) → IsByteOf s k x → k < start.published → (at es).taken ≤ k → LeavesByteAt s.receiver x es → (g h : ℕ)
        → read_byte o (before ++ es) h x ≡ read_byte o before g x
    waited k x of_k sent given left g h =
        (kept B o h x before es (λ a. balanced B (history_of o before) a (LegalAfter-front B o [] before es r.legal)) (LegalAfter-back B o [] before es r.legal)
        (λ a apart. r.quiet k x of_k a) (leave-after [] es refl the_sender k sent x of_k (omega (arith, given)) left)).0 ∙ in-memory h ∙ sym (in-memory g)
      where
        in-memory : (h : ℕ) → read_byte o before h x ≡ memory_byte o before x
        in-memory h = ap (λ found. unwrap_or found (memory_byte o before x)) (passed_over x None (pending h before) (r.quiet k x of_k h))

    -- ---- where a party owns position k at the run's end, and had not passed it before entries that are its own alone, `last`

    module _ (fr last : List Entry) (cut : es ≡ fr ++ last) (p : Party) (k : ℕ) (from : count p (at fr) ≤ k) (below : k < end s p (at es))
        (alone : (g : ℕ) → g ≢ hart s p → own_stores g (before ++ es) ≡ own_stores g (before ++ fr)) (x : ℕ) (of_k : IsByteOf s k x) where
      -- a store by the other party that could still be pending: the party knows of a later count, so it has landed
      late : (t : Party) → t ≡ other p → (es1 : List Entry) (e : Entry) (es2 : List Entry) (w : Write) → fr ≡ es1 ++ e ∷ es2 → hart_of e ≡ hart s t
          → access_of e ≡ store w → lands (hart s t) (before ++ es) < length (own_stores (hart s t) (before ++ (es1 ++ e ∷ []))) → LeavesByte x w
      late t same es1 e es2 w split here does behind = subst (LeavesByteBy x) does (elim (r.own es1 e (es2 ++ last) parts t here k x of_k) [
        | inl leaves ↦ leaves
        | inr owns ↦
            let knows : owns.position < known p (at es) = given-up s r.some r.fits x p (at (es1 ++ e ∷ [])) (at fr) (at es) k owns.position
            (r.window (es1 ++ e ∷ []) (es2 ++ last) (parts ∙ sym (append_assoc es1 (e ∷ []) (es2 ++ last))))
            (subst (λ xs. Grows (at (es1 ++ e ∷ [])) (at xs)) (append_assoc es1 (e ∷ []) es2 ∙ sym split) (grown (es1 ++ e ∷ []) es2))
            of_k owns.byte from below (subst (λ u. owns.position < end s u (at (es1 ++ e ∷ []))) same owns.before) in
            let knows2 : owns.position < known (other t) (at es) = subst (λ u. owns.position < known u (at es)) (sym (ap other same ∙ twice p)) knows in
            let landed : length (own_stores (hart s t) (before ++ (es1 ++ e ∷ []))) ≤ lands (hart s t) (before ++ es) =
            published_with t es1 e (es2 ++ last) parts (omega (arith, owns.from, knows2)) in
            absurd (omega (arith, landed, behind))
      ])
        where
          parts : es ≡ es1 ++ e ∷ (es2 ++ last)
          parts = cut ∙ ap (λ xs. xs ++ last) split ∙ append_assoc es1 (e ∷ es2) last

      -- no other hart has a pending store over the byte
      pub only-writer : IsOnlyWriter (hart s p) x (before ++ es)
      only-writer g apart = subst (λ ws. All (LeavesByte x) (drop (lands g (before ++ es)) ws)) (sym (alone g apart))
          (late-stores (LeavesByte x) g (lands g (before ++ es)) before fr here at_first)
        where
          at_first : All (LeavesByte x) (drop (lands g (before ++ es)) (own_stores g before))
          at_first =
              let more : lands g (before ++ es) ≡ lands g before + lands g es = lands-append g before es in
              subst (λ l. All (LeavesByte x) (drop l (own_stores g before))) (sym more)
              (subst (All (LeavesByte x)) (drop-drop (lands g es) (lands g before) (own_stores g before))
              (All-drop (LeavesByte x) (lands g es) (pending g before) (r.quiet k x of_k g)))

          here : (es1 : List Entry) (e : Entry) (es2 : List Entry) (w : Write) → fr ≡ es1 ++ e ∷ es2 → hart_of e ≡ g → access_of e ≡ store w
              → lands g (before ++ es) < length (own_stores g (before ++ (es1 ++ e ∷ []))) → LeavesByte x w
          here es1 e es2 w split of_g does behind = by (whose s.sender s.receiver (hart_of e))
            where
              by : Whose s.sender s.receiver (hart_of e) → LeavesByte x w
              by (theirs far party) = subst (LeavesByteBy x) does
                  (r.third es1 e (es2 ++ last) (cut ∙ ap (λ xs. xs ++ last) split ∙ append_assoc es1 (e ∷ es2) last) far k x of_k)
              by (mine t at_t party) = elim (two p t) [
                | inl same ↦ absurd (apart (sym of_g ∙ at_t ∙ ap (hart s) same))
                | inr same ↦ late t same es1 e es2 w split at_t does
                    (subst (λ h. lands h (before ++ es) < length (own_stores h (before ++ (es1 ++ e ∷ [])))) (sym of_g ∙ at_t) behind)
              ]

  -- so once what the party's hart had stored there has landed, every hart reads it, until somebody writes the byte
  pub handed : (es : List Entry) → Run s next start B o before es → (pt gs : List Entry) → es ≡ pt ++ gs → (fr last : List Entry) → pt ≡ fr ++ last
      → (p : Party) (k : ℕ) → count p (at fr) ≤ k → k < end s p (at pt)
      → ((g : ℕ) → g ≢ hart s p → own_stores g (before ++ pt) ≡ own_stores g (before ++ fr)) → (x : ℕ) → IsByteOf s k x
      → length (own_stores (hart s p) (before ++ pt)) ≤ lands (hart s p) (before ++ es) → AllLeaveByte x gs
      → (h : ℕ) → read_byte o (before ++ es) h x ≡ read_byte o (before ++ pt) (hart s p) x
  handed es r pt gs cut fr last made p k from below alone x of_k landed leave h =
      let place : (before ++ pt) ++ gs ≡ before ++ es = append_assoc before pt gs ∙ ap (λ xs. before ++ xs) (sym cut) in
      subst (λ xs. read_byte o xs h x ≡ read_byte o (before ++ pt) (hart s p) x) place
      (handed_over B o (hart s p) h x (before ++ pt) gs (subst (λ xs. Legal B (history_of o xs)) (sym place) r.legal)
      (subst (λ xs. length (own_stores (hart s p) (before ++ pt)) ≤ lands (hart s p) xs) (sym place) landed)
      (only-writer pt (front es pt gs cut r) fr last made p k from below alone x of_k) leave)
