-- While both indices have landed, no run stands still for long: the looks of both parties are exact as long as nothing moves, and both can't find
-- that they have to wait.
use Rattle.std.proofs.Common.{ℕ, ◌+◌, ◌<◌, ◌≤◌, ◌≡◌, ◌==◌, ◌&&◌, ◌⊎◌, inl, inr, if◌then◌else◌, true, Some, List, [], ◌∷◌, ◌++◌, length, sym, ◌∙◌, ap, subst}
use Rattle.std.proofs.Common.{arith, append_assoc, append-nil}
use Rattle.std.proofs.lemmas.Bool.{eq-eqb, cases_lt}
use Rattle.step_machine.specs.declared.events.Entry.{Entry}
use Rattle.step_machine.specs.Names.{OpeningValue, history_of, Access, nothing, load, store, exchange, fence, land, access_of, hart_of, is_own, pending, read}
use Rattle.step_machine.specs.Names.{write_of, WellFormed, AllowedBy}
use Rattle.step_machine.proofs.{LegalAfter-back, kept-front}
use Rattle.store_buffers.proofs.OwnEntries.{own_parts}
use Rattle.memory.specs.Writes.{write}
use Rattle.queue_parties.specs.Parties.{Party, the_sender, the_receiver, other, QueueCounts, count, known, with_known, all_at, counts_from}
use Rattle.queue_parties.proofs.Parties.{Grows, counts-append, harts-apart, known-set, twice}
use Rattle.slot_queue.specs.{Queue, index_word, least_count, hart, index, end, after_load, after_access, counts_next, moved, FollowsOwnership}
use Rattle.slot_queue.proofs.{least-near, Side, moved_on-more, allowance, allowances, end-is, reads-other, found, Bounds, bounds, sides-of, memory_at}
use Rattle.slot_queue.proofs.{memory-last, grows-after}
use Rattle.queue_certificates.specs.Certificates.{QueueCertificate, queue_at, start_at, accepts}
use Rattle.queue_certificates.proofs.{hart-party, fine, accepted_runs}
use Rattle.queue_progress.specs.{Pace, executed, counts_at, LooksBy, IsStuckStep, all_moved, HaveLanded, keeps_going}
use Rattle.queue_progress.proofs.Moved.{same-part, turn}
use Rattle.queue_progress.proofs.Going.{looks?, counted-known, going}

module _ (B M : ℕ) (o : OpeningValue) (c : QueueCertificate) (ok : accepts o c ≡ true) (i : ℕ) (less : i < length c.queues) where
  abbrev q : Queue
  q = queue_at c i

  abbrev cnt : List Entry → QueueCounts
  cnt es = counts_at c i es

  onward : (es fs : List Entry) → cnt (es ++ fs) ≡ counts_from (counts_next q) (cnt es) fs
  onward es fs = counts-append (counts_next q) (all_at (start_at c i)) es fs

  pub grown : (es fs : List Entry) → Grows (counts_at c i es) (counts_at c i (es ++ fs))
  grown es fs = subst (Grows (cnt es)) (sym (onward es fs)) (grows-after q (cnt es) fs)

  module _ (p : Party) (b : Pace) where
    abbrev K : ℕ
    K = b.owned

    abbrev h : ℕ
    h = hart (queue_at c i) p

    -- ---- a look finds what there is, where the other's count in memory is the true one

    abbrev in-memory : List Entry → Party → ℕ
    in-memory es = memory_at (queue_at c i) (all_at (start_at c i)) [] es

    fresh : (es : List Entry) (e : Entry) → WellFormed B M (history_of o (es ++ e ∷ [])) → in-memory es (other p) ≡ count (other p) (counts_at c i es)
        → is_own h e ≡ true → LooksBy q p (access_of e) → known p (counts_next q (counts_at c i es) e) ≡ count (other p) (counts_at c i es)
    fresh es e run there on looks =
        ap (λ t. known p (after_access q t (access_of e) (counts_at c i es))) (hart-party q follows.queue (hart_of e) p mine)
        ∙ by (access_of e) (subst (λ n. AllowedBy B (pending n es) (read o es n) (access_of e)) mine (LegalAfter-back B o [] es (e ∷ []) run.legal).0) looks
        ∙ there
      where
        mine : hart_of e ≡ h
        mine = (own_parts h e on).0

        follows : FollowsOwnership B (queue_at c i) (all_at (start_at c i)) o [] es
        follows = accepted_runs B M o c ok es (kept-front B M o es (e ∷ []) run) i less

        m : Party → ℕ
        m = memory_at (queue_at c i) (all_at (start_at c i)) [] es

        sides : (t : Party) → Side q o es (counts_at c i es) t (m t)
        sides = sides-of B (queue_at c i) (all_at (start_at c i)) o [] es follows

        reads : read o es h (index q (other p)) q.index_width ≡ index_word q (m (other p))
        reads = reads-other q o es (counts_at c i es) (other p) (m (other p)) (sides (other p)) h (harts-apart q.sender q.receiver follows.queue.parties p)

        loads : (a width v : ℕ) → a ≡ index q (other p) → width ≡ q.index_width → v ≡ read o es h a width
            → known p (after_load q p a width v (counts_at c i es)) ≡ m (other p)
        loads a width v at wide is =
            ap (λ b. known p (if b && (width == q.index_width)
            then with_known p (least_count q (known p (counts_at c i es)) v) (counts_at c i es) else counts_at c i es))
            (eq-eqb a (index q (other p)) at)
            ∙ ap (λ b. known p
            (if b then with_known p (least_count q (known p (counts_at c i es)) v) (counts_at c i es) else counts_at c i es))
            (eq-eqb width q.index_width wide)
            ∙ known-set p (least_count q (known p (counts_at c i es)) v) (counts_at c i es)
            ∙ ap (λ n. least_count q (known p (counts_at c i es)) n)
            (is ∙ ap (λ n. read o es h n width) at ∙ ap (λ n. read o es h (index q (other p)) n) wide ∙ reads)
            ∙ found q follows.queue o es (counts_at c i es) m sides p (fine M o c ok i less).1

        by : (y : Access) → AllowedBy B (pending h es) (read o es h) y → LooksBy q p y → known p (after_access q (Some p) y (counts_at c i es)) ≡ m (other p)
        by (load a width v) allowed looks = loads a width v looks.0 looks.1 allowed
        by (exchange a old new) allowed looks =
            counted-known q follows.queue p
            (moved q p (count p (after_load q p a 4 old (counts_at c i es))) (write a 4 new))
            (after_load q p a 4 old (counts_at c i es)) p
            ∙ loads a 4 old looks.0 looks.1 allowed.1
        by nothing allowed looks = absurd looks
        by (store w) allowed looks = absurd looks
        by (fence full) allowed looks = absurd looks
        by land allowed looks = absurd looks

    -- memory's count of the other goes no way back, and not past the true one; so it stays true while that stays
    further-on : (es row : List Entry) → in-memory es (other p) ≤ in-memory (es ++ row) (other p)
    further-on es [] = subst (λ xs. in-memory es (other p) ≤ in-memory xs (other p)) (sym (append-nil es)) (omega arith)
    further-on es (e ∷ row) =
        let one : in-memory es (other p) ≤ in-memory (es ++ e ∷ []) (other p) = subst (λ n. in-memory es (other p) ≤ n)
        (sym (memory-last (queue_at c i) (λ t. count t (all_at (start_at c i))) [] es e (other p)))
        (moved_on-more (queue_at c i) (other p) (in-memory es (other p)) (write_of es e)) in
        let rest : in-memory (es ++ e ∷ []) (other p) ≤ in-memory (es ++ e ∷ row) (other p) =
        subst (λ xs. in-memory (es ++ e ∷ []) (other p) ≤ in-memory xs (other p)) (append_assoc es (e ∷ []) row) (further-on (es ++ e ∷ []) row) in
        omega (arith, one, rest)

    no-more : (es : List Entry) → WellFormed B M (history_of o es) → in-memory es (other p) ≤ count (other p) (counts_at c i es)
    no-more es run = (bounds q o es (counts_at c i es) (other p) (in-memory es (other p))
        (sides-of B (queue_at c i) (all_at (start_at c i)) o [] es (accepted_runs B M o c ok es run i less) (other p))).there

    -- ---- a row in which the party executes enough instructions: more is published or taken, or it has to wait

    abbrev IsStuck : List Entry → Entry → Type 0
    IsStuck es e = IsStuckStep q p K (cnt es) e

    -- it looks, and finds that it owns no more
    abbrev FindsFew : List Entry → Entry → Type 0
    FindsFew es e = LooksBy q p (access_of e) × (end q p (counts_next q (cnt es) e) ≤ count p (cnt es) + K)

    stuck? : (es : List Entry) (e : Entry) → is_own h e ≡ true → count p (cnt (es ++ e ∷ [])) ≡ count p (cnt es) → IsStuck es e ⊎ FindsFew es e
    stuck? es e on stays = by (looks? q (fine M o c ok i less).0 p (access_of e)) (cases_lt (count p (cnt es) + K) (end q p (counts_next q (cnt es) e)))
      where
        still : count p (counts_next q (cnt es) e) ≡ count p (cnt es)
        still = ap (count p) (sym (onward es (e ∷ []))) ∙ stays

        by : LooksBy q p (access_of e) ⊎ (LooksBy q p (access_of e) → ⊥)
            → (count p (cnt es) + K < end q p (counts_next q (cnt es) e)) ⊎ (end q p (counts_next q (cnt es) e) ≤ count p (cnt es) + K)
            → IsStuck es e ⊎ FindsFew es e
        by (inr unseen) more = inl (record { stays = still; finds = λ look. absurd (unseen look) })
        by (inl look) (inl more) = inl (record { stays = still; finds = λ look. more })
        by (inl look) (inr few) = inr (look, few)

    -- while nothing moves the look is exact
    why : (es front : List Entry) (e : Entry) → WellFormed B M (history_of o ((es ++ front) ++ e ∷ [])) → in-memory es (other p) ≡ count (other p) (cnt es)
        → all_moved (cnt (es ++ front)) ≤ all_moved (cnt es) → is_own h e ≡ true → FindsFew (es ++ front) e
        → count (other p) (cnt (es ++ front)) + allowance q p ≤ count p (cnt (es ++ front)) + K
    why es front e run there same on few =
        let low : in-memory es (other p) ≤ in-memory (es ++ front) (other p) = further-on es front in
        let high : in-memory (es ++ front) (other p) ≤ count (other p) (cnt (es ++ front)) =
        no-more (es ++ front) (kept-front B M o (es ++ front) (e ∷ []) run) in
        let stays : count (other p) (cnt (es ++ front)) ≡ count (other p) (cnt es) =
        same-part (cnt es) (cnt (es ++ front)) (grown es front) (other p) same in
        subst (λ n. n + allowance q p ≤ count p (cnt (es ++ front)) + K) (fresh (es ++ front) e run (omega (arith, low, high, stays, there)) on few.0)
        (subst (λ n. n ≤ count p (cnt (es ++ front)) + K) (end-is q p (counts_next q (cnt (es ++ front)) e)) few.1)

    goes-or-waits : keeps_going o c (hart (queue_at c i) p) i b ≡ true → (es row : List Entry) → WellFormed B M (history_of o (es ++ row))
        → in-memory es (other p) ≡ count (other p) (counts_at c i es) → b.pace + b.sight + 1 < executed (hart (queue_at c i) p) row
        → (all_moved (cnt es) < all_moved (cnt (es ++ row))) ⊎ (count (other p) (cnt es) + allowance q p ≤ count p (cnt es) + K)
    goes-or-waits goes = turn B M o h p (counts_at c i) grown IsStuck FindsFew stuck? (λ es. in-memory es (other p) ≡ count (other p) (cnt es))
        (λ mine theirs. theirs + allowance q p ≤ mine + K) why (b.pace + b.sight + 1) (going B M o c ok i p less b goes)

  -- ---- both parties

  true-in-memory : (es : List Entry) → WellFormed B M (history_of o es) → HaveLanded (queue_at c i) o es (counts_at c i es) → (t : Party)
      → memory_at (queue_at c i) (all_at (start_at c i)) [] es t ≡ count t (counts_at c i es)
  true-in-memory es run landed t =
      sym (least-near q follows.queue (m t) (m t) (omega arith) (omega (arith, follows.queue.words)))
      ∙ ap (least_count q (m t)) (sym (side t).word ∙ landed t)
      ∙ least-near q follows.queue (m t) (count t (counts_at c i es)) (at t).there near
    where
      follows : FollowsOwnership B (queue_at c i) (all_at (start_at c i)) o [] es
      follows = accepted_runs B M o c ok es run i less

      m : Party → ℕ
      m = memory_at (queue_at c i) (all_at (start_at c i)) [] es

      side : (r : Party) → Side q o es (counts_at c i es) r (m r)
      side = sides-of B (queue_at c i) (all_at (start_at c i)) o [] es follows

      at : (r : Party) → Bounds q (counts_at c i es) r (m r)
      at r = bounds q o es (counts_at c i es) r (m r) (side r)

      near : count t (counts_at c i es) < m t + (queue_at c i).modulus
      near =
          let mine = at t in
          let theirs = at (other t) in
          let back : known t (counts_at c i es) ≤ m (other t) = subst (λ r. known r (counts_at c i es) ≤ m (other t)) (twice t) theirs.known_there in
          let all : allowance q t + allowance q (other t) ≡ q.capacity = allowances q t in
          let tells : q.capacity < q.modulus = (fine M o c ok i less).1 in
          omega (arith, back, all, tells, mine.known_there, mine.count_end, theirs.there, theirs.count_end)

  module _ (s r : Pace) (room : s.owned + r.owned < (queue_at c i).capacity) (sends : keeps_going o c (queue_at c i).sender i s ≡ true)
      (receives : keeps_going o c (queue_at c i).receiver i r ≡ true) where
    pub stands : (es row : List Entry) → WellFormed B M (history_of o (es ++ row)) → HaveLanded (queue_at c i) o es (counts_at c i es)
        → s.pace + s.sight + 2 ≤ executed (queue_at c i).sender row → r.pace + r.sight + 2 ≤ executed (queue_at c i).receiver row
        → all_moved (counts_at c i es) < all_moved (counts_at c i (es ++ row))
    stands es row run landed enough also = by
        (goes-or-waits the_sender s sends es row run (true-in-memory es front landed the_receiver) (omega (arith, enough)))
        (goes-or-waits the_receiver r receives es row run (true-in-memory es front landed the_sender) (omega (arith, also)))
      where
        front : WellFormed B M (history_of o es)
        front = kept-front B M o es row run

        by : (all_moved (counts_at c i es) < all_moved (counts_at c i (es ++ row))) ⊎
            (count the_receiver (counts_at c i es) + (queue_at c i).capacity ≤ count the_sender (counts_at c i es) + s.owned)
            → (all_moved (counts_at c i es) < all_moved (counts_at c i (es ++ row)))
            ⊎ (count the_sender (counts_at c i es) + 0 ≤ count the_receiver (counts_at c i es) + r.owned)
            → all_moved (counts_at c i es) < all_moved (counts_at c i (es ++ row))
        by (inl more) two = more
        by (inr full) (inl more) = more
        by (inr full) (inr empty) = absurd (omega (arith, full, empty, room))
