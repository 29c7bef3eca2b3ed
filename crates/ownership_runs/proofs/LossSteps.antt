-- What is noted of the losses of a run, one entry further.
use Rattle.std.proofs.Common.{ℕ, ◌+◌, ◌*◌, ◌<◌, ◌≤◌, ◌≡◌, ◌==◌, ◌&&◌, inl, inr, Bool, true, false, Option, None, Some}
use Rattle.std.proofs.Common.{List, [], ◌∷◌, ◌++◌, length, refl, sym, ap}
use Rattle.std.proofs.Common.{◌∙◌, subst, arith}
use Rattle.std.specs.Prelude.{nat_le, nat_lt, if◌then◌else◌}
use Rattle.std.proofs.Math.Bool.{and-true}
use Rattle.std.proofs.lemmas.Bool.{cases_lt, and_from, le-leb, lt-leb, ltb-false}
use Rattle.std.proofs.lemmas.Bool.Decides.{Decides-ltb}
use Rattle.std.proofs.lemmas.List.{length-append}
use Rattle.memory.specs.declared.writes.Write.{Write}
use Rattle.memory.specs.Writes.{write, covers}
use Rattle.step_machine.specs.declared.events.Entry.{Entry}
use Rattle.step_machine.specs.Names.{OpeningValue, Access, load, store, exchange, access_of, hart_of, read_byte, memory_byte}
use Rattle.queue_parties.specs.Parties.{Party, the_sender, the_receiver, QueueCounts, with_known}
use Rattle.queue_parties.proofs.Parties.{counts-append}
use Rattle.slot_queue.specs.Queues.{Queue, least_count}
use Rattle.slot_queue.specs.Ownership.{index, after_load}
use Rattle.slots_that_tell.proofs.Owned.{loaded-count}
use Rattle.queue_parties.specs.Positions.{IsInBytes}
use Rattle.queue_layouts.specs.declared.AnyQueue.{AnyQueue}
use Rattle.queue_layouts.specs.declared.AnyQueue.TheVariants.{Indexed, Tagged}
use Rattle.queue_layouts.specs.Tagged.{slots_of}
use Rattle.ownership_runs.specs.{Loss, HasSlot, party_for, access_counts, entry_counts, run_counts, SentBytes, nothing_sent, sent_by, sent_after, sent_from}
use Rattle.ownership_runs.specs.{or_else, counts_told, if_told, byte_lost, loss_by, loss_since, is_after, first_loss, position_told}
use Rattle.ownership_runs.specs.{stores_over, slots_from, slot_width, slots_in}
use Rattle.ownership_runs.specs.{is_record_byte, slot_number, position_from, IsRecordByte}
use Rattle.ownership_runs.specs.declared.sent.ByteLog.{ByteLog}
use Rattle.ownership_runs.specs.declared.judging_losses.LossNotes.{LossNotes}
use Rattle.ownership_runs.specs.inner.Logging.{logged, answered, IsOpenedLog, logged_by, with_read, changed_by}
use Rattle.ownership_runs.specs.inner.Logging.{stores_own, has_place, sender_of, reader_of, IsAccessWithin}
use Rattle.ownership_runs.specs.inner.LossNoting.{IsLogOf, IsSeenIn, AreLossNotes}
use Rattle.ownership_runs.proofs.Bytes.{decides-bytes}
use Rattle.ownership_runs.proofs.Losing.{loss-append, first-same}
use Rattle.ownership_runs.proofs.Sending.{sent-append, unsent, grows, hart-is}
use Rattle.ownership_runs.proofs.Told.{last-told, is-record, in-slots}

or-right : (x : Option Loss) → or_else x None ≡ x
or-right None = refl
or-right (Some l) = refl

-- ---- only the sender publishes

loaded-index : (q : Queue) (a w v : ℕ) (c : QueueCounts) → (after_load q the_receiver a w v c).published ≡ c.published
loaded-index q a w v c = by (a == index q the_sender && w == q.index_width)
  where
    by : (b : Bool) → (if b then with_known the_receiver (least_count q c.known_published v) c else c).published ≡ c.published
    by true = refl
    by false = refl

received : (q : AnyQueue) (x : Access) (c : QueueCounts) → (access_counts q (Some the_receiver) x c).published ≡ c.published
received (Indexed q) (load a w v) c = loaded-index q a w v c
received (Indexed q) (exchange a old new) c = loaded-index q a 4 old c
received (Indexed q) x c = refl
received (Tagged q) (load a w v) c = loaded-count (slots_of q) the_receiver the_sender a w v c
received (Tagged q) (exchange a old new) c = loaded-count (slots_of q) the_receiver the_sender a 4 old c
received (Tagged q) x c = refl

-- an AMO loads, and then stores
pub exchanged : (q : AnyQueue) (t : Option Party) (a old new : ℕ) (c : QueueCounts)
    → access_counts q t (exchange a old new) c ≡ access_counts q t (store (write a 4 new)) (access_counts q t (load a 4 old) c)
exchanged (Indexed q) None a old new c = refl
exchanged (Indexed q) (Some p) a old new c = refl
exchanged (Tagged q) None a old new c = refl
exchanged (Tagged q) (Some p) a old new c = refl

-- the hart that sends is the queue's
sends-alone : (q : AnyQueue) (h : ℕ) → party_for q h ≡ Some the_sender → h ≡ sender_of q
sends-alone (Indexed q) h sends = hart-is q.sender q.receiver h the_sender sends
sends-alone (Tagged q) h sends = hart-is q.sender q.receiver h the_sender sends

idle : (q : AnyQueue) (x : Access) (c : QueueCounts) → access_counts q None x c ≡ c
idle (Indexed q) x c = refl
idle (Tagged q) x c = refl

module _ (since : Option ℕ) (M : ℕ) (q : AnyQueue) (some : HasSlot q) (o : OpeningValue) (start : QueueCounts) (es : List Entry) (e : Entry) where
  abbrev c : QueueCounts
  c = run_counts q start es

  abbrev d : QueueCounts
  d = entry_counts q c e

  abbrev s : SentBytes
  s = sent_from q o [] start nothing_sent es

  loss-more : first_loss since q o start (es ++ e ∷ []) ≡ or_else (first_loss since q o start es) (loss_since since q (length es) c s e)
  loss-more = loss-append since q o [] start nothing_sent es (e ∷ [])
      ∙ ap (or_else (first_loss since q o start es)) (or-right (loss_since since q (length es) c s e))

  counts-more : run_counts q start (es ++ e ∷ []) ≡ d
  counts-more = counts-append (entry_counts q) start es (e ∷ [])

  module _ (log : List ByteLog) (is : IsLogOf M q o start es log) where
    -- ---- the loss that the entry is

    answers : (d : QueueCounts) (k x : ℕ) → position_told q d x ≡ Some k → x < 4 * M → answered q c log k x ≡ s k x
    answers d k x told memory = by (nat_lt k c.published) refl
      where
        by : (b : Bool) → nat_lt k c.published ≡ b → (if b then logged q log k x else None) ≡ s k x
        by true less =
            let within : IsInBytes (slots_from q) (slots_in q * slot_width q) x = in-slots q x (is-record q some k x (last-told q some d x k told).of_record) in
            is.sent k x (is.places x ((decides-bytes (slots_from q) (slots_in q * slot_width q) x).1 within) memory) memory ((Decides-ltb k c.published).0 less)
        by false past = sym (unsent q o [] start nothing_sent es (λ j y from. refl) k x (ltb-false k c.published past))

    byte-same : (place h a w v i : ℕ) → a + i < 4 * M → byte_lost q place h c (answered q c log) a w v i ≡ byte_lost q place h c s a w v i
    byte-same place h a w v i memory = by (position_told q (counts_told q a w v c) (a + i)) refl
      where
        by : (t : Option ℕ) → position_told q (counts_told q a w v c) (a + i) ≡ t → if_told place h (answered q c log) a w v i t ≡ if_told place h s a w v i t
        by None none = refl
        by (Some k) told = ap (Rattle.ownership_runs.specs.Losses.if_differs place h a w v i k) (answers (counts_told q a w v c) k (a + i) told memory)

    same-loss : IsAccessWithin M (access_of e) → loss_since since q (length es) c (answered q c log) e ≡ loss_since since q (length es) c s e
    same-loss reach = ap (λ (l : Option Loss). if is_after since (length es) then l else None) (by (party_for q (hart_of e)) (access_of e) reach)
      where
        by : (t : Option Party) (x : Access) → IsAccessWithin M x
            → loss_by q t (length es) (hart_of e) c (answered q c log) x ≡ loss_by q t (length es) (hart_of e) c s x
        by (Some the_receiver) (load a w v) at = first-same _ _ w
            (λ i less. byte-same (length es) (hart_of e) a w v i (let end = at.0 in omega (arith, less, end)))
        by (Some the_receiver) (exchange a old new) at = first-same _ _ 4
            (λ i less. byte-same (length es) (hart_of e) a 4 old i (let end = at.0 in omega (arith, less, end)))
        by t x at = refl

    -- ---- the log after the entry

    module _ (l : Write) (new : List ByteLog) (hart : hart_of e < length o.harts) (seen : IsSeenIn q o es l e) (places : length new ≡ length log)
        (becomes : (k x : ℕ) → logged q new k x ≡ logged_by M q (length log) (party_for q (hart_of e)) c.published
        (read_byte o (es ++ e ∷ []) (reader_of q (length o.harts) (hart_of e))) l (access_of e) (logged q log) k x) where
      abbrev now : ℕ → ℕ
      now = read_byte o (es ++ e ∷ []) (sender_of q)

      abbrev seen_by : ℕ → ℕ
      seen_by = read_byte o (es ++ e ∷ []) (reader_of q (length o.harts) (hart_of e))

      abbrev t : Option Party
      t = party_for q (hart_of e)

      abbrev w : Write
      w = changed_by l (access_of e)

      same-reader : sender_of q < length o.harts → reader_of q (length o.harts) (hart_of e) ≡ sender_of q
      same-reader less = ap (λ b. if b then sender_of q else hart_of e) ((Decides-ltb (sender_of q) (length o.harts)).1 less)

      -- of a byte that has a place, and of one position
      module _ (k x : ℕ) (place : has_place q (length log) x ≡ true) (memory : x < 4 * M) where
        changes : logged q new k x
            ≡ (if covers w x then with_read c.published (stores_own t (access_of e)) (seen_by x) (logged q log k x) k
            else logged q log k x)
        changes = becomes k x
            ∙ ap (λ b. if covers w x && (b && has_place q (length log) x)
            then with_read c.published (stores_own t (access_of e)) (seen_by x) (logged q log k x) k
            else logged q log k x) ((Decides-ltb x (4 * M)).1 memory)
            ∙ ap (λ b. if covers w x && b then with_read c.published (stores_own t (access_of e)) (seen_by x) (logged q log k x) k else logged q log k x) place
            ∙ ap (λ b. if b then with_read c.published (stores_own t (access_of e)) (seen_by x) (logged q log k x) k
            else logged q log k x) (and-true (covers w x))

        -- of the positions that weren't published before, it is what the sender's hart reads after the entry
        late : sender_of q < length o.harts → c.published ≤ k → logged q new k x ≡ Some (now x)
        late some from = changes
            ∙ ap (λ b. if covers w x
            then (if b then Some (seen_by x) else if stores_own t (access_of e) then None else logged q log k x)
            else logged q log k x) (le-leb c.published k from)
            ∙ ap (λ h. if covers w x then Some (read_byte o (es ++ e ∷ []) h x) else logged q log k x) (same-reader some)
            ∙ by (covers w x) refl
          where
            by : (b : Bool) → covers w x ≡ b → (if b then Some (now x) else logged q log k x) ≡ Some (now x)
            by true on = refl
            by false off = is.seen some k x place memory from ∙ sym (ap (λ (n : ℕ). Some n) (seen x off))

        -- and of the others what it was, where the receiver stores nothing over it
        early : k < c.published → logged q new k x ≡ (if stores_own t (access_of e) && covers w x then None else sent_from q o [] start nothing_sent es k x)
        early less = changes
            ∙ ap (λ b. if covers w x
            then (if b then Some (seen_by x) else if stores_own t (access_of e) then None else logged q log k x)
            else logged q log k x) (lt-leb c.published k less)
            ∙ ap (λ z. if covers w x then (if stores_own t (access_of e) then None else z) else z) (is.sent k x place memory less)
            ∙ by (covers w x) (stores_own t (access_of e))
          where
            by : (b r : Bool) → (if b then (if r then None else s k x) else s k x) ≡ (if r && b then None else s k x)
            by true true = refl
            by true false = refl
            by false true = refl
            by false false = refl

      over-is : (a : Access) (x : ℕ) → (stores_own (Some the_receiver) a && covers (changed_by l a) x) ≡ stores_over a x
      over-is (store v) x = refl
      over-is (exchange a old n) x = refl
      over-is a x = refl

      next-log : IsLogOf M q o start (es ++ e ∷ []) new
      next-log = record {
        places = λ x slot memory. subst (λ n. has_place q n x ≡ true) (sym places) (is.places x slot memory);
        sent = λ k x place memory before. sent k x (subst (λ n. has_place q n x ≡ true) places place) memory
            (subst (λ (n : QueueCounts). k < n.published) counts-more before);
        seen = λ some k x place memory from. late k x (subst (λ n. has_place q n x ≡ true) places place) memory some
            (let more : c.published ≤ d.published = (grows q c e).counts the_sender in
            let after = subst (λ (n : QueueCounts). n.published ≤ k) counts-more from in omega (arith, more, after));
      }
        where
          sent : (k x : ℕ) → has_place q (length log) x ≡ true → x < 4 * M → k < d.published
              → logged q new k x ≡ sent_from q o [] start nothing_sent (es ++ e ∷ []) k x
          sent k x place memory less = by t refl ∙ sym (ap (λ (f : SentBytes). f k x) (sent-append q o [] start nothing_sent es (e ∷ [])))
            where
              by : (p : Option Party) → t ≡ p
                  → logged q new k x ≡ sent_by p c d (read_byte o (es ++ e ∷ []) (hart_of e)) (access_of e) s k x
              by (Some the_sender) sends = elim (cases_lt k c.published) [
                | inl old ↦ early k x place memory old
                    ∙ ap (λ p. if stores_own p (access_of e) && covers w x then None else s k x) sends
                    ∙ sym (ap (λ b. if b && nat_lt k d.published then Some (read_byte o (es ++ e ∷ []) (hart_of e) x) else s k x) (lt-leb c.published k old))
                | inr new ↦
                    let mine : hart_of e ≡ sender_of q = sends-alone q (hart_of e) sends in
                    late k x place memory (subst (λ (h : ℕ). h < length o.harts) mine hart) new
                    ∙ ap (λ (h : ℕ). Some (read_byte o (es ++ e ∷ []) h x)) (sym mine)
                    ∙ sym (ap (λ b. if b then Some (read_byte o (es ++ e ∷ []) (hart_of e) x) else s k x)
                    (and_from (nat_le c.published k) (nat_lt k d.published) (le-leb c.published k new) ((Decides-ltb k d.published).1 less)))
              ]
              by (Some the_receiver) takes =
                  let same : d.published ≡ c.published = ap (λ t. (access_counts q t (access_of e) c).published) takes ∙ received q (access_of e) c in
                  early k x place memory (omega (arith, same, less))
                  ∙ ap (λ p. if stores_own p (access_of e) && covers w x then None else s k x) takes
                  ∙ ap (λ b. if b then None else s k x) (over-is (access_of e) x)
              by None neither =
                  let same : d ≡ c = ap (λ t. access_counts q t (access_of e) c) neither ∙ idle q (access_of e) c in
                  early k x place memory (subst (λ (n : QueueCounts). k < n.published) same less)
                  ∙ ap (λ p. if stores_own p (access_of e) && covers w x then None else s k x) neither

  -- ---- the notes

  -- a run that has a loss keeps its first one
  pub still-lost : (l : Loss) (log later : List ByteLog) (notes : LossNotes) → notes.found ≡ Some l → AreLossNotes since M q o start es log notes
      → AreLossNotes since M q o start (es ++ e ∷ []) later notes
  still-lost l log later notes lost are = record {
    found = lost ∙ sym (loss-more ∙ ap (λ x. or_else x (loss_since since q (length es) c s e)) (sym are.found ∙ lost));
    counts = λ none. absurd (cc);
    place = λ none. absurd (cc);
    sent = λ none. absurd (cc);
  }

  pub next-notes : (log later : List ByteLog) (l : Write) (notes new : LossNotes) → notes.found ≡ None → AreLossNotes since M q o start es log notes
      → IsAccessWithin M (access_of e) → hart_of e < length o.harts → IsSeenIn q o es l e → length later ≡ length log
      → new.found ≡ loss_since since q notes.place notes.counts (answered q notes.counts log) e
      → new.counts ≡ entry_counts q notes.counts e → new.place ≡ notes.place + 1
      → ((k x : ℕ) → logged q later k x ≡ logged_by M q (length log) (party_for q (hart_of e)) notes.counts.published
      (read_byte o (es ++ e ∷ []) (reader_of q (length o.harts) (hart_of e))) l (access_of e) (logged q log) k x)
      → AreLossNotes since M q o start (es ++ e ∷ []) later new
  next-notes log later l notes new none are reach hart seen places found counts place becomes =
      let at : notes.counts ≡ c = are.counts none in
      let is : IsLogOf M q o start es log = are.sent none in
      let now : new.counts ≡ d = counts ∙ ap (λ (n : QueueCounts). entry_counts q n e) at in
      let here : new.found ≡ loss_since since q (length es) c s e =
      found ∙ ap (λ (n : ℕ). loss_since since q n notes.counts (answered q notes.counts log) e) (are.place none)
      ∙ ap (λ (n : QueueCounts). loss_since since q (length es) n (answered q n log) e) at ∙ same-loss log is reach in
      record {
        found = here ∙ sym (loss-more ∙ ap (λ x. or_else x (loss_since since q (length es) c s e)) (sym are.found ∙ none));
        counts = λ _. now ∙ sym counts-more;
        place = λ _. (let far = length-append es (e ∷ []) in let before = are.place none in omega (arith, far, before, place));
        sent = λ _. next-log log is l later hart seen places (λ k x. becomes k x
            ∙ ap (λ (n : QueueCounts). logged_by M q (length log) (party_for q (hart_of e)) n.published
            (read_byte o (es ++ e ∷ []) (reader_of q (length o.harts) (hart_of e))) l (access_of e) (logged q log) k x) at);
      }

-- before the first entry, a log has what the slots hold
pub opened-notes : (since : Option ℕ) (M : ℕ) (q : AnyQueue) (o : OpeningValue) (start : QueueCounts)
    (log : List ByteLog) (notes : LossNotes) → notes.found ≡ None
    → notes.counts ≡ start → notes.place ≡ 0 → IsOpenedLog M q (memory_byte o []) start.published log → AreLossNotes since M q o start [] log notes
opened-notes since M q o start log notes none counts place is = record {
  found = none;
  counts = λ _. counts;
  place = λ _. place;
  sent = λ _. record {
    places = is.places;
    sent = λ k x within memory less. is.has k x within ∙ ap (λ b. if b then Some (memory_byte o [] x) else None) (lt-leb start.published k less);
    seen = λ some k x within memory from. is.has k x within ∙ ap (λ b. if b then Some (memory_byte o [] x) else None) (le-leb start.published k from);
  };
}
