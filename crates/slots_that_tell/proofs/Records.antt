-- Records in order, each once: those that the receiver takes are a prefix of those that the sender published.
use Rattle.std.proofs.Common.{ℕ, ◌+◌, ◌<◌, ◌≤◌, ◌≡◌, ◌≢◌, ◌⊎◌, inl, inr, Bool, true, false, List, [], ◌∷◌, ◌++◌, Some, refl, sym, ◌∙◌, ap, subst, arith}
use Rattle.std.proofs.Common.{append-nil, append_assoc}
use Rattle.std.proofs.lemmas.Bool.{cases_lt}
use Rattle.memory.specs.declared.writes.Write.{Write}
use Rattle.memory.specs.Writes.{write, covers}
use Rattle.memory.proofs.Bytes.{covers-from}
use Rattle.step_machine.specs.declared.events.Entry.{Entry}
use Rattle.step_machine.specs.Names.{OpeningValue, Access, store, exchange, access_of, hart_of, read_byte}
use Rattle.store_buffers.specs.StoreBuffers.{LeavesByte, LeavesByteBy, LeavesByteAt}
use Rattle.store_buffers.proofs.LateStores.{at-by-parts, leaves-part}
use Rattle.queue_parties.specs.{IsPrefix, Party, the_sender, the_receiver, QueueCounts, IsWindow, count, known}
use Rattle.queue_parties.proofs.Parties.{count-set, party-is, counts-append}
use Rattle.queue_parties.proofs.Positions.{same_slot}
use Rattle.queue_parties.proofs.Records.{HasRecords}
use Rattle.queue_parties.proofs.Runs.{Run, front, grown, unlearned}
use Rattle.queue_parties.proofs.Records as order
use Rattle.slots_that_tell.specs.Slots.{Slots, IsSlots, IsSlotByte, IsTagByte, tag_of}
use Rattle.slots_that_tell.specs.Telling.{teller_of, owned_end, moved, after_load, after_store, told_access, after_entry, told_counts, MayStore, TellsAccess}
use Rattle.slots_that_tell.specs.Laws.{FollowsTelling, StoresTagsAlone, tagged_record, reading_at, records_by, records_learned, records_waiting}
use Rattle.slots_that_tell.proofs.Places.{one-tag, fills-leaves, moved-tag}
use Rattle.slots_that_tell.proofs.Runs.{shape, follows-front}
use Rattle.slots_that_tell.proofs.Owned.{grows-entry, loaded-count, Moving, moving, learning, mine-of}
use Rattle.slots_that_tell.proofs.HandingOver.{keeps-entry, run-of, handed, handed-before}

-- a party's store over a byte of a tag is the one of its own position's
module _ (q : Slots) (is : IsSlots q) (r : Party) (k x : ℕ) (of_k : IsTagByte q k x) where
  stores-tag : (c : QueueCounts) (w : Write) → MayStore q r c w
      → LeavesByte x w ⊎ (IsTagByte q (count r c) x × (count r (after_store q r w c) ≡ count r c + 1))
  stores-tag c w (inr fills) = inl (fills-leaves q is r c w fills k x of_k)
  stores-tag c w (inl moves) = by (covers w x) refl
    where
      by : (b : Bool) → covers w x ≡ b → (b ≡ false) ⊎ (IsTagByte q (count r c) x × (count r (after_store q r w c) ≡ count r c + 1))
      by false off = inl refl
      by true on = let part = covers-from w x on in
          inr (
            (omega (arith, part.0, moves.tag.place), omega (arith, part.1, moves.tag.place, moves.tag.width)),
            count-set r (moved q (count r c) w) c ∙ moved-tag q is r (count r c) (count r c) w moves.tag,
          )

  access-tag : (c : QueueCounts) (y : Access) → TellsAccess q (Some r) c y
      → LeavesByteBy x y ⊎ (IsTagByte q (count r c) x × (count r (told_access q (Some r) y c) ≡ count r c + 1))
  access-tag c (store w) keeps = stores-tag c w keeps
  access-tag c (exchange a old new) keeps = elim (stores-tag (after_load q r a 4 old c) (write a 4 new) keeps) [
    | inl leaves ↦ inl (inr leaves)
    | inr owns ↦
        let same : count r (after_load q r a 4 old c) ≡ count r c = loaded-count q r r a 4 old c in
        inr (subst (λ n. IsTagByte q n x) same owns.0, owns.1 ∙ ap (λ n. n + 1) same)
  ]
  access-tag c other keeps = inl tt

-- while position k is the sender's or waits, its tag is left by the receiver
tag-kept : (B : ℕ) (q : Slots) (start : QueueCounts) (o : OpeningValue) (before es : List Entry) → FollowsTelling B q start o before es
    → (fr gs : List Entry) → es ≡ fr ++ gs → (k x : ℕ) → IsTagByte q k x → k < owned_end q the_sender (told_counts q start fr)
    → (told_counts q start es).taken ≤ k → LeavesByteAt q.receiver x gs
tag-kept B q start o before es f fr gs cut k x of_k sent given = at-by-parts q.receiver x gs part
  where
    run : Run (shape q) (after_entry q) start B o before es
    run = run-of B q start o before es f

    part : (es1 : List Entry) (e : Entry) (es2 : List Entry) → gs ≡ es1 ++ e ∷ es2 → hart_of e ≡ q.receiver → LeavesByteBy x (access_of e)
    part es1 e es2 split at = elim (access-tag q f.slots the_receiver k x of_k c (access_of e)
        (subst (λ t. TellsAccess q t c (access_of e)) party (keeps-entry B q start o before es f done e es2 parts))) [
          | inl leaves ↦ leaves
          | inr owns ↦ absurd (no_more owns.0 owns.1)
        ]
      where
        done : List Entry
        done = fr ++ es1

        c : QueueCounts
        c = told_counts q start done

        party : teller_of q (hart_of e) ≡ Some the_receiver
        party = party-is q.sender q.receiver f.slots.parties the_receiver (hart_of e) at

        parts : es ≡ done ++ e ∷ es2
        parts = cut ∙ ap (λ xs. fr ++ xs) split ∙ sym (append_assoc fr es1 (e ∷ es2))

        no_more : IsTagByte q c.taken x → (told_access q (Some the_receiver) (access_of e) c).taken ≡ c.taken + 1 → ⊥
        no_more byte one =
            let step : (told_counts q start (done ++ e ∷ [])).taken ≡ c.taken + 1 = ap (count the_receiver)
            (counts-append (after_entry q) start done (e ∷ []) ∙ ap (λ t. told_access q t (access_of e) c) party) ∙ one in
            let last : (told_counts q start (done ++ e ∷ [])).taken ≤ (told_counts q start es).taken =
            subst (λ xs. (told_counts q start (done ++ e ∷ [])).taken ≤ (told_counts q start xs).taken)
            (sym (parts ∙ sym (append_assoc done (e ∷ []) es2)))
            ((grown (shape q) (after_entry q) start B o before es run (done ++ e ∷ []) es2).counts the_receiver) in
            let more : (told_counts q start fr).taken ≤ c.taken = (grown (shape q) (after_entry q) start B o before es run fr es1).counts the_receiver in
            let back : c.taken + q.size ≤ k = same_slot q.size c.taken k (omega (arith, f.slots.some))
            (one-tag q f.slots c.taken k x byte of_k) (omega (arith, step, last, given)) in
            omega (arith, back, sent, (run.window fr gs cut).known_taken, more)

tag_byte_or : (q : Slots) (k x : ℕ) → IsTagByte q k x ⊎ (IsTagByte q k x → ⊥)
tag_byte_or q k x = elim (cases_lt x (tag_of q k)) [
  | inl less ↦ inr (λ at. omega (arith, at.0, less))
  | inr from ↦ elim (cases_lt x (tag_of q k + q.tag_width)) [
    | inl below ↦ inl (from, below)
    | inr past ↦ inr (λ at. omega (arith, at.1, past))
  ]
]

module _ (B : ℕ) (q : Slots) (start : QueueCounts) (o : OpeningValue) (before es : List Entry) (f : FollowsTelling B q start o before es) where
  run : Run (shape q) (after_entry q) start B o before es
  run = run-of B q start o before es f

  -- the sender's hart reads a record just after it publishes it
  abbrev point : List Entry → Entry → List Entry
  point xs e = xs ++ e ∷ []

  abbrev R : ℕ → ℕ
  R = order.R (shape q) (after_entry q) start B o before es run q.receiver point

  abbrev Source : (es1 : List Entry) (k : ℕ) → Type 0
  Source = order.Source (shape q) (after_entry q) start B o before es run q.receiver point

  w : IsWindow q.size (told_counts q start es)
  w = run.window es [] (sym (append-nil es))

  abbrev taken_record : List Entry → Entry → ℕ → ℕ
  taken_record xs e k = tagged_record q o (reading_at the_receiver xs e) q.receiver k

  taken-grows : (c : QueueCounts) (e : Entry) → c.taken ≤ (after_entry q c e).taken
  taken-grows c e = (grows-entry q c e).counts the_receiver

  taken : StoresTagsAlone q q.receiver es → HasRecords (after_entry q) (count the_receiver) taken_record taken-grows R start before es
  taken reads es1 e es2 k split from past = order.reads (shape q) (after_entry q) start B o before es run q.receiver point es1 (e ∷ es2) split k from
      (order.source (shape q) (after_entry q) start B o before es run q.receiver point es1 (e ∷ es2) split k
      (omega (arith, (run.window es1 (e ∷ es2) split).known_published, known_there)) unwritten)
      (λ d x of_k left. ap (λ xs. read_byte o (before ++ xs) q.receiver x) d.is ∙ handed B q start o before d.done d.entry d.rest
      (subst (FollowsTelling B q start o before) d.is front1) the_sender k d.from d.past x of_k
      (let give : (told_counts q start es1).taken ≤ k + 0 = omega (arith, from) in subst (λ xs. (told_counts q start xs).taken ≤ k + 0) d.is give)
      (let have : k + 0 < (told_counts q start es1).known_published + 0 = omega (arith, known_there) in
      subst (λ xs. k + 0 < (told_counts q start xs).known_published + 0) d.is have) left
      ∙ ap (λ xs. read_byte o xs q.sender x) (sym (append_assoc before d.done (d.entry ∷ []))))
    where
      front1 : FollowsTelling B q start o before es1
      front1 = follows-front B q start o before es1 (e ∷ es2) (subst (FollowsTelling B q start o before) split f)

      c : QueueCounts
      c = told_counts q start es1

      d_is : told_counts q start (es1 ++ e ∷ []) ≡ after_entry q c e
      d_is = counts-append (after_entry q) start es1 (e ∷ [])

      moves : (teller_of q (hart_of e) ≡ Some the_receiver) × Moving q the_receiver (access_of e)
      moves = moving q the_receiver (teller_of q (hart_of e)) (access_of e) c (subst (λ d. c.taken < d.taken) d_is (omega (arith, from, past)))

      known_there : k < c.known_published
      known_there = elim moves.1 [
        | inl stores ↦
            let step : told_counts q start (es1 ++ e ∷ []) ≡ after_store q the_receiver stores.0 c = d_is ∙ ap (λ t. told_access q t (access_of e) c) moves.0
            ∙ ap (λ y. told_access q (Some the_receiver) y c) stores.1 in
            let kept : (told_counts q start (es1 ++ e ∷ [])).known_published ≡ c.known_published = ap (known the_receiver) step in
            omega (arith, past, (run.window (es1 ++ e ∷ []) es2 (split ∙ sym (append_assoc es1 (e ∷ []) es2))).taken, kept)
        | inr swaps ↦ absurd (reads.no_amo es1 e es2 swaps.0 swaps.1 swaps.2 split (mine-of q f.slots the_receiver (hart_of e) moves.0) swaps.3)
      ]

      -- the receiver's own stores to the slot are of other tags
      unwritten : (fr gs : List Entry) → es1 ≡ fr ++ gs → k < owned_end q the_sender (told_counts q start fr) → (x : ℕ) → IsSlotByte q k x
          → LeavesByteAt q.receiver x gs
      unwritten fr gs cut sent x of_k = elim (tag_byte_or q k x) [
        | inl tag ↦ tag-kept B q start o before es1 front1 fr gs cut k x tag sent from
        | inr no_tag ↦ leaves-part q.receiver x fr gs (e ∷ es2) (subst (LeavesByteAt q.receiver x)
            (split ∙ ap (λ xs. xs ++ e ∷ es2) cut ∙ append_assoc fr gs (e ∷ es2)) (reads.rest k x of_k no_tag))
      ]

  pub in_order : StoresTagsAlone q q.receiver es → IsPrefix (records_by q the_receiver o start before es)
      (records_waiting q o start before start.taken ++ records_by q the_sender o start before es)
  in_order reads = order.in-order (shape q) (after_entry q) start B o before es run q.receiver point (count the_receiver) taken_record taken-grows (taken reads)
      (omega (arith, f.rest.window.taken, f.rest.window.known_published)) (omega (arith, w.taken, w.known_published))

  -- ---- as the receiver learns of them

  abbrev learned_record : List Entry → Entry → ℕ → ℕ
  learned_record xs e k = tagged_record q o xs q.receiver k

  knows-grows : (c : QueueCounts) (e : Entry) → c.known_published ≤ (after_entry q c e).known_published
  knows-grows c e = (grows-entry q c e).knows the_receiver

  learned : HasRecords (after_entry q) (known the_receiver) learned_record knows-grows R start before es
  learned es1 e es2 k split from past = order.reads (shape q) (after_entry q) start B o before es run q.receiver point es1 (e ∷ es2) split k given
      (order.source (shape q) (after_entry q) start B o before es run q.receiver point es1 (e ∷ es2) split k was_published
      (λ fr gs cut sent x of_k. unlearned (shape q) (after_entry q) start B o before es1 run1 fr gs cut k x of_k sent from))
      (λ d x of_k left. ap (λ xs. read_byte o (before ++ xs) q.receiver x) d.is ∙ handed-before B q start o before d.done d.entry d.rest e
      (subst (λ xs. FollowsTelling B q start o before (xs ++ e ∷ [])) d.is front2) the_sender k d.from d.past apart
      (subst (λ xs. k < (told_counts q start (xs ++ e ∷ [])).known_published) d.is past) x of_k
      (let give : (told_counts q start es1).taken ≤ k + 0 = omega (arith, given) in subst (λ xs. (told_counts q start xs).taken ≤ k + 0) d.is give) left
      ∙ ap (λ xs. read_byte o xs q.sender x) (sym (append_assoc before d.done (d.entry ∷ []))))
    where
      split2 : es ≡ (es1 ++ e ∷ []) ++ es2
      split2 = split ∙ sym (append_assoc es1 (e ∷ []) es2)

      run1 : Run (shape q) (after_entry q) start B o before es1
      run1 = front (shape q) (after_entry q) start B o before es es1 (e ∷ es2) split run

      front2 : FollowsTelling B q start o before (es1 ++ e ∷ [])
      front2 = follows-front B q start o before (es1 ++ e ∷ []) es2 (subst (FollowsTelling B q start o before) split2 f)

      c : QueueCounts
      c = told_counts q start es1

      d_is : told_counts q start (es1 ++ e ∷ []) ≡ after_entry q c e
      d_is = counts-append (after_entry q) start es1 (e ∷ [])

      learns : (teller_of q (hart_of e) ≡ Some the_receiver) × ((after_entry q c e).published ≡ c.published)
      learns = learning q the_receiver (teller_of q (hart_of e)) (access_of e) c
          (subst (λ d. c.known_published < d.known_published) d_is (omega (arith, from, past)))

      apart : hart_of e ≢ q.sender
      apart at = f.slots.parties (sym at ∙ mine-of q f.slots the_receiver (hart_of e) learns.0)

      given : c.taken ≤ k
      given = omega (arith, (run.window es1 (e ∷ es2) split).taken, from)

      was_published : k < c.published
      was_published = omega (arith, past, (run.window (es1 ++ e ∷ []) es2 split2).known_published, ap (count the_sender) d_is, learns.1)

  pub in_order_as_learned : IsPrefix (records_learned q o start before es)
      (records_waiting q o start before start.known_published ++ records_by q the_sender o start before es)
  in_order_as_learned = order.in-order (shape q) (after_entry q) start B o before es run q.receiver point (known the_receiver) learned_record knows-grows
      learned f.rest.window.known_published w.known_published
