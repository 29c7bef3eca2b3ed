-- What a party reads in its own index, and what a look at the other's says.
use Rattle.std.proofs.Common.{ℕ, ◌+◌, ◌<◌, ◌≡◌, ◌==◌, ◌&&◌, inl, inr, if◌then◌else◌, List, [], ◌∷◌}
use Rattle.std.proofs.Common.{◌++◌, Some, None, refl, sym, ◌∙◌, ap, subst, append_assoc}
use Rattle.std.specs.Prelude.{All, unwrap_or}
use Rattle.std.proofs.lemmas.Bool.{eq-eqb}
use Rattle.std.proofs.lemmas.List.Elements.{All-head, All-tail}
use Rattle.memory.specs.declared.writes.Write.{Write}
use Rattle.memory.specs.Writes.{byte_after, newest_of, joined}
use Rattle.memory.proofs.Bytes.{joined-same}
use Rattle.step_machine.specs.declared.events.Entry.{Entry}
use Rattle.step_machine.specs.Names.{OpeningValue, load, access_of, hart_of, pending, memory_byte, read, AllowedBy, LegalAfter}
use Rattle.step_machine.proofs.Appended.{LegalAfter-back}
use Rattle.store_buffers.proofs.Reading.{newest-first}
use Rattle.queue_parties.specs.Parties.{Party, other, QueueCounts, count, with_known, known}
use Rattle.queue_parties.proofs.Parties.{Whose, mine, theirs, whose, harts-apart, two, known-set, count-set-known, counts-append}
use Rattle.slot_queue.specs.{Queue, index_word, least_count, IsQueue, hart, index, moved, after_load, after_access, counts_next, counts_after, FollowsOwnership}
use Rattle.slot_queue.specs.{moved_on}
use Rattle.slot_queue.proofs.Sides.{IsClean, Side, clean-word}
use Rattle.slot_queue.proofs.Looks.{reads-other, found}
use Rattle.slot_queue.proofs.Runs.{sides-of, memory_at}
use Rattle.slot_queue.proofs.Runs.{follows-front}

module _ (q : Queue) (is : IsQueue q) (p : Party) where
  abbrev a : ℕ
  a = index q p

  pub reads-through : (f : ℕ → ℕ) (m : ℕ) (ws : List Write) → All (IsClean q p) ws → joined (λ i. f (a + i)) q.index_width ≡ index_word q m
      → joined (λ i. unwrap_or (newest_of (a + i) None ws) (f (a + i))) q.index_width ≡ index_word q (moved_on q p m ws)
  reads-through f m [] all word = word
  reads-through f m (w ∷ ws) all word =
      joined-same (λ i. unwrap_or (newest_of (a + i) None (w ∷ ws)) (f (a + i)))
      (λ i. unwrap_or (newest_of (a + i) None ws) (byte_after w (a + i) (f (a + i)))) q.index_width
      (λ i lt. newest-first (a + i) (f (a + i)) w ws)
      ∙ reads-through (λ x. byte_after w x (f x)) (moved q p m w) ws (All-tail (IsClean q p) w ws all)
      (clean-word q is p w f m (All-head (IsClean q p) w ws all) word)

pub own_index : (B : ℕ) (q : Queue) (start : QueueCounts) (o : OpeningValue) (before es : List Entry) → FollowsOwnership B q start o before es → (p : Party)
    → read o (before ++ es) (hart q p) (index q p) q.index_width ≡ index_word q (count p (counts_after q start es))
own_index B q start o before es f p =
    let m : ℕ = memory_at q start before es p in
    let side : Side q o (before ++ es) (counts_after q start es) p m = sides-of B q start o before es f p in
    reads-through q f.queue p (memory_byte o (before ++ es)) m (pending (hart q p) (before ++ es)) side.own side.word ∙ ap (index_word q) side.count_is

-- a look at the other's index: the true count is what the other's pending stores make of the one that is known then
pub look : (B : ℕ) (q : Queue) (start : QueueCounts) (o : OpeningValue) (before es : List Entry) (e : Entry)
    → FollowsOwnership B q start o before (es ++ e ∷ []) → q.capacity < q.modulus → (p : Party)
    → (v : ℕ) → hart_of e ≡ hart q p → access_of e ≡ load (index q (other p)) q.index_width v
    → moved_on q (other p) (known p (counts_after q start (es ++ e ∷ [])))
    (pending (hart q (other p)) (before ++ es)) ≡ count (other p) (counts_after q start (es ++ e ∷ []))
look B q start o before es e f tells p v by does = by_whose (whose q.sender q.receiver (hart_of e))
  where
    run : FollowsOwnership B q start o before es
    run = follows-front B q start o before es (e ∷ []) f

    c : QueueCounts
    c = counts_after q start es

    m : Party → ℕ
    m = memory_at q start before es

    sides : (t : Party) → Side q o (before ++ es) c t (m t)
    sides = sides-of B q start o before es run

    allowed : AllowedBy B (pending (hart_of e) (before ++ es)) (read o (before ++ es) (hart_of e)) (load (index q (other p)) q.index_width v)
    allowed = subst (AllowedBy B (pending (hart_of e) (before ++ es)) (read o (before ++ es) (hart_of e))) does
        (LegalAfter-back B o [] (before ++ es) (e ∷ []) (subst (LegalAfter B o []) (sym (append_assoc before es (e ∷ []))) f.legal)).0

    word : v ≡ index_word q (m (other p))
    word = allowed ∙ ap (λ h. read o (before ++ es) h (index q (other p)) q.index_width) by
        ∙ reads-other q o (before ++ es) c (other p) (m (other p)) (sides (other p)) (hart q p) (harts-apart q.sender q.receiver f.queue.parties p)

    found_there : after_load q p (index q (other p)) q.index_width v c ≡ with_known p (m (other p)) c
    found_there =
        ap (λ b. if b && (q.index_width == q.index_width) then with_known p (least_count q (known p c) v) c else c)
        (eq-eqb (index q (other p)) (index q (other p)) refl)
        ∙ ap (λ b. if b then with_known p (least_count q (known p c) v) c else c) (eq-eqb q.index_width q.index_width refl)
        ∙ ap (λ k. with_known p k c) (ap (least_count q (known p c)) word ∙ found q f.queue o (before ++ es) c m sides p tells)

    by_whose : Whose q.sender q.receiver (hart_of e)
        → moved_on q (other p) (known p (counts_after q start (es ++ e ∷ [])))
        (pending (hart q (other p)) (before ++ es)) ≡ count (other p) (counts_after q start (es ++ e ∷ []))
    by_whose (theirs far party) = absurd (far p by)
    by_whose (mine r at party) = elim (two p r) [
      | inr same ↦ absurd (harts-apart q.sender q.receiver f.queue.parties p (sym by ∙ at ∙ ap (hart q) same))
      | inl same ↦
          let is : counts_after q start (es ++ e ∷ []) ≡ with_known p (m (other p)) c = counts-append (counts_next q) start es (e ∷ [])
          ∙ ap (λ t. after_access q t (access_of e) c) (party ∙ ap (λ s. Some s) same) ∙ ap (λ y. after_access q (Some p) y c) does ∙ found_there in
          ap (λ d. moved_on q (other p) (known p d) (pending (hart q (other p)) (before ++ es))) is
          ∙ ap (λ k. moved_on q (other p) k (pending (hart q (other p)) (before ++ es))) (known-set p (m (other p)) c)
          ∙ (sides (other p)).count_is ∙ sym (count-set-known p (other p) (m (other p)) c) ∙ ap (count (other p)) (sym is)
    ]
