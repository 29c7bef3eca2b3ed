-- From every run on something more is published or taken, or a hart has ended: all lands, and then the one party and the other execute enough
-- instructions alone.
use Rattle.std.proofs.Common.{ℕ, suc, ◌+◌, ◌<◌, ◌≤◌, ◌≡◌, ◌≢◌, inl, inr, List, [], ◌++◌, length, true, sym, ◌∙◌, ap, subst, arith, append_assoc}
use Rattle.std.specs.Prelude.{All, Bool, option_map, Some, false}
use Rattle.std.proofs.lemmas.List.Elements.{All-nil}
use Rattle.memory.specs.declared.writes.Write.{Write}
use Rattle.hart.specs.State.{HartState}
use Rattle.hart.specs.declared.status.Status.TheVariants as status
use Rattle.step_machine.specs.declared.events.Entry.{Entry}
use Rattle.step_machine.specs.Names.{OpeningValue, history_of, pending, WellFormed}
use Rattle.step_machine.proofs.OwnRuns.{kept-front}
use Rattle.queue_parties.specs.Parties.{Party, the_sender, the_receiver, all_at}
use Rattle.slot_queue.specs.{index_word, hart, moved_on}
use Rattle.slot_queue.proofs.{Side, sides-of, memory_at}
use Rattle.slots_that_tell.specs.{is_tag, teller_hart}
use Rattle.queue_certificates.specs.Certificates.{QueueCertificate, queue_at, tagged_at, start_at, accepts}
use Rattle.queue_certificates.proofs.{tagged-fine, fine, fine-tagged, accepted_runs}
use Rattle.queue_progress.specs.{Pace, executed, counts_at, HaveLanded, Lasts, KeepsRunning, RunsOrEnds, HasEnded, Comes, MovesOn, MovesOnOrEnds, moved_at}
use Rattle.queue_progress.specs.{Arrives, keeps_going, slots_at, teller_at, told_counts_at, told_within, told_moved_at}
use Rattle.queue_progress.proofs.Moved.{all-grow}
use Rattle.queue_progress.proofs.Alone.{executed-append, before, still-empty, landing, acting-on}
use Rattle.queue_progress.proofs.Standing.{grown, stands}
use Rattle.queue_progress.proofs.ToldStanding.{told_stands}
use Rattle.queue_progress.proofs.ToldStanding as told

-- ---- of harts g and h, where `moved` grows, and is more after n instructions of the one and m of the other once both have nothing pending

module _ (B M : ℕ) (o : OpeningValue) (g h : ℕ) (apart : g ≢ h) (moved : List Entry → ℕ) (grows : (es fs : List Entry) → moved es ≤ moved (es ++ fs))
    (n m : ℕ) (stood : (es row : List Entry) → WellFormed B M (history_of o (es ++ row)) → pending g es ≡ [] → pending h es ≡ []
    → n ≤ executed g row → m ≤ executed h row → moved es < moved (es ++ row)) (some : 1 ≤ B) where
  module _ (one_runs : RunsOrEnds B M o g) (other_runs : RunsOrEnds B M o h) where
    abbrev OnFrom : List Entry → List Entry → Type 0
    OnFrom start = MovesOnOrEnds M o g h moved start

    -- where nothing is pending, and no less has moved than at the start
    from-empty : (start es : List Entry) → WellFormed B M (history_of o es) → moved start ≤ moved es → pending g es ≡ [] → pending h es ≡ []
        → Comes B M o (OnFrom start) es
    from-empty start es run upto empty also = elim (acting-on B M o g one_runs some n es run empty) [
      | inr ends ↦ record { later = ends.later; run = ends.run; so = inr (inl ends.so) }
      | inl one ↦ elim (acting-on B M o h other_runs some m (es ++ one.entries) one.run
          (still-empty B M o g h es one.entries one.run one.mine apart also)) [
            | inr ends ↦ before B M o (OnFrom start) es one.entries (record { later = ends.later; run = ends.run; so = inr (inr ends.so) })
            | inl two ↦ (
                let row_run : WellFormed B M (history_of o (es ++ (one.entries ++ two.entries))) =
                subst (λ xs. WellFormed B M (history_of o xs)) (append_assoc es one.entries two.entries) two.run in
                let sum : executed g (one.entries ++ two.entries) ≡ executed g one.entries + executed g two.entries =
                executed-append g one.entries two.entries in
                let other_sum : executed h (one.entries ++ two.entries) ≡ executed h one.entries + executed h two.entries =
                executed-append h one.entries two.entries in
                let more : moved es < moved (es ++ (one.entries ++ two.entries)) =
                stood es (one.entries ++ two.entries) row_run empty also (omega (arith, sum, one.many)) (omega (arith, other_sum, two.many)) in
                record { later = one.entries ++ two.entries; run = row_run; so = inl (omega (arith, upto, more)) })
          ]
    ]

    pub moving-on : (es : List Entry) → WellFormed B M (history_of o es) → Comes B M o (MovesOnOrEnds M o g h moved es) es
    moving-on es run =
        let first = landing B M o g one_runs some es run in
        let second = landing B M o h other_runs some (es ++ first.entries) first.run in
        let one : moved es ≤ moved (es ++ first.entries) = grows es first.entries in
        let two : moved (es ++ first.entries) ≤ moved ((es ++ first.entries) ++ second.entries) = grows (es ++ first.entries) second.entries in
        before B M o (OnFrom es) es first.entries (before B M o (OnFrom es) (es ++ first.entries) second.entries
        (from-empty es ((es ++ first.entries) ++ second.entries) second.run (omega (arith, one, two))
        (still-empty B M o h g (es ++ first.entries) second.entries second.run second.mine (λ same. apart (sym same)) first.empty) second.empty))

  -- harts that run in every run have ended in none
  module _ (one_lasts : Lasts B M o g) (other_lasts : Lasts B M o h) where
    running : (k : ℕ) → Lasts B M o k → RunsOrEnds B M o k
    running k lasts es run = let at = lasts es run in (at.0, at.1, inl at.2)

    not-ended : (k : ℕ) → Lasts B M o k → (es : List Entry) → WellFormed B M (history_of o es) → HasEnded M o k es → ⊥
    not-ended k lasts es run ended = let at = lasts es run in
        let no : Some status.Running ≡ Some status.Ended = ap (λ x. Some x) (sym at.2)
        ∙ sym (ap (λ z. option_map (λ (s : HartState). s.status) z) at.1) ∙ ended in absurd (cc)

    pub moving : (es : List Entry) → WellFormed B M (history_of o es) → Comes B M o (MovesOn moved es) es
    moving es run = let w = moving-on (running g one_lasts) (running h other_lasts) es run in
        record { later = w.later; run = w.run; so = by w.later w.run w.so }
      where
        by : (later : List Entry) → WellFormed B M (history_of o (es ++ later)) → MovesOnOrEnds M o g h moved es (es ++ later)
            → MovesOn moved es (es ++ later)
        by later on (inl more) = more
        by later on (inr (inl ended)) = absurd (not-ended g one_lasts (es ++ later) on ended)
        by later on (inr (inr ended)) = absurd (not-ended h other_lasts (es ++ later) on ended)

  pub on-from : (always : Bool) → KeepsRunning always B M o g → KeepsRunning always B M o h → (es : List Entry) → WellFormed B M (history_of o es)
      → Arrives always B M o g h moved es
  on-from true one other = moving one other
  on-from false one other = moving-on one other

module _ (B M : ℕ) (o : OpeningValue) (c : QueueCertificate) (ok : accepts o c ≡ true) where
  -- ---- a queue with indices

  module _ (i : ℕ) (less : i < length c.queues) where
    -- where nothing is pending of either party, memory has the counts
    landed : (es : List Entry) → WellFormed B M (history_of o es) → ((p : Party) → pending (hart (queue_at c i) p) es ≡ [])
        → HaveLanded (queue_at c i) o es (counts_at c i es)
    landed es run none p = side.word
        ∙ ap (index_word (queue_at c i))
        (ap (moved_on (queue_at c i) p (memory_at (queue_at c i) (all_at (start_at c i)) [] es p)) (sym (none p))
        ∙ side.count_is)
      where
        side : Side (queue_at c i) o es (counts_at c i es) p (memory_at (queue_at c i) (all_at (start_at c i)) [] es p)
        side = sides-of B (queue_at c i) (all_at (start_at c i)) o [] es (accepted_runs B M o c ok es run i less) p

    parties-apart : (queue_at c i).sender ≢ (queue_at c i).receiver
    parties-apart = (fine M o c ok i less).0.parties

    moves-grow : (es fs : List Entry) → moved_at c i es ≤ moved_at c i (es ++ fs)
    moves-grow es fs = all-grow (counts_at c i es) (counts_at c i (es ++ fs)) (grown B M o c ok i less es fs)

    module _ (its theirs : Pace) (room : its.owned + theirs.owned < (queue_at c i).capacity)
        (sends : keeps_going o c (queue_at c i).sender i its ≡ true) (receives : keeps_going o c (queue_at c i).receiver i theirs ≡ true) where
      stood : (es row : List Entry) → WellFormed B M (history_of o (es ++ row)) → pending (queue_at c i).sender es ≡ []
          → pending (queue_at c i).receiver es ≡ [] → its.pace + its.sight + 2 ≤ executed (queue_at c i).sender row
          → theirs.pace + theirs.sight + 2 ≤ executed (queue_at c i).receiver row → moved_at c i es < moved_at c i (es ++ row)
      stood es row run empty also = stands B M o c ok i less its theirs room sends receives es row run
          (landed es (kept-front B M o es row run) by)
        where
          by : (p : Party) → pending (hart (queue_at c i) p) es ≡ []
          by the_sender = empty
          by the_receiver = also

      pub arrives : 1 ≤ B → (always : Bool) → KeepsRunning always B M o (queue_at c i).sender
          → KeepsRunning always B M o (queue_at c i).receiver → (es : List Entry)
          → WellFormed B M (history_of o es) → Arrives always B M o (queue_at c i).sender (queue_at c i).receiver (moved_at c i) es
      arrives = on-from B M o (queue_at c i).sender (queue_at c i).receiver parties-apart (moved_at c i) moves-grow
          (its.pace + its.sight + 2) (theirs.pace + theirs.sight + 2) stood

  -- ---- a queue with tags

  module _ (t : ℕ) (less : t < length c.tagged) where
    tellers-apart : teller_at c t the_sender ≢ teller_at c t the_receiver
    tellers-apart = (tagged-fine (tagged_at c t) (fine-tagged M o c ok t less)).parties

    told-grow : (es fs : List Entry) → told_moved_at c t es ≤ told_moved_at c t (es ++ fs)
    told-grow es fs = all-grow (told_counts_at c t es) (told_counts_at c t (es ++ fs)) (told.grown B M o c ok t less es fs)

    module _ (S R : ℕ) (sends : told_within o c (teller_at c t the_sender) t S ≡ true)
        (receives : told_within o c (teller_at c t the_receiver) t R ≡ true) where
      told-stood : (es row : List Entry) → WellFormed B M (history_of o (es ++ row)) → pending (teller_at c t the_sender) es ≡ []
          → pending (teller_at c t the_receiver) es ≡ [] → suc S ≤ executed (teller_at c t the_sender) row
          → suc R ≤ executed (teller_at c t the_receiver) row → told_moved_at c t es < told_moved_at c t (es ++ row)
      told-stood es row run empty also enough other = told_stands B M o c ok t less S R sends receives es row run by
          (omega (arith, enough)) (omega (arith, other))
        where
          off : (ws : List Write) → ws ≡ [] → All (λ w. is_tag (slots_at c t) w.addr w.width ≡ false) ws
          off ws none = subst (All (λ w. is_tag (slots_at c t) w.addr w.width ≡ false)) (sym none)
              (All-nil (λ (w : Write). is_tag (slots_at c t) w.addr w.width ≡ false))

          by : (p : Party) → All (λ w. is_tag (slots_at c t) w.addr w.width ≡ false) (pending (teller_hart (slots_at c t) p) es)
          by the_sender = off (pending (teller_at c t the_sender) es) empty
          by the_receiver = off (pending (teller_at c t the_receiver) es) also

      pub told_arrives : 1 ≤ B → (always : Bool) → KeepsRunning always B M o (teller_at c t the_sender) → KeepsRunning always B M o (teller_at c t the_receiver)
          → (es : List Entry) → WellFormed B M (history_of o es)
          → Arrives always B M o (teller_at c t the_sender) (teller_at c t the_receiver) (told_moved_at c t) es
      told_arrives = on-from B M o (teller_at c t the_sender) (teller_at c t the_receiver) tellers-apart (told_moved_at c t) told-grow
          (suc S) (suc R) told-stood
