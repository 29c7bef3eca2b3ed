-- A row of instructions that are stuck is short: until the first look they are blind, and after it they are idle.
use Rattle.std.proofs.Common.{ℕ, ◌+◌, ◌<◌, ◌≤◌, ◌≡◌, ◌≢◌, ◌==◌, ◌&&◌, ◌⊎◌, inl, inr, if◌then◌else◌, Bool, true, false, Some, List, [], ◌∷◌, ◌++◌, length, refl}
use Rattle.std.proofs.Common.{sym, ◌∙◌, ap, subst, arith, append_assoc}
use Rattle.std.proofs.lemmas.Bool.{and_parts, eqb-true, cases_eq, or_cases}
use Rattle.step_machine.specs.declared.events.Entry.{Entry}
use Rattle.step_machine.specs.Names.{OpeningValue, history_of, Access, nothing, load, store, exchange, fence, land, access_of, hart_of, is_own, WellFormed}
use Rattle.step_machine.proofs.OwnRuns.{kept-front}
use Rattle.store_buffers.proofs.OwnEntries.{own_parts}
use Rattle.queue_parties.specs.Parties.{Party, the_sender, the_receiver, other, QueueCounts, count, known, with_known, all_at, counts_from}
use Rattle.queue_parties.proofs.Parties.{counts-append}
use Rattle.certified_runs.specs.TwoParties.{IsSameFor}
use Rattle.certified_runs.proofs.TwoParties.{left-same}
use Rattle.slot_queue.specs.{Queue, IsQueue, least_count, hart, party_of, index, end, after_load, after_access, counts_next, moved}
use Rattle.queue_certificates.specs.{owning, Form, QueueCertificate, queue_at, start_at, accepts, fits_in, instruction_at}
use Rattle.queue_certificates.proofs.Counted.{is_of_parties}
use Rattle.queue_certificates.proofs.{hart-party, fine}
use Rattle.queue_progress.specs.{Pace, executed, counts_at, IsIdleStep, LooksBy, IsBlindStep, IsStuckAt, IsStuckStep, EachOwn, EachAfter, keeps_pace}
use Rattle.queue_progress.specs.{keeps_looking}
use Rattle.queue_progress.specs.{idle_ranks, blind_ranks, keeps_going, code_of, moves, most_owned, looks, not_idle, not_blind, never_cut}
use Rattle.queue_progress.proofs.Alone.{executed-append}
use Rattle.queue_progress.proofs.Leaves.{moves-on, owns-few, looks-so}
use Rattle.queue_progress.proofs.Falling.{bounded}

module _ (q : Queue) (is : IsQueue q) (p : Party) where
  abbrev h : ℕ
  h = hart q p

  -- what is owned ends by what is known of the other's count
  pub end-of : (c d : QueueCounts) → known p d ≡ known p c → end q p d ≡ end q p c
  end-of c d = by p
    where
      by : (r : Party) → known r d ≡ known r c → end q r d ≡ end q r c
      by the_sender same = ap (λ n. n + q.capacity) same
      by the_receiver same = same

  -- whether an access is a look; one that isn't leaves what is known
  pub looks? : (y : Access) → LooksBy q p y ⊎ (LooksBy q p y → ⊥)
  looks? (load a width v) = by (cases_eq a (index q (other p))) (cases_eq width q.index_width)
    where
      by : (a ≡ index q (other p)) ⊎ (a ≢ index q (other p)) → (width ≡ q.index_width) ⊎ (width ≢ q.index_width)
          → LooksBy q p (load a width v) ⊎ (LooksBy q p (load a width v) → ⊥)
      by (inl at) (inl wide) = inl (at, wide)
      by (inl at) (inr not) = inr (λ l. not l.1)
      by (inr not) wide = inr (λ l. not l.0)
  looks? (exchange a old new) = by (cases_eq a (index q (other p))) (cases_eq 4 q.index_width)
    where
      by : (a ≡ index q (other p)) ⊎ (a ≢ index q (other p)) → (4 ≡ q.index_width) ⊎ (4 ≢ q.index_width)
          → LooksBy q p (exchange a old new) ⊎ (LooksBy q p (exchange a old new) → ⊥)
      by (inl at) (inl wide) = inl (at, wide)
      by (inl at) (inr not) = inr (λ l. not l.1)
      by (inr not) wide = inr (λ l. not l.0)
  looks? nothing = inr (λ l. l)
  looks? (store w) = inr (λ l. l)
  looks? (fence full) = inr (λ l. l)
  looks? land = inr (λ l. l)

  load-keeps : (a width v : ℕ) (c : QueueCounts) → ((a ≡ index q (other p)) × (width ≡ q.index_width) → ⊥) → after_load q p a width v c ≡ c
  load-keeps a width v c off = by (a == index q (other p) && width == q.index_width) refl
    where
      by : (t : Bool) → (a == index q (other p) && width == q.index_width) ≡ t → (if t then with_known p (least_count q (known p c) v) c else c) ≡ c
      by false other-place = refl
      by true there = absurd (let parts = and_parts (a == index q (other p)) (width == q.index_width) there in
          off (eqb-true a (index q (other p)) parts.0, eqb-true width q.index_width parts.1))

  pub counted-known : (n : ℕ) (c : QueueCounts) → (r : Party) → known r (Rattle.queue_parties.specs.Parties.with_count r n c) ≡ known r c
  counted-known n c the_sender = refl
  counted-known n c the_receiver = refl

  pub known-kept : (y : Access) (c : QueueCounts) → (LooksBy q p y → ⊥) → known p (after_access q (Some p) y c) ≡ known p c
  known-kept (load a width v) c off = ap (known p) (load-keeps a width v c off)
  known-kept (store w) c off = counted-known (moved q p (count p c) w) c p
  known-kept (exchange a old new) c off = counted-known _ (after_load q p a 4 old c) p ∙ ap (known p) (load-keeps a 4 old c off)
  known-kept nothing c off = refl
  known-kept (fence full) c off = refl
  known-kept land c off = refl

  module _ (K : ℕ) where
    -- it owns more than K positions
    abbrev HasMore : QueueCounts → Type 0
    HasMore c = count p c + K < end q p c

    more-left : (c : QueueCounts) (e : Entry) → HasMore c → is_own (hart q p) e ≡ false → HasMore (counts_next q c e)
    more-left c e more off =
        let same : IsSameFor (owning q) (hart q p) c (counts_next q c e) = left-same (owning q) (is_of_parties q is) (hart q p) c e off in
        let stays : count p (counts_next q c e) ≡ count p c = same.count p refl in
        let ends : end q p (counts_next q c e) ≡ end q p c = end-of c (counts_next q c e) (same.known p refl) in omega (arith, more, stays, ends)

    more-own : (c : QueueCounts) (e : Entry) → HasMore c → is_own (hart q p) e ≡ true → IsStuckStep q p K c e → HasMore (counts_next q c e)
    more-own c e more on stuck = by (looks? (access_of e))
      where
        mine : party_of q (hart_of e) ≡ Some p
        mine = hart-party q is (hart_of e) p (own_parts (hart q p) e on).0

        by : LooksBy q p (access_of e) ⊎ (LooksBy q p (access_of e) → ⊥) → HasMore (counts_next q c e)
        by (inl look) = let found : count p c + K < end q p (counts_next q c e) = stuck.finds look in
            let stays : count p (counts_next q c e) ≡ count p c = stuck.stays in omega (arith, found, stays)
        by (inr off) =
            let ends : end q p (counts_next q c e) ≡ end q p c = end-of c (counts_next q c e)
            (ap (λ t. known p (after_access q t (access_of e) c)) mine ∙ known-kept (access_of e) c off) in
            let stays : count p (counts_next q c e) ≡ count p c = stuck.stays in omega (arith, more, ends, stays)

    -- where it owns more, what is stuck is idle
    idle-row : (row : List Entry) (c : QueueCounts) → HasMore c → EachOwn q p (IsStuckStep q p K) c row → EachOwn q p (IsIdleStep q p K) c row
    idle-row [] c more each = tt
    idle-row (e ∷ row) c more each = (
      λ on. record { stays = (each.0 on).stays; owns = more },
      idle-row row (counts_next q c e) (by (is_own (hart q p) e) refl) each.1,
    )
      where
        by : (b : Bool) → is_own (hart q p) e ≡ b → HasMore (counts_next q c e)
        by false off = more-left c e more off
        by true on = more-own c e more on (each.0 on)

    -- a row up to its first look
    record Split (c : QueueCounts) (row : List Entry) : Type 0 where
      front : List Entry
      look : Entry
      back : List Entry
      all : row ≡ front ++ look ∷ back
      blind : EachOwn q p (IsBlindStep q p) c front
      mine : is_own (hart q p) look ≡ true
      more : HasMore (counts_from (counts_next q) c (front ++ look ∷ []))
      stuck : EachOwn q p (IsStuckStep q p K) (counts_from (counts_next q) c (front ++ look ∷ [])) back

    split : (row : List Entry) (c : QueueCounts) → EachOwn q p (IsStuckStep q p K) c row → EachOwn q p (IsBlindStep q p) c row ⊎ Split c row
    split [] c each = inl tt
    split (e ∷ row) c each = by (is_own (hart q p) e) refl (looks? (access_of e)) (split row (counts_next q c e) each.1)
      where
        further : (is_own (hart q p) e ≡ true → IsBlindStep q p c e)
            → EachOwn q p (IsBlindStep q p) (counts_next q c e) row ⊎ Split (counts_next q c e) row
            → EachOwn q p (IsBlindStep q p) c (e ∷ row) ⊎ Split c (e ∷ row)
        further unseen (inl blind) = inl (unseen, blind)
        further unseen (inr s) = inr (record {
          front = e ∷ s.front;
          look = s.look;
          back = s.back;
          all = ap (λ es. e ∷ es) s.all;
          blind = (unseen, s.blind);
          mine = s.mine;
          more = s.more;
          stuck = s.stuck;
        })

        by : (b : Bool) → is_own (hart q p) e ≡ b → LooksBy q p (access_of e) ⊎ (LooksBy q p (access_of e) → ⊥)
            → EachOwn q p (IsBlindStep q p) (counts_next q c e) row ⊎ Split (counts_next q c e) row
            → EachOwn q p (IsBlindStep q p) c (e ∷ row) ⊎ Split c (e ∷ row)
        by false off look rest = further (λ on. absurd (let no : false ≡ true = sym off ∙ on in cc)) rest
        by true on (inr unseen) rest = further (λ on. record { stays = (each.0 on).stays; unseen = unseen }) rest
        by true on (inl look) rest = inr (record {
          front = [];
          look = e;
          back = row;
          all = refl;
          blind = tt;
          mine = on;
          more = (let found : count p c + K < end q p (counts_next q c e) = (each.0 on).finds look in
              let stays : count p (counts_next q c e) ≡ count p c = (each.0 on).stays in omega (arith, found, stays));
          stuck = each.1;
        })

module _ (B M : ℕ) (o : OpeningValue) (c : QueueCertificate) (ok : accepts o c ≡ true) (i : ℕ) (p : Party) (less : i < length c.queues) where
  abbrev g : ℕ
  g = hart (queue_at c i) p

  -- ---- idle instructions, and blind ones: no more in a row than the party's graph has

  pub each-after : (Is : QueueCounts → Entry → Type 0) (row done : List Entry) → EachOwn (queue_at c i) p Is (counts_at c i done) row
      → EachAfter g (λ es e. Is (counts_at c i es) e) done row
  each-after Is [] done each = tt
  each-after Is (e ∷ row) done each = (
    each.0,
    each-after Is row (done ++ e ∷ [])
        (subst (λ d. EachOwn (queue_at c i) p Is d row) (sym (counts-append (counts_next (queue_at c i)) (all_at (start_at c i)) done (e ∷ []))) each.1),
  )

  own-each : (Is : QueueCounts → Entry → Type 0) (row done : List Entry) → EachAfter g (λ es e. Is (counts_at c i es) e) done row
      → EachOwn (queue_at c i) p Is (counts_at c i done) row
  own-each Is [] done each = tt
  own-each Is (e ∷ row) done each = (
    each.0,
    subst (λ d. EachOwn (queue_at c i) p Is d row) (counts-append (counts_next (queue_at c i)) (all_at (start_at c i)) done (e ∷ []))
        (own-each Is row (done ++ e ∷ []) each.1),
  )

  pub pace : (K : ℕ) (ranks : List Form) (N : ℕ) → keeps_pace o c g i K ranks N ≡ true → (es row : List Entry) → WellFormed B M (history_of o (es ++ row))
      → EachOwn (queue_at c i) p (IsIdleStep (queue_at c i) p K) (counts_at c i es) row → executed g row ≤ N
  pace K ranks N shown es row run each = bounded B M o c ok g (not_idle o c g i K) never_cut (λ done e. IsIdleStep (queue_at c i) p K (counts_at c i done) e)
      (λ xs k d s done e at other idle. elim (or_cases (moves c g (code_of o g) i k d) (fits_in (most_owned i k) (Some K)) other) [
        | inl goes ↦ moves-on B M o c ok g i less p refl xs k d s done e at goes idle.stays
        | inr few ↦ (let no : end (queue_at c i) p (counts_at c i done) ≤ count p (counts_at c i done) + K =
            owns-few B M o c ok g i less p refl xs k d s done e at K few in
            let owns : count p (counts_at c i done) + K < end (queue_at c i) p (counts_at c i done) = idle.owns in omega (arith, no, owns))
      ])
      (λ xs k d s done e at none idle. absurd (cc)) ranks N shown es row run (each-after (IsIdleStep (queue_at c i) p K) row es each)

  pub looking : (ranks : List Form) (L : ℕ) → keeps_looking o c g i ranks L ≡ true → (es row : List Entry) → WellFormed B M (history_of o (es ++ row))
      → EachOwn (queue_at c i) p (IsBlindStep (queue_at c i) p) (counts_at c i es) row → executed g row ≤ L
  looking ranks L shown es row run each = bounded B M o c ok g (not_blind o c g i) never_cut (λ done e. IsBlindStep (queue_at c i) p (counts_at c i done) e)
      (λ xs k d s done e at other blind. elim (or_cases (moves c g (code_of o g) i k d) (looks c g i k (instruction_at (code_of o g) k.pc)) other) [
        | inl goes ↦ moves-on B M o c ok g i less p refl xs k d s done e at goes blind.stays
        | inr sees ↦ blind.unseen (looks-so B M o c ok g i less p refl xs k d s done e at sees)
      ])
      (λ xs k d s done e at none blind. absurd (cc)) ranks L shown es row run (each-after (IsBlindStep (queue_at c i) p) row es each)

  -- ---- stuck ones

  -- where idle ones and blind ones have a bound
  pub going_of : (K N L : ℕ)
      → ((es row : List Entry) → WellFormed B M (history_of o (es ++ row))
      → EachOwn (queue_at c i) p (IsIdleStep (queue_at c i) p K) (counts_at c i es) row → executed g row ≤ N)
      → ((es row : List Entry) → WellFormed B M (history_of o (es ++ row))
      → EachOwn (queue_at c i) p (IsBlindStep (queue_at c i) p) (counts_at c i es) row → executed g row ≤ L)
      → (es row : List Entry) → WellFormed B M (history_of o (es ++ row))
      → EachOwn (queue_at c i) p (IsStuckStep (queue_at c i) p K) (counts_at c i es) row → executed g row ≤ N + L + 1
  going_of K N L idle unseen es row run each = by (split (queue_at c i) (fine M o c ok i less).0 p K row (counts_at c i es) each)
    where
      by : EachOwn (queue_at c i) p (IsBlindStep (queue_at c i) p) (counts_at c i es) row
          ⊎ Split (queue_at c i) (fine M o c ok i less).0 p K (counts_at c i es) row
          → executed g row ≤ N + L + 1
      by (inl blind) = let few : executed g row ≤ L = unseen es row run blind in omega (arith, few)
      by (inr s) =
          let begun : List Entry = es ++ (s.front ++ s.look ∷ []) in
          let all : (es ++ (s.front ++ s.look ∷ [])) ++ s.back ≡ es ++ row =
          append_assoc es (s.front ++ s.look ∷ []) s.back
          ∙ ap (λ fs. es ++ fs) (append_assoc s.front (s.look ∷ []) s.back ∙ sym s.all) in
          let whole : WellFormed B M (history_of o ((es ++ (s.front ++ s.look ∷ [])) ++ s.back)) =
          subst (λ fs. WellFormed B M (history_of o fs)) (sym all) run in
          let front_run : WellFormed B M (history_of o (es ++ s.front)) = kept-front B M o (es ++ s.front) (s.look ∷ s.back)
          (subst (λ fs. WellFormed B M (history_of o fs))
          (ap (λ fs. es ++ fs) s.all ∙ sym (append_assoc es s.front (s.look ∷ s.back))) run) in
          let same : counts_from (counts_next (queue_at c i)) (counts_at c i es) (s.front ++ s.look ∷ []) ≡ counts_at c i (es ++ (s.front ++ s.look ∷ [])) =
          sym (counts-append (counts_next (queue_at c i)) (all_at (start_at c i)) es (s.front ++ s.look ∷ [])) in
          let before : executed g s.front ≤ L = unseen es s.front front_run s.blind in
          let after : executed g s.back ≤ N = idle (es ++ (s.front ++ s.look ∷ [])) s.back whole
          (subst (λ d. EachOwn (queue_at c i) p (IsIdleStep (queue_at c i) p K) d s.back) same
          (idle-row (queue_at c i) (fine M o c ok i less).0 p K s.back
          (counts_from (counts_next (queue_at c i)) (counts_at c i es) (s.front ++ s.look ∷ [])) s.more s.stuck)) in
          let one : executed g (s.look ∷ s.back) ≡ 1 + executed g s.back =
          ap (λ t. (if t then 1 else 0) + executed g s.back) s.mine in
          let sum : executed g row ≡ executed g s.front + executed g (s.look ∷ s.back) =
          ap (executed g) s.all ∙ executed-append g s.front (s.look ∷ s.back) in
          omega (arith, before, after, one, sum)

  pub going : (b : Pace) → keeps_going o c g i b ≡ true → (es row : List Entry) → WellFormed B M (history_of o (es ++ row))
      → EachAfter g (IsStuckAt c i p b.owned) es row → executed g row ≤ b.pace + b.sight + 1
  going b shown es row run each = let both = and_parts (keeps_pace o c g i b.owned (idle_ranks c g i) b.pace)
      (keeps_looking o c g i (blind_ranks c g i) b.sight) shown in
      going_of b.owned b.pace b.sight (pace b.owned (idle_ranks c g i) b.pace both.0) (looking (blind_ranks c g i) b.sight both.1) es row run
      (own-each (IsStuckStep (queue_at c i) p b.owned) row es each)
