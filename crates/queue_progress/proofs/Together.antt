-- A hart of several queues: a row of its instructions that are stuck is short. It is idle where the hart owns more of each queue; else blind up to
-- a load of the index of one of which it owns no more, and after that it owns more of one queue more.
use Rattle.std.proofs.Common.{ℕ, zero, suc, ◌+◌, ◌*◌, ◌<◌, ◌≤◌, ◌≡◌, ◌⊎◌, inl, inr, if◌then◌else◌, Bool, true, false, Some, not, List, [], ◌∷◌}
use Rattle.std.proofs.Common.{◌++◌, length, refl, sym, ◌∙◌, ap, subst, arith, append_assoc, append-nil}
use Rattle.std.specs.Prelude.{nat_lt}
use Rattle.std.specs.Option.{is_some}
use Rattle.std.proofs.Math.Nat.{suc-mul}
use Rattle.std.proofs.lemmas.Bool.{and_parts, or_cases, cases_eq}
use Rattle.step_machine.specs.declared.events.Entry.{Entry}
use Rattle.step_machine.specs.Names.{OpeningValue, history_of, access_of, hart_of, is_own, WellFormed}
use Rattle.step_machine.proofs.OwnRuns.{kept-front}
use Rattle.store_buffers.proofs.OwnEntries.{own_parts}
use Rattle.queue_parties.specs.Parties.{Party, count, known, all_at}
use Rattle.queue_parties.proofs.Parties.{counts-append}
use Rattle.certified_runs.specs.TwoParties.{IsSameFor}
use Rattle.certified_runs.proofs.TwoParties.{left-same}
use Rattle.slot_queue.specs.Ownership.{hart, party_of, after_access, counts_next, end}
use Rattle.queue_certificates.specs.{owning, fits_in, instruction_at, QueueCertificate, queue_at, start_at, accepts}
use Rattle.queue_certificates.proofs.Counted.{is_of_parties}
use Rattle.queue_certificates.proofs.{at-below, hart-party, same-party, fine}
use Rattle.queue_progress.specs.{Pace, are_ranks, not_hart_idle, not_hart_blind, never_cut, code_of, executed, counts_at, LooksBy, EachAfter, is_side, sides}
use Rattle.queue_progress.specs.{moves_some, fewest_owned, is_among, differs, each_lacking, hart_keeps_going}
use Rattle.queue_progress.specs.{together_ranks, lacking_ranks, owns_more, has_more, has_more_of_all}
use Rattle.queue_progress.specs.{LeavesCounts, HasMoreWhereItLooks, IsHartIdle, IsHartBlind, IsHartStuck}
use Rattle.queue_progress.proofs.Alone.{executed-append}
use Rattle.queue_progress.proofs.Falling.{bounded}
use Rattle.queue_progress.proofs.Going.{looks?, end-of, known-kept}
use Rattle.queue_progress.proofs.Lacked.{lacking-list, among-list, some-lacking, each-at, turned}
use Rattle.queue_progress.proofs.Numbers.{all-from, lacking, none-lacking, fewer-lacking, less-lacking}
use Rattle.queue_progress.proofs.HartLeaves as leaves

module _ (B M : ℕ) (o : OpeningValue) (c : QueueCertificate) (ok : accepts o c ≡ true) (h : ℕ) where
  abbrev IsSide : ℕ → Type 0
  IsSide i = leaves.IsSide B M o c ok h i

  side? : (i : ℕ) → i < length c.queues → IsSide i ⊎ ((es : List Entry) (K : ℕ) → has_more c h K es i ≡ true)
  side? i less = leaves.side? B M o c ok h i less

  module _ (K : ℕ) where
    -- ---- entries

    counted-next : (i : ℕ) (done : List Entry) (e : Entry) → counts_at c i (done ++ e ∷ []) ≡ counts_next (queue_at c i) (counts_at c i done) e
    counted-next i done e = counts-append (counts_next (queue_at c i)) (all_at (start_at c i)) done (e ∷ [])

    -- what is so of a queue stays so where the hart's count and what it knows of the other's do
    same-more : (i : ℕ) → i < length c.queues → (side : IsSide i) (done : List Entry) (e : Entry)
        → count side.party (counts_next (queue_at c i) (counts_at c i done) e) ≡ count side.party (counts_at c i done)
        → known side.party (counts_next (queue_at c i) (counts_at c i done) e) ≡ known side.party (counts_at c i done)
        → has_more c h K (done ++ e ∷ []) i ≡ has_more c h K done i
    same-more i less side done e stays knows =
        ap (owns_more (queue_at c i) (party_of (queue_at c i) h) K) (counted-next i done e)
        ∙ ap (λ t. owns_more (queue_at c i) t K (counts_next (queue_at c i) (counts_at c i done) e)) side.is
        ∙ ap (λ n. nat_lt (n + K) (end (queue_at c i) side.party (counts_next (queue_at c i) (counts_at c i done) e))) stays
        ∙ ap (λ n. nat_lt (count side.party (counts_at c i done) + K) n)
        (end-of (queue_at c i) (fine M o c ok i less).0 side.party (counts_at c i done) (counts_next (queue_at c i) (counts_at c i done) e) knows)
        ∙ sym (leaves.more-is B M o c ok h K i side done)

    left-more : (i : ℕ) → i < length c.queues → (done : List Entry) (e : Entry) → is_own h e ≡ false
        → has_more c h K (done ++ e ∷ []) i ≡ has_more c h K done i
    left-more i less done e off = elim (side? i less) [
      | inr none ↦ none (done ++ e ∷ []) K ∙ sym (none done K)
      | inl side ↦ (
          let same : IsSameFor (owning (queue_at c i)) h (counts_at c i done) (counts_next (queue_at c i) (counts_at c i done) e) =
          left-same (owning (queue_at c i)) (is_of_parties (queue_at c i) (fine M o c ok i less).0) h (counts_at c i done) e off in
          same-more i less side done e (same.count side.party side.mine) (same.known side.party side.mine))
    ]

    unseen-more : (i : ℕ) → i < length c.queues → (side : IsSide i) (done : List Entry) (e : Entry) → is_own h e ≡ true → LeavesCounts c h done e
        → (LooksBy (queue_at c i) side.party (access_of e) → ⊥) → has_more c h K (done ++ e ∷ []) i ≡ has_more c h K done i
    unseen-more i less side done e on stays off = same-more i less side done e (stays i less side.party side.mine)
        (ap (λ t. known side.party (after_access (queue_at c i) t (access_of e) (counts_at c i done)))
        (hart-party (queue_at c i) (fine M o c ok i less).0 (hart_of e) side.party ((own_parts h e on).0 ∙ side.mine))
        ∙ known-kept (queue_at c i) (fine M o c ok i less).0 side.party (access_of e) (counts_at c i done) off)

    -- no look makes it own less
    kept-more : (i : ℕ) → i < length c.queues → (done : List Entry) (e : Entry) → (is_own h e ≡ true → IsHartStuck c h K done e)
        → has_more c h K done i ≡ true → has_more c h K (done ++ e ∷ []) i ≡ true
    kept-more i less done e stuck so = by (is_own h e) refl
      where
        own : is_own h e ≡ true → IsSide i → has_more c h K (done ++ e ∷ []) i ≡ true
        own on side = elim (looks? (queue_at c i) (fine M o c ok i less).0 side.party (access_of e)) [
          | inl look ↦ (stuck on).finds i less side.party side.mine look
          | inr off ↦ unseen-more i less side done e on (stuck on).stays off ∙ so
        ]

        by : (t : Bool) → is_own h e ≡ t → has_more c h K (done ++ e ∷ []) i ≡ true
        by false off = left-more i less done e off ∙ so
        by true on = elim (side? i less) [
          | inr none ↦ none (done ++ e ∷ []) K
          | inl side ↦ own on side
        ]

    all-kept : (done : List Entry) (e : Entry) → (is_own h e ≡ true → IsHartStuck c h K done e) → has_more_of_all c h K done ≡ true
        → has_more_of_all c h K (done ++ e ∷ []) ≡ true
    all-kept done e stuck all = all-from (length c.queues) (has_more c h K (done ++ e ∷ []))
        (λ i less. kept-more i less done e stuck (at-below (length c.queues) (has_more c h K done) all i less))

    -- ---- rows

    idle-row : (row done : List Entry) → has_more_of_all c h K done ≡ true → EachAfter h (IsHartStuck c h K) done row → EachAfter h (IsHartIdle c h K) done row
    idle-row [] done all each = tt
    idle-row (e ∷ row) done all each = (
      λ on. record { stays = (each.0 on).stays; owns = all },
      idle-row row (done ++ e ∷ []) (all-kept done e each.0 all) each.1,
    )

    -- it looks at a queue of which it owns no more
    record Needed (done : List Entry) (e : Entry) : Type 0 where
      queue : ℕ
      less : queue < length c.queues
      side : IsSide queue
      look : LooksBy (queue_at c queue) side.party (access_of e)
      lacks : has_more c h K done queue ≡ false

    -- of queue i it does not
    abbrev Spares : List Entry → Entry → (i : ℕ) → Type 0
    Spares done e i = (p : Party) → h ≡ hart (queue_at c i) p → LooksBy (queue_at c i) p (access_of e) → has_more c h K done i ≡ true

    spares? : (i : ℕ) → i < length c.queues → (done : List Entry) (e : Entry) → Needed done e ⊎ Spares done e i
    spares? i less done e = by (has_more c h K done i) refl (side? i less)
      where
        found : (side : IsSide i) → has_more c h K done i ≡ false → Needed done e ⊎ Spares done e i
        found side lacks = elim (looks? (queue_at c i) (fine M o c ok i less).0 side.party (access_of e)) [
          | inl look ↦ inl (record { queue = i; less = less; side = side; look = look; lacks = lacks })
          | inr off ↦ inr (λ p mine look. absurd (off (subst (λ r. LooksBy (queue_at c i) r (access_of e))
              (same-party (queue_at c i) (fine M o c ok i less).0 h p side.party mine side.mine) look)))
        ]

        by : (t : Bool) → has_more c h K done i ≡ t → IsSide i ⊎ ((es : List Entry) (J : ℕ) → has_more c h J es i ≡ true) → Needed done e ⊎ Spares done e i
        by true is side = inr (λ p mine look. is)
        by false is (inl side) = found side is
        by false is (inr none) = inr (λ p mine look. none done K)

    needed? : (n : ℕ) → n ≤ length c.queues → (done : List Entry) (e : Entry) → Needed done e ⊎ ((i : ℕ) → i < n → Spares done e i)
    needed? zero low done e = inr (λ i less. absurd (omega (arith, less)))
    needed? (suc n) low done e = by (spares? n (omega (arith, low)) done e) (needed? n (omega (arith, low)) done e)
      where
        by : Needed done e ⊎ Spares done e n → Needed done e ⊎ ((i : ℕ) → i < n → Spares done e i) → Needed done e ⊎ ((i : ℕ) → i < suc n → Spares done e i)
        by (inl now) rest = inl now
        by (inr spares) (inl now) = inl now
        by (inr spares) (inr rest) = inr (λ i less. elim (cases_eq i n) [
          | inl same ↦ subst (Spares done e) (sym same) spares
          | inr apart ↦ rest i (omega (arith, less, apart))
        ])

    -- it lacks just these queues
    abbrev Waits : (lacks : List ℕ) → List Entry → Type 0
    Waits lacks es = (i : ℕ) → i < length c.queues → has_more c h K es i ≡ not (is_among lacks i)

    -- what it lacks it lacks until such a look
    still-waits : (lacks : List ℕ) (done : List Entry) (e : Entry) → (is_own h e ≡ true → IsHartStuck c h K done e)
        → (is_own h e ≡ true → HasMoreWhereItLooks c h K done e) → Waits lacks done → Waits lacks (done ++ e ∷ [])
    still-waits lacks done e stuck spares waits i less = by (is_own h e) refl ∙ waits i less
      where
        own : is_own h e ≡ true → IsSide i → has_more c h K (done ++ e ∷ []) i ≡ has_more c h K done i
        own on side = elim (looks? (queue_at c i) (fine M o c ok i less).0 side.party (access_of e)) [
          | inl look ↦ (stuck on).finds i less side.party side.mine look ∙ sym (spares on i less side.party side.mine look)
          | inr off ↦ unseen-more i less side done e on (stuck on).stays off
        ]

        by : (t : Bool) → is_own h e ≡ t → has_more c h K (done ++ e ∷ []) i ≡ has_more c h K done i
        by false off = left-more i less done e off
        by true on = elim (side? i less) [
          | inr none ↦ none (done ++ e ∷ []) K ∙ sym (none done K)
          | inl side ↦ own on side
        ]

    abbrev lack : List Entry → ℕ
    lack es = lacking (length c.queues) (has_more c h K es)

    -- a row up to its first such look
    record Split (lacks : List ℕ) (done row : List Entry) : Type 0 where
      front : List Entry
      look : Entry
      rest : List Entry
      all : row ≡ front ++ look ∷ rest
      blind : EachAfter h (IsHartBlind c h K lacks) done front
      mine : is_own h look ≡ true
      fewer : lack ((done ++ front) ++ look ∷ []) < lack done
      stuck : EachAfter h (IsHartStuck c h K) ((done ++ front) ++ look ∷ []) rest

    split : (lacks : List ℕ) (row done : List Entry) → Waits lacks done → EachAfter h (IsHartStuck c h K) done row
        → EachAfter h (IsHartBlind c h K lacks) done row ⊎ Split lacks done row
    split lacks [] done waits each = inl tt
    split lacks (e ∷ row) done waits each =
        by (is_own h e) refl (needed? (length c.queues) (omega arith) done e) (λ still. split lacks row (done ++ e ∷ []) still each.1)
      where
        kept : (i : ℕ) → i < length c.queues → has_more c h K done i ≡ true → has_more c h K (done ++ e ∷ []) i ≡ true
        kept i less = kept-more i less done e each.0

        further : (is_own h e ≡ true → IsHartBlind c h K lacks done e)
            → EachAfter h (IsHartBlind c h K lacks) (done ++ e ∷ []) row ⊎ Split lacks (done ++ e ∷ []) row
            → EachAfter h (IsHartBlind c h K lacks) done (e ∷ row) ⊎ Split lacks done (e ∷ row)
        further here (inl blind) = inl (here, blind)
        further here (inr s) = inr (record {
          front = e ∷ s.front;
          look = s.look;
          rest = s.rest;
          all = ap (λ es. e ∷ es) s.all;
          blind = (here, s.blind);
          mine = s.mine;
          fewer = (
              let few : lack (done ++ e ∷ []) ≤ lack done = fewer-lacking (length c.queues) (has_more c h K done) (has_more c h K (done ++ e ∷ [])) kept in
              let less : lack (((done ++ e ∷ []) ++ s.front) ++ s.look ∷ []) < lack (done ++ e ∷ []) = s.fewer in
              subst (λ es. lack (es ++ s.look ∷ []) < lack done) (append_assoc done (e ∷ []) s.front) (omega (arith, few, less)));
          stuck = subst (λ es. EachAfter h (IsHartStuck c h K) (es ++ s.look ∷ []) s.rest) (append_assoc done (e ∷ []) s.front) s.stuck;
        })

        first : is_own h e ≡ true → Needed done e → Split lacks done (e ∷ row)
        first on now = record {
          front = [];
          look = e;
          rest = row;
          all = refl;
          blind = tt;
          mine = on;
          fewer = subst (λ es. lack (es ++ e ∷ []) < lack done) (sym (append-nil done))
              (less-lacking (length c.queues) (has_more c h K done) (has_more c h K (done ++ e ∷ [])) kept now.queue now.less now.lacks
              ((each.0 on).finds now.queue now.less now.side.party now.side.mine now.look));
          stuck = subst (λ es. EachAfter h (IsHartStuck c h K) (es ++ e ∷ []) row) (sym (append-nil done)) each.1;
        }

        by : (t : Bool) → is_own h e ≡ t → Needed done e ⊎ ((i : ℕ) → i < length c.queues → Spares done e i)
            → (Waits lacks (done ++ e ∷ []) → EachAfter h (IsHartBlind c h K lacks) (done ++ e ∷ []) row ⊎ Split lacks (done ++ e ∷ []) row)
            → EachAfter h (IsHartBlind c h K lacks) done (e ∷ row) ⊎ Split lacks done (e ∷ row)
        by false off needed after = further (λ on. absurd (let no : false ≡ true = sym off ∙ on in cc))
            (after (still-waits lacks done e each.0 (λ on. absurd (let no : false ≡ true = sym off ∙ on in cc)) waits))
        by true on (inl now) after = inr (first on now)
        by true on (inr spares) after = further (λ own. record { stays = (each.0 on).stays; waits = waits; unseen = spares })
            (after (still-waits lacks done e each.0 (λ own. spares) waits))

  -- ---- the law

  module _ (g : Pace) (shown : hart_keeps_going o c h g ≡ true) where
    abbrev sees : (lacks : List ℕ) → Bool
    sees lacks = are_ranks o c h (not_hart_blind o c h g.owned lacks) never_cut (lacking_ranks c h lacks) g.sight

    both : (are_ranks o c h (not_hart_idle o c h g.owned) never_cut (together_ranks c h) g.pace ≡ true) × (each_lacking c h (length c.queues) [] sees ≡ true)
    both = and_parts (are_ranks o c h (not_hart_idle o c h g.owned) never_cut (together_ranks c h) g.pace) (each_lacking c h (length c.queues) [] sees) shown

    hart-pace : (es row : List Entry) → WellFormed B M (history_of o (es ++ row)) → EachAfter h (IsHartIdle c h g.owned) es row
        → executed h row ≤ g.pace
    hart-pace = bounded B M o c ok h (not_hart_idle o c h g.owned) never_cut (IsHartIdle c h g.owned)
        (λ xs k d s done e at other idle. elim
        (or_cases (moves_some c h (code_of o h) k d) (fits_in (fewest_owned c h (length c.queues) k) (Some g.owned)) other) [
          | inl goes ↦ leaves.moves-none B M o c ok h g.owned xs k d s done e at goes idle.stays
          | inr few ↦ leaves.fewest-more B M o c ok h g.owned xs k d s done e at (length c.queues) (omega arith) few
              (λ i less. at-below (length c.queues) (has_more c h g.owned done) idle.owns i less)
        ])
        (λ xs k d s done e at none idle. absurd (cc)) (together_ranks c h) g.pace both.0

    hart-looking : (lacks : List ℕ) → sees lacks ≡ true → (es row : List Entry) → WellFormed B M (history_of o (es ++ row))
        → EachAfter h (IsHartBlind c h g.owned lacks) es row → executed h row ≤ g.sight
    hart-looking lacks = bounded B M o c ok h (not_hart_blind o c h g.owned lacks) never_cut (IsHartBlind c h g.owned lacks)
        (λ xs k d s done e at other blind. elim (or_cases (moves_some c h (code_of o h) k d)
        (differs c h g.owned lacks k (instruction_at (code_of o h) k.pc)) other) [
          | inl goes ↦ leaves.moves-none B M o c ok h g.owned xs k d s done e at goes blind.stays
          | inr sees ↦ leaves.not-blind B M o c ok h g.owned xs k d s done e at lacks sees blind
        ])
        (λ xs k d s done e at none blind. absurd (cc)) (lacking_ranks c h lacks) g.sight

    -- the queues that it lacks after these entries
    abbrev lacked : List Entry → List ℕ
    lacked es = lacking-list (length c.queues) (has_more c h g.owned es) []

    lacked-waits : (es : List Entry) → Waits g.owned (lacked es) es
    lacked-waits es i less = turned (is_among (lacked es) i) (has_more c h g.owned es i)
        (among-list (length c.queues) (has_more c h g.owned es) [] (λ j low. refl) i less)

    lacked-sees : (es : List Entry) → has_more_of_all c h g.owned es ≡ false → sees (lacked es) ≡ true
    lacked-sees es lacks = each-at c h (length c.queues) (has_more c h g.owned es) [] sees
        (λ i less without. elim (side? i less) [
          | inl side ↦ ap is_some side.is
          | inr none ↦ absurd (let so : has_more c h g.owned es i ≡ true = none es g.owned in cc)
        ])
        both.1 (some-lacking (length c.queues) (has_more c h g.owned es) [] lacks)

    idle : (m : ℕ) (es row : List Entry) → WellFormed B M (history_of o (es ++ row)) → EachAfter h (IsHartStuck c h g.owned) es row
        → has_more_of_all c h g.owned es ≡ true → executed h row ≤ g.pace + m * (g.sight + 1)
    idle m es row run each all = more-than (executed h row) g.pace (m * (g.sight + 1)) (hart-pace es row run (idle-row g.owned row es all each))
      where
        more-than : (a b z : ℕ) → a ≤ b → a ≤ b + z
        more-than a b z low = omega (arith, low)

    -- of at most m queues it owns no more
    turns : (m : ℕ) (es row : List Entry) → lack g.owned es ≤ m → WellFormed B M (history_of o (es ++ row))
        → EachAfter h (IsHartStuck c h g.owned) es row → executed h row ≤ g.pace + m * (g.sight + 1)
    turns zero es row few run each = idle 0 es row run each (none-lacking (length c.queues) (has_more c h g.owned es) few)
    turns (suc m) es row few run each = by (has_more_of_all c h g.owned es) refl (turns m)
      where
        sum : (a s l b p z y : ℕ) → y ≡ z + (l + 1) → a ≡ s + (1 + b) → s ≤ l → b ≤ p + z → a ≤ p + y
        sum a s l b p z y product all front rest = omega (arith, product, all, front, rest)

        short : (a l p z y : ℕ) → y ≡ z + (l + 1) → a ≤ l → a ≤ p + y
        short a l p z y product low = omega (arith, product, low)

        after : (lacks : List ℕ) → sees lacks ≡ true → Split g.owned lacks es row
            → ((es row : List Entry) → lack g.owned es ≤ m → WellFormed B M (history_of o (es ++ row))
            → EachAfter h (IsHartStuck c h g.owned) es row → executed h row ≤ g.pace + m * (g.sight + 1))
            → executed h row ≤ g.pace + suc m * (g.sight + 1)
        after lacks so s later =
            let all : ((es ++ s.front) ++ s.look ∷ []) ++ s.rest ≡ es ++ row = append_assoc (es ++ s.front) (s.look ∷ []) s.rest
            ∙ append_assoc es s.front (s.look ∷ s.rest) ∙ ap (λ fs. es ++ fs) (sym s.all) in
            let whole : WellFormed B M (history_of o (((es ++ s.front) ++ s.look ∷ []) ++ s.rest)) =
            subst (λ fs. WellFormed B M (history_of o fs)) (sym all) run in
            let front_run : WellFormed B M (history_of o (es ++ s.front)) = kept-front B M o (es ++ s.front) (s.look ∷ s.rest)
            (subst (λ fs. WellFormed B M (history_of o fs)) (append_assoc (es ++ s.front) (s.look ∷ []) s.rest) whole) in
            let before : executed h s.front ≤ g.sight = hart-looking lacks so es s.front front_run s.blind in
            let less : lack g.owned ((es ++ s.front) ++ s.look ∷ []) < lack g.owned es = s.fewer in
            let rest : executed h s.rest ≤ g.pace + m * (g.sight + 1) =
            later ((es ++ s.front) ++ s.look ∷ []) s.rest (omega (arith, less, few)) whole s.stuck in
            let total : executed h row ≡ executed h s.front + (1 + executed h s.rest) = ap (executed h) s.all
            ∙ executed-append h s.front (s.look ∷ s.rest)
            ∙ ap (λ t. executed h s.front + ((if t then 1 else 0) + executed h s.rest)) s.mine in
            sum (executed h row) (executed h s.front) g.sight (executed h s.rest) g.pace (m * (g.sight + 1)) (suc m * (g.sight + 1))
            (suc-mul m (g.sight + 1)) total before rest

        by : (t : Bool) → has_more_of_all c h g.owned es ≡ t → ((es row : List Entry) → lack g.owned es ≤ m → WellFormed B M (history_of o (es ++ row))
            → EachAfter h (IsHartStuck c h g.owned) es row → executed h row ≤ g.pace + m * (g.sight + 1))
            → executed h row ≤ g.pace + suc m * (g.sight + 1)
        by true all later = idle (suc m) es row run each all
        by false lacks later = elim (split g.owned (lacked es) row es (lacked-waits es) each) [
          | inl blind ↦ short (executed h row) g.sight g.pace (m * (g.sight + 1)) (suc m * (g.sight + 1)) (suc-mul m (g.sight + 1))
              (hart-looking (lacked es) (lacked-sees es lacks) es row run blind)
          | inr s ↦ after (lacked es) (lacked-sees es lacks) s later
        ]

    -- it lacks no more queues than it has
    lack-sides : (es : List Entry) (n : ℕ) → n ≤ length c.queues → lacking n (has_more c h g.owned es) ≤ sides c h n
    lack-sides es zero low = omega arith
    lack-sides es (suc n) low = by (has_more c h g.owned es n) refl (side? n (omega (arith, low))) (lack-sides es n (omega (arith, low)))
      where
        by : (t : Bool) → has_more c h g.owned es n ≡ t → IsSide n ⊎ ((fs : List Entry) (K : ℕ) → has_more c h K fs n ≡ true)
            → lacking n (has_more c h g.owned es) ≤ sides c h n
            → (if has_more c h g.owned es n then 0 else 1) + lacking n (has_more c h g.owned es) ≤ (if is_side c h n then 1 else 0) + sides c h n
        by true is side few = rw is (omega (arith, few))
        by false is (inl side) few = rw (is, ap is_some side.is) (omega (arith, few))
        by false is (inr none) few = absurd (let so : has_more c h g.owned es n ≡ true = none es g.owned in cc)

    pub hart_going : (es row : List Entry) → WellFormed B M (history_of o (es ++ row)) → EachAfter h (IsHartStuck c h g.owned) es row
        → executed h row ≤ g.pace + sides c h (length c.queues) * (g.sight + 1)
    hart_going es row run each = turns (sides c h (length c.queues)) es row (lack-sides es (length c.queues) (omega arith)) run each
