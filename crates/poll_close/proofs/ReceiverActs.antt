-- What holds of the receiver goes on holding as others act and stores land. An act of the receiver, over the
-- whole channel.
use Rattle.std.proofs.Common.{ℕ, zero, suc, ◌<◌, ◌≡◌, refl, List, length, sym, ◌∙◌, ap, subst, arith, ◌+◌, ◌≤◌, ◌≢◌, ◌⊎◌, inl, inr, false, [], ◌∷◌, ◌++◌, take}
use Rattle.std.proofs.Common.{Some, None, append-nil}
use Rattle.hart.specs.declared.need.Report.{Report}
use Rattle.step_machine.specs.Names.{History, with_entry, state_of, number_read, hart_of, is_land, pending, read, reported, access_of, WritesWord}
use Rattle.step_machine.specs.Names.{AllWriteWords, OpensWithWords, word_in_memory, Legal, CanFollow}
use Rattle.poll_close.specs.Layout.{Layout, Touches}
use Rattle.poll_close.specs.{block_of, as_write, as_writes, to_block, AreNext, BlockInvariant, ReceiverCounts, Count, AllReported, ReceiverIs, unread_of}
use Rattle.poll_close.specs.{ReceiverPart, ReportPart, all_closings, BlockPart, ReportsOf, taken, sender_of, IsPrefixOf, GoesOn, ReceiverRegisters, whole_of}
use Rattle.poll_close.specs.{receives, closings_due}
use Rattle.poll_close.proofs.AllBlocks.{BlocksAfter, would_read, read-is, untouched}
use Rattle.std.specs.Prelude.{slice_index, unwrap_or}
use Rattle.std.specs.List.{slice_get, slice_index_or}
use Rattle.std.proofs.lemmas.Bool.{cases_eq}
use Rattle.std.proofs.Math.Seq.{take-length}
use Rattle.std.proofs.lemmas.List.{map-append}
use Rattle.hart.specs.{HartState, need_of}
use Rattle.hart.specs.declared.status.Status.TheVariants as status
use Rattle.hart.specs.declared.need.Need.{Need}
use Rattle.hart.specs.declared.need.Report.TheVariants as report
use Rattle.step_machine.specs.declared.events.Entry.{Entry}
use Rattle.memory.specs.Writes.{newest_word}
use Rattle.poll_close.proofs.Acts.{Acted, Plain, acted, going, stored_by, reports_of_need}
use Rattle.poll_close.proofs.Windows.{window-made}
use Rattle.poll_close.proofs.Blocks.{IsBlock, Within, IsWordOf, word_end, IsStore, IsStore-whole, newest-as_writes, apart, to_block-stored, to_block-elsewhere}
use Rattle.poll_close.proofs.Blocks.{newest-to_block, put, put_same, put_other}
use Rattle.poll_close.proofs.BlockLaws.{BlockLaws, seen_at, Says, Comes, Receives, Finds}
use Rattle.poll_close.proofs.ReceiverMoves.{receives_on}
use Rattle.poll_close.proofs.CleanReports.{taken-other, clean_more, reports_other, reports_took, reports_closed, prefix_take}

-- sums over all senders
pub shuts_same : (m : BlockInvariant) (f g : ℕ → Count m) (count : ℕ)
    → ((i : ℕ) → i < count → (g i).receiver.closings ≡ (f i).receiver.closings)
    → all_closings m g count ≡ all_closings m f count
shuts_same m f g zero same = refl
shuts_same m f g (suc i) same = grind (arith, shuts_same m f g i)

-- an event that is not the receiver's act keeps its part, and what is reported
module _ (m : BlockInvariant) (M : ℕ) (S : Layout) (lists : List (List ℕ)) (t new : History) (f : ℕ → Count m) (after : BlocksAfter m M S lists new f) where
  pub part_stays : state_of M new 0 ≡ state_of M t 0 → ReceiverPart m M S lists t f → ReceiverPart m M S lists new after.numbers
  part_stays same part = record {
    place = part.place;
    noted = part.noted;
    block = part.block;
    known = part.known;
    state = same ∙ part.state;
    holds =
        subst (λ (o : ReceiverCounts m.Own). ReceiverIs m (block_of M S lists part.block) part.block part.place o part.noted)
        (sym (after.same part.block part.known)) part.holds;
    others = λ j within other. subst (AllReported m) (sym (after.same j within)) (part.others j within other);
    count = (let same : all_closings m after.numbers (length lists) ≡ all_closings m f (length lists) =
        shuts_same m f after.numbers (length lists) (λ j within. ap (λ (o : ReceiverCounts m.Own). o.closings) (after.same j within)) in
        omega (arith, same, part.count));
  }

  pub reports_stay : (rs now : List Report) → now ≡ rs → ReportPart m lists rs f → ReportPart m lists now after.numbers
  reports_stay rs now same part = grind arith

-- a need stores nothing or one pair
stored_cases : (w : Need) → (stored_by w ≡ []) ⊎ ((x : ℕ × ℕ) × (stored_by w ≡ x ∷ []))
stored_cases w = grind arith

pub shuts_put : (m : BlockInvariant) (f : ℕ → Count m) (j : ℕ) (n : Count m) (count : ℕ) → j < count
    → all_closings m (put f j n) count + (f j).receiver.closings ≡ all_closings m f count + n.receiver.closings
shuts_put m f j n zero less = absurd (omega arith)
shuts_put m f j n (suc i) less =
    elim (cases_eq i j) [
      | inl same ↦
          let last : (put f j n i).receiver.closings ≡ n.receiver.closings =
          ap (λ z. (put f j n z).receiver.closings) same
          ∙ ap (λ (z : Count m). z.receiver.closings) (put_same f j n) in
          let was : (f i).receiver.closings ≡ (f j).receiver.closings = ap (λ z. (f z).receiver.closings) same in
          let rest : all_closings m (put f j n) i ≡ all_closings m f i =
          shuts_same m f (put f j n) i (λ h below. ap (λ (z : Count m). z.receiver.closings)
          (put_other f j n h (λ is. absurd (omega (arith, is, same, below))))) in
          omega (arith, last, was, rest)
      | inr other ↦
          let last : (put f j n i).receiver.closings ≡ (f i).receiver.closings = ap (λ (z : Count m). z.receiver.closings) (put_other f j n i other) in
          omega (arith, last, shuts_put m f j n i (omega (arith, other, less)))
    ]

pub shuts_most : (m : BlockInvariant) (f : ℕ → Count m) (count : ℕ) → ((j : ℕ) → j < count → (f j).receiver.closings ≤ 1) → all_closings m f count ≤ count
shuts_most m f zero each = omega arith
shuts_most m f (suc i) each = omega (arith, each i (omega arith), shuts_most m f i (λ j less. each j (omega arith)))

-- the channel after the receiver's act
pub record Received (m : BlockInvariant) (M : ℕ) (S : Layout) (lists : List (List ℕ)) (new : History) : Type 0 where
  pub numbers : ℕ → Count m
  pub parts : (i : ℕ) → i < length lists → BlockPart m (block_of M S lists i) M i new (numbers i)
  pub receiver : ReceiverPart m M S lists new numbers
  pub reports : ReportPart m lists (reported 0 new.entries) numbers

-- what is reported, where the receiver visits a block
module _ (m : BlockInvariant) (M : ℕ) (S : Layout) (lists : List (List ℕ)) (f : ℕ → Count m) (b : ℕ)
    (known : b < length lists) (rs : List Report) (reports : ReportPart m lists rs f) where
  reports_put : (now : List Report) (n : Count m)
      → ReportsOf now b (slice_index_or lists b []) n.receiver.took n.receiver.closings
      → ((j : ℕ) → j < length lists → j ≢ b
      → ReportsOf now j (slice_index_or lists j []) ((f j).receiver.took) ((f j).receiver.closings)) → (j : ℕ)
      → j < length lists
      → ReportsOf now j (slice_index_or lists j []) ((put f b n j).receiver.took) ((put f b n j).receiver.closings)
  reports_put now n one others j within =
      elim (cases_eq j b) [
        | inl same ↦
            let P : ℕ → Count m → Type 0 = λ i c. ReportsOf now i (slice_index_or lists i []) c.receiver.took c.receiver.closings in
            subst (λ (c : Count m). P j c) (sym (ap (put f b n) same ∙ put_same f b n)) (subst (λ (i : ℕ). P i n) (sym same) one)
        | inr other ↦ subst
            (λ (c : Count m). ReportsOf now j (slice_index_or lists j []) c.receiver.took c.receiver.closings)
            (sym (put_other f b n j other)) (others j within other)
      ]

  -- one report of the visited sender
  one_noted : (x : Report) (n : Count m) → sender_of x ≡ b → (f b).receiver.closings ≡ 0
      → ReportsOf (rs ++ x ∷ []) b (slice_index_or lists b []) n.receiver.took n.receiver.closings
      → ((i : ℕ) → x ≡ report.Closed i → taken rs i ≡ slice_index_or lists i [])
      → ReportPart m lists (rs ++ x ∷ []) (put f b n)
  one_noted x n from open_yet new all = record {
    senders = reports_put (rs ++ x ∷ []) n new
        (λ j within other. reports_other rs j (slice_index_or lists j []) ((f j).receiver.took)
        ((f j).receiver.closings) x (λ same. other (sym same ∙ from)) (reports.senders j within));
    clean = clean_more rs lists x reports.clean (subst (λ (j : ℕ). j < length lists) (sym from) known) unclosed prefix all;
  }
    where
      unclosed : (j : ℕ) → slice_get rs j ≡ Some (report.Closed (sender_of x)) → ⊥
      unclosed j is =
          let closings : (f b).receiver.closings ≡ 1 =
          (reports.senders b known).closed j (is ∙ ap (λ z. Some (report.Closed z)) from) in
          omega (arith, open_yet)

      prefix : (i : ℕ) → IsPrefixOf (taken (rs ++ x ∷ []) i) (slice_index_or lists i [])
      prefix i =
          elim (cases_eq i b) [
            | inl same ↦
                subst (λ (j : ℕ). IsPrefixOf (taken (rs ++ x ∷ []) j) (slice_index_or lists j [])) (sym same)
                (prefix_take (slice_index_or lists b []) (taken (rs ++ x ∷ []) b) n.receiver.took new.words)
            | inr other ↦ subst (λ (ys : List ℕ). IsPrefixOf ys (slice_index_or lists i []))
                (sym (taken-other rs i x (λ same. other (sym same ∙ from)))) (reports.clean.in_order i)
          ]

  pub noted_reports : (reporting : List Report) (n : Count m)
      → Says m (block_of M S lists b) b (f b).receiver n.receiver reporting → ReportPart m lists (rs ++ reporting) (put f b n)
  noted_reports reporting n (inl none) = grind (arith, put, append-nil, reports, reports_put)
  noted_reports reporting n (inr (inl word)) = subst (λ (ys : List Report). ReportPart m lists (rs ++ ys) (put f b n)) (sym word.0)
      (one_noted (report.Took b (slice_index (slice_index_or lists b []) ((f b).receiver.took))) n refl word.4
      (rw (word.1, word.2) (reports_took rs b (slice_index_or lists b []) ((f b).receiver.took) ((f b).receiver.closings) word.3 (reports.senders b known)))
      (λ i is. cc))
  noted_reports reporting n (inr (inr closing)) = subst (λ (ys : List Report). ReportPart m lists (rs ++ ys) (put f b n)) (sym closing.0)
      (one_noted (report.Closed b) n refl closing.4
      (rw (closing.1, closing.2) (reports_closed rs b (slice_index_or lists b []) ((f b).receiver.took) ((f b).receiver.closings) (reports.senders b known)))
      (λ i is. subst (λ (j : ℕ). taken rs j ≡ slice_index_or lists j []) (ap sender_of is)
      ((reports.senders b known).words ∙ ap (λ c. take c (slice_index_or lists b [])) closing.3
      ∙ take-length (slice_index_or lists b []))))

module _ (m : BlockInvariant) (laws : BlockLaws m) (B M : ℕ) (S : Layout) (lists : List (List ℕ))
    (are : (i : ℕ) → i < length lists → IsBlock (block_of M S lists i)) (few : length lists ≤ 63) (t : History)
    (f : ℕ → Count m) (legal : Legal B t) (opens : OpensWithWords t.opening) (written : AllWriteWords t.entries)
    (parts : (i : ℕ) → i < length lists → BlockPart m (block_of M S lists i) M i t (f i))
    (part : ReceiverPart m M S lists t f) (reports : ReportPart m lists (reported 0 t.entries) f) where
  pub each_shut : (j : ℕ) → j < length lists → (f j).receiver.closings ≤ 1
  each_shut j within = grind (arith, parts)

  due_one : (here : ℕ) → closings_due here ≤ 1
  due_one here = grind arith

  pub small : part.noted.x20 ≤ 64
  small = omega (arith, few, due_one part.place, part.count)

  count_after : (n : Count m) (noted : ReceiverRegisters) (there : ℕ)
      → noted.x20 + n.receiver.closings + closings_due part.place
      ≡ part.noted.x20 + (f part.block).receiver.closings + closings_due there
      → noted.x20 + all_closings m (put f part.block n) (length lists) ≡ length lists + closings_due there
  count_after n noted there counts = omega (arith, part.count, shuts_put m f part.block n (length lists) part.known)

  pub moves_by : (v : ℕ)
      → (receives m.ring_lines (whole_of (block_of M S lists part.block) (length lists)) part.place part.noted).status
      ≡ status.Running
      → Finds m (block_of M S lists part.block) (length lists) part.place (f part.block)
      (word_in_memory t.opening t.entries) part.noted v
      → Receives m (block_of M S lists part.block) part.block (length lists) part.place (f part.block) part.noted v
  moves_by v runs find =
      receives_on m (block_of M S lists part.block) part.block (length lists) (f part.block)
      (parts part.block part.known).order part.noted v laws (are part.block part.known) refl part.known few
      (word_in_memory t.opening t.entries) (parts part.block part.known).words part.place part.holds
      (record { runs = runs; find = find; owed = omega (arith, part.count, shuts_most m f (length lists) each_shut); small = small })

  -- what it stores goes to the visited block
  stored_is : (v : ℕ)
      (r : Receives m (block_of M S lists part.block) part.block (length lists) part.place (f part.block) part.noted v)
      (x : ℕ × ℕ) → stored_by r.wanted ≡ x ∷ [] → IsStore (block_of M S lists part.block) x
  stored_is v r x one = laws.receiver_stores_are (block_of M S lists part.block) (are part.block part.known)
      (m.taken (f part.block).receiver) x
      (subst (AreNext (m.receiver_stores (block_of M S lists part.block)) (m.taken (f part.block).receiver) (m.taken r.after)) one r.changes.stores).1

  pub plain_by :
      (receives m.ring_lines (whole_of (block_of M S lists part.block) (length lists)) part.place part.noted).status
      ≡ status.Running
      → Plain (IsWordOf (block_of M S lists part.block))
      (need_of (receives m.ring_lines (whole_of (block_of M S lists part.block) (length lists)) part.place part.noted))
  plain_by runs =
      let seen : ℕ → ℕ = seen_at m (block_of M S lists part.block) (f part.block) (word_in_memory t.opening t.entries) in
      let v : ℕ = would_read seen (need_of (receives m.ring_lines (whole_of (block_of M S lists part.block) (length lists)) part.place part.noted)) in
      let r : Receives m (block_of M S lists part.block) part.block (length lists) part.place (f part.block)
      part.noted v =
      moves_by v runs (λ a inside needs. ap (would_read seen) needs) in
      subst (Plain (IsWordOf (block_of M S lists part.block))) (sym r.needs) (record {
        no_amo =
            r.plain;
        whole = λ x one. IsStore-whole (block_of M S lists part.block) x (stored_is v r x one);
      })

  pub receiver_goes_on : (e : Entry) → CanFollow B M t e → hart_of e ≡ 0 → is_land e ≡ false → GoesOn e × WritesWord (access_of e) × Touches S (length lists) e
  receiver_goes_on e can mine alone =
      going _ S (length lists) B M t 0
      (receives m.ring_lines (whole_of (block_of M S lists part.block) (length lists)) part.place part.noted) e
      part.state can mine alone plain_by
      (λ a word. record {
        block = part.block;
        known = part.known;
        own = inl refl;
        from = word.within.from;
        below = word_end (block_of M S lists part.block) (are part.block part.known) a word;
      })

  -- all are quiet once the visited block is
  all_quiet : (n : Count m) → AllReported m n.receiver → (j : ℕ) → j < length lists → AllReported m (put f part.block n j).receiver
  all_quiet n quiet j within =
      elim (cases_eq j part.block) [
        | inl same ↦ subst (λ (z : Count m). AllReported m z.receiver) (sym (ap (put f part.block n) same ∙ put_same f part.block n)) quiet
        | inr other ↦ subst (λ (z : Count m). AllReported m z.receiver) (sym (put_other f part.block n j other)) (part.others j within other)
      ]

  -- what the act found in the visited block
  pub found : (b : ℕ) → IsWordOf (block_of M S lists part.block) b → read t.opening t.entries 0 b 4
      ≡ seen_at m (block_of M S lists part.block) (f part.block) (word_in_memory t.opening t.entries) b
  found b word =
      read-is t 0 b opens written word.aligned
      ∙ ap (λ o. unwrap_or o (word_in_memory t.opening t.entries b))
      (sym (newest-to_block (block_of M S lists part.block) b None (pending 0 t.entries) word.within))
      ∙ ap (λ ws. unwrap_or (newest_word b None ws) (word_in_memory t.opening t.entries b)) (parts part.block part.known).theirs
      ∙ ap (λ o. unwrap_or o (word_in_memory t.opening t.entries b)) (newest-as_writes b None (unread_of m (block_of M S lists part.block) (f part.block)))

  module _ (new : History) (v : ℕ) (a : Acted M t new 0
      (receives m.ring_lines (whole_of (block_of M S lists part.block) (length lists)) part.place part.noted) v)
      (r : Receives m (block_of M S lists part.block) part.block (length lists) part.place (f part.block) part.noted v)
    where
      abbrev n : Count m
      n = record (f part.block) { receiver = r.after }

      inside : (x : ℕ × ℕ) → stored_by r.wanted ≡ x ∷ [] → Within (block_of M S lists part.block) x.0
      inside x one = (stored_is v r x one).place.within

      visited : BlockPart m (block_of M S lists part.block) M part.block new n
      visited =
          let old : BlockPart m (block_of M S lists part.block) M part.block t (f part.block) = parts part.block part.known in
          record {
            order = r.changes.order;
            sender = record {
              stands = old.sender.stands;
              state = a.states (part.block + 1) (λ zero_is. omega arith) ∙ old.sender.state;
              holds = old.sender.holds;
              buffer = a.buffers (part.block + 1) (λ zero_is. omega arith) ∙ old.sender.buffer;
            };
            theirs = ap (to_block (block_of M S lists part.block))
                (a.buffer ∙ ap (λ w. pending 0 t.entries ++ as_writes (stored_by w)) r.needs)
                ∙ to_block-stored (block_of M S lists part.block) (pending 0 t.entries) (stored_by r.wanted)
                (stored_cases r.wanted) inside ∙ ap (λ ws. ws ++ as_writes (stored_by r.wanted)) old.theirs
                ∙ sym
                (map-append as_write (unread_of m (block_of M S lists part.block) (f part.block)) (stored_by r.wanted))
                ∙ ap as_writes (window-made (m.receiver_stores (block_of M S lists part.block)) (m.freed (f part.block).landed)
                (m.taken (f part.block).receiver) (m.taken r.after) (stored_by r.wanted)
                (laws.freed_taken (block_of M S lists part.block) (f part.block) old.order) r.changes.stores);
            words =
                laws.words_same (block_of M S lists part.block) (f part.block).landed (word_in_memory t.opening t.entries)
                (word_in_memory new.opening new.entries) (are part.block part.known) (λ x here. a.memory x) old.words;
          }

      each : (i : ℕ) → i < length lists → (i ≡ part.block) ⊎ (i ≢ part.block) → BlockPart m (block_of M S lists i) M i new (put f part.block n i)
      each i within (inl same) = grind (arith, put, put_same, visited)
      each i within (inr other) =
          subst (λ (z : Count m). BlockPart m (block_of M S lists i) M i new z)
          (sym (put_other f part.block n i other))
          (untouched m laws M (block_of M S lists i) i t new (f i) (are i within) (parts i within) (record {
            state = a.states (i + 1) (λ zero_is. omega arith);
            buffer = a.buffers (i + 1) (λ zero_is. omega arith);
            theirs = ap (to_block (block_of M S lists i))
                (a.buffer ∙ ap (λ w. pending 0 t.entries ++ as_writes (stored_by w)) r.needs)
                ∙ to_block-elsewhere (block_of M S lists i) (pending 0 t.entries) (stored_by r.wanted)
                (stored_cases r.wanted)
                (λ x one here. apart M S lists i part.block x.0 (are part.block part.known).room other here (inside x one));
            memory = λ x here. a.memory x;
          }))

      came : ReceiverIs m (block_of M S lists part.block) part.block r.there r.after r.noted
          ⊎ Comes m (block_of M S lists part.block) (length lists) r.there r.after r.noted
          → ReceiverPart m M S lists new (put f part.block n)
      came (inl stays) = record {
        place = r.there;
        noted = r.noted;
        block = part.block;
        known = part.known;
        state = a.state ∙ ap Some r.leaves;
        holds =
            subst (λ (z : Count m). ReceiverIs m (block_of M S lists part.block) part.block r.there z.receiver r.noted)
            (sym (put_same f part.block n)) stays;
        others = λ j within other.
            subst (λ (z : Count m). AllReported m z.receiver) (sym (put_other f part.block n j other))
            (part.others j within other);
        count = count_after n r.noted r.there r.counts;
      }
      came (inr comes) = record {
        place = r.there;
        noted = r.noted;
        block = comes.block;
        known = comes.known;
        state = a.state ∙ ap Some r.leaves;
        holds = subst (λ (p : ℕ).
            ReceiverIs m (block_of M S lists comes.block) comes.block p (put f part.block n comes.block).receiver r.noted)
            (sym comes.here)
            (all_quiet n comes.quiet comes.block comes.known, record { base = comes.base; index = comes.index });
        others = λ j within other. all_quiet n comes.quiet j within;
        count = count_after n r.noted r.there r.counts;
      }

      received : Received m M S lists new
      received = record {
        numbers = put f part.block n;
        parts = λ i within. each i within (cases_eq i part.block);
        receiver = came r.holds;
        reports = subst (λ (rs : List Report). ReportPart m lists rs (put f part.block n))
            (sym (a.reports ∙ ap (λ w. reported 0 t.entries ++ reports_of_need w) r.needs))
            (noted_reports m M S lists f part.block part.known (reported 0 t.entries) reports (reports_of_need r.wanted) n r.says);
      }

  pub receiver_acts : (e : Entry) → CanFollow B M t e → hart_of e ≡ 0 → is_land e ≡ false → Received m M S lists (with_entry t e)
  receiver_acts e can mine alone =
      let s : HartState = receives m.ring_lines (whole_of (block_of M S lists part.block) (length lists)) part.place part.noted in
      let a : Acted M t (with_entry t e) 0 s (number_read e) = acted _ B M t 0 s e legal part.state can mine alone plain_by in
      received (with_entry t e) (number_read e) a (moves_by (number_read e) a.running (λ b inside needs. a.loaded b needs ∙ found b inside))
