-- From what a ring shows of one block to the law of the plan: where nothing is pending and some sender is
-- not reported closed, the hart that comes next can act, and less is left after its act.
use Rattle.std.proofs.Common.{◌==◌, ℕ, zero, suc, ◌+◌, ◌-◌, ◌%◌, ◌<◌, ◌≤◌, ◌≡◌, ◌≢◌, ◌⊎◌, inl, inr, Bool, true, false, not, ◌&&◌, List, [], ◌∷◌, ◌++◌, length}
use Rattle.std.proofs.Common.{length-take, Some, refl, sym, ◌∙◌, ap, subst, arith, add-one, append-nil, lit<}
use Rattle.std.specs.Prelude.{slice_index}
use Rattle.std.proofs.lemmas.Bool.{cases_eq, and_parts, not-true, not-false}
use Rattle.std.proofs.Math.Nat.{mul-div_cancel_left}
use Rattle.hart.specs.{HartState, need_of, advanced}
use Rattle.hart.specs.declared.status.Status.{Status}
use Rattle.hart.specs.declared.status.Status.TheVariants as status
use Rattle.hart.specs.declared.need.Need.{Need}
use Rattle.hart.specs.declared.need.Report.{Report}
use Rattle.hart.specs.declared.need.Report.TheVariants as report
use Rattle.memory.specs.declared.writes.Write.{Write}
use Rattle.step_machine.specs.declared.events.Event.TheVariants as event
use Rattle.step_machine.specs.declared.events.Entry.{Entry}
use Rattle.step_machine.specs.declared.events.Entry.TheVariants as entry
use Rattle.step_machine.specs.Names.{OpeningValue, History, with_entry, pending, read, reported, OpensWithWords, word_in_memory, WellFormed, IsFor, CanFollow}
use Rattle.step_machine.specs.Names.{NoEntry}
use Rattle.step_machine.specs.Paths.{entry_of, number_read, state_of}
use Rattle.step_machine.proofs.{reported-last, states_land, HasToWait, decide, does}
use Rattle.poll_close.specs.Layout.{Layout, opening_at}
use Rattle.poll_close.specs.{taken, sender_of, Clean, AcceptedAt, Keeps, opening_lists, Ranking, Around, around, Nearer, Decreases, some_open, visited_by}
use Rattle.poll_close.specs.{is_running, runs, receiver_rank, receiver_rank_if, rank_by_states, rank_of, ring_size, ready_if, is_ready, next_of, next_by}
use Rattle.poll_close.specs.{AllLanded, is_closed, is_done, senders_of, SenderBlock, block_of, as_writes, ReceiverRegisters, whole_of, receiver_of, receives}
use Rattle.poll_close.specs.{closings_due, BlockInvariant, unsent_of, unread_of, rows_of, ranking_of, Channel, means_by}
use Rattle.poll_close.proofs.Acts.{Acted, acted, reports_of_need}
use Rattle.poll_close.proofs.Blocks.{IsBlock}
use Rattle.poll_close.proofs.BlockLaws.{BlockLaws, Receives, Says, Finds, Idle}
use Rattle.poll_close.proofs.CleanReports.{taken-other}
use Rattle.poll_close.proofs.AllBlocks.{read-is, sender_plain}
use Rattle.poll_close.proofs.ReceiverActs.{moves_by, plain_by, found}
use Rattle.poll_close.proofs.Delivering.{senders-length}
use Rattle.poll_close.proofs.Standing.{inboxes}
use Rattle.poll_close.proofs.ChannelLaws.{blocks, ring_by, keeps}
use Rattle.poll_close.proofs.Distance.{BlockProgress, rank_short}
use Rattle.poll_close.proofs.Shares.{share_same, share_acts, sum_decreases, receiver_rank_decreases, rank_same, receiver_rank_small, closed_from, closed_other}
use Rattle.poll_close.proofs.Shares.{report_decreases, open_from, some_from, shuts_less}
use Rattle.std.proofs.lemmas.Bool.Decides.{nat_tests}

-- which hart comes next
pub next_is : (ready : ℕ → Bool) (n : ℕ) → ((next_of ready n ≡ 0) × ((i : ℕ) → i < n → ready (i + 1) ≡ false))
    ⊎ ((j : ℕ) × (j < n) × (next_of ready n ≡ j + 1) × (ready (j + 1) ≡ true))
next_is ready zero = inl (refl, λ i less. absurd (omega arith))
next_is ready (suc n) = grind (arith, add-one n, cases_eq, next_is ready n)

-- a running hart with nothing pending can act
no_wait : (B : ℕ) (ws : List Write) (n : Need) → 1 ≤ B → ws ≡ [] → HasToWait B ws n → ⊥
no_wait B ws n some none wait = grind arith

pub can_act : (B M : ℕ) (t : History) (h : ℕ) (s : HartState) → WellFormed B M t → state_of M t h ≡ Some s
    → s.status ≡ status.Running → 1 ≤ B → pending h t.entries ≡ [] → NoEntry B M t (event.Act h) → ⊥
can_act B M t h s kept is running some none never =
    elim (decide B t.opening t.entries h (need_of s)) [
      | inl can ↦ (let d = does B M t h s kept is running (need_of s) can.0 refl can.1 in never (entry_of h (need_of s) can.0) d.for_event d.follows)
      | inr wait ↦ absurd (no_wait B (pending h t.entries) (need_of s) some none wait)
    ]

no_writes : (xs : List (ℕ × ℕ)) → as_writes xs ≡ [] → xs ≡ []
no_writes [] none = refl
no_writes (x ∷ xs) none = cc

running_is : (st : Status) → is_running st ≡ true → st ≡ status.Running
running_is st is = grind arith

not_ready : (a b : Bool) → (a && not b) ≡ false → a ≡ true → b ≡ true
not_ready a b off on = grind (arith, not-false)

-- everything that is known of a channel's history, with nothing pending
is_equal : (a b : ℕ) → (a == b) ≡ true → a ≡ b
is_equal a b same = grind (arith, nat_tests)

module _ (m : BlockInvariant) (laws : BlockLaws m) (least : ℕ) (some_least : 1 ≤ least) (prog : BlockProgress m least)
    (B M : ℕ) (S : Layout) (lists : List (List ℕ)) (t : History) (some : 1 ≤ B)
    (accepted : AcceptedAt (ring_by m laws least some_least) M lists S)
    (opening : t.opening ≡ opening_at m.sender.code (receiver_of m.ring_lines) lists S) (kept : WellFormed B M t)
    (ch : Channel m M S lists t) (landed : AllLanded t) (open_yet : is_done t ≡ false) where
  abbrev p : Ranking
  p = ranking_of m

  are : (i : ℕ) → i < length lists → IsBlock (block_of M S lists i)
  are = blocks (ring_by m laws least some_least) M S lists some_least accepted

  opens_words : OpensWithWords t.opening
  opens_words = subst OpensWithWords (sym opening) accepted.empty.small

  harts : length t.opening.harts ≡ suc (length lists)
  harts = ap (λ (o : OpeningValue). length o.harts) opening ∙ ap (λ n. suc n) (senders-length m.sender.code S 0 lists)

  senders : senders_of t ≡ length lists
  senders = omega (arith, harts)

  lists_is : opening_lists t.opening ≡ lists
  lists_is = ap opening_lists opening ∙ inboxes m.sender.code S 0 lists

  size_is : ring_size t.opening ≡ S.size
  size_is = ap ring_size opening ∙ mul-div_cancel_left S.size (lit< tt)

  abbrev rs : List Report
  rs = reported 0 t.entries

  quiet_buffer : (h : ℕ) → h ≤ length lists → pending h t.entries ≡ []
  quiet_buffer h less = landed h (omega (arith, harts, less))

  unsent : (j : ℕ) (within : j < length lists) → unsent_of m (block_of M S lists j) (ch.numbers j) ≡ []
  unsent j within = no_writes (unsent_of m (block_of M S lists j) (ch.numbers j)) (sym (ch.parts j within).sender.buffer ∙ quiet_buffer (j + 1) (omega arith))

  unread : (j : ℕ) (within : j < length lists) → unread_of m (block_of M S lists j) (ch.numbers j) ≡ []
  unread j within = grind (arith, no_writes, quiet_buffer)

  -- what is left, over the lists and the ring size of the channel
  rank_is : (new : History) → new.opening ≡ t.opening
      → rank_of p M new ≡ rank_by_states p (length lists) S.size lists (reported 0 new.entries) (λ h. state_of M new h)
  rank_is new same =
      let n : senders_of new ≡ length lists = ap (λ (o : OpeningValue). length o.harts - 1) same ∙ senders in
      let s : ring_size new.opening ≡ S.size = ap ring_size same ∙ size_is in
      let l : opening_lists new.opening ≡ lists = ap opening_lists same ∙ lists_is in
      rw (n, s, l) refl

  rank_decreases : (new : History) → new.opening ≡ t.opening
      → rank_by_states p (length lists) S.size lists (reported 0 new.entries) (λ h. state_of M new h)
      < rank_by_states p (length lists) S.size lists rs (λ h. state_of M t h) → rank_of p M new < rank_of p M t
  rank_decreases new same less = rw (rank_is new same, rank_is t refl) less

  pub landing : (u : History) (h : ℕ) → rank_of p M (with_entry u (entry.Land h)) ≡ rank_of p M u
  landing u h = rank_same p (senders_of u) (ring_size u.opening) (opening_lists u.opening) (reported 0 u.entries)
      (reported 0 (with_entry u (entry.Land h)).entries) (λ k. state_of M u k)
      (λ k. state_of M (with_entry u (entry.Land h)) k)
      (reported-last 0 u.entries (entry.Land h) ∙ append-nil (reported 0 u.entries)) (λ k. states_land M u h k)

  abbrev receiver_block : SenderBlock
  receiver_block = block_of M S lists ch.receiver.block

  near : (a : Around) (s : HartState) → p.receiver a s ≤ 22 + a.rest + a.start
  near a s = rank_short a s.registers (rows_of m) prog.short s.pc

  -- a sender that does not wait
  module _ (j : ℕ) (within : j < length lists) (on : is_ready p M t (j + 1) ≡ true) where
    abbrev s : HartState
    s = (ch.parts j within).sender.stands

    is_on : (is_running s.status ≡ true) × (not (p.waits s (word_in_memory t.opening t.entries)) ≡ true)
    is_on = and_parts (is_running s.status) (not (p.waits s (word_in_memory t.opening t.entries)))
        (sym (ap (ready_if p (word_in_memory t.opening t.entries)) (ch.parts j within).sender.state) ∙ on)

    running : s.status ≡ status.Running
    running = running_is s.status is_on.0

    act_found : (a : ℕ) → a % 4 ≡ 0 → read t.opening t.entries (j + 1) a 4 ≡ word_in_memory t.opening t.entries a
    act_found a aligned = grind (arith, read-is, opens_words, quiet_buffer)

    sender_act_decreases : (e : Entry) → IsFor (event.Act (j + 1)) e → CanFollow B M t e → rank_of p M (with_entry t e) < rank_of p M t
    sender_act_decreases e for_event can =
        let a : Acted M t (with_entry t e) (j + 1) s (number_read e) =
        acted _ B M t (j + 1) s e kept.legal (ch.parts j within).sender.state can for_event.0 for_event.1
        (sender_plain m laws M (block_of M S lists j) j t t (ch.numbers j) (are j within) (ch.parts j within)) in
        let less : p.sender (advanced s (number_read e)) < p.sender s =
        prog.nearer (block_of M S lists j) (ch.numbers j) s (word_in_memory t.opening t.entries) (number_read e)
        (are j within) (ch.parts j within).order (ch.parts j within).words (ch.parts j within).sender.holds running
        (unsent j within) (unread j within) (λ b inside needs. a.loaded b needs ∙ act_found b inside.aligned)
        (not-true (p.waits s (word_in_memory t.opening t.entries)) is_on.1) in
        let reporting : reported 0 (with_entry t e).entries ≡ rs = a.others 0 (omega arith) in
        rank_decreases (with_entry t e) refl
        (sum_decreases p (length lists) S.size lists rs (reported 0 (with_entry t e).entries) (λ h. state_of M t h)
        (λ h. state_of M (with_entry t e) h) j within
        (λ i below other. share_same p (length lists) S.size lists rs (reported 0 (with_entry t e).entries)
        (λ h. state_of M t h) (λ h. state_of M (with_entry t e) h) i (ap (λ ys. taken ys i) reporting)
        (ap (λ ys. is_closed ys i) reporting) (a.states (i + 1) (λ same. other (omega arith))))
        (share_acts p (length lists) S.size lists rs (reported 0 (with_entry t e).entries) (λ h. state_of M t h)
        (λ h. state_of M (with_entry t e) h) j s (advanced s (number_read e)) reporting (ch.parts j within).sender.state
        a.state less)
        (receiver_rank_small p (length lists) S.size lists near (reported 0 (with_entry t e).entries)
        (λ h. state_of M (with_entry t e) h)
        (receives m.ring_lines (whole_of receiver_block (length lists)) ch.receiver.place
        ch.receiver.noted) (a.states 0 (omega arith) ∙ ch.receiver.state)))

    pub sender_decreases : Nearer B M (rank_of p M) t (j + 1)
    sender_decreases = record {
      hart = omega (arith, harts, within);
      acts = can_act B M t (j + 1) s kept (ch.parts j within).sender.state running some (quiet_buffer (j + 1) (omega arith));
      alone = sender_act_decreases;
      landed = λ u. landing u (j + 1);
    }

  -- some sender is owed
  some_one : (i : ℕ) × (i < length lists) × (is_closed rs i ≡ false)
  some_one = subst (λ (n : ℕ). (i : ℕ) × (i < n) × (is_closed rs i ≡ false)) senders (open_from rs (senders_of t) open_yet)

  some_is_open : some_open rs 0 (length lists) ≡ true
  some_is_open = some_from rs 0 (length lists) some_one.0 some_one.1
      (ap (is_closed rs) (let same : 0 + some_one.0 ≡ some_one.0 = omega arith in same) ∙ some_one.2)

  each_shut : (j : ℕ) → j < length lists → (ch.numbers j).receiver.closings ≤ 1
  each_shut j less = grind arith

  -- who is reported closed is noted so, and the other way round
  closed_noted : (j : ℕ) → j < length lists → (ch.numbers j).receiver.closings ≢ 0 → is_closed rs j ≡ true
  closed_noted j less closings = grind (arith, senders, each_shut, closed_from)

  owing : closings_due ch.receiver.place < ch.receiver.noted.x20
  owing =
      let none : (ch.numbers some_one.0).receiver.closings ≡ 0 = at (cases_eq ((ch.numbers some_one.0).receiver.closings) 0) in
      omega (arith, ch.receiver.count, shuts_less m ch.numbers (length lists) some_one.0 each_shut some_one.1 none)
    where
      at : ((ch.numbers some_one.0).receiver.closings ≡ 0) ⊎ ((ch.numbers some_one.0).receiver.closings ≢ 0)
          → (ch.numbers some_one.0).receiver.closings ≡ 0
      at (inl none) = none
      at (inr closings) = let bad : is_closed rs some_one.0 ≡ true = closed_noted some_one.0 some_one.1 closings in
          let good : is_closed rs some_one.0 ≡ false = some_one.2 in cc

  took_is : (j : ℕ) (less : j < length lists) → (ch.numbers j).receiver.took ≡ (ch.numbers j).receiver.tails
      → length (taken rs j) ≡ (ch.numbers j).receiver.took
  took_is j less same = grind (arith, senders, length-take)

  -- the receiver, where every sender waits or has ended
  module _ (idle : (i : ℕ) → i < length lists → is_ready p M t (i + 1) ≡ false) where
    abbrev b : ℕ
    b = ch.receiver.block

    abbrev r : ReceiverRegisters
    r = ch.receiver.noted

    abbrev st : HartState
    st = receives m.ring_lines (whole_of receiver_block (length lists)) ch.receiver.place r

    abbrev sender : HartState
    sender = (ch.parts b ch.receiver.known).sender.stands

    runs_is : runs (state_of M t (b + 1)) ≡ is_running sender.status
    runs_is = ap runs (ch.parts b ch.receiver.known).sender.state

    marked : runs (state_of M t (b + 1)) ≡ false → m.marks (ch.numbers b).landed ≡ 1
    marked off =
        prog.marked receiver_block (ch.numbers b) sender (are b ch.receiver.known) (ch.parts b ch.receiver.known).order
        (ch.parts b ch.receiver.known).sender.holds (sym runs_is ∙ off) (unsent b ch.receiver.known)

    ready : runs (state_of M t (b + 1)) ≡ true → m.Ready receiver_block (ch.numbers b)
    ready on =
        let run : is_running sender.status ≡ true = sym runs_is ∙ on in
        let waiting : p.waits sender (word_in_memory t.opening t.entries) ≡ true =
        not_ready (is_running sender.status) (p.waits sender (word_in_memory t.opening t.entries))
        (sym (ap (ready_if p (word_in_memory t.opening t.entries)) (ch.parts b ch.receiver.known).sender.state)
        ∙ idle b ch.receiver.known) run in
        prog.ready receiver_block (ch.numbers b) sender (word_in_memory t.opening t.entries)
        (are b ch.receiver.known) accepted.size (ch.parts b ch.receiver.known).order
        (ch.parts b ch.receiver.known).words (ch.parts b ch.receiver.known).sender.holds
        (running_is sender.status run) (unsent b ch.receiver.known) (unread b ch.receiver.known) waiting

    -- it has not ended, since some sender is owed
    running_st : st.status ≡ status.Running
    running_st = grind (arith, is_equal, owing)

    idle_at : Idle m receiver_block b (length lists) ch.receiver.place (ch.numbers b) r rs (λ h. state_of M t h)
    idle_at = grind (arith, took_is, closed_noted, marked, not-true, ready, not-false, some_is_open, owing)

    receiver_act_decreases : (e : Entry) → IsFor (event.Act 0) e → CanFollow B M t e → rank_of p M (with_entry t e) < rank_of p M t
    unfolding Keeps
    receiver_act_decreases e for_event can = by_says v_says
      where
        a : Acted M t (with_entry t e) 0 st (number_read e)
        a = acted _ B M t 0 st e kept.legal ch.receiver.state can for_event.0 for_event.1
            (plain_by m laws B M S lists are accepted.senders t ch.numbers kept.legal opens_words ch.written ch.parts
            ch.receiver ch.reports)

        find : Finds m receiver_block (length lists) ch.receiver.place (ch.numbers b) (word_in_memory t.opening t.entries) r (number_read e)
        find x inside needs = a.loaded x needs
            ∙ found m laws B M S lists are accepted.senders t ch.numbers kept.legal opens_words ch.written ch.parts
            ch.receiver ch.reports x inside

        move : Receives m receiver_block b (length lists) ch.receiver.place (ch.numbers b) r (number_read e)
        move = moves_by m laws B M S lists are accepted.senders t ch.numbers kept.legal opens_words ch.written
            ch.parts ch.receiver ch.reports (number_read e) a.running find

        after : Channel m M S lists (with_entry t e)
        after = keeps m laws least some_least B M lists S t e accepted opening kept can ch

        silent : reports_of_need (need_of st) ≡ [] → rank_of p M (with_entry t e) < rank_of p M t
        silent none =
            let reporting : reported 0 (with_entry t e).entries ≡ rs = a.reports ∙ ap (λ ys. rs ++ ys) none ∙ append-nil rs in
            let less : receiver_rank p (length lists) S.size rs (λ h. state_of M t h) (advanced st (number_read e))
            < receiver_rank p (length lists) S.size rs (λ h. state_of M t h) st =
            subst (λ (z : HartState). receiver_rank p (length lists) S.size rs (λ h. state_of M t h) z
            < receiver_rank p (length lists) S.size rs (λ h. state_of M t h) st) (sym move.leaves)
            (move.nearer (sym (ap reports_of_need move.needs) ∙ none) rs (λ h. state_of M t h) idle_at) in
            rank_decreases (with_entry t e) refl
            (receiver_rank_decreases p (length lists) S.size lists rs (reported 0 (with_entry t e).entries)
            (λ h. state_of M t h) (λ h. state_of M (with_entry t e) h) reporting
            (λ i below. a.states (i + 1) (omega arith)) (moved (advanced st (number_read e)) a.state less))
          where
            moved : (next : HartState) → state_of M (with_entry t e) 0 ≡ Some next
                → receiver_rank p (length lists) S.size rs (λ h. state_of M t h) next
                < receiver_rank p (length lists) S.size rs (λ h. state_of M t h) st
                → receiver_rank_if p (length lists) S.size rs (λ h. state_of M (with_entry t e) h)
                (state_of M (with_entry t e) 0)
                < receiver_rank_if p (length lists) S.size rs (λ h. state_of M t h) (state_of M t 0)
            moved next is less = rw (is, ch.receiver.state)
                (subst (λ o. p.receiver (around (length lists) S.size rs o (visited_by next)) next
                < receiver_rank p (length lists) S.size rs (λ h. state_of M t h) st)
                (sym (a.states (visited_by next + 1) (omega arith))) less)

        tells : (x : Report) → reports_of_need (need_of st) ≡ x ∷ [] → sender_of x ≡ b → rank_of p M (with_entry t e) < rank_of p M t
        tells x one from =
            let reporting : reported 0 (with_entry t e).entries ≡ rs ++ x ∷ [] = a.reports ∙ ap (λ ys. rs ++ ys) one in
            rank_decreases (with_entry t e) refl
            (subst (λ (ys : List Report).
            rank_by_states p (length lists) S.size lists ys (λ h. state_of M (with_entry t e) h)
            < rank_by_states p (length lists) S.size lists rs (λ h. state_of M t h)) (sym reporting)
            (sum_decreases p (length lists) S.size lists rs (rs ++ x ∷ []) (λ h. state_of M t h) (λ h. state_of M (with_entry t e) h) b ch.receiver.known
            (λ i below other. share_same p (length lists) S.size lists rs (rs ++ x ∷ []) (λ h. state_of M t h)
            (λ h. state_of M (with_entry t e) h) i (taken-other rs i x (λ same. other (sym same ∙ from)))
            (closed_other rs x i (λ same. other (sym same ∙ from))) (a.states (i + 1) (omega arith)))
            (report_decreases p lists rs (λ h. state_of M t h) (λ h. state_of M (with_entry t e) h) b
            (a.states (b + 1) (omega arith)) x from
            (subst (λ (ys : List Report). Clean ys lists) reporting after.reports.clean))
            (receiver_rank_small p (length lists) S.size lists near (rs ++ x ∷ [])
            (λ h. state_of M (with_entry t e) h)
            (receives m.ring_lines (whole_of
            (block_of M S lists after.receiver.block)
            (length lists)) after.receiver.place
            after.receiver.noted) after.receiver.state)))

        v_says : Says m receiver_block b (ch.numbers b).receiver move.after (reports_of_need (need_of st))
        v_says = subst (λ (w : Need). Says m receiver_block b (ch.numbers b).receiver move.after (reports_of_need w)) (sym move.needs) move.says

        by_says : Says m receiver_block b (ch.numbers b).receiver move.after (reports_of_need (need_of st)) → rank_of p M (with_entry t e) < rank_of p M t
        by_says (inl none) = silent none.0
        by_says (inr (inl word)) = tells (report.Took b (slice_index receiver_block.list ((ch.numbers b).receiver.took))) word.0 refl
        by_says (inr (inr closing)) = tells (report.Closed b) closing.0 refl

    pub receiver_decreases : Nearer B M (rank_of p M) t 0
    receiver_decreases = record {
      hart = omega (arith, harts);
      acts = can_act B M t 0 st kept ch.receiver.state running_st some (quiet_buffer 0 (omega arith));
      alone = receiver_act_decreases;
      landed = λ u. landing u 0;
    }

  pub hart_decreases : Nearer B M (rank_of p M) t (next_by p M t)
  hart_decreases =
      elim (next_is (is_ready p M t) (senders_of t)) [
        | inl none ↦ subst (Nearer B M (rank_of p M) t) (sym none.0) (receiver_decreases (λ i less. none.1 i (omega (arith, senders, less))))
        | inr ready ↦ subst (Nearer B M (rank_of p M) t) (sym ready.2) (sender_decreases ready.0 (omega (arith, senders, ready.1)) ready.3)
      ]

pub ranking_decreases : (m : BlockInvariant) (laws : BlockLaws m) (least : ℕ) (some_least : 1 ≤ least) → BlockProgress m least
    → Decreases (ring_by m laws least some_least) (means_by m) (rank_of (ranking_of m)) (next_by (ranking_of m))
unfolding Decreases
ranking_decreases m laws least some_least prog B M t some stands landed open_yet =
    hart_decreases m laws least some_least prog B M stands.opens.layout stands.opens.lists t some stands.opens.accepted
    stands.opens.opening stands.kept stands.meant landed open_yet
