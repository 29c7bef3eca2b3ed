-- A channel stands at its opening, and goes on standing over every event; and what is known then of a
-- sender's hart.
use Rattle.std.proofs.Common.{◌≡◌, ℕ, ◌+◌, ◌<◌, Result, Ok, Err, List, [], ◌∷◌, length, take, map, refl, sym, ◌∙◌, ap, subst, arith, suc, ◌-◌, ◌%◌, ◌≤◌, Some}
use Rattle.std.specs.Prelude.{IfOk, IfErr, OnOk, OnErr}
use Rattle.hart.specs.declared.need.Report.{Report}
use Rattle.step_machine.specs.declared.events.Event.{Event}
use Rattle.step_machine.specs.declared.events.Outcome.{Outcome}
use Rattle.step_machine.specs.Names.{HartOpeningValue, OpeningValue, History, HistoryWithRoom, at_opening, reported, memory_word, Happens, RunFrom, state_of}
use Rattle.step_machine.specs.Names.{OpensWithWords, word_in_memory}
use Rattle.step_machine.proofs.{kept-at_opening, memory-word}
use Rattle.poll_close.specs.Layout.{Layout, senders_from}
use Rattle.poll_close.specs.{Ring, opening_over, Meaning, AcceptedAt, Opens, Keeps, Cleans, Goes, AllGoOn, Stands, opening_lists, Clean, SenderBlock, block_of}
use Rattle.poll_close.specs.{BlockInvariant, Count, means_by}
use Rattle.poll_close.proofs.Delivering.{Known, known-happens, known-run, senders-length}
use Rattle.hart.specs.State.{HartState}
use Rattle.poll_close.specs.Invariant.Outlines.{Standing}
use Rattle.poll_close.proofs.Blocks.{IsBlock}
use Rattle.poll_close.proofs.ChannelLaws.{blocks}

pub inboxes : (code : List ℕ) (S : Layout) (i : ℕ) (lists : List (List ℕ)) → map (λ (h : HartOpeningValue). h.inbox) (senders_from code S i lists) ≡ lists
inboxes code S i [] = refl
inboxes code S i (ws ∷ lists) = ap (λ rest. ws ∷ rest) (inboxes code S (i + 1) lists)

module _ (ring : Ring) (means : Meaning) (B M : ℕ) where
  pub stands-opens : (lists : List (List ℕ)) (S : Layout) (t : History) → Opens ring means
      → AcceptedAt ring M lists S → t ≡ at_opening (opening_over ring lists S) → Stands ring means B M t
  unfolding Opens
  stands-opens lists S t opens accepted is = subst (Stands ring means B M) (sym is) (record {
    opens = record { lists = lists; layout = S; accepted = accepted; opening = refl };
    kept = kept-at_opening B M (opening_over ring lists S);
    meant = opens B M lists S accepted;
  })

  known : (t : History) (s : Stands ring means B M t) → Known ring means B M s.opens.lists s.opens.layout t
  known t s = record { opening = s.opens.opening; kept = s.kept; meant = s.meant }

  again : (lists : List (List ℕ)) (S : Layout) (t : History) → AcceptedAt ring M lists S → Known ring means B M lists S t → Stands ring means B M t
  again lists S t accepted k = record { opens = record { lists = lists; layout = S; accepted = accepted; opening = k.opening }; kept = k.kept; meant = k.meant }

  pub stands-happens : (t : History) (ev : Event) (o : Outcome) (new : History) → Keeps ring means
      → Stands ring means B M t → Happens B M t ev o new → Stands ring means B M new
  stands-happens t ev o new keeps s happens = again s.opens.lists s.opens.layout new s.opens.accepted
      (known-happens ring means keeps B M s.opens.lists s.opens.layout s.opens.accepted t ev o new (known t s) happens)

  pub stands-run : (t : History) (evs : List Event) (new : History) → Keeps ring means → Stands ring means B M t
      → RunFrom B M t evs new → Stands ring means B M new
  stands-run t evs new keeps s run = again s.opens.lists s.opens.layout new s.opens.accepted
      (known-run ring means keeps B M s.opens.lists s.opens.layout s.opens.accepted t evs new (known t s) run)

  pub stands-clean : (t : History) → Cleans ring means → Stands ring means B M t → Clean (reported 0 t.entries) (opening_lists t.opening)
  stands-clean t cleans s =
      let lists : opening_lists t.opening ≡ s.opens.lists = ap opening_lists s.opens.opening ∙ inboxes ring.sender s.opens.layout 0 s.opens.lists in
      rw lists (cleans B M s.opens.lists s.opens.layout t s.opens.accepted s.opens.opening s.kept s.meant)

  pub stands-goes : (t : History) → Goes ring means → Stands ring means B M t → AllGoOn t.entries
  stands-goes t goes s = goes B M s.opens.lists s.opens.layout t s.opens.accepted s.meant

  pub stands-receiver : (t : History) → Stands ring means B M t → 0 < length t.opening.harts
  stands-receiver t s = grind arith

  -- one event, and a list of events, as a machine answers them
  pub stands-step : {E : Type 0} (old new : HistoryWithRoom) (ev : Event) (r : Result Outcome E) → Keeps ring means
      → Stands ring means B M old.history → IfOk r (λ o. Happens B M old.history ev o new.history) → OnErr r (new ≡ old)
      → Stands ring means B M new.history
  stands-step old new ev r keeps s happens same = grind (arith, stands-happens)

  pub stands-ran : {A E : Type 0} (old new : HistoryWithRoom) (evs : List Event) (r : Result A (ℕ × E)) → Keeps ring means
      → Stands ring means B M old.history → OnOk r (RunFrom B M old.history evs new.history)
      → IfErr r (λ e. RunFrom B M old.history (take e.0 evs) new.history) → Stands ring means B M new.history
  stands-ran old new evs (Ok o) keeps s ran failed = stands-run old.history evs new.history keeps s ran
  stands-ran old new evs (Err e) keeps s ran failed = stands-run old.history (take e.0 evs) new.history keeps s failed

  -- what its holder sees is clean
  pub clean-seen : (p q : HistoryWithRoom) (rs : List Report) → p ≡ q → rs ≡ reported 0 p.history.entries
      → Cleans ring means → Stands ring means B M p.history → Clean rs (opening_lists q.history.opening)
  clean-seen p q rs view is cleans s = subst (λ (z : HistoryWithRoom). Clean rs (opening_lists z.history.opening))
      view (rw is (stands-clean p.history cleans s))

-- ---- a sender's hart, where a plan asks whether it is ready

pub record Sender (m : BlockInvariant) (M : ℕ) (t : History) (h : ℕ) : Type 0 where
  pub block : SenderBlock
  pub numbers : Count m
  pub is : IsBlock block
  pub words : block.words ≡ M
  pub state : HartState
  pub at : state_of M t h ≡ Some state
  pub stands : Standing m.sender block numbers.sender state
  pub memory : (a : ℕ) → a % 4 ≡ 0 → memory_word t.opening t.entries a ≡ word_in_memory t.opening t.entries a

pub sender_at : (m : BlockInvariant) (ring : Ring) → 1 ≤ ring.least → (B M : ℕ) (t : History) (h : ℕ)
    → Stands ring (means_by m) B M t → 1 ≤ h → h < length t.opening.harts → Sender m M t h
sender_at m ring some_slot B M t h st some less =
    let harts : length t.opening.harts ≡ suc (length st.opens.lists) = ap (λ (o : OpeningValue). length o.harts)
    st.opens.opening ∙ ap (λ n. suc n) (senders-length ring.sender st.opens.layout 0 st.opens.lists) in
    let within : h - 1 < length st.opens.lists = omega (arith, harts, less, some) in
    let same : h - 1 + 1 ≡ h = omega (arith, some) in
    let part = st.meant.parts (h - 1) within in
    record {
      block = block_of M st.opens.layout st.opens.lists (h - 1);
      numbers = st.meant.numbers (h - 1);
      is = blocks ring M st.opens.layout st.opens.lists some_slot st.opens.accepted (h - 1) within;
      words = refl;
      state = part.sender.stands;
      at = ap (state_of M t) (sym same) ∙ part.sender.state;
      stands = part.sender.holds;
      memory = λ a aligned. memory-word t.opening t.entries a
          (subst OpensWithWords (sym st.opens.opening) st.opens.accepted.empty.small) st.meant.written aligned;
    }
