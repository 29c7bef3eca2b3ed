-- A sender whose outline is right keeps its block's meaning: from each row's assertion, whatever it reads,
-- its act leads to the row where it goes on, and nearer to its end where it doesn't wait.
use Rattle.std.proofs.Common.{ℕ, ◌≡◌, ◌≢◌, ◌+◌, ◌-◌, ◌*◌, ◌<◌, ◌≤◌, ◌==◌, Bool, true, false, List, [], ◌∷◌, drop, Some, if◌then◌else◌, refl, sym, ◌∙◌, ap}
use Rattle.std.proofs.Common.{subst, arith}
use Rattle.std.specs.Prelude.{slice_index, map}
use Rattle.std.specs.List.{slice_get}
use Rattle.std.proofs.lemmas.Bool.Decides.{nat_tests}
use Rattle.rv_decode.specs.Meaning.{meaning}
use Rattle.rv_decode.specs.declared.instruction.Instr.{Instr}
use Rattle.hart.specs.{HartState, need_of, advanced}
use Rattle.hart.specs.declared.status.Status.TheVariants as status
use Rattle.hart.specs.declared.need.Need.{Need}
use Rattle.hart.specs.declared.need.Need.TheVariants as need
use Rattle.hart.proofs.Instructions.{IsAt}
use Rattle.poll_close.specs.{runs, SenderBlock, AreNext, SenderRegisters, fixed, running, ended, BlockInvariant, Count, unsent_of}
use Rattle.poll_close.specs.Invariant.Outlines.{OutlineRow, SenderRow, Reasons, Outline, either, stands, HoldsIn, SenderIs, Standing, left_of}
use Rattle.poll_close.proofs.Acts.{stored_by, IsNoAmo}
use Rattle.step_machine.proofs.Lines.{Line, loads, at_line}
use Rattle.poll_close.proofs.Blocks.{IsBlock, IsWordOf}
use Rattle.poll_close.proofs.BlockLaws.{found_in, Sends}

-- one reason before others
infixr 5 ◌&◌
abbrev pub ◌&◌ : {A B : Type 0} → A → B → A × B
reason & others = (reason, others)

-- where each row is right, what is wanted follows at any offset from what holds there
pub found : {Rank : Type 0} {Held : Type 1} (holds : Held → Type 0) (Goal : ℕ → Type 0)
    (rows : List (OutlineRow Rank Held)) → Reasons (λ (row : OutlineRow Rank Held). holds row.holds → Goal row.at) rows → (here : ℕ)
    → HoldsIn holds rows here → Goal here
found holds Goal [] reasons here h = absurd h
found holds Goal (row ∷ rows) reasons here h = grind (arith, nat_tests, found holds Goal rows reasons.1 here)

-- where it has ended, and where it runs
module _ (o : Outline) (k : SenderBlock) (here : ℕ) (n : o.Own) (r : SenderRegisters) where
  abbrev inbox : List ℕ
  inbox = drop (o.asked n) k.list

  by : (b : Bool) → (here == o.over) ≡ b → stands o k here n r
      ≡ (if b then ended o.code (fixed k) (here - 4) r inbox else running o.code (fixed k) here r inbox)
  by b is = ap (λ c. if c then ended o.code (fixed k) (here - 4) r inbox else running o.code (fixed k) here r inbox) is

  at_end : (here == o.over) ≡ true → stands o k here n r ≡ ended o.code (fixed k) (here - 4) r inbox
  at_end is = by true is

  at_run : (here == o.over) ≡ false → stands o k here n r ≡ running o.code (fixed k) here r inbox
  at_run is = by false is

-- what a state tells: its line, and that all holds that does at its end
module _ (o : Outline) (k : SenderBlock) (n : o.Own) (s : HartState) (st : Standing o k n s) where
  pub stands_at : (pc : ℕ) → s.pc ≡ pc → o.over ≢ pc + 4 → 4 ≤ o.over → (s ≡ stands o k pc n st.written) × SenderIs o pc k n st.written
  stands_at pc is other some =
      let place : st.place ≡ pc = at (st.place == o.over) refl in
      (st.is ∙ ap (λ p. stands o k p n st.written) place, subst (λ (p : ℕ). SenderIs o p k n st.written) place st.holds)
    where
      at : (b : Bool) → (st.place == o.over) ≡ b → st.place ≡ pc
      at true over =
          let end : st.place ≡ o.over = grind (arith, nat_tests) in
          let same : s.pc ≡ st.place - 4 = ap (λ (z : HartState). z.pc) (st.is ∙ at_end o k st.place n st.written over) in
          absurd (other (omega (arith, is, same, end, some)))
      at false on = sym (ap (λ (z : HartState). z.pc) (st.is ∙ at_run o k st.place n st.written on)) ∙ is

  -- x8 is always where its block begins
  pub base_is : slice_index s.registers 8 ≡ k.base
  base_is = ap (λ (z : HartState). slice_index z.registers 8) st.is ∙ at (st.place == o.over) refl
    where
      at : (b : Bool) → (st.place == o.over) ≡ b → slice_index (stands o k st.place n st.written).registers 8 ≡ k.base
      at true over = ap (λ (z : HartState). slice_index z.registers 8) (at_end o k st.place n st.written over)
      at false on = ap (λ (z : HartState). slice_index z.registers 8) (at_run o k st.place n st.written on)

  pub has_ended : runs (Some s) ≡ false → o.done k n
  has_ended off = at (st.place == o.over) refl st.holds
    where
      at : (b : Bool) → (st.place == o.over) ≡ b → either b (o.done k n)
          (HoldsIn (λ (H : SenderBlock → o.Own → SenderRegisters → Type 0). H k n st.written) o.rows st.place) → o.done k n
      at true over h = h
      at false on h = let bad : false ≡ true = sym off ∙ ap (λ (z : HartState). runs (Some z)) (st.is ∙ at_run o k st.place n st.written on) in cc

-- what its code's listing is
pub record Sender (m : BlockInvariant) : Type 0 where
  pub lines : List Instr
  pub decoded : map meaning m.sender.code ≡ map Some lines

module _ (m : BlockInvariant) (g : Sender m) (k : SenderBlock) (n : Count m) (word : ℕ → ℕ) (v : ℕ) (r : SenderRegisters) where
  abbrev now : ℕ → HartState
  now here = stands m.sender k here n.sender r

  -- v is what a load here reads
  abbrev pub Finds : ℕ → Type 0
  Finds here = (a : ℕ) → IsWordOf k a → need_of (now here) ≡ loads a → v ≡ found_in (unsent_of m k n) word a

  -- nothing of its own is pending, and it doesn't wait for the receiver
  abbrev pub Free : ℕ → Type 0
  Free here = (unsent_of m k n ≡ []) × (m.waits (now here) word ≡ false)

  abbrev pub Nearer : ℕ → ℕ → m.sender.Own → SenderRegisters → Type 0
  Nearer here there made written = left_of m.sender (stands m.sender k there made written) < left_of m.sender (now here)

  -- one act at this offset: what it wants, where it goes on, and what its own numbers are then
  pub record Goes (here : ℕ) : Type 0 where
    pub wanted : Need
    pub there : ℕ
    pub made : m.sender.Own
    pub written : SenderRegisters
    pub plain : IsNoAmo (IsWordOf k) wanted
    pub needs : need_of (now here) ≡ wanted
    pub leaves : advanced (now here) v ≡ stands m.sender k there made written
    pub order : m.CounterInvariant k (record n { sender = made })
    pub stores : AreNext (m.sender_stores k) (m.sent n.sender) (m.sent made) (stored_by wanted)
    pub holds : SenderIs m.sender there k made written
    pub nearer : Free here → Nearer here there made written

  -- the reason why a row is right
  abbrev pub Right : SenderRow m.sender.Own → Type 0
  Right row = row.holds k n.sender r → Finds row.at → Goes row.at

  abbrev pub Right_at : ℕ → Type 0
  Right_at here = SenderIs m.sender here k n.sender r → Finds here → Goes here

  -- an act by a line; and by one that changes no number
  abbrev pub GoesBy : ℕ → Type 0
  GoesBy here = (there : ℕ) (wanted : Need) (made : m.sender.Own) (written : ℕ → SenderRegisters)
      → IsNoAmo (IsWordOf k) wanted → Line (now here) wanted (λ w. stands m.sender k there made (written w))
      → m.CounterInvariant k (record n { sender = made }) → AreNext (m.sender_stores k) (m.sent n.sender) (m.sent made) (stored_by wanted)
      → SenderIs m.sender there k made (written v) → (Free here → Nearer here there made (written v)) → Finds here
      → Goes here

  abbrev pub Still : ℕ → Type 0
  Still here = (there : ℕ) (written : SenderRegisters)
      → Line (now here) need.Inner (λ w. stands m.sender k there n.sender written)
      → SenderIs m.sender there k n.sender written → Nearer here there n.sender written → Finds here → Goes here

  pub goes : (here : ℕ) → GoesBy here
  goes here there wanted made written plain line order stores holds nearer find = record {
    wanted = wanted;
    there = there;
    made = made;
    written = written v;
    plain = plain;
    needs = line.needs;
    leaves = line.leaves v;
    order = order;
    stores = stores;
    holds = holds;
    nearer = nearer;
  }

  pub still : m.CounterInvariant k n → (here : ℕ) → Still here
  still order here there written line holds nearer = grind (arith, goes)

  -- where the line at this offset is that instruction
  pub at_in : (q : SenderRegisters) (inbox : List ℕ) (j : ℕ) {i : Instr}
      → slice_get (map Some g.lines) j ≡ Some (Some i) → IsAt (running m.sender.code (fixed k) (4 * j) q inbox) i
  at_in q inbox j found = at_line (running m.sender.code (fixed k) (4 * j) q inbox) j refl (ap (λ xs. slice_get xs j) g.decoded ∙ found)

  pub at : (j : ℕ) {i : Instr} → slice_get (map Some g.lines) j ≡ Some (Some i)
      → IsAt (running m.sender.code (fixed k) (4 * j) r (drop (m.sender.asked n.sender) k.list)) i
  at j found = at_in r (drop (m.sender.asked n.sender) k.list) j found

  right : Reasons Right m.sender.rows → (here : ℕ) → (now here).status ≡ status.Running → Right_at here
  right reasons here running h find = by_test (here == m.sender.over) refl h
    where
      by_test : (b : Bool) → (here == m.sender.over) ≡ b → either b (m.sender.done k n.sender)
          (HoldsIn (λ (H : SenderBlock → m.sender.Own → SenderRegisters → Type 0). H k n.sender r) m.sender.rows here)
          → Goes here
      by_test true over h =
          let bad : status.Ended ≡ status.Running =
          sym (ap (λ (s : HartState). s.status) (at_end m.sender k here n.sender r over)) ∙ running in
          cc
      by_test false on h = found (λ (H : SenderBlock → m.sender.Own → SenderRegisters → Type 0). H k n.sender r)
          (λ j. Finds j → Goes j) m.sender.rows reasons here h find

-- so its acts keep the block's meaning, and bring it nearer to its end, as the laws of a block ask
module _ (m : BlockInvariant) (g : Sender m)
    (reasons : (k : SenderBlock) (n : Count m) (word : ℕ → ℕ) (v : ℕ) (r : SenderRegisters) → IsBlock k → m.CounterInvariant k n
    → m.Words k n.landed word → Reasons (Right m g k n word v r) m.sender.rows) (k : SenderBlock) (n : Count m)
    (s : HartState) (word : ℕ → ℕ) (v : ℕ) (is : IsBlock k) (order : m.CounterInvariant k n) (words : m.Words k n.landed word)
    (st : Standing m.sender k n.sender s) (running : s.status ≡ status.Running) where
  act : ((a : ℕ) → IsWordOf k a → need_of s ≡ loads a → v ≡ found_in (unsent_of m k n) word a) → Goes m g k n word v st.written st.place
  act find = right m g k n word v st.written (reasons k n word v st.written is order words) st.place
      (subst (λ (z : HartState). z.status ≡ status.Running) st.is running) st.holds
      (λ a inside needs. find a inside (ap need_of st.is ∙ needs))

  pub sends : ((a : ℕ) → IsWordOf k a → need_of s ≡ loads a → v ≡ found_in (unsent_of m k n) word a) → Sends m k n s v
  sends find =
      let a : Goes m g k n word v st.written st.place = act find in
      let needs : need_of s ≡ a.wanted = ap need_of st.is ∙ a.needs in
      record {
        after = a.made;
        plain = subst (IsNoAmo (IsWordOf k)) (sym needs) a.plain;
        stands = record { place = a.there; written = a.written; is = ap (λ z. advanced z v) st.is ∙ a.leaves; holds = a.holds };
        order = a.order;
        stores = subst (λ w. AreNext (m.sender_stores k) (m.sent n.sender) (m.sent a.made) (stored_by w)) (sym needs) a.stores;
      }

  pub nearer : unsent_of m k n ≡ [] → ((a : ℕ) → IsWordOf k a → need_of s ≡ loads a → v ≡ word a)
      → m.waits s word ≡ false → left_of m.sender (advanced s v) < left_of m.sender s
  nearer none find on =
      let a : Goes m g k n word v st.written st.place = act (λ a inside needs. find a inside needs ∙ sym (ap (λ ps. found_in ps word a) none)) in
      let less : left_of m.sender (stands m.sender k a.there a.made a.written)
      < left_of m.sender (stands m.sender k st.place n.sender st.written) =
      a.nearer (none, subst (λ (z : HartState). m.waits z word ≡ false) st.is on) in
      rw (st.is, a.leaves) less
