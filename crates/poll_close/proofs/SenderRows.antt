-- The rows of a sender's outline by the instruction of their line. A ring shows of a row what holds after its line; where
-- that leads, what it leaves in the registers and that it is inside of the code is computed, and given as `refl`.
use Rattle.std.proofs.Common.{ℕ, suc, ℤ, pos, ◌+◌, ◌*◌, ◌%◌, ◌<◌, ◌≤◌, ◌≡◌, ◌≢◌, ◌==◌, inl, inr, Bool, true, false, List, [], ◌∷◌, length, drop, length-drop}
use Rattle.std.proofs.Common.{Some, None, refl, sym, ◌∙◌, ap, subst, arith, eq-eqb, ne_eqb}
use Rattle.std.specs.Prelude.{nat_lt, slice_index, map}
use Rattle.std.specs.List.{slice_get}
use Rattle.std.proofs.lemmas.Bool.{cases_lt, cases_eq}
use Rattle.std.proofs.lemmas.Bool.Decides.{nat_tests}
use Rattle.rv_decode.specs.declared.instruction.Reg.{Reg}
use Rattle.rv_decode.specs.declared.instruction.BranchOp.TheVariants as branch
use Rattle.rv_decode.specs.declared.instruction.LoadOp.TheVariants as load
use Rattle.rv_decode.specs.declared.instruction.StoreOp.TheVariants as store
use Rattle.rv_decode.specs.declared.instruction.Instr.{Instr}
use Rattle.rv_decode.specs.declared.instruction.Instr.TheVariants.{Branch, Load, Store, Ecall}
use Rattle.hart.specs.{HartState, register_value, register_written, next_pc, address, registers_after, pc_after, need_of, need_for, advanced, after_instruction}
use Rattle.hart.specs.declared.need.Need.{Need}
use Rattle.hart.specs.declared.need.Need.TheVariants as need
use Rattle.hart.proofs.Instructions.{IsAt, need_at, after-at, load_need, load_after, store_need, store_after, exit_need, exit_after}
use Rattle.step_machine.proofs.Lines.{Line, loads, stores, word-plus, goes_to, leaves_in, same_jumps, other_goes_on, other_jumps, same_goes_on}
use Rattle.poll_close.specs.{SenderBlock, AreNext, SenderRegisters, fixed, file, running, ended, BlockInvariant, Count, unsent_of, stands, SenderIs, rank_in}
use Rattle.poll_close.specs.{left_of}
use Rattle.poll_close.proofs.Acts.{stored_by, IsNoAmo}
use Rattle.poll_close.proofs.Blocks.{IsBlock, IsWordOf}
use Rattle.poll_close.proofs.BlockLaws.{found_in}
use Rattle.poll_close.proofs.SenderLines.{line_04-word, line_04-none}
use Rattle.poll_close.proofs.Outlines.{Sender, Goes, Finds, Free}
use Rattle.poll_close.proofs.Outlines as outline

abbrev pub registers_in : List ℕ → SenderRegisters
registers_in x = record {
  x5 = slice_index x 5;
  x6 = slice_index x 6;
  x7 = slice_index x 7;
  x10 = slice_index x 10;
  x11 = slice_index x 11;
  x17 = slice_index x 17;
  x28 = slice_index x 28;
}

-- what is computed of a line: the state at it, what it wants, the state after it, and that one by the outline; how many
-- words it asked for and stored by then; and whether the next row is nearer to the end
pub record Course : Type 0 where
  pub now : HartState
  pub needs : Need
  pub left : HartState
  pub there : HartState
  pub asked : ℕ
  pub sent : ℕ
  pub less : Bool

-- of a branch: how its target is aligned, and the states at it and after it where it jumps and where it goes on
pub record Ways : Type 0 where
  pub now : HartState
  pub aligned : ℕ
  pub jumped : HartState
  pub there : HartState
  pub went : HartState
  pub next : HartState

-- of the call for a word: the states at it and after it, and what is counted
pub record Call (Own : Type 0) : Type 0 where
  pub long : Bool
  pub now : HartState
  pub there : SenderRegisters → Own → HartState
  pub asked : ℕ
  pub sent : ℕ
  pub some_less : Bool
  pub none_less : Bool

module _ (m : BlockInvariant) (g : Sender m) (k : SenderBlock) (n : Count m) (word : ℕ → ℕ) (v : ℕ) (r : SenderRegisters) where
  abbrev inside : ℕ → m.sender.Own → SenderRegisters → HartState
  inside pc made q = running m.sender.code (fixed k) pc q (drop (m.sender.asked made) k.list)

  abbrev here : ℕ → HartState
  here j = inside (4 * j) n.sender r

  abbrev rank : ℕ → SenderRegisters → ℕ
  rank pc q = rank_in (λ (f : List ℕ → ℕ). f (file (fixed k) q)) m.sender.rows pc

  abbrev IsLine : ℕ → Instr → Type 0
  IsLine j i = slice_get (map Some g.lines) j ≡ Some (Some i)

  abbrev Row : ℕ → Type 0
  Row pc = Finds m g k n word v r pc → Goes m g k n word v r pc

  abbrev x : Reg → ℕ
  x a = register_value (file (fixed k) r) a

  abbrev course : (j there : ℕ) → m.sender.Own → SenderRegisters → Need → HartState → ℕ → Bool → Course
  course j there made q needs left sent less = record {
    now = stands m.sender k (4 * j) n.sender r;
    needs = needs;
    left = left;
    there = stands m.sender k there made q;
    asked = m.sender.asked made;
    sent = sent;
    less = less;
  }

  abbrev stays_inside : (j there : ℕ) → m.sender.Own → SenderRegisters → Need → Course
  stays_inside j there made q needs = record {
    now = here j;
    needs = needs;
    left = inside there made q;
    there = inside there made q;
    asked = m.sender.asked n.sender;
    sent = m.sent n.sender;
    less = true;
  }

  -- what a line that computes or jumps leaves, and what one that loads
  abbrev next : ℕ → Instr → ℕ
  next j i = pc_after i (file (fixed k) r) (4 * j)

  abbrev left : ℕ → Instr → SenderRegisters
  left j i = registers_in (registers_after i (file (fixed k) r) (4 * j) v)

  abbrev loaded : Reg → SenderRegisters
  loaded rd = registers_in (register_written (file (fixed k) r) rd v)

  abbrev ways : ℕ → ℤ → Ways
  ways j o = record {
    now = stands m.sender k (4 * j) n.sender r;
    aligned = address (4 * j) o % 4;
    jumped = goes_to (here j) (address (4 * j) o);
    there = stands m.sender k (address (4 * j) o) n.sender r;
    went = goes_to (here j) (next_pc (4 * j));
    next = stands m.sender k (next_pc (4 * j)) n.sender r;
  }

  abbrev inner_ways : ℕ → ℤ → Ways
  inner_ways j o = record {
    now = here j;
    aligned = 0;
    jumped = inside (address (4 * j) o) n.sender r;
    there = inside (address (4 * j) o) n.sender r;
    went = inside (next_pc (4 * j)) n.sender r;
    next = inside (next_pc (4 * j)) n.sender r;
  }

  -- what holds where a branch goes, and that its row is nearer to the end
  abbrev Arrives : ℕ → ℕ → Type 0
  Arrives j there = SenderIs m.sender there k n.sender r × (rank there r < rank (4 * j) r)

  -- the next word of the list is in x10, or none is left
  abbrev given : SenderRegisters
  given = record r { x10 = slice_index k.list (m.sender.asked n.sender); x11 = 1 }

  abbrev refused : SenderRegisters
  refused = record r { x11 = 0 }

  abbrev call : m.sender.Own → Call m.sender.Own
  call made = record {
    long = nat_lt 2 (length m.sender.code);
    now = stands m.sender k 0x04 n.sender r;
    there = λ q own. stands m.sender k 0x08 own q;
    asked = m.sender.asked made;
    sent = m.sent made;
    some_less = nat_lt (rank 0x08 given) (32 + rank 0x04 r);
    none_less = nat_lt (rank 0x08 refused) (rank 0x04 r);
  }

  abbrev inner_call : Call m.sender.Own
  inner_call = record {
    long = true;
    now = inside 0x04 n.sender r;
    there = λ q own. inside 0x08 own q;
    asked = suc (m.sender.asked n.sender);
    sent = m.sent n.sender;
    some_less = true;
    none_less = true;
  }

  -- the state in which it ends
  abbrev over : ℕ → HartState
  over j = ended m.sender.code (fixed k) (4 * j) r (drop (m.sender.asked n.sender) k.list)

  -- the reason of a row by its line's instruction
  pub record Rows : Type 0 where
    -- it only computes or jumps
    pub computes : (j : ℕ) {i : Instr} → IsLine j i
        → course j (next j i) n.sender (left j i) (need_for (here j) i) (after_instruction (here j) v i) (m.sent n.sender)
        (nat_lt (rank (next j i) (left j i)) (rank (4 * j) r))
        ≡ stays_inside j (next j i) n.sender (left j i) need.Inner → SenderIs m.sender (next j i) k n.sender (left j i) → Row (4 * j)
    pub branch_equal : (j : ℕ) {a b : Reg} {o : ℤ} → IsLine j (Branch branch.Equal a b o) → ways j o ≡ inner_ways j o
        → (x a ≡ x b → (x a == x b) ≡ true → Arrives j (address (4 * j) o)) → (x a ≢ x b → (x a == x b) ≡ false → Arrives j (next_pc (4 * j)))
        → Row (4 * j)
    pub branch_other : (j : ℕ) {a b : Reg} {o : ℤ} → IsLine j (Branch branch.NotEqual a b o) → ways j o ≡ inner_ways j o
        → (x a ≡ x b → (x a == x b) ≡ true → Arrives j (next_pc (4 * j))) → (x a ≢ x b → (x a == x b) ≡ false → Arrives j (address (4 * j) o))
        → Row (4 * j)
    -- it reads what is pending of its own, else what is in memory, where it doesn't wait for the receiver
    pub loads_word : (j : ℕ) {rd rs : Reg} {o : ℕ} (made : m.sender.Own) → IsLine j (Load load.Word rd rs (pos o))
        → course j (next_pc (4 * j)) made (loaded rd) need.Inner (leaves_in (here j) rd v) (m.sent made) true
        ≡ stays_inside j (next_pc (4 * j)) made (loaded rd) need.Inner → IsWordOf k (x rs + o) → m.CounterInvariant k (record n { sender = made })
        → (v ≡ found_in (unsent_of m k n) word (x rs + o) → SenderIs m.sender (next_pc (4 * j)) k made (loaded rd))
        → (v ≡ word (x rs + o) → m.waits (stands m.sender k (4 * j) n.sender r) word ≡ false → rank (next_pc (4 * j)) (loaded rd) < rank (4 * j) r)
        → Row (4 * j)
    pub stores_word : (j : ℕ) {rs from : Reg} {o : ℕ} (made : m.sender.Own) → IsLine j (Store store.Word rs from (pos o))
        → course j (next_pc (4 * j)) made r need.Inner (goes_to (here j) (next_pc (4 * j))) (m.sent n.sender)
        (nat_lt (rank (next_pc (4 * j)) r) (rank (4 * j) r))
        ≡ stays_inside j (next_pc (4 * j)) made r need.Inner → IsWordOf k (x rs + o) → m.CounterInvariant k (record n { sender = made })
        → AreNext (m.sender_stores k) (m.sent n.sender) (m.sent made) ((x rs + o, x from) ∷ []) → SenderIs m.sender (next_pc (4 * j)) k made r → Row (4 * j)
    -- it asks for the next word of its list
    pub asks : (made : m.sender.Own) → IsLine 1 Ecall → call made ≡ inner_call → r.x17 ≡ 1
        → (m.sender.asked n.sender < length k.list → m.CounterInvariant k (record n { sender = made }) × SenderIs m.sender 0x08 k made given)
        → (length k.list ≤ m.sender.asked n.sender → SenderIs m.sender 0x08 k n.sender refused) → Row 0x04
    pub exits : (j : ℕ) → IsLine j Ecall → course j (4 * j + 4) n.sender r need.Inner (over j) (m.sent n.sender) (nat_lt 0 (rank (4 * j) r))
        ≡ record (stays_inside j (4 * j + 4) n.sender r need.Inner) { left = over j; there = over j } → r.x17 ≡ 93
        → SenderIs m.sender (4 * j + 4) k n.sender r → Row (4 * j)

  below : {a b : ℕ} → nat_lt a b ≡ true → a < b
  below is = grind (arith, nat_tests)

  -- a row nearer to the end, with as many words left
  closer : (made : m.sender.Own) (pc from : ℕ) (q : SenderRegisters) → m.sender.asked made ≡ m.sender.asked n.sender → rank pc q < rank from r
      → left_of m.sender (inside pc made q) < left_of m.sender (inside from n.sender r)
  closer made pc from q same less = let left : length (drop (m.sender.asked made) k.list) ≡ length (drop (m.sender.asked n.sender) k.list) =
      ap (λ c. length (drop c k.list)) same in omega (arith, left, less)

  -- an act, by the states at it and after it
  acts : (pc there : ℕ) (wanted : Need) (made : m.sender.Own) (q : SenderRegisters) (s t : HartState) → stands m.sender k pc n.sender r ≡ s
      → stands m.sender k there made q ≡ t → IsNoAmo (IsWordOf k) wanted → need_of s ≡ wanted → advanced s v ≡ t
      → m.CounterInvariant k (record n { sender = made }) → AreNext (m.sender_stores k) (m.sent n.sender) (m.sent made) (stored_by wanted)
      → SenderIs m.sender there k made q → (Free m g k n word v r pc → left_of m.sender t < left_of m.sender s) → Goes m g k n word v r pc
  acts pc there wanted made q s t from to plain needs leaves order stores holds nearer = record {
    wanted = wanted;
    there = there;
    made = made;
    written = q;
    plain = plain;
    needs = ap need_of from ∙ needs;
    leaves = ap (λ (z : HartState). advanced z v) from ∙ leaves ∙ sym to;
    order = order;
    stores = stores;
    holds = holds;
    nearer = λ free. subst (λ (z : HartState). left_of m.sender z < left_of m.sender (stands m.sender k pc n.sender r)) (sym to)
        (subst (λ (z : HartState). left_of m.sender t < left_of m.sender z) (sym from) (nearer free));
  }

  jumps : m.CounterInvariant k n → (j : ℕ) (o : ℤ) → ways j o ≡ inner_ways j o → Line (here j) need.Inner (λ w. goes_to (here j) (address (4 * j) o))
      → Arrives j (address (4 * j) o) → Goes m g k n word v r (4 * j)
  jumps order j o is line h = acts (4 * j) (address (4 * j) o) need.Inner n.sender r (here j) (inside (address (4 * j) o) n.sender r)
      (ap (λ (w : Ways). w.now) is) (ap (λ (w : Ways). w.there) is) tt line.needs (line.leaves v ∙ ap (λ (w : Ways). w.jumped) is)
      order refl h.0 (λ free. omega (arith, h.1))

  goes_on : m.CounterInvariant k n → (j : ℕ) (o : ℤ) → ways j o ≡ inner_ways j o → Line (here j) need.Inner (λ w. goes_to (here j) (next_pc (4 * j)))
      → Arrives j (next_pc (4 * j)) → Goes m g k n word v r (4 * j)
  goes_on order j o is line h = acts (4 * j) (next_pc (4 * j)) need.Inner n.sender r (here j) (inside (next_pc (4 * j)) n.sender r)
      (ap (λ (w : Ways). w.now) is) (ap (λ (w : Ways). w.next) is) tt line.needs (line.leaves v ∙ ap (λ (w : Ways). w.went) is)
      order refl h.0 (λ free. omega (arith, h.1))

  -- the address of an access, which is a word's of the block
  reaches : IsBlock k → (rs : Reg) (o : ℕ) → IsWordOf k (x rs + o)
      → (address (x rs) (pos o) ≡ x rs + o) × (address (x rs) (pos o) % 4 ≡ 0) × (address (x rs) (pos o) < 4 * k.words)
  reaches is rs o within =
      let small : x rs + o < 4 * k.words = omega (arith, is.inside, within.within.below) in
      let sum : address (x rs) (pos o) ≡ x rs + o = word-plus (x rs) o (omega (arith, small, is.small)) in
      (sum, ap (λ z. z % 4) sum ∙ within.aligned, omega (arith, sum, small))

  pub rows : IsBlock k → m.CounterInvariant k n → Rows
  rows is order = record {
    computes = λ j {i} found same holds find.
        let at : IsAt (here j) i = outline.at m g k n word v r j found in
        let needs : need_of (here j) ≡ need.Inner = need_at at ∙ ap (λ (c : Course). c.needs) same in
        acts (4 * j) (next j i) need.Inner n.sender (left j i) (here j) (inside (next j i) n.sender (left j i)) (ap (λ (c : Course). c.now) same)
        (ap (λ (c : Course). c.there) same) tt needs (after-at at need.Inner needs tt v ∙ ap (λ (c : Course). c.left) same) order refl holds
        (λ free. closer n.sender (next j i) (4 * j) (left j i) refl (below (ap (λ (c : Course). c.less) same)));
    branch_equal = λ j {a} {b} {o} found same jump on find.
        let at : IsAt (here j) (Branch branch.Equal a b o) = outline.at m g k n word v r j found in
        elim (cases_eq (x a) (x b)) [
          | inl e ↦ jumps order j o same (same_jumps at e (ap (λ (w : Ways). w.aligned) same)) (jump e (eq-eqb (x a) (x b) e))
          | inr d ↦ goes_on order j o same (other_goes_on at d) (on d (ne_eqb (x a) (x b) d))
        ];
    branch_other = λ j {a} {b} {o} found same on jump find.
        let at : IsAt (here j) (Branch branch.NotEqual a b o) = outline.at m g k n word v r j found in
        elim (cases_eq (x a) (x b)) [
          | inl e ↦ goes_on order j o same (same_goes_on at e) (on e (eq-eqb (x a) (x b) e))
          | inr d ↦ jumps order j o same (other_jumps at d (ap (λ (w : Ways). w.aligned) same)) (jump d (ne_eqb (x a) (x b) d))
        ];
    loads_word = λ j {rd} {rs} {o} made found same within kept holds nearer find.
        let at : IsAt (here j) (Load load.Word rd rs (pos o)) = outline.at m g k n word v r j found in
        let to = reaches is rs o within in
        let needs : need_of (here j) ≡ loads (x rs + o) = load_need at to.1 to.2 ∙ ap loads to.0 in
        let from : stands m.sender k (4 * j) n.sender r ≡ here j = ap (λ (c : Course). c.now) same in
        let read : v ≡ found_in (unsent_of m k n) word (x rs + o) = find (x rs + o) within (ap need_of from ∙ needs) in
        acts (4 * j) (next_pc (4 * j)) (loads (x rs + o)) made (loaded rd) (here j) (inside (next_pc (4 * j)) made (loaded rd)) from
        (ap (λ (c : Course). c.there) same) (tt, within) needs (load_after at to.1 to.2 v ∙ ap (λ (c : Course). c.left) same)
        kept (ap (λ (c : Course). c.sent) same) (holds read) (λ free. closer made (next_pc (4 * j)) (4 * j) (loaded rd)
        (ap (λ (c : Course). c.asked) same) (nearer (read ∙ ap (λ ps. found_in ps word (x rs + o)) free.0) free.1));
    stores_word = λ j {rs} {from} {o} made found same within kept one holds find.
        let at : IsAt (here j) (Store store.Word rs from (pos o)) = outline.at m g k n word v r j found in
        let to = reaches is rs o within in
        acts (4 * j) (next_pc (4 * j)) (stores (x rs + o) (x from)) made r (here j) (inside (next_pc (4 * j)) made r) (ap (λ (c : Course). c.now) same)
        (ap (λ (c : Course). c.there) same) (tt, within) (store_need at to.1 to.2 ∙ ap (λ a. stores a (x from)) to.0)
        (store_after at to.1 to.2 v ∙ ap (λ (c : Course). c.left) same) kept one holds
        (λ free. closer made (next_pc (4 * j)) (4 * j) r (ap (λ (c : Course). c.asked) same) (below (ap (λ (c : Course). c.less) same)));
    asks = λ made found same number some none find.
        let long : 2 < length m.sender.code = below (ap (λ (c : Call m.sender.Own). c.long) same) in
        let asked : m.sender.asked made ≡ suc (m.sender.asked n.sender) = ap (λ (c : Call m.sender.Own). c.asked) same in
        let from : stands m.sender k 0x04 n.sender r ≡ inside 0x04 n.sender r = ap (λ (c : Call m.sender.Own). c.now) same in
        elim (cases_lt (m.sender.asked n.sender) (length k.list)) [
          | inl less ↦
              let w : ℕ = slice_index k.list (m.sender.asked n.sender) in
              let line = line_04-word m.sender.code long (fixed k) r (λ inbox. outline.at_in m g k n word v r r inbox 1 found) number k.list
              (m.sender.asked n.sender) less in
              let left : length (drop (suc (m.sender.asked n.sender)) k.list) + 1 ≡ length (drop (m.sender.asked n.sender) k.list) =
              omega (arith, less, length-drop (m.sender.asked n.sender) k.list, length-drop (suc (m.sender.asked n.sender)) k.list) in
              let h = some less in
              acts 0x04 0x08 (need.Next (Some w)) made given (inside 0x04 n.sender r) (inside 0x08 made given) from
              (ap (λ (c : Call m.sender.Own). c.there given made) same) tt line.needs
              (line.leaves v ∙ ap (λ a. running m.sender.code (fixed k) 0x08 given (drop a k.list)) (sym asked)) h.0
              (ap (λ (c : Call m.sender.Own). c.sent) same) h.1
              (λ free. omega (arith, left, below (ap (λ (c : Call m.sender.Own). c.some_less) same), ap (λ a. length (drop a k.list)) asked))
          | inr most ↦
              let line = line_04-none m.sender.code long (fixed k) r (λ inbox. outline.at_in m g k n word v r r inbox 1 found) number k.list
              (m.sender.asked n.sender) most in
              acts 0x04 0x08 (need.Next None) n.sender refused (inside 0x04 n.sender r) (inside 0x08 n.sender refused) from
              (ap (λ (c : Call m.sender.Own). c.there refused n.sender) same) tt line.needs (line.leaves v) order refl (none most)
              (λ free. closer n.sender 0x08 0x04 refused refl (below (ap (λ (c : Call m.sender.Own). c.none_less) same)))
        ];
    exits = λ j found same number holds find.
        let at : IsAt (here j) Ecall = outline.at m g k n word v r j found in
        let some : 0 < rank (4 * j) r = below (ap (λ (c : Course). c.less) same) in
        acts (4 * j) (4 * j + 4) need.Exit n.sender r (here j) (over j) (ap (λ (c : Course). c.now) same) (ap (λ (c : Course). c.there) same) tt
        (exit_need at number) (exit_after at number v) order refl holds (λ free. omega (arith, some));
  }
