-- What an instruction comes to: one of the states that may follow, and allowed accesses. Here of all that load and store nothing.
use Rattle.std.proofs.Common.{ℕ, ℤ, pos, ◌+ℤ◌, zero, suc, ◌+◌, ◌-◌, ◌*◌, ◌/◌, ◌%◌, ◌^◌, ◌<◌, ◌≤◌, ◌≡◌, ◌≢◌, ◌==◌, ◌&&◌, ◌||◌, ◌⊎◌, inl, inr}
use Rattle.std.proofs.Common.{if◌then◌else◌, Bool, true, false, Option, Some, None, List, [], ◌∷◌, length, get_or, refl, sym, ◌∙◌, ap, subst, arith}
use Rattle.std.specs.Prelude.{nat_lt, nat_le, ◌-ℤ◌, not, map, slice_index, slice_set, set, bit_and}
use Rattle.std.specs.List.{slice_get}
use Rattle.std.proofs.lemmas.Bool.{and_parts, or_cases, eqb-true, eqb-false, ltb-true, leb-true, lt-ltb, cases_eq, cases_lt}
use Rattle.std.proofs.lemmas.List.{length-set, set-get_or, get_or-set_same, get_or-set_other, length-map}
use Rattle.rv_decode.specs.Meaning.{meaning}
use Rattle.rv_decode.specs.declared.instruction.Reg.{Reg}
use Rattle.rv_decode.specs.declared.instruction.BranchOp.{BranchOp}
use Rattle.rv_decode.specs.declared.instruction.BranchOp.TheVariants as branch
use Rattle.rv_decode.specs.declared.instruction.ImmediateOp.{ImmediateOp}
use Rattle.rv_decode.specs.declared.instruction.ImmediateOp.TheVariants as immediate
use Rattle.rv_decode.specs.declared.instruction.LoadOp.{LoadOp}
use Rattle.rv_decode.specs.declared.instruction.LoadOp.TheVariants as load_op
use Rattle.rv_decode.specs.declared.instruction.AmoOp.{AmoOp}
use Rattle.rv_decode.specs.declared.instruction.AmoOp.TheVariants as amo
use Rattle.rv_decode.specs.declared.instruction.StoreOp.TheVariants as store_op
use Rattle.rv_decode.specs.declared.instruction.Instr.{Instr}
use Rattle.rv_decode.specs.declared.instruction.Instr.TheVariants.{Lui, Auipc, Jal, Jalr, Branch, Load, Store, Immediate, Shift, Register, Fence, FenceTso}
use Rattle.rv_decode.specs.declared.instruction.Instr.TheVariants.{Ecall, Ebreak, Amo}
use Rattle.hart.specs.{HartState, need_of, advanced, advanced_by, after_instruction, jump_need, access_need, is_full, called, given, register_value, written_at}
use Rattle.hart.specs.{word, next_pc, address, is_taken, with_immediate, shifted, computed, sign_extended, extended, load_width, stored, store_width, updated}
use Rattle.hart.specs.declared.status.Stop.{Stop}
use Rattle.hart.specs.declared.status.Stop.TheVariants as stop
use Rattle.hart.specs.declared.status.Status.TheVariants as status
use Rattle.hart.specs.declared.need.Report.{Report}
use Rattle.hart.specs.declared.need.Report.TheVariants as report
use Rattle.hart.specs.declared.need.Need.{Need}
use Rattle.hart.specs.declared.need.Need.TheVariants as need
use Rattle.hart.proofs.Advances.{advanced-as}
use Rattle.hart.proofs.Instructions.{IsAt, IsPlain, need_at, after-at, illegal}
use Rattle.step_machine.specs.declared.events.Entry.{Entry}
use Rattle.step_machine.specs.Names.{OpeningValue, Access, nothing, load, store, exchange, fence, land, access_of, hart_of}
use Rattle.step_machine.specs.Paths.{number_read, entry_of}
use Rattle.store_buffers.specs.StoreBuffers.{LeavesByteBy}
use Rattle.slot_queue.specs.Queues.{Queue, IsQueue, TellsFull, KeepsOff, index_word}
use Rattle.queue_parties.specs.Parties.{Party, other, QueueCounts, count, known as known_of}
use Rattle.slot_queue.specs.Ownership.{hart, index, party_of, after_load as after_load_of, after_access, KeepsAccess}
use Rattle.queue_certificates.specs.{OwnWord, View, AllCounts, number_seen, view_then, ActsByCounts, ReadsFrom, IsSameFor, LoadsOwned, OwnsSlotsOf, Form}
use Rattle.queue_certificates.specs.{form_value, number, plus, minus, is_same, most, fits_in, lifted, Bounds, remainder_word, KnownValue, any, linear}
use Rattle.queue_certificates.specs.{index_for, signed_for, ends_as, has_bits, own_at, own_number, signed_word, Share, no_share, share_by, KnownState, value_by}
use Rattle.queue_certificates.specs.{state_by, scaled, plain, is_within, Has, HasShare, MeansAt, Result, just, exactly, as_number, bounds, sum_of, of_immediate}
use Rattle.queue_certificates.specs.{of_shift, of_registers, is_branch_taken, counting, with_register, with_result, going_to, goes_by, operand, jumping}
use Rattle.queue_certificates.specs.{low_form, low_bytes, stored_value, keeps_value, without_sign, follow, register_at, instruction_at, loads_owned}
use Rattle.queue_certificates.specs.{reads_owned, updated_value, after_exchange, exchanging, addresses, address_value, anywhere, is_one, is_whole, misses}
use Rattle.queue_certificates.specs.{is_look, is_own_index, is_own_word, word_loaded, index_loaded, value_loaded, extended_value, is_index_below, signed_value}
use Rattle.queue_certificates.specs.{most_loaded, loaded, is_any, with_equal, when_taken, when_passed, last_below, is_just, may_load, after_load, looked_word}
use Rattle.queue_certificates.specs.{owned_then, looked_share, back_of, loading, all_below, shares_moved, moved_share, is_copy, immediate_result, is_cut}
use Rattle.queue_certificates.specs.{may_move, may_fill, may_store, leaves_words, is_off, is_owned, is_apart, storable, word_then, words_then, after_store}
use Rattle.queue_certificates.specs.{storing}
use Rattle.queue_certificates.specs.Steps.{called as called_state}
use Rattle.queue_certificates.proofs.Values.{word-linear, has-plain, known-is, has-bounds, within}
use Rattle.queue_certificates.proofs.Forms.{same-value}
use Rattle.queue_certificates.proofs.Results.{word-of-sum, word-small, word-has, sum-has, Gives, just-gives, divisor-below, counted-has, kept-has}
use Rattle.queue_certificates.proofs.Results.{signed-of-bits, signed-fits, signed-rest, or-up-to-gives, exactly-gives, immediate-gives, shift-gives}
use Rattle.queue_certificates.proofs.Results.{register-gives, branch-is}
use Rattle.queue_certificates.proofs.States.{means-result, means-going, means-lifted, means-moved, means-frame, written-has, at-below}
use Rattle.queue_certificates.proofs.Stores.{width-divides, stored-low, apart-from, written-number, left-number, stored-whole, stored-part, keeps-off, Stored}
use Rattle.queue_certificates.proofs.Stores.{stays-off, stays-filled, moves-on, owned-slots, off-slots}
use Rattle.queue_certificates.proofs.Bounds.{value-below, fits-below, value-word}
use Rattle.slot_queue.proofs.Codes.{word-small as word-fits}
use Rattle.queue_parties.proofs.Parties.{Whose, mine as is_party, theirs as is_third, whose}
use Rattle.memory.specs.declared.writes.Write.{Write}
use Rattle.memory.specs.Writes.{write, covers}
use Rattle.memory.proofs.Joined.{joined-below}
use Rattle.std.proofs.lemmas.Nat.{mul-le, pow_pos, and_mask}
use Rattle.std.proofs.Math.Nat.{mod_self, mod-lt, pow-le-pow_right, mod-eq_of_lt, mod-mod_of_dvd, mod-le}
use Rattle.rv_decode.specs.declared.instruction.StoreOp.{StoreOp}
use Rattle.queue_certificates.proofs.Accesses.{found-below, just-is, same-party, party-hart, hart-party, IsWholeIndex, whole-index, missed, Looked, looks, hits}
use Rattle.std.proofs.lemmas.Nat.Gcd.{dvd_of_mod-eq-zero}

pub no-code : (s : HartState) → nat_lt s.pc (4 * length s.code) ≡ false → need_of s ≡ need.Stop stop.NoCode
unfolding need_of
no-code s out = rw out refl

abbrev pub nobody_told : ℕ → Type 0
nobody_told i = ⊥

abbrev pub nothing_sent : (i k : ℕ) → View → Type 0
nothing_sent i k m = Unit {0}

-- a hart that acts does so whatever is known of what is sent
pub untold : (M : ℕ) (o : OpeningValue) (N : ℕ) (queues : ℕ → Queue) (Told : ℕ → Type 0) (Sent : (i k : ℕ) → View → Type 0) (h : ℕ) (s : HartState)
    (m : View) (cs : AllCounts) (e : Entry) → ActsByCounts M o N queues Told Sent h s m cs e → ActsByCounts M o N queues nobody_told nothing_sent h s m cs e
untold M o N queues Told Sent h s m cs e a = record {
  mine = a.mine;
  act = a.act;
  can = a.can;
  reads = a.reads;
  bytes = a.bytes;
  sees = a.sees;
  received = λ i less told. absurd told;
  opens = a.opens;
  is = a.is;
  code = a.code;
  words = a.words;
  size = a.size;
  zero = a.zero;
}

-- an access that is none of memory
abbrev pub IsQuiet : Access → Type 0
IsQuiet nothing = Unit {0}
IsQuiet (load a width v) = ⊥
IsQuiet (store w) = ⊥
IsQuiet (exchange a old new) = ⊥
IsQuiet (fence full) = Unit {0}
IsQuiet land = ⊥

pub quiet-counts : (q : Queue) (t : Option Party) (y : Access) (c : QueueCounts) → IsQuiet y → after_access q t y c ≡ c
quiet-counts q None nothing c quiet = refl
quiet-counts q (Some p) nothing c quiet = refl
quiet-counts q None (fence full) c quiet = refl
quiet-counts q (Some p) (fence full) c quiet = refl
quiet-counts q t (load a width v) c quiet = absurd quiet
quiet-counts q t (store w) c quiet = absurd quiet
quiet-counts q t (exchange a old new) c quiet = absurd quiet
quiet-counts q t land c quiet = absurd quiet

quiet-keeps : (q : Queue) (t : Option Party) (c : QueueCounts) (y : Access) → IsQuiet y → KeepsAccess q t c y
quiet-keeps q None c nothing quiet = tt
quiet-keeps q (Some p) c nothing quiet = tt
quiet-keeps q None c (fence full) quiet = tt
quiet-keeps q (Some p) c (fence full) quiet = tt
quiet-keeps q t c (load a width v) quiet = absurd quiet
quiet-keeps q t c (store w) quiet = absurd quiet
quiet-keeps q t c (exchange a old new) quiet = absurd quiet
quiet-keeps q t c land quiet = absurd quiet

pub quiet-leaves : (x : ℕ) (y : Access) → IsQuiet y → LeavesByteBy x y
quiet-leaves x nothing quiet = tt
quiet-leaves x (fence full) quiet = tt
quiet-leaves x other quiet = absurd quiet

pub quiet-view : (m : View) (y : Access) (x : ℕ) → IsQuiet y → view_then y m x ≡ m x
quiet-view m nothing x quiet = refl
quiet-view m (fence full) x quiet = refl
quiet-view m other x quiet = absurd quiet

quiet-owns : (q : Queue) (p : Party) (c : QueueCounts) (y : Access) → IsQuiet y → LoadsOwned q p c y
quiet-owns q p c nothing quiet = tt
quiet-owns q p c (fence full) quiet = tt
quiet-owns q p c other quiet = absurd quiet

copied : (op : ImmediateOp) (n : ℤ) → is_copy op n ≡ true → (x : ℕ) → x < 2 ^ 32 → with_immediate op x n ≡ x
copied immediate.Add (pos n) is x small = word-of-sum x (pos n) ∙ (let none : n ≡ 0 = eqb-true n 0 is in omega (arith, none, small))
copied other beside is x small = absurd (cc)

-- a signed load leaves a number as it is if its highest bit is 0
pub sign-low : (bits x : ℕ) → x < 2 ^ (bits - 1) → sign_extended bits x ≡ x
sign-low bits x low = ap (λ t. if t then x else word (pos x -ℤ pos (2 ^ bits))) (lt-ltb x (2 ^ (bits - 1)) low)

-- what a load leaves in its register
pub extended-most : (op : LoadOp) (x : ℕ) → x < 256 ^ load_width op → extended op x ≤ most_loaded op
extended-most load_op.Byte x low = subst (λ y. y ≤ 2 ^ 32 - 1) (sym (signed-of-bits 8 1 x refl refl (omega arith) low))
    (let small : signed_word 1 x < 2 ^ 32 = signed-fits 1 x low (omega arith) in omega (arith, small))
extended-most load_op.Half x low = subst (λ y. y ≤ 2 ^ 32 - 1) (sym (signed-of-bits 16 2 x refl refl (omega arith) low))
    (let small : signed_word 2 x < 2 ^ 32 = signed-fits 2 x low (omega arith) in omega (arith, small))
extended-most other x low = omega (arith, low)

module _ (queues : ℕ → Queue) (N : ℕ) (own_of : ℕ → List OwnWord) (h : ℕ) where
  -- a state that may follow says what is so, over one variable more, which comes first
  abbrev pub IsNext : List ℕ → KnownState → HartState → View → AllCounts → Type 0
  IsNext xs k s m cs = (x : ℕ) × MeansAt queues N (own_of h) h (x ∷ xs) k s m cs

  -- one of these states does
  abbrev pub IsAmong : List ℕ → List KnownState → HartState → View → AllCounts → Type 0
  IsAmong xs [] s m cs = ⊥
  IsAmong xs (k ∷ ks) s m cs = IsNext xs k s m cs ⊎ IsAmong xs ks s m cs

  -- what an access of the hart comes to, after which it is in state z
  pub record Goes (owns : ℕ → Bool) (xs : List ℕ) (ks : List KnownState) (m : View) (cs : AllCounts) (y : Access) (z : HartState) : Type 0 where
    pub next : z.status ≡ status.Running → IsAmong xs ks z (view_then y m) (λ i. after_access (queues i) (party_of (queues i) h) y (cs i))
    pub keeps : (i : ℕ) → i < N → KeepsAccess (queues i) (party_of (queues i) h) (cs i) y
    pub apart : (g x : ℕ) → g ≢ h → (j : ℕ) → j < length (own_of g) → (own_at (own_of g) j).at ≤ x
        → x < (own_at (own_of g) j).at + (own_at (own_of g) j).width → LeavesByteBy x y
    -- where `owns` says so, its loads of a queue's slots are of owned ones
    pub loads : (i : ℕ) → i < N → owns i ≡ true → (p : Party) → h ≡ hart (queues i) p → LoadsOwned (queues i) p (cs i) y

module _ (M : ℕ) (o : OpeningValue) (queues : ℕ → Queue) (N : ℕ) (own_of : ℕ → List OwnWord) (H h : ℕ) (xs : List ℕ)
    (k : KnownState) (s : HartState) (m : View) (cs : AllCounts) (e : Entry)
    (acts : ActsByCounts M o N queues nobody_told nothing_sent h s m cs e) (size : 32 ≤ length s.registers)
    (fine : (i : ℕ) → i < N → IsQueue (queues i) × TellsFull (queues i) × ((queues i).index_width ≤ 4))
    (means : MeansAt queues N (own_of h) h xs k s m cs) where
  abbrev v : ℕ
  v = number_read e

  -- whether what the pc says loads owned slots of queue i alone
  abbrev pub owns : ℕ → Bool
  owns i = loads_owned queues k i (instruction_at s.code s.pc)

  -- the access, by what the hart wants
  pub access-is : (n : Need) → need_of s ≡ n → access_of e ≡ access_of (entry_of (hart_of e) n v)
  access-is n needs = ap access_of (acts.can.made ∙ ap (λ w. entry_of (hart_of e) w v) needs)

  pub goes-as : (ks : List KnownState) (n : Need) (z : HartState) → need_of s ≡ n → advanced_by s n v ≡ z
      → Goes queues N own_of h owns xs ks m cs (access_of (entry_of (hart_of e) n v)) z → Goes queues N own_of h owns xs ks m cs (access_of e) (advanced s v)
  goes-as ks n z needs leaves g = subst (λ y. Goes queues N own_of h owns xs ks m cs y (advanced s v)) (sym (access-is n needs))
      (subst (λ w. Goes queues N own_of h owns xs ks m cs (access_of (entry_of (hart_of e) n v)) w) (sym (advanced-as s n v needs ∙ leaves)) g)

  quiet-goes : (ks : List KnownState) (y : Access) (z : HartState) → IsQuiet y
      → (z.status ≡ status.Running → IsAmong queues N own_of h xs ks z m cs) → Goes queues N own_of h owns xs ks m cs y z
  quiet-goes ks y z quiet next = record {
    next = λ runs. at ks (next runs);
    keeps = λ i less. quiet-keeps (queues i) (party_of (queues i) h) (cs i) y quiet;
    apart = λ g x far j less low high. quiet-leaves x y quiet;
    loads = λ i less ok p mine. quiet-owns (queues i) p (cs i) y quiet;
  }
    where
      one : (t : KnownState) → IsNext queues N own_of h xs t z m cs
          → IsNext queues N own_of h xs t z (view_then y m)
          (λ i. after_access (queues i) (party_of (queues i) h) y (cs i))
      one t w = (
        w.0,
        means-moved queues N (own_of h) h (w.0 ∷ xs) t z m (view_then y m) cs (λ i. after_access (queues i) (party_of (queues i) h) y (cs i)) w.1
            (λ x. quiet-view m y x quiet) (λ i. quiet-counts (queues i) (party_of (queues i) h) y (cs i) quiet),
      )

      at : (ks : List KnownState) → IsAmong queues N own_of h xs ks z m cs
          → IsAmong queues N own_of h xs ks z (view_then y m)
          (λ i. after_access (queues i) (party_of (queues i) h) y (cs i))
      at [] w = absurd w
      at (t ∷ ts) (inl w) = inl (one t w)
      at (t ∷ ts) (inr w) = inr (at ts w)

  -- a hart that stops or ends goes nowhere
  pub stop-goes : (ks : List KnownState) (why : Stop) → need_of s ≡ need.Stop why → Goes queues N own_of h owns xs ks m cs (access_of e) (advanced s v)
  stop-goes ks why needs = goes-as ks (need.Stop why) (record s { status = status.Stopped why }) needs refl
      (quiet-goes ks nothing (record s { status = status.Stopped why }) tt (λ runs. absurd (let no : status.Stopped why ≡ status.Running = runs in cc)))

  exit-goes : (ks : List KnownState) → need_of s ≡ need.Exit → Goes queues N own_of h owns xs ks m cs (access_of e) (advanced s v)
  exit-goes ks needs = goes-as ks need.Exit (record s { status = status.Ended }) needs refl
      (quiet-goes ks nothing (record s { status = status.Ended }) tt (λ runs. absurd (let no : status.Ended ≡ status.Running = runs in cc)))

  -- an instruction that wants nothing of memory
  plain-goes : (ks : List KnownState) (i : Instr) (n : Need) → IsAt s i → need_of s ≡ n → IsPlain n → IsQuiet (access_of (entry_of (hart_of e) n v))
      → IsAmong queues N own_of h xs ks (after_instruction s v i) m cs → Goes queues N own_of h owns xs ks m cs (access_of e) (advanced s v)
  plain-goes ks i n here needs plain quiet next = subst (λ y. Goes queues N own_of h owns xs ks m cs y (advanced s v)) (sym (access-is n needs))
      (subst (λ w. Goes queues N own_of h owns xs ks m cs (access_of (entry_of (hart_of e) n v)) w) (sym (after-at here n needs plain v))
      (quiet-goes ks (access_of (entry_of (hart_of e) n v)) (after_instruction s v i) quiet (λ runs. next)))

  pub register-has : (r : Reg) → Has queues xs (register_at k r) (register_value s.registers r)
  register-has r = by (r.number == 0) refl
    where
      by : (t : Bool) → (r.number == 0) ≡ t
          → Has queues xs (if t then linear (number 0) else get_or k.registers r.number any)
          (slice_index s.registers r.number)
      by false some = means.registers r.number
      by true none = ap (slice_index s.registers) (eqb-true r.number 0 none) ∙ acts.zero

  pub operand-has : (r : Reg) → Has queues xs (operand queues k r) (register_value s.registers r)
  operand-has r = has-plain queues k.ranges xs means.ranges (register_at k r) (register_value s.registers r) (register-has r)

  -- it leaves x in a register, and goes to pc
  result-means : (rd : Reg) (pc x : ℕ) (r : Result) (z : HartState) → Gives queues xs r x → z.pc ≡ pc → z.registers ≡ written_at s.registers rd.number x
      → IsAmong queues N own_of h xs (with_result k rd.number pc r ∷ []) z m cs
  result-means rd pc x r z g at regs = inl (
    g.0,
    means-result queues N (own_of h) h xs k s z m cs rd.number pc x r means (omega (arith, size, rd.below_32)) g.0
        g.1 g.2 at regs,
  )

  going-means : (pc : ℕ) (z : HartState) → z.pc ≡ pc → z.registers ≡ s.registers → IsNext queues N own_of h xs (going_to k pc) z m cs
  going-means pc z at regs = (0, means-going queues N (own_of h) h xs k s z m cs pc means at regs)

  inner-goes : (ks : List KnownState) (i : Instr) → IsAt s i → need_of s ≡ need.Inner → IsAmong queues N own_of h xs ks (after_instruction s v i) m cs
      → Goes queues N own_of h owns xs ks m cs (access_of e) (advanced s v)
  inner-goes ks i here needs next = plain-goes ks i need.Inner here needs tt tt next

  -- a jump goes on, or stops the hart
  jump-goes : (ks : List KnownState) (i : Instr) (target : ℕ) → IsAt s i → need_of s ≡ jump_need target
      → IsAmong queues N own_of h xs ks (after_instruction s v i) m cs
      → Goes queues N own_of h owns xs ks m cs (access_of e) (advanced s v)
  jump-goes ks i target here needs next = by (target % 4 == 0) needs
    where
      by : (t : Bool) → need_of s ≡ (if t then need.Inner else need.Stop stop.MisalignedJump)
          → Goes queues N own_of h owns xs ks m cs (access_of e) (advanced s v)
      by true needs = inner-goes ks i here needs next
      by false needs = stop-goes ks stop.MisalignedJump needs

  -- ---- branches

  same-register : (n : ℕ) → written_at s.registers n (slice_index s.registers n) ≡ s.registers
  same-register n = by (n == 0)
    where
      by : (t : Bool) → (if t then s.registers else slice_set s.registers n (slice_index s.registers n)) ≡ s.registers
      by true = refl
      by false = set-get_or s.registers n 0

  -- what is so of a register may be known of it
  learns : (r : Reg) (u : KnownValue) → Has queues xs u (register_value s.registers r)
      → MeansAt queues N (own_of h) h xs (record k { registers = with_register k.registers r.number u }) s m cs
  learns r u has = record {
    ranges = means.ranges;
    pc = means.pc;
    registers = λ j. subst (λ zs. Has queues xs (get_or (with_register k.registers r.number u) j any) (slice_index zs j)) (same-register r.number)
        (written-has queues N (own_of h) h xs k.registers s.registers r.number (slice_index s.registers r.number) u
        means.registers (omega (arith, size, r.below_32)) has j);
    words = means.words;
    shares = means.shares;
  }

  equal-means : (rs1 rs2 : Reg) → register_value s.registers rs1 ≡ register_value s.registers rs2
      → MeansAt queues N (own_of h) h xs (with_equal k rs1 rs2) s m cs
  equal-means rs1 rs2 same = by (is_any (register_at k rs1)) (is_any (register_at k rs2))
    where
      by : (a b : Bool) → MeansAt queues N (own_of h) h xs (if a then record k { registers = with_register k.registers rs1.number (register_at k rs2) }
          else (if b then record k { registers = with_register k.registers rs2.number (register_at k rs1) } else k)) s m cs
      by true b = learns rs1 (register_at k rs2) (subst (Has queues xs (register_at k rs2)) (sym same) (register-has rs2))
      by false true = learns rs2 (register_at k rs1) (subst (Has queues xs (register_at k rs1)) same (register-has rs1))
      by false false = means

  taken-means : (op : BranchOp) (rs1 rs2 : Reg) → is_taken op (register_value s.registers rs1) (register_value s.registers rs2) ≡ true
      → MeansAt queues N (own_of h) h xs (when_taken k op rs1 rs2) s m cs
  taken-means branch.Equal rs1 rs2 is = equal-means rs1 rs2 (eqb-true (register_value s.registers rs1) (register_value s.registers rs2) is)
  taken-means other rs1 rs2 is = means

  passed-means : (op : BranchOp) (rs1 rs2 : Reg) → is_taken op (register_value s.registers rs1) (register_value s.registers rs2) ≡ false
      → MeansAt queues N (own_of h) h xs (when_passed k op rs1 rs2) s m cs
  passed-means branch.NotEqual rs1 rs2 none = equal-means rs1 rs2
      (by (register_value s.registers rs1 == register_value s.registers rs2) refl none)
    where
      by : (t : Bool) → (register_value s.registers rs1 == register_value s.registers rs2) ≡ t → not t ≡ false
          → register_value s.registers rs1 ≡ register_value s.registers rs2
      by true is none = eqb-true (register_value s.registers rs1) (register_value s.registers rs2) is
      by false is none = absurd (cc)
  passed-means other rs1 rs2 is = means

  branch-goes : (op : BranchOp) (rs1 rs2 : Reg) (offset : ℤ) → IsAt s (Branch op rs1 rs2 offset)
      → Goes queues N own_of h owns xs (goes_by (when_taken k op rs1 rs2) (when_passed k op rs1 rs2) (address k.pc offset) (next_pc k.pc)
      (is_branch_taken queues k.ranges op (operand queues k rs1) (operand queues k rs2))) m cs
      (access_of e) (advanced s v)
  branch-goes op rs1 rs2 offset here = by (is_taken op (register_value s.registers rs1) (register_value s.registers rs2)) refl
    where
      right : (t : Bool)
          → is_branch_taken queues k.ranges op (operand queues k rs1) (operand queues k rs2) ≡ Some t
          → is_taken op (register_value s.registers rs1) (register_value s.registers rs2) ≡ t
      right t is = branch-is queues xs k.ranges means.ranges op (operand queues k rs1)
          (operand queues k rs2) (register_value s.registers rs1) (register_value s.registers rs2)
          (operand-has rs1) (operand-has rs2) t is

      turned : is_taken op (register_value s.registers rs1) (register_value s.registers rs2) ≡ true
          → IsNext queues N own_of h xs (going_to (when_taken k op rs1 rs2) (address k.pc offset))
          (after_instruction s v (Branch op rs1 rs2 offset)) m cs
      turned yes-taken = (
        0,
        means-going queues N (own_of h) h xs (when_taken k op rs1 rs2) s (after_instruction s v (Branch op rs1 rs2 offset)) m cs (address k.pc offset)
            (taken-means op rs1 rs2 yes-taken)
            (ap (λ t. if t then address s.pc offset else next_pc s.pc) yes-taken ∙ ap (λ x. address x offset) means.pc) refl,
      )

      onward : is_taken op (register_value s.registers rs1) (register_value s.registers rs2) ≡ false
          → IsNext queues N own_of h xs (going_to (when_passed k op rs1 rs2) (next_pc k.pc)) (after_instruction s v (Branch op rs1 rs2 offset)) m cs
      onward not-taken = (
        0,
        means-going queues N (own_of h) h xs (when_passed k op rs1 rs2) s (after_instruction s v (Branch op rs1 rs2 offset)) m cs (next_pc k.pc)
            (passed-means op rs1 rs2 not-taken)
            (ap (λ t. if t then address s.pc offset else next_pc s.pc) not-taken ∙ ap next_pc means.pc) refl,
      )

      among : (t : Bool) → is_taken op (register_value s.registers rs1) (register_value s.registers rs2) ≡ t → (o : Option Bool)
          → ((u : Bool) → o ≡ Some u → is_taken op (register_value s.registers rs1) (register_value s.registers rs2) ≡ u)
          → IsAmong queues N own_of h xs (goes_by (when_taken k op rs1 rs2) (when_passed k op rs1 rs2) (address k.pc offset) (next_pc k.pc) o)
          (after_instruction s v (Branch op rs1 rs2 offset)) m cs
      among true is None right = inl (turned is)
      among false is None right = inr (inl (onward is))
      among t is (Some true) right = inl (turned (right true refl))
      among t is (Some false) right = inl (onward (right false refl))

      by : (t : Bool) → is_taken op (register_value s.registers rs1) (register_value s.registers rs2) ≡ t
          → Goes queues N own_of h owns xs (goes_by (when_taken k op rs1 rs2) (when_passed k op rs1 rs2) (address k.pc offset) (next_pc k.pc)
          (is_branch_taken queues k.ranges op (operand queues k rs1) (operand queues k rs2))) m
          cs (access_of e) (advanced s v)
      by true is = jump-goes _ (Branch op rs1 rs2 offset) (address s.pc offset) here
          (need_at here ∙ ap (λ t. if t then jump_need (address s.pc offset) else need.Inner) is) (among true is _ right)
      by false is = inner-goes _ (Branch op rs1 rs2 offset) here
          (need_at here ∙ ap (λ t. if t then jump_need (address s.pc offset) else need.Inner) is) (among false is _ right)

  -- an environment call
  called-means : (z : HartState) → z.pc ≡ next_pc s.pc → (a b : ℕ) → z.registers ≡ written_at (written_at s.registers 10 a) 11 b
      → IsAmong queues N own_of h xs (called_state k ∷ []) z m cs
  called-means z at a b regs =
      let l = means-lifted queues N (own_of h) h 0 0 (omega arith) xs k s m cs means in
      let long : 11 < length (written_at s.registers 10 a) = rw (length-set) (omega (arith, size)) in
      inl (
        0,
        record {
          ranges = l.ranges;
          pc = at ∙ ap next_pc means.pc;
          registers = λ j. subst (λ zs. Has queues (0 ∷ xs)
              (get_or (with_register (with_register (map (value_by lifted) k.registers) 10 any) 11 any) j any) (slice_index zs j))
              (sym regs)
              (written-has queues N (own_of h) h (0 ∷ xs) (with_register (map (value_by lifted) k.registers) 10 any) (written_at s.registers 10 a) 11 b any
              (written-has queues N (own_of h) h (0 ∷ xs) (map (value_by lifted) k.registers) s.registers 10 a any
              l.registers (omega (arith, size)) tt) long tt j);
          words = l.words;
          shares = l.shares;
        },
      )

  call-goes : IsAt s Ecall → Goes queues N own_of h owns xs (called_state k ∷ []) m cs (access_of e) (advanced s v)
  call-goes here = first (slice_index s.registers 17 == 1) (need_at here)
    where
      same-registers : s.registers ≡ written_at (written_at s.registers 10 (slice_index s.registers 10)) 11 (slice_index s.registers 11)
      same-registers = sym (ap (λ zs. set zs 11 (slice_index s.registers 11)) (set-get_or s.registers 10 0) ∙ set-get_or s.registers 11 0)

      reports : (r : Report) → need_of s ≡ need.Report r → Goes queues N own_of h owns xs (called_state k ∷ []) m cs (access_of e) (advanced s v)
      reports (report.Took i w) needs = goes-as (called_state k ∷ []) (need.Report (report.Took i w)) (called s) needs refl
          (quiet-goes (called_state k ∷ []) nothing (called s) tt (λ runs.
          called-means (called s) refl (slice_index s.registers 10) (slice_index s.registers 11) same-registers))
      reports (report.Closed i) needs = goes-as (called_state k ∷ []) (need.Report (report.Closed i)) (called s) needs refl
          (quiet-goes (called_state k ∷ []) nothing (called s) tt (λ runs.
          called-means (called s) refl (slice_index s.registers 10) (slice_index s.registers 11) same-registers))

      gives : (w : Option ℕ) → need_of s ≡ need.Next w → Goes queues N own_of h owns xs (called_state k ∷ []) m cs (access_of e) (advanced s v)
      gives None needs = goes-as (called_state k ∷ []) (need.Next None) (given s None) needs refl
          (quiet-goes (called_state k ∷ []) nothing (given s None) tt (λ runs. called-means (given s None) refl (slice_index s.registers 10) 0
          (ap (λ zs. written_at zs 11 0) (sym (set-get_or s.registers 10 0)))))
      gives (Some w) needs = goes-as (called_state k ∷ []) (need.Next (Some w)) (given s (Some w)) needs refl
          (quiet-goes (called_state k ∷ []) nothing (given s (Some w)) tt (λ runs. called-means (given s (Some w)) refl w 1 refl))

      fourth : (t : Bool) → need_of s ≡ (if t then need.Exit else need.Stop stop.UnknownCall)
          → Goes queues N own_of h owns xs (called_state k ∷ []) m cs (access_of e) (advanced s v)
      fourth true needs = exit-goes (called_state k ∷ []) needs
      fourth false needs = stop-goes (called_state k ∷ []) stop.UnknownCall needs

      third : (t : Bool) → need_of s ≡ (if t then need.Report (report.Closed (slice_index s.registers 10)) else
          (if slice_index s.registers 17 == 93 then need.Exit else need.Stop stop.UnknownCall))
          → Goes queues N own_of h owns xs (called_state k ∷ []) m cs (access_of e) (advanced s v)
      third true needs = reports (report.Closed (slice_index s.registers 10)) needs
      third false needs = fourth (slice_index s.registers 17 == 93) needs

      second : (t : Bool) → need_of s ≡ (if t then need.Report (report.Took (slice_index s.registers 10) (slice_index s.registers 11)) else
          (if slice_index s.registers 17 == 3 then need.Report (report.Closed (slice_index s.registers 10)) else
          (if slice_index s.registers 17 == 93 then need.Exit else need.Stop stop.UnknownCall)))
          → Goes queues N own_of h owns xs (called_state k ∷ []) m cs (access_of e) (advanced s v)
      second true needs = reports (report.Took (slice_index s.registers 10) (slice_index s.registers 11)) needs
      second false needs = third (slice_index s.registers 17 == 3) needs

      first : (t : Bool) → need_of s ≡ (if t then need.Next (slice_get s.inbox 0) else
          (if slice_index s.registers 17 == 2 then need.Report (report.Took (slice_index s.registers 10) (slice_index s.registers 11)) else
          (if slice_index s.registers 17 == 3 then need.Report (report.Closed (slice_index s.registers 10)) else
          (if slice_index s.registers 17 == 93 then need.Exit else need.Stop stop.UnknownCall))))
          → Goes queues N own_of h owns xs (called_state k ∷ []) m cs (access_of e) (advanced s v)
      first true needs = gives (slice_get s.inbox 0) needs
      first false needs = second (slice_index s.registers 17 == 2) needs

  -- what a signed load leaves of an index's word is a word, and has its low bytes
  signed-small : (i : ℕ) (f : Form) (x : ℕ) → i < N → Has queues xs (signed_for i f) x → x < 2 ^ 32
  signed-small i f x less has = grind (arith, word-fits, pow-le-pow_right, signed-fits)

  signed-low : (i : ℕ) (f : Form) (x : ℕ) → i < N → 2 ^ 32 % 256 ^ (queues i).index_width ≡ 0 → Has queues xs (signed_for i f) x
      → x % 256 ^ (queues i).index_width ≡ index_word (queues i) (form_value f xs)
  signed-low i f x less divides has = grind (arith, signed-rest, mod_self, mod-eq_of_lt, word-fits)

  storable-has : (n x : ℕ) (u : KnownValue) → Has queues xs u x → (Has queues xs u x → x < 2 ^ 32 → n ≡ x) → Has queues xs (storable N u) n
  storable-has n x any has is = tt
  storable-has n x (ends_as b f) has is = tt
  storable-has n x (has_bits l b) has is = subst (Has queues xs (has_bits l b)) (sym (is has has.0)) has
  storable-has n x (linear f) has is = is has (subst (λ y. y < 2 ^ 32) (sym has) (mod-lt (form_value f xs) (omega arith))) ∙ has
  storable-has n x (index_for i f) has is = by (nat_lt i N) refl
    where
      by : (t : Bool) → nat_lt i N ≡ t → Has queues xs (if t then index_for i f else any) n
      by false other = tt
      by true listed =
          let less : i < N = ltb-true i N listed in
          let small : index_word (queues i) (form_value f xs) < 256 ^ (queues i).index_width = word-fits (queues i) (fine i less).0 (form_value f xs) in
          let four : 256 ^ (queues i).index_width ≤ 2 ^ 32 = pow-le-pow_right {n = 256} (omega arith) {i = (queues i).index_width} {j = 4} (fine i less).2 in
          is has (omega (arith, has, small, four)) ∙ has
  storable-has n x (signed_for i f) has is = by (nat_lt i N) refl
    where
      by : (t : Bool) → nat_lt i N ≡ t → Has queues xs (if t then signed_for i f else any) n
      by false other = tt
      by true listed = is has (signed-small i f x (ltb-true i N listed) has) ∙ has

  -- the lowest bytes, and what a store leaves of a number
  low-form : (n : ℕ) (f : Form) (x : ℕ) → 1 ≤ n → n ≤ 2 ^ 32 → x ≡ form_value f xs % n
      → (g : Option Form) → remainder_word k.ranges f n ≡ g → (i : Option ℕ) → counting queues N n ≡ i → Has queues xs (low_form queues n f g i) x
  low-form n f x some small is (Some g) word i at = is ∙ value-word k.ranges f n g xs means.ranges small word
  low-form n f x some small is None word None at = tt
  low-form n f x some small is None word (Some i) at = counted-has queues xs N n f x i some is at

  low-has : (bits width x : ℕ) (u : KnownValue) → 2 ^ bits ≡ 256 ^ width → 2 ^ 32 % 256 ^ width ≡ 0 → Has queues xs u x
      → Has queues xs (low_bytes queues N k.ranges width u) (x % 256 ^ width)
  low-has bits width x any all divides has = tt
  low-has bits width x (signed_for i f) all divides has = by (nat_lt i N && ((queues i).index_width == width)) refl
    where
      by : (t : Bool) → (nat_lt i N && ((queues i).index_width == width)) ≡ t → Has queues xs (if t then index_for i f else any) (x % 256 ^ width)
      by false other = tt
      by true ok =
          let parts = and_parts (nat_lt i N) ((queues i).index_width == width) ok in
          let same : (queues i).index_width ≡ width = eqb-true (queues i).index_width width parts.1 in
          ap (λ n. x % 256 ^ n) (sym same)
          ∙ signed-low i f x (ltb-true i N parts.0) (ap (λ n. 2 ^ 32 % 256 ^ n) same ∙ divides) has
  low-has bits width x (ends_as n f) all divides has = tt
  low-has bits width x (linear f) all divides has =
      low-form (256 ^ width) f (x % 256 ^ width) (subst (λ n. 1 ≤ n) all (pow_pos bits)) (divisor-below (256 ^ width) divides)
      (ap (λ y. y % 256 ^ width) has ∙ mod-mod_of_dvd (256 ^ width) (form_value f xs) (dvd_of_mod-eq-zero (256 ^ width) divides))
      (remainder_word k.ranges f (256 ^ width)) refl (counting queues N (256 ^ width)) refl
  low-has bits width x (index_for i f) all divides has = by (nat_lt i N && nat_le (queues i).index_width width) refl
    where
      by : (t : Bool) → (nat_lt i N && nat_le (queues i).index_width width) ≡ t
          → Has queues xs (if t then index_for i f else any) (x % 256 ^ width)
      by false other = tt
      by true ok =
          let parts = and_parts (nat_lt i N) (nat_le (queues i).index_width width) ok in
          let small : index_word (queues i) (form_value f xs) < 256 ^ (queues i).index_width =
          word-fits (queues i) (fine i (ltb-true i N parts.0)).0 (form_value f xs) in
          let fits : 256 ^ (queues i).index_width ≤ 256 ^ width =
          pow-le-pow_right {n = 256} (omega arith) {i = (queues i).index_width} {j = width} (leb-true (queues i).index_width width parts.1) in
          mod-eq_of_lt (omega (arith, has, small, fits)) ∙ has
  low-has bits width x (has_bits l b) all divides has =
      subst (Has queues xs (low_bytes queues N k.ranges width (has_bits l b)))
      (ap (λ n. bit_and x (n - 1)) (sym all) ∙ and_mask x bits ∙ ap (λ n. x % n) all)
      (kept-has queues xs l b x (256 ^ width - 1) has)

  stored-has : (op : StoreOp) (x : ℕ) (u : KnownValue) → Has queues xs u x
      → Has queues xs (stored_value queues N k.ranges (store_width op) u) (x % 256 ^ store_width op)
  stored-has store_op.Byte x u has = low-has 8 1 x (plain queues k.ranges u) refl refl (has-plain queues k.ranges xs means.ranges u x has)
  stored-has store_op.Half x u has = low-has 16 2 x (plain queues k.ranges u) refl refl (has-plain queues k.ranges xs means.ranges u x has)
  stored-has store_op.Word x u has = storable-has (x % 2 ^ 32) x u has (λ has small. mod-eq_of_lt small)

  immediate-result : (op : ImmediateOp) (v : KnownValue) (x : ℕ) (n : ℤ) → Has queues xs v x
      → Gives queues xs (immediate_result queues N k op v n) (with_immediate op x n)
  immediate-result op v x n has = by (is_copy op n) refl
    where
      by : (t : Bool) → is_copy op n ≡ t
          → Gives queues xs (if t then just (storable N v) else of_immediate queues N k.ranges op v n) (with_immediate op x n)
      by false other = immediate-gives queues xs k.ranges means.ranges N op v x n has
      by true copy = just-gives queues xs (storable N v) (with_immediate op x n)
          (storable-has (with_immediate op x n) x v has (λ has small. copied op n copy x small))

  -- ---- loads and stores: where they point, and that the hart stops where it may not

  pub address-has : (r : Reg) (offset : ℤ) → Has queues xs (address_value queues k r offset) (address (register_value s.registers r) offset)
  address-has r offset =
      subst (Has queues xs (sum_of (operand queues k r) (linear (number (word offset)))))
      (sym (word-of-sum (register_value s.registers r) offset))
      (sum-has queues xs (operand queues k r) (linear (number (word offset)))
      (register_value s.registers r) (word offset) (operand-has r)
      (word-has queues xs k.ranges means.ranges offset))

  pub points : (r : Reg) (offset : ℤ) → ((addresses queues k r offset).low ≤ address (register_value s.registers r) offset)
      × (address (register_value s.registers r) offset ≤ (addresses queues k r offset).high)
  points r offset = by (bounds k.ranges (address_value queues k r offset)) refl
    where
      small : address (register_value s.registers r) offset < 2 ^ 32
      small = word-small (pos (register_value s.registers r) +ℤ offset)

      by : (b : Option Bounds) → bounds k.ranges (address_value queues k r offset) ≡ b
          → ((anywhere b).low ≤ address (register_value s.registers r) offset) × (address (register_value s.registers r) offset ≤ (anywhere b).high)
      by None is = (omega arith, omega (arith, small))
      by (Some b) is = has-bounds queues k.ranges xs (address_value queues k r offset)
          (address (register_value s.registers r) offset) b means.ranges is (address-has r offset)

  access-goes : (ks : List KnownState) (width a : ℕ) (n : Need) → need_of s ≡ access_need s.words width a n
      → (need_of s ≡ n → Goes queues N own_of h owns xs ks m cs (access_of e) (advanced s v))
      → Goes queues N own_of h owns xs ks m cs (access_of e) (advanced s v)
  access-goes ks width a n needs goes = by (a % width == 0) needs
    where
      inside : (t : Bool) → need_of s ≡ (if t then n else need.Stop stop.OutOfRange) → Goes queues N own_of h owns xs ks m cs (access_of e) (advanced s v)
      inside true needs = goes needs
      inside false needs = stop-goes ks stop.OutOfRange needs

      by : (t : Bool) → need_of s ≡ (if t then (if nat_lt a (4 * s.words) then n else need.Stop stop.OutOfRange) else need.Stop stop.Misaligned)
          → Goes queues N own_of h owns xs ks m cs (access_of e) (advanced s v)
      by true needs = inside (nat_lt a (4 * s.words)) needs
      by false needs = stop-goes ks stop.Misaligned needs

  one-place : (b : Bounds) (a : ℕ) → is_one b ≡ true → b.low ≤ a → a ≤ b.high → a ≡ b.low
  one-place b a one low high = let same : b.low ≡ b.high = eqb-true b.low b.high one in omega (arith, same, low, high)

  -- ---- loads

  index-below : (ys : List ℕ) (limit : ℕ) (w : KnownValue) (x : ℕ) → is_index_below queues limit w ≡ true → Has queues ys w x → x < limit
  index-below ys limit (index_for i f) x ok has = grind (arith, and_parts, leb-true, mod-lt, mul-le, ltb-true)
  index-below ys limit other x ok has = absurd (cc)

  signed-has : (ys : List ℕ) (width : ℕ) (w : KnownValue) (x : ℕ) → Has queues ys w x
      → Has queues ys (signed_value queues width w) (signed_word width x)
  signed-has ys width (index_for i f) x has = by ((queues i).index_width == width) refl
    where
      by : (t : Bool) → ((queues i).index_width == width) ≡ t → Has queues ys (if t then signed_for i f else any) (signed_word width x)
      by false other = tt
      by true same = ap (signed_word width) has
          ∙ ap (λ n. signed_word n (index_word (queues i) (form_value f ys))) (sym (eqb-true (queues i).index_width width same))
  signed-has ys width other x has = tt

  sign-kept : (ys : List ℕ) (bits width : ℕ) (w : KnownValue) (x : ℕ) → 2 ^ (bits - 1) + 2 ^ (bits - 1) ≡ 256 ^ width → 2 ^ bits ≡ 256 ^ width
      → 256 ^ width ≤ 2 ^ 32 → x < 256 ^ width → Has queues ys w x
      → Has queues ys (if is_index_below queues (2 ^ (bits - 1)) w then w else signed_value queues width w) (sign_extended bits x)
  sign-kept ys bits width w x half all small low has = by (is_index_below queues (2 ^ (bits - 1)) w) refl
    where
      by : (t : Bool) → is_index_below queues (2 ^ (bits - 1)) w ≡ t
          → Has queues ys (if t then w else signed_value queues width w) (sign_extended bits x)
      by false other = subst (Has queues ys (signed_value queues width w)) (sym (signed-of-bits bits width x half all small low))
          (signed-has ys width w x has)
      by true low = subst (Has queues ys w) (sym (sign-low bits x (index-below ys (2 ^ (bits - 1)) w x low has))) has

  extended-has : (ys : List ℕ) (op : LoadOp) (w : KnownValue) (x : ℕ) → x < 256 ^ load_width op → Has queues ys w x
      → Has queues ys (extended_value queues op w) (extended op x)
  extended-has ys load_op.Byte w x low has = sign-kept ys 8 1 w x refl refl (omega arith) low has
  extended-has ys load_op.Half w x low has = sign-kept ys 16 2 w x refl refl (omega arith) low has
  extended-has ys other w x low has = has

  form-low : (f : Form) (x n : ℕ) → fits_in (most k.ranges f) (Some n) ≡ true → Has queues xs (linear f) x → x < n + 1
  form-low f x n ok has =
      let low : form_value f xs ≤ n = fits-below (most k.ranges f) (Some n) (form_value f xs) ok (λ y is. value-below k.ranges f xs y means.ranges is) in
      let less : form_value f xs % 2 ^ 32 ≤ form_value f xs = mod-le (form_value f xs) (2 ^ 32) in omega (arith, has, low, less)

  pub value-loaded : (b : Bounds) (width a x : ℕ) → b.low ≤ a → a ≤ b.high → x ≡ number_seen m a width
      → Has queues xs (value_loaded queues N own_of h k b width) x
  value-loaded b width a x low high read = index (last_below N (is_own_index queues h b width)) refl
    where
      word-loaded : (j : Option ℕ) → last_below (length (own_of h)) (is_own_word own_of h b width) ≡ j
          → Has queues xs (word_loaded k j) x
      word-loaded None is = tt
      word-loaded (Some j) is =
          let f = found-below (length (own_of h)) (is_own_word own_of h b width) j is in
          let own : OwnWord = own_at (own_of h) j in
          let parts = and_parts (is_one b && (b.low == own.at)) (width == own.width) f.1 in
          let front = and_parts (is_one b) (b.low == own.at) parts.0 in
          let place : a ≡ own.at = one-place b a front.0 low high ∙ eqb-true b.low own.at front.1 in
          let wide : width ≡ own.width = eqb-true width own.width parts.1 in
          subst (Has queues xs (get_or k.words j any)) (sym (read ∙ ap (number_seen m a) wide ∙ ap (λ z. number_seen m z own.width) place)) (means.words j f.0)

      index : (i : Option ℕ) → last_below N (is_own_index queues h b width) ≡ i
          → Has queues xs (index_loaded k i (word_loaded k
          (last_below (length (own_of h)) (is_own_word own_of h b width)))) x
      index None is = word-loaded (last_below (length (own_of h)) (is_own_word own_of h b width)) refl
      index (Some i) is =
          let f = found-below N (is_own_index queues h b width) i is in
          let parts = and_parts (is_one b) (is_whole (queues i) (party_of (queues i) h) (λ p. p) b.low width) f.1 in
          let w = whole-index (queues i) (party_of (queues i) h) (λ p. p) b.low width parts.1 in
          let mine : h ≡ hart (queues i) w.party = party-hart (queues i) (fine i f.0).0 h w.party w.is in
          let sees = acts.sees i f.0 w.party mine in
          read ∙ ap (number_seen m a) w.whole ∙ ap (λ z. number_seen m z ((queues i).index_width)) (one-place b a parts.0 low high ∙ w.place) ∙ sees.own
          ∙ ap (index_word (queues i)) (means.shares i f.0 w.party mine).own

  value-kept : (op : LoadOp) (w : KnownValue) (x : ℕ) → keeps_value k.ranges op w ≡ true → Has queues xs w x → extended op x ≡ x
  value-kept load_op.Byte (linear f) x ok has = sign-low 8 x (form-low f x (2 ^ 7 - 1) ok has)
  value-kept load_op.Half (linear f) x ok has = sign-low 16 x (form-low f x (2 ^ 15 - 1) ok has)
  value-kept op w x ok has = absurd (cc)

  loaded-gives : (op : LoadOp) (w : KnownValue) (x : ℕ) → x < 256 ^ load_width op → Has queues xs w x
      → Gives queues xs (loaded queues k.ranges op w) (extended op x)
  loaded-gives op w x low has = or-up-to-gives queues xs (most_loaded op) (extended op x)
      (if keeps_value k.ranges op w then w else extended_value queues op w) (extended-most op x low) (by (keeps_value k.ranges op w) refl)
    where
      by : (t : Bool) → keeps_value k.ranges op w ≡ t → Has queues xs (if t then w else extended_value queues op w) (extended op x)
      by true keeps = subst (Has queues xs w) (sym (value-kept op w x keeps has)) has
      by false other = extended-has xs op w x low has

  load-keeps : (q : Queue) (t : Option Party) (c : QueueCounts) (a width x : ℕ) → KeepsAccess q t c (load a width x)
  load-keeps q None c a width x = tt
  load-keeps q (Some p) c a width x = tt

  pub read-small : (op : LoadOp) (a : ℕ) → v ≡ number_seen m a (load_width op) → v < 256 ^ load_width op
  read-small op a read =
      subst (λ n. n < 256 ^ load_width op) (sym read) (joined-below (λ i. m (a + i)) (λ i. acts.bytes (a + i)) (load_width op))

  -- a load that is no look leaves in its register what is known of what it reads
  pub load-gives : (op : LoadOp) (rd : Reg) (a : ℕ) (b : Bounds) (z : HartState) → b.low ≤ a → a ≤ b.high
      → may_load queues N h k b (load_width op) None ≡ true → (r : Result) → Gives queues xs r (extended op v)
      → z.pc ≡ next_pc k.pc → z.registers ≡ written_at s.registers rd.number (extended op v)
      → IsNext queues N own_of h xs (with_result k rd.number (next_pc k.pc) r) z m
      (λ i. after_access (queues i) (party_of (queues i) h) (load a (load_width op) v) (cs i))
  load-gives op rd a b z low high ok r g at regs = (
    g.0,
    means-frame queues N (own_of h) h (g.0 ∷ xs) (with_result k rd.number (next_pc k.pc) r) z m m cs
        (λ i. after_access (queues i) (party_of (queues i) h) (load a (load_width op) v) (cs i))
        (means-result queues N (own_of h) h xs k s z m cs rd.number (next_pc k.pc) (extended op v) r
        means (omega (arith, size, rd.below_32)) g.0 g.1 g.2 at regs) (λ j x less from to. refl)
        (λ i less.
        same-then (queues i) h (cs i) (missed (queues i) (party_of (queues i) h) b a (load_width op) v (cs i)
        (at-below N (λ i. misses (queues i) (party_of (queues i) h) b (load_width op)) ok i less) low high)),
  )
    where
      same-then : (q : Queue) (h : ℕ) (c : QueueCounts) {d : QueueCounts} → d ≡ c → IsSameFor q h c d
      same-then q h c same = record { count = λ p is. ap (count p) same; known = λ p is. ap (known_of p) same }

  load-known : (op : LoadOp) (rd : Reg) (a : ℕ) (b : Bounds) (look : Option ℕ) (z : HartState) → b.low ≤ a → a ≤ b.high → v ≡ number_seen m a (load_width op)
      → last_below N (is_look queues h b (load_width op)) ≡ look → may_load queues N h k b (load_width op) look ≡ true
      → z.pc ≡ next_pc k.pc → z.registers ≡ written_at s.registers rd.number (extended op v)
      → IsNext queues N own_of h xs (after_load queues N own_of h k op rd.number b look) z m
      (λ i. after_access (queues i) (party_of (queues i) h) (load a (load_width op) v) (cs i))
  load-known op rd a b None z low high read is ok at regs =
      load-gives op rd a b z low high ok (loaded queues k.ranges op (value_loaded queues N own_of h k b (load_width op)))
      (loaded-gives op (value_loaded queues N own_of h k b (load_width op)) v (read-small op a read) (value-loaded b (load_width op) a v low high read))
      at regs
  load-known op rd a b (Some i) z low high read is ok at regs = (
    l.more,
    record {
      ranges = (l.low, means.ranges);
      pc = at;
      registers =
          λ j. subst (λ zs. Has queues (l.more ∷ xs) (get_or (with_register (map (value_by lifted) k.registers) rd.number
          (extended_value queues op (looked_word queues h i share))) j any) (slice_index zs j))
          (sym regs) (written-has queues N (own_of h) h (l.more ∷ xs) (map (value_by lifted) k.registers) s.registers rd.number (extended op v)
          (extended_value queues op (looked_word queues h i share)) lifted-means.registers
          (omega (arith, size, rd.below_32)) word-has-looked j);
      words = lifted-means.words;
      shares = λ n less p mine. by n less p mine (cases_eq n i);
    },
  )
    where
      q : Queue
      q = queues i

      share : Share
      share = get_or k.shares i no_share

      f : (i < N) × (is_look queues h b (load_width op) i ≡ true)
      f = found-below N (is_look queues h b (load_width op)) i is

      parts : (is_one b ≡ true) × (is_whole (queues i) (party_of (queues i) h) other b.low (load_width op) ≡ true)
      parts = and_parts (is_one b) (is_whole (queues i) (party_of (queues i) h) other b.low (load_width op)) f.1

      w : IsWholeIndex (queues i) (party_of (queues i) h) other b.low (load_width op)
      w = whole-index (queues i) (party_of (queues i) h) other b.low (load_width op) parts.1

      mine : h ≡ hart (queues i) w.party
      mine = party-hart (queues i) (fine i f.0).0 h w.party w.is

      place : a ≡ index (queues i) (other w.party)
      place = one-place b a parts.0 low high ∙ w.place

      l : Looked (queues i) w.party (cs i)
          (after_load_of (queues i) w.party (index (queues i) (other w.party)) ((queues i).index_width) v (cs i)) xs
          (get_or k.shares i no_share) v
      l = looks (queues i) (fine i f.0).0 (fine i f.0).1 w.party (cs i) xs (get_or k.shares i no_share)
          (means.shares i f.0 w.party mine) m (acts.sees i f.0 w.party mine) v
          (read ∙ ap (number_seen m a) w.whole ∙ ap (λ x. number_seen m x ((queues i).index_width)) place)

      lifted-means : MeansAt queues N (own_of h) h (l.more ∷ xs)
          (state_by lifted (Some ((queues i).capacity - (get_or k.shares i no_share).owned.constant) ∷ k.ranges) k) s m
          cs
      lifted-means = means-lifted queues N (own_of h) h ((queues i).capacity - (get_or k.shares i no_share).owned.constant) l.more l.low xs k s m cs means

      word-has-looked : Has queues (l.more ∷ xs)
          (extended_value queues op (looked_word queues h i (get_or k.shares i no_share)))
          (extended op v)
      word-has-looked = extended-has (l.more ∷ xs) op (looked_word queues h i (get_or k.shares i no_share)) v
          (subst (λ n. n < 256 ^ load_width op) (sym read) (joined-below (λ i. m (a + i)) (λ i. acts.bytes (a + i)) (load_width op)))
          (subst (λ t. v ≡ index_word (queues i) (form_value
          (plus (plus (lifted (get_or k.shares i no_share).own) (owned_then (get_or k.shares i no_share)))
          (number (back_of (queues i) t))) (l.more ∷ xs)))
          (sym w.is) l.word)

      after-here : after_access (queues i) (party_of (queues i) h) (load a (load_width op) v) (cs i)
          ≡ after_load_of (queues i) w.party (index (queues i) (other w.party)) ((queues i).index_width) v (cs i)
      after-here = ap (λ t. after_access (queues i) t (load a (load_width op) v) (cs i)) w.is
          ∙ ap (λ x. after_load_of (queues i) w.party x (load_width op) v (cs i)) place
          ∙ ap (λ x. after_load_of (queues i) w.party (index (queues i) (other w.party)) x v (cs i)) w.whole

      may : (n : ℕ) → n < N → (is_just (Some i) n && nat_lt n (length k.shares) || misses (queues n) (party_of (queues n) h) b (load_width op)) ≡ true
      may n less = at-below N (λ n. is_just (Some i) n && nat_lt n (length k.shares) || misses (queues n) (party_of (queues n) h) b (load_width op)) ok n less

      listed : i < length k.shares
      listed = elim (or_cases (is_just (Some i) i && nat_lt i (length k.shares)) (misses (queues i) (party_of (queues i) h) b (load_width op)) (may i f.0)) [
        | inl both ↦ ltb-true i (length k.shares) (and_parts (i == i) (nat_lt i (length k.shares)) both).1
        | inr off ↦ absurd (hits (queues i) w.party b (load_width op)
            (subst (λ t. misses (queues i) t b (load_width op) ≡ true) w.is off) w.place w.whole
            (eqb-true b.low b.high parts.0))
      ]

      by : (n : ℕ) → n < N → (p : Party) → h ≡ hart (queues n) p → (n ≡ i) ⊎ (n ≢ i)
          → HasShare (queues n) p (after_access (queues n) (party_of (queues n) h) (load a (load_width op) v) (cs n)) (l.more ∷ xs)
          (get_or (set (map (share_by lifted) k.shares) i (looked_share (get_or k.shares i no_share))) n no_share)
      by n less p at (inl same) = subst (λ n. h ≡ hart (queues n) p
          → HasShare (queues n) p (after_access (queues n) (party_of (queues n) h) (load a (load_width op) v) (cs n))
          (l.more ∷ xs)
          (get_or (set (map (share_by lifted) k.shares) i (looked_share (get_or k.shares i no_share))) n no_share)) (sym same)
          (λ at. subst (HasShare (queues i) p (after_access (queues i) (party_of (queues i) h) (load a (load_width op) v) (cs i)) (l.more ∷ xs))
          (sym
          (get_or-set_same (map (share_by lifted) k.shares) i (looked_share (get_or k.shares i no_share)) no_share
          (subst (λ n. i < n) (sym (length-map k.shares (share_by lifted))) listed)))
          (subst (λ c. HasShare (queues i) p c (l.more ∷ xs) (looked_share (get_or k.shares i no_share))) (sym after-here)
          (subst (λ t. HasShare (queues i) t (after_load_of (queues i) w.party (index (queues i) (other w.party))
          ((queues i).index_width) v (cs i)) (l.more ∷ xs)
          (looked_share (get_or k.shares i no_share)))
          (same-party (queues i) (fine i f.0).0 h w.party p mine at) l.share))) at
      by n less p at (inr far) = subst (HasShare (queues n) p (after_access (queues n) (party_of (queues n) h) (load a (load_width op) v) (cs n)) (l.more ∷ xs))
          (sym (get_or-set_other (map (share_by lifted) k.shares) i n (looked_share (get_or k.shares i no_share)) no_share far))
          (subst (λ c. HasShare (queues n) p c (l.more ∷ xs) (get_or (map (share_by lifted) k.shares) n no_share))
          (sym (missed (queues n) (party_of (queues n) h) b a (load_width op) v (cs n) (elsewhere n less far) low high)) (lifted-means.shares n less p at))
        where
          elsewhere : (n : ℕ) → n < N → n ≢ i → misses (queues n) (party_of (queues n) h) b (load_width op) ≡ true
          elsewhere n less far = grind (arith, or_cases, may, eqb-true, and_parts)

  said-at : (i : Instr) → IsAt s i → instruction_at s.code s.pc ≡ Some i
  said-at i here = ap (λ t. if t then meaning (slice_index s.code (s.pc / 4)) else None) (lt-ltb s.pc (4 * length s.code) here.inside) ∙ here.says

  reads-owns : (place : KnownValue) (b : Bounds) (width a : ℕ) → Has queues xs place a → b.low ≤ a → a ≤ b.high
      → (i : ℕ) (less : i < N) → reads_owned queues k i place b width ≡ true
      → (p : Party) (mine : h ≡ hart (queues i) p) → OwnsSlotsOf (queues i) p (cs i) a width
  reads-owns place b width a at low high i less ok p mine =
      elim (or_cases (is_apart b width (queues i).slots ((queues i).size * (queues i).width))
      (is_owned k.ranges (queues i) (get_or k.shares i no_share) place width) ok) [
        | inl off ↦ off-slots (queues i) p (cs i) b width a off low high
        | inr owned ↦ owned-slots (queues i) (fine i less).0 p (cs i) xs (get_or k.shares i no_share)
            (means.shares i less p mine) queues k.ranges means.ranges place a width at owned
      ]

  load-owns : (op : LoadOp) (rd rs1 : Reg) (offset : ℤ) → IsAt s (Load op rd rs1 offset) → (i : ℕ) (less : i < N)
      → owns i ≡ true → (p : Party) (mine : h ≡ hart (queues i) p)
      → OwnsSlotsOf (queues i) p (cs i) (address (register_value s.registers rs1) offset) (load_width op)
  load-owns op rd rs1 offset here i less ok p mine = let at = points rs1 offset in
      reads-owns (address_value queues k rs1 offset) (addresses queues k rs1 offset)
      (load_width op) (address (register_value s.registers rs1) offset) (address-has rs1 offset) at.0 at.1 i less
      (subst (λ t. loads_owned queues k i t ≡ true) (said-at (Load op rd rs1 offset) here) ok) p mine

  -- it goes on to a state that says what is so after it
  pub load-leads : (op : LoadOp) (rd rs1 : Reg) (offset : ℤ) (t : KnownState) → IsAt s (Load op rd rs1 offset)
      → ((z : HartState) → v ≡ number_seen m (address (register_value s.registers rs1) offset) (load_width op) → z.pc ≡ next_pc k.pc
      → z.registers ≡ written_at s.registers rd.number (extended op v) → IsNext queues N own_of h xs t z m
      (λ i. after_access (queues i) (party_of (queues i) h) (load (address (register_value s.registers rs1) offset) (load_width op) v) (cs i)))
      → Goes queues N own_of h owns xs (t ∷ []) m cs (access_of e) (advanced s v)
  load-leads op rd rs1 offset t here known = access-goes (t ∷ []) (load_width op) (address (register_value s.registers rs1) offset)
      (need.Load (address (register_value s.registers rs1) offset) (load_width op)) (need_at here) (λ needs.
      (let access : access_of e ≡ load (address (register_value s.registers rs1) offset) (load_width op) v =
      access-is (need.Load (address (register_value s.registers rs1) offset) (load_width op)) needs in
      subst (λ y. Goes queues N own_of h owns xs (t ∷ []) m cs y (advanced s v)) (sym access)
      (subst (λ z. Goes queues N own_of h owns xs (t ∷ []) m cs (load (address (register_value s.registers rs1) offset) (load_width op) v) z)
      (sym (after-at here (need.Load (address (register_value s.registers rs1) offset) (load_width op)) needs tt v)) (record {
        next = λ runs. inl (known (after_instruction s v (Load op rd rs1 offset)) (subst (ReadsFrom m) access acts.reads) (ap next_pc means.pc) refl);
        keeps = λ i less. load-keeps (queues i) (party_of (queues i) h) (cs i) (address (register_value s.registers rs1) offset) (load_width op) v;
        apart = λ g x far j less from to. tt;
        loads = λ i less ok p mine. load-owns op rd rs1 offset here i less ok p mine;
      }))))

  load-goes : (op : LoadOp) (rd rs1 : Reg) (offset : ℤ) (ks : List KnownState) → IsAt s (Load op rd rs1 offset)
      → loading queues N own_of h k op rd.number (addresses queues k rs1 offset) ≡ Some ks
      → Goes queues N own_of h owns xs ks m cs (access_of e) (advanced s v)
  load-goes op rd rs1 offset ks here found = by (last_below N (is_look queues h (addresses queues k rs1 offset) (load_width op))) refl
      (may_load queues N h k (addresses queues k rs1 offset) (load_width op) _) refl found
    where
      by : (look : Option ℕ) → last_below N (is_look queues h (addresses queues k rs1 offset) (load_width op)) ≡ look
          → (t : Bool) → may_load queues N h k (addresses queues k rs1 offset) (load_width op) look ≡ t
          → (if t then Some (after_load queues N own_of h k op rd.number (addresses queues k rs1 offset) look ∷ []) else None) ≡ Some ks
          → Goes queues N own_of h owns xs ks m cs (access_of e) (advanced s v)
      by look is false ok found = absurd (cc)
      by look is true ok found = subst (λ ts. Goes queues N own_of h owns xs ts m cs (access_of e) (advanced s v))
          (let e : after_load queues N own_of h k op rd.number (addresses queues k rs1 offset) look ∷ [] ≡ ks = cc in e)
          (load-leads op rd rs1 offset (after_load queues N own_of h k op rd.number (addresses queues k rs1 offset) look) here
          (λ z read at regs. (let p = points rs1 offset in
          load-known op rd (address (register_value s.registers rs1) offset) (addresses queues k rs1 offset) look z p.0 p.1 read is ok at regs)))

  -- ---- stores

  pub set-share : (ss : List Share) (d : Form) (i : ℕ) → i < length ss
      → get_or (shares_moved ss d (Some i)) i no_share ≡ moved_share (get_or ss i no_share) d
  set-share ss d i less = get_or-set_same ss i (moved_share (get_or ss i no_share) d) no_share less

  pub left-share : (ss : List Share) (d : Form) (move : Option ℕ) (i : ℕ) → is_just move i ≡ false
      → get_or (shares_moved ss d move) i no_share ≡ get_or ss i no_share
  left-share ss d None i not = refl
  left-share ss d (Some n) i not = get_or-set_other ss n i (moved_share (get_or ss n no_share) d) no_share (λ same. eqb-false n i not (sym same))

  module _ (d : Form) (op : StoreOp) (a x : ℕ) (vx place : KnownValue) (b : Bounds) (move : Option ℕ)
      (at-place : Has queues xs place a) (low : b.low ≤ a) (high : a ≤ b.high) (has-x : Has queues xs vx x)
      (found : last_below N (is_own_index queues h b (store_width op)) ≡ move)
      (may : all_below N (may_store queues h k d vx place b (store_width op) move) ≡ true)
      (leaves : all_below H (leaves_words own_of h b (store_width op)) ≡ true)
      (past : (g : ℕ) → H ≤ g → length (own_of g) ≡ 0) where
    abbrev w : Write
    w = write a (store_width op) (stored op x)

    pub moved-here : (i : ℕ) → is_just move i ≡ true → (p : Party) → h ≡ hart (queues i) p → i < N
        → (b.low ≡ b.high) × (a ≡ index (queues i) p) × (store_width op ≡ (queues i).index_width)
    moved-here i just p mine less =
        let f = found-below N (is_own_index queues h b (store_width op)) i (found ∙ just-is move i just) in
        let parts = and_parts (is_one b) (is_whole (queues i) (party_of (queues i) h) (λ p. p) b.low (store_width op)) f.1 in
        let w = whole-index (queues i) (party_of (queues i) h) (λ p. p) b.low (store_width op) parts.1 in (
          eqb-true b.low b.high parts.0,
          one-place b a parts.0 low high ∙ w.place ∙ ap (index (queues i))
              (same-party (queues i) (fine i less).0 h w.party p (party-hart (queues i) (fine i less).0 h w.party w.is)
              mine),
          w.whole,
        )

    -- the word that a move stores, also where its number is cut to the index's bytes
    moved-word : (i : ℕ) → i < N → (f : Form) → store_width op ≡ (queues i).index_width
        → (is_within queues k.ranges (without_sign i vx) (index_for i f) || is_cut (queues i) vx f) ≡ true
        → stored op x ≡ index_word (queues i) (form_value f xs)
    moved-word i less f width ok = elim (or_cases (is_within queues k.ranges (without_sign i vx) (index_for i f)) (is_cut (queues i) vx f) ok) [
      | inl word ↦ unsigned vx has-x word
      | inr low ↦ cut vx has-x low
    ]
      where
        whole : (u : KnownValue) → Has queues xs u x → is_within queues k.ranges u (index_for i f) ≡ true
            → stored op x ≡ index_word (queues i) (form_value f xs)
        whole u has ok =
            let word : x ≡ index_word (queues i) (form_value f xs) = within queues k.ranges xs means.ranges u (index_for i f) x ok has in
            let small : x < 256 ^ (queues i).index_width = subst (λ n. n < 256 ^ (queues i).index_width) (sym word)
            (word-fits (queues i) (fine i less).0 (form_value f xs)) in
            stored-whole op x (subst (λ n. x < 256 ^ n) (sym width) small) ∙ word

        unsigned : (u : KnownValue) → Has queues xs u x → is_within queues k.ranges (without_sign i u) (index_for i f) ≡ true
            → stored op x ≡ index_word (queues i) (form_value f xs)
        unsigned (signed_for j g) has ok = by (i == j) refl ok
          where
            by : (t : Bool) → (i == j) ≡ t → is_within queues k.ranges (if t then index_for j g else signed_for j g) (index_for i f) ≡ true
                → stored op x ≡ index_word (queues i) (form_value f xs)
            by false other ok = whole (signed_for j g) has ok
            by true same ok =
                let place : j ≡ i = sym (eqb-true i j same) in
                let own : Has queues xs (signed_for i g) x = subst (λ n. Has queues xs (signed_for n g) x) place has in
                stored-low op x x (sym (mod-eq_of_lt (signed-small i g x less own)))
                ∙ ap (λ n. x % 256 ^ n) width
                ∙ signed-low i g x less (ap (λ n. 2 ^ 32 % 256 ^ n) (sym width) ∙ width-divides op) own
                ∙ within queues k.ranges xs means.ranges (index_for i g) (index_for i f) (index_word (queues i) (form_value g xs))
                (subst (λ n. is_within queues k.ranges (index_for n g) (index_for i f) ≡ true) place ok) refl
        unsigned u has ok = whole u has ok

        cut : (u : KnownValue) → Has queues xs u x → is_cut (queues i) u f ≡ true → stored op x ≡ index_word (queues i) (form_value f xs)
        cut (linear g) has low =
            let p2 = and_parts (((queues i).scale * (queues i).modulus == 256 ^ (queues i).index_width) && nat_lt (queues i).base (queues i).scale)
            (is_same (256 ^ (queues i).index_width) g (scaled (queues i) (plus f (number (queues i).offset)))) low in
            let p1 = and_parts ((queues i).scale * (queues i).modulus == 256 ^ (queues i).index_width) (nat_lt (queues i).base (queues i).scale) p2.0 in
            stored-low op x (form_value g xs) has ∙ ap (λ n. form_value g xs % 256 ^ n) width
            ∙ same-value (256 ^ (queues i).index_width) g (scaled (queues i) (plus f (number (queues i).offset))) xs p2.1
            ∙ sym (word-linear (256 ^ (queues i).index_width) (queues i) f xs
            (pow-le-pow_right {n = 256} (omega arith) {i = 0} {j = (queues i).index_width} (omega arith))
            (eqb-true ((queues i).scale * (queues i).modulus) (256 ^ (queues i).index_width) p1.0) (ltb-true (queues i).base (queues i).scale p1.1))
        cut other has low = absurd (cc)

    pub party-store : (i : ℕ) (less : i < N) (p : Party) (mine : h ≡ hart (queues i) p)
        → Stored (queues i) (fine i less).0 p (cs i) xs (get_or k.shares i no_share) (means.shares i less p mine) w
        (get_or (shares_moved k.shares d move) i no_share)
    party-store i less p mine = by (is_just move i) refl (at-below N (may_store queues h k d vx place b (store_width op) move) may i less)
      where
        by : (t : Bool) → is_just move i ≡ t
            → (if t then may_move queues k d vx i (get_or k.shares i no_share) else
            (is_off (queues i) b (store_width op) || may_fill queues k (party_of (queues i) h) place
            (store_width op) i)) ≡ true
            → Stored (queues i) (fine i less).0 p (cs i) xs (get_or k.shares i no_share)
            (means.shares i less p mine) w (get_or (shares_moved k.shares d move) i no_share)
        by true just ok =
            let here = moved-here i just p mine less in
            let p1 = and_parts
            ((is_within queues k.ranges (without_sign i vx) (index_for i (plus (get_or k.shares i no_share).own d))
            || is_cut (queues i) vx (plus (get_or k.shares i no_share).own d)) && is_same 0
            (plus d (minus (get_or k.shares i no_share).owned d)) (get_or k.shares i no_share).owned
            && fits_in (most k.ranges d) (Some ((queues i).modulus - 1))) (nat_lt i (length k.shares)) ok in
            let p2 = and_parts
            ((is_within queues k.ranges (without_sign i vx) (index_for i (plus (get_or k.shares i no_share).own d))
            || is_cut (queues i) vx (plus (get_or k.shares i no_share).own d)) && is_same 0
            (plus d (minus (get_or k.shares i no_share).owned d)) (get_or k.shares i no_share).owned)
            (fits_in (most k.ranges d) (Some ((queues i).modulus - 1))) p1.0 in
            let p3 =
            and_parts (is_within queues k.ranges (without_sign i vx) (index_for i (plus (get_or k.shares i no_share).own d))
            || is_cut (queues i) vx (plus (get_or k.shares i no_share).own d))
            (is_same 0 (plus d (minus (get_or k.shares i no_share).owned d)) (get_or k.shares i no_share).owned)
            p2.0 in
            let most-d : form_value d xs ≤ (queues i).modulus - 1 =
            fits-below (most k.ranges d) (Some ((queues i).modulus - 1)) (form_value d xs) p2.1
            (λ n is. value-below k.ranges d xs n means.ranges is) in
            let one : 1 ≤ (queues i).modulus = (fine i less).0.words in
            subst (λ j. Stored (queues i) (fine i less).0 p (cs i) xs (get_or k.shares i no_share)
            (means.shares i less p mine) w (get_or (shares_moved k.shares d j) i no_share))
            (sym (just-is move i just))
            (subst (Stored (queues i) (fine i less).0 p (cs i) xs (get_or k.shares i no_share) (means.shares i less p mine) w)
            (sym (set-share k.shares d i (ltb-true i (length k.shares) p1.1)))
            (moves-on (queues i) (fine i less).0 p (cs i) xs (get_or k.shares i no_share)
            (means.shares i less p mine) w d here.1 here.2
            (moved-word i less (plus (get_or k.shares i no_share).own d) here.2 p3.0) p3.1
            (omega (arith, most-d, one))))
        by false other ok = subst (Stored (queues i) (fine i less).0 p (cs i) xs (get_or k.shares i no_share) (means.shares i less p mine) w)
            (sym (left-share k.shares d move i other))
            (elim (or_cases (is_off (queues i) b (store_width op)) (may_fill queues k (party_of (queues i) h) place (store_width op) i) ok) [
              | inl off ↦ stays-off (queues i) (fine i less).0 p (cs i) xs (get_or k.shares i no_share)
                  (means.shares i less p mine) w (keeps-off (queues i) b (store_width op) a (stored op x) off low high)
              | inr fill ↦ filled (subst (λ t. may_fill queues k t place (store_width op) i ≡ true)
                  (hart-party (queues i) (fine i less).0 h p mine) fill)
            ])
          where
            filled : is_owned k.ranges (queues i) (get_or k.shares i no_share) place (store_width op) ≡ true
                → Stored (queues i) (fine i less).0 p (cs i) xs (get_or k.shares i no_share) (means.shares i less p mine) w (get_or k.shares i no_share)
            filled ok = stays-filled (queues i) (fine i less).0 p (cs i) xs (get_or k.shares i no_share)
                (means.shares i less p mine) queues k.ranges means.ranges place a (store_width op) (stored op x)
                at-place ok

    store-keeps : (i : ℕ) → i < N → KeepsAccess (queues i) (party_of (queues i) h) (cs i) (store w)
    store-keeps i less = by (whose (queues i).sender (queues i).receiver h)
      where
        by : Whose (queues i).sender (queues i).receiver h → KeepsAccess (queues i) (party_of (queues i) h) (cs i) (store w)
        by (is_party r at of) = subst (λ t. KeepsAccess (queues i) t (cs i) (store w)) (sym of) (party-store i less r at).may
        by (is_third far none) = subst (λ t. KeepsAccess (queues i) t (cs i) (store w)) (sym none)
            (at (is_just move i) refl (at-below N (may_store queues h k d vx place b (store_width op) move) may i less))
          where
            at : (t : Bool) → is_just move i ≡ t
                → (if t then may_move queues k d vx i (get_or k.shares i no_share) else
                (is_off (queues i) b (store_width op) || may_fill queues k (party_of (queues i) h)
                place (store_width op) i)) ≡ true
                → KeepsOff (queues i) w
            at true just ok = absurd (
                let f = found-below N (is_own_index queues h b (store_width op)) i (found ∙ just-is move i just) in
                let parts = and_parts (is_one b) (is_whole (queues i) (party_of (queues i) h) (λ p. p) b.low (store_width op)) f.1 in
                let w = whole-index (queues i) (party_of (queues i) h) (λ p. p) b.low (store_width op) parts.1 in
                far w.party (party-hart (queues i) (fine i less).0 h w.party w.is))
            at false other ok = elim (or_cases (is_off (queues i) b (store_width op))
                (may_fill queues k (party_of (queues i) h) place (store_width op) i) ok) [
                  | inl off ↦ keeps-off (queues i) b (store_width op) a (stored op x) off low high
                  | inr fill ↦ absurd (let no : false ≡ true = subst (λ t. may_fill queues k t place (store_width op) i ≡ true) none fill in cc)
                ]

    store-apart : (g y : ℕ) → g ≢ h → (j : ℕ) → j < length (own_of g) → (own_at (own_of g) j).at ≤ y
        → y < (own_at (own_of g) j).at + (own_at (own_of g) j).width → covers w y ≡ false
    store-apart g y far j less from to = elim (cases_lt g H) [
      | inr beyond ↦ absurd (let none : length (own_of g) ≡ 0 = past g beyond in omega (arith, none, less))
      | inl listed ↦ elim (or_cases (g == h)
          (all_below (length (own_of g)) (λ j. is_apart b (store_width op) (own_at (own_of g) j).at (own_at (own_of g) j).width))
          (at-below H (leaves_words own_of h b (store_width op)) leaves g listed)) [
            | inl same ↦ absurd (far (eqb-true g h same))
            | inr all ↦ apart-from b (store_width op) a (own_at (own_of g) j).at (own_at (own_of g) j).width y (stored op x)
                (at-below (length (own_of g)) (λ j. is_apart b (store_width op) (own_at (own_of g) j).at (own_at (own_of g) j).width) all j less)
                low high from to
          ]
    ]

    word-then : (own : OwnWord) (u : KnownValue) → Has queues xs u (own_number m own)
        → Has queues xs (word_then queues N k.ranges b (store_width op) vx own u) (own_number (view_then (store w) m) own)
    word-then own u has = by (is_apart b (store_width op) own.at own.width) refl
      where
        at : (t : Bool) → (is_one b && (b.low == own.at) && (store_width op == own.width)) ≡ t
            → Has queues xs (if t then stored_value queues N k.ranges (store_width op) vx else any) (own_number (view_then (store w) m) own)
        at false other = tt
        at true ok =
            let parts = and_parts (is_one b && (b.low == own.at)) (store_width op == own.width) ok in
            let front = and_parts (is_one b) (b.low == own.at) parts.0 in
            let place : a ≡ own.at = one-place b a front.0 low high ∙ eqb-true b.low own.at front.1 in
            let wide : store_width op ≡ own.width = eqb-true (store_width op) own.width parts.1 in
            subst (Has queues xs (stored_value queues N k.ranges (store_width op) vx))
            (sym (ap (number_seen (view_then (store w) m) own.at) (sym wide) ∙ ap (λ n. number_seen (view_then (store w) m) n (store_width op)) (sym place)
            ∙ written-number m (view_then (store w) m) a (store_width op) (stored op x) (λ y. refl) ∙ stored-part op x))
            (stored-has op x vx has-x)

        by : (t : Bool) → is_apart b (store_width op) own.at own.width ≡ t
            → Has queues xs (if t then u else
            (if is_one b && (b.low == own.at) && (store_width op == own.width) then stored_value queues N k.ranges (store_width op) vx else any))
            (own_number (view_then (store w) m) own)
        by true off = subst (Has queues xs u) (sym (left-number m w own.at own.width
            (λ y from to. apart-from b (store_width op) a own.at own.width y (stored op x) off low high from to))) has
        by false on = at (is_one b && (b.low == own.at) && (store_width op == own.width)) refl

    words-then : (own : List OwnWord) (us : List KnownValue) → ((j : ℕ) → j < length own → Has queues xs (get_or us j any) (own_number m (own_at own j)))
        → (j : ℕ) → j < length own
        → Has queues xs (get_or (words_then queues N k.ranges b (store_width op) vx own us) j any) (own_number (view_then (store w) m) (own_at own j))
    words-then [] us all j less = absurd (omega (arith, less))
    words-then (n ∷ own) [] all j less = tt
    words-then (n ∷ own) (u ∷ us) all zero less = word-then n u (all 0 less)
    words-then (n ∷ own) (u ∷ us) all (suc j) less = words-then own us (λ j less. all (suc j) (omega (arith, less))) j (omega (arith, less))

    store-means : (z : HartState) → z.pc ≡ next_pc k.pc → z.registers ≡ s.registers
        → IsNext queues N own_of h xs (after_store queues N own_of h k d (store_width op) vx b move) z
        (view_then (store w) m) (λ i. after_access (queues i) (party_of (queues i) h) (store w) (cs i))
    store-means z at regs = (
      0,
      means-going queues N (own_of h) h xs (record k {
        words = words_then queues N k.ranges b (store_width op) vx (own_of h) k.words;
        shares = shares_moved k.shares d move;
      })
          s z (view_then (store w) m) (λ i. after_access (queues i) (party_of (queues i) h) (store w) (cs i)) (next_pc k.pc) (record {
            ranges = means.ranges;
            pc = means.pc;
            registers = means.registers;
            words = λ j less. words-then (own_of h) k.words means.words j less;
            shares =
                λ i less p mine. subst (λ t. HasShare (queues i) p (after_access (queues i) t (store w) (cs i)) xs
                (get_or (shares_moved k.shares d move) i no_share))
                (sym (hart-party (queues i) (fine i less).0 h p mine)) (party-store i less p mine).share;
          }) at regs,
    )

  store-goes : (past : (g : ℕ) → H ≤ g → length (own_of g) ≡ 0) (d : Form) (op : StoreOp) (rs1 rs2 : Reg)
      (offset : ℤ) (ks : List KnownState) → IsAt s (Store op rs1 rs2 offset)
      → storing queues N own_of H h k d (store_width op) (register_at k rs2)
      (address_value queues k rs1 offset) (addresses queues k rs1 offset) ≡ Some ks
      → Goes queues N own_of h owns xs ks m cs (access_of e) (advanced s v)
  store-goes past d op rs1 rs2 offset ks here found =
      by (last_below N (is_own_index queues h (addresses queues k rs1 offset) (store_width op)))
      refl _ refl found
    where
      by : (move : Option ℕ) → last_below N (is_own_index queues h (addresses queues k rs1 offset) (store_width op)) ≡ move
          → (t : Bool) → (all_below N
          (may_store queues h k d (register_at k rs2) (address_value queues k rs1 offset)
          (addresses queues k rs1 offset) (store_width op) move)
          && all_below H (leaves_words own_of h (addresses queues k rs1 offset) (store_width op))) ≡ t
          → (if t then Some (after_store queues N own_of h k d (store_width op) (register_at k rs2)
          (addresses queues k rs1 offset) move ∷ []) else None) ≡ Some ks
          → Goes queues N own_of h owns xs ks m cs (access_of e) (advanced s v)
      by move is false ok found = absurd (cc)
      by move is true ok found = access-goes ks (store_width op) (address (register_value s.registers rs1) offset)
          (need.Store (address (register_value s.registers rs1) offset) (store_width op) (stored op (register_value s.registers rs2))) (need_at here) (λ needs.
          (let n : Need = need.Store (address (register_value s.registers rs1) offset) (store_width op) (stored op (register_value s.registers rs2)) in
          let p = points rs1 offset in
          let checks = and_parts (all_below N
          (may_store queues h k d (register_at k rs2) (address_value queues k rs1 offset)
          (addresses queues k rs1 offset) (store_width op) move))
          (all_below H (leaves_words own_of h (addresses queues k rs1 offset) (store_width op))) ok in
          subst (λ y. Goes queues N own_of h owns xs ks m cs y (advanced s v)) (sym (access-is n needs))
          (subst (λ z. Goes queues N own_of h owns xs ks m cs
          (store (write (address (register_value s.registers rs1) offset) (store_width op)
          (stored op (register_value s.registers rs2)))) z)
          (sym (after-at here n needs tt v)) (record {
            next = λ runs. subst (λ ts. IsAmong queues N own_of h xs ts (after_instruction s v (Store op rs1 rs2 offset))
                (view_then (store (write (address (register_value s.registers rs1) offset) (store_width op) (stored op (register_value s.registers rs2)))) m)
                (λ i. after_access (queues i) (party_of (queues i) h)
                (store (write (address (register_value s.registers rs1) offset) (store_width op)
                (stored op (register_value s.registers rs2)))) (cs i)))
                (let e : after_store queues N own_of h k d (store_width op) (register_at k rs2)
                (addresses queues k rs1 offset) move ∷ [] ≡ ks =
                cc in
                e)
                (inl (store-means d op (address (register_value s.registers rs1) offset)
                (register_value s.registers rs2) (register_at k rs2)
                (address_value queues k rs1 offset) (addresses queues k rs1 offset) move (address-has rs1 offset) p.0 p.1
                (register-has rs2) is checks.0 checks.1 past (after_instruction s v (Store op rs1 rs2 offset)) (ap next_pc means.pc) refl));
            keeps = store-keeps d op (address (register_value s.registers rs1) offset)
                (register_value s.registers rs2) (register_at k rs2) (address_value queues k rs1 offset)
                (addresses queues k rs1 offset) move (address-has rs1 offset) p.0 p.1
                (register-has rs2) is checks.0 checks.1 past;
            apart = store-apart d op (address (register_value s.registers rs1) offset)
                (register_value s.registers rs2) (register_at k rs2) (address_value queues k rs1 offset)
                (addresses queues k rs1 offset) move (address-has rs1 offset) p.0 p.1
                (register-has rs2) is checks.0 checks.1 past;
            loads = λ i less ok p mine. tt;
          }))))

  -- ---- AMOs

  exchange-counts : (q : Queue) (t : Option Party) (b : Bounds) (a old new : ℕ) (c : QueueCounts) → misses q t b 4 ≡ true → b.low ≤ a → a ≤ b.high
      → after_access q t (exchange a old new) c ≡ after_access q t (store (write a 4 new)) c
  exchange-counts q None b a old new c off low high = refl
  exchange-counts q (Some p) b a old new c off low high =
      ap (λ d. after_access q (Some p) (store (write a 4 new)) d) (missed q (Some p) b a 4 old c off low high)

  exchange-keeps : (q : Queue) (t : Option Party) (b : Bounds) (a old new : ℕ) (c : QueueCounts) → misses q t b 4 ≡ true → b.low ≤ a → a ≤ b.high
      → KeepsAccess q t c (store (write a 4 new)) → KeepsAccess q t c (exchange a old new)
  exchange-keeps q None b a old new c off low high may = inr may
  exchange-keeps q (Some p) b a old new c off low high may = inr
      (subst (λ d. KeepsAccess q (Some p) d (store (write a 4 new))) (sym (missed q (Some p) b a 4 old c off low high))
      may)

  pub updated-has : (op : AmoOp) (u w : KnownValue) (old x : ℕ) → Has queues xs u old → Has queues xs w x
      → Has queues xs (updated_value queues k.ranges op u w) (updated op old x)
  updated-has amo.Swap u w old x one two = two
  updated-has amo.Add u w old x one two = sum-has queues xs (plain queues k.ranges u) (plain queues k.ranges w) old
      x (has-plain queues k.ranges xs means.ranges u old one) (has-plain queues k.ranges xs means.ranges w x two)
  updated-has other u w old x one two = tt

  amo-goes : (past : (g : ℕ) → H ≤ g → length (own_of g) ≡ 0) (d : Form) (op : AmoOp) (rd rs1 rs2 : Reg)
      (aq rl : Bool) (ks : List KnownState) → IsAt s (Amo op rd rs1 rs2 aq rl)
      → exchanging queues N own_of H h k d op rd.number (register_at k rs2) (operand queues k rs1)
      (bounds k.ranges (operand queues k rs1)) ≡ Some ks
      → Goes queues N own_of h owns xs ks m cs (access_of e) (advanced s v)
  amo-goes past d op rd rs1 rs2 aq rl ks here found = by (bounds k.ranges (operand queues k rs1)) refl found
    where
      a : ℕ
      a = register_value s.registers rs1

      with' : ℕ
      with' = register_value s.registers rs2

      vx : Bounds → KnownValue
      vx b = updated_value queues k.ranges op (value_loaded queues N own_of h k b 4) (register_at k rs2)

      go : (b : Bounds) → bounds k.ranges (operand queues k rs1) ≡ Some b → (move : Option ℕ)
          → last_below N (is_own_index queues h b 4) ≡ move
          → (t : Bool) → (all_below N (may_store queues h k d
          (updated_value queues k.ranges op (value_loaded queues N own_of h k b 4)
          (register_at k rs2)) (operand queues k rs1) b 4 move)
          && all_below H (leaves_words own_of h b 4) && all_below N (λ i. misses (queues i) (party_of (queues i) h) b 4)) ≡ t
          → (if t then Some (after_exchange queues N own_of h k d rd.number
          (updated_value queues k.ranges op (value_loaded queues N own_of h k b 4)
          (register_at k rs2)) b move ∷ []) else None) ≡ Some ks
          → Goes queues N own_of h owns xs ks m cs (access_of e) (advanced s v)
      go b is move at false ok found = absurd (cc)
      go b is move at true ok found = access-goes ks 4 (register_value s.registers rs1)
          (need.Amo (register_value s.registers rs1) op (register_value s.registers rs2)) (need_at here) (λ needs.
          (let p = has-bounds queues k.ranges xs (operand queues k rs1) (register_value s.registers rs1) b means.ranges is (operand-has rs1) in
          let n : Need = need.Amo (register_value s.registers rs1) op (register_value s.registers rs2) in
          let new : ℕ = updated op v (register_value s.registers rs2) in
          let access : access_of e ≡ exchange (register_value s.registers rs1) v (updated op v (register_value s.registers rs2)) = access-is n needs in
          let read : v ≡ number_seen m (register_value s.registers rs1) 4 = subst (ReadsFrom m) access acts.reads in
          let u : KnownValue = value_loaded queues N own_of h k b 4 in
          let loaded : Has queues xs (value_loaded queues N own_of h k b 4) v = value-loaded b 4 (register_value s.registers rs1) v p.0 p.1 read in
          let written-value : KnownValue = updated_value queues k.ranges op (value_loaded queues N own_of h k b 4) (register_at k rs2) in
          let has-new : Has queues xs
          (updated_value queues k.ranges op (value_loaded queues N own_of h k b 4)
          (register_at k rs2)) (updated op v (register_value s.registers rs2)) =
          updated-has op (value_loaded queues N own_of h k b 4) (register_at k rs2) v (register_value s.registers rs2) loaded (register-has rs2) in
          let c2 = and_parts (all_below N (may_store queues h k d
          (updated_value queues k.ranges op (value_loaded queues N own_of h k b 4)
          (register_at k rs2)) (operand queues k rs1) b 4 move)
          && all_below H (leaves_words own_of h b 4)) (all_below N (λ i. misses (queues i) (party_of (queues i) h) b 4)) ok in
          let c1 = and_parts (all_below N (may_store queues h k d
          (updated_value queues k.ranges op (value_loaded queues N own_of h k b 4)
          (register_at k rs2)) (operand queues k rs1) b 4 move))
          (all_below H (leaves_words own_of h b 4)) c2.0 in
          let off : (i : ℕ) → i < N → misses (queues i) (party_of (queues i) h) b 4 ≡ true =
          λ i less. at-below N (λ i. misses (queues i) (party_of (queues i) h) b 4) c2.1 i less in
          subst (λ y. Goes queues N own_of h owns xs ks m cs y (advanced s v)) (sym access)
          (subst (λ z. Goes queues N own_of h owns xs ks m cs
          (exchange (register_value s.registers rs1) v (updated op v (register_value s.registers rs2))) z)
          (sym (after-at here n needs tt v)) (record {
            next = λ runs. subst (λ ts. IsAmong queues N own_of h xs ts (after_instruction s v (Amo op rd rs1 rs2 aq rl))
                (view_then (exchange (register_value s.registers rs1) v (updated op v (register_value s.registers rs2))) m)
                (λ i. after_access (queues i) (party_of (queues i) h) (exchange (register_value s.registers rs1) v
                (updated op v (register_value s.registers rs2))) (cs i)))
                (let e : after_exchange queues N own_of h k d rd.number
                (updated_value queues k.ranges op (value_loaded queues N own_of h k b 4)
                (register_at k rs2)) b move ∷ [] ≡ ks =
                cc in
                e)
                (inl (exchange-means b move is at p.0 p.1 loaded has-new c1.0 c1.1 off));
            keeps = λ i less. exchange-keeps (queues i) (party_of (queues i) h) b (register_value s.registers rs1) v
                (updated op v (register_value s.registers rs2)) (cs i) (off i less) p.0 p.1
                (store-keeps d store_op.Word (register_value s.registers rs1) (updated op v (register_value s.registers rs2))
                (updated_value queues k.ranges op (value_loaded queues N own_of h k b 4)
                (register_at k rs2)) (operand queues k rs1) b move (operand-has rs1) p.0 p.1 has-new
                at c1.0 c1.1 past i less);
            apart = λ g y far j less from to. inr (store-apart d store_op.Word (register_value s.registers rs1) (updated op v (register_value s.registers rs2))
                (updated_value queues k.ranges op (value_loaded queues N own_of h k b 4)
                (register_at k rs2)) (operand queues k rs1) b move (operand-has rs1) p.0 p.1 has-new
                at c1.0 c1.1 past g y far j less from to);
            loads = λ i less own p-of mine. reads-owns (operand queues k rs1) b 4 (register_value s.registers rs1) (operand-has rs1) p.0 p.1 i less
                (subst (λ z. reads_owned queues k i (operand queues k rs1) (anywhere z) 4 ≡ true) is
                (subst (λ t. loads_owned queues k i t ≡ true) (said-at (Amo op rd rs1 rs2 aq rl) here) own)) p-of mine;
          }))))
        where
          exchange-means : (b : Bounds) (move : Option ℕ)
              → bounds k.ranges (operand queues k rs1) ≡ Some b
              → last_below N (is_own_index queues h b 4) ≡ move
              → b.low ≤ register_value s.registers rs1 → register_value s.registers rs1 ≤ b.high → Has queues xs (value_loaded queues N own_of h k b 4) v
              → Has queues xs
              (updated_value queues k.ranges op (value_loaded queues N own_of h k b 4)
              (register_at k rs2)) (updated op v (register_value s.registers rs2))
              → all_below N (may_store queues h k d
              (updated_value queues k.ranges op (value_loaded queues N own_of h k b 4)
              (register_at k rs2)) (operand queues k rs1) b 4 move) ≡ true
              → all_below H (leaves_words own_of h b 4) ≡ true
              → ((i : ℕ) → i < N → misses (queues i) (party_of (queues i) h) b 4 ≡ true)
              → IsNext queues N own_of h xs (after_exchange queues N own_of h k d rd.number
              (updated_value queues k.ranges op (value_loaded queues N own_of h k b 4)
              (register_at k rs2)) b move)
              (after_instruction s v (Amo op rd rs1 rs2 aq rl)) (view_then
              (store (write (register_value s.registers rs1) 4 (updated op v (register_value s.registers rs2)))) m)
              (λ i. after_access (queues i) (party_of (queues i) h)
              (exchange (register_value s.registers rs1) v (updated op v (register_value s.registers rs2))) (cs i))
          exchange-means b move is at low high loaded has-new may leaves off =
              let g = just-gives queues xs (value_loaded queues N own_of h k b 4) v loaded in
              let r : Result = just (value_loaded queues N own_of h k b 4) in
              let vx : KnownValue = updated_value queues k.ranges op (value_loaded queues N own_of h k b 4) (register_at k rs2) in
              let a : ℕ = register_value s.registers rs1 in
              let new : ℕ = updated op v (register_value s.registers rs2) in (
                g.0,
                means-result queues N (own_of h) h xs (record k {
                  words = words_then queues N k.ranges b 4 vx (own_of h) k.words;
                  shares = shares_moved k.shares d move;
                })
                    s (after_instruction s v (Amo op rd rs1 rs2 aq rl)) (view_then (store (write a 4 new)) m)
                    (λ i. after_access (queues i) (party_of (queues i) h) (exchange a v new) (cs i))
                    rd.number (next_pc k.pc) v r (record {
                      ranges = means.ranges;
                      pc = means.pc;
                      registers = means.registers;
                      words =
                          λ j less. words-then d store_op.Word a new vx (operand queues k rs1) b move
                          (operand-has rs1) low high has-new at may leaves past (own_of h) k.words means.words j less;
                      shares = λ i less p mine. subst (λ c. HasShare (queues i) p c xs (get_or (shares_moved k.shares d move) i no_share))
                          (sym (exchange-counts (queues i) (party_of (queues i) h) b a v new (cs i) (off i less) low high))
                          (subst
                          (λ t. HasShare (queues i) p (after_access (queues i) t (store (write a 4 new)) (cs i)) xs
                          (get_or (shares_moved k.shares d move) i no_share))
                          (sym (hart-party (queues i) (fine i less).0 h p mine))
                          (party-store d store_op.Word a new vx (operand queues k rs1) b move
                          (operand-has rs1) low high has-new at may leaves past i less p mine).share);
                    }) (omega (arith, size, rd.below_32)) g.0 g.1 g.2 (ap next_pc means.pc) refl,
              )

      by : (o : Option Bounds) → bounds k.ranges (operand queues k rs1) ≡ o
          → exchanging queues N own_of H h k d op rd.number (register_at k rs2) (operand queues k rs1)
          o ≡ Some ks → Goes queues N own_of h owns xs ks m cs (access_of e) (advanced s v)
      by None is found = absurd (cc)
      by (Some b) is found = go b is (last_below N (is_own_index queues h b 4)) refl _ refl found

  -- ---- any instruction

  exact-goes : (ks : List KnownState) (i : Instr) (rd : Reg) (pc x : ℕ) (r : Result) → Gives queues xs r x → (after_instruction s v i).pc ≡ pc
      → (after_instruction s v i).registers ≡ written_at s.registers rd.number x
      → ◌≡◌ {A = Option (List KnownState)} (Some (with_result k rd.number pc r ∷ [])) (Some ks)
      → IsAmong queues N own_of h xs ks (after_instruction s v i) m cs
  exact-goes ks i rd pc x r gives at regs is = subst (λ ts. IsAmong queues N own_of h xs ts (after_instruction s v i) m cs)
      (let e : with_result k rd.number pc r ∷ [] ≡ ks = cc in e) (result-means rd pc x r (after_instruction s v i) gives at regs)

  going-goes : (ks : List KnownState) (i : Instr) (pc : ℕ) → (after_instruction s v i).pc ≡ pc → (after_instruction s v i).registers ≡ s.registers
      → ◌≡◌ {A = Option (List KnownState)} (Some (going_to k pc ∷ [])) (Some ks) → IsAmong queues N own_of h xs ks (after_instruction s v i) m cs
  going-goes ks i pc at regs is = subst (λ ts. IsAmong queues N own_of h xs ts (after_instruction s v i) m cs)
      (let e : going_to k pc ∷ [] ≡ ks = cc in e) (inl (going-means pc (after_instruction s v i) at regs))

  jalr-goes : (rd rs1 : Reg) (offset : ℤ) (ks : List KnownState) → IsAt s (Jalr rd rs1 offset)
      → jumping k rd.number offset (as_number (operand queues k rs1)) ≡ Some ks
      → Goes queues N own_of h owns xs ks m cs (access_of e) (advanced s v)
  jalr-goes rd rs1 offset ks here found = by (as_number (operand queues k rs1)) refl found
    where
      by : (a : Option ℕ) → as_number (operand queues k rs1) ≡ a → jumping k rd.number offset a ≡ Some ks
          → Goes queues N own_of h owns xs ks m cs (access_of e) (advanced s v)
      by None is found = absurd (cc)
      by (Some a) is found = jump-goes ks (Jalr rd rs1 offset) (address (register_value s.registers rs1) offset / 2 * 2) here (need_at here)
          (exact-goes ks (Jalr rd rs1 offset) rd (address a offset / 2 * 2) (next_pc s.pc) (exactly (next_pc k.pc))
          (exactly-gives queues xs (next_pc k.pc) (next_pc s.pc) (ap next_pc means.pc))
          (ap (λ x. address x offset / 2 * 2)
          (known-is queues xs (operand queues k rs1) (register_value s.registers rs1) a is
          (operand-has rs1))) refl found)

  pub instruction-goes : (past : (g : ℕ) → H ≤ g → length (own_of g) ≡ 0) (d : Form) (i : Instr)
      (ks : List KnownState) → IsAt s i → follow queues N own_of H h k d (Some i) ≡ Some ks
      → Goes queues N own_of h owns xs ks m cs (access_of e) (advanced s v)
  instruction-goes past d (Lui rd upper) ks here is = inner-goes ks (Lui rd upper) here (need_at here)
      (exact-goes ks (Lui rd upper) rd (next_pc k.pc) (upper * 2 ^ 12) (exactly (upper * 2 ^ 12))
      (exactly-gives queues xs (upper * 2 ^ 12) (upper * 2 ^ 12) refl) (ap next_pc means.pc) refl is)
  instruction-goes past d (Auipc rd upper) ks here is = inner-goes ks (Auipc rd upper) here (need_at here)
      (exact-goes ks (Auipc rd upper) rd (next_pc k.pc) ((s.pc + upper * 2 ^ 12) % 2 ^ 32) (exactly ((k.pc + upper * 2 ^ 12) % 2 ^ 32))
      (exactly-gives queues xs ((k.pc + upper * 2 ^ 12) % 2 ^ 32) ((s.pc + upper * 2 ^ 12) % 2 ^ 32)
      (ap (λ n. (n + upper * 2 ^ 12) % 2 ^ 32) means.pc)) (ap next_pc means.pc) refl is)
  instruction-goes past d (Jal rd offset) ks here is = jump-goes ks (Jal rd offset) (address s.pc offset) here (need_at here)
      (exact-goes ks (Jal rd offset) rd (address k.pc offset) (next_pc s.pc) (exactly (next_pc k.pc))
      (exactly-gives queues xs (next_pc k.pc) (next_pc s.pc) (ap next_pc means.pc))
      (ap (λ n. address n offset) means.pc) refl is)
  instruction-goes past d (Jalr rd rs1 offset) ks here is = jalr-goes rd rs1 offset ks here is
  instruction-goes past d (Branch op rs1 rs2 offset) ks here is = subst (λ ts. Goes queues N own_of h owns xs ts m cs (access_of e) (advanced s v))
      (let e : goes_by (when_taken k op rs1 rs2) (when_passed k op rs1 rs2) (address k.pc offset) (next_pc k.pc)
      (is_branch_taken queues k.ranges op (operand queues k rs1) (operand queues k rs2)) ≡ ks =
      cc in
      e) (branch-goes op rs1 rs2 offset here)
  instruction-goes past d (Load op rd rs1 offset) ks here is = load-goes op rd rs1 offset ks here is
  instruction-goes past d (Store op rs1 rs2 offset) ks here is = store-goes past d op rs1 rs2 offset ks here is
  instruction-goes past d (Immediate op rd rs1 n) ks here is = inner-goes ks (Immediate op rd rs1 n) here (need_at here)
      (exact-goes ks (Immediate op rd rs1 n) rd (next_pc k.pc)
      (with_immediate op (register_value s.registers rs1) n)
      (immediate_result queues N k op (operand queues k rs1) n)
      (immediate-result op (operand queues k rs1) (register_value s.registers rs1) n (operand-has rs1)) (ap next_pc means.pc) refl is)
  instruction-goes past d (Shift op rd rs1 amount) ks here is = inner-goes ks (Shift op rd rs1 amount) here (need_at here)
      (exact-goes ks (Shift op rd rs1 amount) rd (next_pc k.pc) (shifted op (register_value s.registers rs1) amount)
      (of_shift queues N k.ranges op (operand queues k rs1) amount)
      (shift-gives queues xs k.ranges means.ranges N op (operand queues k rs1)
      (register_value s.registers rs1) amount (operand-has rs1)) (ap next_pc means.pc) refl is)
  instruction-goes past d (Register op rd rs1 rs2) ks here is = inner-goes ks (Register op rd rs1 rs2) here (need_at here)
      (exact-goes ks (Register op rd rs1 rs2) rd (next_pc k.pc) (computed op (register_value s.registers rs1) (register_value s.registers rs2))
      (of_registers queues N k.ranges op (operand queues k rs1) (operand queues k rs2))
      (register-gives queues xs k.ranges means.ranges N op (operand queues k rs1)
      (operand queues k rs2) (register_value s.registers rs1) (register_value s.registers rs2)
      (operand-has rs1) (operand-has rs2)) (ap next_pc means.pc) refl is)
  instruction-goes past d (Fence pred succ) ks here is = plain-goes ks (Fence pred succ) (need.Fence (is_full pred succ)) here (need_at here) tt tt
      (going-goes ks (Fence pred succ) (next_pc k.pc) (ap next_pc means.pc) refl is)
  instruction-goes past d FenceTso ks here is = plain-goes ks FenceTso (need.Fence false) here (need_at here) tt tt
      (going-goes ks FenceTso (next_pc k.pc) (ap next_pc means.pc) refl is)
  instruction-goes past d Ecall ks here is =
      subst (λ ts. Goes queues N own_of h owns xs ts m cs (access_of e) (advanced s v))
      (let e : called_state k ∷ [] ≡ ks = cc in e) (call-goes here)
  instruction-goes past d Ebreak ks here is = stop-goes ks stop.Break (need_at here)
  instruction-goes past d (Amo op rd rs1 rs2 aq rl) ks here is = amo-goes past d op rd rs1 rs2 aq rl ks here is

  pub state-goes : (past : (g : ℕ) → H ≤ g → length (own_of g) ≡ 0) (d : Form) (ks : List KnownState)
      → follow queues N own_of H h k d (instruction_at s.code k.pc) ≡ Some ks
      → Goes queues N own_of h owns xs ks m cs (access_of e) (advanced s v)
  state-goes past d ks is = by (nat_lt s.pc (4 * length s.code)) refl
      (subst (λ n. follow queues N own_of H h k d (instruction_at s.code n) ≡ Some ks) (sym means.pc) is)
    where
      by : (t : Bool) → nat_lt s.pc (4 * length s.code) ≡ t
          → follow queues N own_of H h k d (if t then meaning (slice_index s.code (s.pc / 4)) else None) ≡ Some ks
          → Goes queues N own_of h owns xs ks m cs (access_of e) (advanced s v)
      by false out is = stop-goes ks stop.NoCode (no-code s out)
      by true within is = says (meaning (slice_index s.code (s.pc / 4))) refl is
        where
          says : (i : Option Instr) → meaning (slice_index s.code (s.pc / 4)) ≡ i
              → follow queues N own_of H h k d i ≡ Some ks
              → Goes queues N own_of h owns xs ks m cs (access_of e) (advanced s v)
          says None nothing-said is = stop-goes ks stop.Illegal (illegal s (ltb-true s.pc (4 * length s.code) within) nothing-said)
          says (Some i) said is = instruction-goes past d i ks (record { inside = ltb-true s.pc (4 * length s.code) within; says = said }) is
