-- What RVWMO with Ztso asks of a global memory order over a trace's operations (RISC-V Unprivileged
-- ISA, chapters RVWMO and Ztso). The order is a list of places; there is no buffer in it and no memory.
use Rattle.std.specs.Prelude.{ℕ, suc, ◌+◌, ◌≡◌, ◌==◌, Bool, not, ◌&&◌, ◌||◌, if◌then◌else◌, nat_lt, IsTrue, List, [], ◌∷◌, drop, take, filter, Some, unwrap_or}
use Rattle.std.specs.List.{list_any}
use Rattle.step_machine.specs.Entries.{hart_of, opening_byte}
use Rattle.memory.specs.Writes.{joined}
use Rattle.step_machine.specs.History.{OpeningValue, History}
use Rattle.step_machine.specs.declared.events.Entry.{Entry}
use Rattle.ztso_axioms.specs.Operations.{is_load, is_store, is_amo, is_full_fence, is_operation, is_at, hart_at, read_at, written_at}

-- how often a list names a place
abbrev pub times_named : ℕ → List ℕ → ℕ
times_named p [] = 0
times_named p (g ∷ gs) = if g == p then suc (times_named p gs) else times_named p gs

-- what stands in a list before the first naming of a place
abbrev pub before_first : ℕ → List ℕ → List ℕ
before_first q [] = []
before_first q (g ∷ gs) = if g == q then [] else g ∷ before_first q gs

abbrev pub is_named : ℕ → List ℕ → Bool
is_named p gs = list_any (λ g. g == p) gs

-- p stands before q in the global memory order
abbrev pub is_before : List ℕ → ℕ → ℕ → Bool
is_before gs p q = is_named p (before_first q gs)

-- p and q are entries of one hart, and p comes first
abbrev pub in_program_order : List Entry → ℕ → ℕ → Bool
in_program_order es p q = (hart_at es p == hart_at es q) && nat_lt p q

-- an AMO or a full fence of this hart
abbrev pub is_barrier : ℕ → Entry → Bool
is_barrier h e = (is_amo e || is_full_fence e) && (hart_of e == h)

-- the hart has an AMO or a full fence after place p and before place q
abbrev pub is_fenced : List Entry → ℕ → ℕ → ℕ → Bool
is_fenced es h p q = list_any (is_barrier h) (drop (suc p) (take q es))

-- a plain store and a later plain load with nothing between them that orders them
abbrev pub may_be_reordered : List Entry → ℕ → ℕ → Bool
may_be_reordered es p q = is_at is_store es p && is_at is_load es q && not (is_fenced es (hart_at es q) p q)

-- Preserved program order under Ztso: loads are acquire-RCpc, stores release-RCpc and AMOs both, RCsc,
-- so that two operations of a hart keep program order but where a load may pass an earlier store.
abbrev pub is_preserved : List Entry → ℕ → ℕ → Bool
is_preserved es p q = is_at is_operation es p && is_at is_operation es q && in_program_order es p q && not (may_be_reordered es p q)

-- the store at p is one that the Load Value Axiom lets the read at q take its value from: it is before
-- the read in the global memory order, or in program order
abbrev pub is_seen : List Entry → List ℕ → ℕ → ℕ → Bool
is_seen es gs q p = is_before gs p q || in_program_order es p q

-- the byte of the last of these operations that writes to address a, and w where none does
abbrev pub last_written : List Entry → ℕ → ℕ → List ℕ → ℕ
last_written es a w [] = w
last_written es a w (g ∷ gs) = last_written es a (unwrap_or (written_at es a g) w) gs

-- the byte that the Load Value Axiom gives the read at q of address a, and the number of `width` bytes from there
abbrev pub byte_for : OpeningValue → List Entry → List ℕ → ℕ → ℕ → ℕ
byte_for o es gs q a = last_written es a (opening_byte o a) (filter (is_seen es gs q) gs)

abbrev pub value_for : OpeningValue → List Entry → List ℕ → ℕ → ℕ → ℕ → ℕ
value_for o es gs q a width = joined (λ i. byte_for o es gs q (a + i)) width

-- each operation is named once, and nothing else is
abbrev pub NamesEachOnce : List Entry → List ℕ → Type 0
NamesEachOnce es gs = (p : ℕ) → times_named p gs ≡ (if is_at is_operation es p then 1 else 0)

-- the global memory order keeps the preserved program order
abbrev pub KeepsProgramOrder : List Entry → List ℕ → Type 0
KeepsProgramOrder es gs = (p q : ℕ) → IsTrue (is_preserved es p q) → IsTrue (is_before gs p q)

-- a load at q, or an AMO's for its old word, has the value of the Load Value Axiom
abbrev pub HasLoadValue : OpeningValue → List Entry → List ℕ → ℕ → Type 0
HasLoadValue o es gs q = (a width v : ℕ) → read_at es q ≡ Some (a, width, v) → v ≡ value_for o es gs q a width

-- The list is a global memory order that Ztso allows for the trace. An AMO is one operation and there is
-- no LR or SC, so the Atomicity Axiom has nothing more to ask; the Progress Axiom speaks of endless runs
-- and is left out.
pub record Ztso (t : History) (gs : List ℕ) : Type 0 where
  pub operations : NamesEachOnce t.entries gs
  pub program_order : KeepsProgramOrder t.entries gs
  pub load_values : (q : ℕ) → HasLoadValue t.opening t.entries gs q
