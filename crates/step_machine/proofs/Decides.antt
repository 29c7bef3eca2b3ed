-- What a machine that holds what its history says answers is the outcome that the history allows.
use Rattle.std.proofs.Common.{◌≡◌, ℕ, ◌+◌, ◌*◌, ◌<◌, Bool, true, false, not, ◌&&◌, List, [], ◌∷◌, length, None, refl, ap, subst, arith}
use Rattle.std.specs.Prelude.{nat_lt, unwrap_or}
use Rattle.std.proofs.lemmas.Bool.{eqb-true, eq-eqb}
use Rattle.std.proofs.lemmas.Bool.Decides.{nat_tests}
use Rattle.memory.specs.Writes.{newest_of, joined}
use Rattle.memory.proofs.Bytes.{joined-same}
use Rattle.hart.specs.{HartState, need_of, updated}
use Rattle.rv_decode.specs.declared.instruction.AmoOp.{AmoOp}
use Rattle.hart.specs.declared.need.Need.{Need}
use Rattle.hart.specs.declared.need.Need.TheVariants as need
use Rattle.hart.specs.declared.need.Report.TheVariants as report
use Rattle.hart.proofs.Needs.{IsTrueOf, need_is_true}
use Rattle.step_machine.specs.Names.{Entry, Outcome, OpeningValue, History, hart_of, is_land, pending, memory_byte, memory_word, read_byte, read, Allowed, Does}
use Rattle.step_machine.specs.Names.{IsPlace, IsInRange, Stored, buffer_of, word_at, found_byte, found, is_empty, if_waits, outcome_for, StoresRepresent}
use Rattle.step_machine.specs.declared.events.Entry.TheVariants as entry
use Rattle.step_machine.specs.declared.events.Outcome.TheVariants as outcome
use Rattle.step_machine.specs.Paths.{entry_of, number_read}
use Rattle.memory.specs.declared.writes.Write.{Write}

in_range_true : (s : HartState) (n : Need) → IsTrueOf s n → IsInRange s.words n
in_range_true s n is = grind arith

pub need_of-in_range : (M : ℕ) (s : HartState) → s.words ≡ M → IsInRange M (need_of s)
need_of-in_range M s words = subst (λ (m : ℕ). IsInRange m (need_of s)) words (in_range_true s (need_of s) (need_is_true s))

-- the outcome of an act of a running hart that needs n: the one entry that does it, or waiting
-- because none can
abbrev pub Decided : ℕ → History → ℕ → Need → Outcome → Type 0
Decided B t h n (outcome.Did e) = (hart_of e ≡ h) × (is_land e ≡ false) × Does B t h n e × ((d : Entry) → Does B t h n d → d ≡ e)
Decided B t h n outcome.Waited = (d : Entry) → Does B t h n d → ⊥
Decided B t h n other = ⊥

-- what an act sees of memory and of its own buffer
pub record Sees (M : ℕ) (t : History) (c : Stored) (h : ℕ) : Type 0 where
  pub buffer : buffer_of c h ≡ pending h t.entries
  pub finds : (a width : ℕ) → IsPlace M width a → found c h a width ≡ read t.opening t.entries h a width
  pub words : (a : ℕ) → IsPlace M 4 a → word_at c a ≡ memory_word t.opening t.entries a

found_byte-read : (M : ℕ) (t : History) (c : Stored) (h x : ℕ) → StoresRepresent M t c → x < 4 * M → found_byte c h x ≡ read_byte t.opening t.entries h x
found_byte-read M t c h x tied below = grind arith

pub StoresRepresent-sees : (M : ℕ) (t : History) (c : Stored) (h : ℕ) → StoresRepresent M t c → Sees M t c h
StoresRepresent-sees M t c h tied = grind (arith, joined-same, found_byte-read)

is_empty-nil : (ps : List Write) → is_empty ps ≡ true → ps ≡ []
is_empty-nil [] e = refl
is_empty-nil (p ∷ ps) e = let none : length (p ∷ ps) ≡ 0 = eqb-true (length (p ∷ ps)) 0 e in absurd (omega arith)

nil-is_empty : (ps : List Write) → ps ≡ [] → is_empty ps ≡ true
nil-is_empty ps e = eq-eqb (length ps) 0 (ap length e)

-- where nothing is pending, a hart reads memory itself
pub read-empty : (o : OpeningValue) (es : List Entry) (h a : ℕ) → pending h es ≡ [] → read o es h a 4 ≡ memory_word o es a
read-empty o es h a e = ap (λ ws. joined (λ i. unwrap_or (newest_of (a + i) None ws) (memory_byte o es (a + i))) 4) e

-- an entry that is the only one, whatever it read
alone : (B : ℕ) (t : History) (h : ℕ) (n : Need) (e : Entry) → hart_of e ≡ h → is_land e ≡ false
    → e ≡ entry_of h n (number_read e) → Allowed B t.opening t.entries e
    → ((d : Entry) → d ≡ entry_of h n (number_read d) → d ≡ e) → Decided B t h n (outcome.Did e)
alone B t h n e mine act made allowed only = (mine, act, record { made = made; allowed = allowed }, λ d does. only d does.made)

decided_load : (B M : ℕ) (t : History) (c : Stored) (h a width : ℕ) → Sees M t c h → IsPlace M width a
    → Decided B t h (need.Load a width) (outcome.Did (entry.Load h a width (found c h a width)))
decided_load B M t c h a width sees is = grind arith

decided_store : (B M : ℕ) (t : History) (c : Stored) (h a width w : ℕ) (b : Bool) → Sees M t c h
    → nat_lt (length (buffer_of c h)) B ≡ b
    → Decided B t h (need.Store a width w) (if_waits (not b) (entry.Store h a width w))
decided_store B M t c h a width w b sees is = grind (arith, nat_tests, alone)

decided_amo : (B M : ℕ) (t : History) (c : Stored) (h a : ℕ) (op : AmoOp) (rs2 : ℕ) (b : Bool) → Sees M t c h
    → IsPlace M 4 a → is_empty (buffer_of c h) ≡ b
    → Decided B t h (need.Amo a op rs2) (if_waits (not b) (entry.Amo h a (word_at c a) (updated op (word_at c a) rs2)))
decided_amo B M t c h a op rs2 b sees is h11 = grind (arith, is_empty-nil, read-empty, nil-is_empty)

decided_fence : (B M : ℕ) (t : History) (c : Stored) (h : ℕ) (full b : Bool) → Sees M t c h
    → is_empty (buffer_of c h) ≡ b → Decided B t h (need.Fence full) (if_waits (full && not b) (entry.Fence h full))
decided_fence B M t c h full b sees is = grind (arith, alone, is_empty-nil, nil-is_empty)

-- what a running hart's act answers is decided
pub outcome_for-decided : (B M : ℕ) (t : History) (c : Stored) (h : ℕ) (n : Need) → Sees M t c h → IsInRange M n → Decided B t h n (outcome_for B c h n)
outcome_for-decided B M t c h (need.Load a width) sees is = decided_load B M t c h a width sees is
outcome_for-decided B M t c h (need.Store a width w) sees is = decided_store B M t c h a width w (nat_lt (length (buffer_of c h)) B) sees refl
outcome_for-decided B M t c h (need.Amo a op rs2) sees is = decided_amo B M t c h a op rs2 (is_empty (buffer_of c h)) sees is refl
outcome_for-decided B M t c h (need.Fence full) sees is = decided_fence B M t c h full (is_empty (buffer_of c h)) sees refl
outcome_for-decided B M t c h (need.Report (report.Took i w)) sees is =
    alone B t h (need.Report (report.Took i w)) (entry.Took h i w) refl refl refl tt (λ d made. made)
outcome_for-decided B M t c h (need.Report (report.Closed i)) sees is =
    alone B t h (need.Report (report.Closed i)) (entry.Closed h i) refl refl refl tt (λ d made. made)
outcome_for-decided B M t c h other sees is = alone B t h other (entry_of h other 0) refl refl refl tt (λ d made. made)
